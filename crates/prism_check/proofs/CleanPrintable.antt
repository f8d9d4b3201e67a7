-- A printable file that is written out is printable.
use Rattle.std.specs.Prelude.{ℕ, zero, suc, List, [], ◌∷◌, map, length, Bool, true, false, Option, Some, None, cond}
use Rattle.std.specs.List.{find, AllByRecursion as Each}
use Rattle.std.specs.Option.{option_map}
use Rattle.std.proofs.Common.{ap}
use Rattle.basics.specs.Each.{each_map, each_found, any_map}
use Rattle.op_trees.specs.Tree.{Truth, Number, Name as At, One, Two, Three, replaced, substituted, written_out, renamed}
use Rattle.prism_lex.specs.declared.token.TokenKind.TheVariants.{Ident}
use Rattle.prism_lex.specs.Tokens.{IsKind}
use Rattle.process_core.specs.Ready.{Name}
use Rattle.prism_tree.specs.declared.syntax.NamePair.{NamePair}
use Rattle.prism_tree.specs.Syntax.{Expression, Const, Range, Var, Label, Write, Branch, Command, Module, plain, copied, Item, Rewards, File}
use Rattle.op_trees.specs.Names.{is_called}
use Rattle.prism_flat.specs.Names.{formula_body, is_formula, unchanged, written_name, renaming, module_name, module_called, Part, copy_of, part_of}
use Rattle.prism_flat.specs.Flat.{flat_expression, flat_name, flat_range, flat_var, flat_write, flat_branch, flat_command, flat_module, flat_constant, flat_label, flat_item, flat_rewards, flat}
use Rattle.basics.specs.Options.{IfAny}
use Rattle.prism_flat.specs.Printable.{IsIdentifier, IsPrintableExpression, IsPrintableConst, IsPrintableRange, IsPrintableVar, IsPrintableFormula, IsPrintableLabel, IsPrintableWrite, IsPrintableBranch, HasWeight, AreBranches, IsPrintableCommand, IsPrintablePair, IsPrintableModule, IsPrintableItem, IsPrintableRewards, IsPrintable}

-- ---- expressions
replaced_printable : (t : Expression) (o : Option Expression) → IsPrintableExpression t → IfAny IsPrintableExpression o → IsPrintableExpression (replaced t o)
replaced_printable t None p q = p
replaced_printable t (Some b) p q = q

substituted_printable : (bodies : Name → Option Expression) → ((x : Name) → IfAny IsPrintableExpression (bodies x)) →
    (e : Expression) → IsPrintableExpression e → IsPrintableExpression (substituted bodies e)
substituted_printable bodies h (Truth at b) p = tt
substituted_printable bodies h (Number at d) p = p
substituted_printable bodies h (At at x) p = replaced_printable (At at x) (bodies x) p (h x)
substituted_printable bodies h (One at o a) p = (p.0, substituted_printable bodies h a p.1)
substituted_printable bodies h (Two at o a b) p = (p.0, substituted_printable bodies h a p.1, substituted_printable bodies h b p.2)
substituted_printable bodies h (Three at o a b c) p =
    (p.0, substituted_printable bodies h a p.1, substituted_printable bodies h b p.2, substituted_printable bodies h c p.3)

written_out_printable : (bodies : Name → Option Expression) → ((x : Name) → IfAny IsPrintableExpression (bodies x)) →
    (n : ℕ) (e : Expression) → IsPrintableExpression e → IsPrintableExpression (written_out bodies n e)
written_out_printable bodies h zero e p = p
written_out_printable bodies h (suc n) e p =
    substituted_printable (λ x. option_map (written_out bodies n) (bodies x))
    (λ x. any_map IsPrintableExpression IsPrintableExpression (written_out bodies n) (written_out_printable bodies h n) (bodies x) (h x)) e p

-- a renaming by which identifiers become identifiers
abbrev KeepsIdentifiers : (Name → Name) → Type 0
KeepsIdentifiers rename = (x : Name) → IsKind x Ident → IsKind (rename x) Ident

renamed_printable : (rename : Name → Name) → KeepsIdentifiers rename → (e : Expression) → IsPrintableExpression e → IsPrintableExpression (renamed rename e)
renamed_printable rename k (Truth at b) p = tt
renamed_printable rename k (Number at d) p = p
renamed_printable rename k (At at x) p = k x p
renamed_printable rename k (One at o a) p = (p.0, renamed_printable rename k a p.1)
renamed_printable rename k (Two at o a b) p = (p.0, renamed_printable rename k a p.1, renamed_printable rename k b p.2)
renamed_printable rename k (Three at o a b c) p = (p.0, renamed_printable rename k a p.1, renamed_printable rename k b p.2, renamed_printable rename k c p.3)

unchanged_keeps : KeepsIdentifiers unchanged
unchanged_keeps x k = k

renaming_keeps : (ps : List NamePair) → Each IsPrintablePair ps → KeepsIdentifiers (renaming ps)
renaming_keeps [] h x k = k
renaming_keeps (p ∷ ps) h x k = by_test (is_called x p.old) (renaming_keeps ps h.1 x k)
  where
    by_test : (b : Bool) → IsKind (renaming ps x) Ident → IsKind (cond b p.new.name (renaming ps x)) Ident
    by_test true r = h.0.1
    by_test false r = r

-- ---- the parts of a file
module _ (file : File) (formulas : Each IsPrintableFormula file.formulas) where
  body_printable : (x : Name) → IfAny IsPrintableExpression (formula_body file x)
  body_printable x =
      any_map IsPrintableFormula IsPrintableExpression (λ f. f.body) (λ f p. p.1) (find (λ f. is_called x f.name) file.formulas)
      (each_found IsPrintableFormula (λ f. is_called x f.name) file.formulas formulas)

  module _ (rename : Name → Name) (keeps : KeepsIdentifiers rename) where
    expression_printable : (e : Expression) → IsPrintableExpression e → IsPrintableExpression (flat_expression file rename e)
    expression_printable e p =
        renamed_printable rename keeps (written_out (formula_body file) (length file.formulas) e)
        (written_out_printable (formula_body file) body_printable (length file.formulas) e p)

    optional_printable : (o : Option Expression) → IfAny IsPrintableExpression o → IfAny IsPrintableExpression (option_map (flat_expression file rename) o)
    optional_printable o p = any_map IsPrintableExpression IsPrintableExpression (flat_expression file rename) expression_printable o p

    range_printable : (r : Range) → IsPrintableRange r → IsPrintableRange (flat_range file rename r)
    range_printable r p = (expression_printable r.low p.0, expression_printable r.high p.1)

    var_printable : (v : Var) → IsPrintableVar v → IsPrintableVar (flat_var file rename v)
    var_printable v p =
        (keeps v.name.name p.0, any_map IsPrintableRange IsPrintableRange (flat_range file rename) range_printable v.range p.1, optional_printable v.start p.2)

    written_keeps : (x : Name) → IsKind x Ident → IsKind (written_name file rename x) Ident
    written_keeps x k = by_test (is_formula file x)
      where
        by_test : (b : Bool) → IsKind (cond b x (rename x)) Ident
        by_test true = k
        by_test false = keeps x k

    write_printable : (w : Write) → IsPrintableWrite w → IsPrintableWrite (flat_write file rename w)
    write_printable w p = (written_keeps w.name.name p.0, expression_printable w.value p.1)

    branch_printable : (b : Branch) → IsPrintableBranch b → IsPrintableBranch (flat_branch file rename b)
    branch_printable b p = (optional_printable b.weight p.0, each_map IsPrintableWrite IsPrintableWrite (flat_write file rename) write_printable b.writes p.1)

    weight_stays : (b : Branch) → HasWeight b → HasWeight (flat_branch file rename b)
    weight_stays b h = (flat_expression file rename h.0, ap (option_map (flat_expression file rename)) h.1)

    are_branches : (bs : List Branch) → AreBranches bs → AreBranches (map (flat_branch file rename) bs)
    are_branches [] h = h
    are_branches (b ∷ []) h = tt
    are_branches (b ∷ c ∷ bs) h = each_map HasWeight HasWeight (flat_branch file rename) weight_stays (b ∷ c ∷ bs) h

    command_printable : (c : Command) → IsPrintableCommand c → IsPrintableCommand (flat_command file rename c)
    command_printable c p = (
      any_map IsIdentifier IsIdentifier (flat_name file rename) (λ a k. keeps a.name k) c.action p.0,
      expression_printable c.guard p.1,
      are_branches c.branches p.2,
      each_map IsPrintableBranch IsPrintableBranch (flat_branch file rename) branch_printable c.branches p.3,
    )

  constant_printable : (c : Const) → IsPrintableConst c → IsPrintableConst (flat_constant file c)
  constant_printable c p = (p.0, optional_printable unchanged unchanged_keeps c.value p.1)

  label_printable : (l : Label) → IsPrintableLabel l → IsPrintableLabel (flat_label file l)
  label_printable l p = (p.0, expression_printable unchanged unchanged_keeps l.body p.1)

  item_printable : (i : Item) → IsPrintableItem i → IsPrintableItem (flat_item file i)
  item_printable i p = (p.0, expression_printable unchanged unchanged_keeps i.guard p.1, expression_printable unchanged unchanged_keeps i.value p.2)

  rewards_printable : (r : Rewards) → IsPrintableRewards r → IsPrintableRewards (flat_rewards file r)
  rewards_printable r p = (p.0, each_map IsPrintableItem IsPrintableItem (flat_item file) item_printable r.items p.1)

-- ---- modules
record IsPrintablePart (p : Part) : Type 0 where
  keeps : KeepsIdentifiers p.rename
  vars : Each IsPrintableVar p.vars
  commands : Each IsPrintableCommand p.commands

copy_printable : (rename : Name → Name) → KeepsIdentifiers rename → (o : Option Module) → IfAny IsPrintableModule o → IsPrintablePart (copy_of rename o)
copy_printable rename k None h = record { keeps = k; vars = tt; commands = tt }
copy_printable rename k (Some (plain m)) h = record { keeps = k; vars = h.1; commands = h.2 }
copy_printable rename k (Some (copied m)) h = record { keeps = k; vars = tt; commands = tt }

part_printable : (file : File) → Each IsPrintableModule file.modules → (m : Module) → IsPrintableModule m → IsPrintablePart (part_of file m)
part_printable file h (plain m) p = record { keeps = unchanged_keeps; vars = p.1; commands = p.2 }
part_printable file h (copied m) p =
    copy_printable (renaming m.pairs) (renaming_keeps m.pairs p.3) (module_called file m.from.name)
    (each_found IsPrintableModule (λ k. is_called m.from.name (module_name k)) file.modules h)

name_printable : (m : Module) → IsPrintableModule m → IsIdentifier (module_name m)
name_printable (plain m) p = p.0
name_printable (copied m) p = p.0

module_printable : (file : File) → Each IsPrintableFormula file.formulas → Each IsPrintableModule file.modules → (m : Module) → IsPrintableModule m →
    IsPrintableModule (flat_module file m)
module_printable file formulas h m p =
    let part = part_printable file h m p in
    let q = part_of file m in (
      name_printable m p,
      each_map IsPrintableVar IsPrintableVar (flat_var file q.rename) (var_printable file formulas q.rename part.keeps) q.vars part.vars,
      each_map IsPrintableCommand IsPrintableCommand (flat_command file q.rename) (command_printable file formulas q.rename part.keeps) q.commands part.commands,
    )

pub flat_printable : (file : File) → IsPrintable file → IsPrintable (flat file)
flat_printable file p = record {
  constants = each_map IsPrintableConst IsPrintableConst (flat_constant file) (constant_printable file p.formulas) file.constants p.constants;
  globals = each_map IsPrintableVar IsPrintableVar (flat_var file unchanged) (var_printable file p.formulas unchanged unchanged_keeps) file.globals p.globals;
  formulas = tt;
  modules = each_map IsPrintableModule IsPrintableModule (flat_module file) (module_printable file p.formulas p.modules) file.modules p.modules;
  labels = each_map IsPrintableLabel IsPrintableLabel (flat_label file) (label_printable file p.formulas) file.labels p.labels;
  rewards = each_map IsPrintableRewards IsPrintableRewards (flat_rewards file) (rewards_printable file p.formulas) file.rewards p.rewards;
  init = optional_printable file p.formulas unchanged unchanged_keeps file.init p.init;
}
