-- Texts spell a specialised file, where they spell the file.
use Rattle.std.specs.Prelude.{◌≡◌, List, [], ◌∷◌, map, false, Option, Some, None}
use Rattle.std.specs.Option.{option_map}
use Rattle.std.proofs.Common.{refl}
use Rattle.basics.specs.Options.{IfAny}
use Rattle.basics.specs.Each.{each_map, any_map}
use Rattle.bridge_io.specs.declared.reason.Named.{Named}
use Rattle.op_trees.specs.declared.tree.Ty.{Ty}
use Rattle.op_trees.specs.declared.tree.Value.{Value}
use Rattle.process_core.specs.Instance.{Valuation}
use Rattle.prism_tree.specs.Operators.{prism_meaning}
use Rattle.prism_tree.specs.Syntax.{Expression, Const, Range, Var, Label, Write, Branch, Command, Module, plain, copied, Item, Rewards, File}
use Rattle.prism_print.specs.Printable.{IsIdentifier, IsPrintableExpression, IsPrintableConst, IsPrintableRange, IsPrintableVar, IsPrintableLabel, IsPrintableWrite, IsPrintableBranch, HasWeight, AreBranches, IsPrintableCommand, IsPrintableModule, IsPrintableItem, IsPrintableRewards, IsPrintable}
use Rattle.prism_rewriter.specs.Rewritten.{rewritten_name, rewritten_range, rewritten_var, rewritten_write, rewritten_branch, rewritten_command, rewritten_label, rewritten_item, rewritten_rewards}
use Rattle.constant_folding.specs.Known.{Known}
use Rattle.constant_folding.proofs.Kept.{fold_holds}
use Rattle.constant_folding.proofs.WholeNumbers.{whole_normal, whole_sign}
use Rattle.specialise_prism.specs.Literal.{whole_tree, prism_literal}
use Rattle.constant_folding.specs.Constants.{specialised_value}
use Rattle.constant_folding.specs.ValueLiteralLaws.{literal_holds}
use Rattle.prism_tree.specs.declared.operator.PrismOp.TheVariants.{Div}
use Rattle.specialise_prism.specs.Specialised.{folded, folding_by, specialised_const, specialised_module, specialised_by}
use Rattle.specialise_prism.specs.LiteralLaws.{whole_holds, prism_literals}

pub literal_printable : (v : Value) (ty : Ty) → IsPrintableExpression (prism_literal v ty)
literal_printable =
    literal_holds whole_tree Div IsPrintableExpression (λ b. tt)
    (whole_holds IsPrintableExpression (λ r n. (whole_normal r false n, whole_sign r n)) (λ a h. (refl, h))) (λ a b h k. (refl, h, k))

module _ (K : Known) where
  pub folded_printable : (e : Expression) → IsPrintableExpression e → IsPrintableExpression (folded K e)
  folded_printable =
      fold_holds prism_meaning prism_literal prism_literals K IsPrintableExpression (λ b. tt) literal_printable
      (λ at o a h. (h.1, λ x k. (h.0, k)))
      (λ at o a b h. (h.1, h.2, λ x y k l. (h.0, k, l)))
      (λ at o a b c h. (h.1, h.2, h.3, λ x y z k l j. (h.0, k, l, j)))

  optional_printable : (o : Option Expression) → IfAny IsPrintableExpression o → IfAny IsPrintableExpression (option_map (folded K) o)
  optional_printable o p = any_map IsPrintableExpression IsPrintableExpression (folded K) folded_printable o p

  range_printable : (r : Range) → IsPrintableRange r → IsPrintableRange (rewritten_range (folding_by K) r)
  range_printable r p = (folded_printable r.low p.0, folded_printable r.high p.1)

  var_printable : (v : Var) → IsPrintableVar v → IsPrintableVar (rewritten_var (folding_by K) v)
  var_printable v p = (p.0, any_map IsPrintableRange IsPrintableRange (rewritten_range (folding_by K)) range_printable v.range p.1, optional_printable v.start p.2)

  write_printable : (w : Write) → IsPrintableWrite w → IsPrintableWrite (rewritten_write (folding_by K) w)
  write_printable w p = (p.0, folded_printable w.value p.1)

  branch_printable : (b : Branch) → IsPrintableBranch b → IsPrintableBranch (rewritten_branch (folding_by K) b)
  branch_printable b p = (optional_printable b.weight p.0, each_map IsPrintableWrite IsPrintableWrite (rewritten_write (folding_by K)) write_printable b.writes p.1)

  weight_there : (o : Option Expression) → (e : Expression) × (o ≡ Some e) → (e : Expression) × (option_map (folded K) o ≡ Some e)
  weight_there None h = absurd (let k = h.1 in cc)
  weight_there (Some e) h = (folded K e, refl)

  branches_there : (bs : List Branch) → AreBranches bs → AreBranches (map (rewritten_branch (folding_by K)) bs)
  branches_there [] h = h
  branches_there (b ∷ []) h = tt
  branches_there (b ∷ c ∷ bs) h = each_map HasWeight HasWeight (rewritten_branch (folding_by K)) (λ d k. weight_there d.weight k) (b ∷ c ∷ bs) h

  action_printable : (a : Option Named) → IfAny IsIdentifier a → IfAny IsIdentifier (option_map (rewritten_name (λ x. x)) a)
  action_printable None h = tt
  action_printable (Some a) h = h

  command_printable : (c : Command) → IsPrintableCommand c → IsPrintableCommand (rewritten_command (folding_by K) c)
  command_printable c p = (
    action_printable c.action p.0,
    folded_printable c.guard p.1,
    branches_there c.branches p.2,
    each_map IsPrintableBranch IsPrintableBranch (rewritten_branch (folding_by K)) branch_printable c.branches p.3,
  )

  module_printable : (m : Module) → IsPrintableModule m → IsPrintableModule (specialised_module K m)
  module_printable (plain m) p = (
    p.0,
    each_map IsPrintableVar IsPrintableVar (rewritten_var (folding_by K)) var_printable m.vars p.1,
    each_map IsPrintableCommand IsPrintableCommand (rewritten_command (folding_by K)) command_printable m.commands p.2,
  )
  module_printable (copied m) p = (p.0, tt, tt)

  label_printable : (l : Label) → IsPrintableLabel l → IsPrintableLabel (rewritten_label (folding_by K) l)
  label_printable l p = (p.0, folded_printable l.body p.1)

  item_printable : (i : Item) → IsPrintableItem i → IsPrintableItem (rewritten_item (folding_by K) i)
  item_printable i p = (p.0, folded_printable i.guard p.1, folded_printable i.value p.2)

  rewards_printable : (r : Rewards) → IsPrintableRewards r → IsPrintableRewards (rewritten_rewards (folding_by K) r)
  rewards_printable r p = (p.0, each_map IsPrintableItem IsPrintableItem (rewritten_item (folding_by K)) item_printable r.items p.1)

  value_printable : (g : Option Value) (ty : Ty) (o : Option Expression) → IfAny IsPrintableExpression o → IfAny IsPrintableExpression (specialised_value prism_meaning prism_literal g K ty o)
  value_printable None ty None h = tt
  value_printable (Some y) ty None h = literal_printable y ty
  value_printable g ty (Some e) h = folded_printable e h

  const_printable : (given : Valuation) (c : Const) → IsPrintableConst c → IsPrintableConst (specialised_const given K c)
  const_printable given c p = (p.0, value_printable (given c.name.name) c.ty c.value p.1)

  pub specialised_printable : (given : Valuation) (file : File) → IsPrintable file → IsPrintable (specialised_by given K file)
  specialised_printable given file h = record {
    constants = each_map IsPrintableConst IsPrintableConst (specialised_const given K) (const_printable given) file.constants h.constants;
    globals = each_map IsPrintableVar IsPrintableVar (rewritten_var (folding_by K)) var_printable file.globals h.globals;
    formulas = h.formulas;
    modules = each_map IsPrintableModule IsPrintableModule (specialised_module K) module_printable file.modules h.modules;
    labels = each_map IsPrintableLabel IsPrintableLabel (rewritten_label (folding_by K)) label_printable file.labels h.labels;
    rewards = each_map IsPrintableRewards IsPrintableRewards (rewritten_rewards (folding_by K)) rewards_printable file.rewards h.rewards;
    init = optional_printable file.init h.init;
  }
