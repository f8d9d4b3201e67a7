-- What is known of the formulas of a judged file.
use Rattle.std.proofs.Common.{◌≡◌, ℕ, Bool, true, false, List, [], ◌∷◌, Some, refl, sym, ap, subst, ◌∙◌, arith}
use Rattle.std.proofs.lemmas.Bool.Decides.{nat_tests}
use Rattle.std.specs.Prelude.{nat_eq, if◌then◌else◌}
use Rattle.std.specs.List.{flat_map, find, AllByRecursion as Each}
use Rattle.std.specs.Option.{option_map}
use Rattle.basics.specs.Each.{each_then}
use Rattle.basics.specs.Lists.{append_parts}
use Rattle.basics.specs.Texts.{bytes_eq-true}
use Rattle.bridge_io.specs.declared.reason.Fault.{Fault}
use Rattle.op_trees.specs.Tree.{AllNames, Truth, Number, Name as At, One, Two, Three}
use Rattle.prism_lex.specs.Tokens.{is_name}
use Rattle.prism_tree.specs.Syntax.{Expression, Formula, File}
use Rattle.op_trees.specs.Names.{is_called}
use Rattle.prism_names.specs.Names.{formula_body}
use Rattle.prism_names.specs.Order.{IsOrder}
use Rattle.prism_names.specs.Places.{at_places, formula_names, places_order}
use Rattle.basics.specs.Options.{IfAny}
use Rattle.prism_print.specs.Printable.{IsPrintableExpression, IsPrintableFormula}
use Rattle.name_rules.specs.Unknown.{unless_known}
use Rattle.prism_check.specs.Checked.{Checked, IsChecked}
use Rattle.prism_check.specs.Demands.{formula_demands, outer_demands}
use Rattle.prism_check.specs.NameFaults.{is_among, names_of, values, unknown, copy_faults}
use Rattle.prism_check.proofs.NoFaults.{IsKnown, no_faults, no_name_faults, all_known, each_body}
use Rattle.prop_grammar.specs.Grammar.{has_quotes}
use Rattle.prop_trees.specs.Trees.{Name}

abbrev pub IsPlain : Name → Type 0
IsPlain x = has_quotes x ≡ false

-- the formulas stand in an order; neither they nor the names in their bodies have quotes, and those names are known
pub record IsJudged (file : File) (order : List Name) : Type 0 where
  pub ordered : IsOrder file order
  pub plain : (x : Name) (b : Expression) → formula_body file x ≡ Some b → IsPlain x
  pub bodies : (x : Name) → IfAny (AllNames IsPlain) (formula_body file x)
  pub known : (x : Name) → IfAny (AllNames (IsKnown file)) (formula_body file x)
  pub copies : flat_map (copy_faults file) file.modules ≡ []

-- ---- identifiers have no quotes
pub name_plain : (x : Name) → is_name x ≡ true → IsPlain x
name_plain [] h = refl
name_plain (b ∷ bs) h = by_test (nat_eq b 34) refl
  where
    by_test : (t : Bool) → nat_eq b 34 ≡ t → nat_eq b 34 ≡ false
    by_test false e = e
    by_test true e =
        let same : b ≡ 34 = grind (arith, nat_tests, e) in
        let F : ℕ → Type 0 = λ x. is_name (x ∷ bs) ≡ true in
        let no : false ≡ true = subst F same h in
        absurd cc

expression_plain : (e : Expression) → IsPrintableExpression e → AllNames IsPlain e
expression_plain (Truth at b) p = tt
expression_plain (Number at d) p = tt
expression_plain (At at x) p = name_plain x p.0
expression_plain (One at o a) p = expression_plain a p.1
expression_plain (Two at o a b) p = (expression_plain a p.1, expression_plain b p.2)
expression_plain (Three at o a b c) p = (expression_plain a p.1, expression_plain b p.2, expression_plain c p.3)

plain_named : (x : Name) (fs : List Formula) (b : Expression) → Each IsPrintableFormula fs → option_map (λ f. f.body) (find (λ f. is_called x f.name) fs) ≡ Some b → IsPlain x
plain_named x [] b h e = absurd cc
plain_named x (f ∷ fs) b h e = by_test (is_called x f.name) refl (plain_named x fs b h.1)
  where
    by_test : (t : Bool) → is_called x f.name ≡ t → (option_map (λ g. g.body) (find (λ g. is_called x g.name) fs) ≡ Some b → IsPlain x) → IsPlain x
    by_test true g r = subst IsPlain (bytes_eq-true f.name.name x g) (name_plain f.name.name h.0.0.0)
    by_test false g r = r (sym (ap (λ (t : Bool). option_map (λ (k : Formula). k.body) (if t then Some f else find (λ u. is_called x u.name) fs)) g) ∙ e)

-- ---- names in bodies are known
module _ (file : File) where
  known_bodies : (fs : List Formula) → flat_map (unknown file) (flat_map formula_demands fs) ≡ [] → Each (λ f. AllNames (IsKnown file) f.body) fs
  known_bodies [] k = tt
  known_bodies (f ∷ fs) k =
      let r = append_parts (unknown_of f) (flat_map (unknown file) (flat_map formula_demands fs)) k in
      (all_known file f.body r.0, known_bodies fs r.1)
    where
      unknown_of : Formula → List Fault
      unknown_of g = flat_map (unless_known (is_among (values file))) (names_of g.body)

pub judged : (c : Checked) → IsChecked c → IsJudged c.file (formula_names (at_places c.file.formulas c.order))
judged c is =
    let file : File = c.file in
    let names = no_name_faults file (no_faults file is.sound).names in
    let outer = append_parts (flat_map (unknown file) (outer_demands file)) _ names.unknown in
    let bodies = append_parts (flat_map (unknown file) (flat_map formula_demands file.formulas)) _ outer.1 in
    record {
      ordered = places_order file c.order is.order;
      plain = λ x b e. plain_named x file.formulas b is.form.formulas e;
      bodies = each_body file (AllNames IsPlain) (each_then IsPrintableFormula (λ f. AllNames IsPlain f.body) (λ f p. expression_plain f.body p.1) file.formulas is.form.formulas);
      known = each_body file (AllNames (IsKnown file)) (known_bodies file file.formulas bodies.0);
      copies = names.copies;
    }
