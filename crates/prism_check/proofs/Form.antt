-- The form of a file does not depend on its places.
use Rattle.std.specs.Prelude.{◌≡◌, List, [], ◌∷◌, map, Option, Some, None}
use Rattle.std.specs.List.{list_all, AllByRecursion as Each}
use Rattle.std.specs.Option.{option_map}
use Rattle.std.proofs.Common.{refl, sym, ap, subst, ◌∙◌}
use Rattle.basics.specs.Lists.{empty_map, IsNotEmpty}
use Rattle.op_trees.specs.Tree.{Truth, Number, Name, One, Two, Three, bare}
use Rattle.prism_tree.specs.declared.syntax.NamePair.{NamePair}
use Rattle.prism_tree.specs.declared.syntax.ItemOn.{ItemOn}
use Rattle.prism_tree.specs.declared.syntax.ItemOn.TheVariants.{InState, Silent, Action}
use Rattle.prism_tree.specs.Syntax.{Expression, Range, Var, Branch, Command, Module, plain, copied, Rewards, File}
use Rattle.basics.specs.Options.{IfAny}
use Rattle.prism_flat.specs.Printable.{IsIdentifier, IsTitle, IsPrintableExpression, IsPrintableConst, IsPrintableRange, IsPrintableVar, IsPrintableFormula, IsPrintableLabel, IsPrintableWrite, IsPrintableBranch, HasWeight, AreBranches, IsPrintableCommand, IsPrintablePair, IsPrintableModule, IsPrintableOn, IsPrintableItem, IsPrintableRewards, IsPrintable}
use Rattle.op_trees.specs.Names.{bare_name}
use Rattle.prism_flat.specs.Same.{bare_const, bare_range, bare_var, bare_formula, bare_label, bare_write, bare_branch, bare_command, bare_pair, bare_module, bare_on, bare_item, bare_rewards, bare_file}
use Rattle.prism_flat.specs.Kept.{is_plain, IsWrittenOut}

-- the one holds exactly where the other does
abbrev Alike : Type 0 → Type 0 → Type 0
Alike A B = (A → B) × (B → A)

same : {A : Type 0} → Alike A A
same = (λ p. p, λ p. p)

both : {A B C D : Type 0} → Alike A B → Alike C D → Alike (A × C) (B × D)
both h k = (λ p. (h.0 p.0, k.0 p.1), λ p. (h.1 p.0, k.1 p.1))

all_three : {A B C D E F : Type 0} → Alike A B → Alike C D → Alike E F → Alike (A × C × E) (B × D × F)
all_three h k l = (λ p. (h.0 p.0, k.0 p.1, l.0 p.2), λ p. (h.1 p.0, k.1 p.1, l.1 p.2))

all_four : {A B C D E F G H : Type 0} → Alike A B → Alike C D → Alike E F → Alike G H → Alike (A × C × E × G) (B × D × F × H)
all_four h k l m = (λ p. (h.0 p.0, k.0 p.1, l.0 p.2, m.0 p.3), λ p. (h.1 p.0, k.1 p.1, l.1 p.2, m.1 p.3))

module _ {A : Type 0} (P : A → Type 0) (f : A → A) (h : (x : A) → Alike (P x) (P (f x))) where
  each : (xs : List A) → Alike (Each P xs) (Each P (map f xs))
  each [] = same
  each (x ∷ xs) = both (h x) (each xs)

  any : (o : Option A) → Alike (IfAny P o) (IfAny P (option_map f o))
  any None = same
  any (Some x) = h x

expression : (e : Expression) → Alike (IsPrintableExpression e) (IsPrintableExpression (bare e))
expression (Truth at b) = same
expression (Number at d) = same
expression (Name at x) = same
expression (One at o a) = both same (expression a)
expression (Two at o a b) = all_three same (expression a) (expression b)
expression (Three at o a b c) = all_four same (expression a) (expression b) (expression c)

optional : (o : Option Expression) → Alike (IfAny IsPrintableExpression o) (IfAny IsPrintableExpression (option_map bare o))
optional o = any IsPrintableExpression bare expression o

range : (r : Range) → Alike (IsPrintableRange r) (IsPrintableRange (bare_range r))
range r = both (expression r.low) (expression r.high)

var : (x : Var) → Alike (IsPrintableVar x) (IsPrintableVar (bare_var x))
var x = all_three same (any IsPrintableRange bare_range range x.range) (optional x.start)

branch : (b : Branch) → Alike (IsPrintableBranch b) (IsPrintableBranch (bare_branch b))
branch b = both (optional b.weight) (each IsPrintableWrite bare_write (λ w. both same (expression w.value)) b.writes)

weight : (b : Branch) → Alike (HasWeight b) (HasWeight (bare_branch b))
weight b = (λ p. (bare p.0, ap (option_map bare) p.1), λ p. given b.weight p.1)
  where
    given : (o : Option Expression) {e : Expression} → option_map bare o ≡ Some e → (d : Expression) × (o ≡ Some d)
    given None k = absurd cc
    given (Some d) k = (d, refl)

branches : (bs : List Branch) → Alike (AreBranches bs) (AreBranches (map bare_branch bs))
branches [] = same
branches (b ∷ []) = same
branches (b ∷ c ∷ bs) = each HasWeight bare_branch weight (b ∷ c ∷ bs)

command : (c : Command) → Alike (IsPrintableCommand c) (IsPrintableCommand (bare_command c))
command c =
    all_four (any IsIdentifier bare_name (λ n. same) c.action) (expression c.guard) (branches c.branches) (each IsPrintableBranch bare_branch branch c.branches)

some_pair : (ps : List NamePair) → Alike (IsNotEmpty ps) (IsNotEmpty (map bare_pair ps))
some_pair [] = same
some_pair (p ∷ ps) = same

«module» : (m : Module) → Alike (IsPrintableModule m) (IsPrintableModule (bare_module m))
«module» (plain m) = all_three same (each IsPrintableVar bare_var var m.vars) (each IsPrintableCommand bare_command command m.commands)
«module» (copied m) = all_four same same (some_pair m.pairs) (each IsPrintablePair bare_pair (λ p. same) m.pairs)

on : (o : ItemOn) → Alike (IsPrintableOn o) (IsPrintableOn (bare_on o))
on InState = same
on Silent = same
on (Action a) = same

rewards : (r : Rewards) → Alike (IsPrintableRewards r) (IsPrintableRewards (bare_rewards r))
rewards r =
    both (any IsTitle bare_name (λ n. same) r.name)
    (each IsPrintableItem bare_item (λ i. all_three (on i.on) (expression i.guard) (expression i.value)) r.items)

-- ---- files that are the same but for places
-- parts that are the same without their places have a form alike
each_too : {A : Type 0} (P : A → Type 0) (f : A → A) → ((x : A) → Alike (P x) (P (f x))) → (xs ys : List A) → map f xs ≡ map f ys → Each P xs → Each P ys
each_too P f h xs ys e p = (each P f h ys).1 (subst (Each P) e ((each P f h xs).0 p))

any_too : {A : Type 0} (P : A → Type 0) (f : A → A) → ((x : A) → Alike (P x) (P (f x))) → (o p : Option A) → option_map f o ≡ option_map f p → IfAny P o → IfAny P p
any_too P f h o p e q = (any P f h p).1 (subst (IfAny P) e ((any P f h o).0 q))

pub printable_too : (f g : File) → bare_file f ≡ bare_file g → IsPrintable f → IsPrintable g
printable_too f g e p = record {
  constants = each_too IsPrintableConst bare_const (λ c. both same (optional c.value)) f.constants g.constants (ap (λ x. x.constants) e) p.constants;
  globals = each_too IsPrintableVar bare_var var f.globals g.globals (ap (λ x. x.globals) e) p.globals;
  formulas = each_too IsPrintableFormula bare_formula (λ c. both same (expression c.body)) f.formulas g.formulas (ap (λ x. x.formulas) e) p.formulas;
  modules = each_too IsPrintableModule bare_module «module» f.modules g.modules (ap (λ x. x.modules) e) p.modules;
  labels = each_too IsPrintableLabel bare_label (λ l. both same (expression l.body)) f.labels g.labels (ap (λ x. x.labels) e) p.labels;
  rewards = each_too IsPrintableRewards bare_rewards rewards f.rewards g.rewards (ap (λ x. x.rewards) e) p.rewards;
  init = any_too IsPrintableExpression bare expression f.init g.init (ap (λ x. x.init) e) p.init;
}

plain-bare : (ms : List Module) → list_all is_plain (map bare_module ms) ≡ list_all is_plain ms
plain-bare [] = refl
plain-bare (plain m ∷ ms) = plain-bare ms
plain-bare (copied m ∷ ms) = refl

-- no formula and no copy of a module
pub written_out_too : (f g : File) → bare_file f ≡ bare_file g → IsWrittenOut f → IsWrittenOut g
written_out_too f g e p = record {
  formulas = empty_map bare_formula g.formulas (sym (ap (λ x. x.formulas) e) ∙ ap (map bare_formula) p.formulas);
  modules = sym (plain-bare g.modules) ∙ ap (λ x. list_all is_plain x.modules) (sym e) ∙ plain-bare f.modules ∙ p.modules;
}
