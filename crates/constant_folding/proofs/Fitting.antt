-- What follows where all given values fit.
use Rattle.std.specs.Prelude.{◌≡◌, ℕ, List, [], ◌∷◌, map, Bool, true, false, not, Some, None, Result, Ok, Err, IfOk, is_none, bytes_eq, if◌then◌else◌}
use Rattle.std.specs.List.{list_any, AllByRecursion as Each}
use Rattle.std.specs.Option.{option_map}
use Rattle.std.proofs.Common.{refl, sym, subst, ap, ap₂, ◌∙◌}
use Rattle.std.proofs.Math.Path.{fun_ext}
use Rattle.std.proofs.lemmas.Slice.Eq.{bytes_eq-Decides}
use Rattle.basics.specs.Booleans.{first_false, second_false, second_true}
use Rattle.basics.specs.Mapped.{found_mapped}
use Rattle.op_trees.specs.declared.tree.Value.{Value}
use Rattle.op_trees.specs.Meaning.{Meaning, is_wide_value}
use Rattle.op_trees.specs.Names.{is_called}
use Rattle.process_core.specs.Ready.{Name}
use Rattle.process_core.specs.Instance.{Valuation}
use Rattle.process_core.specs.declared.data.Given.{Given}
use Rattle.instance_start.specs.Description.{Constant}
use Rattle.instance_start.proofs.Givens.{taken_typed}
use Rattle.instance_start.specs.Given.{given_by, takes, constant_called, is_taken, fits}
use Rattle.constant_folding.specs.declared.table.KnownTable.{KnownTable}
use Rattle.constant_folding.specs.Constants.{AnyConst, described, known_constants}
use Rattle.constant_folding.specs.Tables.{IsKnownUnder, given_in, known_in}
use Rattle.constant_folding.specs.Unfit.{AreFitting, IsSmall, unfit}

not_not : (b : Bool) → not b ≡ false → b ≡ true
not_not true h = refl
not_not false h = absurd cc

-- a value that is given for a name is one that fits
given_fits : (cs : List Constant) (gs : List Given) → list_any (λ g. not (fits cs g)) gs ≡ false → (x : Name) (y : Value) → given_by gs x ≡ Some y → is_taken (constant_called cs x) y ≡ true
given_fits cs [] h x y e = absurd cc
given_fits cs (g ∷ gs) h x y e = by (bytes_eq g.name x) refl e (given_fits cs gs (second_false (not (fits cs g)) (list_any (λ k. not (fits cs k)) gs) h) x y)
  where
    by : (b : Bool) → bytes_eq g.name x ≡ b → (if b then Some g.value else given_by gs x) ≡ Some y → (given_by gs x ≡ Some y → is_taken (constant_called cs x) y ≡ true) →
        is_taken (constant_called cs x) y ≡ true
    by true k e ih =
        subst (λ (z : Value). is_taken (constant_called cs x) z ≡ true) (let s : g.value ≡ y = cc in s)
        (ap (λ n. is_taken (constant_called cs n) g.value) (sym ((bytes_eq-Decides g.name x).0 k))
        ∙ not_not (fits cs g) (first_false (not (fits cs g)) (list_any (λ k. not (fits cs k)) gs) h))
    by false k e ih = ih e

none_unfit : (b : Bool) (i : ℕ) → (if b then Some i else None) ≡ None → b ≡ false
none_unfit true i h = absurd cc
none_unfit false i h = refl

pub all_fitting : {O : Type 0} (cs : List (AnyConst O)) (given : List Given) → unfit (map described cs) given ≡ None → AreFitting cs (given_by given)
all_fitting cs given h = record {
  fitting =
      λ x c y k e.
      let taken = given_fits (map described cs) given (none_unfit _ _ h) x y e in
      let found : is_taken (Some (described c)) y ≡ true =
      sym (ap (λ o. is_taken o y) (found_mapped described (λ d. bytes_eq d.name x) (λ d. is_called x d.name) (λ d. refl) cs ∙ ap (option_map described) k)) ∙ taken in
      taken_typed c.ty y (second_true (is_none c.value) (takes c.ty y) found);
}

pub all_are_small : (given : List Given) → Each (λ g. is_wide_value (Some g.value) ≡ false) given → IsSmall (given_by given)
all_are_small given h = record { small = by given h }
  where
    by : (gs : List Given) → Each (λ g. is_wide_value (Some g.value) ≡ false) gs → (x : Name) (y : Value) → given_by gs x ≡ Some y → is_wide_value (Some y) ≡ false
    by [] h x y e = absurd cc
    by (g ∷ gs) h x y e = one (bytes_eq g.name x) e (by gs h.1 x y)
      where
        one : (b : Bool) → (if b then Some g.value else given_by gs x) ≡ Some y → (given_by gs x ≡ Some y → is_wide_value (Some y) ≡ false) → is_wide_value (Some y) ≡ false
        one true e ih = subst (λ (z : Value). is_wide_value (Some z) ≡ false) (let s : g.value ≡ y = cc in s) h.0
        one false e ih = ih e

-- what a table was filled with
module _ {O N : Type 0} (m : Meaning O) (cs : List (AnyConst O)) (given values : Valuation) (same : values ≡ given) where
  table_made : (t : KnownTable N) → ((x : Name) → known_in t x ≡ known_constants m cs values x) → given_in t ≡ values → IsKnownUnder m cs given t
  table_made t known by = record { known = fun_ext known ∙ ap (known_constants m cs) same; given = by ∙ same }

  pub made : {E : Type 0} (r : Result (KnownTable N) E) → IfOk r (λ t. (x : Name) → known_in t x ≡ known_constants m cs values x) → IfOk r (λ t. given_in t ≡ values) →
      IfOk r (IsKnownUnder m cs given)
  made (Ok t) known by = table_made t known by
  made (Err e) known by = tt

pub whenever : {T E : Type 0} (P : Type 0) → P → (r : Result T E) → IfOk r (λ t. P)
whenever P p (Ok t) = p
whenever P p (Err e) = tt

-- what is known under given values, told of constants that are the same and of what the table has
module _ {O N : Type 0} (m : Meaning O) (cs own : List (AnyConst O)) (given : Valuation) (t : KnownTable N) (same : cs ≡ own) (k : IsKnownUnder m cs given t) where
  pub known_here : IsKnownUnder m own (given_in t) t
  known_here = record { known = k.known ∙ ap₂ (known_constants m) same (sym k.given); given = refl }

  pub fitting_here : AreFitting cs given → AreFitting own (given_in t)
  fitting_here h = subst (λ (g : Valuation). AreFitting own g) (sym k.given) (subst (λ (l : List (AnyConst O)). AreFitting l given) same h)
