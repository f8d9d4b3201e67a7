-- The places of a file's formulas in an order in which each names only earlier ones, as a list of numbers.
use Rattle.std.specs.Prelude.{◌≡◌, ℕ, suc, ◌+◌, ◌<◌, ◌≤◌, List, [], ◌∷◌, ◌++◌, map, length, Bool, true, false, not, ◌||◌, cond, ◌⊎◌, Option, Some, None, bytes_eq, slice_get}
use Rattle.std.specs.List.{All, flat_map, list_any}
use Rattle.std.proofs.Common.{refl, sym, ap, ◌∙◌, inl, inr, subst, append_assoc, arith, length-append}
use Rattle.std.proofs.lemmas.List.{length-map}
use Rattle.std.proofs.lemmas.List.Folds.{list_any-append}
use Rattle.std.proofs.lemmas.Slice.Eq.{bytes_eq-Decides}
use Rattle.op_trees.specs.Tree.{AllNames}
use Rattle.op_trees.specs.Seen.{FallsTo}
use Rattle.op_trees.specs.SeenLaws.{names_then}
use Rattle.basics.specs.Options.{if_some}
use Rattle.process_core.specs.Ready.{Name}
use Rattle.prism_tree.specs.Syntax.{Expression, Formula, File}
use Rattle.prism_names.specs.Names.{formula_body}
use Rattle.prism_names.specs.Order.{place_in, IsOrder}

abbrev pub formula_names : List Formula → List Name
formula_names fs = map (λ f. f.name.name) fs

-- the formulas at these places of a list, in the order of the places
abbrev pub at_places : List Formula → List ℕ → List Formula
at_places fs places = flat_map (λ i. if_some (slice_get fs i)) places

abbrev pub stands : List Name → Name → Bool
stands ns x = list_any (λ y. bytes_eq y x) ns

-- a name that stands earlier, or that is no formula's
abbrev pub IsEarlier : File → List Name → Name → Type 0
IsEarlier file earlier x = (stands earlier x ≡ true) ⊎ (formula_body file x ≡ None)

-- each formula is the first of its name, and names no formula but earlier ones
abbrev pub IsListed : File → List Name → List Formula → Type 0
IsListed file earlier [] = Unit {0}
IsListed file earlier (f ∷ fs) =
    (formula_body file f.name.name ≡ Some f.body) × AllNames (IsEarlier file earlier) f.body × IsListed file (earlier ++ f.name.name ∷ []) fs

-- All formulas of a file stand at these places, each after those that it names.
pub record IsPlaceOrder (file : File) (places : List ℕ) : Type 0 where
  pub within : All (λ i. i < length file.formulas) places
  pub count : length places ≤ length file.formulas
  pub listed : IsListed file [] (at_places file.formulas places)
  pub covers : (x : Name) (b : Expression) → formula_body file x ≡ Some b → stands (formula_names (at_places file.formulas places)) x ≡ true

-- ---- places of names
stands_place : (ns : List Name) (x : Name) → stands ns x ≡ true → place_in ns x < length ns
stands_place [] x h = absurd cc
stands_place (n ∷ ns) x h = by_test (bytes_eq n x) (place_in ns x) (length ns) (stands_place ns x) h
  where
    by_test : (b : Bool) (k m : ℕ) → (stands ns x ≡ true → k < m) → (b || stands ns x) ≡ true → cond (not b) (1 + k) 0 < suc m
    by_test true k m ih s = omega arith
    by_test false k m ih s = let l = ih s in omega arith

-- what stands in a front has its place there
place_in_front : (ns ms : List Name) (x : Name) → stands ns x ≡ true → place_in (ns ++ ms) x < length ns
place_in_front [] ms x h = absurd cc
place_in_front (n ∷ ns) ms x h = by_test (bytes_eq n x) (place_in (ns ++ ms) x) (length ns) (place_in_front ns ms x) h
  where
    by_test : (b : Bool) (k m : ℕ) → (stands ns x ≡ true → k < m) → (b || stands ns x) ≡ true → cond (not b) (1 + k) 0 < suc m
    by_test true k m ih s = omega arith
    by_test false k m ih s = let l = ih s in omega arith

-- what does not stand in a front has its place behind it
place_behind : (ns ms : List Name) (x : Name) → stands ns x ≡ false → length ns ≤ place_in (ns ++ ms) x
place_behind [] ms x h = omega arith
place_behind (n ∷ ns) ms x h = by_test (bytes_eq n x) (place_in (ns ++ ms) x) (length ns) (place_behind ns ms x) h
  where
    by_test : (b : Bool) (k m : ℕ) → (stands ns x ≡ false → m ≤ k) → (b || stands ns x) ≡ false → suc m ≤ cond (not b) (1 + k) 0
    by_test true k m ih s = absurd cc
    by_test false k m ih s = let l = ih s in omega arith

at_most_places : (fs : List Formula) (places : List ℕ) → length (at_places fs places) ≤ length places
at_most_places fs [] = omega arith
at_most_places fs (i ∷ is) = by_found (slice_get fs i) (at_most_places fs is)
  where
    by_found : (o : Option Formula) → length (at_places fs is) ≤ length is → length (if_some o ++ at_places fs is) ≤ suc (length is)
    by_found None h = omega arith
    by_found (Some f) h = omega arith

module _ (file : File) (order : List Name) where
  -- the names in the body of a formula have lower places
  falls : (earlier : List Name) (fs : List Formula) → order ≡ earlier ++ formula_names fs → IsListed file earlier fs →
      (x : Name) (b : Expression) → formula_body file x ≡ Some b → stands earlier x ≡ false → stands (formula_names fs) x ≡ true →
      AllNames (FallsTo (formula_body file) (place_in order) (place_in order x)) b
  falls earlier [] e l x b h out s = absurd cc
  falls earlier (f ∷ fs) e l x b h out s =
      by_test (bytes_eq f.name.name x) refl s
      (falls (earlier ++ f.name.name ∷ []) fs (e ∙ sym (append_assoc earlier (f.name.name ∷ []) (formula_names fs))) l.2 x b h)
    where
      lower : (y : Name) → IsEarlier file earlier y → FallsTo (formula_body file) (place_in order) (place_in order x) y
      lower y (inl early) = record {
        below =
            λ c k.
            let a : place_in order y < length earlier = subst (λ (o : List Name). place_in o y < length earlier) (sym e) (place_in_front earlier (formula_names (f ∷ fs)) y early) in
            let d : length earlier ≤ place_in order x = subst (λ (o : List Name). length earlier ≤ place_in o x) (sym e) (place_behind earlier (formula_names (f ∷ fs)) x out) in
            omega arith;
      }
      lower y (inr none) = record { below = λ c k. absurd (let no = sym none ∙ k in cc) }

      same_body : (c : Expression) → formula_body file x ≡ Some c → c ≡ b
      same_body c k = let both = sym k ∙ h in cc

      by_test : (t : Bool) → bytes_eq f.name.name x ≡ t → (t || stands (formula_names fs) x) ≡ true →
          (stands (earlier ++ f.name.name ∷ []) x ≡ false → stands (formula_names fs) x ≡ true → AllNames (FallsTo (formula_body file) (place_in order) (place_in order x)) b) →
          AllNames (FallsTo (formula_body file) (place_in order) (place_in order x)) b
      by_test true t k ih =
          subst (λ (c : Expression). AllNames (FallsTo (formula_body file) (place_in order) (place_in order x)) c)
          (same_body f.body (ap (formula_body file) (sym ((bytes_eq-Decides f.name.name x).0 t)) ∙ l.0))
          (names_then (IsEarlier file earlier) (FallsTo (formula_body file) (place_in order) (place_in order x)) lower f.body l.1)
      by_test false t k ih = ih (list_any-append (λ y. bytes_eq y x) earlier (f.name.name ∷ []) ∙ neither out t) k
        where
          neither : stands earlier x ≡ false → bytes_eq f.name.name x ≡ false → (stands earlier x || (bytes_eq f.name.name x || false)) ≡ false
          neither a d = cc

-- so their names are an order of the formulas
pub places_order : (file : File) (places : List ℕ) → IsPlaceOrder file places → IsOrder file (formula_names (at_places file.formulas places))
places_order file places placed = record {
  covers = λ x b h. stands_place (formula_names fs) x (placed.covers x b h);
  count =
      let a = at_most_places file.formulas places in
      let b = length-map fs (λ f. f.name.name) in
      let c = placed.count in
      omega (arith, a, b, c);
  falling = record { falls = λ x b h. falls file (formula_names fs) [] fs refl placed.listed x b h refl (placed.covers x b h) };
}
  where
    fs : List Formula
    fs = at_places file.formulas places
