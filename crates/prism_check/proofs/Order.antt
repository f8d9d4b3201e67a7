-- An order of a file's formulas is one of each file that is the same but for places, where the formulas have different names.
use Rattle.std.specs.Prelude.{◌≡◌, ℕ, zero, suc, get_or, ◌<◌, ◌≤◌, List, [], ◌∷◌, ◌++◌, map, length, Some, is_some, slice_get}
use Rattle.std.specs.List.{All, AllByRecursion as Each}
use Rattle.std.proofs.Common.{arith, refl, sym, ap, ap₂, subst, ◌∙◌, inl, inr}
use Rattle.std.proofs.lemmas.List.{length-map}
use Rattle.std.proofs.lemmas.Option.{slice_get-map}
use Rattle.basics.specs.Options.{none_of, has_some, if_some, if_some-map}
use Rattle.basics.specs.Mapped.{mapped}
use Rattle.op_trees.specs.Tree.{Truth, Number, Name as At, One, Two, Three, AllNames, bare}
use Rattle.op_trees.specs.SeenLaws.{names_then}
use Rattle.process_core.specs.Product.{map-flat_map, flat_map_agree}
use Rattle.process_core.specs.Ready.{Name}
use Rattle.prism_tree.specs.Syntax.{Expression, Formula, File}
use Rattle.prism_flat.specs.Names.{formula_body, is_formula}
use Rattle.prism_flat.specs.Places.{formula_names, at_places, stands, IsEarlier, IsListed, IsPlaceOrder}
use Rattle.prism_flat.specs.Same.{bare_formula, bare_file}
use Rattle.prism_check.specs.NameFaults.{doubled_names}
use Rattle.prism_check.proofs.PlaceOrder.{no_formula, first_of_name}
use Rattle.prism_check.proofs.SameNames.{is_formula-bare}

-- ---- lists
places-bare : (fs : List Formula) (places : List ℕ) → at_places (map bare_formula fs) places ≡ map bare_formula (at_places fs places)
places-bare fs places =
    flat_map_agree _ _ (λ i. ap if_some (slice_get-map bare_formula fs i) ∙ if_some-map bare_formula (slice_get fs i)) places
    ∙ sym (map-flat_map bare_formula (λ i. if_some (slice_get fs i)) places)

names-bare : (fs : List Formula) → formula_names (map bare_formula fs) ≡ formula_names fs
names-bare fs = mapped bare_formula _ _ (λ f. refl) fs

-- ---- what holds of each name of a tree
of_names-bare : (P : Name → Type 0) (e : Expression) → AllNames P (bare e) ≡ AllNames P e
of_names-bare P (Truth at b) = refl
of_names-bare P (Number at d) = refl
of_names-bare P (At at x) = refl
of_names-bare P (One at o a) = of_names-bare P a
of_names-bare P (Two at o a b) = ap₂ (λ A B. A × B) (of_names-bare P a) (of_names-bare P b)
of_names-bare P (Three at o a b c) = ap₂ {B = Type 0 → Type 0} (λ A F. F A) (of_names-bare P a) (ap₂ (λ B C A. A × B × C) (of_names-bare P b) (of_names-bare P c))

of_names_too : (P : Name → Type 0) (d e : Expression) → bare d ≡ bare e → AllNames P d → AllNames P e
of_names_too P d e h = subst (λ A. A) (sym (of_names-bare P d) ∙ ap (AllNames P) h ∙ of_names-bare P e)

-- ---- orders

-- what holds of each member of a list holds of one that is read
each_read : {A : Type 0} (P : A → Type 0) (d : A) (xs : List A) (i : ℕ) (ys : List A) → ((j : ℕ) → j < length xs → P (get_or xs j d)) → Each P ys → Each P (if_some (slice_get xs i) ++ ys)
each_read P d [] i ys h k = k
each_read P d (x ∷ xs) zero ys h k = (h 0 (omega arith), k)
each_read P d (x ∷ xs) (suc i) ys h k = each_read P d xs i ys (λ j l. h (suc j) (omega arith)) k

-- ---- the places
module _ (f g : File) (e : bare_file f ≡ bare_file g) where
  formulas : map bare_formula f.formulas ≡ map bare_formula g.formulas
  formulas = ap (λ x. x.formulas) e

  tests : is_formula f ≡ is_formula g
  tests = sym (is_formula-bare f) ∙ ap is_formula e ∙ is_formula-bare g

  lengths : length f.formulas ≡ length g.formulas
  lengths = sym (length-map f.formulas bare_formula) ∙ ap length formulas ∙ length-map g.formulas bare_formula

  at_places_alike : (places : List ℕ) → map bare_formula (at_places f.formulas places) ≡ map bare_formula (at_places g.formulas places)
  at_places_alike places = sym (places-bare f.formulas places) ∙ ap (λ fs. at_places fs places) formulas ∙ places-bare g.formulas places

  names_alike : (fs gs : List Formula) → map bare_formula fs ≡ map bare_formula gs → formula_names fs ≡ formula_names gs
  names_alike fs gs k = sym (names-bare fs) ∙ ap formula_names k ∙ names-bare gs

  earlier_too : (earlier : List Name) (x : Name) → IsEarlier f earlier x → IsEarlier g earlier x
  earlier_too earlier x (inl s) = inl s
  earlier_too earlier x (inr n) = inr (none_of (formula_body g x) (sym (ap (λ p. p x) tests) ∙ ap is_some n))

  listed_too : (earlier : List Name) (fs gs : List Formula) → map bare_formula fs ≡ map bare_formula gs →
      Each (λ c. formula_body g c.name.name ≡ Some c.body) gs → IsListed f earlier fs → IsListed g earlier gs
  listed_too earlier [] [] k h l = tt
  listed_too earlier [] (c ∷ gs) k h l = absurd cc
  listed_too earlier (b ∷ fs) [] k h l = absurd cc
  listed_too earlier (b ∷ fs) (c ∷ gs) k h l =
      let head : bare_formula b ≡ bare_formula c = cc in
      let tail : map bare_formula fs ≡ map bare_formula gs = cc in
      let names : b.name.name ≡ c.name.name = ap (λ d. d.name.name) head in (
        h.0,
        of_names_too (IsEarlier g earlier) b.body c.body (ap (λ d. d.body) head) (names_then (IsEarlier f earlier) (IsEarlier g earlier) (earlier_too earlier) b.body l.1),
        listed_too (earlier ++ c.name.name ∷ []) fs gs tail h.1 (subst (λ x. IsListed f (earlier ++ x ∷ []) fs) names l.2),
      )

  -- where no name is declared twice, so each formula is the first of its name
  module _ (once : doubled_names g ≡ []) where
    each_first : (places : List ℕ) → Each (λ c. formula_body g c.name.name ≡ Some c.body) (at_places g.formulas places)
    each_first [] = tt
    each_first (i ∷ is) = each_read (λ c. formula_body g c.name.name ≡ Some c.body) no_formula g.formulas i (at_places g.formulas is) (first_of_name g once) (each_first is)

    pub order_too : (places : List ℕ) → IsPlaceOrder f places → IsPlaceOrder g places
    order_too places p = record {
      within = subst (λ (n : ℕ). All (λ i. i < n) places) lengths p.within;
      count = subst (λ (n : ℕ). length places ≤ n) lengths p.count;
      listed = listed_too [] (at_places f.formulas places) (at_places g.formulas places) (at_places_alike places) (each_first places) p.listed;
      covers =
          λ x b k.
          let old = has_some (formula_body f x) (ap (λ t. t x) tests ∙ ap is_some k) in
          ap (λ ns. stands ns x) (sym (names_alike (at_places f.formulas places) (at_places g.formulas places) (at_places_alike places))) ∙ p.covers x old.0 old.1;
    }
