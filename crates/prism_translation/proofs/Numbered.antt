-- Elements, edges and variables with their numbers: each stands once at its own.
use Rattle.std.specs.Prelude.{◌≡◌, ℕ, zero, suc, ◌+◌, ◌<◌, ◌≤◌, List, [], ◌∷◌, ◌++◌, length, Bool, true, false, ◌&&◌, cond, nat_eq, get_or}
use Rattle.std.specs.List.{flat_map, filter, list_any, count_by, All}
use Rattle.std.proofs.Common.{refl, sym, ap, ap₂, subst, ◌∙◌, arith, eq-eqb, append-nil, None, ne_eqb}
use Rattle.std.proofs.lemmas.Bool.{eqb-true, both_ways}
use Rattle.std.proofs.lemmas.List.Sums.{length-filter, sum_by-cons}
use Rattle.std.proofs.lemmas.List.Elements.{All-nil, All-cons, All-weaker, filter_agree}
use Rattle.std.proofs.Math.Bool.{or-false, and_comm}
use Rattle.basics.specs.Members.{any_agree}
use Rattle.basics.specs.Numbers.{nat_eq-self, nat_eq_comm}
use Rattle.choice_laws.proofs.Walks.{filter_agree_in, filter_none, filter-filter, kept_walk_in, any-filter}
use Rattle.process_core.specs.Instance.{numbered}
use Rattle.jani_tree.specs.Syntax.{boolean, Automaton, Edge, File, element_names}
use Rattle.jani_meaning.specs.Elements as jani
use Rattle.jani_meaning.specs.Elements.{Owned}
use Rattle.prism_translation.specs.Elements.{Element, Placed, placed_edges, edges_of, same_place, Lasting}
use Rattle.jani_meaning.specs.LoopLaws.{element_count}

-- where one alone passes a test, it is counted among those of any other test that it passes
counted_one : {Y : Type 0} (s r : Y → Bool) (y : Y) (ys : List Y) → filter s ys ≡ y ∷ [] → count_by s (filter r ys) ≡ cond (r y) 1 0
counted_one {Y} s r y ys h =
    sym (length-filter s (filter r ys))
    ∙ ap length (filter-filter s r ys ∙ filter_agree (λ x. r x && s x) (λ x. s x && r x) (λ x. and_comm (r x) (s x)) ys ∙ sym (filter-filter r s ys) ∙ ap (filter r) h)
    ∙ by_test (r y)
  where
    by_test : (b : Bool) → length (cond b (y ∷ []) []) ≡ cond b 1 0
    by_test true = refl
    by_test false = refl

-- ---- what is got where there is nothing
abbrev pub no_automaton : Automaton
no_automaton = record { name = record { name = []; at = 0 }; variables = []; locations = []; initial = []; edges = [] }

abbrev pub no_element : Element
no_element = record { number = 0; automaton = no_automaton }

abbrev pub no_owned : Owned
no_owned = record { owner = None; var = record { name = record { name = []; at = 0 }; kind = boolean; kind_at = 0; transient = false; start = None; note = None } }

abbrev pub no_lasting : Lasting
no_lasting = record { number = 0; owned = no_owned }

-- ---- lists of things that carry their numbers
module _ {X Y : Type 0} (make : ℕ → X → Y) (number : Y → ℕ) (is : (i : ℕ) (x : X) → number (make i x) ≡ i) where
  abbrev from : ℕ → List X → List Y
  from k xs = numbered (λ i x. make i x ∷ []) k xs

  length_from : (k : ℕ) (xs : List X) → length (from k xs) ≡ length xs
  length_from k [] = refl
  length_from k (x ∷ xs) = ap suc (length_from (k + 1) xs)

  member_from : (k : ℕ) (xs : List X) (i : ℕ) (d : Y) (e : X) → i < length xs → get_or (from k xs) i d ≡ make (k + i) (get_or xs i e)
  member_from k [] i d e l = absurd (let no : ⊥ = omega arith in no)
  member_from k (x ∷ xs) zero d e l = let o : k ≡ k + 0 = omega arith in ap (λ j. make j x) o
  member_from k (x ∷ xs) (suc i) d e l = member_from (k + 1) xs i d e (omega arith) ∙ (let o : (k + 1) + i ≡ k + suc i = omega arith in ap (λ j. make j (get_or xs i e)) o)

  above_from : (k : ℕ) (xs : List X) → All (λ y. k ≤ number y) (from k xs)
  above_from k [] = All-nil (λ y. k ≤ number y)
  above_from k (x ∷ xs) =
      All-cons (λ y. k ≤ number y) (make k x) (from (k + 1) xs) (let e = is k x in let l : k ≤ number (make k x) = omega arith in l)
      (All-weaker (λ y. k + 1 ≤ number y) (λ y. k ≤ number y) (λ y l. omega arith) (from (k + 1) xs) (above_from (k + 1) xs))

  below_from : (k : ℕ) (xs : List X) → All (λ y. number y < k + length xs) (from k xs)
  below_from k [] = All-nil (λ y. number y < k + 0)
  below_from k (x ∷ xs) =
      All-cons (λ y. number y < k + suc (length xs)) (make k x) (from (k + 1) xs) (let e = is k x in let l : number (make k x) < k + suc (length xs) = omega arith in l)
      (All-weaker (λ y. number y < (k + 1) + length xs) (λ y. number y < k + suc (length xs)) (λ y l. omega arith) (from (k + 1) xs) (below_from (k + 1) xs))

  -- at its number there is a member alone
  abbrev at_number : ℕ → Y → Bool
  at_number n z = nat_eq (number z) n

  none_at : (n k : ℕ) (xs : List X) → n < k → filter (at_number n) (from k xs) ≡ []
  none_at n k xs l =
      filter_none (at_number n) (from k xs)
      (All-weaker (λ y. k ≤ number y) (λ y. at_number n y ≡ false) (λ y h. ne_eqb (number y) n (λ e. omega arith)) (from k xs) (above_from k xs))

  one_at : (k : ℕ) (xs : List X) → All (λ y. filter (at_number (number y)) (from k xs) ≡ y ∷ []) (from k xs)
  one_at k [] = All-nil (λ y. filter (at_number (number y)) [] ≡ y ∷ [])
  one_at k (x ∷ xs) =
      let y = make k x in
      let rest = λ (n : ℕ). filter (at_number n) (from (k + 1) xs) in
      let e = is k x in
      All-cons (λ z. cond (at_number (number z) y) (y ∷ rest (number z)) (rest (number z)) ≡ z ∷ []) y (from (k + 1) xs)
      (ap₂ (λ (b : Bool) (l : List Y). cond b (y ∷ l) l) (nat_eq-self (number y)) (none_at (number y) (k + 1) xs (omega arith)))
      (λ i d l.
      let z = get_or (from (k + 1) xs) i d in
      let above : k + 1 ≤ number z = above_from (k + 1) xs i d l in
      ap (λ b. cond b (y ∷ rest (number z)) (rest (number z))) (ne_eqb (number y) (number z) (λ h. omega arith)) ∙ one_at (k + 1) xs i d l)

  -- it is counted at most once, whatever the number
  once_from : (k : ℕ) (xs : List X) (n : ℕ) → count_by (at_number n) (from k xs) ≤ 1
  once_from k [] n = omega arith
  once_from k (x ∷ xs) n = by_test (nat_eq (number (make k x)) n) refl (once_from (k + 1) xs n)
    where
      counted : count_by (at_number n) (from k (x ∷ xs)) ≡ cond (nat_eq (number (make k x)) n) 1 0 + count_by (at_number n) (from (k + 1) xs)
      counted = sum_by-cons (λ y. cond (at_number n y) 1 0) (make k x) (from (k + 1) xs)

      by_test : (b : Bool) → nat_eq (number (make k x)) n ≡ b → count_by (at_number n) (from (k + 1) xs) ≤ 1 → count_by (at_number n) (from k (x ∷ xs)) ≤ 1
      by_test true e ih =
          let same : number (make k x) ≡ n = eqb-true (number (make k x)) n e in
          let at = is k x in
          let none : count_by (at_number n) (from (k + 1) xs) ≡ 0 = sym (length-filter (at_number n) (from (k + 1) xs)) ∙ ap length (none_at n (k + 1) xs (omega arith)) in
          let c : count_by (at_number n) (from k (x ∷ xs)) ≡ 1 + 0 = counted ∙ ap₂ (λ b m. cond b 1 0 + m) e none in
          omega arith
      by_test false e ih =
          let c : count_by (at_number n) (from k (x ∷ xs)) ≡ 0 + count_by (at_number n) (from (k + 1) xs) = counted ∙ ap (λ b. cond b 1 0 + count_by (at_number n) (from (k + 1) xs)) e in
          omega arith

-- ---- elements
abbrev pub numbered_from : ℕ → List Automaton → List Element
numbered_from k xs = numbered (λ k a. record { number = k; automaton = a } ∷ []) k xs

abbrev element_made : ℕ → Automaton → Element
element_made k a = record { number = k; automaton = a }

abbrev element_number : Element → ℕ
element_number el = el.number

pub numbers_from : (k : ℕ) (xs : List Automaton) → All (λ el. k ≤ el.number) (numbered_from k xs)
numbers_from = above_from element_made element_number (λ i x. refl)

pub numbers_below : (k : ℕ) (xs : List Automaton) → All (λ el. el.number < k + length xs) (numbered_from k xs)
numbers_below = below_from element_made element_number (λ i x. refl)

pub element_length : (k : ℕ) (xs : List Automaton) → length (numbered_from k xs) ≡ length xs
element_length = length_from element_made element_number (λ i x. refl)

element_at : (k : ℕ) (xs : List Automaton) (i : ℕ) (d : Element) (e : Automaton) → i < length xs → get_or (numbered_from k xs) i d ≡ record { number = k + i; automaton = get_or xs i e }
element_at = member_from element_made element_number (λ i x. refl)

pub element_numbers : (k : ℕ) (xs : List Automaton) (i : ℕ) (d : Element) → i < length xs → (get_or (numbered_from k xs) i d).number ≡ k + i
element_numbers k xs i d l = ap (λ (el : Element). el.number) (element_at k xs i d d.automaton l)

pub automaton_at : (k : ℕ) (xs : List Automaton) (i : ℕ) (d : Element) (e : Automaton) → i < length xs → (get_or (numbered_from k xs) i d).automaton ≡ get_or xs i e
automaton_at k xs i d e l = ap (λ (el : Element). el.automaton) (element_at k xs i d e l)

pub element_has : (P : Automaton → Type 0) (k : ℕ) (xs : List Automaton) → All P xs → All (λ (el : Element). P el.automaton) (numbered_from k xs)
element_has P k xs h i d l =
    let n = element_length k xs in
    let e = d.automaton in
    subst P (sym (automaton_at k xs i d e (omega arith))) (h i e (omega arith))

-- what holds of the automata of elements holds of the automata
pub element_all : (P : Automaton → Type 0) (k : ℕ) (xs : List Automaton) → All (λ (el : Element). P el.automaton) (numbered_from k xs) → All P xs
element_all P k xs h i e l =
    let n = element_length k xs in
    let d : Element = record { number = 0; automaton = e } in
    subst P (automaton_at k xs i d e (omega arith)) (h i d (omega arith))

pub element_once : (k : ℕ) (xs : List Automaton) (j : ℕ) → count_by (λ el. nat_eq el.number j) (numbered_from k xs) ≤ 1
element_once = once_from element_made element_number (λ i x. refl)

pub element_alone : (k : ℕ) (xs : List Automaton) → All (λ w. filter (λ el. nat_eq el.number w.number) (numbered_from k xs) ≡ w ∷ []) (numbered_from k xs)
element_alone = one_at element_made element_number (λ i x. refl)

pub automata_length : (file : File) → length (jani.elements file) ≡ length (element_names file)
automata_length file = element_count file

-- a walk with numbers is one over elements
pub numbered_walk : {Y : Type 0} (g : Element → List Y) (k : ℕ) (xs : List Automaton) → flat_map g (numbered_from k xs) ≡ numbered (λ k a. g (record { number = k; automaton = a })) k xs
numbered_walk g k [] = refl
numbered_walk g k (a ∷ xs) = ap (λ l. g (record { number = k; automaton = a }) ++ l) (numbered_walk g (k + 1) xs)

-- where the other elements give nothing, a walk gives what one gives
pub one_element : {Y : Type 0} (f : Element → List Y) (k : ℕ) (xs : List Automaton) →
    All (λ w. ((el : Element) → (el.number ≡ w.number → ⊥) → f el ≡ []) → flat_map f (numbered_from k xs) ≡ f w) (numbered_from k xs)
one_element {Y} f k xs i d l h =
    let w = get_or (numbered_from k xs) i d in
    let here = λ (el : Element). nat_eq el.number w.number in
    kept_walk_in here f f (numbered_from k xs) (λ j e m. passes w (get_or (numbered_from k xs) j e) h)
    ∙ ap (flat_map f) (element_alone k xs i d l) ∙ append-nil (f w)
  where
    passes : (w el : Element) → ((u : Element) → (u.number ≡ w.number → ⊥) → f u ≡ []) → (nat_eq el.number w.number ≡ true → f el ≡ f el) × (nat_eq el.number w.number ≡ false → f el ≡ [])
    passes w el h = ((λ e. refl), (λ e. h el (λ same. both_ways _ e (eq-eqb el.number w.number same))))

-- a test of an element is one of all elements with its number
pub told_by_number : (g : Element → Bool) (k : ℕ) (xs : List Automaton) → All (λ el. list_any (λ e. g e && nat_eq e.number el.number) (numbered_from k xs) ≡ g el) (numbered_from k xs)
told_by_number g k xs i d l =
    let el = get_or (numbered_from k xs) i d in
    any_agree (λ e. g e && nat_eq e.number el.number) (λ e. nat_eq e.number el.number && g e) (λ e. and_comm (g e) (nat_eq e.number el.number)) (numbered_from k xs)
    ∙ sym (any-filter g (λ e. nat_eq e.number el.number) (numbered_from k xs))
    ∙ ap (list_any g) (element_alone k xs i d l) ∙ or-false (g el)

-- elements with one number are one
pub same_element : (k : ℕ) (xs : List Automaton) → All (λ a. All (λ b. a.number ≡ b.number → a ≡ b) (numbered_from k xs)) (numbered_from k xs)
same_element k [] = All-nil (λ a. All (λ b. a.number ≡ b.number → a ≡ b) [])
same_element k (x ∷ xs) =
    let el : Element = record { number = k; automaton = x } in
    let rest = numbered_from (k + 1) xs in
    All-cons (λ a. All (λ b. a.number ≡ b.number → a ≡ b) (el ∷ rest)) el rest
    (All-cons (λ b. el.number ≡ b.number → el ≡ b) el rest (λ e. refl)
    (λ i d l e. let above : k + 1 ≤ (get_or rest i d).number = numbers_from (k + 1) xs i d l in absurd (let no : ⊥ = omega arith in no)))
    (λ i d l.
    let a = get_or rest i d in
    All-cons (λ b. a.number ≡ b.number → a ≡ b) el rest
    (λ e. let above : k + 1 ≤ a.number = numbers_from (k + 1) xs i d l in absurd (let no : ⊥ = omega arith in no))
    (same_element (k + 1) xs i d l))

-- ---- edges of an element
abbrev pub placed_from : Element → ℕ → List Edge → List Placed
placed_from n i es = numbered (λ j e. record { element = n; number = j; edge = e } ∷ []) i es

abbrev edge_number : Placed → ℕ
edge_number p = p.number

pub at_element : (n : Element) (i : ℕ) (es : List Edge) → All (λ p. p.element ≡ n) (placed_from n i es)
at_element n i [] = All-nil (λ p. p.element ≡ n)
at_element n i (e ∷ es) = All-cons (λ p. p.element ≡ n) (record { element = n; number = i; edge = e }) (placed_from n (i + 1) es) refl (at_element n (i + 1) es)

-- at its place there is the edge alone
pub own_place : (n : Element) (i : ℕ) (es : List Edge) → All (λ q. filter (λ p. same_place p q) (placed_from n i es) ≡ q ∷ []) (placed_from n i es)
own_place n i es k d l =
    let q = get_or (placed_from n i es) k d in
    filter_agree_in (λ p. same_place p q) (λ p. nat_eq p.number q.number) (placed_from n i es)
    (λ j e m.
    let p = get_or (placed_from n i es) j e in
    ap (λ b. b && nat_eq p.number q.number) (ap₂ (λ (a b : Element). nat_eq a.number b.number) (at_element n i es j e m) (at_element n i es k d l) ∙ nat_eq-self n.number))
    ∙ one_at (λ j e. record { element = n; number = j; edge = e }) edge_number (λ j e. refl) i es k d l

-- at another element there is none
pub other_place : (q : Placed) (el : Element) → (el.number ≡ q.element.number → ⊥) → filter (λ p. same_place p q) (placed_edges el) ≡ []
other_place q el n =
    filter_none (λ p. same_place p q) (placed_edges el)
    (All-weaker (λ p. p.element ≡ el) (λ p. same_place p q ≡ false)
    (λ p e. ap (λ b. b && nat_eq p.number q.number) (ne_eqb p.element.number q.element.number (λ h. n (sym (ap (λ (x : Element). x.number) e) ∙ h))))
    (placed_edges el) (at_element el 0 (edges_of el)))

-- an edge is counted once among those that pass a test, if it passes
pub counted_own : (r : Placed → Bool) (n : Element) (i : ℕ) (es : List Edge) → All (λ p. count_by (same_place p) (filter r (placed_from n i es)) ≡ cond (r p) 1 0) (placed_from n i es)
counted_own r n i es k d l =
    let p = get_or (placed_from n i es) k d in
    counted_one (same_place p) r p (placed_from n i es)
    (filter_agree (same_place p) (λ q. same_place q p) (λ q. ap₂ (λ a b. a && b) (nat_eq_comm p.element.number q.element.number) (nat_eq_comm p.number q.number)) (placed_from n i es)
    ∙ own_place n i es k d l)

-- ---- variables that are not transient
abbrev pub lasting_from : ℕ → List Owned → List Lasting
lasting_from k os = numbered (λ i o. record { number = i; owned = o } ∷ []) k os

abbrev lasting_made : ℕ → Owned → Lasting
lasting_made k o = record { number = k; owned = o }

abbrev lasting_number : Lasting → ℕ
lasting_number x = x.number

pub lasting_below : (k : ℕ) (os : List Owned) → All (λ (x : Lasting). x.number < k + length os) (lasting_from k os)
lasting_below = below_from lasting_made lasting_number (λ i x. refl)

pub lasting_length : (k : ℕ) (os : List Owned) → length (lasting_from k os) ≡ length os
lasting_length = length_from lasting_made lasting_number (λ i x. refl)

lasting_at : (k : ℕ) (os : List Owned) (i : ℕ) (d : Lasting) (e : Owned) → i < length os → get_or (lasting_from k os) i d ≡ record { number = k + i; owned = get_or os i e }
lasting_at = member_from lasting_made lasting_number (λ i x. refl)

pub lasting_numbers : (k : ℕ) (os : List Owned) (i : ℕ) (d : Lasting) → i < length os → (get_or (lasting_from k os) i d).number ≡ k + i
lasting_numbers k os i d l = ap (λ (x : Lasting). x.number) (lasting_at k os i d d.owned l)

pub lasting_owned_at : (k : ℕ) (os : List Owned) (i : ℕ) (d : Lasting) (e : Owned) → i < length os → (get_or (lasting_from k os) i d).owned ≡ get_or os i e
lasting_owned_at k os i d e l = ap (λ (x : Lasting). x.owned) (lasting_at k os i d e l)

-- a variable is counted once among those that pass a test, if it passes
pub lasting_counted : (P : Lasting → Bool) (k : ℕ) (os : List Owned) → All (λ (x : Lasting). count_by (λ (y : Lasting). nat_eq y.number x.number) (filter P (lasting_from k os)) ≡ cond (P x) 1 0) (lasting_from k os)
lasting_counted P k os i d l =
    let x = get_or (lasting_from k os) i d in
    counted_one (λ (y : Lasting). nat_eq y.number x.number) P x (lasting_from k os) (one_at lasting_made lasting_number (λ i x. refl) k os i d l)

-- what holds of the variables holds of them with their numbers
pub lasting_owned : (P : Owned → Type 0) (k : ℕ) (os : List Owned) → All P os → All (λ (x : Lasting). P x.owned) (lasting_from k os)
lasting_owned P k os h i d l =
    let n = lasting_length k os in
    let e = d.owned in
    subst (λ (x : Lasting). P x.owned) (sym (lasting_at k os i d e (omega arith))) (h i e (omega arith))
