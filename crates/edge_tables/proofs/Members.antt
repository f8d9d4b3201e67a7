-- Elements and edges that are found at their numbers.
use Rattle.std.specs.Prelude.{◌≡◌, ℕ, zero, suc, ◌+◌, ◌<◌, ◌≤◌, List, [], ◌∷◌, ◌++◌, length, Bool, true, false, cond, Option, Some, None, if◌then◌else◌, nat_eq, get_or, slice_get}
use Rattle.std.specs.List.{filter, find, All}
use Rattle.std.proofs.Common.{refl, sym, ap, ap₂, ◌∙◌, subst, arith, eq-eqb}
use Rattle.std.proofs.lemmas.Bool.{ne_eqb}
use Rattle.std.proofs.lemmas.Option.{slice_get-get_or}
use Rattle.std.proofs.lemmas.List.Elements.{All-nil, All-cons, All-head, All-tail, All-weaker, All-filter}
use Rattle.jani_tree.specs.Syntax.{Edge, File}
use Rattle.jani_meaning.specs.Elements as jani
use Rattle.process_core.specs.Instance.{numbered, only_if}
use Rattle.prism_translation.specs.Elements.{Element, elements, edges_of, Placed, placed_edges}
use Rattle.prism_translation.proofs.Numbered.{placed_from}
use Rattle.edge_tables.proofs.Numbered.{no_places}

-- ---- members at places

pub not_found : {X : Type 0} (p : X → Bool) (xs : List X) → find p xs ≡ None → All (λ x. p x ≡ false) xs
not_found p [] h = All-nil (λ x. p x ≡ false)
not_found {X = X} p (x ∷ xs) h = by_test (p x) refl h (not_found p xs)
  where
    by_test : (b : Bool) → p x ≡ b → (if b then Some x else find p xs) ≡ None → (find p xs ≡ None → All (λ x. p x ≡ false) xs) → All (λ x. p x ≡ false) (x ∷ xs)
    by_test true e g ih = absurd cc
    by_test false e g ih = All-cons (λ x. p x ≡ false) x xs e (ih g)

-- ---- what is numbered stands at its number
module _ {X Y : Type 0} (f : ℕ → X → Y) (n : Y → ℕ) (is : (i : ℕ) (x : X) → n (f i x) ≡ i) where
  number_at : (k : ℕ) (xs : List X) (i : ℕ) (d : Y) → i < length (numbered (λ j x. f j x ∷ []) k xs) → n (get_or (numbered (λ j x. f j x ∷ []) k xs) i d) ≡ k + i
  number_at k [] i d l = absurd (omega arith)
  number_at k (x ∷ xs) zero d l = is k x ∙ omega arith
  number_at k (x ∷ xs) (suc i) d l = number_at (k + 1) xs i d (omega arith) ∙ omega arith

  pub all_found : (xs : List X) → All (λ y. slice_get (numbered (λ j x. f j x ∷ []) 0 xs) (n y) ≡ Some y) (numbered (λ j x. f j x ∷ []) 0 xs)
  all_found xs i d l =
      ap (slice_get (numbered (λ j x. f j x ∷ []) 0 xs)) (number_at 0 xs i d l ∙ (let e : 0 + i ≡ i = omega arith in e)) ∙ slice_get-get_or (numbered (λ j x. f j x ∷ []) 0 xs) i d l

-- ---- elements
abbrev pub IsElement : File → Element → Type 0
IsElement file el = slice_get (elements file) el.number ≡ Some el

pub all_elements : (file : File) → All (IsElement file) (elements file)
all_elements file = all_found (λ k a. record { number = k; automaton = a }) (λ (el : Element). el.number) (λ i a. refl) (jani.elements file)

pub edges_found : (el : Element) → All (λ p. slice_get (placed_edges el) p.number ≡ Some p) (placed_edges el)
edges_found el = all_found (λ i e. record { element = el; number = i; edge = e }) (λ (p : Placed). p.number) (λ i e. refl) (edges_of el)

pub same_element : (file : File) (el w : Element) → IsElement file el → IsElement file w → el.number ≡ w.number → w ≡ el
same_element file el w h k n = let e : ◌≡◌ {A = Option Element} (Some el) (Some w) = sym h ∙ ap (slice_get (elements file)) n ∙ k in let f : w ≡ el = cc in f

-- ---- an edge among those of its element
pub at_split : (P : Placed → Type 0) (el : Element) (n i : ℕ) (before after : List Edge) (e : Edge) → n ≡ i + length before → All P (placed_from el i (before ++ e ∷ after)) →
    P (record { element = el; number = n; edge = e })
at_split P el n i [] after e h l =
    subst (λ j. P (record { element = el; number = j; edge = e })) (let f : i ≡ n = omega arith in f) (All-head P (record { element = el; number = i; edge = e }) (placed_from el (i + 1) after) l)
at_split P el n i (b ∷ before) after e h l =
    at_split P el n (i + 1) before after e (omega arith) (All-tail P (record { element = el; number = i; edge = b }) (placed_from el (i + 1) (before ++ e ∷ after)) l)

from_number : (el : Element) (i : ℕ) (es : List Edge) → All (λ p. i ≤ p.number) (placed_from el i es)
from_number el i [] = All-nil (λ p. i ≤ p.number)
from_number el i (e ∷ es) =
    All-cons (λ p. i ≤ p.number) (record { element = el; number = i; edge = e }) (placed_from el (i + 1) es) (let l : i ≤ i = omega arith in l)
    (All-weaker (λ p. i + 1 ≤ p.number) (λ p. i ≤ p.number) (λ p l. omega (arith, l)) (placed_from el (i + 1) es) (from_number el (i + 1) es))

-- where it stands among those that pass a test
abbrev pub is_numbered : ℕ → Placed → Bool
is_numbered n q = nat_eq n q.number

module _ (el : Element) (h : Placed → Bool) where
  none_later : (n i s : ℕ) (es : List Edge) → n < i → numbered (λ j q. only_if (is_numbered n q) j) s (filter h (placed_from el i es)) ≡ []
  none_later n i s es l =
      no_places (is_numbered n) s (filter h (placed_from el i es))
      (All-filter h (λ q. is_numbered n q ≡ false) (placed_from el i es)
      (All-weaker (λ q. i ≤ q.number) (λ q. is_numbered n q ≡ false) (λ q m. ne_eqb n q.number (λ e. omega arith)) (placed_from el i es) (from_number el i es)))

  pub own_place : (n i s : ℕ) (before after : List Edge) (e : Edge) → n ≡ i + length before →
      numbered (λ j q. only_if (is_numbered n q) j) s (filter h (placed_from el i (before ++ e ∷ after)))
      ≡ only_if (h (record { element = el; number = n; edge = e })) (s + length (filter h (placed_from el i before)))
  own_place n i s [] after e is =
      by_test (h p) ∙ ap₂ (λ m k. only_if (h (record { element = el; number = m; edge = e })) k) same (let f : s ≡ s + 0 = omega arith in f)
    where
      p : Placed
      p = record { element = el; number = i; edge = e }

      same : i ≡ n
      same = omega arith

      later : List Placed
      later = filter h (placed_from el (i + 1) after)

      by_test : (b : Bool) → numbered (λ j q. only_if (is_numbered n q) j) s (cond b (p ∷ later) later) ≡ only_if b s
      by_test true = ap₂ (λ c l. only_if c s ++ l) (eq-eqb n i (sym same)) (none_later n (i + 1) (s + 1) after (omega arith))
      by_test false = none_later n (i + 1) s after (omega arith)
  own_place n i s (b ∷ before) after e is = by_test (h q) (λ m. own_place n (i + 1) m before after e (omega arith))
    where
      q : Placed
      q = record { element = el; number = i; edge = b }

      others : List Placed
      others = filter h (placed_from el (i + 1) (before ++ e ∷ after))

      earlier : List Placed
      earlier = filter h (placed_from el (i + 1) before)

      p : Placed
      p = record { element = el; number = n; edge = e }

      by_test : (c : Bool) → ((m : ℕ) → numbered (λ j q. only_if (is_numbered n q) j) m others ≡ only_if (h p) (m + length earlier)) →
          numbered (λ j q. only_if (is_numbered n q) j) s (cond c (q ∷ others) others) ≡ only_if (h p) (s + length (cond c (q ∷ earlier) earlier))
      by_test true ih =
          ap (λ c. only_if c s ++ numbered (λ j q. only_if (is_numbered n q) j) (s + 1) others) (ne_eqb n i (λ f. omega arith))
          ∙ ih (s + 1)
          ∙ ap (only_if (h p)) (let f : s + 1 + length earlier ≡ s + length (q ∷ earlier) = omega arith in f)
      by_test false ih = ih s
