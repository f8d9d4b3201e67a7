-- What is read of files is as it is to be judged.
use Rattle.std.proofs.Common.{◌≡◌, ℕ, suc, ◌<◌, ◌≤◌, List, [], ◌∷◌, ◌++◌, ◌&&◌, ◌||◌, nat_eq, Bool, true, false, Ok, length, refl, sym, ap, ◌∙◌, subst, append-nil, append_assoc, length-append, arith}
use Rattle.std.specs.List.{list_any, All}
use Rattle.std.proofs.lemmas.List.{length-map}
use Rattle.std.proofs.lemmas.List.Elements.{All-push, All-nil}
use Rattle.basics.specs.Booleans.{first_false, second_false}
use Rattle.frac_core.specs.Fraction.{Fraction, nought}
use Rattle.frac_core.specs.Order.{AtMost}
use Rattle.row_check.specs.declared.data.Row.{Row}
use Rattle.row_check.specs.declared.data.ReadRows.{ReadRows}
use Rattle.row_check.specs.declared.data.ReadPath.{ReadPath}
use Rattle.row_check.specs.Lines.{Line, lines, Hold, AreReadAs, AreReadBehind}
use Rattle.row_check.specs.Rows.{same_choice, FollowEachOther, AreOrdered, RowsDiffer, AreReadRows}
use Rattle.row_check.specs.Forms.{IsHeader, MayFollow, IsRowLine, IsBoundLine, IsCounts, ReadsFirst, rows_said}
use Rattle.row_check.specs.Laws.{RowFilesOrdered, PathFileWhole, WeightsNotNegative, BoundsNotNegative}
use Rattle.row_check.proofs.NotNegative.{probability_not_negative}

-- what holds of no members, and is kept by one more, holds of what lines hold
holds_after : {C : Type 0} (Next : List C → List ℕ → C → Type 0) (P : List C → Type 0) → ((before : List C) (text : List ℕ) (c : C) → P before → Next before text c → P (before ++ c ∷ [])) →
    (before : List C) (ls : List Line) (cs : List C) → P before → Hold Next before ls cs → P (before ++ cs)
holds_after Next P step before [] cs p h = subst P (sym (ap (λ l. before ++ l) h ∙ append-nil before)) p
holds_after Next P step before (l ∷ ls) [] p h = absurd h
holds_after Next P step before (l ∷ ls) (c ∷ cs) p h =
    subst P (append_assoc before (c ∷ []) cs) (holds_after Next P step (before ++ c ∷ []) ls cs (step before l.text c p h.0) h.1)

record Good (n : ℕ) (rs : List Row) : Type 0 where
  ordered : AreOrdered rs
  sources : All (λ r. r.source < n) rs
  differ : RowsDiffer rs

pub ordered_push : (rs : List Row) (r : Row) → AreOrdered rs → MayFollow rs r → AreOrdered (rs ++ r ∷ [])
ordered_push [] r h k = (k, tt)
ordered_push (q ∷ rs) r h k = (h.0, chain q rs h.1 k)
  where
    chain : (q : Row) (rs : List Row) → FollowEachOther q rs → MayFollow (q ∷ rs) r → FollowEachOther q (rs ++ r ∷ [])
    chain q [] h k = (k, tt)
    chain q (p ∷ rs) h k = (h.0, chain p rs h.1 k)

differ_push : (rs : List Row) (r : Row) → RowsDiffer rs → list_any (λ q. same_choice q r && nat_eq q.target r.target) rs ≡ false → RowsDiffer (rs ++ r ∷ [])
differ_push [] r h k = (refl, tt)
differ_push (q ∷ rs) r h k =
    (none_push (λ p. same_choice q p && nat_eq q.target p.target) rs h.0 (first_false (same_choice q r && nat_eq q.target r.target) _ k), differ_push rs r h.1 (second_false (same_choice q r && nat_eq q.target r.target) _ k))
  where
    none_push : (p : Row → Bool) (xs : List Row) → list_any p xs ≡ false → p r ≡ false → list_any p (xs ++ r ∷ []) ≡ false
    none_push p [] h k = ap (λ b. b || false) k
    none_push p (x ∷ xs) h k = by_first (none_push p xs) (p x) h
      where
        by_first : (list_any p xs ≡ false → p r ≡ false → list_any p (xs ++ r ∷ []) ≡ false) → (b : Bool) → (b || list_any p xs) ≡ false → (b || list_any p (xs ++ r ∷ [])) ≡ false
        by_first ih true e = absurd cc
        by_first ih false e = ih e k

row_kept : (n : ℕ) (before : List Row) (text : List ℕ) (r : Row) → Good n before → IsRowLine n before text r → Good n (before ++ r ∷ [])
row_kept n before text r g l = record {
  ordered = ordered_push before r g.ordered l.may_come.order;
  sources = All-push (λ (q : Row). q.source < n) before r g.sources l.may_come.source;
  differ = differ_push before r g.differ l.may_come.new;
}

rows_good : (n : ℕ) (ls : List Line) (rs : List Row) → Hold (IsRowLine n) [] ls rs → Good n rs
rows_good n ls rs h = holds_after (IsRowLine n) (Good n) (row_kept n) [] ls rs (record { ordered = tt; sources = All-nil (λ (q : Row). q.source < n); differ = tt }) h

pub row_files_ordered : RowFilesOrdered
row_files_ordered p states rows r h = by_lines (lines rows) h.1
  where
    by_lines : (ls : List Line) → AreReadBehind IsCounts (λ c. AreReadAs (IsRowLine (length r.states)) (rows_said r.states c)) (length rows) ls (Ok r) → AreReadRows r
    by_lines [] h = absurd h
    by_lines (l ∷ ls) h =
        let e : h.2.0 ≡ r.rows = sym (ap (λ (q : ReadRows). q.rows) h.2.2) in
        let g = subst (Good (length r.states)) e (rows_good (length r.states) ls h.2.0 h.2.1) in
        record { ordered = g.ordered; sources = g.sources; differ = g.differ }

-- ---- no number is negative
row_not_negative : (n : ℕ) (before : List Row) (text : List ℕ) (r : Row) → All (λ (q : Row). AtMost nought q.weight) before → IsRowLine n before text r → All (λ (q : Row). AtMost nought q.weight) (before ++ r ∷ [])
row_not_negative n before text r h l = All-push (λ (q : Row). AtMost nought q.weight) before r h (probability_not_negative l.row.weight r.weight l.row.weight_is)

pub weights_not_negative : WeightsNotNegative
weights_not_negative p states rows r h = by_lines (lines rows) h.1
  where
    by_lines : (ls : List Line) → AreReadBehind IsCounts (λ c. AreReadAs (IsRowLine (length r.states)) (rows_said r.states c)) (length rows) ls (Ok r) → All (λ (q : Row). AtMost nought q.weight) r.rows
    by_lines [] h = absurd h
    by_lines (l ∷ ls) h =
        subst (All (λ (q : Row). AtMost nought q.weight)) (sym (ap (λ (q : ReadRows). q.rows) h.2.2))
        (holds_after (IsRowLine (length r.states)) (All (λ (q : Row). AtMost nought q.weight)) (row_not_negative (length r.states)) [] ls h.2.0 (All-nil (λ (q : Row). AtMost nought q.weight)) h.2.1)

bound_not_negative : (n : ℕ) (before : List Fraction) (text : List ℕ) (x : Fraction) → All (AtMost nought) before → IsBoundLine n before text x → All (AtMost nought) (before ++ x ∷ [])
bound_not_negative n before text x h l = All-push (AtMost nought) before x h (probability_not_negative l.value x l.value_is)

pub bounds_not_negative : BoundsNotNegative
bounds_not_negative n bytes xs h = holds_after (IsBoundLine n) (All (AtMost nought)) (bound_not_negative n) [] (lines bytes) xs (All-nil (AtMost nought)) h.0

-- ---- there are no more bounds than are wanted
one_bound : (n : ℕ) (before : List Fraction) (text : List ℕ) (x : Fraction) → length before ≤ n → IsBoundLine n before text x → length (before ++ x ∷ []) ≤ n
one_bound n before text x h l = let w = l.wanted in let e = length-append before (x ∷ []) in omega arith

pub bounds_few : (n : ℕ) (ls : List Line) (xs : List Fraction) → Hold (IsBoundLine n) [] ls xs → length xs ≤ n
bounds_few n ls xs h = holds_after (IsBoundLine n) (λ ys. length ys ≤ n) (one_bound n) [] ls xs (omega arith) h

pub path_file_whole : PathFileWhole
path_file_whole p bytes path h = by_header (lines bytes) h
  where
    by_first : (ls : List Line) → ReadsFirst (length bytes) ls (Ok path) → length path.states ≡ suc (length path.labels)
    by_first [] h = absurd h
    by_first (l ∷ ls) h =
        let steps = h.2.0 in
        let e = h.2.2 in
        ap (λ (p : ReadPath). length p.states) e ∙ ap suc (length-map steps (λ t. t.state) ∙ sym (length-map steps (λ t. t.label))) ∙ ap (λ (p : ReadPath). suc (length p.labels)) (sym e)

    by_header : (ls : List Line) → AreReadBehind (IsHeader p) (λ u. ReadsFirst (length bytes)) (length bytes) ls (Ok path) → length path.states ≡ suc (length path.labels)
    by_header [] h = absurd h
    by_header (l ∷ ls) h = by_first ls h.2
