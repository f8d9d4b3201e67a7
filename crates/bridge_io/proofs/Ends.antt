-- The place of the end of some bytes, and of the end of one byte more.
use Rattle.std.proofs.Common.{arith, ◌≡◌, ℕ, ◌+◌, ◌-◌, ◌<◌, ◌≤◌, Bool, true, false, cond, not, List, [], ◌∷◌, ◌++◌, length, get_or, take, count_by, refl, ap, sym, subst, ◌∙◌, append_assoc}
use Rattle.std.specs.Prelude.{◌==◌}
use Rattle.std.specs.List.{prefix_len, suffix_len, after_last}
use Rattle.std.proofs.lemmas.Bool.{false_from_ne_true, eqb-true}
use Rattle.std.proofs.lemmas.List.{take_all, take_more, length-drop, reverse-append}
use Rattle.std.proofs.lemmas.List.Sums.{sum_by_push, count_by-le-length, suffix_len-le-length}
use Rattle.bridge_io.specs.Place.{line_at, column_at, IsEnd}

module _ {X : Type 0} (p : X → Bool) where
  pub since_is : (xs : List X) → length (after_last p xs) ≡ suffix_len (λ x. not (p x)) xs
  since_is xs =
      let within : suffix_len (λ x. not (p x)) xs ≤ length xs = suffix_len-le-length (λ x. not (p x)) xs in
      length-drop (length xs - suffix_len (λ x. not (p x)) xs) xs ∙ omega arith

  pub count_push : (xs : List X) (x : X) → count_by p (xs ++ x ∷ []) ≡ count_by p xs + cond (p x) 1 0
  count_push xs x = sum_by_push (λ y. cond (p y) 1 0) xs x

  turned : (b : Bool) (n m : ℕ) → m ≡ n → cond (not b) (1 + n) 0 ≡ cond b 0 (1 + m)
  turned true n m e = refl
  turned false n m e = ap (λ k. 1 + k) (sym e)

  pub since_push : (xs : List X) (x : X) → length (after_last p (xs ++ x ∷ [])) ≡ cond (p x) 0 (1 + length (after_last p xs))
  since_push xs x =
      since_is (xs ++ x ∷ []) ∙ ap (prefix_len (λ y. not (p y))) (reverse-append xs (x ∷ []))
      ∙ turned (p x) (suffix_len (λ y. not (p y)) xs) (length (after_last p xs)) (since_is xs)

pub line_whole : (bytes : List ℕ) → line_at bytes (length bytes) ≡ 1 + count_by (λ b. b == 10) bytes
line_whole bytes = ap (λ l. 1 + count_by (λ b. b == 10) l) (take_all (length bytes) bytes (omega arith))

pub column_whole : (bytes : List ℕ) → column_at bytes (length bytes) ≡ 1 + length (after_last (λ b. b == 10) bytes)
column_whole bytes = ap (λ l. 1 + length (after_last (λ b. b == 10) l)) (take_all (length bytes) bytes (omega arith))

ends : (b : ℕ) → b ≡ 10 → (b == 10) ≡ true
ends b is = ap (λ k. k == 10) is

pub ends_none : (b : ℕ) → (b ≡ 10 → ⊥) → (b == 10) ≡ false
ends_none b other = false_from_ne_true (b == 10) (λ t. other (eqb-true b 10 t))

-- behind the end of a line
pub next_line : (line column b : ℕ) (bytes : List ℕ) → b ≡ 10 → IsEnd line column bytes → IsEnd (line + 1) 1 (bytes ++ b ∷ [])
next_line line column b bytes is end =
    let more : count_by (λ k. k == 10) (bytes ++ b ∷ []) ≡ count_by (λ k. k == 10) bytes + 1 =
    count_push (λ k. k == 10) bytes b ∙ ap (λ e. count_by (λ k. k == 10) bytes + cond e 1 0) (ends b is) in
    let none : length (after_last (λ k. k == 10) (bytes ++ b ∷ [])) ≡ 0 =
    since_push (λ k. k == 10) bytes b ∙ ap (λ e. cond e 0 (1 + length (after_last (λ k. k == 10) bytes))) (ends b is) in
    record {
      line_is = ap (λ n. n + 1) (end.line_is ∙ line_whole bytes) ∙ omega (arith, more) ∙ sym (line_whole (bytes ++ b ∷ []));
      column_is = omega (arith, none) ∙ sym (column_whole (bytes ++ b ∷ []));
    }

-- behind any other byte
pub next_column : (line column b : ℕ) (bytes : List ℕ) → (b ≡ 10 → ⊥) → IsEnd line column bytes → IsEnd line (column + 1) (bytes ++ b ∷ [])
next_column line column b bytes other end =
    let same : count_by (λ k. k == 10) (bytes ++ b ∷ []) ≡ count_by (λ k. k == 10) bytes + 0 =
    count_push (λ k. k == 10) bytes b ∙ ap (λ e. count_by (λ k. k == 10) bytes + cond e 1 0) (ends_none b other) in
    let more : length (after_last (λ k. k == 10) (bytes ++ b ∷ [])) ≡ 1 + length (after_last (λ k. k == 10) bytes) =
    since_push (λ k. k == 10) bytes b ∙ ap (λ e. cond e 0 (1 + length (after_last (λ k. k == 10) bytes))) (ends_none b other) in
    record {
      line_is = end.line_is ∙ line_whole bytes ∙ omega (arith, same) ∙ sym (line_whole (bytes ++ b ∷ []));
      column_is = ap (λ n. n + 1) (end.column_is ∙ column_whole bytes) ∙ omega (arith, more) ∙ sym (column_whole (bytes ++ b ∷ []));
    }

-- behind one byte more of a piece
pub end_next : (line column : ℕ) (bytes piece : List ℕ) (i d : ℕ) → i < length piece → IsEnd line column ((bytes ++ take i piece) ++ get_or piece i d ∷ []) → IsEnd line column (bytes ++ take (i + 1) piece)
end_next line column bytes piece i d within end =
    let same : (bytes ++ take i piece) ++ get_or piece i d ∷ [] ≡ bytes ++ take (i + 1) piece =
    append_assoc bytes (take i piece) (get_or piece i d ∷ []) ∙ ap (λ l. bytes ++ l) (sym (take_more piece i d within)) in
    subst (IsEnd line column) same end

pub end_of_all : (line column : ℕ) (bytes piece : List ℕ) (i : ℕ) → length piece ≤ i → IsEnd line column (bytes ++ take i piece) → IsEnd line column (bytes ++ piece)
end_of_all line column bytes piece i past end = subst (λ l. IsEnd line column (bytes ++ l)) (take_all i piece past) end

pub end_line_le : (line column : ℕ) (bytes : List ℕ) → IsEnd line column bytes → line ≤ length bytes + 1
end_line_le line column bytes end = omega (arith, end.line_is ∙ line_whole bytes, count_by-le-length (λ b. b == 10) bytes)

pub end_column_le : (line column : ℕ) (bytes : List ℕ) → IsEnd line column bytes → column ≤ length bytes + 1
end_column_le line column bytes end = omega (arith, end.column_is ∙ column_whole bytes, since_is (λ b. b == 10) bytes, suffix_len-le-length (λ b. not (b == 10)) bytes)

-- the place of an offset is that of the end of the bytes before it
pub end_before : (line column : ℕ) (bytes : List ℕ) (offset : ℕ) → IsEnd line column (take offset bytes) → (line ≡ line_at bytes offset) × (column ≡ column_at bytes offset)
end_before line column bytes offset end = (end.line_is ∙ line_whole (take offset bytes), end.column_is ∙ column_whole (take offset bytes))
