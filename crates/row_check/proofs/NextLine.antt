-- The next line of a file.
use Rattle.std.proofs.Common.{◌≡◌, ℕ, suc, ◌+◌, ◌<◌, ◌≤◌, List, [], ◌∷◌, ◌++◌, nat_eq, not, cond, Bool, true, false, if◌then◌else◌, length, take, drop, refl, sym, ap, ap₂, ◌∙◌, subst, arith, append-nil, append_assoc, length-drop, take_all, nat_lt, ltb-true, ltb-false, ◌-◌}
use Rattle.std.proofs.lemmas.List.{drop_all, drop-drop}
use Rattle.std.proofs.lemmas.List.Folds.{length-prefix_len}
use Rattle.std.specs.List.{prefix_len}
use Rattle.row_check.specs.Lines.{last_line, lines_from}

one_plus : (n : ℕ) → 1 + n ≡ suc n
one_plus n = omega arith

-- the bytes up to the line feed are the line
lines_skip : (at : ℕ) (line bs : List ℕ) → lines_from at line bs ≡ lines_from at (line ++ take (prefix_len (λ b. not (nat_eq b 10)) bs) bs) (drop (prefix_len (λ b. not (nat_eq b 10)) bs) bs)
lines_skip at line [] = ap (λ l. lines_from at l []) (sym (append-nil line))
lines_skip at line (b ∷ bs) = by_test (lines_skip at (line ++ b ∷ []) bs) (nat_eq b 10) refl
  where
    by_test : lines_from at (line ++ b ∷ []) bs ≡ lines_from at ((line ++ b ∷ []) ++ take (prefix_len (λ b. not (nat_eq b 10)) bs) bs) (drop (prefix_len (λ b. not (nat_eq b 10)) bs) bs) → (c : Bool) → c ≡ nat_eq b 10 →
        (if c then record { at = at; text = line } ∷ lines_from (at + length line + 1) [] bs else lines_from at (line ++ b ∷ []) bs)
        ≡ lines_from at (line ++ take (cond (not c) (1 + prefix_len (λ b. not (nat_eq b 10)) bs) 0) (b ∷ bs)) (drop (cond (not c) (1 + prefix_len (λ b. not (nat_eq b 10)) bs) 0) (b ∷ bs))
    by_test ih true e =
        ap (λ x. if x then record { at = at; text = line } ∷ lines_from (at + length line + 1) [] bs else lines_from at (line ++ b ∷ []) bs) e
        ∙ ap (λ l. lines_from at l (b ∷ bs)) (sym (append-nil line))
    by_test ih false e =
        let m = prefix_len (λ b. not (nat_eq b 10)) bs in
        ih ∙ ap (λ l. lines_from at l (drop m bs)) (append_assoc line (b ∷ []) (take m bs))
        ∙ ap (λ k. lines_from at (line ++ take k (b ∷ bs)) (drop k (b ∷ bs))) (sym (one_plus m))

-- what a prefix leaves is nothing, or begins with what doesn't pass
left_over : (bs : List ℕ) (r : ℕ) (rs : List ℕ) → drop (prefix_len (λ b. not (nat_eq b 10)) bs) bs ≡ r ∷ rs → nat_eq r 10 ≡ true
left_over [] r rs h = cc
left_over (b ∷ bs) r rs h = by_test (left_over bs r rs) (nat_eq b 10) refl h
  where
    by_test : (drop (prefix_len (λ b. not (nat_eq b 10)) bs) bs ≡ r ∷ rs → nat_eq r 10 ≡ true) → (c : Bool) → c ≡ nat_eq b 10 → drop (cond (not c) (1 + prefix_len (λ b. not (nat_eq b 10)) bs) 0) (b ∷ bs) ≡ r ∷ rs → nat_eq r 10 ≡ true
    by_test ih true e q = let f : b ≡ r = cc in ap (λ x. nat_eq x 10) (sym f) ∙ sym e
    by_test ih false e q = ih (ap (λ k. drop k (b ∷ bs)) (sym (one_plus (prefix_len (λ b. not (nat_eq b 10)) bs))) ∙ q)

last_some : (at : ℕ) (line : List ℕ) → 0 < length line → last_line at line ≡ record { at = at; text = line } ∷ []
last_some at [] l = absurd (omega arith)
last_some at (c ∷ line) l = refl

line_then : (at n : ℕ) (ws : List ℕ) → n ≡ prefix_len (λ b. not (nat_eq b 10)) ws → 0 < length ws → (r : List ℕ) → r ≡ drop n ws →
    lines_from at (take n ws) r ≡ record { at = at; text = take n ws } ∷ lines_from (at + n + 1) [] (drop (n + 1) ws)
line_then at n ws h l [] e =
    let none = ap length e in
    let short = length-drop n ws in
    let past : length ws ≤ n = omega arith in
    let whole = take_all n ws past in
    last_some at (take n ws) (subst (λ k. 0 < length k) (sym whole) l)
    ∙ ap (λ k. record { at = at; text = take n ws } ∷ lines_from (at + n + 1) [] k) (sym (drop_all (n + 1) ws (omega arith)))
line_then at n ws h l (x ∷ xs) e =
    let feed = left_over ws x xs (ap (λ k. drop k ws) (sym h) ∙ sym e) in
    let long : length (take n ws) ≡ n = ap (λ k. length (take k ws)) h ∙ length-prefix_len (λ b. not (nat_eq b 10)) ws ∙ sym h in
    let rest : xs ≡ drop (n + 1) ws = ap (drop 1) e ∙ drop-drop 1 n ws in
    ap (λ c. if c then record { at = at; text = take n ws } ∷ lines_from (at + length (take n ws) + 1) [] xs else lines_from at (take n ws ++ x ∷ []) xs) feed
    ∙ ap₂ (λ k m. record { at = at; text = take n ws } ∷ lines_from (at + k + 1) [] m) long rest

-- A line, and the lines behind it.
pub next_line : (at : ℕ) (ws : List ℕ) → 0 < length ws → (n : ℕ) → n ≡ prefix_len (λ b. not (nat_eq b 10)) ws →
    lines_from at [] ws ≡ record { at = at; text = take n ws } ∷ lines_from (at + n + 1) [] (drop (n + 1) ws)
next_line at ws l n h =
    lines_skip at [] ws ∙ ap (λ k. lines_from at (take k ws) (drop k ws)) (sym h) ∙ line_then at n ws h l (drop n ws) refl

-- the line that begins at a place of the file
pub line_at : (bytes : List ℕ) (at end next : ℕ) → at < length bytes → end ≡ at + prefix_len (λ b. not (nat_eq b 10)) (drop at bytes) → end ≤ length bytes → next ≡ (if nat_lt end (length bytes) then end + 1 else end) →
    lines_from at [] (drop at bytes) ≡ record { at = at; text = take (end - at) (drop at bytes) } ∷ lines_from next [] (drop next bytes)
line_at bytes at end next l e within f =
    let ws = drop at bytes in
    let size = length-drop at bytes in
    let n_is : end - at ≡ prefix_len (λ b. not (nat_eq b 10)) ws = omega arith in
    let place : at + (end - at) + 1 ≡ end + 1 = omega arith in
    let far : at + (end - at + 1) ≡ end + 1 = omega arith in
    next_line at ws (omega arith) (end - at) n_is
    ∙ ap₂ (λ p q. record { at = at; text = take (end - at) ws } ∷ lines_from p [] q) place (drop-drop (end - at + 1) at bytes ∙ ap (λ k. drop k bytes) far)
    ∙ ap (λ q. record { at = at; text = take (end - at) ws } ∷ q) (by_test (nat_lt end (length bytes)) refl f)
  where
    by_test : (b : Bool) → b ≡ nat_lt end (length bytes) → next ≡ (if b then end + 1 else end) → lines_from (end + 1) [] (drop (end + 1) bytes) ≡ lines_from next [] (drop next bytes)
    by_test true g h = ap (λ k. lines_from k [] (drop k bytes)) (sym h)
    by_test false g h =
        let past : length bytes ≤ end = ltb-false end (length bytes) (sym g) in
        ap (λ q. lines_from (end + 1) [] q) (drop_all (end + 1) bytes (omega arith))
        ∙ sym (ap (λ k. lines_from k [] (drop k bytes)) h ∙ ap (λ q. lines_from end [] q) (drop_all end bytes past))

pub after_within : (bytes : List ℕ) (end next : ℕ) → end ≤ length bytes → next ≡ (if nat_lt end (length bytes) then end + 1 else end) → next ≤ length bytes
after_within bytes end next l h = by_test (nat_lt end (length bytes)) refl h
  where
    by_test : (b : Bool) → b ≡ nat_lt end (length bytes) → next ≡ (if b then end + 1 else end) → next ≤ length bytes
    by_test true g h = let low = ltb-true end (length bytes) (sym g) in omega arith
    by_test false g h = omega arith

pub after_later : (bytes : List ℕ) (at end next : ℕ) → at < length bytes → end ≡ at + prefix_len (λ b. not (nat_eq b 10)) (drop at bytes) → next ≡ (if nat_lt end (length bytes) then end + 1 else end) → at < next
after_later bytes at end next l e h = by_test (nat_lt end (length bytes)) refl h
  where
    by_test : (b : Bool) → b ≡ nat_lt end (length bytes) → next ≡ (if b then end + 1 else end) → at < next
    by_test true g h = omega arith
    by_test false g h = let past : length bytes ≤ end = ltb-false end (length bytes) (sym g) in omega arith
