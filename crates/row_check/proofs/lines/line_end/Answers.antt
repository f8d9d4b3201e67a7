use Rattle.std.proofs.Common.{◌≡◌, ◌≢◌, ℕ, ◌+◌, ◌-◌, ◌<◌, ◌≤◌, List, cond, not, nat_eq, length, get_or, drop, take, ap, ◌∙◌, arith, eq-eqb, ne_eqb, length-drop}
use Rattle.std.specs.List.{prefix_len}
use Rattle.std.proofs.lemmas.List.{drop_more, drop_all, take_rest}
use Rattle.row_check.proofs.lines.line_end.Goals as goal

module _ (line : List ℕ) (i : ℕ) where
  -- a byte of the line more
  further : i < length line → get_or line i 0 ≢ 10 → prefix_len (λ b. not (nat_eq b 10)) line ≡ i + prefix_len (λ b. not (nat_eq b 10)) (drop i line) →
      prefix_len (λ b. not (nat_eq b 10)) line ≡ (i + 1) + prefix_len (λ b. not (nat_eq b 10)) (drop (i + 1) line)
  further within other so_far =
      let rest : prefix_len (λ b. not (nat_eq b 10)) (drop i line) ≡ 1 + prefix_len (λ b. not (nat_eq b 10)) (drop (i + 1) line) =
      ap (prefix_len (λ b. not (nat_eq b 10))) (drop_more line i 0 within)
      ∙ ap (λ t. cond (not t) (1 + prefix_len (λ b. not (nat_eq b 10)) (drop (i + 1) line)) 0) (ne_eqb (get_or line i 0) 10 other) in
      omega arith

  -- the line feed
  fed : i < length line → get_or line i 0 ≡ 10 → prefix_len (λ b. not (nat_eq b 10)) line ≡ i + prefix_len (λ b. not (nat_eq b 10)) (drop i line) → i ≡ prefix_len (λ b. not (nat_eq b 10)) line
  fed within feed so_far =
      let rest : prefix_len (λ b. not (nat_eq b 10)) (drop i line) ≡ 0 =
      ap (prefix_len (λ b. not (nat_eq b 10))) (drop_more line i 0 within)
      ∙ ap (λ t. cond (not t) (1 + prefix_len (λ b. not (nat_eq b 10)) (drop (i + 1) line)) 0) (eq-eqb (get_or line i 0) 10 feed) in
      omega arith

  -- the end of the file
  ended : length line ≤ i → prefix_len (λ b. not (nat_eq b 10)) line ≡ i + prefix_len (λ b. not (nat_eq b 10)) (drop i line) → i ≡ prefix_len (λ b. not (nat_eq b 10)) line
  ended within so_far = let rest : prefix_len (λ b. not (nat_eq b 10)) (drop i line) ≡ 0 = ap (prefix_len (λ b. not (nat_eq b 10))) (drop_all i line within) in omega arith

pub loop-i-preserved : goal.loop-i-preserved
loop-i-preserved c = further (take (length c.args.bytes.now - c.args.at) (drop c.args.at c.args.bytes.now)) c.loop-i.i c.loop-i-test.true c.if-byte-eq10.false c.loop-i.invariant

pub returns-then-byte-eq10-clause-end : goal.returns-then-byte-eq10-clause-end
returns-then-byte-eq10-clause-end c =
    ap (λ n. c.args.at + n)
    (fed (take (length c.args.bytes.now - c.args.at) (drop c.args.at c.args.bytes.now)) c.loop-i.i c.loop-i-test.true c.if-byte-eq10.true c.loop-i.invariant
    ∙ ap (prefix_len (λ b. not (nat_eq b 10))) (take_rest c.args.bytes.now c.args.at))

pub returns-clause-end : goal.returns-clause-end
returns-clause-end c =
    let rest = take_rest c.args.bytes.now c.args.at in
    let line : List ℕ = take (length c.args.bytes.now - c.args.at) (drop c.args.at c.args.bytes.now) in
    let long : length line ≡ length c.args.bytes.now - c.args.at = ap length rest ∙ length-drop c.args.at c.args.bytes.now in
    let all : c.loop-i.i ≡ prefix_len (λ b. not (nat_eq b 10)) (drop c.args.at c.args.bytes.now) =
    ended line c.loop-i.i c.loop-i-test.false c.loop-i.invariant ∙ ap (prefix_len (λ b. not (nat_eq b 10))) rest in
    omega arith
