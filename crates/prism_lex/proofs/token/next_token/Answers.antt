use Rattle.std.proofs.Common.{◌≡◌, ◌<◌, ◌≤◌, ℕ, List, length, drop, Bool, true, false, arith}
use Rattle.std.specs.Prelude.{◌==◌}
use Rattle.std.proofs.lemmas.Bool.Decides.{nat_tests}
use Rattle.prism_lex.specs.declared.gap.Gap.TheVariants.{Between}
use Rattle.prism_lex.specs.Gaps.{gap_len}
use Rattle.prism_lex.proofs.NextLemmas.{Cut, continues, finishes, fails}
use Rattle.prism_lex.proofs.token.next_token.Goals as goal

cut : (bytes rest behind : List ℕ) (from n : ℕ) → from ≤ length bytes → rest ≡ drop from bytes → n ≡ gap_len Between rest → behind ≡ drop n rest → Cut bytes from rest n behind
cut bytes rest behind from n l e f g = record { within = l; rest_is = e; gap = f; behind_is = g }

is_zero : (n : ℕ) (b : Bool) → b ≡ (n == 0) → b ≡ true → n ≡ 0
is_zero n b e f = grind (arith, nat_tests)

is_above : (n : ℕ) (b : Bool) → b ≡ (n == 0) → b ≡ false → 0 < n
is_above n b e f = grind (arith, nat_tests)

pub returns-then-is_empty-clause-end : goal.returns-then-is_empty-clause-end
returns-then-is_empty-clause-end c =
    let k = cut c.args.bytes.now _ _ c.args.from _ c.requires c.split_at.ensures.back c.gap_len-gap.ensures.value c.split_at-2.ensures.back in
    λ e. finishes _ _ _ _ _ k (is_zero _ _ c.is_empty.ensures c.if-is_empty.true)

pub returns-in-Ok-clause-token : goal.returns-in-Ok-clause-token
returns-in-Ok-clause-token c =
    let k = cut c.args.bytes.now _ _ c.args.from _ c.requires c.split_at.ensures.back c.gap_len-gap.ensures.value c.split_at-2.ensures.back in
    λ e. continues _ _ _ _ _ _ _ k c.in-Ok.ensures.ok

pub returns-in-Err-clause-fault : goal.returns-in-Err-clause-fault
returns-in-Err-clause-fault c =
    let k = cut c.args.bytes.now _ _ c.args.from _ c.requires c.split_at.ensures.back c.gap_len-gap.ensures.value c.split_at-2.ensures.back in
    fails _ _ _ _ _ _ k (is_above _ _ c.is_empty.ensures c.if-is_empty.false) c.in-Err.ensures.err
