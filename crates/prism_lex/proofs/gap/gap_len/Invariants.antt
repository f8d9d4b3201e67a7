use Rattle.std.proofs.Common.{◌≡◌, ◌+◌, drop, cond, nat_lt}
use Rattle.prism_lex.specs.declared.gap.Gap.TheVariants.{Between}
use Rattle.prism_lex.specs.Gaps.{gap_len}
use Rattle.prism_lex.proofs.gap.gap_len.Given as goal

abbrev pub invariant-loop-i : goal.invariant-loop-i
invariant-loop-i l = gap_len Between l.bytes ≡ cond (nat_lt 0 (gap_len l.state (drop l.i l.bytes))) (l.i + gap_len l.state (drop l.i l.bytes)) l.len
