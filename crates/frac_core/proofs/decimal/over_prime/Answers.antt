use Rattle.std.proofs.Common.{arith}
use Rattle.frac_core.proofs.Decimals.{gcd-prime, gcd-divided, across-divided}
use Rattle.frac_core.proofs.decimal.over_prime.Goals as goal

pub returns-then-size-prime-eq0-clause-apart : goal.returns-then-size-prime-eq0-clause-apart
returns-then-size-prime-eq0-clause-apart c = gcd-divided c.args.size c.args.den c.args.prime c.requires.apart (omega arith)

pub returns-then-size-prime-eq0-clause-across : goal.returns-then-size-prime-eq0-clause-across
returns-then-size-prime-eq0-clause-across c = across-divided c.args.size c.args.den c.args.prime (omega arith)

pub returns-else-size-prime-eq0-clause-apart : goal.returns-else-size-prime-eq0-clause-apart
returns-else-size-prime-eq0-clause-apart c = gcd-prime c.args.size c.args.den c.args.prime c.requires.prime c.requires.apart (omega arith)
