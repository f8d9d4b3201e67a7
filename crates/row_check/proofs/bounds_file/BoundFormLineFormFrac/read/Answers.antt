use Rattle.std.proofs.Common.{arith}
use Rattle.row_check.proofs.BoundLines.{other_bound, bound_line}
use Rattle.row_check.proofs.bounds_file.BoundFormLineFormFrac.read.Goals as goal

pub returns-then-not-is_number-clause-line : goal.returns-then-not-is_number-clause-line
returns-then-not-is_number-clause-line c =
    let p = c.in-Some.parts in
    other_bound c.args.listed c.args.before.now c.args.line.now p.0.now p.1.now c.in-Some.ensures.0 c.in-Some.ensures.1
    (λ i. let yes = c.is_number.ensures.1 i in let no = c.if-not-is_number.true in absurd cc)

pub returns-clause-line : goal.returns-clause-line
returns-clause-line c =
    let p = c.in-Some.parts in
    bound_line c.args.listed c.args.before.now c.args.line.now p.0.now p.1.now c.in-Some.ensures.0 c.in-Some.ensures.1 (c.is_number.ensures.0 c.if-not-is_number.false) (let l = c.if-before-listed.false in omega arith) c.probability_of.result c.probability_of.ensures
