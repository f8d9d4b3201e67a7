use Rattle.row_check.proofs.RowLines.{no_first, no_second, no_third}
use Rattle.row_check.proofs.row_files.three_numbers.Goals as goal

pub returns-in-None : goal.returns-in-None
returns-in-None c = no_first c.args.line.now c.in-None.ensures

pub returns-in-None-number_before_space : goal.returns-in-None-number_before_space
returns-in-None-number_before_space c = no_second c.args.line.now c.in-Some.parts.0 c.in-Some.parts.1.now c.in-Some.ensures c.in-None-number_before_space.ensures

pub returns-in-None-number_before_space-2 : goal.returns-in-None-number_before_space-2
returns-in-None-number_before_space-2 c =
    let q = c.in-Some-number_before_space in
    no_third c.args.line.now c.in-Some.parts.0 c.in-Some.parts.1.now c.in-Some.ensures q.parts.0 q.parts.1.now q.ensures c.in-None-number_before_space-2.ensures
