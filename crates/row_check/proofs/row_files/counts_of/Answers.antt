use Rattle.row_check.proofs.RowLines.{no_states, no_choices, no_transitions}
use Rattle.row_check.proofs.row_files.counts_of.Goals as goal

pub returns-in-None : goal.returns-in-None
returns-in-None c = no_states c.args.line.now c.in-None.ensures

pub returns-in-None-number_before_space : goal.returns-in-None-number_before_space
returns-in-None-number_before_space c = no_choices c.args.line.now c.in-Some.parts.0 c.in-Some.parts.1.now c.in-Some.ensures c.in-None-number_before_space.ensures

pub returns-in-None-number_of : goal.returns-in-None-number_of
returns-in-None-number_of c =
    let q = c.in-Some-number_before_space in
    no_transitions c.args.line.now c.in-Some.parts.0 c.in-Some.parts.1.now c.in-Some.ensures q.parts.0 q.parts.1.now q.ensures c.in-None-number_of.ensures
