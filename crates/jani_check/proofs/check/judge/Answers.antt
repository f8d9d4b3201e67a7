use Rattle.std.proofs.Common.{◌∙◌, sym}
use Rattle.name_rules.proofs.Soonest.{soonest_none, soonest_some}
use Rattle.jani_tree.specs.Syntax.{file_of}
use Rattle.jani_check.specs.Faults.{faults}
use Rattle.jani_check.proofs.check.judge.Goals as goal

pub returns-in-Some-clause-least : goal.returns-in-Some-clause-least
returns-in-Some-clause-least c = soonest_some (faults (file_of c.args.file.now)) c.in-Some.fault (sym c.in_ok-fault.ensures ∙ c.in-Some.is)

pub returns-in_ok-count_edges-in-None-clause-clean : goal.returns-in_ok-count_edges-in-None-clause-clean
returns-in_ok-count_edges-in-None-clause-clean c = soonest_none (faults (file_of c.args.file.now)) (sym c.in_ok-fault.ensures ∙ c.in-None.is)
