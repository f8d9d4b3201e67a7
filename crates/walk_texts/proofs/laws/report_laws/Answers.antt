use Rattle.walk_texts.proofs.OneReport.{one_shown, one_walked_along, one_walked_by_seed}
use Rattle.walk_texts.proofs.laws.report_laws.Goals as goal

pub returns-clause-shown : goal.returns-clause-shown
returns-clause-shown c = one_shown c.text_laws.ensures.state

pub returns-clause-along : goal.returns-clause-along
returns-clause-along c = one_walked_along c.text_laws.ensures.state c.walk_laws.ensures.given

pub returns-clause-seed : goal.returns-clause-seed
returns-clause-seed c = one_walked_by_seed c.text_laws.ensures.state c.walk_laws.ensures.drawn
