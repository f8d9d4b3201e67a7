use Rattle.command_words.proofs.Once.{one_request, words_count}
use Rattle.command_words.proofs.laws.words_law.Goals as goal

pub returns-clause-one : goal.returns-clause-one
returns-clause-one c = one_request c.text_laws.ensures.value

pub returns-clause-count : goal.returns-clause-count
returns-clause-count c = words_count
