use Rattle.process_texts.specs.declared.given.GivenText.TheVariants.{Good, Past}
use Rattle.command_words.proofs.Assignments.{no_split, parted, is_assignment, no_value}
use Rattle.command_words.proofs.given.assignment_in.Goals as goal

pub returns-in_default : goal.returns-in_default
returns-in_default c = no_split c.args.word.now c.in_default.ensures.cases

pub returns-in-Good : goal.returns-in-Good
returns-in-Good c = is_assignment c.args.word.now c.in-Some.name.now c.in-Some.text.now (parted _ _ _ c.in-Some.ensures.cases) (Good c.in-Good.v) c.in-Good.ensures

pub returns-in-Past : goal.returns-in-Past
returns-in-Past c = is_assignment c.args.word.now c.in-Some.name.now c.in-Some.text.now (parted _ _ _ c.in-Some.ensures.cases) Past c.in-Past.ensures

pub returns-in-NoForm : goal.returns-in-NoForm
returns-in-NoForm c = no_value c.args.word.now c.in-Some.name.now c.in-Some.text.now (parted _ _ _ c.in-Some.ensures.cases) c.in-NoForm.ensures
