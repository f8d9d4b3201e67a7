use Rattle.path_carry.proofs.Written.{name_pushed}
use Rattle.path_carry.proofs.texts.push_name.Goals as goal

pub returns-clause-back : goal.returns-clause-back
returns-clause-back c = λ h. name_pushed c.extend_from_slice.result c.args.name.now c.in_ok-text.text c.in_ok-text.ensures.text (c.in_ok-text.ensures.back h)
