use Rattle.prism_to_jani.proofs.Kept.{is_translated}
use Rattle.prism_to_jani.proofs.translating.promised.Goals as goal

pub returns : goal.returns
returns c = is_translated c.args.checked.now c.file.ensures.checked
