use Rattle.process_core.specs.Follow.{choices_same}
use Rattle.process_core.proofs.laws.following_law.Goals as goal

pub returns : goal.returns
returns c = λ has state label s cs ds h. choices_same has state label s h cs ds
