use Rattle.command_words.specs.Words.{walking_of}
use Rattle.model_process.proofs.Walks.{of_prism}
use Rattle.model_process.proofs.walking.in_prism.Goals as goal

pub returns : goal.returns
returns c = λ bytes read.
    let tree = c.in-Ok.ensures.ok bytes read in
    of_prism (walking_of c.args.walking.now) bytes c.in-Ok.flat tree.0 tree.1 (c.described_law.ensures c.in-Ok.flat tree.0 tree.2) c.in_ok-ending.ending c.in_ok-ending.ensures
