use Rattle.prism_items.proofs.Updating.{only_branch}
use Rattle.prism_items.proofs.updates.one_branch.Goals as goal

pub returns : goal.returns
returns c = only_branch _ _ _ c.new-branches.ensures c.in_ok-push.ensures.ok
