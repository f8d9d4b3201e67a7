use Rattle.std.proofs.Common.{◌≡◌, List, drop, map}
use Rattle.process_core.specs.Paths.{any_leads_to}
use Rattle.process_core.specs.Ready.{Sum}
use Rattle.state_choices.specs.Open.{open_branch}
use Rattle.path_carry.proofs.choosing.any_leads_to.Given as goal

abbrev pub invariant-loop-branch : goal.invariant-loop-branch
invariant-loop-branch l =
    (rewards : List Sum) → any_leads_to l.to.values (map (open_branch l.from.values rewards) l.branches) ≡ any_leads_to l.to.values (map (open_branch l.from.values rewards) (drop l.branch-index l.branches))
