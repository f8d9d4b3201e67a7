use Rattle.std.proofs.Common.{◌≡◌, List, drop, map}
use Rattle.process_core.specs.Paths.{any_leads_to}
use Rattle.process_core.specs.Ready.{Sum}
use Rattle.state_choices.specs.Open.{open_branch}
use Rattle.state_choices.proofs.stepping.any_leads_to.Given as goal

abbrev pub invariant-loop-branch : goal.invariant-loop-branch
invariant-loop-branch l =
    (l.values.items ≡ l.from)
    × ((rewards : List Sum) → any_leads_to l.to (map (open_branch l.from rewards) l.branches) ≡ any_leads_to l.to (map (open_branch l.from rewards) (drop l.branch-index l.branches)))
