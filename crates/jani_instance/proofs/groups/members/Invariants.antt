use Rattle.std.proofs.Common.{◌≡◌, ◌∷◌, [], map, drop}
use Rattle.std.proofs.Common.{◌++◌}
use Rattle.process_core.specs.Instance.{numbered}
use Rattle.jani_instance.specs.Views.{IsIn, member_of, member_seen, members_seen, setting_of}
use Rattle.jani_instance.proofs.groups.members.Given as goal

abbrev pub invariant-loop-i : goal.invariant-loop-i
invariant-loop-i l =
    IsIn (setting_of l.here) l.evaluation
    × (map member_of l.all.items ++ numbered (λ i e. member_seen (setting_of l.here) i e ∷ []) l.i (drop l.i l.elements) ≡ members_seen (setting_of l.here))
