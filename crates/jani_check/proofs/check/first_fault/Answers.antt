use Rattle.std.specs.Prelude.{◌≡◌, None}
use Rattle.std.proofs.Common.{◌∙◌, sym}
use Rattle.std.proofs.lemmas.Result.{IfOk-weaker}
use Rattle.name_rules.specs.Least.{soonest, or_else}
use Rattle.jani_tree.specs.Syntax.{file_of}
use Rattle.jani_check.specs.NameFaults.{name_faults}
use Rattle.jani_check.specs.ProfileFaults.{profile_faults}
use Rattle.jani_check.specs.TypeFaults.{type_faults}
use Rattle.jani_check.proofs.Phases.{none_first}
use Rattle.jani_check.proofs.check.first_fault.Goals as goal

pub returns-in-None : goal.returns-in-None
returns-in-None c =
    let f = file_of c.args.file.now in
    IfOk-weaker c.later_fault.result (λ best. best ≡ soonest None (or_else (type_faults f) (profile_faults f))) (λ best. best ≡ soonest None (or_else (name_faults f) (or_else (type_faults f) (profile_faults f))))
    (λ best h. none_first (name_faults f) (or_else (type_faults f) (profile_faults f)) best (sym c.in-None.is ∙ c.in_ok-fault.ensures) h)
    c.later_fault.ensures
