use Rattle.std.specs.Prelude.{◌≡◌, map}
use Rattle.std.specs.List.{list_any}
use Rattle.std.proofs.Common.{◌∙◌, ap, sym}
use Rattle.std.proofs.lemmas.Result.{IfOk-weaker}
use Rattle.jani_tree.specs.Syntax.{destination_of}
use Rattle.jani_check.specs.ProfileFaults.{differ, some_differ}
use Rattle.jani_check.specs.Scopes.{scope_thing}
use Rattle.jani_check.proofs.SameRewards.{first_decides}
use Rattle.jani_check.proofs.rewards.some_differ.Goals as goal

pub returns-in-Some : goal.returns-in-Some
returns-in-Some c =
    let things = scope_thing c.args.scope.now in
    let first = destination_of c.in-Some.first.now in
    let rest = map destination_of c.in-Some.rest.now in
    IfOk-weaker c.differs_from.result (λ b. b ≡ list_any (differ things first) rest) (λ b. b ≡ some_differ things (map destination_of c.args.destinations.now))
    (λ b h. h ∙ first_decides things first rest ∙ ap (λ ds. some_differ things (map destination_of ds)) (sym c.in-Some.ensures.cases.0))
    c.differs_from.ensures
