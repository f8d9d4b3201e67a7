use Rattle.std.specs.Prelude.{◌≡◌, List, ℕ, Option, map}
use Rattle.std.specs.List.{list_any}
use Rattle.std.proofs.Common.{◌∙◌, ap}
use Rattle.std.proofs.lemmas.Result.{IfOk-at_ok, IfOk-weaker}
use Rattle.jani_tree.specs.Syntax.{Expression, destination_of, write_of}
use Rattle.jani_check.specs.Assigned.{unlike, value_under}
use Rattle.jani_check.specs.ProfileFaults.{differ, lacks, rewards_by, value_for}
use Rattle.jani_check.specs.Scopes.{scope_thing}
use Rattle.jani_check.proofs.KeptRewards.{by_first}
use Rattle.jani_check.proofs.rewards.differs_from.Goals as goal

pub returns : goal.returns
returns c =
    let things = scope_thing c.args.scope.now in
    let first = destination_of c.args.first.now in
    let writes = map write_of c.as_slice-writes.result.now in
    let rest = map destination_of c.args.rest.now in
    let kept = map (λ w. write_of w.now) c.deref.result.now in
    let values = value_under c.in_ok-rewards.values in
    let all : (v : List ℕ → Option Expression) → list_any (lacks v) kept ≡ list_any (lacks v) (rewards_by things first.writes) = λ v.
    ap (λ l. list_any (lacks v) (map (λ w. write_of w.now) l)) c.deref.ensures.value
    ∙ IfOk-at_ok
    (λ l. (u : List ℕ → Option Expression) → list_any (lacks u) (map (λ w. write_of w.now) l.items) ≡ list_any (lacks u) (rewards_by things writes))
    c.in_ok-rewards.ensures.ok.0 c.rewards_of.ensures v
    ∙ ap (λ ws. list_any (lacks v) (rewards_by things (map write_of ws))) c.as_slice-writes.ensures in
    let own : (x : List ℕ) → values x ≡ value_for first.writes x = λ x.
    IfOk-at_ok (λ t. (y : List ℕ) → value_under t y ≡ value_for writes y) c.in_ok-rewards.ensures.ok.1 c.values_of.ensures x
    ∙ ap (λ ws. value_for (map write_of ws) x) c.as_slice-writes.ensures in
    IfOk-weaker c.some_unlike.result (λ b. b ≡ list_any (unlike things kept values) rest) (λ b. b ≡ list_any (differ things first) rest)
    (λ b h. h ∙ by_first things kept values first all own rest) c.some_unlike.ensures
