use Rattle.std.proofs.Common.{◌≡◌, ap, sym, subst, ◌∙◌, None, IsTrue}
use Rattle.std.specs.List.{All}
use Rattle.std.proofs.lemmas.List.Elements.{All-from_recursion}
use Rattle.process_core.specs.declared.data.State.{State}
use Rattle.path_carry.specs.Carried.{lost_line}
use Rattle.carry_maps.specs.Maps.{has_candidate}
use Rattle.path_carry.proofs.Walked.{none_is_lost, states_carried}
use Rattle.path_carry.proofs.Whole.{goes_along_ok}
use Rattle.path_carry.proofs.paths.indexed_to_prism.Goals as goal

pub along-requires-clause-states : goal.along-requires-clause-states
along-requires-clause-states g c =
    let j = g.S.Steps.process c.args.jani.now in
    let p = g.T.Steps.process c.args.prism.now in
    let m = c.args.map.now in
    let path = c.args.path.now in
    let none : lost_line j.is_state (has_candidate m.labels) path ≡ None = ap (λ ps. lost_line j.is_state (has_candidate ps) path) (sym c.requires.pairs) ∙ sym c.in-None.ensures in
    subst (All (λ (s : State). IsTrue (p.is_state s.values))) (sym (c.as_slice.ensures ∙ c.in_ok-states-in-None.ensures))
    (All-from_recursion (λ (s : State). IsTrue (p.is_state s.values)) _
    (states_carried m p j (g.met.T.Steps.lawful c.args.prism.now) c.requires.same path.states (none_is_lost j.is_state (has_candidate m.labels) path c.requires.whole none).states))

pub returns-in_ok-states-in-None-clause-carried : goal.returns-in_ok-states-in-None-clause-carried
returns-in_ok-states-in-None-clause-carried g c =
    let j = g.S.Steps.process c.args.jani.now in
    let m = c.args.map.now in
    let path = c.args.path.now in
    let none : lost_line j.is_state (has_candidate m.labels) path ≡ None = ap (λ ps. lost_line j.is_state (has_candidate ps) path) (sym c.requires.pairs) ∙ sym c.in-None.ensures in
    goes_along_ok j (g.T.Steps.process c.args.prism.now) m path none c.along.result c.along.ensures.carried
