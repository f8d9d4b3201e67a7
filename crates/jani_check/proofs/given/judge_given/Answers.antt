use Rattle.std.specs.Prelude.{map, ◌||◌}
use Rattle.std.specs.List.{flat_map}
use Rattle.std.proofs.Common.{◌∙◌, ap}
use Rattle.name_rules.specs.Least.{soonest}
use Rattle.jani_tree.specs.Syntax.{automaton_of}
use Rattle.name_rules.specs.Names.{is_among, named_by}
use Rattle.jani_check.specs.ProfileFaults.{given_after, given_again}
use Rattle.jani_check.specs.Scopes.{thing_under}
use Rattle.name_rules.specs.Names.{has_name}
use Rattle.jani_check.proofs.Givens.{one_given}
use Rattle.jani_check.proofs.given.judge_given.Goals as goal

pub loop-a-init : goal.loop-a-init
loop-a-init c =
    ap (λ k. soonest c.args.before (given_after (thing_under c.args.global.now) k (map automaton_of c.args.automata.now))) c.new-earlier.ensures

pub loop-a-preserved : goal.loop-a-preserved
loop-a-preserved c =
    one_given (thing_under c.args.global.now) (has_name c.loop-a.earlier) (has_name c.add_names.new.earlier) c.args.automata.now c.loop-a.a-index c.a-item.result
    (map named_by c.in_ok-given.given.items) _ _ _ c.loop-a-test.true c.a-item.is c.in_ok-given.ensures
    (c.in_ok-best.ensures ∙ ap (λ es. soonest c.loop-a.best (flat_map (given_again (thing_under c.args.global.now) (has_name c.loop-a.earlier)) (map named_by es))) c.deref.ensures.value)
    (c.in_ok-add_names.ensures ∙ ap (λ es. λ x. has_name c.loop-a.earlier x || is_among (map named_by es) x) c.deref-in-loop-a.ensures.value)
    c.loop-a.invariant
