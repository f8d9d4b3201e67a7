use Rattle.std.specs.Prelude.{map, bytes_eq}
use Rattle.std.specs.List.{find}
use Rattle.std.specs.Option.{option_map, option_or}
use Rattle.std.proofs.Common.{ap, refl, List, ℕ}
use Rattle.jani_tree.specs.Syntax.{Automaton, automaton_of}
use Rattle.op_trees.specs.Names.{is_called}
use Rattle.name_rules.proofs.Maps.{at}
use Rattle.gathering.proofs.Found.{first_found}
use Rattle.jani_check.proofs.elements.automata_by_name.Goals as goal

pub loop-a-init : goal.loop-a-init
loop-a-init c = λ x.
    ap (λ o. option_or (option_map (λ a. automaton_of a.now) o) (find (λ (a : Automaton). is_called x a.name) (map automaton_of c.args.automata.now))) (at c.new-all.ensures x)

pub loop-a-preserved : goal.loop-a-preserved
loop-a-preserved c = λ x.
    first_found (λ a. automaton_of a.now) (λ (a : Automaton). is_called x a.name) automaton_of c.args.automata.now c.loop-a.a-index c.a-item.result _ _ _ _ _ c.loop-a-test.true c.a-item.is
    (at c.in_ok-put_first.ensures x) (ap (λ (n : List ℕ). bytes_eq n x) c.as_str.ensures) refl (c.loop-a.invariant x)
