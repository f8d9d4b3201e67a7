use Rattle.std.specs.Prelude.{◌≡◌, ℕ, List, map, drop}
use Rattle.std.specs.List.{find}
use Rattle.std.specs.Option.{option_map, option_or as or_else}
use Rattle.jani_tree.specs.Syntax.{automaton_of}
use Rattle.op_trees.specs.Names.{is_called}
use Rattle.name_rules.specs.Names.{under}
use Rattle.jani_check.proofs.elements.automata_by_name.Given as goal

abbrev pub invariant-loop-a : goal.invariant-loop-a
invariant-loop-a l = (x : List ℕ) →
    or_else (option_map (λ a. automaton_of a.now) (under l.all x)) (find (λ a. is_called x a.name) (map automaton_of (drop l.a-index l.automata)))
    ≡ find (λ a. is_called x a.name) (map automaton_of l.automata)
