-- The faults of one kind, by those of variables, of demands and of what else stands in an automaton.
use Rattle.std.specs.Prelude.{List, ◌++◌, Option}
use Rattle.std.specs.List.{flat_map}
use Rattle.bridge_io.specs.declared.reason.Fault.{Fault}
use Rattle.jani_tree.specs.Syntax.{Var, Automaton, File}
use Rattle.jani_check.specs.Things.{global_thing, beside}
use Rattle.name_rules.specs.Names.{Name}
use Rattle.jani_check.specs.declared.things.Thing.{Thing}
use Rattle.jani_check.specs.Demands.{Demand, automaton_demands, outer_demands}

-- by what names stand for outside of the automaton
abbrev pub automaton_by : (Var → List Fault) → ((Name → Option Thing) → Demand → List Fault) → ((Name → Option Thing) → Automaton → List Fault) → (Name → Option Thing) → Automaton → List Fault
automaton_by of_var of_demand of_rest global a =
    flat_map of_var a.variables
    ++ (flat_map (of_demand (beside global a.variables)) (automaton_demands a) ++ of_rest (beside global a.variables) a)

abbrev pub file_by : (Var → List Fault) → ((Name → Option Thing) → Demand → List Fault) → ((Name → Option Thing) → Automaton → List Fault) → File → List Fault
file_by of_var of_demand of_rest file =
    flat_map of_var file.variables
    ++ (flat_map (of_demand (global_thing file)) (outer_demands file)
    ++ flat_map (automaton_by of_var of_demand of_rest (global_thing file)) file.automata)
