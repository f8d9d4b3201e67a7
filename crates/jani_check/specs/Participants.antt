-- What the code's tables say that the participants of vectors assign.
use Rattle.std.specs.Prelude.{List, [], ◌∷◌, Bool, ◌||◌, Option, Some, None}
use Rattle.std.specs.List.{find, list_any}
use Rattle.std.specs.Option.{option_map}
use Rattle.bridge_io.specs.declared.reason.Named.{Named}
use Rattle.bridge_io.specs.declared.reason.Reason.TheVariants.{WrittenTwice}
use Rattle.bridge_io.specs.declared.reason.Fault.{Fault}
use Rattle.jani_tree.specs.Syntax.{Automaton, Vector, File, automaton_of}
use Rattle.name_rules.specs.Least.{fault_if}
use Rattle.jani_check.specs.Things.{automaton_called, global_thing}
use Rattle.op_trees.specs.Names.{is_called}
use Rattle.name_rules.specs.Names.{Name, under}
use Rattle.std.specs.Borrow.{Bor}
use Rattle.name_rules.specs.declared.map.NameMap.{NameMap}
use Rattle.jani_tree.specs.declared.syntax.JaniAutomaton.{JaniAutomaton}
use Rattle.jani_check.specs.TypeFaults.{meet, shared_by, with_automaton}

-- ---- elements
abbrev pub automaton_in : List Automaton → Name → Option Automaton
automaton_in automata x = find (λ a. is_called x a.name) automata

abbrev pub automaton_under : NameMap (Bor JaniAutomaton) → Name → Option Automaton
automaton_under t x = option_map (λ a. automaton_of a.now) (under t x)

-- for each element and its part of a vector, by what the element has under each action
abbrev pub parts_taken : {X : Type 0} → X → List (Name → X) → List (Option Named) → List X
parts_taken none [] ps = []
parts_taken none (f ∷ fs) [] = []
parts_taken none (f ∷ fs) (None ∷ ps) = none ∷ parts_taken none fs ps
parts_taken none (f ∷ fs) (Some n ∷ ps) = f n.name ∷ parts_taken none fs ps

abbrev pub part_taken : {X : Type 0} → X → (Name → X) → Option Named → X
part_taken none f None = none
part_taken none f (Some n) = f n.name

-- some list has a name that was seen before, or two of them have one in common
abbrev pub meets_with : (Name → Bool) → List (List Name) → Bool
meets_with seen lists = list_any (list_any seen) lists || meet lists

-- by what the elements assign under each action
abbrev pub clash_by : List (Name → List Name) → Vector → List Fault
clash_by elements v = fault_if (meet (parts_taken [] elements v.parts)) v.at WrittenTwice

-- what an element assigns, by its automaton
abbrev pub element_shared : File → Named → Name → List Name
element_shared file e x = with_automaton (λ a. shared_by (global_thing file) a x) [] (automaton_called file e.name)
