-- The least fault of small files, computed from the definitions. Offsets are chosen to tell the places apart.
use Rattle.std.specs.Prelude.{ℕ, ◌+◌, pos, negsuc, List, [], ◌∷◌, map, Bool, true, false, Option, Some, None, codes}
use Rattle.std.proofs.Common.{◌≡◌, refl}
use Rattle.bridge_io.specs.declared.reason.Named.{Named}
use Rattle.bridge_io.specs.declared.reason.Reason.TheVariants.{LeftOut, TwiceNamed, Unknown, Cycle, WrongType, NotConstant, ForeignWrite, WrittenTwice, Nothing, UnboundedVariable, RealVariable, TransientRead, TransientInitial, TransientTwoAutomata, LabelOnEdge, BranchReward, TwoRewardWriters, BadVector, RepeatedAutomaton}
use Rattle.bridge_io.specs.declared.reason.Fault.{Fault}
use Rattle.op_trees.specs.declared.tree.Ty.TheVariants as T
use Rattle.op_trees.specs.Tree.{Truth, Number, Name as At, Two}
use Rattle.jani_table.specs.declared.operator.JaniOp.TheVariants as O
use Rattle.name_rules.specs.Least.{soonest, fault}
use Rattle.jani_table.specs.Node.{array, no_nodes}
use Rattle.jani_tree.specs.Syntax.{Expression, Const, VarKind, boolean, integer, number as real, real_bounded, one_sided, bounded, Var, Write, Location, Destination, Edge, Automaton, Element, Vector, File}
use Rattle.name_rules.specs.Names.{Name}
use Rattle.jani_check.specs.Faults.{faults}

-- ---- short forms
abbrev at : ℕ → Name → Named
at o x = record { name = x; at = o }

abbrev digit : ℕ → ℕ → Expression
digit o n = Number o (record { negative = false; digits = n; exponent = pos 0; real = false })

-- one tenth, and one with a point
abbrev tenth : ℕ → Expression
tenth o = Number o (record { negative = false; digits = 1; exponent = negsuc 0; real = true })

abbrev one_point : ℕ → Expression
one_point o = Number o (record { negative = false; digits = 1; exponent = pos 0; real = true })

abbrev ref : ℕ → Name → Expression
ref o x = At o x

abbrev int_const : Named → Option Expression → Const
int_const x e = record { name = x; ty = T.Int; value = e; note = None }

abbrev var : Named → ℕ → VarKind → Bool → Option Expression → Var
var x o k t e = record { name = x; kind = k; kind_at = o; transient = t; start = e; note = None }

-- a variable from 0 to 2, with its name at an offset and all else after it
abbrev small : ℕ → Name → Var
small o x = var (at o x) (o + 1) (bounded (digit (o + 2) 0) (digit (o + 3) 2)) false (Some (digit (o + 4) 0))

abbrev reward : ℕ → Name → Var
reward o x = var (at o x) (o + 1) real true (Some (digit (o + 2) 0))

abbrev label : ℕ → Name → Var
label o x = var (at o x) (o + 1) boolean true (Some (Truth (o + 2) false))

abbrev write : ℕ → Name → Expression → Write
write o x e = record { target = at o x; value = e }

abbrev location : ℕ → Name → List Write → Location
location o x ws = record { name = at o x; values = ws }

abbrev destination : ℕ → Name → List Write → Destination
destination o x ws = record { location = at o x; weight = None; writes = ws }

abbrev edge : ℕ → Name → Option Named → Option Expression → List Destination → Edge
edge o x a g ds = record { location = at o x; action = a; guard = g; destinations = ds; at = o + 1 }

abbrev automaton : ℕ → Name → List Var → List Location → Named → List Edge → Automaton
automaton o x vs ls i es = record { name = at o x; variables = vs; locations = ls; initial = i ∷ []; edges = es }

abbrev alone : Named → Element
alone n = record { name = n; enable = [] }

abbrev file : List Named → List Const → List Var → List Automaton → List Named → List Vector → File
file acts cs vs automata es xs = record {
  actions = acts;
  constants = cs;
  variables = vs;
  restrict = None;
  automata = automata;
  elements = map alone es;
  elements_at = 900;
  vectors = xs;
  properties = array 0 no_nodes;
}

abbrev least : File → Option Fault
least f = soonest None (faults f)

-- one automaton M with the location l, which takes part
abbrev plain : ℕ → Name → List Edge → Automaton
plain o x es = automaton o x [] (location (o + 1) (codes "l") [] ∷ []) (at (o + 2) (codes "l")) es

abbrev one : List Named → List Const → List Var → List Edge → List Vector → File
one acts cs vs es xs = file acts cs vs (plain 500 (codes "M") es ∷ []) (at 901 (codes "M") ∷ []) xs

abbrev acts : List Named
acts = at 10 (codes "a") ∷ at 12 (codes "b") ∷ []

abbrev silent : List Write → List Edge
silent ws = edge 510 (codes "l") None None (destination 520 (codes "l") ws ∷ []) ∷ []

-- ---- names
no_fault : least (one acts [] (small 100 (codes "x") ∷ []) (silent (write 530 (codes "x") (digit 531 1) ∷ [])) []) ≡ None
no_fault = refl

no_elements : least (file [] [] [] (plain 500 (codes "M") [] ∷ []) [] []) ≡ Some (fault 900 Nothing)
no_elements = refl

-- a vector of no parts beside no elements is all null
no_parts : least (file [] [] [] (plain 500 (codes "M") [] ∷ []) [] (record { parts = []; result = None; at = 880 } ∷ [])) ≡ Some (fault 880 BadVector)
no_parts = refl

listed_twice : least (file [] [] [] (plain 500 (codes "M") [] ∷ []) (at 901 (codes "M") ∷ at 902 (codes "M") ∷ []) []) ≡ Some (fault 902 RepeatedAutomaton)
listed_twice = refl

unknown_element : least (file [] [] [] (plain 500 (codes "M") [] ∷ []) (at 901 (codes "N") ∷ []) []) ≡ Some (fault 901 Unknown)
unknown_element = refl

-- the element M accepts these actions everywhere
abbrev accepting : List Named → File
accepting ns = record (one acts [] [] [] []) { elements = record { name = at 901 (codes "M"); enable = ns } ∷ [] }

accepted : least (accepting (at 910 (codes "b") ∷ at 914 (codes "a") ∷ [])) ≡ None
accepted = refl

accepted_twice : least (accepting (at 910 (codes "b") ∷ at 914 (codes "b") ∷ [])) ≡ Some (fault 914 TwiceNamed)
accepted_twice = refl

accepted_unknown : least (accepting (at 910 (codes "b") ∷ at 914 (codes "c") ∷ [])) ≡ Some (fault 914 Unknown)
accepted_unknown = refl

constant_of_itself : least (one [] (int_const (at 20 (codes "c")) (Some (ref 21 (codes "c"))) ∷ []) [] [] []) ≡ Some (fault 20 Cycle)
constant_of_itself = refl

-- b leads to the first c, whose name the second c has too, and that leads back to b
circle_through_doubled_name : least (one [] (int_const (at 20 (codes "b")) (Some (ref 21 (codes "c"))) ∷ int_const (at 30 (codes "c")) (Some (digit 31 1))
    ∷ int_const (at 40 (codes "c")) (Some (ref 41 (codes "b"))) ∷ []) [] [] [])
    ≡ Some (fault 20 Cycle)
circle_through_doubled_name = refl

-- a constant may stand before what it names
named_before : least (one [] (int_const (at 20 (codes "b")) (Some (ref 21 (codes "c"))) ∷ int_const (at 30 (codes "c")) (Some (digit 31 1)) ∷ []) [] [] []) ≡ None
named_before = refl

two_actions : least (one (at 10 (codes "a") ∷ at 12 (codes "a") ∷ []) [] [] [] []) ≡ Some (fault 12 TwiceNamed)
two_actions = refl

two_automata : least (file [] [] [] (plain 500 (codes "M") [] ∷ plain 600 (codes "M") [] ∷ []) (at 901 (codes "M") ∷ []) []) ≡ Some (fault 600 TwiceNamed)
two_automata = refl

variable_named_like_a_constant : least (one [] (int_const (at 20 (codes "x")) (Some (digit 21 0)) ∷ []) (small 100 (codes "x") ∷ []) [] []) ≡ Some (fault 100 TwiceNamed)
variable_named_like_a_constant = refl

-- the later by offset, whichever list it stands in
constant_after_the_variable : least (one [] (int_const (at 200 (codes "x")) (Some (digit 201 0)) ∷ []) (small 100 (codes "x") ∷ []) [] []) ≡ Some (fault 200 TwiceNamed)
constant_after_the_variable = refl

abbrev with_local : ℕ → Name → Automaton
with_local o x = automaton o (codes "M") (small (o + 10) x ∷ []) (location (o + 1) (codes "l") [] ∷ []) (at (o + 2) (codes "l")) []

local_named_like_a_global : least (file [] [] (small 100 (codes "x") ∷ []) (with_local 500 (codes "x") ∷ []) (at 901 (codes "M") ∷ []) []) ≡ Some (fault 510 TwiceNamed)
local_named_like_a_global = refl

abbrev named : Name → Automaton → Automaton
named x a = record { name = at a.name.at x; variables = a.variables; locations = a.locations; initial = a.initial; edges = a.edges }

two_automata_with_one_local_name : least (file [] [] [] (with_local 500 (codes "x") ∷ named (codes "N") (with_local 600 (codes "x")) ∷ [])
    (at 901 (codes "M") ∷ at 902 (codes "N") ∷ []) [])
    ≡ None
two_automata_with_one_local_name = refl

two_locations : least (file [] [] [] (automaton 500 (codes "M") [] (location 501 (codes "l") [] ∷ location 502 (codes "l") [] ∷ []) (at 503 (codes "l")) [] ∷ []) (at 901 (codes "M") ∷ []) [])
    ≡ Some (fault 502 TwiceNamed)
two_locations = refl

-- a location that an automaton may begin in is named once
abbrev begun_in : List Named → File
begun_in ns = file [] [] [] (record (plain 500 (codes "M") []) { initial = ns } ∷ []) (at 901 (codes "M") ∷ []) []

two_initial_locations : least (begun_in (at 503 (codes "l") ∷ at 505 (codes "l") ∷ [])) ≡ Some (fault 505 TwiceNamed)
two_initial_locations = refl

unknown_initial_location : least (begun_in (at 503 (codes "l") ∷ at 505 (codes "k") ∷ [])) ≡ Some (fault 505 Unknown)
unknown_initial_location = refl

-- the condition on the initial states: constants and global variables that aren't transient may stand in it
abbrev restricted : Expression → File
restricted e = record (file [] (int_const (at 20 (codes "c")) (Some (digit 21 1)) ∷ []) (small 100 (codes "x") ∷ label 110 (codes "t") ∷ []) (with_local 500 (codes "y") ∷ []) (at 901 (codes "M") ∷ []) []) { restrict = Some e }

begins_below : least (restricted (Two 200 O.Less (ref 201 (codes "x")) (ref 202 (codes "c")))) ≡ None
begins_below = refl

begins_with_a_local : least (restricted (Two 200 O.Less (ref 201 (codes "y")) (ref 202 (codes "c")))) ≡ Some (fault 201 Unknown)
begins_with_a_local = refl

begins_with_a_transient : least (restricted (ref 201 (codes "t"))) ≡ Some (fault 201 TransientRead)
begins_with_a_transient = refl

begins_with_a_number : least (restricted (ref 201 (codes "x"))) ≡ Some (fault 201 WrongType)
begins_with_a_number = refl

unknown_action : least (one [] [] [] (edge 510 (codes "l") (Some (at 512 (codes "a"))) None (destination 520 (codes "l") [] ∷ []) ∷ []) []) ≡ Some (fault 512 Unknown)
unknown_action = refl

unknown_location : least (one [] [] [] (edge 510 (codes "k") None None (destination 520 (codes "l") [] ∷ []) ∷ []) []) ≡ Some (fault 510 Unknown)
unknown_location = refl

unknown_target : least (one [] [] [] (edge 510 (codes "l") None None (destination 520 (codes "k") [] ∷ []) ∷ []) []) ≡ Some (fault 520 Unknown)
unknown_target = refl

unknown_in_a_guard : least (one [] [] [] (edge 510 (codes "l") None (Some (ref 512 (codes "g"))) (destination 520 (codes "l") [] ∷ []) ∷ []) []) ≡ Some (fault 512 Unknown)
unknown_in_a_guard = refl

-- an automaton's variable is not known outside of it
local_in_a_constant : least (file [] (int_const (at 20 (codes "c")) (Some (ref 21 (codes "x"))) ∷ []) [] (with_local 500 (codes "x") ∷ []) (at 901 (codes "M") ∷ []) [])
    ≡ Some (fault 21 Unknown)
local_in_a_constant = refl

abbrev vector : List (Option Named) → Option Named → Vector
vector ps r = record { parts = ps; result = r; at = 950 }

unknown_action_in_a_vector : least (one [] [] [] [] (vector (Some (at 951 (codes "a")) ∷ []) None ∷ [])) ≡ Some (fault 951 Unknown)
unknown_action_in_a_vector = refl

unknown_result : least (one acts [] [] [] (vector (Some (at 951 (codes "a")) ∷ []) (Some (at 955 (codes "q"))) ∷ [])) ≡ Some (fault 955 Unknown)
unknown_result = refl

vector_of_another_length : least (one acts [] [] [] (vector (Some (at 951 (codes "a")) ∷ Some (at 952 (codes "a")) ∷ []) None ∷ [])) ≡ Some (fault 950 BadVector)
vector_of_another_length = refl

vector_of_nulls : least (one acts [] [] [] (vector (None ∷ []) None ∷ [])) ≡ Some (fault 950 BadVector)
vector_of_nulls = refl

-- ---- types
abbrev one_var : Var → File
one_var x = one [] [] (x ∷ []) [] []

int_variable : least (one_var (var (at 100 (codes "x")) 101 integer false (Some (digit 102 0)))) ≡ Some (fault 101 UnboundedVariable)
int_variable = refl

one_sided_variable : least (one_var (var (at 100 (codes "x")) 101 one_sided false (Some (digit 102 0)))) ≡ Some (fault 101 UnboundedVariable)
one_sided_variable = refl

real_variable : least (one_var (var (at 100 (codes "x")) 101 real false (Some (digit 102 0)))) ≡ Some (fault 101 RealVariable)
real_variable = refl

bounded_real_variable : least (one_var (var (at 100 (codes "x")) 101 real_bounded false (Some (digit 102 0)))) ≡ Some (fault 101 RealVariable)
bounded_real_variable = refl

bounded_transient : least (one_var (var (at 100 (codes "x")) 101 (bounded (digit 103 0) (digit 104 2)) true (Some (digit 102 0)))) ≡ Some (fault 101 LeftOut)
bounded_transient = refl

one_sided_transient : least (one_var (var (at 100 (codes "x")) 101 one_sided true (Some (digit 102 0)))) ≡ Some (fault 101 LeftOut)
one_sided_transient = refl

sum_with_a_truth_value : least (one_var (var (at 100 (codes "x")) 101 (bounded (digit 103 0) (digit 104 2)) false (Some (Two 105 O.Add (digit 106 1) (Truth 107 true)))))
    ≡ Some (fault 105 WrongType)
sum_with_a_truth_value = refl

bound_names_a_variable : least (one [] [] (small 100 (codes "x") ∷ var (at 110 (codes "y")) 111 (bounded (digit 112 0) (ref 113 (codes "x"))) false (Some (digit 114 0)) ∷ []) [] [])
    ≡ Some (fault 113 NotConstant)
bound_names_a_variable = refl

number_as_a_guard : least (one [] [] [] (edge 510 (codes "l") None (Some (digit 512 1)) (destination 520 (codes "l") [] ∷ []) ∷ []) []) ≡ Some (fault 512 WrongType)
number_as_a_guard = refl

assigns_a_constant : least (one [] (int_const (at 20 (codes "c")) (Some (digit 21 0)) ∷ []) [] (silent (write 530 (codes "c") (digit 531 1) ∷ [])) []) ≡ Some (fault 530 ForeignWrite)
assigns_a_constant = refl

second_assignment : least (one [] [] (small 100 (codes "x") ∷ []) (silent (write 530 (codes "x") (digit 531 1) ∷ write 540 (codes "x") (digit 541 2) ∷ [])) [])
    ≡ Some (fault 540 WrittenTwice)
second_assignment = refl

abbrev int_reward : ℕ → Name → Var
int_reward o x = var (at o x) (o + 1) integer true (Some (digit (o + 2) 0))

real_value_for_an_int_transient : least (one [] [] (int_reward 100 (codes "w") ∷ []) (silent (write 530 (codes "w") (tenth 531) ∷ [])) []) ≡ Some (fault 531 WrongType)
real_value_for_an_int_transient = refl

-- an automaton whose one location gives values
abbrev giving : ℕ → Name → List Write → Automaton
giving o x ws = automaton o x [] (location (o + 1) (codes "l") ws ∷ []) (at (o + 2) (codes "l")) []

location_gives_a_value_to_a_constant : least (file [] (int_const (at 20 (codes "c")) (Some (digit 21 0)) ∷ []) [] (giving 500 (codes "M") (write 530 (codes "c") (digit 531 1) ∷ []) ∷ [])
    (at 901 (codes "M") ∷ []) [])
    ≡ Some (fault 530 ForeignWrite)
location_gives_a_value_to_a_constant = refl

location_gives_a_value_to_a_variable : least (file [] [] (small 100 (codes "x") ∷ []) (giving 500 (codes "M") (write 530 (codes "x") (digit 531 1) ∷ []) ∷ []) (at 901 (codes "M") ∷ []) [])
    ≡ Some (fault 530 ForeignWrite)
location_gives_a_value_to_a_variable = refl

abbrev acting : ℕ → Name → Name → List Write → Automaton
acting o x a ws = plain o x (edge (o + 10) (codes "l") (Some (at (o + 12) a)) None (destination (o + 20) (codes "l") ws ∷ []) ∷ [])

abbrev two : List Var → Name → Name → List Write → Vector → File
two vs a b ws v = file acts [] vs (acting 500 (codes "M") a ws ∷ acting 600 (codes "N") b ws ∷ []) (at 901 (codes "M") ∷ at 902 (codes "N") ∷ []) (v ∷ [])

abbrev both : Vector
both = vector (Some (at 951 (codes "a")) ∷ Some (at 952 (codes "a")) ∷ []) None

two_participants_write_one_variable : least (two (small 100 (codes "x") ∷ []) (codes "a") (codes "a") (write 530 (codes "x") (digit 531 1) ∷ []) both) ≡ Some (fault 950 WrittenTwice)
two_participants_write_one_variable = refl

-- the edge of N has the other action
no_participants_write_one_variable : least (two (small 100 (codes "x") ∷ []) (codes "a") (codes "b") (write 530 (codes "x") (digit 531 1) ∷ []) both) ≡ None
no_participants_write_one_variable = refl

-- ---- profile
transient_read_in_a_guard : least (one [] [] (label 100 (codes "t") ∷ []) (edge 510 (codes "l") None (Some (ref 512 (codes "t"))) (destination 520 (codes "l") [] ∷ []) ∷ []) [])
    ≡ Some (fault 512 TransientRead)
transient_read_in_a_guard = refl

transient_that_starts_at_one : least (one_var (var (at 100 (codes "w")) 101 real true (Some (digit 102 1)))) ≡ Some (fault 102 TransientInitial)
transient_that_starts_at_one = refl

abbrev twice_given : File
twice_given = file [] [] (label 100 (codes "t") ∷ []) (giving 500 (codes "M") (write 530 (codes "t") (Truth 531 true) ∷ []) ∷ giving 600 (codes "N") (write 630 (codes "t") (Truth 631 true) ∷ []) ∷ [])
    (at 901 (codes "M") ∷ at 902 (codes "N") ∷ []) []

given_by_two_automata : least twice_given ≡ Some (fault 630 TransientTwoAutomata)
given_by_two_automata = refl

label_assigned_on_an_edge : least (one [] [] (label 100 (codes "t") ∷ []) (silent (write 530 (codes "t") (Truth 531 true) ∷ [])) []) ≡ Some (fault 530 LabelOnEdge)
label_assigned_on_an_edge = refl

abbrev branches : List Write → List Write → File
branches us ws = one [] [] (reward 100 (codes "w") ∷ reward 110 (codes "v") ∷ []) (edge 510 (codes "l") None None (destination 520 (codes "l") us ∷ destination 540 (codes "l") ws ∷ []) ∷ []) []

reward_of_one_destination : least (branches (write 530 (codes "w") (digit 531 1) ∷ []) []) ≡ Some (fault 511 BranchReward)
reward_of_one_destination = refl

rewards_of_one_and_of_one_point_zero : least (branches (write 530 (codes "w") (digit 531 1) ∷ []) (write 550 (codes "w") (one_point 551) ∷ [])) ≡ Some (fault 511 BranchReward)
rewards_of_one_and_of_one_point_zero = refl

-- the order of the assignments is free
rewards_in_another_order : least (branches (write 530 (codes "w") (digit 531 1) ∷ write 532 (codes "v") (digit 533 2) ∷ []) (write 550 (codes "v") (digit 551 2) ∷ write 552 (codes "w") (digit 553 1) ∷ []))
    ≡ None
rewards_in_another_order = refl

two_reward_writers : least (two (reward 100 (codes "w") ∷ []) (codes "a") (codes "a") (write 530 (codes "w") (digit 531 1) ∷ []) both) ≡ Some (fault 950 TwoRewardWriters)
two_reward_writers = refl
