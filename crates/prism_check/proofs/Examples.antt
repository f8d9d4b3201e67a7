-- The least fault of small files, computed from the definitions. Offsets are chosen to tell the places apart.
use Rattle.std.specs.Prelude.{ℕ, pos, List, [], ◌∷◌, true, false, Option, Some, None, codes}
use Rattle.std.proofs.Common.{◌≡◌, refl}
use Rattle.bridge_io.specs.declared.reason.Named.{Named}
use Rattle.bridge_io.specs.declared.reason.Reason.TheVariants.{TwiceNamed, Unknown, Cycle, RenameMissing, RenameOfRenamed, WrongType, NotConstant, ForeignWrite, SyncGlobalWrite, WrittenTwice, Nothing}
use Rattle.bridge_io.specs.declared.reason.Fault.{Fault}
use Rattle.op_trees.specs.declared.tree.Ty.TheVariants as T
use Rattle.op_trees.specs.Tree.{Truth, Number, Name as At, Two}
use Rattle.process_core.specs.Ready.{Name}
use Rattle.prism_tree.specs.declared.operator.PrismOp.TheVariants as O
use Rattle.prism_tree.specs.declared.syntax.NamePair.{NamePair}
use Rattle.prism_tree.specs.Syntax.{Expression, Const, Var, Formula, Write, Command, Module, plain, copied, File}
use Rattle.prism_flat.specs.Flat.{flat}
use Rattle.name_rules.specs.Least.{fault, soonest}
use Rattle.prism_check.specs.NameFaults.{name_faults}
use Rattle.prism_check.specs.SizeFaults.{nodes, height, command_count, action_count}
use Rattle.prism_check.specs.TypeFaults.{type_faults}

-- ---- short forms
abbrev at : ℕ → Name → Named
at o x = record { name = x; at = o }

abbrev digit : ℕ → Expression
digit o = Number o (record { negative = false; digits = 1; exponent = pos 0; real = false })

abbrev const : Named → Option Expression → Const
const x e = record { name = x; ty = T.Int; value = e }

abbrev formula : Named → Expression → Formula
formula x e = record { name = x; body = e }

-- a variable from 1 to 1
abbrev var : Named → Var
var x = record { name = x; range = Some (record { low = digit 90; high = digit 91 }); start = None }

abbrev pair : Named → Named → NamePair
pair x y = record { old = x; new = y }

abbrev command : Option Named → Expression → List Write → Command
command a g ws = record { action = a; guard = g; branches = record { weight = None; writes = ws } ∷ [] }

abbrev module_of : Named → List Var → List Command → Module
module_of x vs cs = plain (record { name = x; vars = vs; commands = cs })

abbrev copy : Named → Named → List NamePair → Module
copy x from ps = copied (record { name = x; from = from; pairs = ps })

abbrev file : List Const → List Var → List Formula → List Module → File
file cs gs fs ms = record { constants = cs; globals = gs; formulas = fs; modules = ms; labels = []; rewards = []; init = None; end = 99 }

abbrev least_name : File → Option Fault
least_name f = soonest None (name_faults f)

abbrev least_type : File → Option Fault
least_type f = soonest None (type_faults f)

abbrev ref : ℕ → Name → Expression
ref o x = At o x

-- ---- names
-- mdp
no_modules : least_name (file [] [] [] []) ≡ Some (fault 99 Nothing)
no_modules = refl

-- const int b=a; const int a=1; const int a=b; the second `a` stands twice, but `b` leads to it and back
circle_through_doubled_name : least_name (file (const (at 15 (codes "b")) (Some (ref 17 (codes "a"))) ∷ const (at 30 (codes "a")) (Some (digit 32))
    ∷ const (at 45 (codes "a")) (Some (ref 47 (codes "b"))) ∷ []) [] [] (module_of (at 57 (codes "M")) (var (at 59 (codes "x")) ∷ []) [] ∷ []))
    ≡ Some (fault 15 Cycle)
circle_through_doubled_name = refl

-- formula f=g; formula g=f;
formulas_in_a_circle : least_name (file [] [] (formula (at 13 (codes "f")) (ref 15 (codes "g")) ∷ formula (at 26 (codes "g")) (ref 28 (codes "f")) ∷ [])
    (module_of (at 38 (codes "M")) (var (at 40 (codes "x")) ∷ []) [] ∷ []))
    ≡ Some (fault 13 Cycle)
formulas_in_a_circle = refl

-- module N = M [x=x] endmodule module M x:[1..1]; endmodule
clash_with_an_earlier_copy : least_name (file [] [] [] (copy (at 11 (codes "N")) (at 15 (codes "M")) (pair (at 18 (codes "x")) (at 20 (codes "x")) ∷ [])
    ∷ module_of (at 40 (codes "M")) (var (at 42 (codes "x")) ∷ []) [] ∷ []))
    ≡ Some (fault 42 TwiceNamed)
clash_with_an_earlier_copy = refl

abbrev two_vars : Module
two_vars = module_of (at 11 (codes "M")) (var (at 13 (codes "x")) ∷ var (at 22 (codes "y")) ∷ []) []

-- module M x:[1..1]; y:[1..1]; endmodule module N = M [x=z, y=z] endmodule
two_variables_become_one : least_name (file [] [] [] (two_vars ∷ copy (at 48 (codes "N")) (at 52 (codes "M"))
    (pair (at 55 (codes "x")) (at 57 (codes "z")) ∷ pair (at 60 (codes "y")) (at 62 (codes "z")) ∷ []) ∷ []))
    ≡ Some (fault 48 TwiceNamed)
two_variables_become_one = refl

-- the same with [x=z] alone
variable_left_out : least_name (file [] [] [] (two_vars ∷ copy (at 48 (codes "N")) (at 52 (codes "M")) (pair (at 55 (codes "x")) (at 57 (codes "z")) ∷ []) ∷ []))
    ≡ Some (fault 48 RenameMissing)
variable_left_out = refl

-- module M endmodule module N = M [x=y] endmodule module K = N [y=z] endmodule
copy_of_a_copy : least_name (file [] [] [] (module_of (at 11 (codes "M")) [] []
    ∷ copy (at 30 (codes "N")) (at 34 (codes "M")) (pair (at 37 (codes "x")) (at 39 (codes "y")) ∷ [])
    ∷ copy (at 59 (codes "K")) (at 63 (codes "N")) (pair (at 66 (codes "y")) (at 68 (codes "z")) ∷ []) ∷ []))
    ≡ Some (fault 63 RenameOfRenamed)
copy_of_a_copy = refl

-- formula f=1; const int c=1; module M x:[1..1]; [] c=1 -> true; endmodule module N = M [x=y, c=f] endmodule
abbrev copy_with : List NamePair → Expression → File
copy_with ps g = file (const (at 27 (codes "c")) (Some (digit 29)) ∷ []) [] (formula (at 13 (codes "f")) (digit 15) ∷ [])
    (module_of (at 39 (codes "M")) (var (at 41 (codes "x")) ∷ []) (command None (Two 54 O.Equal g (digit 56)) [] ∷ [])
    ∷ copy (at 85 (codes "N")) (at 89 (codes "M")) ps ∷ [])

copy_names_a_formula : least_name (copy_with (pair (at 92 (codes "x")) (at 94 (codes "y")) ∷ pair (at 97 (codes "c")) (at 99 (codes "f")) ∷ []) (ref 54 (codes "c")))
    ≡ Some (fault 85 Unknown)
copy_names_a_formula = refl

-- with no `c` in the module there is no such fault
pair_that_occurs_nowhere : least_name (copy_with (pair (at 92 (codes "x")) (at 94 (codes "y")) ∷ pair (at 97 (codes "c")) (at 99 (codes "f")) ∷ []) (ref 54 (codes "f")))
    ≡ None
pair_that_occurs_nowhere = refl

-- [] z=1 -> true;
unknown_name : least_name (copy_with (pair (at 92 (codes "x")) (at 94 (codes "y")) ∷ []) (ref 54 (codes "z"))) ≡ Some (fault 54 Unknown)
unknown_name = refl

-- ---- types
-- formula f=c; const bool c; const int d=1; module M x:[1..1]; [] f -> true; endmodule module N = M [x=y, c=d] endmodule
abbrev truth_const : Const
truth_const = record { name = at 24 (codes "c"); ty = T.Bool; value = None }

-- the contents of a formula are renamed too, and what does not fit in the copy stands at its name
formula_in_a_copy : least_type (file (truth_const ∷ const (at 37 (codes "d")) (Some (digit 39)) ∷ []) [] (formula (at 8 (codes "f")) (ref 10 (codes "c")) ∷ [])
    (module_of (at 49 (codes "M")) (var (at 51 (codes "x")) ∷ []) (command None (ref 63 (codes "f")) [] ∷ [])
    ∷ copy (at 95 (codes "N")) (at 99 (codes "M")) (pair (at 102 (codes "x")) (at 104 (codes "y")) ∷ pair (at 107 (codes "c")) (at 109 (codes "d")) ∷ []) ∷ []))
    ≡ Some (fault 95 WrongType)
formula_in_a_copy = refl

-- module N = M [x=y] endmodule module M x:[1..1]; [] x -> true; endmodule
fault_at_an_earlier_copy : least_type (file [] [] [] (copy (at 12 (codes "N")) (at 16 (codes "M")) (pair (at 19 (codes "x")) (at 21 (codes "y")) ∷ [])
    ∷ module_of (at 41 (codes "M")) (var (at 43 (codes "x")) ∷ []) (command None (ref 55 (codes "x")) [] ∷ []) ∷ []))
    ≡ Some (fault 12 WrongType)
fault_at_an_earlier_copy = refl

-- formula f=x; module M x:[1..1]; y:[1..1] init f; endmodule
variable_by_a_formula : least_type (file [] [] (formula (at 13 (codes "f")) (ref 15 (codes "x")) ∷ [])
    (module_of (at 25 (codes "M")) (var (at 27 (codes "x")) ∷ record { name = at 37 (codes "y"); range = Some (record { low = digit 40; high = digit 43 }); start = Some (ref 51 (codes "f")) } ∷ []) [] ∷ []))
    ≡ Some (fault 51 NotConstant)
variable_by_a_formula = refl

abbrev one_command : Option Named → Expression → List Write → File
one_command a g ws = file (const (at 10 (codes "c")) (Some (digit 12)) ∷ []) (var (at 22 (codes "g")) ∷ []) (formula (at 40 (codes "f")) (digit 42) ∷ [])
    (module_of (at 51 (codes "M")) (var (at 53 (codes "x")) ∷ []) (command a g ws ∷ []) ∷ module_of (at 95 (codes "N")) (var (at 97 (codes "y")) ∷ []) [] ∷ [])

abbrev write : ℕ → Name → Write
write o x = record { name = at o x; value = digit 89 }

-- [] x+(true&1)=0 -> true; a node without a type has one fault, at the node whose operands do not fit
one_fault_for_one_node : least_type (one_command None (Two 66 O.Equal (Two 66 O.Add (ref 66 (codes "x")) (Two 68 O.And (Truth 69 true) (digit 74))) (digit 77)) [])
    ≡ Some (fault 68 WrongType)
one_fault_for_one_node = refl

writes_what_it_may : least_type (one_command None (Truth 66 true) (write 77 (codes "x") ∷ write 84 (codes "g") ∷ [])) ≡ None
writes_what_it_may = refl

writes_a_global_with_an_action : least_type (one_command (Some (at 63 (codes "a"))) (Truth 66 true) (write 77 (codes "x") ∷ write 84 (codes "g") ∷ []))
    ≡ Some (fault 84 SyncGlobalWrite)
writes_a_global_with_an_action = refl

writes_a_constant : least_type (one_command None (Truth 66 true) (write 77 (codes "c") ∷ [])) ≡ Some (fault 77 ForeignWrite)
writes_a_constant = refl

writes_a_formula : least_type (one_command None (Truth 66 true) (write 77 (codes "f") ∷ [])) ≡ Some (fault 77 ForeignWrite)
writes_a_formula = refl

writes_a_variable_of_another_module : least_type (one_command None (Truth 66 true) (write 77 (codes "y") ∷ [])) ≡ Some (fault 77 ForeignWrite)
writes_a_variable_of_another_module = refl

writes_a_variable_twice : least_type (one_command None (Truth 66 true) (write 77 (codes "x") ∷ write 84 (codes "x") ∷ [])) ≡ Some (fault 84 WrittenTwice)
writes_a_variable_twice = refl

-- ---- initial conditions
-- module M x:[1..1]; endmodule init e endinit
abbrev beginning : Expression → File
beginning e = record (file [] [] [] (module_of (at 11 (codes "M")) (var (at 13 (codes "x")) ∷ []) [] ∷ [])) { init = Some e }

begins_where_a_variable_is : least_type (beginning (Two 40 O.Equal (ref 40 (codes "x")) (digit 42))) ≡ None
begins_where_a_variable_is = refl

begins_by_a_number : least_type (beginning (ref 40 (codes "x"))) ≡ Some (fault 40 WrongType)
begins_by_a_number = refl

begins_by_an_unknown_name : least_name (beginning (ref 40 (codes "y"))) ≡ Some (fault 40 Unknown)
begins_by_an_unknown_name = refl

-- the two bounds, and x=1
nodes_of_an_initial_condition : nodes (flat (beginning (Two 40 O.Equal (ref 40 (codes "x")) (digit 42)))) ≡ 5
nodes_of_an_initial_condition = refl

-- ---- sizes
-- formula f=x+x; module M x:[1..1]; [a] f=1 -> true; endmodule module N = M [x=y, a=b] endmodule
abbrev doubling : File
doubling = file [] [] (formula (at 8 (codes "f")) (Two 10 O.Add (ref 10 (codes "x")) (ref 12 (codes "x"))) ∷ [])
    (module_of (at 22 (codes "M")) (var (at 24 (codes "x")) ∷ []) (command (Some (at 35 (codes "a"))) (Two 38 O.Equal (ref 38 (codes "f")) (digit 40)) [] ∷ [])
    ∷ copy (at 69 (codes "N")) (at 73 (codes "M")) (pair (at 76 (codes "x")) (at 78 (codes "y")) ∷ pair (at 81 (codes "a")) (at 83 (codes "b")) ∷ []) ∷ [])

-- the two bounds and (x+x)=1, twice; the formula's own declaration does not count
nodes_of_a_copy_too : nodes (flat doubling) ≡ 14
nodes_of_a_copy_too = refl

height_of_a_guard : height (flat doubling) ≡ 3
height_of_a_guard = refl

commands_of_a_copy_too : command_count (flat doubling) ≡ 2
commands_of_a_copy_too = refl

renamed_action_is_another : action_count (flat doubling) ≡ 2
renamed_action_is_another = refl
