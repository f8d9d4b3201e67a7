-- The faults of the types of a PRISM file, and of what its commands write (PRISM manual, "The PRISM Language":
-- "Expressions", "Constants", "Modules and Variables", "Commands", "Global Variables", "Module Renaming").
use Rattle.std.specs.Prelude.{ℕ, ◌+◌, List, [], ◌∷◌, ◌++◌, map, length, Option, Some, None, Bool, not, ◌&&◌, if◌then◌else◌, bytes_eq, nat_eq, is_some}
use Rattle.std.specs.List.{flat_map, find}
use Rattle.std.specs.Option.{option_map, option_or as or_else}
use Rattle.bridge_io.specs.declared.reason.Reason.TheVariants.{WrongType, NotConstant, ForeignWrite, SyncGlobalWrite, WrittenTwice}
use Rattle.bridge_io.specs.declared.reason.Fault.{Fault}
use Rattle.op_trees.specs.declared.tree.Ty.{Ty}
use Rattle.op_trees.specs.Tree.{Truth, Number, Name as At, One, Two, Three}
use Rattle.op_trees.specs.Types.{Types, type_in, types_looked_up, misfit_at}
use Rattle.op_trees.specs.Names.{offset_of, some_name, is_called}
use Rattle.process_core.specs.Ready.{Name}
use Rattle.prism_tree.specs.Operators.{prism_meaning}
use Rattle.prism_tree.specs.Syntax.{Expression, Command, Module, plain, copied, File}
use Rattle.prism_names.specs.Names.{formula_body, is_formula, Part, part_of, parts}
use Rattle.prism_names.specs.Laws.{flat_part}
use Rattle.prism_names.specs.Order.{whole}
use Rattle.name_rules.specs.Least.{fault, fault_if, moved_to}
use Rattle.op_trees.specs.declared.wanted.Wanted.{Wanted}
use Rattle.op_trees.specs.declared.wanted.Wanted.TheVariants as W
use Rattle.op_trees.specs.Wanted.{wanted_by, is_unwanted}
use Rattle.prism_check.specs.Demands.{Demand, fixed, varying, written, var_type, formula_demands, part_demands, outer_demands}
use Rattle.name_rules.specs.Doubled.{doubled}

-- ---- what the names are

-- a variable: the number of its module, none for a global one; the name by which the model knows it; its type
pub record Variable : Type 0 where
  pub owner : Option ℕ
  pub name : Name
  pub ty : Ty

abbrev pub part_variables : ℕ → Part → List Variable
part_variables i p = map (λ x. record { owner = Some i; name = p.rename x.name.name; ty = var_type x }) p.vars

abbrev pub numbered_variables : ℕ → List Part → List Variable
numbered_variables i [] = []
numbered_variables i (p ∷ ps) = part_variables i p ++ numbered_variables (i + 1) ps

abbrev pub variables : File → List Variable
variables file =
    map (λ x. record { owner = None; name = x.name.name; ty = var_type x }) file.globals
    ++ numbered_variables 0 (parts file)

abbrev pub variable_called : File → Name → Option Variable
variable_called file x = find (λ v. bytes_eq v.name x) (variables file)

-- the type that a constant or a variable is declared with
abbrev pub declared_types : File → Types
declared_types file x =
    or_else (option_map (λ c. c.ty) (find (λ c. is_called x c.name) file.constants))
    (option_map (λ v. v.ty) (variable_called file x))

-- the type of a name: a formula's name has the type of its body
abbrev pub types : File → Types
types file = types_looked_up prism_meaning (formula_body file) (length file.formulas) (declared_types file)

-- ---- types of expressions

-- the places of the nodes whose operands have types and which have none; a name of a formula that has no type is judged
-- where the formula stands
abbrev pub misfits : Types → Expression → List ℕ
misfits ty (Truth at b) = []
misfits ty (Number at d) = []
misfits ty (At at x) = []
misfits ty (One at o a) =
    misfits ty a ++ misfit_at at (is_some (type_in prism_meaning ty a)) (type_in prism_meaning ty (One at o a))
misfits ty (Two at o a b) =
    misfits ty a ++ (misfits ty b
    ++ misfit_at at (is_some (type_in prism_meaning ty a) && is_some (type_in prism_meaning ty b)) (type_in prism_meaning ty (Two at o a b)))
misfits ty (Three at o a b c) =
    misfits ty a ++ (misfits ty b ++ (misfits ty c
    ++ misfit_at at (is_some (type_in prism_meaning ty a) && (is_some (type_in prism_meaning ty b) && is_some (type_in prism_meaning ty c))) (type_in prism_meaning ty (Three at o a b c))))

abbrev pub type_faults_of : Types → Wanted → Expression → List Fault
type_faults_of ty w e =
    map (λ at. fault at WrongType) (misfits ty e)
    ++ fault_if (is_unwanted w (type_in prism_meaning ty e)) (offset_of e) WrongType

-- ---- expressions that have to be constant

abbrev pub is_variable : File → Name → Bool
is_variable file x = not (is_formula file x) && is_some (variable_called file x)

-- a variable occurs where the formulas are written out
abbrev pub has_variable : File → Expression → Bool
has_variable file e = some_name (is_variable file) (whole file e)

-- ---- writes

-- A command may write the variables of its module, and global ones if it has no action. What it may not write still has
-- to be of the variable's type, where it is a variable.
pub data Target : Type 0 where
  own : Ty → Target
  global : Ty → Target
  foreign : Wanted → Target

abbrev pub target_by : Option ℕ → ℕ → Ty → Target
target_by None i t = global t
target_by (Some owner) i t = if nat_eq owner i then own t else foreign (wanted_by t)

abbrev pub target_of : ℕ → Option Variable → Target
target_of i None = foreign W.Anything
target_of i (Some v) = target_by v.owner i v.ty

-- what a command of a module writes
abbrev pub target : File → ℕ → Name → Target
target file i x = target_of i (if is_formula file x then None else variable_called file x)

abbrev pub wanted_at : Target → Wanted
wanted_at (own t) = wanted_by t
wanted_at (global t) = wanted_by t
wanted_at (foreign w) = w

abbrev pub write_faults : Target → Bool → ℕ → List Fault
write_faults (own t) acts at = []
write_faults (global t) acts at = fault_if acts at SyncGlobalWrite
write_faults (foreign w) acts at = fault at ForeignWrite ∷ []

-- ---- the contents of a module, and the rest

-- in the module of this number
abbrev pub demand_faults : File → ℕ → Demand → List Fault
demand_faults file i (fixed w e) = type_faults_of (types file) w e ++ fault_if (has_variable file e) (offset_of e) NotConstant
demand_faults file i (varying w e) = type_faults_of (types file) w e
demand_faults file i (written acts w) =
    write_faults (target file i w.name.name) acts w.name.at
    ++ type_faults_of (types file) (wanted_at (target file i w.name.name)) w.value

-- writes to one variable in one update
abbrev pub repeated_writes : Command → List Fault
repeated_writes c = flat_map (λ b. doubled WrittenTwice (map (λ w. w.name) b.writes)) c.branches

abbrev pub part_faults : File → ℕ → Part → List Fault
part_faults file i p = flat_map (demand_faults file i) (part_demands p) ++ flat_map repeated_writes p.commands

-- A copy is judged as the module that it is written out to, and all its faults stand at its name.
abbrev pub module_faults : File → ℕ → Module → List Fault
module_faults file i (plain m) = part_faults file i (part_of file (plain m))
module_faults file i (copied m) = map (moved_to m.name.at) (part_faults file i (flat_part file (part_of file (copied m))))

abbrev pub numbered_faults : File → ℕ → List Module → List Fault
numbered_faults file i [] = []
numbered_faults file i (m ∷ ms) = module_faults file i m ++ numbered_faults file (i + 1) ms

-- outside of modules nothing is written
abbrev pub type_faults : File → List Fault
type_faults file =
    flat_map (demand_faults file 0) (outer_demands file)
    ++ (flat_map (demand_faults file 0) (flat_map formula_demands file.formulas) ++ numbered_faults file 0 file.modules)
