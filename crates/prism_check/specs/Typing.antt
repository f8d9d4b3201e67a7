-- What the code's tables of types have, and the faults that are judged by them.
use Rattle.std.specs.Prelude.{◌≡◌, ℕ, ◌+◌, List, [], ◌∷◌, ◌++◌, map, Bool, Option, Some, None, is_some, unwrap_or, bytes_eq, if◌then◌else◌}
use Rattle.std.specs.List.{find, flat_map, fold}
use Rattle.std.specs.Option.{option_map, option_or as or_else}
use Rattle.std.specs.Borrow.{Bor}
use Rattle.bridge_io.specs.declared.reason.Reason.TheVariants.{WrongType, NotConstant, WrittenTwice}
use Rattle.bridge_io.specs.declared.reason.Fault.{Fault}
use Rattle.bridge_io.specs.declared.reason.Named.{Named}
use Rattle.op_trees.specs.declared.tree.Ty.{Ty}
use Rattle.op_trees.specs.Types.{Types, type_in}
use Rattle.op_trees.specs.Names.{offset_of, some_name, is_called}
use Rattle.process_core.specs.Ready.{Name}
use Rattle.prism_tree.specs.Operators.{prism_meaning}
use Rattle.prism_tree.specs.Syntax.{Expression, Var, Formula, Branch, Command, Module, plain, copied, File}
use Rattle.op_trees.specs.declared.wanted.Wanted.TheVariants as W
use Rattle.prism_check.specs.declared.tables.Renaming.{Renaming}
use Rattle.prism_check.specs.declared.variables.Owned.{Owned}
use Rattle.prism_check.specs.declared.variables.Declared.{Declared}
use Rattle.prism_check.specs.declared.typing.Known.{Known}
use Rattle.prism_check.specs.declared.typing.Names.{Names}
use Rattle.prism_check.specs.declared.writes.Target as C
use Rattle.prism_check.specs.declared.writes.Target.TheVariants as V
use Rattle.name_rules.specs.Least.{fault, fault_if, soonest}
use Rattle.prism_check.specs.Demands.{Demand, fixed, varying, written, var_type, var_demands, command_demands}
use Rattle.name_rules.specs.Names.{under}
use Rattle.name_rules.specs.Doubled.{doubled}
use Rattle.prism_check.specs.Tables.{pair_for, vars_in, new_name}
use Rattle.prism_check.specs.TypeFaults.{Variable, variable_called, types, has_variable, Target, own, global, foreign, target_by, target, wanted_at, type_faults_of, write_faults}

-- ---- variables
abbrev pub owned : Variable → Owned
owned v = record { owner = v.owner; ty = v.ty }

-- the first variable of this name
abbrev pub owned_in : List Variable → Name → Option Owned
owned_in vs x = option_map owned (find (λ v. bytes_eq v.name x) vs)

-- variables of a module, which have new names or keep their own
abbrev pub variables_by : (Name → Option Name) → Option ℕ → List Var → List Variable
variables_by new owner xs = map (λ x. record { owner = owner; name = unwrap_or (new x.name.name) x.name.name; ty = var_type x }) xs

abbrev pub module_variables_by : (Name → Option Module) → ℕ → Module → List Variable
module_variables_by called i (plain m) = variables_by (pair_for []) (Some i) m.vars
module_variables_by called i (copied m) = variables_by (pair_for m.pairs) (Some i) (vars_in (called m.from.name))

abbrev pub numbered_by : (Name → Option Module) → ℕ → List Module → List Variable
numbered_by called i [] = []
numbered_by called i (m ∷ ms) = module_variables_by called i m ++ numbered_by called (i + 1) ms

-- ---- what is declared
pub record IsDeclared (d : Declared) (file : File) : Type 0 where
  pub constants : (x : Name) → under d.constants x ≡ option_map (λ c. c.ty) (find (λ c. is_called x c.name) file.constants)
  pub variables : (x : Name) → under d.variables x ≡ option_map owned (variable_called file x)

unfoldable pub declared_type : Declared → Types
declared_type d x = or_else (under d.constants x) (option_map (λ v. v.ty) (under d.variables x))

unfoldable pub is_declared_variable : Declared → Name → Bool
is_declared_variable d x = is_some (under d.variables x)

-- ---- formulas, in an order in which each names only earlier ones
abbrev pub type_said : Option Known → Option Ty → Option Ty
type_said None t = t
type_said (Some k) t = k.ty

abbrev pub varies_said : Option Known → Bool → Bool
varies_said None b = b
varies_said (Some k) b = k.varies

-- what is known of an expression, by what is known of formulas and by what other names are
abbrev pub known_by : Types → (Name → Bool) → (Name → Option Known) → Expression → Known
known_by ty is_such said e = record {
  ty = type_in prism_meaning (λ x. type_said (said x) (ty x)) e;
  varies = some_name (λ x. varies_said (said x) (is_such x)) e;
}

abbrev pub with_known : Types → (Name → Bool) → (Name → Option Known) → Formula → Name → Option Known
with_known ty is_such said f x = if bytes_eq f.name.name x then Some (known_by ty is_such said f.body) else said x

abbrev pub nothing_known : Name → Option Known
nothing_known x = None

abbrev pub known_after : Types → (Name → Bool) → List Formula → Name → Option Known
known_after ty is_such fs = fold (with_known ty is_such) nothing_known fs

-- ---- all names, as they stand in the tables
unfoldable pub type_under : Names → Types
type_under n x = type_said (under n.formulas.now x) (declared_type n.declared.now x)

unfoldable pub varies_under : Names → Name → Bool
varies_under n x = varies_said (under n.formulas.now x) (is_declared_variable n.declared.now x)

abbrev pub target_found : ℕ → Option Known → Option Owned → Target
target_found i (Some k) o = foreign W.Anything
target_found i None None = foreign W.Anything
target_found i None (Some v) = target_by v.owner i v.ty

unfoldable pub target_under : Names → ℕ → Name → Target
target_under n i x = target_found i (under n.formulas.now x) (under n.declared.now.variables x)

-- the names of a file
pub record AreNames (n : Names) (file : File) : Type 0 where
  pub typed : (x : Name) → type_under n x ≡ types file x
  pub varies : (e : Expression) → some_name (varies_under n) e ≡ has_variable file e
  pub targets : (i : ℕ) (x : Name) → target_under n i x ≡ target file i x

-- ---- the same by what a renaming replaces names by, if there is one
abbrev pub read_by : Option (Bor Renaming) → Name → Name
read_by None x = x
read_by (Some r) x = unwrap_or (new_name r.now x) x

abbrev pub read_in : Names → Name → Name
read_in n x = read_by n.renaming x

abbrev pub type_of : Names → Types
type_of n x = type_under n (read_in n x)

abbrev pub varies_in : Names → Name → Bool
varies_in n x = varies_under n (read_in n x)

abbrev pub target_in : Names → ℕ → Name → Target
target_in n i x = target_under n i (read_in n x)

abbrev pub target_view : C.Target → Target
target_view (V.Own t) = own t
target_view (V.Global t) = global t
target_view (V.Foreign w) = foreign w

-- ---- faults, all of a copy at one place
abbrev pub placed : Option ℕ → Fault → Fault
placed place f = fault (unwrap_or place f.at) f.reason

abbrev pub soonest_at : Option ℕ → Option Fault → List Fault → Option Fault
soonest_at place best fs = soonest best (map (placed place) fs)

abbrev pub wrong : List ℕ → List Fault
wrong places = map (λ at. fault at WrongType) places

abbrev pub demand_faults_by : Types → (Name → Bool) → (Name → Target) → Demand → List Fault
demand_faults_by ty varies writes (fixed w e) = type_faults_of ty w e ++ fault_if (some_name varies e) (offset_of e) NotConstant
demand_faults_by ty varies writes (varying w e) = type_faults_of ty w e
demand_faults_by ty varies writes (written acts w) =
    write_faults (writes w.name.name) acts w.name.at ++ type_faults_of ty (wanted_at (writes w.name.name)) w.value

abbrev pub faults_in : Names → ℕ → Demand → List Fault
faults_in n i = demand_faults_by (type_of n) (varies_in n) (target_in n i)

-- the names that one update writes twice, and that the updates of a command do, where names are replaced
abbrev pub called_by : (Name → Name) → Named → Named
called_by read n = record { name = read n.name; at = n.at }

abbrev pub repeated_in : (Name → Name) → Branch → List Fault
repeated_in read b = doubled WrittenTwice (map (λ w. called_by read w.name) b.writes)

abbrev pub repeated_by : (Name → Name) → Command → List Fault
repeated_by read c = flat_map (repeated_in read) c.branches

abbrev pub moved_name : Option ℕ → Named → Named
moved_name place n = record { name = n.name; at = unwrap_or place n.at }

-- these variables and commands, and a module with its own
abbrev pub contents_by : (Demand → List Fault) → (Command → List Fault) → List Var → List Command → List Fault
contents_by judged repeated vars commands =
    flat_map judged (flat_map var_demands vars ++ flat_map command_demands commands) ++ flat_map repeated commands

abbrev pub contents_in : Names → ℕ → List Var → List Command → List Fault
contents_in n i = contents_by (faults_in n i) (repeated_by (read_in n))

abbrev pub contents_faults : Names → ℕ → Module → List Fault
contents_faults n i (plain m) = contents_in n i m.vars m.commands
contents_faults n i (copied m) = []
