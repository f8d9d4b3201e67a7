-- What the code's tables of names have.
use Rattle.std.specs.Prelude.{◌≡◌, ℕ, List, [], ◌∷◌, ◌++◌, map, Bool, not, Option, Some, None, is_some, bytes_eq, if◌then◌else◌}
use Rattle.std.specs.List.{find, flat_map, list_any}
use Rattle.std.specs.Option.{option_map}
use Rattle.std.specs.Borrow.{Bor}
use Rattle.name_rules.specs.declared.map.NameMap.{NameMap}
use Rattle.process_core.specs.Ready.{Name}
use Rattle.prism_tree.specs.declared.syntax.NamePair.{NamePair}
use Rattle.prism_tree.specs.declared.syntax.PrismModule.{PrismModule}
use Rattle.prism_tree.specs.declared.syntax.PrismFormula.{PrismFormula}
use Rattle.prism_tree.specs.declared.operator.PrismOp.{PrismOp}
use Rattle.op_trees.specs.Tree.{tree}
use Rattle.op_trees.specs.declared.tree.Expr.{Expr}
use Rattle.bridge_io.specs.declared.reason.Reason.TheVariants.{RenameMissing, RenameOfRenamed}
use Rattle.bridge_io.specs.declared.reason.Fault.{Fault}
use Rattle.name_rules.specs.Least.{fault_if}
use Rattle.prism_names.specs.Names.{formula_body, module_called}
use Rattle.prism_check.specs.NameFaults.{is_copy, values}
use Rattle.name_rules.specs.Names.{is_among, has_name, under}
use Rattle.prism_check.specs.declared.scope.Scope.{Scope}
use Rattle.bridge_io.specs.declared.reason.Named.{Named}
use Rattle.prism_tree.specs.Syntax.{Expression, Module, module_of, formula_of, Var, Command, File, plain, copied}
use Rattle.op_trees.specs.Names.{is_called}
use Rattle.prism_names.specs.Names.{module_name}
use Rattle.prism_check.specs.declared.tables.Renaming.{Renaming}
use Rattle.prism_check.specs.declared.tables.Renaming.TheVariants.{Few, Many}
use Rattle.prism_check.specs.declared.tables.Modules.{Modules}
use Rattle.prism_check.specs.declared.tables.Formulas.{Formulas}

-- ---- renamings
abbrev pub pair_for : List NamePair → Name → Option Name
pair_for [] x = None
pair_for (p ∷ ps) x = if is_called x p.old then Some p.new.name else pair_for ps x

abbrev pub name_under : NameMap (Bor (List ℕ)) → List ℕ → Option Name
name_under table x = option_map (λ s. s.now) (under table x)

abbrev pub new_name : Renaming → List ℕ → Option Name
new_name (Few pairs) x = pair_for pairs.now x
new_name (Many table) x = name_under table x

-- ---- modules
-- the first module of this name
abbrev pub named_module : List PrismModule → Name → Option Module
named_module ms x = find (λ m. is_called x (module_name m)) (map module_of ms)

abbrev pub module_at : NameMap (Bor PrismModule) → List ℕ → Option Module
module_at table x = option_map (λ m. module_of m.now) (under table x)

abbrev pub module_under : Modules → List ℕ → Option Module
module_under t x = module_at t.first x

-- ---- the variables of a module, by such tables
abbrev pub vars_in : Option Module → List Var
vars_in None = []
vars_in (Some (plain m)) = m.vars
vars_in (Some (copied m)) = []

abbrev pub commands_in : Option Module → List Command
commands_in None = []
commands_in (Some (plain m)) = m.commands
commands_in (Some (copied m)) = []

abbrev pub named_at : ℕ → Option Name → List Named
named_at at None = []
named_at at (Some x) = record { name = x; at = at } ∷ []

abbrev pub renamed_by : (Name → Option Name) → ℕ → List Var → List Named
renamed_by new at xs = flat_map (λ x. named_at at (new x.name.name)) xs

abbrev pub module_vars_by : (Name → Option Module) → Module → List Named
module_vars_by called (plain m) = map (λ x. x.name) m.vars
module_vars_by called (copied m) = renamed_by (pair_for m.pairs) m.name.at (vars_in (called m.from.name))

abbrev pub lacks_pair_by : (Name → Option Name) → List Var → Bool
lacks_pair_by new xs = list_any (λ x. not (is_some (new x.name.name))) xs

abbrev pub copy_faults_by : (Name → Option Module) → Module → List Fault
copy_faults_by called (plain m) = []
copy_faults_by called (copied m) =
    fault_if (lacks_pair_by (pair_for m.pairs) (vars_in (called m.from.name))) m.name.at RenameMissing
    ++ fault_if (is_copy (called m.from.name)) m.from.at RenameOfRenamed

-- ---- formulas
-- the body of the first formula of this name
abbrev pub body_in : List PrismFormula → Name → Option Expression
body_in fs x = option_map (λ f. f.body) (find (λ f. is_called x f.name) (map formula_of fs))

abbrev pub body_at : NameMap (Bor (Expr PrismOp)) → List ℕ → Option Expression
body_at table x = option_map (λ e. tree e.now) (under table x)

abbrev pub body_under : Formulas → List ℕ → Option Expression
body_under t x = body_at t.bodies x

-- ---- the tables of a file
pub record IsScope (s : Scope) (file : File) : Type 0 where
  pub modules : (x : Name) → module_under s.modules x ≡ module_called file x
  pub formulas : (x : Name) → body_under s.formulas x ≡ formula_body file x
  pub known : has_name s.known ≡ is_among (values file)
