-- The faults of the names of a PRISM file (PRISM manual, "The PRISM Language": "Constants", "Modules and Variables",
-- "Formulas and Labels", "Module Renaming", "Multiple Initial States").
use Rattle.std.specs.Prelude.{ℕ, List, [], ◌∷◌, ◌++◌, map, length, Option, Some, None, Bool, true, false, not, ◌&&◌, ◌||◌, if◌then◌else◌, codes, is_some, nat_eq}
use Rattle.std.specs.List.{flat_map, list_any}
use Rattle.bridge_io.specs.declared.reason.Named.{Named}
use Rattle.bridge_io.specs.declared.reason.Reason.TheVariants.{TwiceNamed, Unknown, RenameMissing, RenameOfRenamed, Nothing, TwoInits}
use Rattle.bridge_io.specs.declared.reason.Fault.{Fault}
use Rattle.name_rules.specs.Least.{fault_if}
use Rattle.op_trees.specs.Names.{is_called}
use Rattle.name_rules.specs.Names.{Name}
pub use Rattle.name_rules.specs.Names.{is_among}
pub use Rattle.name_rules.specs.Doubled.{clash, doubled_after, doubled}
use Rattle.name_rules.specs.Uses.{used}
pub use Rattle.op_trees.specs.Names.{names_of, some_name}
pub use Rattle.name_rules.specs.Unknown.{unless_known}
use Rattle.name_rules.specs.Circles.{circles as circles_of}
pub use Rattle.name_rules.specs.Circles.{Declared, uses_of, leads_to, is_circular, circular}
use Rattle.basics.specs.Options.{if_some}
use Rattle.prism_tree.specs.declared.syntax.NamePair.{NamePair}
use Rattle.prism_tree.specs.declared.syntax.CopiedModule.{CopiedModule}
use Rattle.prism_tree.specs.Syntax.{Expression, Const, Formula, Var, Module, plain, copied, File}
use Rattle.prism_names.specs.Order.{whole}
use Rattle.prism_names.specs.Names.{is_formula, renaming, module_name, module_called, Part, part_of}
use Rattle.prism_check.specs.Demands.{Demand, fixed, varying, written, formula_demands, part_demands, outer_demands}

-- ---- names that are declared twice
abbrev pub has_pair : List NamePair → Name → Bool
has_pair pairs x = list_any (λ p. is_called x p.old) pairs

-- a variable of a copy has its new name and stands where the copy's name stands; one that is not renamed is none
abbrev pub renamed_var : CopiedModule → Var → List Named
renamed_var m x =
    if has_pair m.pairs x.name.name then record { name = renaming m.pairs x.name.name; at = m.name.at } ∷ [] else []

-- the variables of a module
abbrev pub module_vars : File → Module → List Named
module_vars file (plain m) = map (λ x. x.name) m.vars
module_vars file (copied m) = flat_map (renamed_var m) (part_of file (copied m)).vars

-- constants, formulas and variables, which share their names
abbrev pub values : File → List Named
values file =
    map (λ c. c.name) file.constants ++ (map (λ f. f.name) file.formulas
    ++ (map (λ x. x.name) file.globals ++ flat_map (module_vars file) file.modules))

-- the labels that every model has
abbrev pub given_labels : List Named
given_labels = record { name = codes "init"; at = 0 } ∷ record { name = codes "deadlock"; at = 0 } ∷ []

-- a copy's pairs with one left side
abbrev pub doubled_pairs : Module → List Fault
doubled_pairs (plain m) = []
doubled_pairs (copied m) = doubled TwiceNamed (map (λ p. p.old) m.pairs)

abbrev pub doubled_names : File → List Fault
doubled_names file =
    doubled TwiceNamed (values file)
    ++ (doubled TwiceNamed (map module_name file.modules)
    ++ (doubled TwiceNamed (given_labels ++ map (λ l. l.name) file.labels)
    ++ (doubled TwiceNamed (flat_map (λ r. if_some r.name) file.rewards)
    ++ flat_map doubled_pairs file.modules)))

-- ---- names that are not declared

-- the names that a demand uses
abbrev pub names_used : Demand → List Named
names_used (fixed w e) = names_of e
names_used (varying w e) = names_of e
names_used (written acts w) = w.name ∷ names_of w.value

abbrev pub unknown_by : (Name → Bool) → Demand → List Fault
unknown_by known d = flat_map (unless_known known) (names_used d)

abbrev pub unknown : File → Demand → List Fault
unknown file d = unknown_by (is_among (values file)) d

-- some name that a demand uses, where its expression is changed first, is such a one
abbrev pub some_used : (Name → Bool) → (Expression → Expression) → Demand → Bool
some_used is_such change (fixed w e) = some_name is_such (change e)
some_used is_such change (varying w e) = some_name is_such (change e)
some_used is_such change (written acts w) = is_such w.name.name || some_name is_such (change w.value)

-- In a copy a name is lost where it is no formula's name and what it is renamed to is a formula's name, or nothing known.
abbrev pub is_lost : File → (Name → Name) → Name → Bool
is_lost file rename x = not (is_formula file x) && (is_formula file (rename x) || not (is_among (values file) (rename x)))

-- some name of a part is lost where its formulas are written out
abbrev pub loses_name : File → Part → Bool
loses_name file p = list_any (some_used (is_lost file p.rename) (whole file)) (part_demands p)

abbrev pub unknown_in : File → Module → List Fault
unknown_in file (plain m) = flat_map (unknown file) (part_demands (part_of file (plain m)))
unknown_in file (copied m) =
    fault_if (not (is_some (module_called file m.from.name))) m.from.at Unknown
    ++ fault_if (loses_name file (part_of file (copied m))) m.name.at Unknown

abbrev pub unknown_names : File → List Fault
unknown_names file =
    flat_map (unknown file) (outer_demands file)
    ++ (flat_map (unknown file) (flat_map formula_demands file.formulas) ++ flat_map (unknown_in file) file.modules)

-- ---- constants and formulas that depend on themselves

abbrev pub declared_const : Const → Declared
declared_const c = record { name = c.name; uses = used c.value }

abbrev pub declared_formula : Formula → Declared
declared_formula f = record { name = f.name; uses = used (Some f.body) }

abbrev pub declarations : File → List Declared
declarations file = map declared_const file.constants ++ map declared_formula file.formulas

abbrev pub circles : File → List Fault
circles file = circles_of (declarations file)

-- ---- copies, and the modules

abbrev pub is_copy : Option Module → Bool
is_copy None = false
is_copy (Some (plain m)) = false
is_copy (Some (copied m)) = true

-- a variable is not renamed, or what is copied is a copy itself
abbrev pub copy_faults : File → Module → List Fault
copy_faults file (plain m) = []
copy_faults file (copied m) =
    fault_if (list_any (λ x. not (has_pair m.pairs x.name.name)) (part_of file (copied m)).vars) m.name.at RenameMissing
    ++ fault_if (is_copy (module_called file m.from.name)) m.from.at RenameOfRenamed

abbrev pub no_module : File → List Fault
no_module file = fault_if (nat_eq (length file.modules) 0) file.end Nothing

-- ---- first values beside an initial condition

-- a variable with a first value of its own
abbrev pub own_start : Var → List Fault
own_start x = fault_if (is_some x.start) x.name.at TwoInits

-- those of a module's own variables; a copy has those of the module that it copies
abbrev pub own_starts : Module → List Fault
own_starts (plain m) = flat_map own_start m.vars
own_starts (copied m) = []

abbrev pub two_inits : File → List Fault
two_inits file = if is_some file.init then flat_map own_start file.globals ++ flat_map own_starts file.modules else []

abbrev pub name_faults : File → List Fault
name_faults file =
    doubled_names file
    ++ (unknown_names file
    ++ (circles file
    ++ (flat_map (copy_faults file) file.modules
    ++ (no_module file ++ two_inits file))))
