-- What the names of a PRISM file stand for: formulas, modules and copies of modules (PRISM manual, "The PRISM Language":
-- "Formulas and Labels", "Module Renaming").
use Rattle.std.specs.Prelude.{List, [], ◌∷◌, map, length, Bool, Option, Some, None, is_some, if◌then◌else◌}
use Rattle.std.specs.List.{find}
use Rattle.std.specs.Option.{option_map}
use Rattle.bridge_io.specs.declared.reason.Named.{Named}
use Rattle.op_trees.specs.Seen.{Seen, seen, looked_up}
use Rattle.op_trees.specs.Names.{is_called}
use Rattle.process_core.specs.Ready.{Name}
use Rattle.prism_tree.specs.declared.syntax.NamePair.{NamePair}
use Rattle.prism_tree.specs.Operators.{prism_meaning}
use Rattle.prism_tree.specs.Syntax.{Expression, Var, Command, Module, plain, copied, File}

-- ---- formulas
-- the body of the first formula of this name
abbrev pub formula_body : File → Name → Option Expression
formula_body file x = option_map (λ f. f.body) (find (λ f. is_called x f.name) file.formulas)

abbrev pub is_formula : File → Name → Bool
is_formula file x = is_some (formula_body file x)

-- ---- renamings
abbrev pub unchanged : Name → Name
unchanged x = x

-- the renaming of a copy: the first pair that has the name on its left side replaces it
abbrev pub renaming : List NamePair → Name → Name
renaming [] x = x
renaming (p ∷ ps) x = if is_called x p.old then p.new.name else renaming ps x

-- Formulas are looked up before names are replaced, so a pair never replaces the name of a formula in an expression, nor
-- where something is written to it. An action of that name is replaced.
abbrev pub written_name : File → (Name → Name) → Name → Name
written_name file rename x = if is_formula file x then x else rename x

-- ---- modules
abbrev pub module_name : Module → Named
module_name (plain m) = m.name
module_name (copied m) = m.name

-- the first module of this name
abbrev pub module_called : File → Name → Option Module
module_called file x = find (λ m. is_called x (module_name m)) file.modules

-- what a module consists of: its variables and commands, and how their names are read
pub record Part : Type 0 where
  pub rename : Name → Name
  pub vars : List Var
  pub commands : List Command

-- a copy has the contents of a module; of no module, or of another copy, it has none
abbrev pub copy_of : (Name → Name) → Option Module → Part
copy_of rename (Some (plain m)) = record { rename = rename; vars = m.vars; commands = m.commands }
copy_of rename (Some (copied m)) = record { rename = rename; vars = []; commands = [] }
copy_of rename None = record { rename = rename; vars = []; commands = [] }

abbrev pub part_of : File → Module → Part
part_of file (plain m) = record { rename = unchanged; vars = m.vars; commands = m.commands }
part_of file (copied m) = copy_of (renaming m.pairs) (module_called file m.from.name)

abbrev pub parts : File → List Part
parts file = map (part_of file) file.modules

-- ---- what is seen of expressions
unfoldable pub see : Expression → (Name → Seen) → Seen
see e names = seen prism_meaning e names

-- A formula's name is seen as its body, any other name as it is given. Formulas that lead round in a circle are looked up
-- to a depth, the number of formulas.
unfoldable pub reading : File → (Name → Seen) → Name → Seen
reading file names = looked_up prism_meaning (formula_body file) (length file.formulas) names

-- the names of an expression of a module whose names are read through a renaming
abbrev pub reading_in : File → (Name → Seen) → (Name → Name) → Name → Seen
reading_in file names rename = reading file (λ x. names (rename x))
