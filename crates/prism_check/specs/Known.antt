-- Where each name of a file is known, a copy can lose only names of its pairs.
use Rattle.std.specs.Prelude.{◌≡◌, [], ◌++◌, List, Bool, not, ◌&&◌, Option, is_some}
use Rattle.std.specs.List.{flat_map}
use Rattle.bridge_io.specs.declared.reason.Fault.{Fault}
use Rattle.name_rules.specs.Names.{is_among}
use Rattle.process_core.specs.Ready.{Name}
use Rattle.prism_tree.specs.declared.syntax.NamePair.{NamePair}
use Rattle.prism_tree.specs.Syntax.{Expression, Module, plain, copied, File}
use Rattle.prism_check.specs.Demands.{command_demands, formula_demands, var_demands}
use Rattle.prism_check.specs.Levels.{lost_to}
use Rattle.prism_check.specs.NameFaults.{unknown, unknown_by, values}

-- a pair renames what is no formula to a formula's name, or to nothing known
abbrev pub loses_by : (Name → Option Expression) → (Name → Bool) → NamePair → Bool
loses_by bodies known p = not (is_some (bodies p.old.name)) && lost_to bodies known p.new.name

-- the faults of names that are not known in what a module contains itself
abbrev pub own_unknown : (Name → Bool) → Module → List Fault
own_unknown known (plain m) = flat_map (unknown_by known) (flat_map var_demands m.vars ++ flat_map command_demands m.commands)
own_unknown known (copied m) = []

-- each name in the bodies of formulas and in what modules contain is known
pub record AreKnown (file : File) : Type 0 where
  pub bodies : flat_map (unknown file) (flat_map formula_demands file.formulas) ≡ []
  pub contents : flat_map (own_unknown (is_among (values file))) file.modules ≡ []
