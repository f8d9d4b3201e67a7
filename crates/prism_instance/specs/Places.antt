-- Where the names of a file stand: its variables, then its constants, each name where it stands first. (PRISM manual, "The PRISM
-- Language": "Constants", "Modules And Variables", "Global Variables".)
use Rattle.std.specs.Prelude.{ℕ, ◌+◌, List, [], ◌∷◌, Option, Some, None, if◌then◌else◌, bytes_eq}
use Rattle.process_core.specs.Ready.{Name}
use Rattle.process_core.specs.Instance.{Column}
use Rattle.prism_tree.specs.Syntax.{Const}
use Rattle.op_trees.specs.Names.{is_called}
use Rattle.instance_start.specs.declared.data.Place.{Place}
use Rattle.instance_start.specs.declared.data.Place.TheVariants.{Constant, Variable}

-- counted from a number on
abbrev pub column_place : ℕ → List Column → Name → Option Place
column_place i [] x = None
column_place i (c ∷ cs) x = if bytes_eq c.name x then Some (Variable i) else column_place (i + 1) cs x

abbrev pub constant_place : ℕ → List Const → Name → Option Place
constant_place i [] x = None
constant_place i (c ∷ cs) x = if is_called x c.name then Some (Constant i) else constant_place (i + 1) cs x
