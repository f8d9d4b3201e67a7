-- What the code's tables of a judged file's names have.
use Rattle.std.specs.Prelude.{◌≡◌, Bool, Option}
use Rattle.op_trees.specs.declared.tree.Ty.{Ty}
use Rattle.op_trees.specs.Names.{some_name}
use Rattle.process_core.specs.Ready.{Name}
use Rattle.name_rules.specs.Names.{has_name, is_among, under}
use Rattle.prism_tree.specs.Syntax.{Expression, File}
use Rattle.prism_check.specs.declared.file_names.NameTables.{NameTables}
use Rattle.prism_check.specs.declared.file_names.TypeTables.{TypeTables}
use Rattle.prism_check.specs.declared.file_names.FileNames.TheInside.{Inside}
use Rattle.prism_check.specs.NameFaults.{values}
use Rattle.prism_check.specs.TypeFaults.{has_variable, types}
use Rattle.prism_check.specs.Typing.{declared_type, is_declared_variable, type_said, varies_said}
use Rattle.prism_check.specs.Counted.{AreSizes, size_in}

-- ---- the types of names, and which vary
abbrev pub type_in_tables : TypeTables → Name → Option Ty
type_in_tables t x = type_said (under t.formulas x) (declared_type t.declared x)

abbrev pub varies_in_tables : TypeTables → Name → Bool
varies_in_tables t x = varies_said (under t.formulas x) (is_declared_variable t.declared x)

pub record AreTyped (t : TypeTables) (file : File) : Type 0 where
  pub types : (x : Name) → type_in_tables t x ≡ types file x
  pub varies : (e : Expression) → some_name (varies_in_tables t) e ≡ has_variable file e

-- ---- names, and how large formulas are
pub record AreNamed (t : NameTables) (file : File) : Type 0 where
  pub known : has_name t.known ≡ is_among (values file)
  pub sizes : AreSizes file (size_in t.sizes)

-- ---- all tables of a judged file
pub record AreFileNames (n : Inside) : Type 0 where
  pub names : AreNamed n.names n.checked.now.file
  pub types : AreTyped n.types n.checked.now.file
