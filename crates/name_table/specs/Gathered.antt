-- What the code that makes the table of a file goes by: the contents of a module, and a table that was asked for more.
use Rattle.std.specs.Prelude.{List}
use Rattle.prism_tree.specs.declared.syntax.PrismModule.{PrismModule}
use Rattle.prism_tree.specs.Syntax.{Body, module_of}
use Rattle.name_table.specs.Entries.{Ask, Table, entries_after}
use Rattle.name_table.specs.Asks.{contents}

-- the contents of a module
abbrev pub body_in : PrismModule → Body
body_in m = contents (module_of m)

-- a table that was asked for more
abbrev pub told : Table → List Ask → Table
told t asks = record { target = t.target; entries = entries_after t.target t.entries asks }
