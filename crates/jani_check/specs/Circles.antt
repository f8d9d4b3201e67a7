-- Constants as declarations that use names.
use Rattle.name_rules.specs.Circles.{Declared}
use Rattle.jani_tree.specs.Syntax.{Const}
use Rattle.jani_check.specs.NameFaults.{uses}

abbrev pub const_declared : Const → Declared
const_declared c = record { name = c.name; uses = uses c }
