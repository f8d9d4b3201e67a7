-- What an expression has that its canonical text spells.
use Rattle.std.specs.Prelude.{IsTrue}
use Rattle.frac_core.specs.Decimal.{is_normal}
use Rattle.op_trees.specs.Tree.{Truth, Number, Name, One, Two, Three, AllNumbers}
use Rattle.prism_tree.specs.Syntax.{Expression}
use Rattle.prism_print.specs.Printable.{IsPrintableExpression}

-- its literals are in normal form
pub literals : (e : Expression) → IsPrintableExpression e → AllNumbers (λ d. IsTrue (is_normal d)) e
literals (Truth at b) h = tt
literals (Number at d) h = h.0
literals (Name at x) h = tt
literals (One at o a) h = literals a h.1
literals (Two at o a b) h = (literals a h.1, literals b h.2)
literals (Three at o a b c) h = (literals a h.1, literals b h.2, literals c h.3)
