-- The literals of expressions in the form of trees that are read are in normal form.
use Rattle.std.proofs.Common.{IsTrue}
use Rattle.basics.specs.Lists.{IsNotEmpty as HasItems}
use Rattle.frac_core.specs.Decimal.{is_normal}
use Rattle.op_trees.specs.Tree.{Truth, Number, Name as At, One, Two, Three, AllNumbers}
use Rattle.jani_tree.specs.Syntax.{Expression}
use Rattle.jani_tree.specs.Form.{ExprForm}

pub literals : (e : Expression) → ExprForm HasItems e → AllNumbers (λ d. IsTrue (is_normal d)) e
literals (Truth at b) h = tt
literals (Number at d) h = h
literals (At at x) h = tt
literals (One at o a) h = literals a h.1
literals (Two at o a b) h = (literals a h.1, literals b h.2)
literals (Three at o a b c) h = (literals a h.1, literals b h.2, literals c h.3)
