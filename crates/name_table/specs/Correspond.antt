-- Which valuations of a PRISM file and of a JANI file correspond, where one is translated to the other (this project's own
-- rule): constants correspond by their places, and those that have no expression are given the same values, of their types.
use Rattle.std.specs.Prelude.{◌≡◌, map, Some, None}
use Rattle.std.specs.List.{AllZip}
use Rattle.op_trees.specs.Types.{AgreesWith}
use Rattle.process_core.specs.Ready.{Name}
use Rattle.prism_tree.specs.Syntax as prism
use Rattle.process_core.specs.Instance.{Valuation}
use Rattle.jani_tree.specs.Syntax as jani

-- a constant without an expression is given the same value, of its type, as this name is
abbrev pub GivenAlike : Valuation → Valuation → prism.Const → Name → Type 0
GivenAlike v w c x = c.value ≡ None → AgreesWith (Some c.ty) (v c.name.name) × (w x ≡ v c.name.name)

-- v is of the PRISM file, w of the JANI file. Of files with unequal numbers of constants no valuations correspond; but a file and its translation
-- have equally many, since what is promised of a translation gives each constant its new name, in order.
abbrev pub Correspond : prism.File → jani.File → Valuation → Valuation → Type 0
Correspond p j v w = AllZip (GivenAlike v w) p.constants (map (λ d. d.name.name) j.constants)
