use Rattle.std.specs.Prelude.{◌≡◌, ℕ, List, map, take}
use Rattle.prism_tree.specs.Syntax.{formula_of}
use Rattle.prism_flat.specs.Places.{at_places}
use Rattle.name_rules.specs.Names.{under}
use Rattle.prism_check.specs.Typing.{declared_type, is_declared_variable, known_after}
use Rattle.prism_check.proofs.typing.known_formulas.Given as goal

abbrev pub invariant-loop-place : goal.invariant-loop-place
invariant-loop-place l = (x : List ℕ) →
    under l.table x
    ≡ known_after (declared_type l.declared) (is_declared_variable l.declared) (at_places (map formula_of l.formulas) (take l.place-index l.order)) x
