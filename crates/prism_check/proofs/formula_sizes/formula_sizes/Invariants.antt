use Rattle.std.specs.Prelude.{drop}
use Rattle.prism_tree.specs.Syntax.{file_of}
use Rattle.prism_flat.specs.Places.{at_places}
use Rattle.prism_check.specs.Counted.{size_in}
use Rattle.prism_check.proofs.InOrder.{Left}
use Rattle.prism_check.proofs.formula_sizes.formula_sizes.Given as goal

abbrev pub invariant-loop-place : goal.invariant-loop-place
invariant-loop-place l =
    Left (file_of l.file) (size_in l.sizes) (at_places (file_of l.file).formulas (drop l.place-index l.order))
