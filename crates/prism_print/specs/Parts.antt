-- The texts of the parts that the code writes in one piece.
use Rattle.std.specs.Prelude.{ℕ, List}
use Rattle.std.specs.Option.{option_map}
use Rattle.op_trees.specs.Tree.{tree}
use Rattle.prism_print.specs.declared.parts.Part.{Part}
use Rattle.prism_print.specs.declared.parts.Part.TheVariants.{Plain, Name, Expression, Behind}
use Rattle.prism_print.specs.Text.{expression_text, behind}

abbrev pub part_text : Part → List ℕ
part_text (Plain t) = t.now
part_text (Name x) = x.now
part_text (Expression e) = expression_text (tree e.now)
part_text (Behind t o) = behind t.now (option_map tree o.now)
