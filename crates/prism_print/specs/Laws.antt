-- What holds of the trees that texts spell.
use Rattle.std.specs.Prelude.{ℕ, List}
use Rattle.prism_tree.specs.Syntax.{File}
use Rattle.prism_tree.specs.Faults.{Spells}
use Rattle.prism_print.specs.Printable.{IsPrintable}

-- Each file that a text spells is printable.
abbrev pub SpelledIsPrintable : Type 0
SpelledIsPrintable = (bytes : List ℕ) (f : File) → Spells bytes f → IsPrintable f
