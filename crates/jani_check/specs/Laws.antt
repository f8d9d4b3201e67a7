-- What holds of files of the profile: statements, which are proved of the functions of this crate.
use Rattle.std.specs.Prelude.{◌≡◌}
use Rattle.jani_tree.specs.Syntax.{File}
use Rattle.jani_tree.specs.Back.{IsWritable}
use Rattle.jani_tree.specs.Places.{bare_file}
use Rattle.jani_check.specs.Faults.{IsChecked}

-- where one of two files that are the same but for places is of the profile, so is the other
abbrev pub PlacesAside : Type 0
PlacesAside = (f g : File) → bare_file f ≡ bare_file g → IsChecked f → IsChecked g

-- and a file of the profile may be written
abbrev pub CheckedIsWritable : Type 0
CheckedIsWritable = (f : File) → IsChecked f → IsWritable f
