-- What the program knows of a file before any state: under given constants, and what it builds. (This project's own rule.)
use Rattle.std.specs.Prelude.{◌≡◌, map}
use Rattle.std.specs.Option.{option_or}
use Rattle.name_rules.specs.Names.{under}
use Rattle.process_core.specs.Ready.{Name}
use Rattle.process_core.specs.Instance.{Valuation}
use Rattle.prism_tree.specs.Syntax.{File}
use Rattle.prism_flat.specs.Scene.{scene}
use Rattle.instance_start.specs.Columns.{AreColumns, column_of}
use Rattle.prism_instance.specs.Built.{AreParts}
use Rattle.prism_instance.specs.Constants.{AreConstants}
use Rattle.prism_instance.specs.Described.{mark_names}
use Rattle.prism_instance.specs.Places.{column_place, constant_place}
use Rattle.prism_instance.specs.declared.start.Fixed.{Fixed}
use Rattle.prism_instance.specs.declared.start.Known.{Known}

pub record IsKnown (file : File) (v : Valuation) (k : Known) : Type 0 where
  pub constants : AreConstants file v k.constants.items
  pub columns : AreColumns (scene file v) (map column_of k.columns.items)
  pub places : (x : Name) → under k.places x ≡ option_or (column_place 0 (map column_of k.columns.items) x) (constant_place 0 file.constants x)

pub record IsFixed (file : File) (k : Known) (f : Fixed) : Type 0 where
  pub parts : AreParts file (λ x. under k.places x) (map column_of k.columns.items) f.parts
  pub marks : map (λ n. n.now) f.marks.items ≡ mark_names file
  pub texts : f.texts ≡ map (λ c. c.name) (map column_of k.columns.items)
