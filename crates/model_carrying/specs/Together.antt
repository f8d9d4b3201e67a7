-- The constants of a file and of what it is translated to go together, in either direction; and valuations that give them alike correspond.
-- (This project's own rule.)
use Rattle.std.specs.Prelude.{◌≡◌, []}
use Rattle.std.specs.List.{AllZip}
use Rattle.process_core.specs.Instance.{Valuation}
use Rattle.prism_tree.specs.Syntax as prism
use Rattle.prism_names.specs.Flat.{flat}
use Rattle.prism_print.specs.Same as prism_places
use Rattle.prism_check.specs.NameFaults as prism_names
use Rattle.prism_instance.specs.Described.{prism_description}
use Rattle.jani_tree.specs.Syntax as jani
use Rattle.jani_tree.specs.Places as jani_places
use Rattle.jani_check.specs.NameFaults as jani_names
use Rattle.jani_instance.specs.Described.{jani_description}
use Rattle.name_table.specs.Correspond.{Correspond}
use Rattle.jani_translation.specs.Translated as to_jani
use Rattle.prism_translation.specs.Translated as to_prism
use Rattle.model_carrying.specs.Values.{GoTogether, AreGivenAlike}

-- of a PRISM file and its JANI translation, places aside
abbrev pub TogetherInJani : Type 0
TogetherInJani = (old : prism.File) (new : jani.File) → prism_names.name_faults old ≡ [] → jani_names.name_faults new ≡ [] → jani_places.bare_file new ≡ jani_places.bare_file (to_jani.translated (flat old)) →
    GoTogether (prism_description old).constants (jani_description new).constants

-- of a JANI file and its PRISM translation
abbrev pub TogetherInPrism : Type 0
TogetherInPrism = (old : jani.File) (new : prism.File) → jani_names.name_faults old ≡ [] → prism_names.name_faults new ≡ [] → prism_places.bare_file new ≡ prism_places.bare_file (to_prism.translated old) →
    GoTogether (jani_description old).constants (prism_description new).constants

-- a valuation of the PRISM file, and one of the JANI file that gives each open constant the same
abbrev pub GivenCorrespond : Type 0
GivenCorrespond = (p : prism.File) (j : jani.File) (v w : Valuation) → AllZip (AreGivenAlike v w) (prism_description p).constants (jani_description j).constants → Correspond p j v w

-- or the other way
abbrev pub GivenCorrespondBack : Type 0
GivenCorrespondBack = (p : prism.File) (j : jani.File) (v w : Valuation) → GoTogether (jani_description j).constants (prism_description p).constants →
    AllZip (AreGivenAlike w v) (jani_description j).constants (prism_description p).constants → Correspond p j v w
