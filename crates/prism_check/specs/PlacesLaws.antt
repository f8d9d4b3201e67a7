-- What holds of PRISM files that are the same but for the places that their trees keep: statements, which are proved of the
-- functions of this crate. A place tells nothing but where a fault stands. (This project's own rule.)
use Rattle.std.specs.Prelude.{◌≡◌, ℕ, List, []}
use Rattle.prism_tree.specs.Syntax.{File}
use Rattle.prism_names.specs.Flat.{flat}
use Rattle.prism_print.specs.Printable.{IsPrintable}
use Rattle.prism_print.specs.Same.{bare_file}
use Rattle.process_core.specs.Ready.{Values}
use Rattle.process_core.specs.Instance.{Valuation}
use Rattle.prism_flat.specs.Scene.{scene}
use Rattle.prism_flat.specs.Moment.{moment}
use Rattle.prism_flat.specs.Process.{model}
use Rattle.prism_flat.specs.Kept.{SameMeaning, IsWrittenOut}
use Rattle.prism_check.specs.Checked.{IsChecked}
use Rattle.prism_check.specs.Clean.{IsClean}
use Rattle.prism_check.specs.Faults.{faults}
use Rattle.prism_check.specs.NameFaults.{name_faults}
use Rattle.prism_check.specs.SizeFaults.{command_count, size_faults}
use Rattle.prism_check.specs.TypeFaults.{type_faults}

-- what holds of each two such files
abbrev pub OfSame : (File → File → Type 0) → Type 0
OfSame R = (f g : File) → bare_file f ≡ bare_file g → R f g

-- ---- they mean the same, and the same passes a bound
abbrev pub PlacesMeanNothing : Type 0
PlacesMeanNothing = OfSame (λ f g. model f ≡ model g)

abbrev pub PlacesBoundNothing : Type 0
PlacesBoundNothing = OfSame SameMeaning

-- ---- they come out as the same under each valuation, and at each state
abbrev pub PlacesKeepScenes : Type 0
PlacesKeepScenes = OfSame (λ f g. (v : Valuation) → scene f v ≡ scene g v)

abbrev pub PlacesKeepMoments : Type 0
PlacesKeepMoments = OfSame (λ f g. (v : Valuation) (s : Values) → moment f v s ≡ moment g v s)

-- ---- texts spell both or neither, and both or neither have formulas or copies of modules
abbrev pub PlacesKeepForm : Type 0
PlacesKeepForm = OfSame (λ f g. IsPrintable f → IsPrintable g)

abbrev pub PlacesKeepWrittenOut : Type 0
PlacesKeepWrittenOut = OfSame (λ f g. IsWrittenOut f → IsWrittenOut g)

-- ---- written out they are the same but for places too
abbrev pub PlacesStayAside : Type 0
PlacesStayAside = OfSame (λ f g. bare_file (flat f) ≡ bare_file (flat g))

-- ---- they have faults of each kind or none alike, and as many commands
abbrev pub NamesFaultAlike : Type 0
NamesFaultAlike = OfSame (λ f g. name_faults f ≡ [] → name_faults g ≡ [])

abbrev pub SizesFaultAlike : Type 0
SizesFaultAlike = OfSame (λ f g. size_faults f ≡ size_faults g)

abbrev pub TypesFaultAlike : Type 0
TypesFaultAlike = OfSame (λ f g. type_faults f ≡ [] → type_faults g ≡ [])

abbrev pub FaultsAlike : Type 0
FaultsAlike = OfSame (λ f g. faults f ≡ [] → faults g ≡ [])

abbrev pub CommandsAlike : Type 0
CommandsAlike = OfSame (λ f g. command_count f ≡ command_count g)

-- ---- so where one is clean, or is judged with an order of its formulas, so is the other
abbrev pub CleanAlike : Type 0
CleanAlike = OfSame (λ f g. IsClean f → IsClean g)

abbrev pub CheckedAlike : Type 0
CheckedAlike = OfSame (λ f g. (order : List ℕ) → IsChecked (record { file = f; order = order }) → IsChecked (record { file = g; order = order }))
