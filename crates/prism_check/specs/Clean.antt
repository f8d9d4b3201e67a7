-- Files without a fault, and the laws that such a file has none either once its formulas and its copies of modules are
-- written out (PRISM manual, "The PRISM Language").
use Rattle.std.specs.Prelude.{◌≡◌, ℕ, List, []}
use Rattle.prism_tree.specs.Syntax.{File}
use Rattle.prism_names.specs.Flat.{flat}
use Rattle.prism_names.specs.Places.{IsPlaceOrder}
use Rattle.prism_print.specs.Printable.{IsPrintable}
use Rattle.prism_check.specs.NameFaults.{name_faults}
use Rattle.prism_check.specs.TypeFaults.{type_faults}
use Rattle.prism_check.specs.Faults.{faults}
use Rattle.prism_check.specs.Checked.{Checked, IsChecked}

-- Texts spell it, and it has no fault of names and none of types. How large it is counts apart.
pub record IsClean (file : File) : Type 0 where
  pub printable : IsPrintable file
  pub names : name_faults file ≡ []
  pub types : type_faults file ≡ []

-- A clean file whose formulas stand in an order is clean once it is written out.
abbrev pub FlatIsClean : Type 0
FlatIsClean = (file : File) (places : List ℕ) → IsClean file → IsPlaceOrder file places → IsClean (flat file)

-- Where a file has no fault at all, of size neither, it has none once it is written out.
abbrev pub FlatHasNoFault : Type 0
FlatHasNoFault = (file : File) (places : List ℕ) → faults file ≡ [] → IsPlaceOrder file places → faults (flat file) ≡ []

-- What is written out stays as it is when it is written out again.
abbrev pub FlatStays : Type 0
FlatStays = (file : File) → flat (flat file) ≡ flat file

-- what contracts see of a judged file that is written out: no formula is left that has a place
abbrev pub flat_checked : Checked → Checked
flat_checked c = record { file = flat c.file; order = [] }

-- A judged file that is written out would be judged so again.
abbrev pub FlatIsChecked : Type 0
FlatIsChecked = (c : Checked) → IsChecked c → IsChecked (flat_checked c)
