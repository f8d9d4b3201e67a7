-- A PRISM file that has no fault, with an order of its formulas in which each names only earlier ones.
use Rattle.std.specs.Prelude.{◌≡◌, ℕ, List, []}
use Rattle.bridge_io.specs.declared.reason.Refused.{Refused}
use Rattle.bridge_io.specs.declared.reason.Refused.TheVariants.{Memory, At}
use Rattle.prism_tree.specs.Syntax.{File}
use Rattle.prism_names.specs.Places.{IsPlaceOrder}
use Rattle.prism_print.specs.Printable.{IsPrintable}
use Rattle.name_rules.specs.Least.{IsLeast}
use Rattle.prism_check.specs.Faults.{faults}

-- what contracts see of a file that was judged: its tree, and places of its formulas
pub record Checked : Type 0 where
  pub file : File
  pub order : List ℕ

-- The tree can be spelled, it has no fault of names, size or types, and its formulas are in order.
pub record IsChecked (c : Checked) : Type 0 where
  pub form : IsPrintable c.file
  pub sound : faults c.file ≡ []
  pub order : IsPlaceOrder c.file c.order

-- It is refused for want of memory, or at the least of its faults.
abbrev pub Refuses : File → Refused → Type 0
Refuses file (Memory e) = Unit {0}
Refuses file (At f) = IsLeast (faults file) f
