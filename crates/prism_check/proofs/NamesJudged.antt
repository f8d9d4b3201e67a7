-- Without a fault of names the turns of the formulas are an order in which each names only earlier ones.
use Rattle.std.specs.Prelude.{◌≡◌, ℕ, List, [], length}
use Rattle.std.proofs.Common.{subst, ap, ◌∙◌}
use Rattle.prism_tree.specs.Syntax.{File}
use Rattle.prism_flat.specs.Places.{IsPlaceOrder}
use Rattle.name_rules.specs.Circles.{Declared, circles as circles_of, AreTurns, turns_from}
use Rattle.prism_check.specs.NameFaults.{declarations, name_faults}
use Rattle.prism_check.proofs.NoFaults.{no_name_faults}
use Rattle.prism_check.proofs.PlaceOrder.{turns_order}

pub in_order : (file : File) (ds : List Declared) (turns : List ℕ) → ds ≡ declarations file → (circles_of ds ≡ [] → AreTurns ds turns) →
    name_faults file ≡ [] → IsPlaceOrder file (turns_from (length file.constants) turns)
in_order file ds turns is turned clean =
    let no = no_name_faults file clean in
    turns_order file no.doubled turns (subst (λ es. AreTurns es turns) is (turned (ap circles_of is ∙ no.circles)))
