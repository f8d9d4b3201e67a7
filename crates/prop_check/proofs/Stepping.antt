-- One element of a list of lists more.
use Rattle.std.specs.Prelude.{ℕ, ◌<◌, ◌+◌, List, map, length, drop, Option}
use Rattle.std.specs.List.{flat_map}
use Rattle.std.proofs.Common.{◌≡◌, sym, ap, ◌∙◌, get_or}
use Rattle.bridge_io.specs.declared.reason.Fault.{Fault}
use Rattle.process_core.specs.Product.{flat_map-flat_map}
use Rattle.name_rules.specs.Least.{soonest}
use Rattle.name_rules.proofs.Append.{soonest_next}

pub nested_next : {A B C : Type 0} (view : A → B) (g : B → List C) (f : C → List Fault) (xs : List A) (i : ℕ) (x : A) (best next whole : Option Fault) → i < length xs →
    x ≡ get_or xs i x → next ≡ soonest best (flat_map f (g (view x))) → soonest best (flat_map f (flat_map g (map view (drop i xs)))) ≡ whole →
    soonest next (flat_map f (flat_map g (map view (drop (i + 1) xs)))) ≡ whole
nested_next view g f xs i x best next whole h is judged so_far =
    ap (soonest next) (flat_map-flat_map f g (map view (drop (i + 1) xs)))
    ∙ soonest_next view (λ y. flat_map f (g y)) xs i x best next whole h is judged (ap (soonest best) (sym (flat_map-flat_map f g (map view (drop i xs)))) ∙ so_far)
