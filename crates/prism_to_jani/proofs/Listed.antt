-- The parts of modules in an action, by whether they take part.
use Rattle.std.specs.Prelude.{◌≡◌, List, map, Bool}
use Rattle.std.proofs.Common.{sym, ap, ◌∙◌}
use Rattle.process_core.specs.Product.{map-map}

pub parts_alike : {X Y Z : Type 0} (part : Bool → Z) (p : X → Bool) (q : Y → Bool) (xs : List X) (ys : List Y) → map p xs ≡ map q ys → map (λ x. part (p x)) xs ≡ map (λ y. part (q y)) ys
parts_alike part p q xs ys e = sym (map-map part p xs) ∙ ap (map part) e ∙ map-map part q ys
