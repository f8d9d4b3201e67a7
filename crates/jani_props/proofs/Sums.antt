-- Lists of words of other lengths.
use Rattle.std.proofs.Common.{◌≡◌, ◌<◌, ◌≤◌, refl, List, [], ◌∷◌, length, false, arith}
use Rattle.decimal_json.specs.declared.tree.Json.{Json}
use Rattle.jani_table.specs.Node.{nodes}
use Rattle.jani_props.specs.Shape.{is_steps, is_steps_and_exit}

pub no_steps : (vs : List Json) → 2 ≤ length vs → false ≡ is_steps (nodes vs)
no_steps [] h = absurd (omega arith)
no_steps (v ∷ []) h = absurd (omega arith)
no_steps (v ∷ w ∷ vs) h = refl

pub few_sums : (vs : List Json) → length vs < 2 → false ≡ is_steps_and_exit (nodes vs)
few_sums [] h = refl
few_sums (v ∷ []) h = refl
few_sums (v ∷ w ∷ vs) h = absurd (omega arith)

pub many_sums : (vs : List Json) → 3 ≤ length vs → false ≡ is_steps_and_exit (nodes vs)
many_sums [] h = absurd (omega arith)
many_sums (v ∷ []) h = absurd (omega arith)
many_sums (v ∷ w ∷ []) h = absurd (omega arith)
many_sums (v ∷ w ∷ x ∷ vs) h = refl
