-- Values of literals, and the first items of lists.
use Rattle.std.proofs.Common.{◌≡◌, refl, ap, ◌∙◌, Bool, true, false, List, [], ◌∷◌, Option, Some, None, is_some, if◌then◌else◌}
use Rattle.std.specs.Prelude.{Result, Ok, Err, slice_get}
use Rattle.std.specs.Option.{option_map}
use Rattle.decimal_json.specs.declared.tree.Json.{Json}
use Rattle.jani_table.specs.Node.{Node, node, nodes}
use Rattle.jani_table.specs.Faults.{first_of}
use Rattle.frac_core.specs.Fraction.{Fraction, same_number, is_wide}
use Rattle.frac_core.specs.Results.{narrow}
use Rattle.frac_core.specs.Laws.{same_number_is}
use Rattle.frac_core.specs.declared.fraction.FracFail.{FracFail}
use Rattle.frac_core.specs.declared.fraction.FracFail.TheVariants.{Wide}

-- what is too wide to hold is none of the fractions that are held
pub wide_differs : (x v : Fraction) (e : FracFail) → narrow x ≡ Err e → is_wide v ≡ false → same_number x v ≡ false
wide_differs x v e h w = by_test (same_number x v) refl
  where
    by_test : (b : Bool) → same_number x v ≡ b → b ≡ false
    by_test false s = refl
    by_test true s =
        let same : x ≡ v = (same_number_is x v).0 s in
        let held : ◌≡◌ {A = Result Fraction FracFail} (narrow x) (Ok x) = ap (λ b. if b then Err Wide else Ok x) (ap is_wide same ∙ w) in
        absurd (cc (h, held))

pub first_node : (vs : List Json) → option_map node (slice_get vs 0) ≡ first_of (nodes vs)
first_node [] = refl
first_node (v ∷ vs) = refl

-- what is there is found
pub found : {B : Type 0} (f : Option B → Option Node) (r : Option B) (p : Option Node) → f None ≡ None → f r ≡ p → r ≡ None → is_some p ≡ true → ⊥
found f r None z m n s = absurd cc
found f r (Some w) z m n s = absurd (cc (ap f n, z, m))
