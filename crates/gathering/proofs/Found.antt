-- What stands under a name where the first counts: one member of a list more.
use Rattle.std.specs.Prelude.{ℕ, ◌<◌, Bool, true, false, Option, Some, None, List, length, map, if◌then◌else◌}
use Rattle.std.specs.List.{find}
use Rattle.std.specs.Option.{option_map, option_or}
use Rattle.std.proofs.Common.{◌≡◌, ◌+◌, ◌∙◌, refl, sym, ap, ap₂, cond, drop, get_or}
use Rattle.std.proofs.lemmas.List.{at_drop_more}

-- of what stands there, and of one more
pub first_more : {A B : Type 0} (f : A → B) (old : Option A) (b : Bool) (x : A) (rest : Option B) →
    option_or (option_map f (option_or old (if b then Some x else None))) rest ≡ option_or (option_map f old) (cond b (Some (f x)) rest)
first_more f None true x rest = refl
first_more f None false x rest = refl
first_more f (Some y) b x rest = refl

-- the first that passes of a list, whose front stands there
pub first_found : {A B D : Type 0} (f : A → B) (p : B → Bool) (s : D → B) (xs : List D) (i : ℕ) (d : D) (b : Bool) (v : A) (old new : Option A) (whole : Option B) →
    i < length xs → d ≡ get_or xs i d → new ≡ option_or old (if b then Some v else None) → b ≡ p (s d) → f v ≡ s d →
    option_or (option_map f old) (find p (map s (drop i xs))) ≡ whole → option_or (option_map f new) (find p (map s (drop (i + 1) xs))) ≡ whole
first_found f p s xs i d b v old new whole h is put test same so_far =
    let rest = find p (map s (drop (i + 1) xs)) in
    ap (λ o. option_or (option_map f o) rest) put
    ∙ first_more f old b v rest
    ∙ ap₂ (λ c y. option_or (option_map f old) (cond c (Some y) rest)) test same
    ∙ ap (λ y. option_or (option_map f old) (cond (p (s y)) (Some (s y)) rest)) is
    ∙ sym (at_drop_more (λ ys. option_or (option_map f old) (find p (map s ys))) xs i d h)
    ∙ so_far
