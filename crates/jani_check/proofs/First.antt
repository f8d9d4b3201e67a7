-- What stands under a name where the first of one name counts, one more of a list.
use Rattle.std.specs.Prelude.{ℕ, ◌<◌, ◌+◌, List, map, length, drop, Bool, true, false, Option, Some, None, if◌then◌else◌}
use Rattle.std.specs.List.{find}
use Rattle.std.specs.Option.{option_map, option_or}
use Rattle.std.proofs.Common.{◌≡◌, refl, sym, ap, ap₂, ◌∙◌, cond, get_or}
use Rattle.std.proofs.lemmas.List.{at_drop_more}

one_more : {T : Type 0} (old : Option T) (b : Bool) (v : T) (rest : Option T) → option_or (option_or old (if b then Some v else None)) rest ≡ option_or old (cond b (Some v) rest)
one_more None true v rest = refl
one_more None false v rest = refl
one_more (Some y) b v rest = refl

mapped_if : {E T : Type 0} (g : E → T) (b : Bool) (e : E) (rest : Option E) → option_map g (cond b (Some e) rest) ≡ cond b (Some (g e)) (option_map g rest)
mapped_if g true e rest = refl
mapped_if g false e rest = refl

-- of a list whose members stand for something
pub first_thing : {E T D : Type 0} (g : E → T) (p : E → Bool) (s : D → E) (xs : List D) (i : ℕ) (d : D) (b : Bool) (v : T) (old new whole : Option T) →
    i < length xs → d ≡ get_or xs i d → new ≡ option_or old (if b then Some v else None) → b ≡ p (s d) → v ≡ g (s d) →
    option_or old (option_map g (find p (map s (drop i xs)))) ≡ whole → option_or new (option_map g (find p (map s (drop (i + 1) xs)))) ≡ whole
first_thing g p s xs i d b v old new whole h is put test same so_far =
    let rest = find p (map s (drop (i + 1) xs)) in
    ap (λ o. option_or o (option_map g rest)) put
    ∙ one_more old b v (option_map g rest)
    ∙ ap₂ (λ c y. option_or old (cond c (Some y) (option_map g rest))) test same
    ∙ ap (option_or old) (sym (mapped_if g (p (s d)) (s d) rest))
    ∙ ap (λ y. option_or old (option_map g (cond (p (s y)) (Some (s y)) rest))) is
    ∙ sym (at_drop_more (λ ys. option_or old (option_map g (find p (map s ys)))) xs i d h)
    ∙ so_far

pub put_mapped : {A T : Type 0} (f : A → T) (old : Option A) (b : Bool) (x : A) → option_map f (option_or old (if b then Some x else None)) ≡ option_or (option_map f old) (if b then Some (f x) else None)
put_mapped f None true x = refl
put_mapped f None false x = refl
put_mapped f (Some y) b x = refl

-- the same of a table whose values stand for something too
pub first_mapped : {A E T D : Type 0} (f : A → T) (g : E → T) (p : E → Bool) (s : D → E) (xs : List D) (i : ℕ) (d : D) (b : Bool) (x : A) (old new : Option A) (whole : Option T) →
    i < length xs → d ≡ get_or xs i d → new ≡ option_or old (if b then Some x else None) → b ≡ p (s d) → f x ≡ g (s d) →
    option_or (option_map f old) (option_map g (find p (map s (drop i xs)))) ≡ whole → option_or (option_map f new) (option_map g (find p (map s (drop (i + 1) xs)))) ≡ whole
first_mapped f g p s xs i d b x old new whole h is put test same so_far =
    first_thing g p s xs i d b (f x) (option_map f old) (option_map f new) whole h is (ap (option_map f) put ∙ put_mapped f old b x) test same so_far
