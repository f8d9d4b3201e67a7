-- Facts of each member of a list.
use Rattle.std.proofs.Common.{refl, subst, arith}
use Rattle.std.specs.Prelude.{◌≡◌, ℕ, suc, ◌+◌, List, [], ◌∷◌, Bool, true, false, Option, Some, None, slice_get}
use Rattle.basics.specs.Each.{each_join}
use Rattle.process_core.specs.Instance.{numbered, only_if}
use Rattle.std.specs.List.{AllByRecursion as Each}
use Rattle.basics.specs.Options.{IfAny}

pub any_then : {A : Type 0} (P Q : A → Type 0) → ((x : A) → P x → Q x) → (o : Option A) → IfAny P o → IfAny Q o
any_then P Q h None p = tt
any_then P Q h (Some x) p = h x p

pub each_only : {A : Type 0} (P : A → Type 0) (b : Bool) (x : A) → (b ≡ true → P x) → Each P (only_if b x)
each_only P true x h = (h refl, tt)
each_only P false x h = tt

-- each member of a list under its number, where a fact hangs on both
pub each_numbered : {A B : Type 0} (Q : B → Type 0) (f : ℕ → A → List B) (i : ℕ) (xs : List A) → ((j : ℕ) (x : A) → slice_get xs j ≡ Some x → Each Q (f (i + j) x)) → Each Q (numbered f i xs)
each_numbered Q f i [] h = tt
each_numbered Q f i (x ∷ xs) h =
    let e : i + 0 ≡ i = omega arith in
    each_join Q (f i x) (numbered f (i + 1) xs) (subst (λ k. Each Q (f k x)) e (h 0 x refl))
    (each_numbered Q f (i + 1) xs (λ j y g. let l : i + suc j ≡ (i + 1) + j = omega arith in subst (λ k. Each Q (f k y)) l (h (suc j) y g)))
