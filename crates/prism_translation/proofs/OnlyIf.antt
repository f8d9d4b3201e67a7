-- A list of one thing or nothing.
use Rattle.std.specs.Prelude.{◌≡◌, [], ◌∷◌, map, Bool, true, false, ◌&&◌, cond}
use Rattle.std.specs.List.{filter, count_by}
use Rattle.std.proofs.Common.{refl, arith}
use Rattle.choice_laws.proofs.Walks.{has_some}
use Rattle.process_core.specs.Instance.{only_if}

pub map-only_if : {A B : Type 0} (f : A → B) (b : Bool) (x : A) → map f (only_if b x) ≡ only_if b (f x)
map-only_if f true x = refl
map-only_if f false x = refl

pub filter-only_if : {A : Type 0} (q : A → Bool) (b : Bool) (x : A) → filter q (only_if b x) ≡ only_if (b && q x) x
filter-only_if q true x = by_test (q x)
  where
    by_test : (c : Bool) → cond c (x ∷ []) [] ≡ only_if c x
    by_test true = refl
    by_test false = refl
filter-only_if q false x = refl

pub some-only_if : {A : Type 0} (b : Bool) (x : A) → has_some (only_if b x) ≡ b
some-only_if true x = refl
some-only_if false x = refl

pub count-only_if : {A : Type 0} (q : A → Bool) (b : Bool) (x : A) → count_by q (only_if b x) ≡ cond b (cond (q x) 1 0) 0
count-only_if q true x = omega arith
count-only_if q false x = refl

pub none_if : {A : Type 0} (b : Bool) (x : A) → only_if (b && false) x ≡ []
none_if true x = refl
none_if false x = refl
