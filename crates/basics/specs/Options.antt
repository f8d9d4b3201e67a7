-- Options.
use Rattle.std.proofs.Common.{◌≡◌, ◌⊎◌, Bool, true, false, ◌||◌, List, [], ◌∷◌, map, Option, Some, None, is_some, is_none, option_map, if◌then◌else◌, refl, inl, inr}
use Rattle.std.specs.Prelude.{IsTrue}
use Rattle.std.specs.Option.{option_or}

-- an option as the list of what it holds
abbrev pub if_some : {A : Type 0} → Option A → List A
if_some None = []
if_some (Some x) = x ∷ []

-- this holds of what is there, if something is
abbrev pub IfAny : {A : Type 0} → (A → Type 0) → Option A → Type 0
IfAny P None = Unit {0}
IfAny P (Some x) = P x

pub none_of : {A : Type 0} (o : Option A) → is_some o ≡ false → o ≡ None
none_of None e = refl
none_of (Some x) e = absurd cc

pub none_is : {A : Type 0} (o : Option A) → is_none o ≡ true → o ≡ None
none_is None e = refl
none_is (Some x) e = absurd cc

pub has_some : {A : Type 0} (o : Option A) → IsTrue (is_some o) → (x : A) × (o ≡ Some x)
has_some None h = absurd cc
has_some (Some x) h = (x, refl)

pub if_some-map : {A B : Type 0} (f : A → B) (o : Option A) → if_some (option_map f o) ≡ map f (if_some o)
if_some-map f None = refl
if_some-map f (Some x) = refl

pub is_some-map : {A B : Type 0} (f : A → B) (o : Option A) → is_some (option_map f o) ≡ is_some o
is_some-map f None = refl
is_some-map f (Some x) = refl

pub is_none-map : {A B : Type 0} (f : A → B) (o : Option A) → is_none (option_map f o) ≡ is_none o
is_none-map f None = refl
is_none-map f (Some x) = refl

pub is_some-or : {A : Type 0} (a b : Option A) → is_some (option_or a b) ≡ (is_some a || is_some b)
is_some-or None b = refl
is_some-or (Some x) b = refl

pub is_some-if : {A : Type 0} (b : Bool) (x : A) (o : Option A) → is_some (if b then Some x else o) ≡ (if b then true else is_some o)
is_some-if true x o = refl
is_some-if false x o = refl

pub option_map-if : {A B : Type 0} (f : A → B) (b : Bool) (x : A) (o : Option A) → option_map f (if b then Some x else o) ≡ (if b then Some (f x) else option_map f o)
option_map-if f true x o = refl
option_map-if f false x o = refl

-- where one or the other is some
pub if_then_some : {A : Type 0} (b : Bool) (x : A) (o : Option A) (w : A) → (if b then Some x else o) ≡ Some w → ((b ≡ true) × (x ≡ w)) ⊎ ((b ≡ false) × (o ≡ Some w))
if_then_some true x o w e = inl (refl, cc)
if_then_some false x o w e = inr (refl, e)
