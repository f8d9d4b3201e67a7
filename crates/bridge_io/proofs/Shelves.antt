-- What is left on a shelf, and what is counted there, after a read.
use Rattle.std.proofs.Common.{arith, ◌≡◌, ◌≢◌, ◌<◌, ◌≤◌, ℕ, ◌+◌, min, Bool, true, false, cond, List, [], ◌∷◌, ◌++◌, length, take, Option, Some, None, refl, ap, sym, ◌∙◌, ◌⊎◌, inl, inr}
use Rattle.std.specs.Prelude.{IsSome, IsNone}
use Rattle.std.specs.Map.{update}
use Rattle.std.specs.Str.{bytes_eq}
use Rattle.std.specs.Io.KnownBytes.{prepend_known}
use Rattle.std.proofs.lemmas.Bool.{false_from_ne_true}
use Rattle.std.proofs.lemmas.Slice.Eq.{bytes_eq-Decides}
use Rattle.bridge_io.specs.Outside.{Lefts, TakesFront}
use Rattle.bridge_io.specs.Tally.{Counts, FailsNext, IsCalm, with_call, with_fault}

pub some_there : {X : Type 0} (o : Option X) (x : X) → Some x ≡ o → IsSome o
some_there (Some y) x is = refl
some_there None x is = absurd (cc)

pub some_not_none : {X : Type 0} (o : Option X) (x : X) → Some x ≡ o → IsNone o → ⊥
some_not_none (Some y) x is none = cc
some_not_none None x is none = cc

pub none_there : {X : Type 0} (o : Option X) → None ≡ o → IsNone o
none_there (Some y) is = absurd (cc)
none_there None is = refl

pub none_not_some : {X : Type 0} (o : Option X) → None ≡ o → IsSome o → ⊥
none_not_some (Some y) is some = cc
none_not_some None is some = cc

-- After a change under one name, that name has the new bytes, and all others have what they had.
abbrev pub ChangedAt : Lefts → Lefts → List ℕ → List ℕ → Type 0
ChangedAt before after name left = (other : List ℕ) → after other ≡ update bytes_eq before name (Some left) other

-- the same under an equal name, with equal bytes
pub changed_under : (before after : Lefts) (key name value left : List ℕ) → key ≡ name → value ≡ left → ChangedAt before after key value → ChangedAt before after name left
changed_under before after key name value left same is changed = rw (← same, ← is) changed

pub changed_there : (before after : Lefts) (name left : List ℕ) → ChangedAt before after name left → after name ≡ Some left
changed_there before after name left changed = changed name ∙ ap (λ b. cond b (Some left) (before name)) ((bytes_eq-Decides name name).1 refl)

pub changed_elsewhere : (before after : Lefts) (name left : List ℕ) → ChangedAt before after name left → (other : List ℕ) → other ≢ name → after other ≡ before other
changed_elsewhere before after name left changed other ne = changed other ∙ ap (λ b. cond b (Some left) (before other)) (false_from_ne_true _ (λ same. ne (sym ((bytes_eq-Decides name other).0 same))))

still : (b : Bool) (o : Option (List ℕ)) (left : List ℕ) → IsSome o → IsSome (cond b (Some left) o)
still true o left on = some_there _ left refl
still false o left on = on

pub still_on : (before after : Lefts) (name left : List ℕ) → ChangedAt before after name left → (other : List ℕ) → IsSome (before other) → IsSome (after other)
still_on before after name left changed other on = rw (changed other) (still (bytes_eq name other) (before other) left on)

pub takes_front : (before after : Lefts) (name stored bytes left : List ℕ) → before name ≡ Some stored → ChangedAt before after name left → stored ≡ bytes ++ left → TakesFront before after name bytes
takes_front before after name stored bytes left was changed parts = record {
  was = was ∙ ap Some parts ∙ sym (ap (prepend_known bytes) (changed_there before after name left changed));
  others = changed_elsewhere before after name left changed;
}

-- A read that took nothing into a piece with room found no bytes, and left none.
pub none_left : (piece stored new left : List ℕ) (n : ℕ) → 0 < length piece → n ≡ min (length piece) (length stored) → stored ≡ take n new ++ left → n ≡ 0 → left ≡ []
none_left piece [] new left n room many parts none = sym (rw none at parts)
none_left piece (x ∷ xs) new left n room many parts none = absurd (omega arith)

pub read_within : (n a b : ℕ) → n ≡ min a b → n ≤ a
read_within n a b is = omega arith

pub no_calm : (c : Counts) → FailsNext c → IsCalm c → ⊥
no_calm c fails calm = omega (arith, calm fails.0 (c.calls + 1) fails.1, fails.2)

pub faults_kept : (old mid new : Counts) → mid ≡ with_call old → mid.faults ≤ new.faults → old.faults ≤ new.faults
faults_kept old mid new is more = rw is at more

pub calm_kept : (mid new : Counts) → new ≡ with_fault mid → IsCalm mid → IsCalm new
calm_kept mid new is calm = rw is calm

pub still_there : (before after : Lefts) (other : List ℕ) → after ≡ before → IsSome (before other) → IsSome (after other)
still_there before after other same on = rw same on

pub neither : {A B : Type 0} → (A → ⊥) → (B → ⊥) → A ⊎ B → ⊥
neither f g (inl a) = f a
neither f g (inr b) = g b
