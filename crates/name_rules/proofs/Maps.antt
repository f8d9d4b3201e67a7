-- What stands under names, and sets of names, one name more.
use Rattle.std.specs.Prelude.{ℕ, ◌<◌, ◌≤◌, ◌+◌, List, [], map, length, drop, Bool, true, false, ◌||◌, Option, Some, None, is_some, bytes_eq, if◌then◌else◌}
use Rattle.std.specs.List.{list_any}
use Rattle.std.specs.Borrow.{Bor}
use Rattle.std.specs.Option.{option_or}
use Rattle.std.proofs.Common.{◌≡◌, refl, sym, ap, ◌∙◌, get_or}
use Rattle.std.proofs.Math.Path.{fun_ext}
use Rattle.std.proofs.lemmas.Slice.Eq.{bytes_eq-Decides}
use Rattle.std.proofs.lemmas.List.{at_drop_more, at_drop_all}
use Rattle.std.proofs.Math.Bool.{or-false}
use Rattle.basics.specs.Options.{none_of}
use Rattle.name_rules.specs.Names.{Name, put, put_first, add}

-- what stands under each name stands under one
pub at : {T : Type 0} {f g : Name → T} → f ≡ g → (x : Name) → f x ≡ g x
at h x = ap (λ f. f x) h

pub none_after : {T : Type 0} (o : Option T) → o ≡ option_or o None
none_after None = refl
none_after (Some x) = refl

anything_after : {T : Type 0} (o p : Option T) → is_some o ≡ true → o ≡ option_or o p
anything_after None p h = cc
anything_after (Some x) p h = refl

-- a name that stands there already
pub stands : {T : Type 0} (values : Name → Option T) (name : Name) (value : T) → is_some (values name) ≡ true → values ≡ put_first values name value
stands values name value h = fun_ext (λ x. by_test x (bytes_eq name x) refl)
  where
    by_test : (x : Name) (b : Bool) → bytes_eq name x ≡ b → values x ≡ option_or (values x) (if b then Some value else None)
    by_test x true e = anything_after (values x) (Some value) (ap (λ y. is_some (values y)) (sym ((bytes_eq-Decides name x).0 e)) ∙ h)
    by_test x false e = none_after (values x)

-- a name that does not
pub put_new : {T : Type 0} (values : Name → Option T) (name : Name) (value : T) → is_some (values name) ≡ false → put values name value ≡ put_first values name value
put_new values name value h = fun_ext (λ x. by_test x (bytes_eq name x) refl)
  where
    by_test : (x : Name) (b : Bool) → bytes_eq name x ≡ b → (if b then Some value else values x) ≡ option_or (values x) (if b then Some value else None)
    by_test x true e = ap (λ o. option_or o (Some value)) (sym (none_of (values x) (ap (λ y. is_some (values y)) (sym ((bytes_eq-Decides name x).0 e)) ∙ h)))
    by_test x false e = none_after (values x)

-- ---- sets
pub added : (old new : Name → Option (Unit {0})) (name : Name) → new ≡ put old name tt → (λ x. is_some (new x)) ≡ add (λ x. is_some (old x)) name
added old new name h = ap (λ values. λ x. is_some (values x)) h ∙ fun_ext (λ x. by_test x (bytes_eq name x))
  where
    by_test : (x : Name) (b : Bool) → is_some (if b then Some tt else old x) ≡ (b || is_some (old x))
    by_test x true = refl
    by_test x false = refl

or_swap : (a b c : Bool) → ((a || b) || c) ≡ (b || (a || c))
or_swap true true c = refl
or_swap true false c = refl
or_swap false b c = refl

-- one element of a list more, added to a set
pub one_in : {A B : Type 0} (view : A → B) (test : B → Name → Bool) (old new : Name → Bool) (name : B) (xs : List A) (i : ℕ) (d : A) (whole : Name → Bool) → i < length xs →
    name ≡ view (get_or xs i d) → new ≡ (λ x. test name x || old x) → (λ x. old x || list_any (λ y. test y x) (map view (drop i xs))) ≡ whole →
    (λ x. new x || list_any (λ y. test y x) (map view (drop (i + 1) xs))) ≡ whole
one_in view test old new name xs i d whole h is added so_far =
    fun_ext (λ x.
    ap (λ b. b || list_any (λ y. test y x) (map view (drop (i + 1) xs))) (at added x)
    ∙ or_swap (test name x) (old x) (list_any (λ y. test y x) (map view (drop (i + 1) xs)))
    ∙ ap (λ n. old x || (test n x || list_any (λ y. test y x) (map view (drop (i + 1) xs)))) is
    ∙ sym (at_drop_more (λ ys. old x || list_any (λ y. test y x) (map view ys)) xs i d h))
    ∙ so_far

pub none_in : {A B : Type 0} (view : A → B) (test : B → Name → Bool) (old : Name → Bool) (xs : List A) (i : ℕ) (whole : Name → Bool) → length xs ≤ i →
    (λ x. old x || list_any (λ y. test y x) (map view (drop i xs))) ≡ whole → old ≡ whole
none_in view test old xs i whole h so_far =
    fun_ext (λ x. sym (or-false (old x)) ∙ sym (at_drop_all (λ ys. old x || list_any (λ y. test y x) (map view ys)) xs i h)) ∙ so_far

-- what is read past the end of a list of names
abbrev pub no_str : Bor (List ℕ)
no_str = record { ref_ptr = (0, 0); now = [] }
