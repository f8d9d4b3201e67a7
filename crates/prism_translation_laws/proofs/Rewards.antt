-- What the destinations of an edge assign to reward structures.
use Rattle.std.specs.Prelude.{◌≡◌, ℕ, ◌<◌, List, [], ◌∷◌, map, length, Bool, true, false, cond, Option, Some, None, is_none, nat_eq, slice_set, get_or, if◌then◌else◌}
use Rattle.std.specs.List.{filter, position, AllByRecursion as OfAll}
use Rattle.std.specs.Option.{option_or}
use Rattle.std.proofs.Common.{refl, sym, ap, subst, ◌∙◌, arith, eq-eqb}
use Rattle.std.proofs.lemmas.Bool.{eqb-true, eqb-false, and_parts, or_parts, both_ways, false_from_ne_true}
use Rattle.std.proofs.lemmas.List.{length-set, get_or-set_same, get_or-set_other}
use Rattle.std.proofs.lemmas.List.Quantifiers.{position-Some}
use Rattle.std.proofs.lemmas.List.Elements.{All-from_recursion}
use Rattle.basics.specs.Each.{each_unit}
use Rattle.basics.specs.Texts.{bytes_eq-true, bytes_eq-self}
use Rattle.bridge_io.specs.declared.reason.Named.{Named}
use Rattle.frac_core.specs.Fraction.{Fraction}
use Rattle.process_core.specs.Choices.{assigned}
use Rattle.process_core.specs.Ready.{Name, Reward}
use Rattle.choice_laws.proofs.Walks.{filter_none}
use Rattle.jani_tree.specs.Syntax.{Expression, Write, File, boolean}
use Rattle.jani_check.specs.Things.{is_called}
use Rattle.jani_check.specs.NameFaults.{is_among}
use Rattle.jani_check.specs.TypeFaults.{targets}
use Rattle.jani_meaning.specs.Elements.{Owned, structures, is_own, is_global, place_of, structure_number, is_owner}
use Rattle.prism_translation.specs.Elements.{is_at}
use Rattle.prism_translation.specs.Sound.{AtMostOne}
use Rattle.prism_translation.proofs.Distinct.{AreDistinct}
use Rattle.prism_translation.proofs.Earned.{value_of}

-- ---- at most one
pub most-map : {A B : Type 0} (f : A → B) (xs : List A) → AtMostOne xs → AtMostOne (map f xs)
most-map f [] h = tt
most-map f (x ∷ []) h = tt
most-map f (x ∷ y ∷ ys) h = absurd h

-- those that pass, where members that pass have one name, and each name comes once
pub one_each : {A : Type 0} (name : A → Named) (P : A → Type 0) (q : A → Bool) (xs : List A) → ((x y : A) → P x → P y → q x ≡ true → q y ≡ true → (name x).name ≡ (name y).name) → OfAll P xs → AreDistinct (map name xs) →
    AtMostOne (filter q xs)
one_each name P q [] same p h = tt
one_each {A = A} name P q (x ∷ xs) same p h = by_test (q x) refl (one_each name P q xs same p.1 h.1)
  where
    others : q x ≡ true → (ys : List A) → OfAll P ys → is_among (map name ys) (name x).name ≡ false → OfAll (λ y. q y ≡ false) ys
    others e [] r k = tt
    others e (y ∷ ys) r k =
        let both = or_parts (is_called (name x).name (name y)) (is_among (map name ys) (name x).name) k in (
          false_from_ne_true (q y) (λ f. both_ways (is_called (name x).name (name y)) both.0 (ap (λ z. is_called z (name y)) (same x y p.0 r.0 e f) ∙ bytes_eq-self (name y).name)),
          others e ys r.1 both.1,
        )

    by_test : (b : Bool) → q x ≡ b → AtMostOne (filter q xs) → AtMostOne (cond b (x ∷ filter q xs) (filter q xs))
    by_test true e k = subst (λ l. AtMostOne (x ∷ l)) (sym (filter_none q xs (All-from_recursion (λ y. q y ≡ false) xs (others e xs p.1 h.0)))) tt
    by_test false e k = k

pub one_write : (q : Write → Bool) (ws : List Write) → ((x y : Write) → q x ≡ true → q y ≡ true → x.target.name ≡ y.target.name) → AreDistinct (targets ws) → AtMostOne (filter q ws)
one_write q ws same h = one_each (λ (w : Write). w.target) (λ w. Unit {0}) q ws (λ x y a b. same x y) (each_unit ws) h

-- ---- numbers of structures
nobody : Owned
nobody = record { owner = None; var = record { name = record { name = []; at = 0 }; kind = boolean; kind_at = 0; transient = false; start = None; note = None } }

called_there : (vars : List Owned) (k : ℕ) (x : Name) (j : ℕ) → place_of vars k x ≡ Some j → (get_or vars j nobody).var.name.name ≡ x
called_there vars k x j e = by_first (position (is_own k x) vars) refl e
  where
    by_first : (a : Option ℕ) → position (is_own k x) vars ≡ a → option_or a (position (is_global x) vars) ≡ Some j → (get_or vars j nobody).var.name.name ≡ x
    by_first None f g =
        bytes_eq-true (get_or vars j nobody).var.name.name x (and_parts (is_none (get_or vars j nobody).owner) (is_called x (get_or vars j nobody).var.name) (position-Some (is_global x) vars j nobody g).1).1
    by_first (Some i) f g =
        bytes_eq-true (get_or vars j nobody).var.name.name x
        (and_parts (is_owner k (get_or vars j nobody).owner) (is_called x (get_or vars j nobody).var.name) (position-Some (is_own k x) vars j nobody (f ∙ g)).1).1

pub at_is : (j : ℕ) (o : Option ℕ) → is_at j o ≡ true → o ≡ Some j
at_is j None e = absurd cc
at_is j (Some i) e = ap Some (sym (eqb-true j i e))

pub is_there : (j : ℕ) (o : Option ℕ) → o ≡ Some j → is_at j o ≡ true
is_there j o e = ap (is_at j) e ∙ eq-eqb j j refl

module _ (file : File) (k : ℕ) where
  abbrev pub number : Write → Option ℕ
  number w = structure_number file k w.target.name

  abbrev pub values_at : ℕ → List Write → List Expression
  values_at j ws = map (λ w. w.value) (filter (λ w. is_at j (number w)) ws)

  pub one_name : (j : ℕ) (x y : Write) → is_at j (number x) ≡ true → is_at j (number y) ≡ true → x.target.name ≡ y.target.name
  one_name j x y e f =
      sym (called_there (structures file) k x.target.name j (at_is j (number x) e)) ∙ called_there (structures file) k y.target.name j (at_is j (number y) f)

  -- names that differ are those of different structures
  pub one_value : (j : ℕ) (ws : List Write) → AreDistinct (targets ws) → AtMostOne (values_at j ws)
  one_value j ws h = most-map (λ (w : Write). w.value) (filter (λ w. is_at j (number w)) ws) (one_write (λ w. is_at j (number w)) ws (one_name j) h)

-- ---- rewards that are assigned one after another

abbrev pub chosen : ℕ → List Reward → Fraction → Fraction
chosen i [] y = y
chosen i (r ∷ rs) y = chosen i rs (if nat_eq r.structure i then value_of r else y)

pub assigned_length : (rs : List Reward) (own : List Fraction) → length (assigned own rs) ≡ length own
assigned_length [] own = refl
assigned_length (r ∷ rs) own = assigned_length rs (slice_set own r.structure (value_of r)) ∙ length-set own r.structure (value_of r)

pub assigned_at : (rs : List Reward) (own : List Fraction) (i : ℕ) (d : Fraction) → i < length own → get_or (assigned own rs) i d ≡ chosen i rs (get_or own i d)
assigned_at [] own i d l = refl
assigned_at (r ∷ rs) own i d l =
    let e = length-set own r.structure (value_of r) in
    assigned_at rs (slice_set own r.structure (value_of r)) i d (omega (arith, l, e)) ∙ ap (chosen i rs) (by_test (nat_eq r.structure i) refl)
  where
    by_test : (b : Bool) → nat_eq r.structure i ≡ b → get_or (slice_set own r.structure (value_of r)) i d ≡ (if b then value_of r else get_or own i d)
    by_test true e =
        let same : r.structure ≡ i = eqb-true r.structure i e in
        ap (λ j. get_or (slice_set own j (value_of r)) i d) same ∙ get_or-set_same own i (value_of r) d l
    by_test false e = get_or-set_other own r.structure i (value_of r) d (λ f. eqb-false r.structure i e (sym f))
