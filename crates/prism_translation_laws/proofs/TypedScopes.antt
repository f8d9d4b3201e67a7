-- What the names of an element stand for: constants and variables, by their places in the file.
use Rattle.std.specs.Prelude.{◌≡◌, ◌⊎◌, ℕ, zero, suc, ◌+◌, ◌<◌, List, [], ◌∷◌, length, Bool, true, false, ◌&&◌, cond, Option, Some, None, IsTrue, is_none, is_some, slice_get, get_or, unwrap_or}
use Rattle.std.specs.List.{find, filter, position, position_or_len, All, AllByRecursion as Each}
use Rattle.std.specs.Option.{option_map, option_or, option_or as or_else}
use Rattle.std.proofs.Common.{refl, sym, ap, subst, ◌∙◌, arith, lt-ltb, inl, inr}
use Rattle.std.proofs.lemmas.Bool.{eqb-true, and_parts}
use Rattle.std.proofs.lemmas.Option.{slice_get_within, get_or_from_slice_get}
use Rattle.std.proofs.lemmas.List.Elements.{All-nil, All-append, All-filter, All-map, All-from_recursion}
use Rattle.std.proofs.lemmas.List.Folds.{find_at}
use Rattle.std.proofs.lemmas.List.Quantifiers.{position-Some}
use Rattle.basics.specs.Texts.{bytes_eq-true}
use Rattle.basics.specs.Options.{has_some}
use Rattle.bridge_io.specs.declared.reason.Named.{Named}
use Rattle.op_trees.specs.declared.tree.Ty.{Ty}
use Rattle.op_trees.specs.declared.tree.Ty.TheVariants as T
use Rattle.process_core.specs.Ready.{Name}
use Rattle.process_core.specs.Instance.{numbered}
use Rattle.jani_tree.specs.Syntax.{Const, Var, boolean, Automaton, File}
use Rattle.jani_check.specs.Things as things
use Rattle.jani_check.specs.Things.{kind_type, const_thing, var_thing, const_called, var_called, global_thing, beside, thing_type, is_constant, is_transient}
use Rattle.jani_check.specs.TypeFaults as jani_types
use Rattle.jani_check.specs.Faults.{IsChecked}
use Rattle.jani_meaning.specs.Elements as jani
use Rattle.op_trees.specs.Names.{is_called}
use Rattle.op_trees.specs.Wanted.{wanted_by}
use Rattle.jani_meaning.specs.Elements.{Owned, owned_by, variables, is_lasting, lasting, is_own, is_owner, is_global, place_of}
use Rattle.prism_translation.specs.Elements.{may_use}
use Rattle.prism_translation.specs.Sound.{IsConstant}
use Rattle.prism_translation_laws.specs.TypeLaws.{own_variables, types_in, is_constant_in}
use Rattle.prism_translation.proofs.Scopes.{global_stands, own_stands, has_column, variable_test}
use Rattle.prism_translation.proofs.Clean.{names_apart_outside}
use Rattle.prism_translation.proofs.Elements.{judged_at, names_at}

-- ---- lists
-- the first that passes a test, by its place
first_place : {X : Type 0} (p : X → Bool) (x : X) (xs : List X) → find p xs ≡ Some x → (i : ℕ) × (position p xs ≡ Some i) × (slice_get xs i ≡ Some x)
first_place p x xs h =
    let k = position_or_len p xs in
    let there : slice_get xs k ≡ Some x = sym (find_at p xs) ∙ h in
    (k, ap (λ b. cond b (Some k) None) (lt-ltb k (length xs) (slice_get_within xs k x there)), there)

-- ---- all variables of a file
pub each_at : {X : Type 0} (P : X → Type 0) (xs : List X) (k : ℕ) (x : X) → Each P xs → slice_get xs k ≡ Some x → P x
each_at P [] k x h e = absurd cc
each_at P (y ∷ ys) zero x h e = let same : y ≡ x = cc in subst P same h.0
each_at P (y ∷ ys) (suc k) x h e = each_at P ys k x h.1 e

owned_all : (Q : Owned → Type 0) (i : ℕ) (xs : List Automaton) → ((j : ℕ) (a : Automaton) → slice_get xs j ≡ Some a → All (λ v. Q (record { owner = Some (i + j); var = v })) a.variables) →
    All Q (numbered (λ i a. owned_by (Some i) a.variables) i xs)
owned_all Q i [] h = All-nil Q
owned_all Q i (a ∷ xs) h =
    All-append Q (owned_by (Some i) a.variables) (numbered (λ i a. owned_by (Some i) a.variables) (i + 1) xs)
    (All-map Q (λ v. record { owner = Some i; var = v }) a.variables
    (subst (λ n. All (λ v. Q (record { owner = Some n; var = v })) a.variables) (let e : i + 0 ≡ i = omega arith in e) (h 0 a refl)))
    (owned_all Q (i + 1) xs
    (λ j b g. subst (λ n. All (λ v. Q (record { owner = Some n; var = v })) b.variables) (let e : i + suc j ≡ (i + 1) + j = omega arith in e) (h (suc j) b g)))

-- the global ones, and the own ones of each element
pub variables_all : (file : File) (Q : Owned → Type 0) → All (λ v. Q (record { owner = None; var = v })) file.variables →
    ((k : ℕ) (a : Automaton) → slice_get (jani.elements file) k ≡ Some a → All (λ v. Q (record { owner = Some k; var = v })) a.variables) → All Q (variables file)
variables_all file Q g h =
    All-append Q (owned_by None file.variables) (numbered (λ i a. owned_by (Some i) a.variables) 0 (jani.elements file))
    (All-map Q (λ v. record { owner = None; var = v }) file.variables g)
    (owned_all Q 0 (jani.elements file)
    (λ j a e. subst (λ n. All (λ v. Q (record { owner = Some n; var = v })) a.variables) (let o : j ≡ 0 + j = omega arith in o) (h j a e)))

-- ---- each variable stands for itself where it may be used
pub nobody : Owned
nobody = record { owner = None; var = record { name = record { name = []; at = 0 }; kind = boolean; kind_at = 0; transient = false; start = None; note = None } }

pub no_constant : Const
no_constant = record { name = record { name = []; at = 0 }; ty = T.Bool; value = None; note = None }

-- a name of this place in a list of variables
pub record StandsAt (os : List Owned) (k : ℕ) (x : Name) (i : ℕ) : Type 0 where
  pub within : i < length os
  pub may : may_use k (get_or os i nobody).owner ≡ true
  pub called : (get_or os i nobody).var.name.name ≡ x

own_true : (k : ℕ) (x : Name) (w : Option ℕ) (n : Named) → (is_owner k w && is_called x n) ≡ true → (may_use k w ≡ true) × (n.name ≡ x)
own_true k x w n h = let r = and_parts (is_owner k w) (is_called x n) h in (owner_may w r.0, bytes_eq-true n.name x r.1)
  where
    owner_may : (w : Option ℕ) → is_owner k w ≡ true → may_use k w ≡ true
    owner_may None e = refl
    owner_may (Some j) e = e

global_true : (k : ℕ) (x : Name) (w : Option ℕ) (n : Named) → (is_none w && is_called x n) ≡ true → (may_use k w ≡ true) × (n.name ≡ x)
global_true k x w n h = let r = and_parts (is_none w) (is_called x n) h in (none_may w r.0, bytes_eq-true n.name x r.1)
  where
    none_may : (w : Option ℕ) → is_none w ≡ true → may_use k w ≡ true
    none_may None e = refl
    none_may (Some j) e = absurd cc

pub placed_at : (os : List Owned) (k : ℕ) (x : Name) (i : ℕ) → place_of os k x ≡ Some i → StandsAt os k x i
placed_at os k x i h = by_first (position (is_own k x) os) refl h
  where
    by_first : (w : Option ℕ) → position (is_own k x) os ≡ w → option_or w (position (is_global x) os) ≡ Some i → StandsAt os k x i
    by_first None e f =
        let p = position-Some (is_global x) os i nobody f in
        let q = global_true k x (get_or os i nobody).owner (get_or os i nobody).var.name p.1 in
        record { within = p.0; may = q.0; called = q.1 }
    by_first (Some j) e f =
        let p = position-Some (is_own k x) os i nobody (e ∙ f) in
        let q = own_true k x (get_or os i nobody).owner (get_or os i nobody).var.name p.1 in
        record { within = p.0; may = q.0; called = q.1 }

-- ---- which thing a variable is
abbrev with_transient : Bool → Var → Var
with_transient b v = record { name = v.name; kind = v.kind; kind_at = v.kind_at; transient = b; start = v.start; note = v.note }

no_const : (v : Var) → is_constant (Some (var_thing v)) ≡ false
no_const v = by_test v.transient
  where
    by_test : (b : Bool) → is_constant (Some (var_thing (with_transient b v))) ≡ false
    by_test true = refl
    by_test false = refl

pub thing_typed : (v : Var) → thing_type (var_thing v) ≡ kind_type v.kind
thing_typed v = by_test v.transient
  where
    by_test : (b : Bool) → thing_type (var_thing (with_transient b v)) ≡ kind_type v.kind
    by_test true = refl
    by_test false = refl

-- what stands for a constant
pub const_of : (c : Option Const) (v w : Option Var) → is_constant (or_else (or_else (option_map const_thing c) (option_map var_thing v)) (option_map var_thing w)) ≡ true →
    (d : Const) × (c ≡ Some d) × (option_map thing_type (or_else (or_else (option_map const_thing c) (option_map var_thing v)) (option_map var_thing w)) ≡ Some d.ty)
const_of (Some d) v w h = (d, refl, refl)
const_of None (Some v) w h = absurd (let no : false ≡ true = sym (no_const v) ∙ h in cc)
const_of None None (Some w) h = absurd (let no : false ≡ true = sym (no_const w) ∙ h in cc)
const_of None None None h = absurd cc

pub constant_left : (c : Option Const) (v w : Option Var) → jani_types.is_variable (or_else (or_else (option_map const_thing c) (option_map var_thing v)) (option_map var_thing w)) ≡ false →
    IsTrue (is_some (option_map thing_type (or_else (or_else (option_map const_thing c) (option_map var_thing v)) (option_map var_thing w)))) →
    is_constant (or_else (or_else (option_map const_thing c) (option_map var_thing v)) (option_map var_thing w)) ≡ true
constant_left (Some d) v w h k = refl
constant_left None (Some u) w h k = absurd (let no : true ≡ false = sym (variable_test u) ∙ h in cc)
constant_left None None (Some u) h k = absurd (let no : true ≡ false = sym (variable_test u) ∙ h in cc)
constant_left None None None h k = absurd cc

lasts_then : (v : Var) → is_transient (Some (var_thing v)) ≡ false → things.is_lasting (Some (var_thing v)) ≡ true
lasts_then v = by_test v.transient
  where
    by_test : (b : Bool) → is_transient (Some (var_thing (with_transient b v))) ≡ false → things.is_lasting (Some (var_thing (with_transient b v))) ≡ true
    by_test true h = absurd cc
    by_test false h = refl

pub one_or_other : (c : Option Const) (v w : Option Var) → is_transient (or_else (or_else (option_map const_thing c) (option_map var_thing v)) (option_map var_thing w)) ≡ false →
    IsTrue (is_some (option_map thing_type (or_else (or_else (option_map const_thing c) (option_map var_thing v)) (option_map var_thing w)))) →
    (is_constant (or_else (or_else (option_map const_thing c) (option_map var_thing v)) (option_map var_thing w)) ≡ true)
    ⊎ (things.is_lasting (or_else (or_else (option_map const_thing c) (option_map var_thing v)) (option_map var_thing w)) ≡ true)
one_or_other (Some d) v w h k = inl refl
one_or_other None (Some u) w h k = inr (lasts_then u h)
one_or_other None None (Some u) h k = inr (lasts_then u h)
one_or_other None None None h k = absurd cc

-- what is assigned to a thing has to be of its type
pub wanted_is : (c : Option Const) (v w : Option Var) (t : Ty) → option_map thing_type (or_else (or_else (option_map const_thing c) (option_map var_thing v)) (option_map var_thing w)) ≡ Some t →
    jani_types.wanted_at (or_else (or_else (option_map const_thing c) (option_map var_thing v)) (option_map var_thing w)) ≡ wanted_by t
wanted_is (Some d) v w t h = let e : d.ty ≡ t = cc in ap wanted_by e
wanted_is None (Some u) w t h = let e : thing_type (var_thing u) ≡ t = cc in ap wanted_by e
wanted_is None None (Some u) t h = let e : thing_type (var_thing u) ≡ t = cc in ap wanted_by e
wanted_is None None None t h = absurd cc

module _ (file : File) where
  -- ---- elements
  pub own_are : (k : ℕ) (a : Automaton) → slice_get (jani.elements file) k ≡ Some a → own_variables file k ≡ a.variables
  own_are k a h = ap (λ (o : Option Automaton). unwrap_or (option_map (λ a. a.variables) o) []) h

module _ (file : File) (checked : IsChecked file) where
  abbrev pub Stands : Owned → Type 0
  Stands o = (k : ℕ) → may_use k o.owner ≡ true → beside (global_thing file) (own_variables file k) o.var.name.name ≡ Some (var_thing o.var)

  pub stands_all : All Stands (variables file)
  stands_all =
      variables_all file Stands
      (λ i d l k m. ap (λ g. or_else g (option_map var_thing (var_called (own_variables file k) (get_or file.variables i d).name.name)))
      (All-from_recursion (λ v. global_thing file v.name.name ≡ Some (var_thing v)) file.variables (global_stands file [] (names_apart_outside file checked)) i d l))
      (λ j a g n d l k m.
      ap (λ vs. beside (global_thing file) vs (get_or a.variables n d).name.name) (ap (own_variables file) (eqb-true k j m) ∙ own_are file j a g)
      ∙ All-from_recursion (λ v. beside (global_thing file) a.variables v.name.name ≡ Some (var_thing v)) a.variables (own_stands file a.variables (judged_at file checked j a g).names) n d l)

  -- what stands at a place among some variables
  pub thing_at : (q : Owned → Bool) (k : ℕ) (x : Name) (i : ℕ) → place_of (filter q (variables file)) k x ≡ Some i →
      beside (global_thing file) (own_variables file k) x ≡ Some (var_thing (get_or (filter q (variables file)) i nobody).var)
  thing_at q k x i h =
      let p = placed_at (filter q (variables file)) k x i h in
      subst (λ y. beside (global_thing file) (own_variables file k) y ≡ Some (var_thing (get_or (filter q (variables file)) i nobody).var)) p.called
      (All-filter q Stands (variables file) stands_all i nobody p.within k p.may)

  -- ---- constants
  pub record KnownConstant (k : ℕ) (x : Name) : Type 0 where
    pub known : IsConstant file k x
    pub typed : types_in file k x ≡ Some (get_or file.constants known.number no_constant).ty

  pub constant_known : (k : ℕ) (x : Name) → is_constant_in file k x ≡ true → KnownConstant k x
  constant_known k x h =
      let d = const_of (const_called file x) (var_called file.variables x) (var_called (own_variables file k) x) h in
      let p = first_place (λ c. is_called x c.name) d.0 file.constants d.1 in
      record {
        known = record { no_variable = none_there (place_of (lasting file) k x) refl; number = p.0; stands_there = p.1 };
        typed = d.2 ∙ ap (λ (c : Const). Some c.ty) (sym (get_or_from_slice_get file.constants p.0 d.0 no_constant p.2));
      }
    where
      none_there : (o : Option ℕ) → place_of (lasting file) k x ≡ o → place_of (lasting file) k x ≡ None
      none_there None e = e
      none_there (Some i) e =
          absurd (let no : false ≡ true = sym (no_const (get_or (lasting file) i nobody).var) ∙ ap is_constant (sym (thing_at is_lasting k x i e)) ∙ h in cc)

  -- ---- variables that last
  pub record KnownVariable (k : ℕ) (x : Name) : Type 0 where
    pub number : ℕ
    pub stands_there : place_of (lasting file) k x ≡ Some number
    pub typed : types_in file k x ≡ Some (kind_type (get_or (lasting file) number nobody).var.kind)

  pub variable_typed : (q : Owned → Bool) (k : ℕ) (x : Name) (i : ℕ) → place_of (filter q (variables file)) k x ≡ Some i →
      types_in file k x ≡ Some (kind_type (get_or (filter q (variables file)) i nobody).var.kind)
  variable_typed q k x i e =
      ap (option_map thing_type) (thing_at q k x i e) ∙ ap Some (thing_typed (get_or (filter q (variables file)) i nobody).var)

  pub variable_known : (k : ℕ) (x : Name) → things.is_lasting (beside (global_thing file) (own_variables file k) x) ≡ true → KnownVariable k x
  variable_known k x h =
      let there = has_some (place_of (lasting file) k x) (has_column file k (names_at file checked k) x ∙ h) in
      record { number = there.0; stands_there = there.1; typed = variable_typed is_lasting k x there.0 there.1 }
