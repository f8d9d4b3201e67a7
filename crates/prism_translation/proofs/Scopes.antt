-- What a name stands for in an element: by the checks of names, and by its places among the variables.
use Rattle.std.specs.Prelude.{◌≡◌, ℕ, zero, suc, ◌+◌, ◌<◌, List, [], ◌∷◌, map, Bool, true, false, not, ◌&&◌, ◌||◌, Option, Some, None, is_some, nat_eq, slice_get, unwrap_or}
use Rattle.std.specs.List.{filter, list_any, position, AllByRecursion as OfAll}
use Rattle.std.specs.Option.{option_map, option_or as or_else}
use Rattle.std.proofs.Common.{refl, sym, ap, ap₂, ◌∙◌, arith, inl, inr, eq-eqb}
use Rattle.std.proofs.lemmas.Bool.{ne_eqb, or_parts, or_left, both_ways, false_from_ne_true}
use Rattle.std.proofs.lemmas.List.Folds.{list_any-append}
use Rattle.std.proofs.Math.Bool.{and-false, or-false}
use Rattle.basics.specs.Options.{is_some-or, none_of, has_some}
use Rattle.basics.specs.Members.{is_some-position}
use Rattle.basics.specs.Each.{each_then, each_with, map_each}
use Rattle.bridge_io.specs.declared.reason.Named.{Named}
use Rattle.choice_laws.proofs.Walks.{any-filter}
use Rattle.process_core.specs.Instance.{numbered}
use Rattle.jani_tree.specs.Syntax.{VarKind, boolean, integer, number, real_bounded, one_sided, bounded, Const, Var, Automaton, File}
use Rattle.basics.specs.Mapped.{any_mapped}
use Rattle.jani_check.specs.Things.{Name, is_called, const_thing, var_thing, const_called, var_called, global_thing, beside, is_transient, is_reward}
use Rattle.jani_check.specs.Things as checked
use Rattle.jani_check.specs.NameFaults.{is_among, var_names, global_names}
use Rattle.jani_check.specs.TypeFaults.{is_variable}
use Rattle.jani_check.proofs.Known.{found as found-some}
use Rattle.jani_meaning.specs.Elements.{elements, Owned, owned_by, variables, is_boolean, lasting, is_own, is_global, place_of, structure_number}
use Rattle.prism_translation.specs.Sound.{IsConstant, IsKnown}
use Rattle.prism_translation.proofs.Distinct.{AreDistinct, AreNew, not_among, tested, held, none_held, held_found, found_itself}

-- ---- variables of an element
abbrev pub vars_of : Option Automaton → List Var
vars_of o = unwrap_or (option_map (λ a. a.variables) o) []

-- those of the element of this number
abbrev pub own_vars : File → ℕ → List Var
own_vars file k = vars_of (slice_get (elements file) k)

abbrev pub held_by : (Var → Bool) → Name → List Var → Bool
held_by = held (λ v. v.name)

module _ (q : Var → Bool) (x : Name) where
  -- of one owner
  owned_any : (p : Owned → Bool) (o : Option ℕ) (vars : List Var) → list_any p (owned_by o vars) ≡ list_any (λ v. p (record { owner = o; var = v })) vars
  owned_any p o vars = any_mapped (λ v. record { owner = o; var = v }) p (λ v. p (record { owner = o; var = v })) (λ v. refl) vars

  of_owner : (b : Bool) (vars : List Var) → list_any (λ v. q v && (b && is_called x v.name)) vars ≡ (b && held_by q x vars)
  of_owner true vars = refl
  of_owner false [] = refl
  of_owner false (v ∷ vs) = ap (λ b. b || list_any (λ v. q v && false) vs) (and-false (q v)) ∙ of_owner false vs

  abbrev blocks : ℕ → List Automaton → List Owned
  blocks i as_ = numbered (λ i a. owned_by (Some i) a.variables) i as_

  -- elements of later numbers
  later_none : (i k : ℕ) → k < i → (as_ : List Automaton) → list_any (λ o. q o.var && is_own k x o) (blocks i as_) ≡ false
  later_none i k l [] = refl
  later_none i k l (a ∷ rest) =
      list_any-append (λ o. q o.var && is_own k x o) (owned_by (Some i) a.variables) (blocks (i + 1) rest)
      ∙ ap₂ (λ b c. b || c)
      (owned_any (λ o. q o.var && is_own k x o) (Some i) a.variables ∙ of_owner (nat_eq k i) a.variables ∙ ap (λ b. b && held_by q x a.variables) (ne_eqb k i (λ e. omega arith)))
      (later_none (i + 1) k (omega arith) rest)

  own_from : (i j k : ℕ) → k ≡ i + j → (as_ : List Automaton) → list_any (λ o. q o.var && is_own k x o) (blocks i as_) ≡ held_by q x (vars_of (slice_get as_ j))
  own_from i j k e [] = refl
  own_from i zero k e (a ∷ rest) =
      list_any-append (λ o. q o.var && is_own k x o) (owned_by (Some i) a.variables) (blocks (i + 1) rest)
      ∙ ap₂ (λ b c. b || c)
      (owned_any (λ o. q o.var && is_own k x o) (Some i) a.variables ∙ of_owner (nat_eq k i) a.variables ∙ ap (λ b. b && held_by q x a.variables) (eq-eqb k i (omega arith)))
      (later_none (i + 1) k (omega arith) rest)
      ∙ or-false (held_by q x a.variables)
  own_from i (suc j) k e (a ∷ rest) =
      list_any-append (λ o. q o.var && is_own k x o) (owned_by (Some i) a.variables) (blocks (i + 1) rest)
      ∙ ap₂ (λ b c. b || c)
      (owned_any (λ o. q o.var && is_own k x o) (Some i) a.variables ∙ of_owner (nat_eq k i) a.variables ∙ ap (λ b. b && held_by q x a.variables) (ne_eqb k i (λ f. omega arith)))
      (own_from (i + 1) j k (omega arith) rest)

  no_global : (i : ℕ) (as_ : List Automaton) → list_any (λ o. q o.var && is_global x o) (blocks i as_) ≡ false
  no_global i [] = refl
  no_global i (a ∷ rest) =
      list_any-append (λ o. q o.var && is_global x o) (owned_by (Some i) a.variables) (blocks (i + 1) rest)
      ∙ ap₂ (λ b c. b || c) (owned_any (λ o. q o.var && is_global x o) (Some i) a.variables ∙ of_owner false a.variables) (no_global (i + 1) rest)

  module _ (file : File) (k : ℕ) where
    own_any : list_any (λ o. q o.var && is_own k x o) (variables file) ≡ held_by q x (own_vars file k)
    own_any =
        list_any-append (λ o. q o.var && is_own k x o) (owned_by None file.variables) (blocks 0 (elements file))
        ∙ ap₂ (λ b c. b || c) (owned_any (λ o. q o.var && is_own k x o) None file.variables ∙ of_owner false file.variables)
        (own_from 0 k k (omega arith) (elements file))

    global_any : list_any (λ o. q o.var && is_global x o) (variables file) ≡ held_by q x file.variables
    global_any =
        list_any-append (λ o. q o.var && is_global x o) (owned_by None file.variables) (blocks 0 (elements file))
        ∙ ap₂ (λ b c. b || c) (owned_any (λ o. q o.var && is_global x o) None file.variables ∙ of_owner true file.variables) (no_global 0 (elements file))
        ∙ or-false (held_by q x file.variables)

    -- the name has a place among such variables
    pub has_place : is_some (place_of (filter (λ o. q o.var) (variables file)) k x) ≡ (held_by q x (own_vars file k) || held_by q x file.variables)
    has_place =
        let vars = filter (λ o. q o.var) (variables file) in
        is_some-or (position (is_own k x) vars) (position (is_global x) vars)
        ∙ ap₂ (λ b c. b || c)
        (is_some-position (is_own k x) vars ∙ any-filter (is_own k x) (λ o. q o.var) (variables file) ∙ own_any)
        (is_some-position (is_global x) vars ∙ any-filter (is_global x) (λ o. q o.var) (variables file) ∙ global_any)

-- ---- things
abbrev pub const_names : File → List Named
const_names file = map (λ c. c.name) file.constants

-- Constants, global variables and these own ones have names of their own.
pub record NamesApart (file : File) (own : List Var) : Type 0 where
  pub constants : AreDistinct (const_names file)
  pub globals : AreDistinct (var_names file.variables)
  pub own_once : AreDistinct (var_names own)
  pub outside : AreNew (var_names file.variables) (const_names file)
  pub inside : AreNew (global_names file) (var_names own)

module _ (file : File) (own : List Var) (apart : NamesApart file own) where
  is_const : (x : Name) → is_some (const_called file x) ≡ is_among (const_names file) x
  is_const x = found-some (λ c. is_called x c.name) file.constants ∙ sym (any_mapped (λ c. c.name) (is_called x) (λ c. is_called x c.name) (λ c. refl) file.constants)

  is_var : (vars : List Var) (x : Name) → is_some (var_called vars x) ≡ is_among (var_names vars) x
  is_var vars x = found-some (λ v. is_called x v.name) vars ∙ sym (any_mapped (λ v. v.name) (is_called x) (λ v. is_called x v.name) (λ v. refl) vars)

  among_global : (x : Name) → is_among (global_names file) x ≡ (is_among (const_names file) x || is_among (var_names file.variables) x)
  among_global x = list_any-append (is_called x) (const_names file) (var_names file.variables)

  own_lacks : (x : Name) → is_among (global_names file) x ≡ true → is_among (var_names own) x ≡ false
  own_lacks x h = false_from_ne_true (is_among (var_names own) x) (λ k. both_ways (is_among (global_names file) x) (not_among (global_names file) (var_names own) apart.inside x k) h)

  -- each variable stands for itself
  pub global_stands : OfAll (λ v. global_thing file v.name.name ≡ Some (var_thing v)) file.variables
  global_stands =
      each_then (λ v. var_called file.variables v.name.name ≡ Some v) (λ v. global_thing file v.name.name ≡ Some (var_thing v))
      (λ v f.
      let x = v.name.name in
      let here : is_among (var_names file.variables) x ≡ true = sym (is_var file.variables x) ∙ ap is_some f in
      let none = false_from_ne_true (is_among (const_names file) x) (λ h. both_ways (is_among (var_names file.variables) x) (not_among (var_names file.variables) (const_names file) apart.outside x h) here) in
      ap₂ (λ c o. or_else (option_map const_thing c) (option_map var_thing o)) (none_of (const_called file x) (is_const x ∙ none)) f)
      file.variables (found_itself (λ v. v.name) file.variables apart.globals)

  pub own_stands : OfAll (λ v. beside (global_thing file) own v.name.name ≡ Some (var_thing v)) own
  own_stands =
      each_with (λ v. is_among (global_names file) v.name.name ≡ false) (λ v. var_called own v.name.name ≡ Some v) (λ v. beside (global_thing file) own v.name.name ≡ Some (var_thing v))
      (λ v d f.
      let x = v.name.name in
      let p = or_parts (is_among (const_names file) x) (is_among (var_names file.variables) x) (sym (among_global x) ∙ d) in
      ap₂ (λ g o. or_else g (option_map var_thing o))
      (ap₂ (λ c o. or_else (option_map const_thing c) (option_map var_thing o)) (none_of (const_called file x) (is_const x ∙ p.0)) (none_of (var_called file.variables x) (is_var file.variables x ∙ p.1))) f)
      own (map_each (λ n. is_among (global_names file) n.name ≡ false) (λ v. v.name) own apart.inside) (found_itself (λ v. v.name) own apart.own_once)

  -- by whatever constants and variables are
  module _ {X : Type 0} (of_const : Const → X) (of_var : Var → X) where
    abbrev either : Option Const → Option Var → Option Var → Option X
    either c g o = or_else (or_else (option_map of_const c) (option_map of_var g)) (option_map of_var o)

    module _ (test : Option X → Bool) (nothing : test None ≡ false) (no_const : (c : Const) → test (Some (of_const c)) ≡ false) where
      abbrev passes : Var → Bool
      passes v = test (Some (of_var v))

      of_own : (o : Option Var) → test (option_map of_var o) ≡ tested (λ (v : Var). v.name) passes o
      of_own None = nothing
      of_own (Some v) = refl

      -- a test of what a name stands for is one of the variables
      pub thing_held : (x : Name) → test (either (const_called file x) (var_called file.variables x) (var_called own x)) ≡ (held_by passes x own || held_by passes x file.variables)
      thing_held x = by_const (const_called file x) refl
        where
          globals_are : held_by passes x file.variables ≡ tested (λ (v : Var). v.name) passes (var_called file.variables x)
          globals_are = held_found (λ v. v.name) passes x file.variables apart.globals

          by_global : (g : Option Var) → var_called file.variables x ≡ g → const_called file x ≡ None → test (either None g (var_called own x)) ≡ (held_by passes x own || held_by passes x file.variables)
          by_global None e f =
              of_own (var_called own x) ∙ sym (held_found (λ v. v.name) passes x own apart.own_once)
              ∙ sym (ap (λ b. held_by passes x own || b) (globals_are ∙ ap (tested (λ (v : Var). v.name) passes) e) ∙ or-false (held_by passes x own))
          by_global (Some v) e f =
              let known : is_among (global_names file) x ≡ true =
              among_global x ∙ ap₂ (λ a b. a || b) (sym (is_const x) ∙ ap is_some f) (sym (is_var file.variables x) ∙ ap is_some e) in
              sym (ap₂ (λ a b. a || b) (none_held (λ v. v.name) passes x own (own_lacks x known)) (globals_are ∙ ap (tested (λ (v : Var). v.name) passes) e))

          by_const : (c : Option Const) → const_called file x ≡ c → test (either c (var_called file.variables x) (var_called own x)) ≡ (held_by passes x own || held_by passes x file.variables)
          by_const None e = by_global (var_called file.variables x) refl e
          by_const (Some c) e =
              let constant : is_among (const_names file) x ≡ true = sym (is_const x) ∙ ap is_some e in
              let known : is_among (global_names file) x ≡ true = among_global x ∙ or_left _ (is_among (var_names file.variables) x) constant in
              no_const c
              ∙ sym (ap₂ (λ a b. a || b) (none_held (λ v. v.name) passes x own (own_lacks x known))
              (none_held (λ v. v.name) passes x file.variables (not_among (var_names file.variables) (const_names file) apart.outside x constant)))

    some-else : (a b : Option X) → is_some (or_else a b) ≡ (is_some a || is_some b)
    some-else None b = refl
    some-else (Some x) b = refl

    some-map : {A : Type 0} (f : A → X) (o : Option A) → is_some (option_map f o) ≡ is_some o
    some-map f None = refl
    some-map f (Some x) = refl

    -- a known name stands for something
    pub known_stands : (x : Name) → is_some (either (const_called file x) (var_called file.variables x) (var_called own x)) ≡ (is_among (global_names file) x || is_among (var_names own) x)
    known_stands x =
        some-else (or_else (option_map of_const (const_called file x)) (option_map of_var (var_called file.variables x))) (option_map of_var (var_called own x))
        ∙ ap₂ (λ a b. a || b)
        (some-else (option_map of_const (const_called file x)) (option_map of_var (var_called file.variables x))
        ∙ ap₂ (λ a b. a || b) (some-map of_const (const_called file x) ∙ is_const x) (some-map of_var (var_called file.variables x) ∙ is_var file.variables x)
        ∙ sym (among_global x))
        (some-map of_var (var_called own x) ∙ is_var own x)

    -- and for a constant, where it stands for no variable
    pub constant_found : (test : Option X → Bool) → ((v : Var) → test (Some (of_var v)) ≡ true) → (c : Option Const) (g o : Option Var) → is_some (either c g o) ≡ true → test (either c g o) ≡ false → is_some c ≡ true
    constant_found test h None None None s t = s
    constant_found test h None None (Some v) s t = absurd (both_ways _ t (h v))
    constant_found test h None (Some v) o s t = absurd (both_ways _ t (h v))
    constant_found test h (Some c) g o s t = refl

-- ---- which variables they are
pub lasting_test : (v : Var) → checked.is_lasting (Some (var_thing v)) ≡ not v.transient
lasting_test v = by_test v.transient
  where
    by_test : (b : Bool) → checked.is_lasting (Some (var_thing (record v { transient = b }))) ≡ not b
    by_test true = refl
    by_test false = refl

pub reward_test : (v : Var) → is_reward (Some (var_thing v)) ≡ (v.transient && not (is_boolean v.kind))
reward_test v = by_test v.transient v.kind
  where
    by_test : (b : Bool) (k : VarKind) → is_reward (Some (var_thing (record v { transient = b; kind = k }))) ≡ (b && not (is_boolean k))
    by_test true boolean = refl
    by_test true integer = refl
    by_test true number = refl
    by_test true real_bounded = refl
    by_test true one_sided = refl
    by_test true (bounded low high) = refl
    by_test false k = refl

pub variable_test : (v : Var) → is_variable (Some (var_thing v)) ≡ true
variable_test v = by_test v.transient
  where
    by_test : (b : Bool) → is_variable (Some (var_thing (record v { transient = b }))) ≡ true
    by_test true = refl
    by_test false = refl

module _ (file : File) (k : ℕ) (apart : NamesApart file (own_vars file k)) where
  -- what names stand for in the element
  abbrev is_lasting_name : Name → Bool
  is_lasting_name x = checked.is_lasting (beside (global_thing file) (own_vars file k) x)

  abbrev pub is_reward_name : Name → Bool
  is_reward_name x = is_reward (beside (global_thing file) (own_vars file k) x)

  abbrev pub is_transient_name : Name → Bool
  is_transient_name x = is_transient (beside (global_thing file) (own_vars file k) x)

  abbrev pub is_variable_name : Name → Bool
  is_variable_name x = is_variable (beside (global_thing file) (own_vars file k) x)

  agree : (p q : Var → Bool) → ((v : Var) → p v ≡ q v) → (x : Name) (vars : List Var) → held_by p x vars ≡ held_by q x vars
  agree p q h x [] = refl
  agree p q h x (v ∷ vs) = ap₂ (λ a b. (a && is_called x v.name) || b) (h v) (agree p q h x vs)

  pub has_column : (x : Name) → is_some (place_of (lasting file) k x) ≡ is_lasting_name x
  has_column x =
      has_place (λ v. not v.transient) x file k
      ∙ ap₂ (λ a b. a || b)
      (agree (λ v. not v.transient) (λ v. checked.is_lasting (Some (var_thing v))) (λ v. sym (lasting_test v)) x (own_vars file k))
      (agree (λ v. not v.transient) (λ v. checked.is_lasting (Some (var_thing v))) (λ v. sym (lasting_test v)) x file.variables)
      ∙ sym (thing_held file (own_vars file k) apart const_thing var_thing checked.is_lasting refl (λ c. refl) x)

  -- a name has the number of a structure where it is a reward's
  pub has_number : (x : Name) → is_some (structure_number file k x) ≡ is_reward_name x
  has_number x =
      has_place (λ v. v.transient && not (is_boolean v.kind)) x file k
      ∙ ap₂ (λ a b. a || b)
      (agree (λ v. v.transient && not (is_boolean v.kind)) (λ v. is_reward (Some (var_thing v))) (λ v. sym (reward_test v)) x (own_vars file k))
      (agree (λ v. v.transient && not (is_boolean v.kind)) (λ v. is_reward (Some (var_thing v))) (λ v. sym (reward_test v)) x file.variables)
      ∙ sym (thing_held file (own_vars file k) apart const_thing var_thing is_reward refl (λ c. refl) x)

  abbrev pub is_known_name : Name → Bool
  is_known_name x = is_among (global_names file) x || is_among (var_names (own_vars file k)) x

  pub constant_name : (x : Name) → is_known_name x ≡ true → is_variable_name x ≡ false → IsConstant file k x
  constant_name x known h =
      let parts = or_parts (is_lasting_name x) (is_transient_name x) h in
      let found = has_some (position (λ d. is_called x d.name) file.constants)
      (is_some-position (λ d. is_called x d.name) file.constants ∙ sym (found-some (λ d. is_called x d.name) file.constants)
      ∙ constant_found file (own_vars file k) apart const_thing var_thing is_variable variable_test (const_called file x) (var_called file.variables x) (var_called (own_vars file k) x)
      (known_stands file (own_vars file k) apart const_thing var_thing x ∙ known) h) in
      record { no_variable = none_of (place_of (lasting file) k x) (has_column x ∙ parts.0); number = found.0; stands_there = found.1 }

  pub known_name : (x : Name) → is_known_name x ≡ true → is_transient_name x ≡ false → IsKnown file k x
  known_name x known h = by_test (is_lasting_name x) refl
    where
      by_test : (b : Bool) → is_lasting_name x ≡ b → IsKnown file k x
      by_test true e = let there = has_some (place_of (lasting file) k x) (has_column x ∙ e) in inr (record { number = there.0; stands_there = there.1 })
      by_test false e = inl (constant_name x known (ap₂ (λ a b. a || b) e h))
