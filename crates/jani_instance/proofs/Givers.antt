-- Transient variables that are kept by what locations give to them are kept rightly.
use Rattle.std.specs.Prelude.{◌≡◌, ℕ, zero, suc, ◌+◌, ◌<◌, List, [], ◌∷◌, ◌++◌, map, length, take, drop, Bool, true, false, Option, Some, None, Result, nat_eq, slice_get, if◌then◌else◌}
use Rattle.std.specs.List.{AllZip, find, flat_map}
use Rattle.std.proofs.Common.{refl, sym, ap, ap₂, subst, ◌∙◌, arith, append-nil, eq-eqb}
use Rattle.std.proofs.lemmas.Bool.{ne_eqb}
use Rattle.std.proofs.lemmas.List.{map-append}
use Rattle.std.proofs.lemmas.List.Concat.{flat_map-append}
use Rattle.op_trees.specs.Seen.{Seen}
use Rattle.op_trees.specs.declared.tree.EvalFail.{EvalFail}
use Rattle.op_trees.specs.declared.tree.Value.{Value}
use Rattle.basics.specs.Options.{if_some}
use Rattle.process_core.specs.Ready.{Name}
use Rattle.process_core.specs.Instance.{Valuation, numbered, only_if}
use Rattle.process_core.specs.Product.{flat_map-flat_map, flat_map_agree, map-map}
use Rattle.state_choices.specs.Trimmed.{computed}
use Rattle.basics.specs.Mapped.{walked}
use Rattle.jani_tree.specs.Syntax as syntax
use Rattle.jani_tree.specs.Syntax.{Automaton, Expression, File, Location}
use Rattle.jani_check.specs.Faults.{IsChecked}
use Rattle.op_trees.specs.Names.{is_called}
use Rattle.jani_meaning.specs.Elements.{Owned, elements, labels, structures}
use Rattle.jani_meaning.specs.Moment.{given_in, may_give}
use Rattle.jani_meaning.specs.Scene.{constant_names, see}
use Rattle.jani_instance.specs.Built.{IsNamedTransientOf, given_from, location_from}
use Rattle.jani_instance.specs.Described.{mark_names}
use Rattle.jani_instance.specs.Shapes.{Giver, Lent, Transient, giver_as, giver_at, transient_at, tree_at}
use Rattle.jani_instance.specs.Transients.{AreGifts, gift_by, gifts_by, given_to, giver_by, takes_from, transient_by}
use Rattle.jani_instance.specs.Views.{first_else, giver_from, see_at}
use Rattle.jani_instance.specs.declared.data.Giver as code
use Rattle.jani_instance.specs.declared.data.Transient as code_transient
use Rattle.jani_instance.specs.declared.transients.Gifts.{Gifts}
use Rattle.jani_instance.proofs.Locations.{distinct, location_is}
use Rattle.jani_instance.proofs.Whole.{numbered_agree}

-- ---- lists of which the same comes first
first_append : {X : Type 0} (x : X) (l m : List X) → first_else x (l ++ m) ≡ first_else (first_else x m) l
first_append x [] m = refl
first_append x (y ∷ l) m = refl

firsts_numbered : {X Y : Type 0} (f g : ℕ → X → List Y) (i : ℕ) (xs : List X) →
    ((k : ℕ) (x : X) → slice_get xs k ≡ Some x → (y : Y) → first_else y (f (i + k) x) ≡ first_else y (g (i + k) x)) → (y : Y) → first_else y (numbered f i xs) ≡ first_else y (numbered g i xs)
firsts_numbered f g i [] h y = refl
firsts_numbered f g i (x ∷ xs) h y =
    let z = first_else y (numbered g (i + 1) xs) in
    first_append y (f i x) (numbered f (i + 1) xs)
    ∙ ap (λ w. first_else w (f i x))
    (firsts_numbered f g (i + 1) xs (λ k u e w. subst (λ n. first_else w (f n u) ≡ first_else w (g n u)) (let d : i + suc k ≡ i + 1 + k = omega arith in d) (h (suc k) u e w)) y)
    ∙ subst (λ n. first_else z (f n x) ≡ first_else z (g n x)) (let d : i + 0 ≡ i = omega arith in d) (h 0 x refl z)
    ∙ sym (first_append y (g i x) (numbered g (i + 1) xs))

-- ---- of lists with numbers, that of one number
abbrev of_one : {X Y : Type 0} → (X → List Y) → Option X → List Y
of_one f None = []
of_one f (Some x) = f x

none_later : {X Y : Type 0} (t a : ℕ) (f : X → List Y) (xs : List X) → t < a → numbered (λ n x. if nat_eq t n then f x else []) a xs ≡ []
none_later t a f [] h = refl
none_later t a f (x ∷ xs) h =
    ap₂ (λ (b : Bool) l. (if b then f x else []) ++ l) (ne_eqb t a (λ e. omega (arith, h, e))) (none_later t (a + 1) f xs (let d : t < a + 1 = omega (arith, h) in d))

picked : {X Y : Type 0} (t m a : ℕ) (f : X → List Y) (xs : List X) → t ≡ a + m → numbered (λ n x. if nat_eq t n then f x else []) a xs ≡ of_one f (slice_get xs m)
picked t m a f [] e = refl
picked t zero a f (x ∷ xs) e =
    ap₂ (λ (b : Bool) l. (if b then f x else []) ++ l) (eq-eqb t a (let d : t ≡ a = omega (arith, e) in d)) (none_later t (a + 1) f xs (let d : t < a + 1 = omega (arith, e) in d))
    ∙ append-nil (f x)
picked t (suc m) a f (x ∷ xs) e =
    ap (λ (b : Bool). (if b then f x else []) ++ numbered (λ n x. if nat_eq t n then f x else []) (a + 1) xs) (ne_eqb t a (λ d. omega (arith, e, d)))
    ∙ picked t m (a + 1) f xs (let d : t ≡ a + 1 + m = omega (arith, e) in d)

-- ---- of all elements
flat_numbered : {X Y Z : Type 0} (f : Y → List Z) (g : ℕ → X → List Y) (i : ℕ) (xs : List X) → flat_map f (numbered g i xs) ≡ numbered (λ n x. flat_map f (g n x)) i xs
flat_numbered f g i [] = refl
flat_numbered f g i (x ∷ xs) = flat_map-append f (g i x) (numbered g (i + 1) xs) ∙ ap (λ l. flat_map f (g i x) ++ l) (flat_numbered f g (i + 1) xs)

-- ---- what an element gives
abbrev pub gives_by : {X : Type 0} → (ℕ → X → Seen) → (ℕ → ℕ) → Giver X → List (Result Value EvalFail)
gives_by f at g = only_if (nat_eq (at g.element) g.location) (computed (f g.element g.value))

pub giver_seen : {E X : Type 0} (look : ℕ → E → X) (f : ℕ → X → Seen) (at : ℕ → ℕ) (g : code.Giver E) → giver_from (λ i e. f i (look i e)) at g ≡ gives_by f at (giver_as look g)
giver_seen look f at g = refl

-- expressions of the file, where names are seen so
abbrev seeing : (ℕ → Name → Seen) → ℕ → Expression → Seen
seeing names i e = see e (names i)

module _ (names : ℕ → Name → Seen) (at : ℕ → ℕ) (x : Name) where
  abbrev value_at : ℕ → syntax.Write → Result Value EvalFail
  value_at i w = computed (see w.value (names i))

  abbrev called_values : ℕ → Location → List (Result Value EvalFail)
  called_values i l = flat_map (λ w. only_if (is_called x w.target) (value_at i w)) l.values

  one_write : (i n : ℕ) (w : syntax.Write) → flat_map (gives_by (seeing names) at) (gift_by x i n w) ≡ (if nat_eq (at i) n then only_if (is_called x w.target) (value_at i w) else [])
  one_write i n w = by_test (is_called x w.target) (nat_eq (at i) n) refl
    where
      by_test : (b c : Bool) → nat_eq (at i) n ≡ c →
          flat_map (gives_by (seeing names) at) (only_if b (record { element = i; location = n; value = w.value })) ≡ (if c then only_if b (value_at i w) else [])
      by_test true true e = ap (λ t. only_if t (value_at i w) ++ []) e
      by_test true false e = ap (λ t. only_if t (value_at i w) ++ []) e
      by_test false true e = refl
      by_test false false e = refl

  pulled : (c : Bool) (f : syntax.Write → List (Result Value EvalFail)) (ws : List syntax.Write) → flat_map (λ w. if c then f w else []) ws ≡ (if c then flat_map f ws else [])
  pulled true f ws = refl
  pulled false f [] = refl
  pulled false f (w ∷ ws) = pulled false f ws

  one_location : (i n : ℕ) (l : Location) → flat_map (gives_by (seeing names) at) (flat_map (gift_by x i n) l.values) ≡ (if nat_eq (at i) n then called_values i l else [])
  one_location i n l =
      flat_map-flat_map (gives_by (seeing names) at) (gift_by x i n) l.values
      ∙ flat_map_agree _ (λ w. if nat_eq (at i) n then only_if (is_called x w.target) (value_at i w) else []) (one_write i n) l.values
      ∙ pulled (nat_eq (at i) n) (λ w. only_if (is_called x w.target) (value_at i w)) l.values

  one_element : (i : ℕ) (a : Automaton) → flat_map (gives_by (seeing names) at) (gifts_by x i a) ≡ of_one (called_values i) (slice_get a.locations (at i))
  one_element i a =
      flat_numbered (gives_by (seeing names) at) (λ n l. flat_map (gift_by x i n) l.values) 0 a.locations
      ∙ numbered_agree _ (λ n l. if nat_eq (at i) n then called_values i l else []) 0 a.locations (λ k l e. one_location i (0 + k) l)
      ∙ picked (at i) (at i) 0 (called_values i) a.locations (let d : at i ≡ 0 + at i = omega arith in d)

first_write : (x : Name) (f : syntax.Write → Result Value EvalFail) (y : Result Value EvalFail) (ws : List syntax.Write) →
    first_else y (flat_map (λ w. only_if (is_called x w.target) (f w)) ws) ≡ first_else y (map f (if_some (find (λ w. is_called x w.target) ws)))
first_write x f y [] = refl
first_write x f y (w ∷ ws) = by_test (is_called x w.target) (first_write x f y ws)
  where
    by_test : (b : Bool) → first_else y (flat_map (λ w. only_if (is_called x w.target) (f w)) ws) ≡ first_else y (map f (if_some (find (λ w. is_called x w.target) ws))) →
        first_else y (only_if b (f w) ++ flat_map (λ w. only_if (is_called x w.target) (f w)) ws) ≡ first_else y (map f (if_some (if b then Some w else find (λ w. is_called x w.target) ws)))
    by_test true ih = refl
    by_test false ih = ih

module _ (file : File) (v : Valuation) where
  same_taking : (i : ℕ) (owner : Option ℕ) → takes_from i owner ≡ may_give file v [] i owner
  same_taking i None = refl
  same_taking i (Some k) = refl

  at_location : (names : ℕ → Name → Seen) (at : ℕ → ℕ) (x : Name) (i : ℕ) (y : Result Value EvalFail) (o : Option Location) →
      first_else y (of_one (called_values names at x i) o) ≡ first_else y (map (λ w. computed (see w.value (names i))) (if_some (given_in file v [] x o)))
  at_location names at x i y None = refl
  at_location names at x i y (Some l) = first_write x (λ w. computed (see w.value (names i))) y l.values

  element_gives : (names : ℕ → Name → Seen) (at : ℕ → ℕ) (o : Owned) (i : ℕ) (a : Automaton) → location_from a (at i) ≡ slice_get a.locations (at i) → (y : Result Value EvalFail) →
      first_else y (flat_map (gives_by (seeing names) at) (giver_by o.owner o.var.name.name i a)) ≡ first_else y (given_from file v names at o i a)
  element_gives names at o i a h y = by_test (takes_from i o.owner) (may_give file v [] i o.owner) (same_taking i o.owner)
    where
      by_test : (b c : Bool) → b ≡ c →
          first_else y (flat_map (gives_by (seeing names) at) (if b then gifts_by o.var.name.name i a else []))
          ≡ first_else y (if c then map (λ w. computed (see w.value (names i))) (if_some (given_in file v [] o.var.name.name (location_from a (at i)))) else [])
      by_test true true e =
          ap (first_else y) (one_element names at o.var.name.name i a ∙ ap (of_one (called_values names at o.var.name.name i)) (sym h))
          ∙ at_location names at o.var.name.name i y (location_from a (at i))
      by_test true false e = absurd cc
      by_test false true e = absurd cc
      by_test false false e = refl

-- ---- what is kept of all of them
pub kept_as : (as_ : List Automaton) (g : Gifts) (owner : Option ℕ) (x : Name) → AreGifts as_ g → map giver_at (given_to g owner x) ≡ numbered (giver_by owner x) 0 as_
kept_as as_ g None x h = h.all x
kept_as as_ g (Some k) x h = h.own k x

pub same_transient : (n : Name) (s t : Result Value EvalFail) (l m : List (Giver Expression)) → s ≡ t → l ≡ m →
    ◌≡◌ {A = Transient Expression} (record { name = n; start = s; givers = l }) (record { name = n; start = t; givers = m })
same_transient n s t l m e f = cc

module _ (file : File) (v : Valuation) (checked : IsChecked file) where
  transient_is : (o : Owned) (t : code_transient.Transient Lent) → transient_at t ≡ transient_by (elements file) (constant_names file v) o → IsNamedTransientOf file v o t
  transient_is o t e =
      record {
        name = ap (λ (s : Transient Expression). s.name) e;
        start = ap (λ (s : Transient Expression). s.start) e;
        givers = λ names at h y.
            ap (first_else y)
            (sym (walked giver_at (gives_by (seeing names) at) (giver_from (λ i. see_at (names i)) at) (λ g. sym (giver_seen (λ i. tree_at) (seeing names) at g)) t.givers.items)
            ∙ ap (λ (s : Transient Expression). flat_map (gives_by (seeing names) at) s.givers) e
            ∙ flat_numbered (gives_by (seeing names) at) (giver_by o.owner o.var.name.name) 0 (elements file))
            ∙ firsts_numbered _ (given_from file v names at o) 0 (elements file)
            (λ k a p z. element_gives file v names at o (0 + k) a (location_is a (distinct file checked k a p) (at (0 + k))) z) y;
      }

  pub transients_are : (os : List Owned) (ts : List (code_transient.Transient Lent)) → map transient_at ts ≡ map (transient_by (elements file) (constant_names file v)) os → AllZip (IsNamedTransientOf file v) os ts
  transients_are [] [] e = tt
  transients_are [] (t ∷ ts) e = absurd cc
  transients_are (o ∷ os) [] e = absurd cc
  transients_are (o ∷ os) (t ∷ ts) e = (
    transient_is o t (let d : transient_at t ≡ transient_by (elements file) (constant_names file v) o = cc in d),
    transients_are os ts (let d : map transient_at ts ≡ map (transient_by (elements file) (constant_names file v)) os = cc in d),
  )

-- ---- the labels, then the reward structures
module _ (file : File) (v : Valuation) (ts : List (code_transient.Transient Lent)) where
  abbrev by : Owned → Transient Expression
  by = transient_by (elements file) (constant_names file v)

  taken_first : (n : ℕ) (os more : List Owned) (us : List (code_transient.Transient Lent)) → n ≡ length os → map transient_at us ≡ map by os ++ map by more → map transient_at (take n us) ≡ map by os
  taken_first zero [] more us e h = refl
  taken_first (suc n) [] more us e h = absurd (omega (arith, e))
  taken_first zero (o ∷ os) more us e h = absurd (let d : zero ≡ suc (length os) = e in omega (arith, d))
  taken_first (suc n) (o ∷ os) more [] e h = absurd cc
  taken_first (suc n) (o ∷ os) more (u ∷ us) e h =
      ap₂ (λ x l. x ∷ l) (let d : transient_at u ≡ by o = cc in d)
      (taken_first n os more us (let d : suc n ≡ suc (length os) = e in let q : n ≡ length os = omega (arith, d) in q) (let d : map transient_at us ≡ map by os ++ map by more = cc in d))

  left_rest : (n : ℕ) (os more : List Owned) (us : List (code_transient.Transient Lent)) → n ≡ length os → map transient_at us ≡ map by os ++ map by more → map transient_at (drop n us) ≡ map by more
  left_rest zero [] more us e h = h
  left_rest (suc n) [] more us e h = absurd (omega (arith, e))
  left_rest zero (o ∷ os) more us e h = absurd (let d : zero ≡ suc (length os) = e in omega (arith, d))
  left_rest (suc n) (o ∷ os) more [] e h = absurd cc
  left_rest (suc n) (o ∷ os) more (u ∷ us) e h =
      left_rest n os more us (let d : suc n ≡ suc (length os) = e in let q : n ≡ length os = omega (arith, d) in q) (let d : map transient_at us ≡ map by os ++ map by more = cc in d)

  pub first_are : (n : ℕ) → n ≡ length (labels file) → map transient_at ts ≡ map by (labels file) ++ map by (structures file) → map transient_at (take n ts) ≡ map by (labels file)
  first_are n e h = taken_first n (labels file) (structures file) ts e h

  pub rest_are : (n : ℕ) → n ≡ length (labels file) → map transient_at ts ≡ map by (labels file) ++ map by (structures file) → map transient_at (drop n ts) ≡ map by (structures file)
  rest_are n e h = left_rest n (labels file) (structures file) ts e h

  pub names_are : map transient_at ts ≡ map by (labels file) ++ map by (structures file) → map (λ t. t.name.now) ts ≡ mark_names file
  names_are h =
      sym (map-map (λ (t : Transient Expression). t.name) transient_at ts)
      ∙ ap (map (λ (t : Transient Expression). t.name)) h
      ∙ map-append (λ (t : Transient Expression). t.name) (map by (labels file)) (map by (structures file))
      ∙ ap₂ (λ a b. a ++ b) (map-map (λ (t : Transient Expression). t.name) by (labels file)) (map-map (λ (t : Transient Expression). t.name) by (structures file))
