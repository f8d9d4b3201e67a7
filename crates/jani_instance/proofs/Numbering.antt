-- Tables of actions and lists by number, one more of a list each; and the parts of an element by the numbers of its actions.
use Rattle.std.specs.Prelude.{◌≡◌, ℕ, zero, suc, ◌+◌, ◌<◌, List, [], ◌∷◌, ◌++◌, map, length, take, get_or, Bool, true, false, Option, Some, None, is_some, nat_eq, bytes_eq, not, cond, slice_get, unwrap_or, if◌then◌else◌}
use Rattle.std.specs.List.{AllZip, filter, flat_map, list_any, position, position_or_len, range_with_len}
use Rattle.std.proofs.Common.{◌⊎◌, inl, inr, refl, sym, ap, ap₂, subst, ◌∙◌, arith, length-append, append-nil}
use Rattle.std.proofs.lemmas.List.{map-append}
use Rattle.std.proofs.lemmas.List.Concat.{flat_map-append}
use Rattle.std.proofs.lemmas.Bool.{eqb-true}
use Rattle.std.proofs.lemmas.List.Elements.{All-head, All-tail, filter_agree}
use Rattle.std.proofs.lemmas.Option.{slice_get-get_or}
use Rattle.std.specs.Option.{option_map, option_or}
use Rattle.std.specs.List.{All}
use Rattle.basics.specs.Booleans.{same_test}
use Rattle.basics.specs.Members.{is_some-position, position_cons}
use Rattle.basics.specs.Numbers.{nat_eq-self}
use Rattle.basics.specs.Options.{none_of, if_some}
use Rattle.basics.specs.Texts.{bytes_eq-self, bytes_eq-true, bytes_eq_comm}
use Rattle.gathering.proofs.Loops.{taken}
use Rattle.name_rules.specs.Names.{put, under}
use Rattle.process_core.specs.Equal.{IsEquality}
use Rattle.process_core.specs.Zip.{AllZip-append}
use Rattle.process_core.specs.Ready.{Name, firsts, same_label}
use Rattle.process_core.proofs.Targets.{Distinct, firsts_distinct, firsts_more}
use Rattle.jani_tree.specs.declared.syntax.JaniEdge.{JaniEdge}
use Rattle.jani_tree.specs.Syntax.{Edge, edge_of}
use Rattle.bridge_io.specs.declared.reason.Named.{Named}
use Rattle.jani_instance.specs.Actions.{AreNumbered, action_of, actions_among, acts_as, is_number, number_in, with_action}
use Rattle.jani_instance.specs.Built.{acts_with}
use Rattle.jani_instance.specs.declared.acting.ActionTable.{ActionTable}
use Rattle.jani_instance.proofs.Placed.{position_snoc}

-- ---- names that are equal
pub names_equal : IsEquality bytes_eq
names_equal x y = (bytes_eq-true x y, λ e. subst (λ z. bytes_eq x z ≡ true) e (bytes_eq-self x))

-- ---- a table of actions
-- an action that is there
pub kept_action : (t : ActionTable) (x : Name) (l : List Name) → AreNumbered l t → is_some (under t.numbers x) ≡ true → AreNumbered (with_action x l) t
kept_action t x l h g =
    let e : list_any (bytes_eq x) l ≡ true = sym (is_some-position (bytes_eq x) l) ∙ ap is_some (sym (h.numbers x)) ∙ g in
    subst (λ b. AreNumbered (if b then l else l ++ x ∷ []) t) (sym e) h

kept_place : (o : Option ℕ) → o ≡ option_or o None
kept_place None = refl
kept_place (Some k) = refl

-- and one that isn't
pub more_action : (t u : ActionTable) (x : Name) (l : List Name) → AreNumbered l t → is_some (under t.numbers x) ≡ false → u.count ≡ t.count + 1 →
    under u.numbers ≡ put (under t.numbers) x t.count → AreNumbered (with_action x l) u
more_action t u x l h g n p =
    let e : list_any (bytes_eq x) l ≡ false = sym (is_some-position (bytes_eq x) l) ∙ ap is_some (sym (h.numbers x)) ∙ g in
    subst (λ b. AreNumbered (if b then l else l ++ x ∷ []) u) (sym e)
    (record {
      count = n ∙ ap (λ k. k + 1) h.count ∙ sym (length-append l (x ∷ []));
      numbers = λ y. ap (λ f. f y) p ∙ by_test y (bytes_eq x y) refl ∙ sym (position_snoc (bytes_eq y) l x);
    })
  where
    by_test : (y : Name) (b : Bool) → bytes_eq x y ≡ b → (if b then Some t.count else under t.numbers y) ≡ option_or (position (bytes_eq y) l) (if bytes_eq y x then Some (length l) else None)
    by_test y true e =
        ap Some h.count
        ∙ sym (ap₂ (λ o b. option_or o (if b then Some (length l) else None)) (sym (h.numbers y) ∙ ap (under t.numbers) (sym (bytes_eq-true x y e)) ∙ none_of (under t.numbers x) g) (bytes_eq_comm y x ∙ e))
    by_test y false e =
        h.numbers y ∙ kept_place (position (bytes_eq y) l) ∙ ap (λ b. option_or (position (bytes_eq y) l) (if b then Some (length l) else None)) (sym (bytes_eq_comm y x ∙ e))

abbrev added : Option Name → List Name → List Name
added None l = l
added (Some x) l = with_action x l

added_is : (l : List Name) (o : Option Name) → firsts bytes_eq (l ++ if_some o) ≡ added o (firsts bytes_eq l)
added_is l None = ap (firsts bytes_eq) (append-nil l)
added_is l (Some x) = firsts_more bytes_eq names_equal l x

-- the actions of one edge more
pub among_more : (xs : List JaniEdge) (i : ℕ) (e : JaniEdge) → i < length xs → e ≡ get_or xs i e → (o : Option Name) → action_of (edge_of e) ≡ o →
    actions_among (map edge_of (take (i + 1) xs)) ≡ added o (actions_among (map edge_of (take i xs)))
among_more xs i e h g o k =
    ap (λ l. actions_among (map edge_of l)) (taken xs i e h g)
    ∙ ap actions_among (map-append edge_of (take i xs) (e ∷ []))
    ∙ ap (firsts bytes_eq) (flat_map-append (λ (d : Edge). if_some (action_of d)) (map edge_of (take i xs)) (edge_of e ∷ []) ∙ ap (λ l. names ++ l) (append-nil (if_some (action_of (edge_of e))) ∙ ap if_some k))
    ∙ added_is names o
  where
    names : List Name
    names = flat_map (λ (d : Edge). if_some (action_of d)) (map edge_of (take i xs))

-- ---- lists that grow
-- one more pair
pub zip_more : {A B C : Type 0} (R : B → C → Type 0) (s : A → B) (xs : List A) (i : ℕ) (x : A) (old new : List C) (y : C) → i < length xs → x ≡ get_or xs i x →
    AllZip R (map s (take i xs)) old → new ≡ old ++ y ∷ [] → R (s x) y → AllZip R (map s (take (i + 1) xs)) new
zip_more R s xs i x old new y h e so_far pushed here =
    subst (λ l. AllZip R (map s l) new) (sym (taken xs i x h e))
    (subst (λ l. AllZip R l new) (sym (map-append s (take i xs) (x ∷ []))) (subst (AllZip R (map s (take i xs) ++ s x ∷ [])) (sym pushed) (AllZip-append R (map s (take i xs)) (s x ∷ []) old (y ∷ []) so_far (here, tt))))

pub zip_at : {A B : Type 0} (R : A → B → Type 0) (xs : List A) (ys : List B) (i : ℕ) (x : A) (y : B) → AllZip R xs ys → slice_get xs i ≡ Some x → slice_get ys i ≡ Some y → R x y
zip_at R [] [] i x y h e g = absurd cc
zip_at R [] (w ∷ ys) i x y h e g = absurd h
zip_at R (z ∷ xs) [] i x y h e g = absurd h
zip_at R (z ∷ xs) (w ∷ ys) zero x y h e g =
    let d : z ≡ x = cc in
    let f : w ≡ y = cc in
    subst (λ a. R a y) d (subst (R z) f h.0)
zip_at R (z ∷ xs) (w ∷ ys) (suc i) x y h e g = zip_at R xs ys i x y h.1 e g

pub got_at : {A : Type 0} (xs : List A) (i : ℕ) (x : A) → i < length xs → x ≡ get_or xs i x → slice_get xs i ≡ Some x
got_at xs i x h e = slice_get-get_or xs i x h ∙ ap Some (sym e)

-- one more of those that are built
pub built_more : {A E : Type 0} (P : ℕ → A → E → Type 0) (as_ : List A) (old new : List E) (i : ℕ) (a : A) (e : E) → length old ≡ i → slice_get as_ i ≡ Some a →
    ((k : ℕ) (b : A) (d : E) → slice_get as_ k ≡ Some b → slice_get old k ≡ Some d → P k b d) → P i a e → new ≡ old ++ e ∷ [] →
    (k : ℕ) (b : A) (d : E) → slice_get as_ k ≡ Some b → slice_get new k ≡ Some d → P k b d
built_more P as_ old new i a e count here so_far made pushed k b d at got =
    by_place (pushed_at old e k d (ap (λ l. slice_get l k) (sym pushed) ∙ got))
  where
    pushed_at : {E : Type 0} (xs : List E) (y : E) (k : ℕ) (d : E) → slice_get (xs ++ y ∷ []) k ≡ Some d → (slice_get xs k ≡ Some d) ⊎ ((k ≡ length xs) × (y ≡ d))
    pushed_at [] y zero d g = inr (refl, (let q : y ≡ d = cc in q))
    pushed_at [] y (suc k) d g = absurd cc
    pushed_at (x ∷ xs) y zero d g = inl g
    pushed_at (x ∷ xs) y (suc k) d g = elim (pushed_at xs y k d g) [ inl q ↦ inl q | inr q ↦ inr (ap suc q.0, q.1) ]

    by_place : (slice_get old k ≡ Some d) ⊎ ((k ≡ length old) × (e ≡ d)) → P k b d
    by_place (inl g) = so_far k b d at g
    by_place (inr g) =
        let n : k ≡ i = g.0 ∙ count in
        let f : a ≡ b = let q : Some a ≡ Some b = sym here ∙ ap (slice_get as_) (sym n) ∙ at in cc in
        subst (λ m. P m b d) (sym n) (subst (λ c. P i c d) f (subst (P i a) g.1 made))

-- ---- parts by the numbers of actions
-- the first place that passes, or the length
place_or : {A : Type 0} (p : A → Bool) (xs : List A) → unwrap_or (position p xs) (length xs) ≡ position_or_len p xs
place_or p [] = refl
place_or p (x ∷ xs) = ap (λ o. unwrap_or o (suc (length xs))) (position_cons p x xs) ∙ by_test (p x) (place_or p xs)
  where
    later : (o : Option ℕ) (n m : ℕ) → unwrap_or o n ≡ m → unwrap_or (option_map suc o) (suc n) ≡ 1 + m
    later None n m e = let d : suc n ≡ 1 + m = omega (arith, e) in d
    later (Some k) n m e = let d : suc k ≡ 1 + m = omega (arith, e) in d

    by_test : (b : Bool) → unwrap_or (position p xs) (length xs) ≡ position_or_len p xs →
        unwrap_or (cond b (Some 0) (option_map suc (position p xs))) (suc (length xs)) ≡ cond (not b) (1 + position_or_len p xs) 0
    by_test true e = refl
    by_test false e = later (position p xs) (length xs) (position_or_len p xs) e

pub number_is : (t : ActionTable) (l : List Name) → AreNumbered l t → (x : Name) → number_in t x ≡ position_or_len (bytes_eq x) l
number_is t l h x = ap₂ (λ o n. unwrap_or o n) (h.numbers x) h.count ∙ place_or (bytes_eq x) l

all_got : {A : Type 0} (P : A → Type 0) (xs : List A) (k : ℕ) (x : A) → All P xs → slice_get xs k ≡ Some x → P x
all_got P [] k x h e = absurd cc
all_got P (y ∷ xs) zero x h e = subst P (let d : y ≡ x = cc in d) (All-head P y xs h)
all_got P (y ∷ xs) (suc k) x h e = all_got P xs k x (All-tail P y xs h) e

first_place : (l : List Name) → Distinct bytes_eq names_equal l → (k : ℕ) (x : Name) → slice_get l k ≡ Some x → position_or_len (bytes_eq x) l ≡ k
first_place [] h k x e = absurd cc
first_place (y ∷ l) h zero x e =
    let d : y ≡ x = cc in
    ap (λ b. cond (not b) (1 + position_or_len (bytes_eq x) l) 0) (subst (λ z. bytes_eq x z ≡ true) (sym d) (bytes_eq-self x))
first_place (y ∷ l) h (suc k) x e =
    let d : bytes_eq x y ≡ false = bytes_eq_comm x y ∙ all_got (λ z. bytes_eq y z ≡ false) l k x h.0 e in
    ap (λ b. cond (not b) (1 + position_or_len (bytes_eq x) l) 0) d
    ∙ (let q = first_place l h.1 k x e in let g : 1 + position_or_len (bytes_eq x) l ≡ suc k = omega (arith, q) in g)

passes_there : {A : Type 0} (p : A → Bool) (l : List A) (x : A) → slice_get l (position_or_len p l) ≡ Some x → p x ≡ true
passes_there p [] x e = absurd cc
passes_there p (y ∷ l) x e = by_test (p y) refl (passes_there p l x) e
  where
    by_test : (b : Bool) → p y ≡ b → (slice_get l (position_or_len p l) ≡ Some x → p x ≡ true) → slice_get (y ∷ l) (cond (not b) (1 + position_or_len p l) 0) ≡ Some x → p x ≡ true
    by_test true g ih e = subst (λ z. p z ≡ true) (let d : y ≡ x = cc in d) g
    by_test false g ih e = ih (ap (slice_get (y ∷ l)) (let d : suc (position_or_len p l) ≡ 1 + position_or_len p l = omega arith in d) ∙ e)

same_action : (t : ActionTable) (l : List Name) → AreNumbered l t → Distinct bytes_eq names_equal l → (k : ℕ) (x : Name) → slice_get l k ≡ Some x →
    (o : Option Named) → is_number (number_in t) k o ≡ same_label (Some x) (option_map (λ (n : Named). n.name) o)
same_action t l h d k x e None = refl
same_action t l h d k x e (Some y) =
    same_test (nat_eq k (number_in t y.name)) (bytes_eq x y.name)
    (λ q.
    let n : k ≡ position_or_len (bytes_eq y.name) l = eqb-true k (number_in t y.name) q ∙ number_is t l h y.name in
    bytes_eq_comm x y.name ∙ passes_there (bytes_eq y.name) l x (ap (slice_get l) (sym n) ∙ e))
    (λ q.
    let n : number_in t y.name ≡ k = ap (number_in t) (sym (bytes_eq-true x y.name q)) ∙ number_is t l h x ∙ first_place l d k x e in
    ap (nat_eq k) n ∙ nat_eq-self k)

by_number : {X Z : Type 0} (F : X → Z) (G : ℕ → Z) (i : ℕ) (l : List X) → ((k : ℕ) (x : X) → slice_get l k ≡ Some x → G (i + k) ≡ F x) → map G (range_with_len i (length l)) ≡ map F l
by_number F G i [] h = refl
by_number F G i (x ∷ l) h =
    ap₂ (λ y r. y ∷ r) (ap G (let d : i ≡ i + 0 = omega arith in d) ∙ h 0 x refl)
    (by_number F G (i + 1) l (λ k y e. ap G (let d : i + 1 + k ≡ i + suc k = omega arith in d) ∙ h (suc k) y e))

-- the parts by number are those by name
pub parts_are : {Z : Type 0} (F : List Edge → Z) (t : ActionTable) (all es : List Edge) → AreNumbered (actions_among all) t →
    map (λ k. F (filter (acts_as (number_in t) k) es)) (range_with_len 0 t.count) ≡ map (λ x. F (filter (acts_with x) es)) (actions_among all)
parts_are F t all es h =
    let l = actions_among all in
    ap (λ n. map (λ k. F (filter (acts_as (number_in t) k) es)) (range_with_len 0 n)) h.count
    ∙ by_number (λ x. F (filter (acts_with x) es)) (λ k. F (filter (acts_as (number_in t) k) es)) 0 l
    (λ k x e. ap F
    (filter_agree (acts_as (number_in t) (0 + k)) (acts_with x)
    (λ d. same_action t l h (firsts_distinct bytes_eq names_equal (flat_map (λ (c : Edge). if_some (action_of c)) all)) (0 + k) x (ap (slice_get l) (let q : 0 + k ≡ k = omega arith in q) ∙ e) d.action) es))
