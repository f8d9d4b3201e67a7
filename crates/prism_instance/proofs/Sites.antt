-- Modules sorted by their actions are members of a network, and their links those of modules by alphabets.
use Rattle.std.proofs.Common.{◌≡◌, ◌∙◌, ℕ, ◌+◌, zero, suc, List, [], ◌∷◌, ◌++◌, map, length, Bool, true, false, not, cond, ◌||◌, Option, Some, None, slice_get, nat_eq, if◌then◌else◌, refl, sym, ap, ap₂, subst, arith}
use Rattle.std.specs.Prelude.{bytes_eq}
use Rattle.std.specs.List.{All, filter, flat_map, list_any, position_or_len, range_with_len}
use Rattle.std.proofs.lemmas.Bool.{eqb-true}
use Rattle.std.proofs.lemmas.List.Elements.{All-cons, All-head, All-nil, All-tail}
use Rattle.basics.specs.Booleans.{same_test}
use Rattle.basics.specs.Members.{any-map, filter-map}
use Rattle.basics.specs.Numbers.{nat_eq-self}
use Rattle.basics.specs.Options.{if_some}
use Rattle.basics.specs.Texts.{bytes_eq-self, bytes_eq-true, bytes_eq_comm}
use Rattle.op_trees.specs.Seen.{Seen}
use Rattle.process_core.specs.Equal.{IsEquality}
use Rattle.process_core.specs.Instance.{Column, numbered, only_if}
use Rattle.process_core.specs.Product.{map-map}
use Rattle.process_core.specs.Ready.{Name, Ready, has_action, same_label}
use Rattle.process_core.proofs.Targets.{Distinct, any_firsts, firsts_distinct}
use Rattle.prism_tree.specs.Syntax.{Command}
use Rattle.prism_names.specs.Names.{unchanged}
use Rattle.prism_flat.specs.Moment.{action_of}
use Rattle.instance_start.specs.Numbered.{Numbered, by_number, of_number}
use Rattle.instance_start.proofs.Numbered.{by_seen}
use Rattle.network.specs.Combined.{Covers, erased, member_by, module_links}
use Rattle.network.specs.Views.{Member}
use Rattle.network.specs.declared.data.Link.{Link}
use Rattle.prism_instance.specs.Shapes.{acts, command_under}
use Rattle.prism_instance.specs.Sites.{acted_by, acts_of, link_if, links_of, member_under, number_among, site_under, sorted}

names_equal : IsEquality bytes_eq
names_equal x y = (bytes_eq-true x y, λ e. subst (λ z. bytes_eq x z ≡ true) e (bytes_eq-self x))

abbrev Different : List Name → Type 0
Different l = Distinct bytes_eq names_equal l

-- ---- places of different names
all_got : {A : Type 0} (P : A → Type 0) (xs : List A) (k : ℕ) (x : A) → All P xs → slice_get xs k ≡ Some x → P x
all_got P [] k x h e = absurd cc
all_got P (y ∷ xs) zero x h e = subst P (let d : y ≡ x = cc in d) (All-head P y xs h)
all_got P (y ∷ xs) (suc k) x h e = all_got P xs k x (All-tail P y xs h) e

first_place : (l : List Name) → Different l → (k : ℕ) (x : Name) → slice_get l k ≡ Some x → position_or_len (bytes_eq x) l ≡ k
first_place [] h k x e = absurd cc
first_place (y ∷ l) h zero x e =
    let d : y ≡ x = cc in
    ap (λ b. cond (not b) (1 + position_or_len (bytes_eq x) l) 0) (subst (λ z. bytes_eq x z ≡ true) (sym d) (bytes_eq-self x))
first_place (y ∷ l) h (suc k) x e =
    let d : bytes_eq x y ≡ false = bytes_eq_comm x y ∙ all_got (λ z. bytes_eq y z ≡ false) l k x h.0 e in
    ap (λ b. cond (not b) (1 + position_or_len (bytes_eq x) l) 0) d
    ∙ (let q = first_place l h.1 k x e in let g : 1 + position_or_len (bytes_eq x) l ≡ suc k = omega (arith, q) in g)

passes_there : {A : Type 0} (p : A → Bool) (l : List A) (x : A) → slice_get l (position_or_len p l) ≡ Some x → p x ≡ true
passes_there p [] x e = absurd cc
passes_there p (y ∷ l) x e = by_test (p y) refl (passes_there p l x) e
  where
    by_test : (b : Bool) → p y ≡ b → (slice_get l (position_or_len p l) ≡ Some x → p x ≡ true) → slice_get (y ∷ l) (cond (not b) (1 + position_or_len p l) 0) ≡ Some x → p x ≡ true
    by_test true g ih e = subst (λ z. p z ≡ true) (let d : y ≡ x = cc in d) g
    by_test false g ih e = ih (ap (slice_get (y ∷ l)) (let d : suc (position_or_len p l) ≡ 1 + position_or_len p l = omega arith in d) ∙ e)

-- of different names the number tells which it is
number_tells : (l : List Name) → Different l → (k : ℕ) (a : Name) → slice_get l k ≡ Some a → (y : Name) → nat_eq k (number_among l y) ≡ bytes_eq a y
number_tells l d k a e y =
    same_test (nat_eq k (number_among l y)) (bytes_eq a y)
    (λ q. let n : k ≡ position_or_len (bytes_eq y) l = eqb-true k (number_among l y) q in bytes_eq_comm a y ∙ passes_there (bytes_eq y) l a (ap (slice_get l) (sym n) ∙ e))
    (λ q. let n : number_among l y ≡ k = ap (number_among l) (sym (bytes_eq-true a y q)) ∙ first_place l d k a e in ap (nat_eq k) n ∙ nat_eq-self k)

counted : {X Z : Type 0} (F : X → Z) (G : ℕ → Z) (i : ℕ) (l : List X) → ((k : ℕ) (x : X) → slice_get l k ≡ Some x → G (i + k) ≡ F x) → map G (range_with_len i (length l)) ≡ map F l
counted F G i [] h = refl
counted F G i (x ∷ l) h =
    ap₂ (λ y r. y ∷ r) (ap G (let d : i ≡ i + 0 = omega arith in d) ∙ h 0 x refl)
    (counted F G (i + 1) l (λ k y e. ap G (let d : i + 1 + k ≡ i + suc k = omega arith in d) ∙ h (suc k) y e))

-- ---- the commands of an action by its number
of_action : (number : Name → ℕ) (k : ℕ) (a : Name) → ((y : Name) → nat_eq k (number y) ≡ bytes_eq a y) → (m : List Command) →
    of_number k (flat_map (acted_by number) m) ≡ filter (acts (Some a)) m
of_action number k a h [] = refl
of_action number k a h (c ∷ m) = by_action (action_of unchanged c) (of_action number k a h m)
  where
    rest : List (Numbered Command)
    rest = flat_map (acted_by number) m

    by_test : (y : Name) (b : Bool) → of_number k rest ≡ filter (acts (Some a)) m →
        map (λ z. z.value) (if b then record { number = number y; value = c } ∷ filter (λ z. nat_eq k z.number) rest else filter (λ z. nat_eq k z.number) rest)
        ≡ (if b then c ∷ filter (acts (Some a)) m else filter (acts (Some a)) m)
    by_test y true ih = ap (λ l. c ∷ l) ih
    by_test y false ih = ih

    by_action : (o : Option Name) → of_number k rest ≡ filter (acts (Some a)) m →
        of_number k (map (λ x. record { number = number x; value = c }) (if_some o) ++ rest)
        ≡ (if same_label (Some a) o then c ∷ filter (acts (Some a)) m else filter (acts (Some a)) m)
    by_action None ih = ih
    by_action (Some y) ih =
        ap (λ b. map (λ (z : Numbered Command). z.value) (if b then record { number = number y; value = c } ∷ filter (λ z. nat_eq k z.number) rest else filter (λ z. nat_eq k z.number) rest)) (h y)
        ∙ by_test y (bytes_eq a y) ih

acts_different : (m : List Command) → Different (acts_of m)
acts_different m = firsts_distinct bytes_eq names_equal (flat_map (λ (c : Command). if_some (action_of unchanged c)) m)

-- ---- the actions are those that some command has
named : (a : Name) (m : List Command) → list_any (bytes_eq a) (flat_map (λ c. if_some (action_of unchanged c)) m) ≡ list_any (acts (Some a)) m
named a [] = refl
named a (c ∷ m) = by_action (action_of unchanged c) (named a m)
  where
    by_action : (o : Option Name) → list_any (bytes_eq a) (flat_map (λ (c : Command). if_some (action_of unchanged c)) m) ≡ list_any (acts (Some a)) m →
        list_any (bytes_eq a) (if_some o ++ flat_map (λ (c : Command). if_some (action_of unchanged c)) m) ≡ (same_label (Some a) o || list_any (acts (Some a)) m)
    by_action None ih = ih
    by_action (Some y) ih = ap (λ b. bytes_eq a y || b) ih

-- ---- links
no_link : (x : Name) (i p : ℕ) (l : List Name) → All (λ z. bytes_eq x z ≡ false) l → numbered (link_if x i) p l ≡ []
no_link x i p [] h = refl
no_link x i p (z ∷ l) h =
    ap₂ (λ b k. only_if b (record { component = i; part = p }) ++ k) (bytes_eq_comm z x ∙ All-head (λ w. bytes_eq x w ≡ false) z l h) (no_link x i (p + 1) l (All-tail (λ w. bytes_eq x w ≡ false) z l h))

abbrev link_at : ℕ → ℕ → Link
link_at i p = record { component = i; part = p }

one_link : (x : Name) (i p : ℕ) (l : List Name) → Different l →
    numbered (link_if x i) p l ≡ (if list_any (bytes_eq x) l then link_at i (p + position_or_len (bytes_eq x) l) ∷ [] else [])
one_link x i p [] d = refl
one_link x i p (y ∷ l) d = ap (λ b. only_if b (link_at i p) ++ numbered (link_if x i) (p + 1) l) (bytes_eq_comm y x) ∙ by_test (bytes_eq x y) refl (one_link x i (p + 1) l d.1)
  where
    by_any : (c : Bool) → (if c then link_at i (p + 1 + position_or_len (bytes_eq x) l) ∷ [] else []) ≡ (if c then link_at i (p + (1 + position_or_len (bytes_eq x) l)) ∷ [] else [])
    by_any true = ap (λ n. link_at i n ∷ []) (let e : p + 1 + position_or_len (bytes_eq x) l ≡ p + (1 + position_or_len (bytes_eq x) l) = omega arith in e)
    by_any false = refl

    by_test : (b : Bool) → bytes_eq x y ≡ b → numbered (link_if x i) (p + 1) l ≡ (if list_any (bytes_eq x) l then link_at i (p + 1 + position_or_len (bytes_eq x) l) ∷ [] else []) →
        only_if b (link_at i p) ++ numbered (link_if x i) (p + 1) l
        ≡ (if b || list_any (bytes_eq x) l then link_at i (p + cond (not b) (1 + position_or_len (bytes_eq x) l) 0) ∷ [] else [])
    by_test true e ih =
        ap₂ (λ n k. link_at i n ∷ k) (let g : p ≡ p + 0 = omega arith in g) (no_link x i (p + 1) l (subst (λ z. All (λ w. bytes_eq z w ≡ false) l) (sym (bytes_eq-true x y e)) d.0))
    by_test false e ih = ih ∙ by_any (list_any (bytes_eq x) l)

module _ (cs : List Column) (seen : Name → Seen) where
  abbrev edges_at : List Command → List Ready
  edges_at m = map (command_under cs seen) m

  has_alike : (a : Name) (m : List Command) → list_any (bytes_eq a) (acts_of m) ≡ list_any (has_action (Some a)) (edges_at m)
  has_alike a m =
      any_firsts bytes_eq names_equal (bytes_eq a) (flat_map (λ (c : Command). if_some (action_of unchanged c)) m)
      ∙ named a m ∙ sym (any-map (has_action (Some a)) (command_under cs seen) m)

  with_label : (o : Option Name) (m : List Command) → map (λ c. erased (command_under cs seen c)) (filter (acts o) m) ≡ map erased (filter (has_action o) (edges_at m))
  with_label o m = sym (map-map erased (command_under cs seen) (filter (acts o) m)) ∙ ap (map erased) (sym (filter-map (has_action o) (command_under cs seen) m))

  -- what is kept of a module is a member of a network
  pub member_is : (m : List Command) → member_under cs seen (sorted m) ≡ member_by (site_under cs seen m)
  member_is m =
      let l = acts_of m in
      let f : Command → Ready = λ c. erased (command_under cs seen c) in
      let es = flat_map (acted_by (number_among l)) m in
      ap₂ {C = Member} (λ (s : List Ready) (p : List (List Ready)). record { silent = s; parts = p }) (with_label None m)
      (by_seen f (length l) es
      ∙ sym (map-map_is f l es)
      ∙ counted (λ a. map erased (filter (has_action (Some a)) (edges_at m))) (λ k. map f (of_number k es)) 0 l
      (λ k a e. ap (λ n. map f (of_number n es)) (let d : 0 + k ≡ k = omega arith in d)
      ∙ ap (map f) (of_action (number_among l) k a (number_tells l (acts_different m) k a e) m) ∙ with_label (Some a) m))
    where
      map-map_is : (f : Command → Ready) (l : List Name) (es : List (Numbered Command)) → map (λ k. map f (of_number k es)) (range_with_len 0 (length l)) ≡ map (map f) (by_number (length l) es)
      map-map_is f l es = sym (map-map (map f) (λ k. of_number k es) (range_with_len 0 (length l)))

  pub members_are : (ms : List (List Command)) → map (member_under cs seen) (map sorted ms) ≡ map member_by (map (site_under cs seen) ms)
  members_are [] = refl
  members_are (m ∷ ms) = ap₂ (λ x l. x ∷ l) (member_is m) (members_are ms)

  covers_is : (m : List Command) → Covers (site_under cs seen m)
  covers_is m = record { covers = λ a h. sym (has_alike a m) ∙ h }

  pub all_cover : (ms : List (List Command)) → All Covers (map (site_under cs seen) ms)
  all_cover [] = All-nil Covers
  all_cover (m ∷ ms) = All-cons Covers (site_under cs seen m) (map (site_under cs seen) ms) (covers_is m) (all_cover ms)

  pub links_are : (x : Name) (i : ℕ) (ms : List (List Command)) → numbered (links_of x) i (map acts_of ms) ≡ module_links x i (map (site_under cs seen) ms)
  links_are x i [] = refl
  links_are x i (m ∷ ms) =
      ap₂ (λ a l. a ++ l)
      (one_link x i 0 (acts_of m) (acts_different m)
      ∙ ap₂ (λ b n. if b then link_at i n ∷ [] else []) (has_alike x m) (let e : 0 + position_or_len (bytes_eq x) (acts_of m) ≡ position_or_len (bytes_eq x) (acts_of m) = omega arith in e))
      (links_are x (i + 1) ms)
