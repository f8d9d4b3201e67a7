-- What an instance keeps is right in each state, where it was built of its file.
use Rattle.std.specs.Prelude.{◌≡◌, ℕ, zero, suc, ◌+◌, ◌-◌, ◌<◌, ◌≤◌, List, [], ◌∷◌, ◌++◌, map, length, Bool, true, false, not, ◌&&◌, ◌||◌, Option, Some, None, IsTrue, bytes_eq, nat_eq, slice_get, unwrap_or, take, drop, if◌then◌else◌}
use Rattle.std.specs.List.{AllZip, filter, find, list_any, position, position_or_len}
use Rattle.std.specs.Option.{option_map, option_or}
use Rattle.std.proofs.Common.{refl, sym, ap, ap₂, subst, ◌∙◌, arith}
use Rattle.std.proofs.Math.Path.{fun_ext}
use Rattle.std.proofs.lemmas.List.{map-append, length-map}
use Rattle.std.proofs.lemmas.Slice.Eq.{bytes_eq-Decides}
use Rattle.std.proofs.lemmas.Bool.{or_parts}
use Rattle.bridge_io.specs.declared.reason.Named.{Named}
use Rattle.op_trees.specs.Seen.{Seen, known, known_names}
use Rattle.op_trees.specs.declared.tree.Value.{Value}
use Rattle.op_trees.specs.declared.tree.Value.TheVariants as V
use Rattle.name_rules.specs.Names.{under}
use Rattle.name_rules.specs.declared.map.NameMap.{NameMap}
use Rattle.expr_store.specs.Views.{nodes}
use Rattle.expr_store.specs.declared.node.ExprId.{ExprId}
use Rattle.expr_store.specs.declared.store.ExprStore.{ExprStore}
use Rattle.jani_table.specs.declared.operator.JaniOp.{JaniOp}
use Rattle.basics.specs.Options.{if_some}
use Rattle.process_core.specs.Ready.{Name, Ready, Sum, Values, has_action, taking}
use Rattle.process_core.specs.Instance.{Valuation, is_state, numbered}
use Rattle.process_core.specs.Product.{map-map}
use Rattle.state_choices.specs.Groups.{Group}
use Rattle.state_choices.specs.Groups as core
use Rattle.state_choices.specs.Trimmed.{computed, trimmed, trimmed_group, trimmed_sum}
use Rattle.state_choices.proofs.ComputedParts.{same_group}
use Rattle.jani_tree.specs.Syntax as syntax
use Rattle.jani_tree.specs.Syntax.{Automaton, Edge, File, Location, element_names}
use Rattle.op_trees.specs.Names.{is_called}
use Rattle.jani_meaning.specs.Elements.{Owned, column_number, elements, is_global, is_own, is_several, lasting, labels, location_number, structures}
use Rattle.jani_meaning.specs.Scene.{column, columns_of, constant, constant_names, see, start_of}
use Rattle.jani_meaning.specs.Moment.{begin_here, begins_here, edge_at, element_at, first_or, given_in, given_to, is_among, is_current, is_number, may_give, moment, names_in, restriction_seen, transient_at, value_in, vector_of}
use Rattle.jani_meaning.specs.Process.{no_reward}
use Rattle.instance_start.specs.Columns.{column_of, value_at}
use Rattle.instance_start.specs.declared.data.Column as code_column
use Rattle.instance_start.specs.declared.data.Place.{Place}
use Rattle.instance_start.specs.declared.data.Place.TheVariants.{Constant, Variable}
use Rattle.jani_instance.specs.Built.{IsElementOf, IsTransientOf, IsVectorOf, acts_with, edges_from, given_from, global_place, links_from, member_from, place_in, value_from}
use Rattle.jani_instance.specs.Initial.{all_begin, condition_from, initial_table, may_begin, table_with}
use Rattle.jani_instance.specs.Prepared.{placed_names}
use Rattle.jani_instance.specs.Sound.{IsRight, no_rewards}
use Rattle.jani_instance.specs.Views.{At, Member, Setting, count_in, first_else, groups_of, located_seen, location_at, look_at, member_seen, members_seen, part_at, part_of, silent_group, transient_value, values_at, vector_group}
use Rattle.jani_instance.specs.declared.data.Element as code
use Rattle.jani_instance.specs.declared.data.Transient.{Transient}
use Rattle.jani_instance.specs.declared.data.Vector as code_vector
use Rattle.jani_instance.proofs.Places.{IsAt, at_place, same_count}
use Rattle.jani_instance.proofs.Begins.{any_entered}
use Rattle.jani_instance.proofs.Unowned.{none_left, unowned}

-- ---- lists
numbered_both : {X Y Z : Type 0} (f : ℕ → X → Z) (g : ℕ → Y → Z) (i : ℕ) (xs : List X) (ys : List Y) → length xs ≡ length ys →
    ((k : ℕ) (x : X) (y : Y) → slice_get xs k ≡ Some x → slice_get ys k ≡ Some y → f (i + k) x ≡ g (i + k) y) →
    numbered (λ n x. f n x ∷ []) i xs ≡ numbered (λ n y. g n y ∷ []) i ys
numbered_both f g i [] [] e h = refl
numbered_both f g i [] (y ∷ ys) e h = absurd (let z : zero ≡ suc (length ys) = e in omega (arith, z))
numbered_both f g i (x ∷ xs) [] e h = absurd (let z : suc (length xs) ≡ zero = e in omega (arith, z))
numbered_both f g i (x ∷ xs) (y ∷ ys) e h =
    ap₂ (λ z l. z ∷ l) (subst (λ n. f n x ≡ g n y) (let d : i + 0 ≡ i = omega arith in d) (h 0 x y refl refl))
    (numbered_both f g (i + 1) xs ys (let z : suc (length xs) ≡ suc (length ys) = e in let d : length xs ≡ length ys = omega (arith, z) in d)
    (λ k a b p q. subst (λ n. f n a ≡ g n b) (let d : i + suc k ≡ i + 1 + k = omega arith in d) (h (suc k) a b p q)))

pub numbered_agree : {X Y : Type 0} (f g : ℕ → X → List Y) (i : ℕ) (xs : List X) → ((k : ℕ) (x : X) → slice_get xs k ≡ Some x → f (i + k) x ≡ g (i + k) x) → numbered f i xs ≡ numbered g i xs
numbered_agree f g i [] h = refl
numbered_agree f g i (x ∷ xs) h =
    ap₂ (λ a b. a ++ b) (subst (λ n. f n x ≡ g n x) (let d : i + 0 ≡ i = omega arith in d) (h 0 x refl))
    (numbered_agree f g (i + 1) xs (λ k y e. subst (λ n. f n y ≡ g n y) (let d : i + suc k ≡ i + 1 + k = omega arith in d) (h (suc k) y e)))

map_numbered : {X Y Z : Type 0} (c : Y → Z) (f : ℕ → X → List Y) (i : ℕ) (xs : List X) → map c (numbered f i xs) ≡ numbered (λ n x. map c (f n x)) i xs
map_numbered c f i [] = refl
map_numbered c f i (x ∷ xs) = map-append c (f i x) (numbered f (i + 1) xs) ∙ ap (λ l. map c (f i x) ++ l) (map_numbered c f (i + 1) xs)

pub there_is : {X : Type 0} (xs : List X) (i : ℕ) → i < length xs → (x : X) × (slice_get xs i ≡ Some x)
there_is [] i h = absurd (omega (arith, h))
there_is (x ∷ xs) zero h = (x, refl)
there_is (x ∷ xs) (suc i) h = there_is xs i (let d : i < length xs = omega (arith, h) in d)

got : {X Z : Type 0} (f : ℕ → X → Z) (i : ℕ) (xs : List X) (k : ℕ) → slice_get (numbered (λ n x. f n x ∷ []) i xs) k ≡ option_map (f (i + k)) (slice_get xs k)
got f i [] k = refl
got f i (x ∷ xs) zero = ap (λ n. Some (f n x)) (let d : i ≡ i + 0 = omega arith in d)
got f i (x ∷ xs) (suc k) = got f (i + 1) xs k ∙ ap (λ n. option_map (f n) (slice_get xs k)) (let d : i + 1 + k ≡ i + suc k = omega arith in d)

pub within : {X : Type 0} (xs : List X) (i : ℕ) (x : X) → slice_get xs i ≡ Some x → i < length xs
within [] i x e = absurd cc
within (y ∷ ys) zero x e = omega arith
within (y ∷ ys) (suc i) x e = let h = within ys i x e in omega (arith, h)

pub lesser : {i n m : ℕ} → n ≡ m → i < m → i < n
lesser {i = i} e h = subst (λ z. i < z) (sym e) h

later : {X : Type 0} (all : List X) (i : ℕ) (x : X) (xs : List X) → ((k : ℕ) → slice_get all (i + k) ≡ slice_get (x ∷ xs) k) → (k : ℕ) → slice_get all (i + 1 + k) ≡ slice_get xs k
later all i x xs h k = ap (slice_get all) (let d : i + 1 + k ≡ i + suc k = omega arith in d) ∙ h (suc k)

first_at : {X : Type 0} (all : List X) (i : ℕ) (x : X) (xs : List X) → ((k : ℕ) → slice_get all (i + k) ≡ slice_get (x ∷ xs) k) → slice_get all i ≡ Some x
first_at all i x xs h = ap (slice_get all) (let d : i ≡ i + 0 = omega arith in d) ∙ h 0

-- what stands at the place of a name, if it stands anywhere
part_is : (F : Name → List Ready) (l : List Name) (x : Name) → (list_any (bytes_eq x) l ≡ false → F x ≡ []) → unwrap_or (slice_get (map F l) (position_or_len (bytes_eq x) l)) [] ≡ F x
part_is F [] x h = sym (h refl)
part_is F (y ∷ l) x h = by_test (bytes_eq x y) refl (part_is F l x) h
  where
    by_test : (b : Bool) → bytes_eq x y ≡ b → ((list_any (bytes_eq x) l ≡ false → F x ≡ []) → unwrap_or (slice_get (map F l) (position_or_len (bytes_eq x) l)) [] ≡ F x) → ((b || list_any (bytes_eq x) l) ≡ false → F x ≡ []) →
        unwrap_or (slice_get (F y ∷ map F l) (if not b then 1 + position_or_len (bytes_eq x) l else 0)) [] ≡ F x
    by_test true e ih g = ap F (sym ((bytes_eq-Decides x y).0 e))
    by_test false e ih g = ap (λ n. unwrap_or (slice_get (F y ∷ map F l) n) []) (let d : 1 + position_or_len (bytes_eq x) l ≡ suc (position_or_len (bytes_eq x) l) = omega arith in d) ∙ ih g

labelled : (a b : Option Name) (r q : List Sum) (m n : List (List Ready)) → a ≡ b → r ≡ q → m ≡ n →
    ◌≡◌ {A = Group} (record { label = a; rewards = r; lists = m }) (record { label = b; rewards = q; lists = n })
labelled a b r q m n d e f = cc

same_noughts : {X Y : Type 0} (xs : List X) (ys : List Y) → length xs ≡ length ys → map (λ x. no_reward) xs ≡ map trimmed_sum (map (λ y. no_reward) ys)
same_noughts [] [] e = refl
same_noughts [] (y ∷ ys) e = absurd (let z : zero ≡ suc (length ys) = e in omega (arith, z))
same_noughts (x ∷ xs) [] e = absurd (let z : suc (length xs) ≡ zero = e in omega (arith, z))
same_noughts (x ∷ xs) (y ∷ ys) e = ap (λ l. no_reward ∷ l) (same_noughts xs ys (let z : suc (length xs) ≡ suc (length ys) = e in let d : length xs ≡ length ys = omega (arith, z) in d))

-- ---- a name's value
by_places : (n : ℕ) (table : List (Option Value)) (s : Values) (p q r : Option ℕ) →
    value_at s table (option_or (option_map (λ k. Variable (n + k)) p) (option_or (option_map (λ k. Variable (n + k)) q) (option_map Constant r)))
    ≡ value_in s (option_map (λ k. n + k) (option_or p q)) (value_from table r)
by_places n table s (Some k) q r = refl
by_places n table s None (Some k) r = refl
by_places n table s None None (Some j) = refl
by_places n table s None None None = refl

-- ---- an element
module _ (file : File) (v : Valuation) (acts : Automaton → List Name) (store : ExprStore JaniOp) (table : List (Option Value))
    (columns : List code_column.Column) (es : List code.Element)
    (cols : map column_of columns ≡ columns_of file v)
    (values : (x : Name) → value_from table (position (λ c. is_called x c.name) file.constants) ≡ constant file v x)
    (count : length es ≡ length (elements file))
    (built : (i : ℕ) (a : Automaton) (e : code.Element) → slice_get (elements file) i ≡ Some a → slice_get es i ≡ Some e → IsElementOf file (nodes store) (acts a) i a e)
    (s : Values) (state : IsTrue (is_state (columns_of file v) s)) where
  abbrev k : Setting
  k = record { store = store; constants = table; columns = columns; elements = es; values = s }

  at : (i : ℕ) (a : Automaton) → slice_get (elements file) i ≡ Some a → IsAt s i a
  at i a e = at_place (elements file) (map (λ o. column (constant_names file v) o.var) (lasting file)) s i a e state

  current : (i : ℕ) (a : Automaton) (h : IsAt s i a) (x : Name) → is_current s i a x ≡ nat_eq (location_number a x) h.number
  current i a h x = ap (is_number (location_number a x)) h.is ∙ same_count (location_number a x) h.number

  edges_are : (i : ℕ) (a : Automaton) (h : IsAt s i a) → edges_from file (columns_of file v) (names_in file v s i) i a h.number ≡ element_at file v s i a
  edges_are i a h =
      let p : (λ (e : Edge). nat_eq (location_number a e.location.name) h.number) ≡ (λ e. is_current s i a e.location.name) = fun_ext (λ e. sym (current i a h e.location.name)) in
      ap (λ q. map (edge_at file v s i a) (filter q a.edges)) p

  -- what stands at the places of names
  abbrev here : At
  here = value_at s table

  names_are : (i : ℕ) → placed_names (place_in file i) here ≡ names_in file v s i
  names_are i =
      fun_ext (λ x. ap known
      (by_places (length (element_names file)) table s (position (is_own i x) (lasting file)) (position (is_global x) (lasting file)) (position (λ c. is_called x c.name) file.constants)
      ∙ ap (value_in s (column_number file i x)) (values x)))

  abbrev member_at : ℕ → Automaton → Member
  member_at i a = record {
    silent = map trimmed (filter (has_action None) (element_at file v s i a));
    parts = map (λ x. map trimmed (filter (has_action (Some x)) (element_at file v s i a))) (acts a);
  }

  abbrev of_edges : Automaton → List Ready → Member
  of_edges a l = record { silent = map trimmed (filter (has_action None) l); parts = map (λ x. map trimmed (filter (has_action (Some x)) l)) (acts a) }

  member_is : (i : ℕ) (a : Automaton) (e : code.Element) → slice_get (elements file) i ≡ Some a → slice_get es i ≡ Some e → member_seen k i e ≡ member_at i a
  member_is i a e p q =
      let h = at i a p in
      let b = built i a e p q in
      ap (λ cs. located_seen cs (look_at k) i (slice_get e.locations.items (location_at s i))) cols
      ∙ ap (λ o. located_seen (columns_of file v) (look_at k) i (slice_get e.locations.items (count_in o))) h.is
      ∙ b.edges (columns_of file v) here h.number h.within
      ∙ ap (λ ns. member_from file (columns_of file v) ns i a (acts a) h.number) (names_are i)
      ∙ ap (of_edges a) (edges_are i a h)

  abbrev members_at : List Member
  members_at = numbered (λ i a. member_at i a ∷ []) 0 (elements file)

  members_are : members_seen k ≡ members_at
  members_are =
      numbered_both (member_seen k) member_at 0 es (elements file) count
      (λ n e a p q. subst (λ m. member_seen k m e ≡ member_at m a) (let d : n ≡ 0 + n = omega arith in d) (member_is n a e q p))

  -- ---- groups
  silents_are : (rs qs : List Sum) → rs ≡ map trimmed_sum qs → (i : ℕ) (as_ : List Automaton) →
      map (silent_group rs) (numbered (λ n a. member_at n a ∷ []) i as_)
      ≡ map trimmed_group (map (core.silent_group qs) (numbered (λ n a. element_at file v s n a ∷ []) i as_))
  silents_are rs qs e i [] = refl
  silents_are rs qs e i (a ∷ as_) = ap₂ (λ x l. x ∷ l) (same_group None rs (map trimmed_sum qs) _ _ e refl) (silents_are rs qs e (i + 1) as_)

  -- an action that none of the edges has
  none_acts : (x : Name) (i : ℕ) (a : Automaton) (l : List Edge) → list_any (acts_with x) l ≡ false → filter (has_action (Some x)) (map (edge_at file v s i a) l) ≡ []
  none_acts x i a [] h = refl
  none_acts x i a (e ∷ l) h =
      ap (λ b. if b then edge_at file v s i a e ∷ filter (has_action (Some x)) (map (edge_at file v s i a) l) else filter (has_action (Some x)) (map (edge_at file v s i a) l)) (or_parts (acts_with x e) (list_any (acts_with x) l) h).0
      ∙ none_acts x i a l (or_parts (acts_with x e) (list_any (acts_with x) l) h).1

  -- ---- vectors
  none_of : (x : Name) (i : ℕ) (a : Automaton) → list_any (acts_with x) a.edges ≡ false → map trimmed (filter (has_action (Some x)) (element_at file v s i a)) ≡ []
  none_of x i a h =
      ap (map trimmed) (none_acts x i a (filter (λ e. is_current s i a e.location.name) a.edges) (none_left (acts_with x) (λ e. is_current s i a e.location.name) a.edges h))

  taking_is : (ms : List Member) (ms_are : (k : ℕ) → slice_get ms k ≡ option_map (member_at k) (slice_get (elements file) k)) →
      (i : ℕ) (as_ : List Automaton) (ps : List (Option Named)) → ((k : ℕ) → slice_get (elements file) (i + k) ≡ slice_get as_ k) →
      map (part_at ms) (links_from acts i as_ ps) ≡ map (map trimmed) (taking (map (option_map (λ (x : Named). x.name)) ps) (numbered (λ n a. element_at file v s n a ∷ []) i as_))
  taking_is ms ms_are i [] [] h = refl
  taking_is ms ms_are i [] (p ∷ ps) h = refl
  taking_is ms ms_are i (a ∷ as_) [] h = refl
  taking_is ms ms_are i (a ∷ as_) (None ∷ ps) h = taking_is ms ms_are (i + 1) as_ ps (later (elements file) i a as_ h)
  taking_is ms ms_are i (a ∷ as_) (Some x ∷ ps) h =
      let here : slice_get (elements file) i ≡ Some a = first_at (elements file) i a as_ h in
      let e = there_is es i (lesser count (within (elements file) i a here)) in
      ap₂ (λ z l. z ∷ l)
      (ap (λ o. part_of o (position_or_len (bytes_eq x.name) (acts a))) (ms_are i ∙ ap (option_map (member_at i)) here)
      ∙ part_is (λ y. map trimmed (filter (has_action (Some y)) (element_at file v s i a))) (acts a) x.name (λ g. none_of x.name i a ((built i a e.0 here e.1).covers x.name g)))
      (taking_is ms ms_are (i + 1) as_ ps (later (elements file) i a as_ h))

  vector_is : (rs qs : List Sum) → rs ≡ map trimmed_sum qs → (u : syntax.Vector) (w : code_vector.Vector) → IsVectorOf file acts u w →
      vector_group rs members_at w
      ≡ trimmed_group (record { label = (vector_of u).result; rewards = qs; lists = taking (vector_of u).parts (moment file v s).elements })
  vector_is rs qs e u w h =
      labelled _ _ rs (map trimmed_sum qs) _ _ h.label e
      (ap (map (part_at members_at)) h.links
      ∙ taking_is members_at (λ n. got member_at 0 (elements file) n ∙ ap (λ m. option_map (member_at m) (slice_get (elements file) n)) (let d : 0 + n ≡ n = omega arith in d)) 0 (elements file) u.parts
      (λ n. ap (slice_get (elements file)) (let d : 0 + n ≡ n = omega arith in d)))

  vectors_are : (rs qs : List Sum) → rs ≡ map trimmed_sum qs → (us : List syntax.Vector) (ws : List code_vector.Vector) → AllZip (IsVectorOf file acts) us ws →
      map (vector_group rs members_at) ws
      ≡ map trimmed_group (map (λ u. record { label = u.result; rewards = qs; lists = taking u.parts (moment file v s).elements }) (map vector_of us))
  vectors_are rs qs e [] [] h = refl
  vectors_are rs qs e [] (w ∷ ws) h = absurd h
  vectors_are rs qs e (u ∷ us) [] h = absurd h
  vectors_are rs qs e (u ∷ us) (w ∷ ws) h = ap₂ (λ x l. x ∷ l) (vector_is rs qs e u w h.0) (vectors_are rs qs e us ws h.1)

  -- ---- transient variables
  number_at : (i : ℕ) (a : Automaton) (h : IsAt s i a) → location_at s i ≡ h.number
  number_at i a h = ap count_in h.is

  given_is : (o : Owned) (i : ℕ) (a : Automaton) → slice_get (elements file) i ≡ Some a → given_from file v (names_in file v s) (location_at s) o i a ≡ map computed (given_to file v s o i a)
  given_is o i a e =
      let h = at i a e in
      let p : (λ (l : Location). nat_eq (location_number a l.name.name) (location_at s i)) ≡ (λ l. is_current s i a l.name.name) =
      fun_ext (λ l. ap (nat_eq (location_number a l.name.name)) (number_at i a h) ∙ sym (current i a h l.name.name)) in
      by_test (may_give file v s i o.owner) (λ w. see w.value (names_in file v s i)) (if_some (given_in file v s o.var.name.name (find (λ l. nat_eq (location_number a l.name.name) (location_at s i)) a.locations)))
      ∙ ap (λ q. map computed (if may_give file v s i o.owner then map (λ w. see w.value (names_in file v s i)) (if_some (given_in file v s o.var.name.name (find q a.locations))) else [])) p
    where
      by_test : (b : Bool) (f : syntax.Write → Seen) (l : List syntax.Write) → (if b then map (λ w. computed (f w)) l else []) ≡ map computed (if b then map f l else [])
      by_test true f l = sym (map-map computed f l)
      by_test false f l = refl

  transient_is : (o : Owned) (t : Transient ExprId) → IsTransientOf file v (nodes store) o t → transient_value k t ≡ computed (transient_at file v s o)
  transient_is o t b =
      b.givers here (location_at s) (λ i a e. let h = at i a e in subst (λ n. n ≤ length a.locations - 1) (sym (number_at i a h)) h.within) t.start
      ∙ ap₂ (λ x l. first_else x l) b.start
      (ap (λ (names : ℕ → Name → Seen). numbered (given_from file v names (location_at s) o) 0 (elements file)) (fun_ext names_are)
      ∙ numbered_agree _ _ 0 (elements file) (λ n a e. subst (λ m. given_from file v (names_in file v s) (location_at s) o m a ≡ map computed (given_to file v s o m a)) (let d : n ≡ 0 + n = omega arith in d) (given_is o n a e))
      ∙ sym (map_numbered computed (given_to file v s o) 0 (elements file)))
      ∙ first_is (start_of (constant_names file v) o.var.start) (numbered (given_to file v s o) 0 (elements file))
    where
      first_is : (z : Seen) (l : List Seen) → first_else (computed z) (map computed l) ≡ computed (first_or file v s z l)
      first_is z [] = refl
      first_is z (x ∷ l) = refl

  transients_are : (os : List Owned) (ts : List (Transient ExprId)) → AllZip (IsTransientOf file v (nodes store)) os ts → map (transient_value k) ts ≡ map computed (map (transient_at file v s) os)
  transients_are [] [] h = refl
  transients_are [] (t ∷ ts) h = absurd h
  transients_are (o ∷ os) [] h = absurd h
  transients_are (o ∷ os) (t ∷ ts) h = ap₂ (λ x l. x ∷ l) (transient_is o t h.0) (transients_are os ts h.1)

  -- ---- the initial condition
  globals_are : (places : NameMap Place) → ((x : Name) → under places x ≡ global_place file x) → known_names (values_at s places table) ≡ names_in file v s (length (element_names file))
  globals_are places h =
      let n = length (element_names file) in
      fun_ext (λ (x : Name). ap known
      (ap here (h x)
      ∙ by_places n table s None (position (is_global x) (lasting file)) (position (λ c. is_called x c.name) file.constants)
      ∙ ap₂ (λ p c. value_in s (option_map (λ k. n + k) (option_or p (position (is_global x) (lasting file)))) c) (sym (unowned file x)) (values x)))

  among_is : (i : ℕ) (a : Automaton) → IsAt s i a → (ns : List Named) → is_among s i a ns ≡ list_any (λ j. nat_eq j (location_at s i)) (map (λ n. location_number a n.name) ns)
  among_is i a h [] = refl
  among_is i a h (n ∷ ns) = ap₂ (λ b c. b || c) (current i a h n.name ∙ ap (nat_eq (location_number a n.name)) (sym (number_at i a h))) (among_is i a h ns)

  begins_are : (i : ℕ) (a : Automaton) → IsAt s i a → begins_here s i a ≡ may_begin (location_at s i) (initial_table a)
  begins_are i a h = of_list a.initial
    where
      of_list : (ns : List Named) → (not (is_several ns) || is_among s i a ns) ≡ may_begin (location_at s i) (if is_several ns then table_with (map (λ n. location_number a n.name) ns) [] else [])
      of_list [] = refl
      of_list (n ∷ []) = refl
      of_list (n ∷ m ∷ ns) =
          among_is i a h (n ∷ m ∷ ns)
          ∙ sym (any_entered (location_at s i) (location_number a n.name) (map (λ n. location_number a n.name) (m ∷ ns)))

  begin_is : (i : ℕ) (as_ : List Automaton) → ((k : ℕ) → slice_get (elements file) (i + k) ≡ slice_get as_ k) → begin_here s i as_ ≡ all_begin (location_at s) i (map initial_table as_)
  begin_is i [] h = refl
  begin_is i (a ∷ as_) h = ap₂ (λ b c. b && c) (begins_are i a (at i a (first_at (elements file) i a as_ h))) (begin_is (i + 1) as_ (later (elements file) i a as_ h))

  pub condition_is : (places : NameMap Place) → ((x : Name) → under places x ≡ global_place file x) → (tables : List (List Bool)) → tables ≡ map initial_table (elements file) →
      condition_from file.restrict tables (known_names (values_at s places table)) s ≡ (moment file v s).condition
  condition_is places global tables e =
      ap₂ (λ b (names : Name → Seen). if b then restriction_seen names file.restrict else known (Some (V.Truth false)))
      (ap (all_begin (location_at s) 0) e ∙ sym (begin_is 0 (elements file) (λ n. ap (slice_get (elements file)) (let d : 0 + n ≡ n = omega arith in d))))
      (globals_are places global)

  -- ---- all of it
  pub right : (ws : List code_vector.Vector) (n : ℕ) (ts : List (Transient ExprId)) → AllZip (IsVectorOf file acts) file.vectors ws →
      AllZip (IsTransientOf file v (nodes store)) (labels file) (take n ts) → AllZip (IsTransientOf file v (nodes store)) (structures file) (drop n ts) →
      IsRight file v k ws n ts
  right ws n ts vectors labelling rewarding =
      let rewards = transients_are (structures file) (drop n ts) rewarding in
      let rs = no_rewards (drop n ts) in
      let qs = map (λ (r : Seen). no_reward) (moment file v s).rewards in
      let none : rs ≡ map trimmed_sum qs = same_noughts (drop n ts) (moment file v s).rewards (sym (length-map (drop n ts) (transient_value k)) ∙ ap length rewards ∙ length-map (moment file v s).rewards computed) in
      record {
        groups =
            ap (λ ms. groups_of rs ms ws) members_are
            ∙ ap₂ (λ x y. x ++ y) (silents_are rs qs none 0 (elements file)) (vectors_are rs qs none file.vectors ws vectors)
            ∙ sym (map-append trimmed_group (map (core.silent_group qs) (moment file v s).elements) (map (λ u. record { label = u.result; rewards = qs; lists = taking u.parts (moment file v s).elements }) (moment file v s).vectors));
        labels = transients_are (labels file) (take n ts) labelling;
        rewards = rewards;
      }
