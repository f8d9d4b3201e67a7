-- What the monitor assigns for an action, or for commands without one, is what their choices earn.
use Rattle.std.specs.Prelude.{◌≡◌, ℕ, zero, suc, ◌+◌, List, [], ◌∷◌, ◌++◌, map, length, drop, Bool, true, false, ◌||◌, cond, Option, Some, None, is_none, unwrap_or, slice_get, slice_set, bytes_eq}
use Rattle.std.specs.List.{All, filter, flat_map, list_any, zip, position}
use Rattle.std.specs.Option.{option_map}
use Rattle.std.proofs.Common.{refl, sym, ap, ap₂, ◌∙◌, arith, append_assoc, length-append}
use Rattle.std.proofs.lemmas.List.Elements.{All-cons, All-head, All-tail}
use Rattle.std.proofs.Math.Bool.{or-false}
use Rattle.basics.specs.Members.{position_cons}
use Rattle.basics.specs.Texts.{bytes_eq-self}
use Rattle.basics.specs.Lists.{slice_get-drop, slice_get-take}
use Rattle.bridge_io.specs.declared.reason.Named.{Named}
use Rattle.frac_core.specs.Fraction.{Fraction, nought}
use Rattle.op_trees.specs.Seen.{Seen}
use Rattle.process_core.specs.Ready.{Values, Name, Write, Reward, Sum}
use Rattle.process_core.specs.Choices.{number_of, assigned, own_rewards}
use Rattle.process_core.specs.Bounds.{summed}
use Rattle.prism_tree.specs.Syntax as prism
use Rattle.prism_tree.specs.declared.syntax.ItemOn.{ItemOn}
use Rattle.prism_names.specs.Names.{unchanged}
use Rattle.process_core.specs.Instance.{Valuation}
use Rattle.prism_flat.specs.Moment as prism_moment
use Rattle.prism_flat.specs.Moment.{adds_of, item_at}
use Rattle.prism_flat.specs.Process.{is_for_choices, choice_rewards, sum_for}
use Rattle.prism_flat.specs.Scene.{has_condition}
use Rattle.jani_tree.specs.Syntax.{File, Var, element_names}
use Rattle.jani_tree.specs.Syntax as jani
use Rattle.op_trees.specs.Names.{is_called}
use Rattle.jani_meaning.specs.Elements.{Owned, owned_by, place_of as place_in, column_number, structure_number}
use Rattle.jani_meaning.specs.Scene as jani_scene
use Rattle.jani_meaning.specs.Moment as jani_moment
use Rattle.jani_meaning.specs.Process.{no_reward}
use Rattle.name_table.specs.declared.entry.Entry.{Entry}
use Rattle.name_table.specs.Asks.{variables, entries, rewards_at, new_names}
use Rattle.jani_translation.specs.Parts.{instead_if, variable, structure}
use Rattle.jani_translation.specs.Automata.{item_value, sum_behind, sum_to, reward_of, rewards_of}
use Rattle.jani_translation.specs.Translated.{translated}
use Rattle.jani_translation.specs.SeenLaws.{IsSoundUnder, GivesAlike}
use Rattle.jani_translation.specs.StateLaws.{state_of, SoundItem}
use Rattle.jani_translation.proofs.Each.{for_rewards}
use Rattle.jani_translation.proofs.SameSeen.{zip-take}
use Rattle.jani_translation.proofs.StateNames.{place_owned, column_is}
use Rattle.name_table.proofs.Parts.{values_apart}
use Rattle.jani_translation.proofs.Edges.{new_structures, structures_owned, here}
use Rattle.jani_translation.proofs.Marks.{AreApart, rewards_apart}
use Rattle.jani_translation.proofs.Sums.{items_seen, wanted_items}

-- ---- the numbers of structures
named_at : (o : Option Named) (x : Name) → (instead_if o x).name ≡ x
named_at None x = refl
named_at (Some n) x = refl

entry_is : (u e : Entry) → ◌≡◌ {A = Option Entry} (Some u) (Some e) → bytes_eq u.name e.name ≡ true
entry_is u e g = ap (λ o. bytes_eq (name_of o) e.name) g ∙ bytes_eq-self e.name
  where
    name_of : Option Entry → Name
    name_of None = []
    name_of (Some k) = k.name

found_structure : (rs : List prism.Rewards) (es : List Entry) → length rs ≡ length es → AreApart es → (k : ℕ) (e : Entry) → slice_get es k ≡ Some e →
    position (λ y. is_called e.name y.name) (map (λ p. structure p.0 p.1) (zip rs es)) ≡ Some k
found_structure rs [] l h k e g = absurd cc
found_structure [] (u ∷ es) l h k e g = absurd cc
found_structure (r ∷ rs) (u ∷ es) l h zero e g =
    position_cons (λ y. is_called e.name y.name) (structure r u) (map (λ p. structure p.0 p.1) (zip rs es))
    ∙ ap (λ b. cond b (Some 0) (option_map suc (position (λ y. is_called e.name y.name) (map (λ p. structure p.0 p.1) (zip rs es)))))
    (ap (λ n. bytes_eq n e.name) (named_at r.name u.name) ∙ entry_is u e g)
found_structure (r ∷ rs) (u ∷ es) l h (suc k) e g =
    position_cons (λ y. is_called e.name y.name) (structure r u) (map (λ p. structure p.0 p.1) (zip rs es))
    ∙ ap₂ (λ b p. cond b (Some 0) (option_map suc p))
    (ap (λ n. bytes_eq n e.name) (named_at r.name u.name) ∙ h 0 (suc k) u e (λ q. absurd (omega arith)) refl g)
    (found_structure rs es (omega arith) (λ i j a b d p q. h (suc i) (suc j) a b (λ r. d (omega arith)) p q) k e g)

-- none of these variables has the name
no_variable : (new : Name → Name) (any : Bool) (z : Name) (vs : List prism.Var) (es : List Entry) → ((i : ℕ) (e : Entry) → slice_get es i ≡ Some e → bytes_eq e.name z ≡ false) →
    position (λ y. is_called z y.name) (map (λ p. variable new any p.0 p.1) (zip vs es)) ≡ None
no_variable new any z [] es h = refl
no_variable new any z (x ∷ vs) [] h = refl
no_variable new any z (x ∷ vs) (e ∷ es) h =
    position_cons (λ y. is_called z y.name) (variable new any x e) (map (λ p. variable new any p.0 p.1) (zip vs es))
    ∙ ap₂ (λ b p. cond b (Some 0) (option_map suc p)) (h 0 e refl) (no_variable new any z vs es (λ i u g. h (suc i) u g))

module _ (file : prism.File) where
  pub structure_here : (i k : ℕ) (e : Entry) → slice_get (new_names file).rewards k ≡ Some e → structure_number (translated file) i e.name ≡ Some k
  structure_here i k e g =
      ap (λ os. place_in os i e.name) (structures_owned file)
      ∙ place_owned i e.name (new_structures file)
      ∙ found_structure file.rewards (new_names file).rewards (for_rewards file) (rewards_apart file) k e g

  pub no_column : (i k : ℕ) (e : Entry) → slice_get (new_names file).rewards k ≡ Some e → column_number (translated file) i e.name ≡ None
  no_column i k e g =
      let a = slice_get-take (length file.rewards) k (drop (rewards_at file (entries file)) (entries file)) e g in
      let p = a.0 in
      let m = length (element_names (translated file)) in
      column_is file i e.name
      ∙ ap (λ ps. option_map (λ k. m + k) (position (λ y. is_called e.name y.name) (map (λ p. variable (new_names file).value (has_condition file) p.0 p.1) ps)))
      (sym (zip-take (variables file) (drop (length file.constants) (entries file))))
      ∙ ap (option_map (λ k. m + k))
      (no_variable (new_names file).value (has_condition file) e.name (variables file) (new_names file).variables
      (λ j u h.
      let b = slice_get-take (length (variables file)) j (drop (length file.constants) (entries file)) u h in
      let q = b.0 in
      values_apart file (length file.constants + j) (rewards_at file (entries file) + k) u e (omega arith) (omega arith) (λ r. absurd (omega arith))
      (sym (slice_get-drop (length file.constants) j (entries file)) ∙ b.1) (sym (slice_get-drop (rewards_at file (entries file)) k (entries file)) ∙ a.1)))

-- ---- lists of rewards
set_here : (front : List Fraction) (a x : Fraction) (xs : List Fraction) → slice_set (front ++ a ∷ xs) (length front) x ≡ front ++ x ∷ xs
set_here [] a x xs = refl
set_here (y ∷ front) a x xs = ap (λ r. y ∷ r) (set_here front a x xs)

own_noughts : (seen : Owned → Seen) (rs : List prism.Rewards) (es : List Entry) → length rs ≡ length es →
    own_rewards (map (λ r. no_reward) (map seen (owned_by None (map (λ p. structure p.0 p.1) (zip rs es))))) ≡ map (λ r. nought) rs
own_noughts seen [] es l = refl
own_noughts seen (r ∷ rs) [] l = absurd cc
own_noughts seen (r ∷ rs) (e ∷ es) l = ap (λ x. nought ∷ x) (own_noughts seen rs es (omega arith))

none_undefined : {X : Type 0} (xs : List X) → list_any (λ m. is_none m.value) (map (λ r. no_reward) xs) ≡ false
none_undefined [] = refl
none_undefined (x ∷ xs) = none_undefined xs

-- the members that a stricter test keeps
pub kept_all : {X : Type 0} (P : X → Type 0) (p q : X → Bool) → ((x : X) → q x ≡ true → p x ≡ true) → (xs : List X) → All P (filter p xs) → All P (filter q xs)
kept_all P p q h [] a = a
kept_all P p q h (x ∷ xs) a = by_test (p x) (q x) refl refl (kept_all P p q h xs) a
  where
    by_test : (b c : Bool) → p x ≡ b → q x ≡ c → (All P (filter p xs) → All P (filter q xs)) → All P (cond b (x ∷ filter p xs) (filter p xs)) → All P (cond c (x ∷ filter q xs) (filter q xs))
    by_test true true e f k a = All-cons P x (filter q xs) (All-head P x (filter p xs) a) (k (All-tail P x (filter p xs) a))
    by_test true false e f k a = k (All-tail P x (filter p xs) a)
    by_test false true e f k a = absurd (let t : false ≡ true = sym e ∙ h x f in cc)
    by_test false false e f k a = k a

module _ (file : prism.File) (v w : Valuation) (sound : IsSoundUnder file v) (alike : GivesAlike file v w) (s : Values) (long : length s ≡ length (variables file)) where
  abbrev g : File
  g = translated file

  abbrev old : Name → Seen
  old = prism_moment.names_in file v s unchanged

  -- what an element of this number writes and assigns by some assignments
  abbrev writes_by : ℕ → List jani.Write → List Write
  writes_by i ws = flat_map (jani_moment.write_at (translated file) w (state_of file s) i) ws

  abbrev pub assigned_by : ℕ → List jani.Write → List Reward
  assigned_by i ws = flat_map (jani_moment.reward_at (translated file) w (state_of file s) i) ws

  -- ---- no variable is written
  no_writes : (i : ℕ) (wanted : ItemOn → Bool) (rs : List prism.Rewards) (es : List Entry) → ((k : ℕ) (e : Entry) → slice_get es k ≡ Some e → column_number g i e.name ≡ None) →
      writes_by i (flat_map (λ p. reward_of (new_names file) wanted p.0 p.1) (zip rs es)) ≡ []
  no_writes i wanted [] es h = refl
  no_writes i wanted (r ∷ rs) [] h = refl
  no_writes i wanted (r ∷ rs) (e ∷ es) h = by_items (filter (λ i. wanted i.on) r.items) (no_writes i wanted rs es (λ k u q. h (suc k) u q))
    where
      rest : List jani.Write
      rest = flat_map (λ p. reward_of (new_names file) wanted p.0 p.1) (zip rs es)

      by_items : (is : List prism.Item) → writes_by i rest ≡ [] → writes_by i (sum_to (new_names file) (instead_if r.name e.name) is ++ rest) ≡ []
      by_items [] t = t
      by_items (y ∷ is) t =
          ap₂ (λ a b. a ++ b)
          (ap (λ p. jani_moment.column_write (jani_scene.columns_of g w) p (jani_scene.see (sum_behind (new_names file) (item_value (new_names file) y) is) (jani_moment.names_in g w (state_of file s) i)))
          (ap (column_number g i) (named_at r.name e.name) ∙ h 0 e refl)) t

  pub monitor_writes : (i : ℕ) (wanted : ItemOn → Bool) → writes_by i (rewards_of (new_names file) wanted file.rewards) ≡ []
  monitor_writes i wanted = no_writes i wanted file.rewards (new_names file).rewards (no_column file i)

  -- ---- each structure is assigned the sum of its items
  abbrev sum_of_items : List prism.Item → Option Fraction
  sum_of_items is = (summed (map (λ i. (item_at old i).item) is)).value

  module _ (i : ℕ) (label : Option Name) (wanted : ItemOn → Bool) (same : (o : ItemOn) → is_for_choices label (adds_of o) ≡ wanted o) where
    abbrev SoundItems : prism.Rewards → Type 0
    SoundItems r = All (SoundItem file v s) (filter (λ i. wanted i.on) r.items)

    abbrev gives : List prism.Rewards → List Entry → List Reward
    gives rs es = assigned_by i (flat_map (λ p. reward_of (new_names file) wanted p.0 p.1) (zip rs es))

    abbrev earn : List prism.Rewards → List Sum
    earn rs = choice_rewards (map (λ r. map (item_at old) r.items) rs) label

    -- one structure
    sum_seen : (y : prism.Item) (is : List prism.Item) → All (SoundItem file v s) (y ∷ is) →
        number_of (jani_scene.see (sum_behind (new_names file) (item_value (new_names file) y) is) (jani_moment.names_in g w (state_of file s) i)).value ≡ sum_of_items (y ∷ is)
    sum_seen y is a = items_seen (new_names file) old (jani_moment.names_in g w (state_of file s) i) (here file v w sound alike s long i) y is a

    assigned_one : (r : prism.Rewards) (e : Entry) (is : List prism.Item) → All (SoundItem file v s) is → (front behind : List Fraction) (rest : List jani.Write) → structure_number g i e.name ≡ Some (length front) →
        assigned (front ++ nought ∷ behind) (assigned_by i (sum_to (new_names file) (instead_if r.name e.name) is ++ rest))
        ≡ assigned (front ++ unwrap_or (sum_of_items is) nought ∷ behind) (assigned_by i rest)
    assigned_one r e [] a front behind rest h = refl
    assigned_one r e (y ∷ is) a front behind rest h =
        let value = jani_scene.see (sum_behind (new_names file) (item_value (new_names file) y) is) (jani_moment.names_in g w (state_of file s) i) in
        ap (λ p. assigned (front ++ nought ∷ behind) (jani_moment.reward_of p value ++ assigned_by i rest)) (ap (structure_number g i) (named_at r.name e.name) ∙ h)
        ∙ ap (λ o. assigned o (assigned_by i rest)) (set_here front nought (unwrap_or (number_of value.value) nought) behind)
        ∙ ap (λ x. assigned (front ++ unwrap_or x nought ∷ behind) (assigned_by i rest)) (sum_seen y is a)

    undefined_one : (r : prism.Rewards) (e : Entry) (is : List prism.Item) → All (SoundItem file v s) is → (k : ℕ) (rest : List jani.Write) → structure_number g i e.name ≡ Some k →
        list_any (λ r. is_none (number_of r.value.value)) (assigned_by i (sum_to (new_names file) (instead_if r.name e.name) is ++ rest))
        ≡ (is_none (sum_of_items is) || list_any (λ r. is_none (number_of r.value.value)) (assigned_by i rest))
    undefined_one r e [] a k rest h = refl
    undefined_one r e (y ∷ is) a k rest h =
        let value = jani_scene.see (sum_behind (new_names file) (item_value (new_names file) y) is) (jani_moment.names_in g w (state_of file s) i) in
        ap (λ p. list_any (λ r. is_none (number_of r.value.value)) (jani_moment.reward_of p value ++ assigned_by i rest)) (ap (structure_number g i) (named_at r.name e.name) ∙ h)
        ∙ ap (λ x. is_none x || list_any (λ r. is_none (number_of r.value.value)) (assigned_by i rest)) (sum_seen y is a)

    earned_one : (r : prism.Rewards) → sum_of_items (filter (λ i. wanted i.on) r.items) ≡ (sum_for (is_for_choices label) (map (item_at old) r.items)).value
    earned_one r = ap (λ l. (summed l).value) (sym (wanted_items (is_for_choices label) wanted same old r.items))

    -- all structures
    all_assigned : (rs : List prism.Rewards) (es : List Entry) → length rs ≡ length es → All SoundItems rs → (front : List Fraction) →
        ((k : ℕ) (e : Entry) → slice_get es k ≡ Some e → structure_number g i e.name ≡ Some (length front + k)) →
        assigned (front ++ map (λ r. nought) rs) (gives rs es) ≡ front ++ own_rewards (earn rs)
    all_assigned [] es l a front h = refl
    all_assigned (r ∷ rs) [] l a front h = absurd cc
    all_assigned (r ∷ rs) (e ∷ es) l a front h =
        let is = filter (λ i. wanted i.on) r.items in
        let x = unwrap_or (sum_of_items is) nought in
        let long = length-append front (x ∷ []) in
        let at : length front + 0 ≡ length front = omega arith in
        assigned_one r e is (All-head SoundItems r rs a) front (map (λ r. nought) rs) (flat_map (λ p. reward_of (new_names file) wanted p.0 p.1) (zip rs es)) (h 0 e refl ∙ ap Some at)
        ∙ ap (λ o. assigned o (gives rs es)) (sym (append_assoc front (x ∷ []) (map (λ r. nought) rs)))
        ∙ all_assigned rs es (omega arith) (All-tail SoundItems r rs a) (front ++ x ∷ [])
        (λ k u q. let on : length front + suc k ≡ length (front ++ x ∷ []) + k = omega arith in h (suc k) u q ∙ ap Some on)
        ∙ append_assoc front (x ∷ []) (own_rewards (earn rs))
        ∙ ap (λ o. front ++ unwrap_or o nought ∷ own_rewards (earn rs)) (earned_one r)

    all_undefined : (rs : List prism.Rewards) (es : List Entry) → length rs ≡ length es → All SoundItems rs → (n : ℕ) →
        ((k : ℕ) (e : Entry) → slice_get es k ≡ Some e → structure_number g i e.name ≡ Some (n + k)) →
        list_any (λ r. is_none (number_of r.value.value)) (gives rs es) ≡ list_any (λ m. is_none m.value) (earn rs)
    all_undefined [] es l a n h = refl
    all_undefined (r ∷ rs) [] l a n h = absurd cc
    all_undefined (r ∷ rs) (e ∷ es) l a n h =
        let is = filter (λ i. wanted i.on) r.items in
        undefined_one r e is (All-head SoundItems r rs a) (n + 0) (flat_map (λ p. reward_of (new_names file) wanted p.0 p.1) (zip rs es)) (h 0 e refl)
        ∙ ap₂ (λ o b. is_none o || b) (earned_one r)
        (all_undefined rs es (omega arith) (All-tail SoundItems r rs a) (n + 1)
        (λ k u q. let on : n + suc k ≡ n + 1 + k = omega arith in h (suc k) u q ∙ ap Some on))

    -- the rewards of the JANI file's own
    abbrev own : List Sum
    own = map (λ r. no_reward) (jani_moment.moment (translated file) w (state_of file s)).rewards

    own_are : own_rewards own ≡ map (λ r. nought) file.rewards
    own_are =
        ap (λ os. own_rewards (map (λ r. no_reward) (map (jani_moment.transient_at (translated file) w (state_of file s)) os))) (structures_owned file)
        ∙ own_noughts (jani_moment.transient_at (translated file) w (state_of file s)) file.rewards (new_names file).rewards (for_rewards file)

    -- they become what the choices earn, and are undefined where that is
    pub monitor_assigned : All SoundItems file.rewards →
        assigned (own_rewards own) (assigned_by i (rewards_of (new_names file) wanted file.rewards)) ≡ own_rewards (choice_rewards (prism_moment.moment file v s).rewards label)
    monitor_assigned a =
        ap (λ o. assigned o (gives file.rewards (new_names file).rewards)) own_are
        ∙ all_assigned file.rewards (new_names file).rewards (for_rewards file) a []
        (λ k e q. let on : k ≡ 0 + k = omega arith in structure_here file i k e q ∙ ap Some on)

    pub monitor_undefined : All SoundItems file.rewards →
        (list_any (λ r. is_none (number_of r.value.value)) (assigned_by i (rewards_of (new_names file) wanted file.rewards)) || list_any (λ m. is_none m.value) own)
        ≡ list_any (λ m. is_none m.value) (choice_rewards (prism_moment.moment file v s).rewards label)
    monitor_undefined a =
        ap (λ b. list_any (λ r. is_none (number_of r.value.value)) (gives file.rewards (new_names file).rewards) || b)
        (none_undefined (jani_moment.moment (translated file) w (state_of file s)).rewards)
        ∙ or-false _
        ∙ all_undefined file.rewards (new_names file).rewards (for_rewards file) a 0
        (λ k e q. let on : k ≡ 0 + k = omega arith in structure_here file i k e q ∙ ap Some on)
