-- What an edge assigns to reward structures is what the items for the action of its target add up to.
use Rattle.std.specs.Prelude.{◌≡◌, ℕ, zero, suc, ◌+◌, ◌<◌, ◌≤◌, List, [], ◌∷◌, ◌++◌, map, length, Bool, true, false, ◌&&◌, ◌||◌, cond, Option, Some, None, is_none, is_some, if◌then◌else◌, nat_eq, nat_lt, bytes_eq, get_or, unwrap_or, IfSome}
use Rattle.std.specs.List.{flat_map, filter, list_any, position, position_or_len, All}
use Rattle.std.specs.Option.{option_map, option_or}
use Rattle.std.proofs.Common.{refl, sym, ap, ap₂, ◌∙◌, arith, append-nil, eq-eqb, ltb-true}
use Rattle.std.proofs.lemmas.List.Elements.{filter-append, All-nil, All-cons, All-head, All-tail, All-filter, All-append, All-map}
use Rattle.std.proofs.Math.Bool.{or-false}
use Rattle.basics.specs.Numbers.{nat_eq_comm}
use Rattle.basics.specs.Members.{any-map, any_agree, filter-map, any_never}
use Rattle.basics.specs.Lists.{map_agree}
use Rattle.frac_core.specs.Fraction.{Fraction, nought}
use Rattle.frac_core.specs.Laws.{plus_nought}
use Rattle.frac_core.specs.Sums.{total}
use Rattle.op_trees.specs.declared.tree.Value.{Value}
use Rattle.op_trees.specs.Seen.{Seen}
use Rattle.process_core.specs.Product.{map-map, flat_map_agree}
use Rattle.process_core.specs.Bounds.{summed, adds}
use Rattle.process_core.specs.Ready.{Values, Name, Reward, Sum, same_label}
use Rattle.process_core.specs.Choices.{number_of, all_defined, assigned, own_rewards}
use Rattle.choice_laws.specs.Columns.{counting}
use Rattle.choice_laws.specs.Rewards.{EarnsBy, any_undef, some_undef}
use Rattle.choice_laws.proofs.Columns.{set-counting}
use Rattle.choice_laws.proofs.Walks.{any-filter, any-flat_map, any_agree_in, any_and, any_exchange, filter-flat_map, filter_all}
use Rattle.prism_tree.specs.Syntax as prism
use Rattle.prism_names.specs.Names as prism_names
use Rattle.process_core.specs.Instance.{Valuation, numbered, only_if}
use Rattle.prism_flat.specs.Moment as prism_moment
use Rattle.prism_flat.specs.Moment.{Adds, Earned, adds_of, item_at}
use Rattle.prism_flat.specs.Process.{is_for_choices, sum_for, choice_rewards}
use Rattle.jani_tree.specs.Syntax as syntax
use Rattle.jani_tree.specs.Syntax.{Expression, File}
use Rattle.jani_meaning.specs.Elements.{Owned, structures, structure_number, is_own, is_global}
use Rattle.jani_meaning.specs.Scene as jani_scene
use Rattle.jani_meaning.specs.Moment as jani_moment
use Rattle.jani_meaning.specs.Process.{no_reward}
use Rattle.name_table.specs.PrismAsks.{NewNames, name_at}
use Rattle.prism_translation.specs.Elements.{Placed, is_at}
use Rattle.prism_translation.specs.Names.{new_names}
use Rattle.prism_translation.specs.Modules.{Action, actions, truth}
use Rattle.prism_translation.specs.Marks.{Given, given_to, first_writes, assigned_to, state_item, target_item, target_items_by, target_items, or_nought, structure}
use Rattle.prism_translation.specs.StateLaws.{state_of}
use Rattle.prism_translation.specs.Translated.{translated}
use Rattle.prism_translation.specs.Sound.{AtMostOne}
use Rattle.prism_translation.proofs.Follows.{IsSound, sees, truth_seen}

-- ---- numbered structures
numbered_counting : {X Y : Type 0} (f : ℕ → X → Y) (g : ℕ → Y) → ((j : ℕ) (x : X) → f j x ≡ g j) → (k : ℕ) (xs : List X) → numbered (λ j x. f j x ∷ []) k xs ≡ map g (counting k (length xs))
numbered_counting f g h k [] = refl
numbered_counting f g h k (x ∷ xs) = ap₂ (λ a l. a ∷ l) (h k x) (numbered_counting f g h (k + 1) xs)

map_counting : {X Y : Type 0} (y : Y) (k : ℕ) (xs : List X) → map (λ x. y) xs ≡ map (λ j. y) (counting k (length xs))
map_counting y k [] = refl
map_counting y k (x ∷ xs) = ap (λ l. y ∷ l) (map_counting y (k + 1) xs)

-- ---- rewards that are assigned one after another
abbrev pub value_of : Reward → Fraction
value_of r = unwrap_or (number_of r.value.value) nought

abbrev after : (ℕ → Fraction) → List Reward → ℕ → Fraction
after f [] j = f j
after f (r ∷ rs) j = after (λ i. if nat_eq r.structure i then value_of r else f i) rs j

assigned_after : (n : ℕ) (f : ℕ → Fraction) (rs : List Reward) → All (λ r. r.structure < n) rs → assigned (map f (counting 0 n)) rs ≡ map (after f rs) (counting 0 n)
assigned_after n f [] h = refl
assigned_after n f (r ∷ rs) h =
    ap (λ o. assigned o rs)
    (set-counting f (value_of r) 0 n r.structure (All-head (λ r. r.structure < n) r rs h)
    ∙ (let e : 0 + r.structure ≡ r.structure = omega arith in ap (λ i. map (λ j. if nat_eq i j then value_of r else f j) (counting 0 n)) e))
    ∙ assigned_after n (λ i. if nat_eq r.structure i then value_of r else f i) rs (All-tail (λ r. r.structure < n) r rs h)

-- ---- sums of items
-- the first member's value, else another
abbrev pub first_of : {X Y : Type 0} → Y → (X → Y) → List X → Y
first_of y f [] = y
first_of y f (x ∷ xs) = f x

some_total : (o : Option Fraction) → option_map total (all_defined (o ∷ [])) ≡ o
some_total None = refl
some_total (Some x) = ap Some (plus_nought x)

module _ (file : File) (v w : Valuation) (s : Values) where
  abbrev u : Values
  u = state_of file s

  abbrev names : NewNames
  names = new_names file

  abbrev pub acts : List Action
  acts = actions file names

  abbrev env : Name → Seen
  env = prism_moment.names_in (translated file) v s prism_names.unchanged

  -- ---- items for an action
  abbrev wanted : Option Name → prism.Item → Bool
  wanted a i = is_for_choices a (adds_of i.on)

  nought_dropped : (a : Option Name) (is : List prism.Item) → filter (wanted a) (or_nought file names is) ≡ filter (wanted a) is
  nought_dropped a [] = refl
  nought_dropped a (i ∷ is) = refl

  states_dropped : (a : Option Name) (gs : List Given) → filter (wanted a) (map (state_item file names) gs) ≡ []
  states_dropped a [] = refl
  states_dropped a (g ∷ gs) = states_dropped a gs

  abbrev pub items_by : ℕ → Action → List prism.Item
  items_by j t = target_items file names j t

  all_of_action : (a : Option Name) (p : Placed) (x : Name) (es : List Expression) (b : Bool) → same_label a (Some x) ≡ b →
      filter (wanted a) (map (target_item file names x p) es) ≡ cond b (map (target_item file names x p) es) []
  all_of_action a p x [] true h = refl
  all_of_action a p x [] false h = refl
  all_of_action a p x (e ∷ es) true h =
      ap₂ (λ (b : Bool) (l : List prism.Item). cond b (target_item file names x p e ∷ l) l) h (all_of_action a p x es true h)
  all_of_action a p x (e ∷ es) false h =
      ap₂ (λ (b : Bool) (l : List prism.Item). cond b (target_item file names x p e ∷ l) l) h (all_of_action a p x es false h)

  items_kept : (a : Option Name) (j : ℕ) (t : Action) (m : Option Placed) → filter (wanted a) (target_items_by file names j t.name m) ≡ cond (same_label a (Some t.name)) (target_items_by file names j t.name m) []
  items_kept a j t None = by_test (same_label a (Some t.name))
    where
      by_test : (b : Bool) → ◌≡◌ {A = List prism.Item} [] (cond b [] [])
      by_test true = refl
      by_test false = refl
  items_kept a j t (Some p) = all_of_action a p t.name (assigned_to file j p) (same_label a (Some t.name)) refl

  kept_walk : (a : Option Name) (j : ℕ) (ts : List Action) → flat_map (λ t. cond (same_label a (Some t.name)) (items_by j t) []) ts ≡ flat_map (items_by j) (filter (λ t. same_label a (Some t.name)) ts)
  kept_walk a j [] = refl
  kept_walk a j (t ∷ ts) = by_test (same_label a (Some t.name)) (kept_walk a j ts)
    where
      by_test : (b : Bool) → flat_map (λ t. cond (same_label a (Some t.name)) (items_by j t) []) ts ≡ flat_map (items_by j) (filter (λ t. same_label a (Some t.name)) ts) →
          cond b (items_by j t) [] ++ flat_map (λ t. cond (same_label a (Some t.name)) (items_by j t) []) ts
          ≡ flat_map (items_by j) (cond b (t ∷ filter (λ t. same_label a (Some t.name)) ts) (filter (λ t. same_label a (Some t.name)) ts))
      by_test true e = ap (λ l. items_by j t ++ l) e
      by_test false e = e

  items_for : (a : Option Name) (j : ℕ) (o : Owned) (x : Name) → filter (wanted a) (structure file names j o x).items ≡ flat_map (items_by j) (filter (λ t. same_label a (Some t.name)) acts)
  items_for a j o x =
      nought_dropped a (map (state_item file names) (given_to file o) ++ flat_map (target_items file names j) acts)
      ∙ filter-append (wanted a) (map (state_item file names) (given_to file o)) (flat_map (target_items file names j) acts)
      ∙ ap₂ (λ k l. k ++ l) (states_dropped a (given_to file o))
      (filter-flat_map (wanted a) (target_items file names j) acts ∙ flat_map_agree _ _ (λ t. items_kept a j t t.target.maker) acts ∙ kept_walk a j acts)

  -- ---- what they add up to
  abbrev pub sum_of : List prism.Item → Sum
  sum_of is = summed (map (λ e. e.item) (map (item_at env) is))

  sum_is : (a : Option Name) (j : ℕ) (o : Owned) (x : Name) → sum_for (is_for_choices a) (map (item_at env) (structure file names j o x).items) ≡ sum_of (flat_map (items_by j) (filter (λ t. same_label a (Some t.name)) acts))
  sum_is a j o x =
      ap (λ (l : List Earned). summed (map (λ e. e.item) l))
      (filter-map (λ e. is_for_choices a e.adds) (item_at env) (structure file names j o x).items ∙ ap (map (item_at env)) (items_for a j o x))

  map-numbered : {X Y Z : Type 0} (h : Y → Z) (f : ℕ → X → Y) (k : ℕ) (xs : List X) → map h (numbered (λ j x. f j x ∷ []) k xs) ≡ numbered (λ j x. h (f j x) ∷ []) k xs
  map-numbered h f k [] = refl
  map-numbered h f k (x ∷ xs) = ap (λ l. h (f k x) ∷ l) (map-numbered h f (k + 1) xs)

  abbrev pub count : ℕ
  count = length (structures file)

  abbrev pub given : Option Name → List Sum
  given = choice_rewards (prism_moment.moment (translated file) v s).rewards

  given_is : (a : Option Name) → given a ≡ map (λ j. sum_of (flat_map (items_by j) (filter (λ t. same_label a (Some t.name)) acts))) (counting 0 count)
  given_is a =
      map-map (sum_for (is_for_choices a)) (λ r. map (item_at env) r.items) (translated file).rewards
      ∙ map-numbered (λ r. sum_for (is_for_choices a) (map (item_at env) r.items)) (λ j o. structure file names j o (name_at names.rewards j)) 0 (structures file)
      ∙ numbered_counting (λ j o. sum_for (is_for_choices a) (map (item_at env) (structure file names j o (name_at names.rewards j)).items))
      (λ j. sum_of (flat_map (items_by j) (filter (λ t. same_label a (Some t.name)) acts))) (λ j o. sum_is a j o (name_at names.rewards j)) 0 (structures file)

  -- a target's own items
  pub given_for : (t : Action) → ((q : Action → Bool) → filter (λ x. bytes_eq t.name x.name) (filter q acts) ≡ only_if (q t) t) →
      given (Some t.name) ≡ map (λ j. sum_of (items_by j t)) (counting 0 count)
  given_for t alone =
      given_is (Some t.name)
      ∙ map_agree _ _ (λ j. ap sum_of (ap (flat_map (items_by j)) (ap (filter (λ x. bytes_eq t.name x.name)) (sym (filter_all acts)) ∙ alone (λ x. true)) ∙ append-nil (items_by j t))) (counting 0 count)

  pub given_none : given None ≡ map (λ j. sum_of []) (counting 0 count)
  given_none = given_is None ∙ map_agree _ _ (λ j. ap (λ l. sum_of (flat_map (items_by j) l)) (none_kept acts)) (counting 0 count)
    where
      none_kept : (ts : List Action) → filter (λ t. same_label None (Some t.name)) ts ≡ []
      none_kept [] = refl
      none_kept (t ∷ ts) = none_kept ts

  -- ---- one edge
  module _ (p : Placed) where
    abbrev k : ℕ
    k = p.element.number

    abbrev numbers : syntax.Write → Option ℕ
    numbers x = structure_number file k x.target.name

    abbrev values : ℕ → List syntax.Write → List Expression
    values j ws = map (λ x. x.value) (filter (λ x. is_at j (numbers x)) ws)

    abbrev seen_number : Expression → Option Fraction
    seen_number e = number_of (jani_scene.see e (jani_moment.names_in file w u k)).value

    abbrev paid_by : List syntax.Write → List Reward
    paid_by ws = flat_map (jani_moment.reward_at file w u k) ws

    -- ---- what is assigned
    paid_after : (f : ℕ → Fraction) (ws : List syntax.Write) (j : ℕ) → AtMostOne (values j ws) →
        after f (paid_by ws) j ≡ first_of (f j) (λ e. unwrap_or (seen_number e) nought) (values j ws)
    paid_after f [] j h = refl
    paid_after f (x ∷ ws) j h = by_number (numbers x) h (λ g. paid_after g ws j)
      where
        next : ℕ → ℕ → Fraction
        next i m = if nat_eq i m then unwrap_or (seen_number x.value) nought else f m

        by_test : (i : ℕ) (b : Bool) → nat_eq j i ≡ b → AtMostOne (map (λ x. x.value) (cond b (x ∷ filter (λ x. is_at j (numbers x)) ws) (filter (λ x. is_at j (numbers x)) ws))) →
            (AtMostOne (values j ws) → after (next i) (paid_by ws) j ≡ first_of (next i j) (λ e. unwrap_or (seen_number e) nought) (values j ws)) →
            after (next i) (paid_by ws) j
            ≡ first_of (f j) (λ e. unwrap_or (seen_number e) nought) (map (λ x. x.value) (cond b (x ∷ filter (λ x. is_at j (numbers x)) ws) (filter (λ x. is_at j (numbers x)) ws)))
        by_test i true e h ih = alone (values j ws) h ih
          where
            here : next i j ≡ unwrap_or (seen_number x.value) nought
            here = ap (λ b. if b then unwrap_or (seen_number x.value) nought else f j) (nat_eq_comm i j ∙ e)

            alone : (l : List Expression) → AtMostOne (x.value ∷ l) → (AtMostOne l → after (next i) (paid_by ws) j ≡ first_of (next i j) (λ e. unwrap_or (seen_number e) nought) l) →
                after (next i) (paid_by ws) j ≡ unwrap_or (seen_number x.value) nought
            alone [] h ih = ih tt ∙ here
            alone (y ∷ l) h ih = absurd h
        by_test i false e h ih =
            ih h ∙ ap (λ y. first_of y (λ e. unwrap_or (seen_number e) nought) (values j ws)) (ap (λ b. if b then unwrap_or (seen_number x.value) nought else f j) (nat_eq_comm i j ∙ e))

        by_number : (o : Option ℕ) → AtMostOne (map (λ x. x.value) (cond (is_at j o) (x ∷ filter (λ x. is_at j (numbers x)) ws) (filter (λ x. is_at j (numbers x)) ws))) →
            ((g : ℕ → Fraction) → AtMostOne (values j ws) → after g (paid_by ws) j ≡ first_of (g j) (λ e. unwrap_or (seen_number e) nought) (values j ws)) →
            after f (jani_moment.reward_of o (jani_scene.see x.value (jani_moment.names_in file w u k)) ++ paid_by ws) j
            ≡ first_of (f j) (λ e. unwrap_or (seen_number e) nought) (map (λ x. x.value) (cond (is_at j o) (x ∷ filter (λ x. is_at j (numbers x)) ws) (filter (λ x. is_at j (numbers x)) ws)))
        by_number None h ih = ih f h
        by_number (Some i) h ih = by_test i (nat_eq j i) refl h (ih (next i))

    -- ---- what the items add up to
    item_adds : (x : Name) (e : Expression) → IsSound file v w s k e → adds (item_at env (target_item file names x p e)).item ≡ seen_number e ∷ []
    item_adds x e h =
        ap₂ (λ (o : Option Value) (z : Seen). adds (record { guard = record { value = o; wide = (prism_names.see truth env).wide }; value = z })) (truth_seen file v w s) (sees file v w s k e h)

    sum_value : (x : Name) (es : List Expression) → AtMostOne es → All (IsSound file v w s k) es →
        (sum_of (map (target_item file names x p) es)).value ≡ first_of (Some nought) seen_number es
    sum_value x [] h g = refl
    sum_value x (e ∷ []) h g =
        ap (λ l. option_map total (all_defined (l ++ []))) (item_adds x e (All-head (IsSound file v w s k) e [] g)) ∙ some_total (seen_number e)
    sum_value x (e ∷ f ∷ es) h g = absurd h

    unwrapped : (es : List Expression) → unwrap_or (first_of (Some nought) seen_number es) nought ≡ first_of nought (λ e. unwrap_or (seen_number e) nought) es
    unwrapped [] = refl
    unwrapped (e ∷ es) = refl

    -- ---- undefined rewards
    undefined_one : (es : List Expression) → AtMostOne es → is_none (first_of (Some nought) seen_number es) ≡ list_any (λ e. is_none (seen_number e)) es
    undefined_one [] h = refl
    undefined_one (e ∷ []) h = by_test (is_none (seen_number e))
      where
        by_test : (b : Bool) → b ≡ (b || false)
        by_test true = refl
        by_test false = refl
    undefined_one (e ∷ f ∷ es) h = absurd h

    abbrev lacks : syntax.Write → Bool
    lacks x = is_none (seen_number x.value)

    paid_undef : (ws : List syntax.Write) → any_undef (paid_by ws) ≡ list_any (λ x. is_some (numbers x) && lacks x) ws
    paid_undef ws = any-flat_map (λ r. is_none (number_of r.value.value)) (jani_moment.reward_at file w u k) ws ∙ any_agree _ _ (λ x. by_number x (numbers x)) ws
      where
        by_number : (x : syntax.Write) (o : Option ℕ) → any_undef (jani_moment.reward_of o (jani_scene.see x.value (jani_moment.names_in file w u k))) ≡ (is_some o && lacks x)
        by_number x None = refl
        by_number x (Some i) = or-false (lacks x)

    -- structures are numbered below their count
    abbrev Within : syntax.Write → Type 0
    Within x = IfSome (numbers x) (λ i. i < count)

    among : (i n m : ℕ) → n ≤ i → i < n + m → list_any (λ j. nat_eq j i) (counting n m) ≡ true
    among i n zero l h = absurd (let no : ⊥ = omega arith in no)
    among i n (suc m) l h = by_test (nat_eq n i) refl (among i (n + 1) m)
      where
        by_test : (b : Bool) → nat_eq n i ≡ b → (n + 1 ≤ i → i < (n + 1) + m → list_any (λ j. nat_eq j i) (counting (n + 1) m) ≡ true) → (b || list_any (λ j. nat_eq j i) (counting (n + 1) m)) ≡ true
        by_test true e ih = refl
        by_test false e ih = ih (other (λ f. differ e (eq-eqb n i f))) (omega arith)
          where
            differ : nat_eq n i ≡ false → nat_eq n i ≡ true → ⊥
            differ x y = absurd cc

            other : (n ≡ i → ⊥) → n + 1 ≤ i
            other f = omega (arith, f)

    stands_once : (x : syntax.Write) → Within x → list_any (λ j. is_at j (numbers x)) (counting 0 count) ≡ is_some (numbers x)
    stands_once x h = by_number (numbers x) h
      where
        by_number : (o : Option ℕ) → IfSome o (λ i. i < count) → list_any (λ j. is_at j o) (counting 0 count) ≡ is_some o
        by_number None h = any_never (counting 0 count)
        by_number (Some i) h = among i 0 count (omega arith) (omega (arith, h))

    all_undef : (ws : List syntax.Write) → All Within ws →
        list_any (λ j. list_any (λ e. is_none (seen_number e)) (values j ws)) (counting 0 count) ≡ list_any (λ x. is_some (numbers x) && lacks x) ws
    all_undef ws h =
        any_agree _ _ (λ j. any-map (λ e. is_none (seen_number e)) (λ x. x.value) (filter (λ x. is_at j (numbers x)) ws) ∙ any-filter lacks (λ x. is_at j (numbers x)) ws) (counting 0 count)
        ∙ any_exchange (λ j x. is_at j (numbers x) && lacks x) (counting 0 count) ws
        ∙ any_agree_in (λ x. list_any (λ j. is_at j (numbers x) && lacks x) (counting 0 count)) (λ x. is_some (numbers x) && lacks x) ws
        (λ i a l.
        let x = get_or ws i a in
        any_and (λ j. is_at j (numbers x)) (lacks x) (counting 0 count) ∙ ap (λ b. b && lacks x) (stands_once x (h i a l)))

    -- ---- the edge earns what its target's items add up to
    abbrev pub paid_here : List Reward
    paid_here = paid_by (first_writes p.edge.destinations)

    -- at most one assignment to each structure, and each expression is sound
    pub record PaysSoundly : Type 0 where
      pub once : (j : ℕ) → AtMostOne (assigned_to file j p)
      pub sound : All (λ x. IsSound file v w s k x.value) (first_writes p.edge.destinations)

    place_within : (b : Bool) (i n : ℕ) → b ≡ nat_lt i n → IfSome (cond b (Some i) None) (λ j. j < n)
    place_within true i n e = ltb-true i n (sym e)
    place_within false i n e = tt

    or_within : (a b : Option ℕ) (n : ℕ) → IfSome a (λ j. j < n) → IfSome b (λ j. j < n) → IfSome (option_or a b) (λ j. j < n)
    or_within (Some i) b n h g = h
    or_within None b n h g = g

    all_within : (x : syntax.Write) → Within x
    all_within x =
        let vars = structures file in
        let a = position_or_len (is_own k x.target.name) vars in
        let b = position_or_len (is_global x.target.name) vars in
        or_within (position (is_own k x.target.name) vars) (position (is_global x.target.name) vars) count
        (place_within (nat_lt a (length vars)) a (length vars) refl) (place_within (nat_lt b (length vars)) b (length vars) refl)

    rewards_within : (ws : List syntax.Write) → All (λ r. r.structure < count) (paid_by ws)
    rewards_within [] = All-nil (λ r. r.structure < count)
    rewards_within (x ∷ ws) =
        All-append (λ r. r.structure < count) (jani_moment.reward_at file w u k x) (paid_by ws) (by_number (numbers x) (all_within x)) (rewards_within ws)
      where
        by_number : (o : Option ℕ) → IfSome o (λ i. i < count) → All (λ r. r.structure < count) (jani_moment.reward_of o (jani_scene.see x.value (jani_moment.names_in file w u k)))
        by_number None h = All-nil (λ r. r.structure < count)
        by_number (Some i) h = All-cons (λ r. r.structure < count) (record { structure = i; value = jani_scene.see x.value (jani_moment.names_in file w u k) }) [] h (All-nil (λ r. r.structure < count))

    values_sound : (ws : List syntax.Write) → All (λ x. IsSound file v w s k x.value) ws → (j : ℕ) → All (IsSound file v w s k) (values j ws)
    values_sound ws h j =
        All-map (IsSound file v w s k) (λ x. x.value) (filter (λ x. is_at j (numbers x)) ws) (All-filter (λ x. is_at j (numbers x)) (λ x. IsSound file v w s k x.value) ws h)

    abbrev pub none : List Sum
    none = map (λ r. no_reward) (jani_moment.moment file w u).rewards

    none_are : own_rewards none ≡ map (λ j. nought) (counting 0 count)
    none_are =
        map-map (λ m. unwrap_or m.value nought) (λ r. no_reward) (jani_moment.moment file w u).rewards
        ∙ map-map (λ r. nought) (jani_moment.transient_at file w u) (structures file)
        ∙ map_counting nought 0 (structures file)

    none_defined : some_undef none ≡ false
    none_defined = any-map (λ m. is_none m.value) (λ r. no_reward) (jani_moment.moment file w u).rewards ∙ any_never (jani_moment.moment file w u).rewards

    -- sums that are these
    abbrev pub sums : Name → List Sum
    sums x = map (λ j. sum_of (target_items_by file names j x (Some p))) (counting 0 count)

    pub earns_here : (x : Name) → PaysSoundly → EarnsBy none (sums x) paid_here
    earns_here x h = record {
      same =
          ap (λ o. assigned o paid_here) none_are
          ∙ assigned_after count (λ j. nought) paid_here (rewards_within (first_writes p.edge.destinations))
          ∙ map_agree _ _
          (λ j. paid_after (λ j. nought) (first_writes p.edge.destinations) j (h.once j)
          ∙ sym (unwrapped (assigned_to file j p))
          ∙ ap (λ o. unwrap_or o nought) (sym (sum_value x (assigned_to file j p) (h.once j) (values_sound (first_writes p.edge.destinations) h.sound j)))) (counting 0 count)
          ∙ sym (map-map (λ m. unwrap_or m.value nought) (λ j. sum_of (target_items_by file names j x (Some p))) (counting 0 count));
      undef =
          ap₂ (λ a b. a || b) (paid_undef (first_writes p.edge.destinations)) none_defined
          ∙ or-false (list_any (λ x. is_some (numbers x) && lacks x) (first_writes p.edge.destinations))
          ∙ sym (all_undef (first_writes p.edge.destinations) (λ i a l. all_within (get_or (first_writes p.edge.destinations) i a)))
          ∙ any_agree _ _
          (λ j. sym (undefined_one (assigned_to file j p) (h.once j)) ∙ ap is_none (sym (sum_value x (assigned_to file j p) (h.once j) (values_sound (first_writes p.edge.destinations) h.sound j)))) (counting 0 count)
          ∙ sym (any-map (λ m. is_none m.value) (λ j. sum_of (target_items_by file names j x (Some p))) (counting 0 count));
    }

  -- no items add up to nothing
  pub no_sums : (any : Placed) → EarnsBy (none any) (map (λ j. sum_of []) (counting 0 count)) []
  no_sums any = record {
    same = none_are any ∙ sym (map-map (λ m. unwrap_or m.value nought) (λ j. sum_of []) (counting 0 count));
    undef = none_defined any ∙ sym (any-map (λ m. is_none m.value) (λ j. sum_of []) (counting 0 count) ∙ any_never (counting 0 count));
  }
