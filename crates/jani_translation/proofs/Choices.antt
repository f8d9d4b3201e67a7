-- At a state, the edges of a translated file follow the commands of the file, and earn what is earned without items.
use Rattle.std.specs.Prelude.{◌≡◌, ℕ, zero, suc, ◌+◌, ◌<◌, ◌≤◌, List, [], ◌∷◌, ◌++◌, map, length, Bool, true, false, not, ◌&&◌, ◌||◌, cond, Option, Some, None, if◌then◌else◌, is_none, is_some, unwrap_or, slice_set, bytes_eq, Contains, IsTrue}
use Rattle.std.specs.List.{AllByRecursion, AllZip, filter, list_any, zip}
use Rattle.std.specs.Option.{option_map}
use Rattle.std.proofs.Common.{refl, sym, ap, ap₂, subst, ◌∙◌, arith, length-append}
use Rattle.std.proofs.lemmas.Bool.Decides.{same_from_decides}
use Rattle.std.proofs.lemmas.Slice.Eq.{bytes_eq-Decides}
use Rattle.std.proofs.lemmas.List.{length-map}
use Rattle.basics.specs.Booleans.{first_false, second_false}
use Rattle.basics.specs.Texts.{bytes_eq_comm}
use Rattle.op_trees.specs.Seen.{Seen}
use Rattle.op_trees.specs.declared.tree.Value.{Value}
use Rattle.op_trees.specs.declared.tree.Value.TheVariants as V
use Rattle.process_core.specs.Zip.{AllZip-filter}
use Rattle.process_core.specs.Ready.{Values, Name, Write, Update, Ready, Sum, Combination, same_label, has_action, firsts, actions_of, silent, sharing, taking}
use Rattle.bridge_io.specs.declared.reason.Named.{Named}
use Rattle.process_core.specs.Bounds.{summed}
use Rattle.process_core.specs.Choices as core
use Rattle.process_core.specs.Choices.{written}
use Rattle.process_core.specs.Follow.{FollowsUpdate, FollowsReady, FollowsCombination, FollowsAlone, silent_follow}
use Rattle.prism_tree.specs.Syntax as prism
use Rattle.prism_tree.specs.declared.syntax.ItemOn.{ItemOn}
use Rattle.prism_tree.specs.declared.syntax.ItemOn.TheVariants as On
use Rattle.prism_names.specs.Names.{unchanged, part_of}
use Rattle.process_core.specs.Instance.{Valuation, numbered}
use Rattle.prism_flat.specs.Moment as prism_moment
use Rattle.prism_flat.specs.Moment.{adds_of, item_at, part_at, Earned}
use Rattle.prism_flat.specs.Process.{is_for_choices, choice_rewards}
use Rattle.jani_meaning.specs.Elements.{Owned, owned_by}
use Rattle.jani_meaning.specs.Moment as jani_moment
use Rattle.jani_meaning.specs.Process.{no_reward}
use Rattle.name_table.specs.declared.entry.Entry.{Entry}
use Rattle.name_table.specs.Asks.{bodies, actions, action_of, new_names}
use Rattle.jani_translation.specs.Parts.{structure}
use Rattle.jani_translation.specs.Automata.{has_items, for_action, for_silent, has_silent, is_some_name, earns_silently, location_values, module_automata, monitor}
use Rattle.jani_translation.specs.Translated.{translated}
use Rattle.jani_translation.specs.SeenLaws.{IsSoundUnder, GivesAlike}
use Rattle.jani_translation.specs.StateLaws.{at_home, state_of, shifted_write, shifted_update, shifted_ready, shifted}
use Rattle.jani_translation.proofs.Each.{n_bodies, for_modules, for_rewards}
use Rattle.jani_translation.proofs.Vectors.{all_actions}
use Rattle.jani_translation.proofs.Differ.{actions_differ}
use Rattle.jani_translation.proofs.Written.{body_part, written_parts}
use Rattle.jani_translation.proofs.Edges.{structures_owned, n_automata}
use Rattle.jani_tree.specs.Syntax.{element_names}
use Rattle.jani_translation.proofs.Counts.{element_total}

-- ---- states
pub any_state : Values → Bool
any_state s = true

pub is_any_state : (s : Values) → IsTrue (any_state s)
unfolding any_state
is_any_state s = refl

pub set_home : {X : Type 0} (xs : List X) (s : Values) (i : ℕ) → i < length xs → slice_set (map (λ x. at_home) xs ++ s) i at_home ≡ map (λ x. at_home) xs ++ s
set_home [] s i l = absurd (omega arith)
set_home (x ∷ xs) s zero l = refl
set_home (x ∷ xs) s (suc i) l = ap (λ r. at_home ∷ r) (set_home xs s i (omega arith))

set_behind : {X : Type 0} (xs : List X) (s : Values) (k : ℕ) (u : Value) → slice_set (map (λ x. at_home) xs ++ s) (length xs + k) u ≡ map (λ x. at_home) xs ++ slice_set s k u
set_behind [] s k u = let on : zero + k ≡ k = omega arith in ap (λ i. slice_set s i u) on
set_behind (x ∷ xs) s k u =
    let on : suc (length xs) + k ≡ suc (length xs + k) = omega arith in
    ap (λ i. slice_set (at_home ∷ (map (λ x. at_home) xs ++ s)) i u) on ∙ ap (λ r. at_home ∷ r) (set_behind xs s k u)

module _ (file : prism.File) where
  abbrev pub n : ℕ
  n = length (element_names (translated file))

  abbrev pub state : Values → Values
  state s = state_of file s

  written_behind : (s : Values) (ws : List Write) → written (state s) (map (shifted_write n) ws) ≡ state (written s ws)
  written_behind s [] = refl
  written_behind s (u ∷ ws) =
      ap (λ t. written t (map (shifted_write n) ws)) (set_behind (element_names (translated file)) s u.column (unwrap_or u.value.value (V.Truth false)))
      ∙ written_behind (slice_set s u.column (unwrap_or u.value.value (V.Truth false))) ws

  -- ---- updates and commands
  any_shifted : (p q : Write → Bool) → ((u : Write) → p (shifted_write n u) ≡ q u) → (ws : List Write) → list_any p (map (shifted_write n) ws) ≡ list_any q ws
  any_shifted p q e [] = refl
  any_shifted p q e (u ∷ ws) = ap₂ (λ a b. a || b) (e u) (any_shifted p q e ws)

  update_follows : (i : ℕ) → i < n → (u : Update) → FollowsUpdate any_state state u (shifted_update n i u)
  unfolding any_state
  update_follows i l u = record {
    weight = refl;
    undef =
        ap (λ b. is_none (core.number_of u.weight.value) || (b || list_any (λ r. is_none (core.number_of r.value.value)) u.rewards))
        (any_shifted (λ x. is_none x.value.value) (λ x. is_none x.value.value) (λ x. refl) u.writes);
    outside = any_shifted (λ x. is_some x.value.value && not x.fits) (λ x. is_some x.value.value && not x.fits) (λ x. refl) u.writes;
    rewards = λ own. refl;
    target = λ s t. ap (λ r. written r (map (shifted_write n) u.writes)) (set_home (element_names (translated file)) s i l) ∙ written_behind s u.writes;
    stays = λ s t. t;
  }

  updates_follow : (i : ℕ) → i < n → (us : List Update) → AllZip (FollowsUpdate any_state state) us (map (shifted_update n i) us)
  updates_follow i l [] = tt
  updates_follow i l (u ∷ us) = (update_follows i l u, updates_follow i l us)

  abbrev pub new : Name → Name
  new = (new_names file).action

  abbrev pub new_label : Option Name → Option Name
  new_label a = option_map (new_names file).action a

  -- whatever becomes of its action
  pub ready_follows : (label : Option Name → Option Name) (i : ℕ) → i < n → (r : Ready) → FollowsReady any_state state r (shifted_ready label n i r)
  ready_follows label i l r = record { guard = refl; updates = updates_follow i l r.updates }

  none_follows : (a : Option Name) → same_label None a ≡ same_label None (new_label a)
  none_follows None = refl
  none_follows (Some a) = refl

  module_follows : (i : ℕ) → i < n → (m : List Ready) → AllZip (FollowsAlone any_state state) m (map (shifted_ready new_label n i) m)
  module_follows i l [] = tt
  module_follows i l (r ∷ m) = ((ready_follows new_label i l r, none_follows r.action), module_follows i l m)

  modules_follow : (i : ℕ) (ms : List (List Ready)) → i + length ms ≤ n →
      AllZip (AllZip (FollowsAlone any_state state)) ms (numbered (λ i m. map (shifted_ready new_label n i) m ∷ []) i ms)
  modules_follow i [] l = tt
  modules_follow i (m ∷ ms) l = (module_follows i (omega arith) m, modules_follow (i + 1) ms (omega arith))

  -- ---- commands with an action
  abbrev pub IsOwnName : Name → Type 0
  IsOwnName a = (y : Name) → bytes_eq (new a) (new y) ≡ bytes_eq a y

  pub own_name : (a : Name) → Contains (actions file) a → IsOwnName a
  own_name a c y =
      let p = bytes_eq-Decides (new a) (new y) in
      let q = bytes_eq-Decides a y in
      same_from_decides (bytes_eq (new a) (new y)) (bytes_eq a y) p ((λ h. ap new (q.0 h)), (λ e. q.1 (sym (actions_differ file a y c (sym e)))))

  -- what becomes of labels keeps the action apart from the others
  abbrev pub IsOwnLabel : (Option Name → Option Name) → Name → Type 0
  IsOwnLabel label a = (b : Option Name) → same_label (Some a) b ≡ same_label (Some (new a)) (label b)

  abbrev FollowsNamed : Name → Ready → Ready → Type 0
  FollowsNamed a r t = FollowsReady any_state state r t × (has_action (Some a) r ≡ has_action (Some (new a)) t)

  named_follow : (label : Option Name → Option Name) (a : Name) → IsOwnLabel label a → (i : ℕ) → i < n → (m : List Ready) → AllZip (FollowsNamed a) m (map (shifted_ready label n i) m)
  named_follow label a h i l [] = tt
  named_follow label a h i l (r ∷ m) = ((ready_follows label i l r, h r.action), named_follow label a h i l m)

  ready_alone : (a : Name) (rs ts : List Ready) → AllZip (FollowsNamed a) rs ts → AllZip (FollowsReady any_state state) rs ts
  ready_alone a [] [] h = tt
  ready_alone a [] (t ∷ ts) h = absurd h
  ready_alone a (r ∷ rs) [] h = absurd h
  ready_alone a (r ∷ rs) (t ∷ ts) h = (h.0.0, ready_alone a rs ts h.1)

  pub taking_follows : (label : Option Name → Option Name) (a : Name) → IsOwnLabel label a → (i : ℕ) (ms : List (List Ready)) → i + length ms ≤ n →
      AllZip (AllZip (FollowsReady any_state state)) (sharing a ms)
      (taking (map (option_map new) (map (λ m. if list_any (has_action (Some a)) m then Some a else None) ms)) (numbered (λ i m. map (shifted_ready label n i) m ∷ []) i ms))
  taking_follows label a h i [] l = tt
  taking_follows label a h i (m ∷ ms) l =
      by_test (list_any (has_action (Some a)) m)
      (ready_alone a (filter (has_action (Some a)) m) (filter (has_action (Some (new a))) (map (shifted_ready label n i) m))
      (AllZip-filter (FollowsNamed a) (has_action (Some a)) (has_action (Some (new a))) (λ r t f. f.1) m (map (shifted_ready label n i) m) (named_follow label a h i (omega arith) m)))
      (taking_follows label a h (i + 1) ms (omega arith))
    where
      by_test : (b : Bool) → AllZip (FollowsReady any_state state) (filter (has_action (Some a)) m) (filter (has_action (Some (new a))) (map (shifted_ready label n i) m)) →
          AllZip (AllZip (FollowsReady any_state state)) (sharing a ms)
          (taking (map (option_map new) (map (λ m. if list_any (has_action (Some a)) m then Some a else None) ms)) (numbered (λ i m. map (shifted_ready label n i) m ∷ []) (i + 1) ms)) →
          AllZip (AllZip (FollowsReady any_state state)) (map (filter (has_action (Some a))) (cond b (m ∷ filter (list_any (has_action (Some a))) ms) (filter (list_any (has_action (Some a))) ms)))
          (taking (option_map new (if b then Some a else None) ∷ map (option_map new) (map (λ m. if list_any (has_action (Some a)) m then Some a else None) ms))
          (map (shifted_ready label n i) m ∷ numbered (λ i m. map (shifted_ready label n i) m ∷ []) (i + 1) ms))
      by_test true p r = (p, r)
      by_test false p r = r

  -- ---- rewards
  no_items : (names : Name → Seen) (label : Option Name) (wanted : ItemOn → Bool) → ((o : ItemOn) → is_for_choices label (adds_of o) ≡ wanted o) → (is : List prism.Item) →
      list_any (λ i. wanted i.on) is ≡ false → filter (λ e. is_for_choices label e.adds) (map (item_at names) is) ≡ []
  no_items names label wanted e [] h = refl
  no_items names label wanted e (i ∷ is) h = by_test (is_for_choices label (adds_of i.on)) (wanted i.on) (e i.on) h (no_items names label wanted e is)
    where
      by_test : (b c : Bool) → b ≡ c → (c || list_any (λ i. wanted i.on) is) ≡ false → (list_any (λ i. wanted i.on) is ≡ false → filter (λ e. is_for_choices label e.adds) (map (item_at names) is) ≡ []) →
          cond b (item_at names i ∷ filter (λ e. is_for_choices label e.adds) (map (item_at names) is)) (filter (λ e. is_for_choices label e.adds) (map (item_at names) is)) ≡ []
      by_test true true p q r = absurd cc
      by_test true false p q r = absurd cc
      by_test false true p q r = absurd cc
      by_test false false p q r = r q

  no_rewards : (names : Name → Seen) (label : Option Name) (wanted : ItemOn → Bool) → ((o : ItemOn) → is_for_choices label (adds_of o) ≡ wanted o) →
      (seen : Owned → Seen) (rs : List prism.Rewards) (es : List Entry) → length rs ≡ length es → list_any (λ r. list_any (λ i. wanted i.on) r.items) rs ≡ false →
      map (λ m. m.value) (map (λ r. no_reward) (map seen (owned_by None (map (λ p. structure p.0 p.1) (zip rs es)))))
      ≡ map (λ m. m.value) (choice_rewards (map (λ r. map (item_at names) r.items) rs) label)
  no_rewards names label wanted e seen [] es q h = refl
  no_rewards names label wanted e seen (r ∷ rs) [] q h = absurd cc
  no_rewards names label wanted e seen (r ∷ rs) (k ∷ es) q h =
      let p = neither (list_any (λ i. wanted i.on) r.items) (list_any (λ r. list_any (λ i. wanted i.on) r.items) rs) h in
      ap₂ (λ x t. x ∷ t)
      (ap (λ (l : List Earned). (summed (map (λ e. e.item) l)).value) (sym (no_items names label wanted e r.items p.0)))
      (no_rewards names label wanted e seen rs es (omega arith) p.1)
    where
      neither : (a b : Bool) → (a || b) ≡ false → (a ≡ false) × (b ≡ false)
      neither true b h = absurd cc
      neither false b h = (refl, h)

pub silently_for : (o : ItemOn) → is_for_choices None (adds_of o) ≡ for_silent o
silently_for On.InState = refl
silently_for On.Silent = refl
silently_for (On.Action a) = refl

pub action_for : (x : Name) (o : ItemOn) → is_for_choices (Some x) (adds_of o) ≡ for_action x o
action_for x On.InState = refl
action_for x On.Silent = refl
action_for x (On.Action a) = bytes_eq_comm x a.name

-- ---- without a monitor there are no items for a choice
pub none_earns : (p : Name → Bool) (as_ : List Name) → is_some_name (filter p as_) ≡ false → AllByRecursion (λ a. p a ≡ false) as_
none_earns p [] h = tt
none_earns p (a ∷ as_) h = by_test (p a) refl h (none_earns p as_)
  where
    by_test : (b : Bool) → p a ≡ b → is_some_name (cond b (a ∷ filter p as_) (filter p as_)) ≡ false → (is_some_name (filter p as_) ≡ false → AllByRecursion (λ a. p a ≡ false) as_) →
        (p a ≡ false) × AllByRecursion (λ a. p a ≡ false) as_
    by_test true e h r = absurd cc
    by_test false e h r = (e, r h)

-- ---- the silent commands at a state
module _ (f : prism.Command → Ready) (same : (c : prism.Command) → (f c).action ≡ action_of c) where
  pub no_silent : (cs : List prism.Command) → list_any (λ c. is_none c.action) cs ≡ false → filter (has_action None) (map f cs) ≡ []
  no_silent [] h = refl
  no_silent (c ∷ cs) h =
      ap (λ a. cond (same_label None a) (f c ∷ filter (has_action None) (map f cs)) (filter (has_action None) (map f cs))) (same c)
      ∙ by_action c.action (first_false (is_none c.action) (list_any (λ c. is_none c.action) cs) h) (no_silent cs (second_false (is_none c.action) (list_any (λ c. is_none c.action) cs) h))
    where
      by_action : (a : Option Named) → is_none a ≡ false → filter (has_action None) (map f cs) ≡ [] →
          cond (same_label None (option_map (λ x. x.name) a)) (f c ∷ filter (has_action None) (map f cs)) (filter (has_action None) (map f cs)) ≡ []
      by_action None q r = absurd cc
      by_action (Some x) q r = r

module _ (file : prism.File) (v : Valuation) (s : Values) where
  no_silent_combination : (rewards : List Sum) (ms : List prism.Body) → list_any has_silent ms ≡ false → silent rewards (map (part_at file v s) (map body_part ms)) ≡ []
  no_silent_combination rewards [] h = refl
  no_silent_combination rewards (m ∷ ms) h =
      ap₂ (λ x y. map (λ r. record { label = None; rewards = rewards; participants = r ∷ [] }) x ++ y)
      (no_silent _ (λ c. refl) m.commands (first_false (has_silent m) (list_any has_silent ms) h))
      (no_silent_combination rewards ms (second_false (has_silent m) (list_any has_silent ms) h))

module _ (file : prism.File) (v w : Valuation) (sound : IsSoundUnder file v) (alike : GivesAlike file v w) (s : Values) where
  abbrev pub mods : List (List Ready)
  mods = (prism_moment.moment file v s).modules

  abbrev label : Option Name → Option Name
  label a = option_map (new_names file).action a

  abbrev pub own : List Sum
  own = map (λ r. no_reward) (jani_moment.moment (translated file) w (state_of file s)).rewards

  abbrev pub earned : Option Name → List Sum
  earned a = choice_rewards (prism_moment.moment file v s).rewards a

  abbrev pub Follows : Combination → Combination → Type 0
  Follows = FollowsCombination any_state (state_of file) label

  pub few : 0 + length mods ≤ length (element_names (translated file))
  few =
      let names = new_names file in
      let ms = module_automata names (earns_silently file) (location_values names file) (bodies file) names.modules in
      let a = n_automata names (earns_silently file) (location_values names file) (bodies file) names.modules (for_modules file) in
      let b = element_total file in
      let c = length-append ms (monitor names file) in
      let d = length-map (map (part_of file) file.modules) (part_at file v s) in
      let e = length-map file.modules (part_of file) in
      let f = n_bodies file in
      omega arith

  pub are_bodies : mods ≡ map (part_at file v s) (map body_part (bodies file))
  are_bodies = ap (map (part_at file v s)) (written_parts file sound.written.modules)

  pub actions_are : actions_of mods ≡ actions file
  actions_are = ap (firsts bytes_eq) (all_actions file v s file.modules sound.written.modules)

  pub rewards_none : (a : Option Name) (wanted : ItemOn → Bool) → ((o : ItemOn) → is_for_choices a (adds_of o) ≡ wanted o) → has_items wanted file ≡ false →
      map (λ m. m.value) own ≡ map (λ m. m.value) (earned a)
  rewards_none a wanted e h =
      ap (λ os. map (λ m. m.value) (map (λ r. no_reward) (map (jani_moment.transient_at (translated file) w (state_of file s)) os))) (structures_owned file)
      ∙ no_rewards file (prism_moment.names_in file v s unchanged) a wanted e (jani_moment.transient_at (translated file) w (state_of file s)) file.rewards (new_names file).rewards (for_rewards file) h

  -- ---- commands without action
  pub silent_follows : earns_silently file ≡ false → AllZip Follows (silent (earned None) mods) (silent own (shifted label (length (element_names (translated file))) mods))
  silent_follows quiet = by_items (has_items for_silent file) refl quiet
    where
      by_items : (b : Bool) → has_items for_silent file ≡ b → (b && list_any has_silent (bodies file)) ≡ false →
          AllZip Follows (silent (earned None) mods) (silent own (shifted label (length (element_names (translated file))) mods))
      by_items false e h =
          silent_follow any_state (state_of file) label refl (earned None) own (rewards_none None for_silent silently_for e) mods (shifted label (length (element_names (translated file))) mods) (modules_follow file 0 mods few)
      by_items true e h =
          let ns = shifted label (length (element_names (translated file))) mods in
          let nothing : (rewards : List Sum) → silent rewards mods ≡ [] = λ rewards. ap (silent rewards) are_bodies ∙ no_silent_combination file v s rewards (bodies file) h in
          subst (λ (r : List Combination). AllZip Follows r (silent own ns)) (nothing own ∙ sym (nothing (earned None)))
          (silent_follow any_state (state_of file) label refl own own refl mods ns (modules_follow file 0 mods few))
