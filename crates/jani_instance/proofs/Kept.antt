-- What is kept of edges comes out as the edges do.
use Rattle.std.specs.Prelude.{◌≡◌, ℕ, ◌+◌, ◌-◌, ◌≤◌, List, [], ◌∷◌, ◌++◌, map, length, not, ◌&&◌, Bool, true, false, ◌||◌, Option, Some, None, bytes_eq, is_some, pos, nat_eq, unwrap_or, slice_get, if◌then◌else◌}
use Rattle.std.specs.List.{AllZip, filter, flat_map, list_any, position, range_with_len}
use Rattle.std.specs.Option.{option_map, option_or}
use Rattle.std.proofs.Common.{refl, sym, ap, ap₂, subst, ◌∙◌, arith}
use Rattle.std.proofs.lemmas.List.{map-append}
use Rattle.std.proofs.lemmas.List.Elements.{filter_agree}
use Rattle.std.proofs.lemmas.List.Folds.{list_any-append}
use Rattle.std.proofs.lemmas.Option.{slice_get-map}
use Rattle.std.proofs.Math.Bool.{or-false}
use Rattle.bridge_io.specs.declared.reason.Named.{Named}
use Rattle.basics.specs.Members.{filter-map}
use Rattle.basics.specs.Numbers.{nat_eq_comm}
use Rattle.frac_core.specs.Fraction.{whole}
use Rattle.op_trees.specs.Seen.{Seen}
use Rattle.op_trees.specs.declared.tree.Value.{Value}
use Rattle.op_trees.specs.declared.tree.Value.TheVariants as V
use Rattle.name_rules.specs.Names.{under}
use Rattle.basics.specs.Options.{if_some}
use Rattle.process_core.specs.Ready.{Name, Write, Reward, Update, Ready, has_action, same_label}
use Rattle.process_core.proofs.Targets.{any_firsts}
use Rattle.process_core.specs.Choices.{is_false}
use Rattle.process_core.specs.Instance.{Column, write_to}
use Rattle.state_choices.specs.Trimmed.{computed, trimmed, trimmed_reward, trimmed_seen, trimmed_update, trimmed_write}
use Rattle.state_choices.specs.Views.{seen_of}
use Rattle.state_choices.proofs.ComputedLaws.{computed_laws}
use Rattle.state_choices.proofs.ComputedParts.{same_update}
use Rattle.jani_tree.specs.Syntax as syntax
use Rattle.jani_tree.specs.Syntax.{Automaton, Expression, File, element_names}
use Rattle.basics.specs.Mapped.{mapped, turned}
use Rattle.op_trees.specs.Names.{is_called}
use Rattle.jani_meaning.specs.Elements.{column_number, elements, is_global, is_own, lasting, location_number, structure_number, structures}
use Rattle.jani_meaning.specs.Scene.{counted, see}
use Rattle.jani_meaning.specs.Moment.{column_write, guard_seen, location_write, reward_of, weight_seen}
use Rattle.instance_start.specs.Numbered.{by_number, with_value}
use Rattle.instance_start.proofs.Numbered.{by_seen, got_range}
use Rattle.instance_start.specs.declared.data.Place.TheVariants.{Constant, Variable}
use Rattle.jani_instance.specs.Actions.{IsLinked, IsNumbered, action_of, actions_among, actions_of, links_by, located_at, starts_at}
use Rattle.jani_instance.specs.Built.{IsVectorOf, acts_with, edge_under, edges_from, global_place, global_structure, links_from, member_from, own_structure, reward_under, update_under, write_under}
use Rattle.jani_instance.specs.Parts.{automaton_at}
use Rattle.jani_instance.specs.Shapes.{Assigned, Destination, Edge, Lent, Located, acting_as, assigned_as, assigned_by, assigned_to, column_in, destination_as, destination_by, edge_as, edge_by, located_as, located_of, location_in, structure_in, tree_at, variable_at}
use Rattle.jani_instance.specs.Views.{Member, acting_seen, edge_seen, guard_as, located_seen, location_seen, reward_seen, see_at, update_seen, weight_as, write_seen}
use Rattle.jani_instance.specs.declared.acting.Numbers.{Numbers}
use Rattle.jani_instance.specs.declared.build.Site.{Site}
use Rattle.jani_instance.specs.declared.data.Destination as code_destination
use Rattle.jani_instance.specs.declared.data.Edge as code_edge
use Rattle.jani_instance.specs.declared.data.Located as code_located
use Rattle.jani_instance.specs.declared.data.Vector as code_vector
use Rattle.jani_instance.specs.declared.parts.Part.{Part}
use Rattle.jani_instance.proofs.Numbering.{names_equal, number_is}

same_member : (s t : List Ready) (m n : List (List Ready)) → s ≡ t → m ≡ n → ◌≡◌ {A = Member} (record { silent = s; parts = m }) (record { silent = t; parts = n })
same_member s t m n e f = cc

-- ---- the places of names
by_columns : (n : ℕ) (p q r : Option ℕ) →
    variable_at (option_or (option_map (λ k. Variable (n + k)) p) (option_or (option_map (λ k. Variable (n + k)) q) (option_map Constant r)))
    ≡ option_map (λ k. n + k) (option_or p q)
by_columns n (Some k) q r = refl
by_columns n None (Some k) r = refl
by_columns n None None (Some j) = refl
by_columns n None None None = refl

by_structures : (p q : Option ℕ) → variable_at (option_or (option_map Variable p) (option_map Variable q)) ≡ option_or p q
by_structures (Some k) q = refl
by_structures None (Some k) = refl
by_structures None None = refl

same_write : (i : ℕ) (s t : Seen) (b c : Bool) → s ≡ t → b ≡ c → ◌≡◌ {A = Write} (record { column = i; value = s; fits = b }) (record { column = i; value = t; fits = c })
same_write i s t b c e f = cc

location_is : (i n : ℕ) → location_seen i (computed (counted n)) ≡ trimmed_write (location_write i n)
location_is i n = same_write i _ _ _ _ (computed_laws.values (counted n)) (by_wide (counted n).wide (V.Number (whole (pos n))))
  where
    by_wide : (b : Bool) (v : Value) → is_some (seen_of (computed (record { value = Some v; wide = b }))).value ≡ (not b && true)
    by_wide true v = refl
    by_wide false v = refl

-- a site of the element with this number
pub record IsSite (file : File) (i : ℕ) (s : Site) : Type 0 where
  pub own : (x : Name) → under s.own.now x ≡ option_map (λ k. Variable (length (element_names file) + k)) (position (is_own i x) (lasting file))
  pub global : (x : Name) → under s.places.now x ≡ global_place file x
  pub locations : (x : Name) → under s.locations.now x ≡ position (λ l. is_called x l.name) (automaton_at s.part).locations
  pub own_structures : (x : Name) → under s.own_structures.now x ≡ own_structure file i x
  pub structures : (x : Name) → under s.structures.now x ≡ global_structure file x

-- ---- what comes out of what is kept, by what it stands for
-- what an edge comes out as, by its guard and its updates
abbrev ready_by : Seen → List Update → Ready
ready_by g us = record { action = None; guard = trimmed_seen g; updates = if not g.wide && is_false g.value then [] else us }

module _ {X : Type 0} (f : X → Seen) (cs : List Column) (i : ℕ) where
  abbrev write_from : Assigned X → Write
  write_from w = trimmed_write (write_to cs w.place (f w.value))

  abbrev reward_from : Assigned X → Reward
  reward_from w = record { structure = w.place; value = trimmed_seen (f w.value) }

  abbrev update_from : Destination X → Update
  update_from d = record {
    weight = trimmed_seen (weight_as (option_map f d.weight));
    writes = location_seen i d.location ∷ map write_from d.writes;
    rewards = map reward_from d.rewards;
  }

  abbrev edge_from : Edge X → Ready
  edge_from e = ready_by (guard_as (option_map f e.guard)) (map update_from e.destinations)

  abbrev located_from : Located X → Member
  located_from l = record { silent = map edge_from l.silent; parts = map (map edge_from) l.parts }

option_twice : {E X Y : Type 0} (g : E → X) (f : X → Y) (o : Option E) → option_map (λ e. f (g e)) o ≡ option_map f (option_map g o)
option_twice g f None = refl
option_twice g f (Some e) = refl

module _ {E X : Type 0} (g : E → X) (f : X → Seen) (cs : List Column) (i : ℕ) where
  update_kept : (d : code_destination.Destination E) → update_seen cs (λ e. f (g e)) i d ≡ update_from f cs i (destination_as g d)
  update_kept d =
      same_update _ _ _ _ _ _ (ap (λ o. trimmed_seen (weight_as o)) (option_twice g f d.weight))
      (ap (λ l. location_seen i d.location ∷ l) (sym (mapped (assigned_as g) (write_from f cs i) (write_seen cs (λ e. f (g e))) (λ w. refl) d.writes.items)))
      (sym (mapped (assigned_as g) (reward_from f cs i) (reward_seen (λ e. f (g e))) (λ w. refl) d.rewards.items))

  edge_kept : (e : code_edge.Edge E) → edge_seen cs (λ e. f (g e)) i e ≡ edge_from f cs i (edge_as g e)
  edge_kept e =
      ap₂ ready_by (ap guard_as (option_twice g f e.guard))
      (sym (mapped (destination_as g) (update_from f cs i) (update_seen cs (λ e. f (g e)) i) (λ d. sym (update_kept d)) e.destinations.items))

  pub located_kept : (l : code_located.Located E) → located_seen cs (λ e. f (g e)) i (Some l) ≡ located_from f cs i (located_as g l)
  located_kept l =
      let edges = λ (es : List (code_edge.Edge E)). mapped (edge_as g) (edge_from f cs i) (edge_seen cs (λ e. f (g e)) i) (λ e. sym (edge_kept e)) es in
      let acting =
      mapped (acting_as g) (with_value (edge_from f cs i)) (acting_seen cs (λ e. f (g e)) i) (λ a. ap (λ e. record { number = a.action; value = e }) (sym (edge_kept a.edge))) l.acting.items in
      same_member _ _ _ _ (sym (edges l.silent.items))
      (ap (by_number l.actions) (sym acting) ∙ by_seen (edge_from f cs i) l.actions (map (acting_as g) l.acting.items))

-- locations that are seen alike come out alike
pub located_alike : {E F : Type 0} (look : E → Seen) (other : F → Seen) (cs : List Column) (i : ℕ) (l : Option (code_located.Located E)) (m : Option (code_located.Located F)) →
    option_map (located_as look) l ≡ option_map (located_as other) m → located_seen cs look i l ≡ located_seen cs other i m
located_alike look other cs i None None e = refl
located_alike look other cs i None (Some m) e = absurd cc
located_alike look other cs i (Some l) None e = absurd cc
located_alike look other cs i (Some l) (Some m) e =
    located_kept look (λ s. s) cs i l
    ∙ ap (located_from (λ s. s) cs i) (let d : located_as look l ≡ located_as other m = cc in d)
    ∙ sym (located_kept other (λ s. s) cs i m)

-- ---- and of the file's edges
module _ (cs : List Column) (names : Name → Seen) (i : ℕ) where
  abbrev look : Expression → Seen
  look t = see t names

  weight_is : (o : Option Expression) → weight_as (option_map look o) ≡ weight_seen names o
  weight_is None = refl
  weight_is (Some t) = refl

  guard_is : (o : Option Expression) → guard_as (option_map look o) ≡ guard_seen names o
  guard_is None = refl
  guard_is (Some t) = refl

  module _ (file : File) (s : Site) (h : IsSite file i s) where
    number_at : (x : Name) → location_in s x ≡ location_number (automaton_at s.part) x
    number_at x = ap (λ o. unwrap_or o 0) (h.locations x)

    column_is : (x : Name) → column_in s x ≡ column_number file i x
    column_is x =
        ap₂ (λ p q. variable_at (option_or p q)) (h.own x) (h.global x)
        ∙ by_columns (length (element_names file)) (position (is_own i x) (lasting file)) (position (is_global x) (lasting file)) (position (λ c. is_called x c.name) file.constants)

    structure_is : (x : Name) → structure_in s x ≡ structure_number file i x
    structure_is x =
        ap₂ (λ p q. variable_at (option_or p q)) (h.own_structures x) (h.structures x)
        ∙ by_structures (position (is_own i x) (structures file)) (position (is_global x) (structures file))

    one_write : (k : Option ℕ) (w : syntax.Write) → map (write_from look cs i) (assigned_to k w.value) ≡ map trimmed_write (column_write cs k (see w.value names))
    one_write None w = refl
    one_write (Some k) w = refl

    one_reward : (k : Option ℕ) (w : syntax.Write) → map (reward_from look cs i) (assigned_to k w.value) ≡ map trimmed_reward (reward_of k (see w.value names))
    one_reward None w = refl
    one_reward (Some k) w = refl

    writes_are : (ws : List syntax.Write) → map (write_from look cs i) (flat_map (assigned_by (column_in s)) ws) ≡ map trimmed_write (flat_map (write_under file cs names i (automaton_at s.part)) ws)
    writes_are [] = refl
    writes_are (w ∷ ws) =
        map-append (write_from look cs i) (assigned_by (column_in s) w) (flat_map (assigned_by (column_in s)) ws)
        ∙ ap₂ (λ x y. x ++ y)
        (ap (λ k. map (write_from look cs i) (assigned_to k w.value)) (column_is w.target.name) ∙ one_write (column_number file i w.target.name) w) (writes_are ws)
        ∙ sym (map-append trimmed_write (write_under file cs names i (automaton_at s.part) w) (flat_map (write_under file cs names i (automaton_at s.part)) ws))

    rewards_are : (ws : List syntax.Write) → map (reward_from look cs i) (flat_map (assigned_by (structure_in s)) ws) ≡ map trimmed_reward (flat_map (reward_under file cs names i (automaton_at s.part)) ws)
    rewards_are [] = refl
    rewards_are (w ∷ ws) =
        map-append (reward_from look cs i) (assigned_by (structure_in s) w) (flat_map (assigned_by (structure_in s)) ws)
        ∙ ap₂ (λ x y. x ++ y)
        (ap (λ k. map (reward_from look cs i) (assigned_to k w.value)) (structure_is w.target.name) ∙ one_reward (structure_number file i w.target.name) w) (rewards_are ws)
        ∙ sym (map-append trimmed_reward (reward_under file cs names i (automaton_at s.part) w) (flat_map (reward_under file cs names i (automaton_at s.part)) ws))

    update_is : (d : syntax.Destination) → (update_from look cs i) (destination_by s d) ≡ trimmed_update (update_under file cs names i (automaton_at s.part) d)
    update_is d =
        same_update _ _ _ _ _ _ (ap trimmed_seen (weight_is d.weight)) (ap₂ (λ x l. x ∷ l) (ap (λ n. location_seen i (computed (counted n))) (number_at d.location.name) ∙ location_is i (location_number (automaton_at s.part) d.location.name)) (writes_are d.writes)) (rewards_are d.writes)

    edge_is : (e : syntax.Edge) → (edge_from look cs i) (edge_by s e) ≡ trimmed (edge_under file cs names i (automaton_at s.part) e)
    edge_is e = ap₂ ready_by (guard_is e.guard) (turned trimmed_update (destination_by s) (update_from look cs i) (update_under file cs names i (automaton_at s.part)) update_is e.destinations)

    -- those that pass a test
    kept_are : (p : Ready → Bool) (es : List syntax.Edge) →
        map (edge_from look cs i) (map (edge_by s) (filter (λ e. p (edge_under file cs names i (automaton_at s.part) e)) es)) ≡ map trimmed (filter p (map (edge_under file cs names i (automaton_at s.part)) es))
    kept_are p es =
        turned trimmed (edge_by s) (edge_from look cs i) (edge_under file cs names i (automaton_at s.part)) edge_is (filter (λ e. p (edge_under file cs names i (automaton_at s.part) e)) es)
        ∙ ap (map trimmed) (sym (filter-map p (edge_under file cs names i (automaton_at s.part)) es))

    starting_are : (n : ℕ) → map (edge_under file cs names i (automaton_at s.part)) (filter (starts_at s n) (automaton_at s.part).edges) ≡ edges_from file cs names i (automaton_at s.part) n
    starting_are n =
        ap (map (edge_under file cs names i (automaton_at s.part)))
        (filter_agree (starts_at s n) (λ e. nat_eq (location_number (automaton_at s.part) e.location.name) n) (λ e. ap (nat_eq n) (number_at e.location.name) ∙ nat_eq_comm n (location_number (automaton_at s.part) e.location.name)) (automaton_at s.part).edges)

    one_location : (n : ℕ) → (located_from look cs i) (located_at s (automaton_at s.part).edges n) ≡ member_from file cs names i (automaton_at s.part) (actions_of (automaton_at s.part)) n
    one_location n =
        let es = filter (starts_at s n) (automaton_at s.part).edges in
        same_member _ _ _ _ (kept_are (has_action None) es ∙ ap (λ l. map trimmed (filter (has_action None) l)) (starting_are n))
        (mapped (λ x. map (edge_by s) (filter (acts_with x) es)) (map (edge_from look cs i)) (λ x. map trimmed (filter (has_action (Some x)) (edges_from file cs names i (automaton_at s.part) n)))
        (λ x. kept_are (has_action (Some x)) es ∙ ap (λ l. map trimmed (filter (has_action (Some x)) l)) (starting_are n)) (actions_of (automaton_at s.part)))

    by_get : (o : Option (code_located.Located Lent)) (z : Located Expression) → option_map located_of o ≡ Some z → located_seen cs (see_at names) i o ≡ (located_from look cs i) z
    by_get None z e = absurd cc
    by_get (Some l) z e = located_kept tree_at look cs i l ∙ ap (located_from look cs i) (let d : located_of l ≡ z = cc in d)

    pub locations_are : (ls : List (code_located.Located Lent)) → map located_of ls ≡ map (located_at s (automaton_at s.part).edges) (range_with_len 0 (length (automaton_at s.part).locations - 1 + 1)) →
        (n : ℕ) → n ≤ length (automaton_at s.part).locations - 1 → located_seen cs (see_at names) i (slice_get ls n) ≡ member_from file cs names i (automaton_at s.part) (actions_of (automaton_at s.part)) n
    locations_are ls e n k =
        by_get (slice_get ls n) (located_at s (automaton_at s.part).edges n)
        (sym (slice_get-map located_of ls n)
        ∙ ap (λ l. slice_get l n) e
        ∙ slice_get-map (located_at s (automaton_at s.part).edges) (range_with_len 0 (length (automaton_at s.part).locations - 1 + 1)) n
        ∙ ap (option_map (located_at s (automaton_at s.part).edges)) (got_range 0 (length (automaton_at s.part).locations - 1 + 1) n (omega (arith, k)) ∙ ap Some (let d : 0 + n ≡ n = omega arith in d)))
        ∙ one_location n

-- the locations of an element
pub element_locations : (file : File) (i : ℕ) (s : Site) → IsSite file i s → (p : Part) → s.part ≡ p → (ls : List (code_located.Located Lent)) →
    map located_of ls ≡ map (located_at s (automaton_at p).edges) (range_with_len 0 (length (automaton_at s.part).locations - 1 + 1)) →
    (cs : List Column) (names : Name → Seen) (n : ℕ) → n ≤ length (automaton_at p).locations - 1 →
    located_seen cs (see_at names) i (slice_get ls n) ≡ member_from file cs names i (automaton_at p) (actions_of (automaton_at p)) n
element_locations file i s h p e ls made cs names n k =
    subst (λ q. located_seen cs (see_at names) i (slice_get ls n) ≡ member_from file cs names i (automaton_at q) (actions_of (automaton_at q)) n) e
    (locations_are cs names i file s h ls
    (made ∙ ap (λ q. map (located_at s (automaton_at q).edges) (range_with_len 0 (length (automaton_at s.part).locations - 1 + 1))) (sym e)) n
    (subst (λ q. n ≤ length (automaton_at q).locations - 1) (sym e) k))

-- ---- actions that no edge has
one_acts : (x : Name) (o : Option Name) → list_any (bytes_eq x) (if_some o) ≡ same_label (Some x) o
one_acts x None = refl
one_acts x (Some y) = or-false (bytes_eq x y)

any_acts : (x : Name) (es : List syntax.Edge) → list_any (bytes_eq x) (flat_map (λ e. if_some (action_of e)) es) ≡ list_any (acts_with x) es
any_acts x [] = refl
any_acts x (e ∷ es) =
    list_any-append (bytes_eq x) (if_some (action_of e)) (flat_map (λ d. if_some (action_of d)) es) ∙ ap₂ (λ b c. b || c) (one_acts x (action_of e)) (any_acts x es)

pub none_act : (x : Name) (es : List syntax.Edge) → list_any (bytes_eq x) (actions_among es) ≡ false → list_any (acts_with x) es ≡ false
none_act x es h =
    sym (any_acts x es) ∙ sym (any_firsts bytes_eq names_equal (bytes_eq x) (flat_map (λ e. if_some (action_of e)) es)) ∙ h

-- ---- links
pub no_parts : (i : ℕ) (ts : List Numbers) → links_by i ts [] ≡ []
no_parts i [] = refl
no_parts i (t ∷ ts) = refl

links_are : (i : ℕ) (as_ : List Automaton) (ts : List Numbers) (ps : List (Option Named)) → AllZip IsNumbered as_ ts → links_by i ts ps ≡ links_from actions_of i as_ ps
links_are i [] [] ps h = refl
links_are i [] (t ∷ ts) ps h = absurd h
links_are i (a ∷ as_) [] ps h = absurd h
links_are i (a ∷ as_) (t ∷ ts) [] h = refl
links_are i (a ∷ as_) (t ∷ ts) (None ∷ ps) h = links_are (i + 1) as_ ts ps h.1
links_are i (a ∷ as_) (t ∷ ts) (Some x ∷ ps) h =
    ap₂ (λ n l. record { element = i; part = n } ∷ l) (number_is t.actions (actions_of a) h.0.acts x.name) (links_are (i + 1) as_ ts ps h.1)

pub vectors_are : (file : File) (ts : List Numbers) → AllZip IsNumbered (elements file) ts → (us : List syntax.Vector) (ws : List code_vector.Vector) →
    AllZip (IsLinked ts) us ws → AllZip (IsVectorOf file actions_of) us ws
vectors_are file ts h [] [] k = tt
vectors_are file ts h [] (w ∷ ws) k = absurd k
vectors_are file ts h (u ∷ us) [] k = absurd k
vectors_are file ts h (u ∷ us) (w ∷ ws) k =
    (record { label = k.0.label; links = k.0.links ∙ links_are 0 (elements file) ts u.parts h }, vectors_are file ts h us ws k.1)
