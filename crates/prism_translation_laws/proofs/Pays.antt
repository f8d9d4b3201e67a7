-- All destinations of an edge pay the same.
use Rattle.std.specs.Prelude.{◌≡◌, ℕ, ◌+◌, ◌<◌, List, [], ◌∷◌, ◌++◌, map, length, Bool, true, false, not, ◌&&◌, ◌||◌, cond, Option, Some, None, is_some, is_none, unwrap_or, nat_eq, get_or, if◌then◌else◌}
use Rattle.std.specs.List.{find, filter, flat_map, list_any, All, AllByRecursion as OfAll}
use Rattle.std.specs.Option.{option_map}
use Rattle.std.proofs.Common.{refl, sym, ap, ap₂, ◌∙◌, arith}
use Rattle.std.proofs.lemmas.Bool.{and_parts, or_parts, or_left, or_right, both_ways}
use Rattle.std.proofs.lemmas.List.{same_lists}
use Rattle.std.proofs.lemmas.List.Folds.{list_any-append}
use Rattle.std.proofs.lemmas.Option.{same_Some}
use Rattle.std.proofs.Math.Bool.{or-false, or_self_left}
use Rattle.std.proofs.lemmas.List.Elements.{All-from_recursion}
use Rattle.basics.specs.Numbers.{nat_eq_comm}
use Rattle.basics.specs.Texts.{bytes_eq-true}
use Rattle.basics.specs.Booleans.{same_test}
use Rattle.basics.specs.Each.{each_then, each_with, none_each}
use Rattle.basics.specs.Members.{found_passes}
use Rattle.frac_core.specs.Fraction.{Fraction, nought}
use Rattle.op_trees.specs.Seen.{Seen}
use Rattle.process_core.specs.Choices.{number_of, assigned}
use Rattle.process_core.specs.Ready.{Values, Reward}
use Rattle.choice_laws.proofs.Walks.{any-filter}
use Rattle.process_core.specs.Instance.{Valuation, numbered}
use Rattle.basics.specs.Lists.{IsNotEmpty as HasItems}
use Rattle.jani_tree.specs.Form.{EdgeRead}
use Rattle.jani_tree.specs.Syntax.{Expression, Write, Destination, Edge, Automaton, File}
use Rattle.jani_check.specs.Things.{is_called, global_thing, beside}
use Rattle.basics.specs.Options.{if_some}
use Rattle.jani_check.specs.TypeFaults.{targets}
use Rattle.jani_check.specs.ProfileFaults.{same_tree, value_for, rewards_by, lacks, differ, some_differ}
use Rattle.jani_check.specs.Faults.{IsChecked}
use Rattle.jani_meaning.specs.Moment.{names_in, reward_of, reward_at}
use Rattle.jani_meaning.specs.Scene.{see}
use Rattle.jani_meaning.specs.Elements.{structure_number}
use Rattle.prism_translation.specs.Elements.{Element, elements, placed_edges, is_at}
use Rattle.prism_translation.specs.Marks.{first_writes, assigned_to}
use Rattle.prism_translation.specs.Sound.{AtMostOne, rewards_of, any_undef, PaysAlike, EdgesPayAlike}
use Rattle.prism_translation.proofs.Lists.{to_numbered}
use Rattle.prism_translation.proofs.Distinct.{AreDistinct}
use Rattle.prism_translation.proofs.Scopes.{own_vars, NamesApart, has_number, is_reward_name}
use Rattle.prism_translation.proofs.Elements.{IsElement, elements_are, judged_element}
use Rattle.prism_translation_laws.proofs.SameTrees.{seen_alike}
use Rattle.prism_translation.proofs.Earned.{first_of}
use Rattle.prism_translation_laws.proofs.Rewards.{at_is, is_there, number, values_at, one_value, chosen, assigned_length, assigned_at}

-- the one of a list that passes, where one at most does
one_left : {A B : Type 0} (p q : A → Bool) (f : A → B) (xs : List A) (x : A) → find p xs ≡ Some x → q x ≡ true → AtMostOne (map f (filter q xs)) → map f (filter q xs) ≡ f x ∷ []
one_left p q f [] x e h k = absurd cc
one_left p q f (y ∷ ys) x e h k = by_first (p y) e (q y) refl k (λ g l. one_left p q f ys x g h l)
  where
    alone : (l : List _) → AtMostOne (f y ∷ l) → f y ∷ l ≡ f y ∷ []
    alone [] h = refl
    alone (z ∷ l) h = absurd h

    no_more : (l : List _) → AtMostOne (f y ∷ l) → (AtMostOne l → l ≡ f x ∷ []) → f y ∷ l ≡ f x ∷ []
    no_more [] h g = absurd (let e = g tt in let no : ⊥ = cc in no)
    no_more (z ∷ l) h g = absurd h

    by_first : (b : Bool) → cond b (Some y) (find p ys) ≡ Some x → (c : Bool) → q y ≡ c → AtMostOne (map f (cond c (y ∷ filter q ys) (filter q ys))) →
        (find p ys ≡ Some x → AtMostOne (map f (filter q ys)) → map f (filter q ys) ≡ f x ∷ []) → map f (cond c (y ∷ filter q ys) (filter q ys)) ≡ f x ∷ []
    by_first true e true c k g = alone (map f (filter q ys)) k ∙ ap (λ z. f z ∷ []) (same_Some y x e)
    by_first true e false c k g = absurd (both_ways (q y) c (ap q (same_Some y x e) ∙ h))
    by_first false e true c k g = no_more (map f (filter q ys)) k (g e)
    by_first false e false c k g = g e k

module _ (file : File) (k : ℕ) (names : NamesApart file (own_vars file k)) where
  -- what is not lacking there has a write there, with the same tree
  record IsCovered (es : List Write) (w : Write) : Type 0 where
    other : Write
    found : find (λ v. is_called w.target.name v.target) es ≡ Some other
    same : same_tree w.value other.value ≡ true

  covered : (es : List Write) (w : Write) → lacks (value_for es) w ≡ false → IsCovered es w
  covered es w h = by_found (find (λ v. is_called w.target.name v.target) es) refl h
    where
      is : (b : Bool) → not (b || false) ≡ false → b ≡ true
      is true j = refl
      is false j = absurd cc

      by_found : (o : Option Write) → find (λ v. is_called w.target.name v.target) es ≡ o → not (list_any (same_tree w.value) (if_some (option_map (λ v. v.value) o))) ≡ false → IsCovered es w
      by_found None e k = absurd cc
      by_found (Some v) e k = record { other = v; found = e; same = is (same_tree w.value v.value) k }

  abbrev Covers : List Write → List Write → Type 0
  Covers es ds = OfAll (λ w. is_some (number file k w) ≡ true → IsCovered es w) ds

  covers : (ds es : List Write) → list_any (lacks (value_for es)) (rewards_by (beside (global_thing file) (own_vars file k)) ds) ≡ false → Covers es ds
  covers ds es h =
      each_then (λ w. (is_reward_name file k names w.target.name && lacks (value_for es) w) ≡ false) (λ w. is_some (number file k w) ≡ true → IsCovered es w)
      (λ w e n. covered es w (by_test (is_reward_name file k names w.target.name) (lacks (value_for es) w) (sym (has_number file k names w.target.name) ∙ n) e)) ds
      (none_each (λ w. is_reward_name file k names w.target.name && lacks (value_for es) w) ds
      (sym (any-filter (lacks (value_for es)) (λ w. is_reward_name file k names w.target.name) ds) ∙ h))
    where
      by_test : (a b : Bool) → a ≡ true → (a && b) ≡ false → b ≡ false
      by_test true b e f = f
      by_test false b e f = absurd cc

  same_number : (es : List Write) (w : Write) (c : IsCovered es w) → number file k c.other ≡ number file k w
  same_number es w c = ap (structure_number file k) (bytes_eq-true c.other.target.name w.target.name (found_passes (λ v. is_called w.target.name v.target) es c.other c.found))

  -- ---- a value of one is one of the other
  record HasValue (i : ℕ) (es : List Write) (a : Expression) : Type 0 where
    value : Expression
    alone : values_at file k i es ≡ value ∷ []
    same : same_tree a value ≡ true

  value_there : (i : ℕ) (ds es : List Write) → Covers es ds → AtMostOne (values_at file k i es) → (a : Expression) (l : List Expression) → values_at file k i ds ≡ a ∷ l → HasValue i es a
  value_there i [] es c m a l e = absurd cc
  value_there i (w ∷ ws) es c m a l e = by_test (is_at i (number file k w)) refl e (λ f. value_there i ws es c.1 m a l f)
    where
      head : (x y : Expression) (xs ys : List Expression) → x ∷ xs ≡ y ∷ ys → x ≡ y
      head x y xs ys e = cc

      by_test : (b : Bool) → is_at i (number file k w) ≡ b → map (λ (v : Write). v.value) (cond b (w ∷ filter (λ v. is_at i (number file k v)) ws) (filter (λ v. is_at i (number file k v)) ws)) ≡ a ∷ l →
          (values_at file k i ws ≡ a ∷ l → HasValue i es a) → HasValue i es a
      by_test true f g ih =
          let at = at_is i (number file k w) f in
          let there = c.0 (ap is_some at) in
          let first = head w.value a (values_at file k i ws) l g in
          record {
            value = there.other.value;
            alone = one_left (λ v. is_called w.target.name v.target) (λ v. is_at i (number file k v)) (λ (v : Write). v.value) es there.other there.found (is_there i (number file k there.other) (same_number es w there ∙ at)) m;
            same = ap (λ z. same_tree z there.other.value) (sym first) ∙ there.same;
          }
      by_test false f g ih = ih g

  module _ (ds es : List Write) (there : Covers es ds) (back : Covers ds es) where
    -- the same comes of both, by what is the same for equal trees
    same_first : {Y : Type 0} (g : Expression → Y) → ((a b : Expression) → same_tree a b ≡ true → g a ≡ g b) → (i : ℕ) → AtMostOne (values_at file k i ds) → AtMostOne (values_at file k i es) → (y : Y) →
        first_of y g (values_at file k i ds) ≡ first_of y g (values_at file k i es)
    same_first g h i m n y = by_value (values_at file k i ds) refl
      where
        none_back : (l : List Expression) → values_at file k i es ≡ l → values_at file k i ds ≡ [] → [] ≡ l
        none_back [] e f = refl
        none_back (b ∷ l) e f = absurd (let v = value_there i es ds back m b l e in let a = v.alone in let no : ⊥ = cc in no)

        by_value : (l : List Expression) → values_at file k i ds ≡ l → first_of y g l ≡ first_of y g (values_at file k i es)
        by_value [] e = ap (first_of y g) (none_back (values_at file k i es) refl e)
        by_value (a ∷ l) e = let v = value_there i ds es there n a l e in h a v.value v.same ∙ sym (ap (first_of y g) v.alone)

    -- and where a value of one fails a test, so does one of the other
    any_there : (bad : Expression → Bool) → ((a b : Expression) → same_tree a b ≡ true → bad a ≡ bad b) → (vs : List Write) → Covers es vs →
        list_any (λ w. is_some (number file k w) && bad w.value) vs ≡ true → list_any (λ w. is_some (number file k w) && bad w.value) es ≡ true
    any_there bad h [] c e = absurd cc
    any_there bad h (w ∷ ws) c e = by_test (is_some (number file k w) && bad w.value) refl e (any_there bad h ws c.1)
      where
        stands : (p q : Write → Bool) (xs : List Write) (x : Write) → find p xs ≡ Some x → q x ≡ true → list_any q xs ≡ true
        stands p q [] x e f = absurd cc
        stands p q (y ∷ ys) x e f = by_first (p y) e (λ g. stands p q ys x g f)
          where
            by_first : (b : Bool) → cond b (Some y) (find p ys) ≡ Some x → (find p ys ≡ Some x → list_any q ys ≡ true) → (q y || list_any q ys) ≡ true
            by_first true e g = or_left (q y) (list_any q ys) (ap q (same_Some y x e) ∙ f)
            by_first false e g = or_right (q y) (list_any q ys) (g e)

        by_test : (b : Bool) → (is_some (number file k w) && bad w.value) ≡ b → (b || list_any (λ w. is_some (number file k w) && bad w.value) ws) ≡ true →
            (list_any (λ w. is_some (number file k w) && bad w.value) ws ≡ true → list_any (λ w. is_some (number file k w) && bad w.value) es ≡ true) → list_any (λ w. is_some (number file k w) && bad w.value) es ≡ true
        by_test true f g ih =
            let both = and_parts (is_some (number file k w)) (bad w.value) f in
            let o = c.0 both.0 in
            stands (λ v. is_called w.target.name v.target) (λ w. is_some (number file k w) && bad w.value) es o.other o.found
            (ap₂ (λ a b. a && b) (ap is_some (same_number es w o) ∙ both.0) (sym (h w.value o.other.value o.same) ∙ both.1))
        by_test false f g ih = ih g

-- ---- at a state
module _ (file : File) (w : Valuation) (u : Values) (k : ℕ) (names : NamesApart file (own_vars file k)) where
  abbrev paid : Expression → Fraction
  paid e = unwrap_or (number_of (see e (names_in file w u k)).value) nought

  abbrev undefined : Expression → Bool
  undefined e = is_none (number_of (see e (names_in file w u k)).value)

  paid_alike : (a b : Expression) → same_tree a b ≡ true → paid a ≡ paid b
  paid_alike a b h = ap (λ (s : Seen). unwrap_or (number_of s.value) nought) (seen_alike a b h (names_in file w u k))

  undefined_alike : (a b : Expression) → same_tree a b ≡ true → undefined a ≡ undefined b
  undefined_alike a b h = ap (λ (s : Seen). is_none (number_of s.value)) (seen_alike a b h (names_in file w u k))

  chosen_first : (i : ℕ) (ws : List Write) (y : Fraction) → AtMostOne (values_at file k i ws) → chosen i (flat_map (reward_at file w u k) ws) y ≡ first_of y paid (values_at file k i ws)
  chosen_first i [] y h = refl
  chosen_first i (x ∷ ws) y h = by_number (number file k x) h (λ z. chosen_first i ws z)
    where
      rest : List Write
      rest = filter (λ v. is_at i (number file k v)) ws

      alone : (l : List Expression) → AtMostOne (x.value ∷ l) → (AtMostOne l → chosen i (flat_map (reward_at file w u k) ws) (paid x.value) ≡ first_of (paid x.value) paid l) →
          chosen i (flat_map (reward_at file w u k) ws) (paid x.value) ≡ paid x.value
      alone [] h ih = ih tt
      alone (z ∷ l) h ih = absurd h

      by_test : (b : Bool) → AtMostOne (map (λ (v : Write). v.value) (cond b (x ∷ rest) rest)) →
          ((z : Fraction) → AtMostOne (values_at file k i ws) → chosen i (flat_map (reward_at file w u k) ws) z ≡ first_of z paid (values_at file k i ws)) →
          chosen i (flat_map (reward_at file w u k) ws) (if b then paid x.value else y) ≡ first_of y paid (map (λ (v : Write). v.value) (cond b (x ∷ rest) rest))
      by_test true h ih = alone (values_at file k i ws) h (ih (paid x.value))
      by_test false h ih = ih y h

      by_number : (o : Option ℕ) → AtMostOne (map (λ (v : Write). v.value) (cond (is_at i o) (x ∷ rest) rest)) →
          ((z : Fraction) → AtMostOne (values_at file k i ws) → chosen i (flat_map (reward_at file w u k) ws) z ≡ first_of z paid (values_at file k i ws)) →
          chosen i (reward_of o (see x.value (names_in file w u k)) ++ flat_map (reward_at file w u k) ws) y ≡ first_of y paid (map (λ (v : Write). v.value) (cond (is_at i o) (x ∷ rest) rest))
      by_number None h ih = ih y h
      by_number (Some j) h ih = ap (λ b. chosen i (flat_map (reward_at file w u k) ws) (if b then paid x.value else y)) (nat_eq_comm j i) ∙ by_test (nat_eq i j) h ih

  undef_writes : (ws : List Write) → any_undef file w u (flat_map (reward_at file w u k) ws) ≡ list_any (λ x. is_some (number file k x) && undefined x.value) ws
  undef_writes [] = refl
  undef_writes (x ∷ ws) =
      list_any-append (λ (r : Reward). is_none (number_of r.value.value)) (reward_at file w u k x) (flat_map (reward_at file w u k) ws)
      ∙ ap₂ (λ a b. a || b) (by_number (number file k x)) (undef_writes ws)
    where
      by_number : (o : Option ℕ) → list_any (λ (r : Reward). is_none (number_of r.value.value)) (reward_of o (see x.value (names_in file w u k))) ≡ (is_some o && undefined x.value)
      by_number None = refl
      by_number (Some j) = or-false (undefined x.value)

  -- ---- two destinations
  module _ (d e : Destination) (once : AreDistinct (targets d.writes)) (once_too : AreDistinct (targets e.writes)) (same : differ (beside (global_thing file) (own_vars file k)) d e ≡ false) where
    parts : (list_any (lacks (value_for e.writes)) (rewards_by (beside (global_thing file) (own_vars file k)) d.writes) ≡ false) × (list_any (lacks (value_for d.writes)) (rewards_by (beside (global_thing file) (own_vars file k)) e.writes) ≡ false)
    parts = or_parts _ _ same

    there : Covers file k names e.writes d.writes
    there = covers file k names d.writes e.writes parts.0

    back : Covers file k names d.writes e.writes
    back = covers file k names e.writes d.writes parts.1

    pub same_assigned : (own : List Fraction) → assigned own (rewards_of file w u k d) ≡ assigned own (rewards_of file w u k e)
    same_assigned own =
        let rs = rewards_of file w u k d in
        let qs = rewards_of file w u k e in
        same_lists (assigned own rs) (assigned own qs) (assigned_length rs own ∙ sym (assigned_length qs own))
        (λ i z l.
        let within : i < length own = let f = assigned_length rs own in omega (arith, l, f) in
        let one = one_value file k i d.writes once in
        let other = one_value file k i e.writes once_too in
        assigned_at rs own i z within
        ∙ chosen_first i d.writes (get_or own i z) one
        ∙ same_first file k names d.writes e.writes there back paid paid_alike i one other (get_or own i z)
        ∙ sym (chosen_first i e.writes (get_or own i z) other)
        ∙ sym (assigned_at qs own i z within))

    pub same_undef : any_undef file w u (rewards_of file w u k d) ≡ any_undef file w u (rewards_of file w u k e)
    same_undef =
        undef_writes d.writes
        ∙ same_test (list_any (λ x. is_some (number file k x) && undefined x.value) d.writes) (list_any (λ x. is_some (number file k x) && undefined x.value) e.writes)
        (any_there file k names d.writes e.writes there back undefined undefined_alike d.writes there)
        (any_there file k names e.writes d.writes back there undefined undefined_alike e.writes back)
        ∙ sym (undef_writes e.writes)

  -- ---- all destinations of an edge
  pays_each : (f : Destination) (ds : List Destination) → AreDistinct (targets f.writes) → OfAll (λ d. AreDistinct (targets d.writes)) ds → OfAll (λ d. differ (beside (global_thing file) (own_vars file k)) f d ≡ false) ds →
      OfAll (λ d. (own : List Fraction) → assigned own (rewards_of file w u k d) ≡ assigned own (rewards_of file w u k f)) ds
  pays_each f ds once others same =
      each_with (λ d. AreDistinct (targets d.writes)) (λ d. differ (beside (global_thing file) (own_vars file k)) f d ≡ false) (λ d. (own : List Fraction) → assigned own (rewards_of file w u k d) ≡ assigned own (rewards_of file w u k f))
      (λ d o e own. sym (same_assigned f d once o e own)) ds others same

  undef_any : (f : Destination) (ds : List Destination) → AreDistinct (targets f.writes) → OfAll (λ d. AreDistinct (targets d.writes)) ds → OfAll (λ d. differ (beside (global_thing file) (own_vars file k)) f d ≡ false) ds →
      (any_undef file w u (rewards_of file w u k f) || list_any (λ d. any_undef file w u (rewards_of file w u k d)) ds) ≡ any_undef file w u (rewards_of file w u k f)
  undef_any f [] once others same = or-false (any_undef file w u (rewards_of file w u k f))
  undef_any f (d ∷ ds) once others same =
      ap (λ b. any_undef file w u (rewards_of file w u k f) || (b || list_any (λ d. any_undef file w u (rewards_of file w u k d)) ds)) (sym (same_undef f d once others.0 same.0))
      ∙ or_self_left (any_undef file w u (rewards_of file w u k f)) (list_any (λ d. any_undef file w u (rewards_of file w u k d)) ds)
      ∙ undef_any f ds once others.1 same.1

  pub edge_pays : (a : Automaton) (i : ℕ) (e : Edge) → HasItems e.destinations → OfAll (λ d. AreDistinct (targets d.writes)) e.destinations →
      some_differ (beside (global_thing file) (own_vars file k)) e.destinations ≡ false → PaysAlike file w u (record { element = record { number = k; automaton = a }; number = i; edge = e })
  edge_pays a i e some once same = by_list e.destinations some once same
    where
      by_list : (ds : List Destination) → HasItems ds → OfAll (λ d. AreDistinct (targets d.writes)) ds → some_differ (beside (global_thing file) (own_vars file k)) ds ≡ false →
          PaysAlike file w u (record { element = record { number = k; automaton = a }; number = i; edge = record e { destinations = ds } })
      by_list [] h o d = absurd h
      by_list (f ∷ ds) h o d =
          let alike = none_each (differ (beside (global_thing file) (own_vars file k)) f) ds (or_parts (list_any (differ (beside (global_thing file) (own_vars file k)) f) ds) _ d).0 in
          record {
            each =
                All-from_recursion (λ d. (own : List Fraction) → assigned own (rewards_of file w u k d) ≡ assigned own (rewards_of file w u k f)) (f ∷ ds)
                ((λ own. refl), pays_each f ds o.0 o.1 alike);
            undef = undef_any f ds o.0 o.1 alike;
          }

module _ (file : File) (c : IsChecked file) (w : Valuation) (u : Values) where
  edges_pay : (el : Element) (is : IsElement file el) (i : ℕ) (es : List Edge) → OfAll (λ (e : Edge). HasItems e.destinations) es → OfAll (λ e. OfAll (λ d. AreDistinct (targets d.writes)) e.destinations) es →
      OfAll (λ e. some_differ (beside (global_thing file) (own_vars file el.number)) e.destinations ≡ false) es → OfAll (PaysAlike file w u) (numbered (λ i e. record { element = el; number = i; edge = e } ∷ []) i es)
  edges_pay el is i [] h o d = tt
  edges_pay el is i (e ∷ es) h o d = (edge_pays file w u el.number (judged_element file c el is).names el.automaton i e h.0 o.0 d.0, edges_pay el is (i + 1) es h.1 o.1 d.1)

  element_pays : (el : Element) → IsElement file el → All (PaysAlike file w u) (placed_edges el)
  element_pays el is =
      let j = judged_element file c el is in
      All-from_recursion (PaysAlike file w u) (placed_edges el)
      (edges_pay el is 0 el.automaton.edges (each_then (EdgeRead HasItems) (λ (e : Edge). HasItems e.destinations) (λ e f. f.some) el.automaton.edges j.form.edges) j.writes j.branches)

  pub edges_pay_alike : EdgesPayAlike file w u
  edges_pay_alike =
      All-from_recursion (λ el. All (PaysAlike file w u) (placed_edges el)) (elements file)
      (each_then (IsElement file) (λ el. All (PaysAlike file w u) (placed_edges el)) element_pays (elements file) (elements_are file c))

-- ---- one assignment to a structure
module _ (file : File) (c : IsChecked file) where
  -- the first destination assigns to a structure once at most
  first_once : (k j : ℕ) (ds : List Destination) → OfAll (λ d. AreDistinct (targets d.writes)) ds → AtMostOne (values_at file k j (first_writes ds))
  first_once k j [] o = tt
  first_once k j (d ∷ ds) o = one_value file k j d.writes o.0

  element_once : (el : Element) → IsElement file el → All (λ p. (j : ℕ) → AtMostOne (assigned_to file j p)) (placed_edges el)
  element_once el is =
      All-from_recursion (λ p. (j : ℕ) → AtMostOne (assigned_to file j p)) (placed_edges el)
      (to_numbered (λ e. OfAll (λ d. AreDistinct (targets d.writes)) e.destinations) (λ p. (j : ℕ) → AtMostOne (assigned_to file j p)) (λ i e. record { element = el; number = i; edge = e })
      (λ i e o j. first_once el.number j e.destinations o) 0 el.automaton.edges (judged_element file c el is).writes)

  pub assigned_once : All (λ el. All (λ p. (j : ℕ) → AtMostOne (assigned_to file j p)) (placed_edges el)) (elements file)
  assigned_once =
      All-from_recursion (λ el. All (λ p. (j : ℕ) → AtMostOne (assigned_to file j p)) (placed_edges el)) (elements file)
      (each_then (IsElement file) (λ el. All (λ p. (j : ℕ) → AtMostOne (assigned_to file j p)) (placed_edges el)) element_once (elements file) (elements_are file c))
