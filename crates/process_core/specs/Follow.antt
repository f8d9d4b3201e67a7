-- Combinations that follow others through a map of states and labels: where what participants come out as follows place
-- by place, the choices are the images of the choices, in order. So one model's process is found again in another.
use Rattle.std.specs.Prelude.{◌≡◌, List, [], ◌∷◌, ◌++◌, map, Bool, true, false, ◌||◌, Option, Some, None, is_none, if◌then◌else◌, unwrap_or, slice_set, IsTrue}
use Rattle.std.specs.List.{flat_map, filter, list_any, AllZip}
use Rattle.std.proofs.Common.{refl, sym, ap, ap₂, ◌∙◌}
use Rattle.frac_core.specs.Fraction.{Fraction, nought}
use Rattle.frac_core.specs.Sums.{product}
use Rattle.process_core.specs.Process.{Kinds, Branch, Outcome, Good, Bad, Choice, branch_image, outcome_image, choice_image}
use Rattle.process_core.specs.Zip.{AllZip-maps, AllZip-filter, AllZip-flat_map, map_alike, flat_map_alike, list_any_alike}
use Rattle.process_core.specs.Product.{one_of_each, one_of_each_alike, map-map, map-flat_map}
use Rattle.process_core.specs.Ready.{Values, Name, Write, Reward, Update, Ready, Sum, Combination, has_action, alone, silent, together}
use Rattle.process_core.specs.Choices.{is_false, number_of, all_defined, guard_of, weights_of, weighs_wrong, has_undef, has_outside, kinds_of, has_kind, weight_of, written, assigned, own_rewards, branch_of, ways, outcome_of, choice_from, choice_of, choices}

-- ---- what it is to follow
module _ (has : Values → Bool) (state : Values → Values) where
  -- Of one update: the other has the same probability, the same faults and the same effect on rewards, and from the
  -- image of a state it leads to the image of where this one leads. `has` tells of which values that is so; an update
  -- leads from such values to such values.
  pub record FollowsUpdate (u w : Update) : Type 0 where
    pub weight : number_of w.weight.value ≡ number_of u.weight.value
    pub undef : has_undef w ≡ has_undef u
    pub outside : has_outside w ≡ has_outside u
    pub rewards : (own : List Fraction) → assigned own w.rewards ≡ assigned own u.rewards
    pub target : (s : Values) → IsTrue (has s) → written (state s) w.writes ≡ state (written s u.writes)
    pub stays : (s : Values) → IsTrue (has s) → IsTrue (has (written s u.writes))

  pub record FollowsReady (r t : Ready) : Type 0 where
    pub guard : t.guard.value ≡ r.guard.value
    pub updates : AllZip FollowsUpdate r.updates t.updates

  pub record FollowsCombination (label : Option Name → Option Name) (c d : Combination) : Type 0 where
    pub labels : d.label ≡ label c.label
    pub rewards : map (λ m. m.value) d.rewards ≡ map (λ m. m.value) c.rewards
    pub participants : AllZip FollowsReady c.participants d.participants

-- ---- the same guards, kinds and branches
module _ (has : Values → Bool) (state : Values → Values) where
  guard_same : (rs ts : List Ready) → AllZip (FollowsReady has state) rs ts → guard_of ts ≡ guard_of rs
  guard_same rs ts h =
      ap₂ (λ a b. if a then Some false else (if b then None else Some true))
      (list_any_alike (FollowsReady has state) (λ r. is_false r.guard.value) (λ r. is_false r.guard.value) (λ r t f. ap is_false f.guard) rs ts h)
      (list_any_alike (FollowsReady has state) (λ r. is_none r.guard.value) (λ r. is_none r.guard.value) (λ r t f. ap is_none f.guard) rs ts h)

  same_kinds : (a b c d e f g h : Bool) → a ≡ b → c ≡ d → e ≡ f → g ≡ h →
      ◌≡◌ {A = Kinds} (record { undef = a || c; range = e; weight = g }) (record { undef = b || d; range = f; weight = h })
  same_kinds a b c d e f g h p q r s = cc

  any_update : (p : Update → Bool) → ((u w : Update) → FollowsUpdate has state u w → p w ≡ p u) → (rs ts : List Ready) → AllZip (FollowsReady has state) rs ts →
      list_any (λ r. list_any p r.updates) ts ≡ list_any (λ r. list_any p r.updates) rs
  any_update p e =
      list_any_alike (FollowsReady has state) (λ r. list_any p r.updates) (λ r. list_any p r.updates)
      (λ r t f. list_any_alike (FollowsUpdate has state) p p e r.updates t.updates f.updates)

  any_none : (xs ys : List Sum) → map (λ m. m.value) ys ≡ map (λ m. m.value) xs → list_any (λ m. is_none m.value) ys ≡ list_any (λ m. is_none m.value) xs
  any_none xs ys e = sym (any_value ys) ∙ ap (list_any is_none) e ∙ any_value xs
    where
      any_value : (zs : List Sum) → list_any is_none (map (λ m. m.value) zs) ≡ list_any (λ m. is_none m.value) zs
      any_value [] = refl
      any_value (z ∷ zs) = ap (λ b. is_none z.value || b) (any_value zs)

  kinds_same : (label : Option Name → Option Name) (c d : Combination) → FollowsCombination has state label c d → kinds_of d.rewards d.participants ≡ kinds_of c.rewards c.participants
  kinds_same label c d f =
      same_kinds _ _ _ _ _ _ _ _
      (any_update has_undef (λ u w g. g.undef) c.participants d.participants f.participants)
      (any_none c.rewards d.rewards f.rewards)
      (any_update has_outside (λ u w g. g.outside) c.participants d.participants f.participants)
      (list_any_alike (FollowsReady has state) (λ r. weighs_wrong (weights_of r.updates)) (λ r. weighs_wrong (weights_of r.updates))
      (λ r t g. ap (λ l. weighs_wrong (all_defined l)) (map_alike (FollowsUpdate has state) (λ u. number_of u.weight.value) (λ u. number_of u.weight.value) (λ u w k. k.weight) r.updates t.updates g.updates))
      c.participants d.participants f.participants)

  written-append : (s : Values) (ws vs : List Write) → written s (ws ++ vs) ≡ written (written s ws) vs
  written-append s [] vs = refl
  written-append s (w ∷ ws) vs = written-append _ ws vs

  assigned-append : (own : List Fraction) (ws vs : List Reward) → assigned own (ws ++ vs) ≡ assigned (assigned own ws) vs
  assigned-append own [] vs = refl
  assigned-append own (w ∷ ws) vs = assigned-append (slice_set own w.structure (unwrap_or (number_of w.value.value) nought)) ws vs

  target_same : (s : Values) → IsTrue (has s) → (us ws : List Update) → AllZip (FollowsUpdate has state) us ws →
      written (state s) (flat_map (λ u. u.writes) ws) ≡ state (written s (flat_map (λ u. u.writes) us))
  target_same s i [] [] h = refl
  target_same s i [] (w ∷ ws) h = absurd h
  target_same s i (u ∷ us) [] h = absurd h
  target_same s i (u ∷ us) (w ∷ ws) h =
      written-append (state s) w.writes (flat_map (λ u. u.writes) ws)
      ∙ ap (λ t. written t (flat_map (λ u. u.writes) ws)) (h.0.target s i)
      ∙ target_same (written s u.writes) (h.0.stays s i) us ws h.1
      ∙ ap state (sym (written-append s u.writes (flat_map (λ u. u.writes) us)))

  rewards_same : (own : List Fraction) (us ws : List Update) → AllZip (FollowsUpdate has state) us ws →
      assigned own (flat_map (λ u. u.rewards) ws) ≡ assigned own (flat_map (λ u. u.rewards) us)
  rewards_same own [] [] h = refl
  rewards_same own [] (w ∷ ws) h = absurd h
  rewards_same own (u ∷ us) [] h = absurd h
  rewards_same own (u ∷ us) (w ∷ ws) h =
      assigned-append own w.rewards (flat_map (λ u. u.rewards) ws)
      ∙ ap (λ o. assigned o (flat_map (λ u. u.rewards) ws)) (h.0.rewards own)
      ∙ rewards_same (assigned own u.rewards) us ws h.1
      ∙ sym (assigned-append own u.rewards (flat_map (λ u. u.rewards) us))

  same_branch : (x y : Fraction) (t u : Values) (rs qs : List Fraction) → x ≡ y → t ≡ u → rs ≡ qs →
      ◌≡◌ {A = Branch Fraction Values} (record { probability = x; target = t; rewards = rs }) (record { probability = y; target = u; rewards = qs })
  same_branch x y t u rs qs p q r = cc

  own_same : (xs ys : List Sum) → map (λ m. m.value) ys ≡ map (λ m. m.value) xs → own_rewards ys ≡ own_rewards xs
  own_same xs ys e =
      sym (map-map (λ o. unwrap_or o nought) (λ m. m.value) ys) ∙ ap (map (λ o. unwrap_or o nought)) e ∙ map-map (λ o. unwrap_or o nought) (λ m. m.value) xs

  branch_same : (s : Values) → IsTrue (has s) → (xs ys : List Sum) → map (λ m. m.value) ys ≡ map (λ m. m.value) xs → (us ws : List Update) → AllZip (FollowsUpdate has state) us ws →
      branch_of (state s) ys ws ≡ branch_image state (branch_of s xs us)
  branch_same s i xs ys e us ws h =
      same_branch _ _ _ _ _ _
      (ap product (map_alike (FollowsUpdate has state) weight_of weight_of (λ u w k. ap (λ o. unwrap_or o nought) k.weight) us ws h))
      (target_same s i us ws h)
      (ap (λ o. assigned o (flat_map (λ u. u.rewards) ws)) (own_same xs ys e) ∙ rewards_same (own_rewards xs) us ws h)

  branches_same : (s : Values) → IsTrue (has s) → (label : Option Name → Option Name) (c d : Combination) → FollowsCombination has state label c d →
      map (branch_of (state s) d.rewards) (ways d.participants) ≡ map (branch_image state) (map (branch_of s c.rewards) (ways c.participants))
  branches_same s i label c d f =
      map_alike (AllZip (FollowsUpdate has state)) (λ us. branch_image state (branch_of s c.rewards us)) (branch_of (state s) d.rewards)
      (λ us ws h. branch_same s i c.rewards d.rewards f.rewards us ws h) (ways c.participants) (ways d.participants)
      (one_of_each_alike (FollowsUpdate has state) _ _
      (AllZip-maps (FollowsReady has state) (AllZip (FollowsUpdate has state)) (λ r. r.updates) (λ r. r.updates) (λ r t g. g.updates) c.participants d.participants f.participants))
      ∙ sym (map-map (branch_image state) (branch_of s c.rewards) (ways c.participants))

  from_same : (label : Option Name → Option Name) (l : Option Name) (g : Option Bool) (k : Kinds) (bs : List (Branch Fraction Values)) →
      choice_from g (label l) (outcome_of k (map (branch_image state) bs)) ≡ map (choice_image label state) (choice_from g l (outcome_of k bs))
  from_same label l None k bs = refl
  from_same label l (Some false) k bs = refl
  from_same label l (Some true) k bs = ap (λ o. let x : Choice Name Fraction Values = record { label = label l; outcome = o } in x ∷ []) (by_kind (has_kind k))
    where
      by_kind : (b : Bool) → ◌≡◌ {A = Outcome Fraction Values} (if b then Bad k else Good (map (branch_image state) bs)) (outcome_image state (if b then Bad k else Good bs))
      by_kind true = refl
      by_kind false = refl

  -- the choice at the state's image is the image of the choice
  pub choice_same : (label : Option Name → Option Name) (s : Values) → IsTrue (has s) → (c d : Combination) → FollowsCombination has state label c d →
      choice_of (state s) d ≡ map (choice_image label state) (choice_of s c)
  choice_same label s i c d f =
      ap₂ (λ g l. choice_from g l (outcome_of (kinds_of d.rewards d.participants) (map (branch_of (state s) d.rewards) (ways d.participants)))) (guard_same c.participants d.participants f.participants) f.labels
      ∙ ap₂ (λ k bs. choice_from (guard_of c.participants) (label c.label) (outcome_of k bs)) (kinds_same label c d f) (branches_same s i label c d f)
      ∙ from_same label c.label (guard_of c.participants) (kinds_of c.rewards c.participants) (map (branch_of s c.rewards) (ways c.participants))

  -- the choices at the state's image are the images of the choices, in order
  pub choices_same : (label : Option Name → Option Name) (s : Values) → IsTrue (has s) → (cs ds : List Combination) → AllZip (FollowsCombination has state label) cs ds →
      choices (state s) ds ≡ map (choice_image label state) (choices s cs)
  choices_same label s i cs ds h =
      flat_map_alike (FollowsCombination has state label) (λ c. map (choice_image label state) (choice_of s c)) (choice_of (state s)) (choice_same label s i) cs ds h
      ∙ sym (map-flat_map (choice_image label state) (choice_of s) cs)

  -- ---- combinations that follow
  pub together_follow : (label : Option Name → Option Name) (l m : Option Name) (xs ys : List Sum) → m ≡ label l → map (λ m. m.value) ys ≡ map (λ m. m.value) xs →
      (ms ns : List (List Ready)) → AllZip (AllZip (FollowsReady has state)) ms ns → AllZip (FollowsCombination has state label) (together l xs ms) (together m ys ns)
  together_follow label l m xs ys e w ms ns h =
      AllZip-maps (AllZip (FollowsReady has state)) (FollowsCombination has state label) _ _ (λ rs ts k. record { labels = e; rewards = w; participants = k }) (one_of_each ms) (one_of_each ns)
      (one_of_each_alike (FollowsReady has state) ms ns h)

  -- as FollowsReady, and both have an action or neither has
  abbrev pub FollowsAlone : Ready → Ready → Type 0
  FollowsAlone r t = FollowsReady has state r t × (has_action None r ≡ has_action None t)

  pub silent_follow : (label : Option Name → Option Name) → label None ≡ None → (xs ys : List Sum) → map (λ m. m.value) ys ≡ map (λ m. m.value) xs →
      (ms ns : List (List Ready)) → AllZip (AllZip FollowsAlone) ms ns → AllZip (FollowsCombination has state label) (silent xs ms) (silent ys ns)
  silent_follow label e xs ys w ms ns h =
      AllZip-flat_map (AllZip FollowsAlone) (FollowsCombination has state label)
      (λ m. map (alone xs) (filter (has_action None) m)) (λ n. map (alone ys) (filter (has_action None) n))
      (λ m n k. AllZip-maps FollowsAlone (FollowsCombination has state label) (alone xs) (alone ys)
      (λ r t f. record { labels = sym e; rewards = w; participants = (f.0, tt) }) (filter (has_action None) m) (filter (has_action None) n)
      (AllZip-filter FollowsAlone (has_action None) (has_action None) (λ r t f. f.1) m n k)) ms ns h
