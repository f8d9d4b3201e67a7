-- Choices of combinations with false guards, and with rewards that their participants assign.
use Rattle.std.specs.Prelude.{◌≡◌, List, [], ◌∷◌, ◌++◌, map, true, false, not, ◌||◌, Option, Some, None, is_none, if◌then◌else◌, slice_set, unwrap_or}
use Rattle.std.specs.List.{flat_map, filter, list_any, All}
use Rattle.std.proofs.Common.{refl, sym, ap, ap₂, ◌∙◌}
use Rattle.std.proofs.lemmas.List.Folds.{flat_map-map, list_any-append}
use Rattle.std.proofs.lemmas.List.Elements.{All-nil, All-cons, All-head, All-tail, All-weaker}
use Rattle.std.proofs.Math.Bool.{or-false, not-not, or_assoc}
use Rattle.process_core.specs.Idle.{same_branch, same_kinds}
use Rattle.basics.specs.Members.{any-map, any_agree, any_two}
use Rattle.frac_core.specs.Fraction.{Fraction, nought}
use Rattle.frac_core.specs.Sums.{product}
use Rattle.process_core.specs.Process.{Branch}
use Rattle.process_core.specs.Product.{one_of_each, one_of_each-map, map-map, map_agree_in}
use Rattle.process_core.specs.Ready.{Values, Name, Reward, Update, Ready, Sum, together}
use Rattle.process_core.specs.Choices.{is_false, number_of, all_defined, guard_of, weights_of, weighs_wrong, has_undef, has_outside, kinds_of, weight_of, written, assigned, own_rewards, branch_of, ways, outcome_of, choice_from, choice_of, choices}
use Rattle.choice_laws.specs.Rewards.{earning, is_enabled, bare_update, bare_ready, any_undef, assigns_undef, some_assigns_undef, some_undef, AllEarn, AssignsAlike, Pays, EarnsBy}
use Rattle.choice_laws.proofs.Walks.{flat_map_agree_in}
use Rattle.choice_laws.proofs.Products.{All-ways, only_kept}

-- ---- combinations with a false guard
any_false : (rs : List Ready) → list_any (λ r. not (is_enabled r)) rs ≡ list_any (λ r. is_false r.guard.value) rs
any_false [] = refl
any_false (r ∷ rs) = ap₂ (λ a b. a || b) (not-not (is_false r.guard.value)) (any_false rs)

pub disabled : (s : Values) (label : Option Name) (own : List Sum) (rs : List Ready) → list_any (λ r. not (is_enabled r)) rs ≡ true → choice_of s (earning label own rs) ≡ []
disabled s label own rs h =
    ap (λ g. choice_from g label (outcome_of (kinds_of own rs) (map (branch_of s own) (ways rs)))) (ap (λ b. if b then Some false else (if list_any (λ r. is_none r.guard.value) rs then None else Some true)) (sym (any_false rs) ∙ h))

-- those that are not enabled may be left out
pub choices_enabled : (s : Values) (label : Option Name) (own : List Sum) (lists : List (List Ready)) →
    choices s (together label own lists) ≡ choices s (together label own (map (filter is_enabled) lists))
choices_enabled s label own lists =
    flat_map-map (choice_of s) (earning label own) (one_of_each lists)
    ∙ only_kept is_enabled lists (λ rs. choice_of s (earning label own rs)) (disabled s label own)
    ∙ sym (flat_map-map (choice_of s) (earning label own) (one_of_each (map (filter is_enabled) lists)))

-- ---- choices as walks
-- choices as a walk over the ways to take one of each list
pub choices_ways : {X : Type 0} (f : X → Ready) (u : Values) (label : Option Name) (own : List Sum) (lists : List (List X)) →
    choices u (together label own (map (map f) lists)) ≡ flat_map (λ ps. choice_of u (earning label own (map f ps))) (one_of_each lists)
choices_ways f u label own lists =
    flat_map-map (choice_of u) (earning label own) (one_of_each (map (map f) lists))
    ∙ ap (flat_map (λ rs. choice_of u (earning label own rs))) (one_of_each-map f lists)
    ∙ flat_map-map (λ rs. choice_of u (earning label own rs)) (map f) (one_of_each lists)

-- ---- rewards as the combination's own
undef_apart : (u : Update) → has_undef u ≡ (has_undef (bare_update u) || assigns_undef u)
undef_apart u =
    let a = is_none (number_of u.weight.value) in
    let b = list_any (λ w. is_none w.value.value) u.writes in
    let c = assigns_undef u in
    sym (or_assoc a b c) ∙ ap (λ x. (a || x) || c) (sym (or-false b))

guards_bare : (rs : List Ready) → guard_of (map bare_ready rs) ≡ guard_of rs
guards_bare rs = ap₂ (λ x y. if x then Some false else (if y then None else Some true)) (any-map (λ r. is_false r.guard.value) bare_ready rs) (any-map (λ r. is_none r.guard.value) bare_ready rs)

kinds_bare : (own given : List Sum) (rs : List Ready) → (some_assigns_undef rs || some_undef own) ≡ some_undef given →
    kinds_of given (map bare_ready rs) ≡ kinds_of own rs
kinds_bare own given rs h =
    same_kinds _ _ _ _ _ _
    (ap₂ (λ a b. a || b)
    (any-map (λ r. list_any has_undef r.updates) bare_ready rs ∙ any_agree _ _ (λ r. any-map has_undef bare_update r.updates) rs) (sym h)
    ∙ sym (or_assoc (list_any (λ r. list_any (λ u. has_undef (bare_update u)) r.updates) rs) (some_assigns_undef rs) (some_undef own))
    ∙ ap (λ b. b || some_undef own)
    (sym (any_two (λ r. list_any (λ u. has_undef (bare_update u)) r.updates) (λ r. list_any assigns_undef r.updates) rs)
    ∙ any_agree _ _ (λ r. sym (any_two (λ u. has_undef (bare_update u)) assigns_undef r.updates) ∙ any_agree _ _ (λ u. sym (undef_apart u)) r.updates) rs))
    (any-map (λ r. list_any has_outside r.updates) bare_ready rs ∙ any_agree _ _ (λ r. any-map has_outside bare_update r.updates) rs)
    (any-map (λ r. weighs_wrong (weights_of r.updates)) bare_ready rs
    ∙ any_agree _ _ (λ r. ap (λ l. weighs_wrong (all_defined l)) (map-map (λ u. number_of u.weight.value) bare_update r.updates)) rs)

nothing_assigned : (us : List Update) → flat_map (λ u. u.rewards) (map bare_update us) ≡ []
nothing_assigned [] = refl
nothing_assigned (u ∷ us) = nothing_assigned us

branch_bare : (s : Values) (own given : List Sum) (us : List Update) → assigned (own_rewards own) (flat_map (λ u. u.rewards) us) ≡ own_rewards given →
    branch_of s given (map bare_update us) ≡ branch_of s own us
branch_bare s own given us h =
    same_branch _ _ _ _ _ _
    (ap product (map-map weight_of bare_update us))
    (ap (written s) (flat_map-map (λ u. u.writes) bare_update us))
    (ap (assigned (own_rewards given)) (nothing_assigned us) ∙ sym h)

branches_bare : (s : Values) (own given : List Sum) (rs : List Ready) →
    All (λ us. assigned (own_rewards own) (flat_map (λ u. u.rewards) us) ≡ own_rewards given) (ways rs) →
    map (branch_of s given) (ways (map bare_ready rs)) ≡ map (branch_of s own) (ways rs)
branches_bare s own given rs h =
    let uss = map (λ r. r.updates) rs in
    ap (λ l. map (branch_of s given) (one_of_each l)) (map-map (λ r. r.updates) bare_ready rs ∙ sym (map-map (map bare_update) (λ r. r.updates) rs))
    ∙ ap (map (branch_of s given)) (one_of_each-map bare_update uss)
    ∙ map-map (branch_of s given) (map bare_update) (one_of_each uss)
    ∙ map_agree_in (λ us. branch_of s given (map bare_update us)) (branch_of s own) (one_of_each uss)
    (All-weaker (λ us. assigned (own_rewards own) (flat_map (λ u. u.rewards) us) ≡ own_rewards given)
    (λ us. branch_of s given (map bare_update us) ≡ branch_of s own us) (branch_bare s own given) (ways rs) h)

-- the choice is that of the combination which earns it by itself
pub choice_bare : (s : Values) (label : Option Name) (own given : List Sum) (rs : List Ready) → AllEarn own rs given →
    choice_of s (earning label own rs) ≡ choice_of s (earning label given (map bare_ready rs))
choice_bare s label own given rs h =
    sym (ap₂ (λ g k. choice_from g label (outcome_of k (map (branch_of s given) (ways (map bare_ready rs))))) (guards_bare rs) (kinds_bare own given rs h.undef)
    ∙ ap (λ bs. choice_from (guard_of rs) label (outcome_of (kinds_of own rs) bs)) (branches_bare s own given rs h.same))

-- ---- rewards that are known of each participant
assigned-append : (own : List Fraction) (rs qs : List Reward) → assigned own (rs ++ qs) ≡ assigned (assigned own rs) qs
assigned-append own [] qs = refl
assigned-append own (r ∷ rs) qs = assigned-append (slice_set own r.structure (unwrap_or (number_of r.value.value) nought)) rs qs

module _ {X : Type 0} (ready : X → Ready) (paid : X → List Reward) where
  abbrev pub PaysHere : X → Type 0
  PaysHere p = Pays (paid p) (ready p)

  -- what one of each assigns
  ways_pay : (ps : List X) → All PaysHere ps → All (λ us. AssignsAlike (flat_map (λ u. u.rewards) us) (flat_map paid ps)) (ways (map ready ps))
  ways_pay [] h = All-cons (λ us. AssignsAlike (flat_map (λ u. u.rewards) us) []) [] [] (λ own. refl) (All-nil (λ us. AssignsAlike (flat_map (λ u. u.rewards) us) []))
  ways_pay (p ∷ ps) h =
      All-ways (λ u. AssignsAlike u.rewards (paid p)) (λ us. AssignsAlike (flat_map (λ u. u.rewards) us) (flat_map paid ps)) (λ us. AssignsAlike (flat_map (λ u. u.rewards) us) (flat_map paid (p ∷ ps)))
      (λ u us e k own.
      assigned-append own u.rewards (flat_map (λ u. u.rewards) us)
      ∙ ap (λ o. assigned o (flat_map (λ u. u.rewards) us)) (e own)
      ∙ k (assigned own (paid p))
      ∙ sym (assigned-append own (paid p) (flat_map paid ps))) (ready p).updates (ways (map ready ps)) (All-head PaysHere p ps h).each (ways_pay ps (All-tail PaysHere p ps h))

  undef_paid : (ps : List X) → All PaysHere ps → some_assigns_undef (map ready ps) ≡ any_undef (flat_map paid ps)
  undef_paid [] h = refl
  undef_paid (p ∷ ps) h =
      ap₂ (λ a b. a || b) (All-head PaysHere p ps h).undef (undef_paid ps (All-tail PaysHere p ps h))
      ∙ sym (list_any-append (λ r. is_none (number_of r.value.value)) (paid p) (flat_map paid ps))

  pub way_earns : (none given : List Sum) (ps : List X) → All PaysHere ps → EarnsBy none given (flat_map paid ps) → AllEarn none (map ready ps) given
  way_earns none given ps h e = record {
    same =
        All-weaker (λ us. AssignsAlike (flat_map (λ u. u.rewards) us) (flat_map paid ps)) (λ us. assigned (own_rewards none) (flat_map (λ u. u.rewards) us) ≡ own_rewards given)
        (λ us k. k (own_rewards none) ∙ e.same) (ways (map ready ps)) (ways_pay ps h);
    undef = ap (λ b. b || some_undef none) (undef_paid ps h) ∙ e.undef;
  }

  pub choices_earned : (u : Values) (label : Option Name) (none given : List Sum) (lists : List (List X)) →
      All (λ ps. All PaysHere ps × EarnsBy none given (flat_map paid ps)) (one_of_each lists) →
      choices u (together label none (map (map ready) lists)) ≡ choices u (together label given (map (map (λ p. bare_ready (ready p))) lists))
  choices_earned u label none given lists h =
      choices_ways ready u label none lists
      ∙ flat_map_agree_in (λ ps. choice_of u (earning label none (map ready ps))) (λ ps. choice_of u (earning label given (map (λ p. bare_ready (ready p)) ps))) (one_of_each lists)
      (All-weaker (λ ps. All PaysHere ps × EarnsBy none given (flat_map paid ps))
      (λ ps. choice_of u (earning label none (map ready ps)) ≡ choice_of u (earning label given (map (λ p. bare_ready (ready p)) ps)))
      (λ ps k. choice_bare u label none given (map ready ps) (way_earns none given ps k.0 k.1) ∙ ap (λ rs. choice_of u (earning label given rs)) (map-map bare_ready ready ps))
      (one_of_each lists) h)
      ∙ sym (choices_ways (λ p. bare_ready (ready p)) u label given lists)
