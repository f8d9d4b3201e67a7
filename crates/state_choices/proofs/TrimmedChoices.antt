-- The choices, and what passes a bound, of what is trimmed.
use Rattle.std.proofs.Common.{◌≡◌, List, [], ◌∷◌, ◌++◌, map, length, sum, nat_lt, Bool, true, false, not, ◌||◌, ◌&&◌, cond, if◌then◌else◌, Option, Some, None, is_none, Result, Ok, Err, refl, sym, ap, ap₂, ◌∙◌, subst}
use Rattle.std.specs.List.{list_any, filter}
use Rattle.std.proofs.lemmas.Bool.{or_parts, or_from}
use Rattle.std.proofs.lemmas.List.{length-map}
use Rattle.std.proofs.lemmas.List.Folds.{flat_map-map}
use Rattle.basics.specs.Members.{any-map, any_agree, any_two}
use Rattle.frac_core.specs.Fraction.{Fraction, unit, is_wide}
use Rattle.op_trees.specs.Seen.{Seen}
use Rattle.process_core.specs.Process.{Kinds, Outcome}
use Rattle.process_core.specs.Product.{one_of_each, one_of_each-map, map-map, multiplied, map-flat_map, flat_map_agree}
use Rattle.process_core.specs.Ready.{Values, Update, Ready, Sum, Combination}
use Rattle.process_core.specs.Choices.{is_false, guard_of, weights_of, weight_of, weighs_wrong, has_undef, has_outside, kinds_of, has_kind, ways, branch_of, outcome_of, choice_from, choice_of, choices}
use Rattle.process_core.specs.Bounds.{has_wide_guard, has_wide_part, is_wide_participant, is_enabled, branch_count, is_too_many, fails, holds, is_wide_rest, partial_products, first_excess, excess}
use Rattle.process_core.specs.Answers.{Answers}
use Rattle.process_core.specs.Seen.{seen_choice}
use Rattle.process_core.specs.declared.data.StepFail.{StepFail}
use Rattle.process_core.specs.declared.data.StepFail.TheVariants as Fail
use Rattle.process_core.specs.declared.data.Choice as code
use Rattle.process_core.specs.Idle.{same_kinds}
use Rattle.state_choices.specs.Counted.{is_wide_outcome}
use Rattle.state_choices.specs.Groups.{Group, of_group, of_groups}
use Rattle.state_choices.specs.Trimmed.{trimmed_sum, trimmed_update, trimmed, trimmed_combination, trimmed_group, TrimmingLaw}
use Rattle.state_choices.proofs.Opened.{is_enabled_is}
use Rattle.state_choices.proofs.Narrow.{IsOpen, kept, narrow_seen, narrow_sum, updates_trimmed, narrow_updates, wide_participant_trimmed}

-- tests and images that agree where something isn't so
any_narrow : {A : Type 0} (wide p q : A → Bool) → ((x : A) → wide x ≡ false → p x ≡ q x) → (xs : List A) → list_any wide xs ≡ false → list_any p xs ≡ list_any q xs
any_narrow wide p q h [] k = refl
any_narrow wide p q h (x ∷ xs) k = let w = or_parts (wide x) (list_any wide xs) k in ap₂ (λ a b. a || b) (h x w.0) (any_narrow wide p q h xs w.1)

map_narrow : {A B : Type 0} (wide : A → Bool) (f g : A → B) → ((x : A) → wide x ≡ false → f x ≡ g x) → (xs : List A) → list_any wide xs ≡ false → map f xs ≡ map g xs
map_narrow wide f g h [] k = refl
map_narrow wide f g h (x ∷ xs) k = let w = or_parts (wide x) (list_any wide xs) k in ap₂ (λ a b. a ∷ b) (h x w.0) (map_narrow wide f g h xs w.1)

-- ---- the kinds and branches of participants are those of their updates
abbrev updates : List Ready → List (List Update)
updates rs = map (λ r. r.updates) rs

abbrev kinds_by : List Sum → List (List Update) → Kinds
kinds_by rewards uss = record {
  undef = list_any (list_any has_undef) uss || list_any (λ m. is_none m.value) rewards;
  range = list_any (list_any has_outside) uss;
  weight = list_any (λ us. weighs_wrong (weights_of us)) uss;
}

kinds_from : (rewards : List Sum) (rs : List Ready) → kinds_of rewards rs ≡ kinds_by rewards (updates rs)
kinds_from rewards rs =
    same_kinds _ _ _ _ _ _ (ap (λ b. b || list_any (λ m. is_none m.value) rewards) (sym (any-map (list_any has_undef) (λ (r : Ready). r.updates) rs)))
    (sym (any-map (list_any has_outside) (λ (r : Ready). r.updates) rs)) (sym (any-map (λ us. weighs_wrong (weights_of us)) (λ (r : Ready). r.updates) rs))

abbrev product_wide : List Sum → List (List Update) → Bool
product_wide rewards uss = not (has_kind (kinds_by rewards uss)) && list_any (λ us. list_any is_wide (partial_products unit (map weight_of us))) (one_of_each uss)

abbrev outcome_by : Values → List Sum → List (List Update) → Outcome Fraction Values
outcome_by s rewards uss = outcome_of (kinds_by rewards uss) (map (branch_of s rewards) (one_of_each uss))

abbrev product_of : List Sum → List Ready → Bool
product_of rewards rs = not (has_kind (kinds_of rewards rs)) && list_any (λ us. list_any is_wide (partial_products unit (map weight_of us))) (ways rs)

abbrev outcome : Values → List Sum → List Ready → Outcome Fraction Values
outcome s rewards rs = outcome_of (kinds_of rewards rs) (map (branch_of s rewards) (ways rs))

product_from : (rewards : List Sum) (rs : List Ready) → product_of rewards rs ≡ product_wide rewards (updates rs)
product_from rewards rs = ap (λ k. not (has_kind k) && list_any (λ us. list_any is_wide (partial_products unit (map weight_of us))) (ways rs)) (kinds_from rewards rs)

outcome_from : (s : Values) (rewards : List Sum) (rs : List Ready) → outcome s rewards rs ≡ outcome_by s rewards (updates rs)
outcome_from s rewards rs = ap (λ k. outcome_of k (map (branch_of s rewards) (ways rs))) (kinds_from rewards rs)

-- ---- participants whose guards are neither wide nor false
abbrev closed : Ready → Bool
closed r = r.guard.wide || is_false r.guard.value

opens : (r : Ready) → closed r ≡ false → IsOpen r
opens r h = let p = or_parts r.guard.wide (is_false r.guard.value) h in record { narrow = p.0; may_hold = p.1 }

module _ (rewards : List Sum) (rs : List Ready) (h : list_any closed rs ≡ false) where
  count_trimmed : multiplied (map (λ r. length r.updates) (map trimmed rs)) ≡ multiplied (map (λ r. length r.updates) rs)
  count_trimmed =
      ap multiplied
      (map-map (λ (r : Ready). length r.updates) trimmed rs
      ∙ map_narrow closed _ _ (λ r k. ap length (updates_trimmed r (opens r k)) ∙ length-map r.updates trimmed_update) rs h)

  participants_trimmed : list_any is_wide_participant (map trimmed rs) ≡ list_any is_wide_participant rs
  participants_trimmed = any-map is_wide_participant trimmed rs ∙ any_narrow closed _ _ (λ r k. wide_participant_trimmed r (opens r k)) rs h

  module _ (a : list_any is_wide_participant rs ≡ false) (b : list_any (λ m. m.wide) rewards ≡ false) where
    updates_stay : updates (map trimmed rs) ≡ updates rs
    updates_stay =
        map-map (λ (r : Ready). r.updates) trimmed rs
        ∙ map_narrow (λ r. closed r || is_wide_participant r) _ _
        (λ r k. let p = or_parts (closed r) (is_wide_participant r) k in narrow_updates r (opens r p.0) ((or_parts (list_any has_wide_part r.updates) _ p.1).0)) rs
        (any_two closed is_wide_participant rs ∙ or_from _ _ h a)

    rewards_stay : map trimmed_sum rewards ≡ rewards
    rewards_stay = kept (λ m. m.wide) trimmed_sum narrow_sum rewards b

    product_trimmed : product_of (map trimmed_sum rewards) (map trimmed rs) ≡ product_of rewards rs
    product_trimmed = product_from (map trimmed_sum rewards) (map trimmed rs) ∙ ap₂ product_wide rewards_stay updates_stay ∙ sym (product_from rewards rs)

    outcome_trimmed : (s : Values) → outcome s (map trimmed_sum rewards) (map trimmed rs) ≡ outcome s rewards rs
    outcome_trimmed s = outcome_from s (map trimmed_sum rewards) (map trimmed rs) ∙ ap₂ (outcome_by s) rewards_stay updates_stay ∙ sym (outcome_from s rewards rs)

  wide_outcome_trimmed : is_wide_outcome (map trimmed_sum rewards) (map trimmed rs) ≡ is_wide_outcome rewards rs
  wide_outcome_trimmed =
      ap₂ (λ a b. a || (b || product_of (map trimmed_sum rewards) (map trimmed rs))) participants_trimmed (any-map (λ (m : Sum). m.wide) trimmed_sum rewards)
      ∙ by_parts (list_any is_wide_participant rs) (list_any (λ m. m.wide) rewards) refl refl
    where
      by_parts : (a b : Bool) → list_any is_wide_participant rs ≡ a → list_any (λ m. m.wide) rewards ≡ b →
          (a || (b || product_of (map trimmed_sum rewards) (map trimmed rs))) ≡ (a || (b || product_of rewards rs))
      by_parts true b j k = refl
      by_parts false true j k = refl
      by_parts false false j k = product_trimmed j k

-- ---- combinations without wide guards
module _ (c : Combination) (n : has_wide_guard c ≡ false) where
  guard_trimmed : guard_of (map trimmed c.participants) ≡ guard_of c.participants
  guard_trimmed =
      ap₂ (λ a b. if a then Some false else (if b then None else Some true))
      (any-map (λ (r : Ready). is_false r.guard.value) trimmed c.participants
      ∙ any_narrow (λ r. r.guard.wide) _ _ (λ r k. ap (λ (s : Seen). is_false s.value) (narrow_seen r.guard k)) c.participants n)
      (any-map (λ (r : Ready). is_none r.guard.value) trimmed c.participants
      ∙ any_narrow (λ r. r.guard.wide) _ _ (λ r k. ap (λ (s : Seen). is_none s.value) (narrow_seen r.guard k)) c.participants n)

  enabled_trimmed : is_enabled (trimmed_combination c) ≡ is_enabled c
  enabled_trimmed = ap (λ g. not (fails g)) guard_trimmed

  none_closed : is_enabled c ≡ true → list_any closed c.participants ≡ false
  none_closed e = any_two (λ r. r.guard.wide) (λ r. is_false r.guard.value) c.participants ∙ or_from _ _ n (not_true _ (sym (is_enabled_is c) ∙ e))
    where
      not_true : (b : Bool) → not b ≡ true → b ≡ false
      not_true true k = absurd cc
      not_true false k = refl

  branches_trimmed : is_enabled c ≡ true → branch_count (trimmed_combination c) ≡ branch_count c
  branches_trimmed e = count_trimmed c.rewards c.participants (none_closed e)

  wide_rest_trimmed : is_wide_rest (trimmed_combination c) ≡ is_wide_rest c
  wide_rest_trimmed =
      ap (λ g. holds g && is_wide_outcome (map trimmed_sum c.rewards) (map trimmed c.participants)) guard_trimmed
      ∙ by_guard (guard_of c.participants) refl
    where
      by_guard : (g : Option Bool) → guard_of c.participants ≡ g → (holds g && is_wide_outcome (map trimmed_sum c.rewards) (map trimmed c.participants)) ≡ (holds g && is_wide_outcome c.rewards c.participants)
      by_guard None e = refl
      by_guard (Some false) e = refl
      by_guard (Some true) e = wide_outcome_trimmed c.rewards c.participants (none_closed (ap (λ g. not (fails g)) e))

  choice_trimmed : (s : Values) → is_wide_rest c ≡ false → choice_of s (trimmed_combination c) ≡ choice_of s c
  choice_trimmed s k =
      ap (λ g. choice_from g c.label (outcome s (map trimmed_sum c.rewards) (map trimmed c.participants))) guard_trimmed
      ∙ by_guard (guard_of c.participants) refl
    where
      by_guard : (g : Option Bool) → guard_of c.participants ≡ g → choice_from g c.label (outcome s (map trimmed_sum c.rewards) (map trimmed c.participants)) ≡ choice_from g c.label (outcome s c.rewards c.participants)
      by_guard None e = refl
      by_guard (Some false) e = refl
      by_guard (Some true) e =
          let w : is_wide_outcome c.rewards c.participants ≡ false = sym (ap (λ g. holds g && is_wide_outcome c.rewards c.participants) e) ∙ k in
          let p = or_parts (list_any is_wide_participant c.participants) _ w in
          let q = or_parts (list_any (λ m. m.wide) c.rewards) _ p.1 in
          ap (choice_from (Some true) c.label) (outcome_trimmed c.rewards c.participants (none_closed (ap (λ g. not (fails g)) e)) p.0 q.0 s)

-- ---- all combinations
guards_trimmed : (cs : List Combination) → list_any has_wide_guard (map trimmed_combination cs) ≡ list_any has_wide_guard cs
guards_trimmed cs = any-map has_wide_guard trimmed_combination cs ∙ any_agree _ _ (λ (c : Combination). any-map (λ (r : Ready). r.guard.wide) trimmed c.participants) cs

rests_trimmed : (cs : List Combination) → list_any has_wide_guard cs ≡ false → list_any is_wide_rest (map trimmed_combination cs) ≡ list_any is_wide_rest cs
rests_trimmed cs n = any-map is_wide_rest trimmed_combination cs ∙ any_narrow has_wide_guard _ _ wide_rest_trimmed cs n

counts_trimmed : (cs : List Combination) → list_any has_wide_guard cs ≡ false → map branch_count (filter is_enabled (map trimmed_combination cs)) ≡ map branch_count (filter is_enabled cs)
counts_trimmed [] n = refl
counts_trimmed (c ∷ cs) n =
    let p = or_parts (has_wide_guard c) (list_any has_wide_guard cs) n in
    ap (λ b. map branch_count (cond b (trimmed_combination c ∷ filter is_enabled (map trimmed_combination cs)) (filter is_enabled (map trimmed_combination cs)))) (enabled_trimmed c p.0)
    ∙ by_test (is_enabled c) (branches_trimmed c p.0) (counts_trimmed cs p.1)
  where
    by_test : (b : Bool) → (b ≡ true → branch_count (trimmed_combination c) ≡ branch_count c) → map branch_count (filter is_enabled (map trimmed_combination cs)) ≡ map branch_count (filter is_enabled cs) →
        map branch_count (cond b (trimmed_combination c ∷ filter is_enabled (map trimmed_combination cs)) (filter is_enabled (map trimmed_combination cs))) ≡ map branch_count (cond b (c ∷ filter is_enabled cs) (filter is_enabled cs))
    by_test true h ih = ap₂ (λ a b. a ∷ b) (h refl) ih
    by_test false h ih = ih

many_trimmed : (cs : List Combination) → list_any has_wide_guard cs ≡ false → is_too_many (filter is_enabled (map trimmed_combination cs)) ≡ is_too_many (filter is_enabled cs)
many_trimmed cs n =
    let e = counts_trimmed cs n in
    ap₂ (λ a b. nat_lt 65536 a || nat_lt 1000000 b)
    (sym (length-map (filter is_enabled (map trimmed_combination cs)) branch_count) ∙ ap length e ∙ length-map (filter is_enabled cs) branch_count) (ap sum e)

excess_trimmed : (cs : List Combination) → excess (map trimmed_combination cs) ≡ excess cs
excess_trimmed cs = ap (λ g. first_excess g (is_too_many (filter is_enabled (map trimmed_combination cs))) (list_any is_wide_rest (map trimmed_combination cs))) (guards_trimmed cs) ∙ by_guards (list_any has_wide_guard cs) refl
  where
    by_guards : (g : Bool) → list_any has_wide_guard cs ≡ g →
        first_excess g (is_too_many (filter is_enabled (map trimmed_combination cs))) (list_any is_wide_rest (map trimmed_combination cs)) ≡ first_excess g (is_too_many (filter is_enabled cs)) (list_any is_wide_rest cs)
    by_guards true n = refl
    by_guards false n = ap₂ (first_excess false) (many_trimmed cs n) (rests_trimmed cs n)

choices_trimmed : (s : Values) (cs : List Combination) → list_any has_wide_guard cs ≡ false → list_any is_wide_rest cs ≡ false → choices s (map trimmed_combination cs) ≡ choices s cs
choices_trimmed s [] n k = refl
choices_trimmed s (c ∷ cs) n k =
    let p = or_parts (has_wide_guard c) (list_any has_wide_guard cs) n in
    let q = or_parts (is_wide_rest c) (list_any is_wide_rest cs) k in
    ap₂ (λ a b. a ++ b) (choice_trimmed c p.0 s q.0) (choices_trimmed s cs p.1 q.1)

nothing_wide : (g m r : Bool) → first_excess g m r ≡ None → (g ≡ false) × (r ≡ false)
nothing_wide true m r h = absurd cc
nothing_wide false true r h = absurd cc
nothing_wide false false true h = absurd cc
nothing_wide false false false h = (refl, refl)

-- ---- groups
group_trimmed : (g : Group) → of_group (trimmed_group g) ≡ map trimmed_combination (of_group g)
group_trimmed g =
    ap (map (λ rs. record { label = g.label; rewards = map trimmed_sum g.rewards; participants = rs })) (one_of_each-map trimmed g.lists)
    ∙ map-map (λ rs. record { label = g.label; rewards = map trimmed_sum g.rewards; participants = rs }) (map trimmed) (one_of_each g.lists)
    ∙ sym (map-map trimmed_combination (λ rs. record { label = g.label; rewards = g.rewards; participants = rs }) (one_of_each g.lists))

groups_trimmed : (gs : List Group) → of_groups (map trimmed_group gs) ≡ map trimmed_combination (of_groups gs)
groups_trimmed gs = flat_map-map of_group trimmed_group gs ∙ flat_map_agree _ _ group_trimmed gs ∙ sym (map-flat_map trimmed_combination of_group gs)

pub trimmed_excess : (gs : List Group) → excess (of_groups (map trimmed_group gs)) ≡ excess (of_groups gs)
trimmed_excess gs = ap excess (groups_trimmed gs) ∙ excess_trimmed (of_groups gs)

pub trimmed_choices : (s : Values) (gs : List Group) → excess (of_groups gs) ≡ None → choices s (of_groups (map trimmed_group gs)) ≡ choices s (of_groups gs)
trimmed_choices s gs e =
    let n = nothing_wide (list_any has_wide_guard (of_groups gs)) _ _ e in
    ap (choices s) (groups_trimmed gs) ∙ choices_trimmed s (of_groups gs) n.0 n.1

pub trimming_law : TrimmingLaw
trimming_law s gs r a = by_answer r (subst (λ cs. Answers (excess cs) (λ x. map seen_choice x ≡ choices s cs) r) (groups_trimmed gs) a)
  where
    by_answer : (r : Result (List code.Choice) StepFail) → Answers (excess (map trimmed_combination (of_groups gs))) (λ x. map seen_choice x ≡ choices s (map trimmed_combination (of_groups gs))) r → Answers (excess (of_groups gs)) (λ x. map seen_choice x ≡ choices s (of_groups gs)) r
    by_answer (Ok x) a =
        let e : excess (of_groups gs) ≡ None = sym (excess_trimmed (of_groups gs)) ∙ a.0 in
        let n = nothing_wide (list_any has_wide_guard (of_groups gs)) _ _ e in
        (e, a.1 ∙ choices_trimmed s (of_groups gs) n.0 n.1)
    by_answer (Err (Fail.Memory m)) a = tt
    by_answer (Err Fail.Wide) a = sym (excess_trimmed (of_groups gs)) ∙ a
    by_answer (Err Fail.TooMany) a = sym (excess_trimmed (of_groups gs)) ∙ a
