-- A further participant that changes nothing but rewards, as a monitor is: where it assigns the rewards that the
-- combination has by itself, the choice stays the same.
use Rattle.std.specs.Prelude.{◌≡◌, List, [], ◌∷◌, ◌++◌, map, Bool, true, false, not, ◌||◌, Option, Some, None, is_none, if◌then◌else◌}
use Rattle.std.specs.List.{flat_map, list_any, All}
use Rattle.std.proofs.Common.{refl, sym, ap, ap₂, ◌∙◌, append-nil}
use Rattle.std.proofs.lemmas.List.{map-append}
use Rattle.std.proofs.lemmas.List.Concat.{flat_map-append}
use Rattle.std.proofs.lemmas.List.Elements.{All-head, All-tail, All-map, All-weaker}
use Rattle.std.proofs.Math.Bool.{or-false, or_assoc}
use Rattle.basics.specs.Members.{any_push, all_each}
use Rattle.frac_core.specs.Fraction.{Fraction, nought, unit, times, plus}
use Rattle.frac_core.specs.Laws.{plus_nought, times_unit, same_number_is}
use Rattle.frac_core.specs.Sums.{product}
use Rattle.op_trees.specs.Seen.{known}
use Rattle.op_trees.specs.declared.tree.Value.TheVariants as V
use Rattle.process_core.specs.Process.{Kinds, Branch}
use Rattle.process_core.specs.Product.{one_of_each, one_of_each_last, map-map, map_agree_in, All-one_of_each}
use Rattle.process_core.specs.Ready.{Values, Name, Reward, Update, Ready, Sum, Combination}
use Rattle.process_core.specs.Choices.{is_false, number_of, guard_of, weights_of, weighs_wrong, has_undef, has_outside, kinds_of, weight_of, written, assigned, own_rewards, branch_of, ways, outcome_of, choice_from, choice_of}

-- an update of probability 1 that writes nothing and assigns these rewards
abbrev pub idle_update : List Reward → Update
idle_update rewards = record { weight = known (Some (V.Number unit)); writes = []; rewards = rewards }

-- a participant that always has it
abbrev pub idle : Option Name → List Reward → Ready
idle a rewards = record { action = a; guard = known (Some (V.Truth true)); updates = idle_update rewards ∷ [] }

-- a combination with one participant more, and rewards of its own
abbrev pub joined_by : Combination → List Sum → Ready → Combination
joined_by c own r = record { label = c.label; rewards = own; participants = c.participants ++ r ∷ [] }

-- With rewards `own` in place of the combination's, and `rewards` assigned last, each way to take its updates earns what
-- it earned before; and a reward is undefined now where one was before.
pub record Earns (c : Combination) (own : List Sum) (rewards : List Reward) : Type 0 where
  pub same : All (λ us. assigned (own_rewards own) (flat_map (λ u. u.rewards) us ++ rewards) ≡ assigned (own_rewards c.rewards) (flat_map (λ u. u.rewards) us)) (ways c.participants)
  pub undef : (list_any (λ r. is_none (number_of r.value.value)) rewards || list_any (λ m. is_none m.value) own) ≡ list_any (λ m. is_none m.value) c.rewards

-- ---- an end that adds nothing
product_end : (xs : List Fraction) → product (xs ++ unit ∷ []) ≡ product xs
product_end [] = times_unit unit
product_end (x ∷ xs) = ap (times x) (product_end xs)

any_end_no : (p : Ready → Bool) (rs : List Ready) (r : Ready) → p r ≡ false → list_any p (rs ++ r ∷ []) ≡ list_any p rs
any_end_no p rs r h = any_push p rs r ∙ ap (λ b. list_any p rs || b) h ∙ or-false (list_any p rs)

guard_end : (rs : List Ready) (a : Option Name) (rewards : List Reward) → guard_of (rs ++ idle a rewards ∷ []) ≡ guard_of rs
guard_end rs a rewards =
    ap₂ (λ x y. if x then Some false else (if y then None else Some true))
    (any_end_no (λ r. is_false r.guard.value) rs (idle a rewards) refl) (any_end_no (λ r. is_none r.guard.value) rs (idle a rewards) refl)

weighs_one : weighs_wrong (Some (unit ∷ [])) ≡ false
weighs_one = ap not ((same_number_is (plus unit nought) unit).1 (plus_nought unit))

pub same_kinds : (a b c d e f : Bool) → a ≡ b → c ≡ d → e ≡ f → ◌≡◌ {A = Kinds} (record { undef = a; range = c; weight = e }) (record { undef = b; range = d; weight = f })
same_kinds a b c d e f p q r = cc

kinds_end : (c : Combination) (own : List Sum) (a : Option Name) (rewards : List Reward) → Earns c own rewards → kinds_of own (c.participants ++ idle a rewards ∷ []) ≡ kinds_of c.rewards c.participants
kinds_end c own a rewards h =
    let some = list_any (λ r. list_any has_undef r.updates) c.participants in
    let assigns = list_any (λ r. is_none (number_of r.value.value)) rewards in
    same_kinds _ _ _ _ _ _
    (ap (λ b. b || list_any (λ m. is_none m.value) own) (any_push (λ r. list_any has_undef r.updates) c.participants (idle a rewards) ∙ ap (λ b. some || b) (or-false assigns))
    ∙ or_assoc some assigns (list_any (λ m. is_none m.value) own) ∙ ap (λ b. some || b) h.undef)
    (any_end_no (λ r. list_any has_outside r.updates) c.participants (idle a rewards) refl)
    (any_end_no (λ r. weighs_wrong (weights_of r.updates)) c.participants (idle a rewards) weighs_one)

pub same_branch : (x y : Fraction) (t u : Values) (rs qs : List Fraction) → x ≡ y → t ≡ u → rs ≡ qs →
    ◌≡◌ {A = Branch Fraction Values} (record { probability = x; target = t; rewards = rs }) (record { probability = y; target = u; rewards = qs })
same_branch x y t u rs qs p q r = cc

branch_end : (s : Values) (own base : List Sum) (rewards : List Reward) (us : List Update) →
    assigned (own_rewards own) (flat_map (λ u. u.rewards) us ++ rewards) ≡ assigned (own_rewards base) (flat_map (λ u. u.rewards) us) →
    branch_of s own (us ++ idle_update rewards ∷ []) ≡ branch_of s base us
branch_end s own base rewards us h =
    same_branch _ _ _ _ _ _
    (ap product (map-append weight_of us (idle_update rewards ∷ [])) ∙ product_end (map weight_of us))
    (ap (written s) (flat_map-append (λ u. u.writes) us (idle_update rewards ∷ []) ∙ append-nil (flat_map (λ u. u.writes) us)))
    (ap (assigned (own_rewards own)) (flat_map-append (λ u. u.rewards) us (idle_update rewards ∷ []) ∙ ap (λ l. flat_map (λ u. u.rewards) us ++ l) (append-nil rewards)) ∙ h)

branches_end : (s : Values) (c : Combination) (own : List Sum) (a : Option Name) (rewards : List Reward) → Earns c own rewards →
    map (branch_of s own) (ways (c.participants ++ idle a rewards ∷ [])) ≡ map (branch_of s c.rewards) (ways c.participants)
branches_end s c own a rewards h =
    let uss = map (λ r. r.updates) c.participants in
    ap (λ l. map (branch_of s own) (one_of_each l)) (map-append (λ r. r.updates) c.participants (idle a rewards ∷ []))
    ∙ ap (map (branch_of s own)) (one_of_each_last uss (idle_update rewards))
    ∙ map-map (branch_of s own) (λ us. us ++ idle_update rewards ∷ []) (one_of_each uss)
    ∙ map_agree_in (λ us. branch_of s own (us ++ idle_update rewards ∷ [])) (branch_of s c.rewards) (one_of_each uss)
    (All-weaker (λ us. assigned (own_rewards own) (flat_map (λ u. u.rewards) us ++ rewards) ≡ assigned (own_rewards c.rewards) (flat_map (λ u. u.rewards) us))
    (λ us. branch_of s own (us ++ idle_update rewards ∷ []) ≡ branch_of s c.rewards us) (branch_end s own c.rewards rewards) (ways c.participants) h.same)

-- the choice of a combination is that of the combination with the further participant
pub choice_joined : (s : Values) (c : Combination) (own : List Sum) (a : Option Name) (rewards : List Reward) → Earns c own rewards →
    choice_of s (joined_by c own (idle a rewards)) ≡ choice_of s c
choice_joined s c own a rewards h =
    ap₂ (λ g k. choice_from g c.label (outcome_of k (map (branch_of s own) (ways (c.participants ++ idle a rewards ∷ []))))) (guard_end c.participants a rewards) (kinds_end c own a rewards h)
    ∙ ap (λ bs. choice_from (guard_of c.participants) c.label (outcome_of (kinds_of c.rewards c.participants) bs)) (branches_end s c own a rewards h)

-- one that does nothing at all changes nothing
pub choice_idle : (s : Values) (c : Combination) (a : Option Name) → choice_of s (joined_by c c.rewards (idle a [])) ≡ choice_of s c
choice_idle s c a = choice_joined s c c.rewards a [] (record {
  same =
      all_each (λ us. assigned (own_rewards c.rewards) (flat_map (λ u. u.rewards) us ++ []) ≡ assigned (own_rewards c.rewards) (flat_map (λ u. u.rewards) us))
      (λ us. ap (assigned (own_rewards c.rewards)) (append-nil (flat_map (λ u. u.rewards) us))) (ways c.participants);
  undef = refl;
})

-- where no participant assigns a reward, rewards that a further one assigns are as good as the combination's own
pub record NoRewards (r : Ready) : Type 0 where
  pub none : All (λ u. u.rewards ≡ []) r.updates

no_rewards : (us : List Update) → All (λ u. u.rewards ≡ []) us → flat_map (λ u. u.rewards) us ≡ []
no_rewards [] h = refl
no_rewards (u ∷ us) h = ap₂ (λ a b. a ++ b) (All-head (λ u. u.rewards ≡ []) u us h) (no_rewards us (All-tail (λ u. u.rewards ≡ []) u us h))

pub Earns_alone : (c : Combination) (own : List Sum) (rewards : List Reward) → All NoRewards c.participants →
    assigned (own_rewards own) rewards ≡ own_rewards c.rewards →
    (list_any (λ r. is_none (number_of r.value.value)) rewards || list_any (λ m. is_none m.value) own) ≡ list_any (λ m. is_none m.value) c.rewards →
    Earns c own rewards
Earns_alone c own rewards h e k = record {
  same =
      All-weaker (All (λ u. u.rewards ≡ []))
      (λ us. assigned (own_rewards own) (flat_map (λ u. u.rewards) us ++ rewards) ≡ assigned (own_rewards c.rewards) (flat_map (λ u. u.rewards) us))
      (λ us n. ap (λ l. assigned (own_rewards own) (l ++ rewards)) (no_rewards us n) ∙ e ∙ sym (ap (assigned (own_rewards c.rewards)) (no_rewards us n)))
      (ways c.participants)
      (All-one_of_each (λ u. u.rewards ≡ []) (map (λ r. r.updates) c.participants)
      (All-map (All (λ u. u.rewards ≡ [])) (λ r. r.updates) c.participants (All-weaker NoRewards (λ r. All (λ u. u.rewards ≡ []) r.updates) (λ r n. n.none) c.participants h)));
  undef = k;
}
