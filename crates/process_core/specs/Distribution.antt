-- The branches of a good choice are a distribution over states: what that is, and why the choices of combinations are so.
-- (jani-model specification, "Models" for type "mdp"; plain mathematics.)
use Rattle.std.specs.Prelude.{◌≡◌, List, [], ◌∷◌, map, Bool, true, false, not, ◌||◌, ◌&&◌, Option, Some, None, is_none, is_some, pos, negsuc, ℤ, ◌≤ℤ◌, ◌*ℤ◌, int_lt, IsTrue, unwrap_or, slice_set, if◌then◌else◌}
use Rattle.std.specs.List.{list_any, flat_map, All}
use Rattle.std.proofs.Common.{refl, sym, ap, ap₂, subst, ◌∙◌, arith}
use Rattle.std.proofs.lemmas.Int.{ints}
use Rattle.std.proofs.lemmas.List.Elements.{All-cons, All-nil, All-head, All-tail, All-append, All-map, All-weaker}
use Rattle.std.proofs.lemmas.Bool.{not-false}
use Rattle.basics.specs.Members.{none_passes, All-unmap}
use Rattle.basics.specs.Booleans.{first_false, second_false}
use Rattle.frac_core.specs.Fraction.{Fraction, nought, unit, plus, times}
use Rattle.frac_core.specs.Laws.{plus_nought, times_comm, times_unit, times_nought, times-plus, same_number_is, zero_times}
use Rattle.frac_core.specs.Order.{AtMost, times_AtMost, one_times}
use Rattle.frac_core.specs.Sums.{total, product, total-append, total-times}
use Rattle.op_trees.specs.declared.tree.Value.{Value}
use Rattle.op_trees.specs.declared.tree.Value.TheVariants as V
use Rattle.process_core.specs.Process.{Kinds, Branch, Outcome, Good, Bad}
use Rattle.process_core.specs.Product.{one_of_each, one_of_each-map, map-map, map-flat_map, All-one_of_each}
use Rattle.process_core.specs.Ready.{Values, Name, Write, Update, Ready, Combination}
use Rattle.process_core.specs.Choices.{number_of, with_first, weights_of, is_negative, weighs_wrong, has_undef, has_outside, kinds_of, has_kind, guard_of, weight_of, written, branch_of, ways, outcome_of, choice_from, choice_of, choices, undef_alone}

-- ---- what it is
-- every target is a state, no probability is negative, and they add up to 1
pub record IsDistribution {S : Type 0} (is_state : S → Bool) (bs : List (Branch Fraction S)) : Type 0 where
  pub targets : All (λ b. IsTrue (is_state b.target)) bs
  pub not_negative : All (λ b. AtMost nought b.probability) bs
  pub whole : total (map (λ b. b.probability) bs) ≡ unit

-- a good outcome is a distribution, and a bad one has a kind
abbrev pub IsProper : {S : Type 0} → (S → Bool) → Outcome Fraction S → Type 0
IsProper is_state (Good bs) = IsDistribution is_state bs
IsProper is_state (Bad k) = IsTrue (has_kind k)

-- an assignment of a value that is in range keeps states states
pub record KeepsStates (is_state : Values → Bool) (w : Write) : Type 0 where
  pub keeps : (s : Values) (v : Value) → IsTrue (is_state s) → w.value.value ≡ Some v → w.fits ≡ true → IsTrue (is_state (slice_set s w.column v))

abbrev pub KeepsAll : (Values → Bool) → Ready → Type 0
KeepsAll is_state r = All (λ u. All (KeepsStates is_state) u.writes) r.updates

-- ---- sums of products
plus-times : (x y z : Fraction) → times (plus x y) z ≡ plus (times x z) (times y z)
plus-times x y z = times_comm (plus x y) z ∙ times-plus z x y ∙ ap₂ plus (times_comm z x) (times_comm z y)

over_all : (xss : List (List Fraction)) → total (map product (one_of_each xss)) ≡ product (map total xss) → (ys : List Fraction) →
    total (flat_map (λ x. map product (map (λ r. x ∷ r) (one_of_each xss))) ys) ≡ times (total ys) (product (map total xss))
over_all xss ih [] = sym (times_comm nought (product (map total xss)) ∙ times_nought (product (map total xss)))
over_all xss ih (y ∷ ys) =
    let cs = one_of_each xss in
    total-append (map product (map (λ r. y ∷ r) cs)) (flat_map (λ x. map product (map (λ r. x ∷ r) cs)) ys)
    ∙ ap₂ plus
    (ap total (map-map product (λ r. y ∷ r) cs ∙ sym (map-map (times y) product cs)) ∙ total-times y (map product cs) ∙ ap (times y) ih)
    (over_all xss ih ys)
    ∙ sym (plus-times y (total ys) (product (map total xss)))

-- the products of all ways add up to the product of the sums
pub total_products : (xss : List (List Fraction)) → total (map product (one_of_each xss)) ≡ product (map total xss)
total_products [] = plus_nought unit
total_products (xs ∷ xss) =
    ap total (map-flat_map product (λ x. map (λ r. x ∷ r) (one_of_each xss)) xs) ∙ over_all xss (total_products xss) xs

product_units : (xs : List Fraction) → All (λ x. x ≡ unit) xs → product xs ≡ unit
product_units [] h = refl
product_units (x ∷ xs) h = ap₂ times (All-head (λ x. x ≡ unit) x xs h) (product_units xs (All-tail (λ x. x ≡ unit) x xs h)) ∙ times_unit unit

-- where each list adds up to 1, so do the products of all ways
pub total_unit : (xss : List (List Fraction)) → All (λ x. x ≡ unit) (map total xss) → total (map product (one_of_each xss)) ≡ unit
total_unit xss h = total_products xss ∙ product_units (map total xss) h

-- ---- products of numbers that are not negative
pub at_most_from_test : (x : Fraction) → is_negative x ≡ false → AtMost nought x
at_most_from_test x h = record { across = by_sign x.num h }
  where
    by_sign : (n : ℤ) → int_lt n (pos 0) ≡ false → (pos 0 *ℤ pos x.den) ≤ℤ (n *ℤ pos 1)
    by_sign (pos n) e = let z = zero_times x.den in let o = one_times (pos n) in omega (arith, ints)
    by_sign (negsuc n) e = absurd cc

product_not_negative : (xs : List Fraction) → All (AtMost nought) xs → AtMost nought (product xs)
product_not_negative [] h = at_most_from_test unit refl
product_not_negative (x ∷ xs) h =
    subst (λ z. AtMost z (times x (product xs))) (times_comm nought (product xs) ∙ times_nought (product xs))
    (times_AtMost nought x (product xs) (product_not_negative xs (All-tail (AtMost nought) x xs h)) (All-head (AtMost nought) x xs h))

-- ---- a participant without faults
defined_weight : (o : Option Fraction) (xs : List Fraction) → is_none o ≡ false → with_first o (Some xs) ≡ Some (unwrap_or o nought ∷ xs)
defined_weight None xs h = cc
defined_weight (Some x) xs h = refl

weights_defined : (us : List Update) → list_any has_undef us ≡ false → weights_of us ≡ Some (map weight_of us)
weights_defined [] h = refl
weights_defined (u ∷ us) h =
    ap (with_first (number_of u.weight.value)) (weights_defined us (second_false (has_undef u) (list_any has_undef us) h))
    ∙ defined_weight (number_of u.weight.value) _ (first_false (is_none (number_of u.weight.value)) _ (first_false (has_undef u) (list_any has_undef us) h))

weighs_right : (us : List Update) → list_any has_undef us ≡ false → weighs_wrong (weights_of us) ≡ false → weighs_wrong (Some (map weight_of us)) ≡ false
weighs_right us h k = ap weighs_wrong (sym (weights_defined us h)) ∙ k

participant_whole : (us : List Update) → list_any has_undef us ≡ false → weighs_wrong (weights_of us) ≡ false → total (map weight_of us) ≡ unit
participant_whole us h k =
    (same_number_is (total (map weight_of us)) unit).0 (not-false _ (second_false (list_any is_negative (map weight_of us)) _ (weighs_right us h k)))

participant_not_negative : (us : List Update) → list_any has_undef us ≡ false → weighs_wrong (weights_of us) ≡ false → All (λ u. AtMost nought (weight_of u)) us
participant_not_negative us h k =
    All-unmap (AtMost nought) weight_of us
    (All-weaker (λ x. is_negative x ≡ false) (AtMost nought) at_most_from_test (map weight_of us)
    (none_passes is_negative (map weight_of us) (first_false (list_any is_negative (map weight_of us)) _ (weighs_right us h k))))

-- ---- a combination without faults
-- each participant of a combination without kinds
pub record IsFaultless (r : Ready) : Type 0 where
  pub defined : list_any has_undef r.updates ≡ false
  pub within : list_any has_outside r.updates ≡ false
  pub weighs : weighs_wrong (weights_of r.updates) ≡ false

faultless : (rs : List Ready) → list_any (λ r. list_any has_undef r.updates) rs ≡ false → list_any (λ r. list_any has_outside r.updates) rs ≡ false →
    list_any (λ r. weighs_wrong (weights_of r.updates)) rs ≡ false → All IsFaultless rs
faultless [] h k l = All-nil IsFaultless
faultless (r ∷ rs) h k l =
    All-cons IsFaultless r rs
    (record { defined = first_false (list_any has_undef r.updates) _ h; within = first_false (list_any has_outside r.updates) _ k; weighs = first_false (weighs_wrong (weights_of r.updates)) _ l })
    (faultless rs (second_false (list_any has_undef r.updates) _ h) (second_false (list_any has_outside r.updates) _ k) (second_false (weighs_wrong (weights_of r.updates)) _ l))

pub faultless_participants : (c : Combination) → has_kind (kinds_of c.rewards c.participants) ≡ false → All IsFaultless c.participants
faultless_participants c h =
    let k = kinds_of c.rewards c.participants in
    let rest = second_false k.undef (k.range || k.weight) h in
    faultless c.participants
    (first_false (list_any (λ r. list_any has_undef r.updates) c.participants) _ (first_false k.undef (k.range || k.weight) h))
    (first_false k.range k.weight rest) (second_false k.range k.weight rest)

all_whole : (rs : List Ready) → All IsFaultless rs → All (λ x. x ≡ unit) (map total (map (map weight_of) (map (λ r. r.updates) rs)))
all_whole [] h = All-nil (λ x. x ≡ unit)
all_whole (r ∷ rs) h =
    let f = All-head IsFaultless r rs h in
    All-cons (λ x. x ≡ unit) (total (map weight_of r.updates)) (map total (map (map weight_of) (map (λ r. r.updates) rs)))
    (participant_whole r.updates f.defined f.weighs) (all_whole rs (All-tail IsFaultless r rs h))

-- the branches' probabilities add up to 1
pub branches_whole : (s : Values) (c : Combination) → All IsFaultless c.participants → total (map (λ b. b.probability) (map (branch_of s c.rewards) (ways c.participants))) ≡ unit
branches_whole s c h =
    let uss = map (λ r. r.updates) c.participants in
    ap total (map-map (λ b. b.probability) (branch_of s c.rewards) (one_of_each uss) ∙ sym (map-map product (map weight_of) (one_of_each uss)) ∙ ap (map product) (sym (one_of_each-map weight_of uss)))
    ∙ total_unit (map (map weight_of) uss) (all_whole c.participants h)

-- what holds of each participant's updates holds of each way to take one from each
in_ways : (P : Update → Type 0) (rs : List Ready) → All (λ r. All P r.updates) rs → All (All P) (ways rs)
in_ways P rs h = All-one_of_each P (map (λ r. r.updates) rs) (All-map (All P) (λ r. r.updates) rs h)

pub branches_not_negative : (s : Values) (c : Combination) → All IsFaultless c.participants → All (λ b. AtMost nought b.probability) (map (branch_of s c.rewards) (ways c.participants))
branches_not_negative s c h =
    All-map (λ b. AtMost nought b.probability) (branch_of s c.rewards) (ways c.participants)
    (All-weaker (All (λ u. AtMost nought (weight_of u))) (λ us. AtMost nought (product (map weight_of us)))
    (λ us k. product_not_negative (map weight_of us) (All-map (AtMost nought) weight_of us k)) (ways c.participants)
    (in_ways (λ u. AtMost nought (weight_of u)) c.participants
    (All-weaker IsFaultless (λ r. All (λ u. AtMost nought (weight_of u)) r.updates) (λ r f. participant_not_negative r.updates f.defined f.weighs) c.participants h)))

-- ---- targets
and_first : (a b : Bool) → (a && b) ≡ false → a ≡ true → b ≡ false
and_first true b h e = h
and_first false b h e = absurd cc

record IsSafe (is_state : Values → Bool) (w : Write) : Type 0 where
  keeps : KeepsStates is_state w
  defined : is_none w.value.value ≡ false
  within : (is_some w.value.value && not w.fits) ≡ false

stays_state : (is_state : Values → Bool) (s : Values) (w : Write) (o : Option Value) → o ≡ w.value.value → IsSafe is_state w → IsTrue (is_state s) →
    IsTrue (is_state (slice_set s w.column (unwrap_or o (V.Truth false))))
stays_state is_state s w None e h k = absurd (let t = ap is_none e ∙ h.defined in cc)
stays_state is_state s w (Some v) e h k =
    h.keeps.keeps s v k (sym e) (not-false w.fits (and_first (is_some w.value.value) (not w.fits) h.within (sym (ap is_some e))))

written_state : (is_state : Values → Bool) (s : Values) (ws : List Write) → All (IsSafe is_state) ws → IsTrue (is_state s) → IsTrue (is_state (written s ws))
written_state is_state s [] h k = k
written_state is_state s (w ∷ ws) h k =
    written_state is_state (slice_set s w.column (unwrap_or w.value.value (V.Truth false))) ws (All-tail (IsSafe is_state) w ws h)
    (stays_state is_state s w w.value.value refl (All-head (IsSafe is_state) w ws h) k)

safe_writes : (is_state : Values → Bool) (ws : List Write) → All (KeepsStates is_state) ws → list_any (λ w. is_none w.value.value) ws ≡ false →
    list_any (λ w. is_some w.value.value && not w.fits) ws ≡ false → All (IsSafe is_state) ws
safe_writes is_state [] h k l = All-nil (IsSafe is_state)
safe_writes is_state (w ∷ ws) h k l =
    All-cons (IsSafe is_state) w ws
    (record { keeps = All-head (KeepsStates is_state) w ws h; defined = first_false (is_none w.value.value) _ k; within = first_false (is_some w.value.value && not w.fits) _ l })
    (safe_writes is_state ws (All-tail (KeepsStates is_state) w ws h) (second_false (is_none w.value.value) _ k) (second_false (is_some w.value.value && not w.fits) _ l))

safe_updates : (is_state : Values → Bool) (us : List Update) → All (λ u. All (KeepsStates is_state) u.writes) us → list_any has_undef us ≡ false → list_any has_outside us ≡ false →
    All (λ u. All (IsSafe is_state) u.writes) us
safe_updates is_state [] h k l = All-nil (λ u. All (IsSafe is_state) u.writes)
safe_updates is_state (u ∷ us) h k l =
    let no_undef = second_false (is_none (number_of u.weight.value)) _ (first_false (has_undef u) (list_any has_undef us) k) in
    All-cons (λ u. All (IsSafe is_state) u.writes) u us
    (safe_writes is_state u.writes (All-head (λ u. All (KeepsStates is_state) u.writes) u us h)
    (first_false (list_any (λ w. is_none w.value.value) u.writes) _ no_undef) (first_false (has_outside u) (list_any has_outside us) l))
    (safe_updates is_state us (All-tail (λ u. All (KeepsStates is_state) u.writes) u us h) (second_false (has_undef u) _ k) (second_false (has_outside u) _ l))

safe_participants : (is_state : Values → Bool) (rs : List Ready) → All (KeepsAll is_state) rs → All IsFaultless rs → All (λ r. All (λ u. All (IsSafe is_state) u.writes) r.updates) rs
safe_participants is_state [] h k = All-nil (λ r. All (λ u. All (IsSafe is_state) u.writes) r.updates)
safe_participants is_state (r ∷ rs) h k =
    let f = All-head IsFaultless r rs k in
    All-cons (λ r. All (λ u. All (IsSafe is_state) u.writes) r.updates) r rs
    (safe_updates is_state r.updates (All-head (KeepsAll is_state) r rs h) f.defined f.within)
    (safe_participants is_state rs (All-tail (KeepsAll is_state) r rs h) (All-tail IsFaultless r rs k))

gathered : (P : Write → Type 0) (us : List Update) → All (λ u. All P u.writes) us → All P (flat_map (λ u. u.writes) us)
gathered P [] h = All-nil P
gathered P (u ∷ us) h =
    All-append P u.writes (flat_map (λ u. u.writes) us) (All-head (λ u. All P u.writes) u us h) (gathered P us (All-tail (λ u. All P u.writes) u us h))

pub branches_reach : (is_state : Values → Bool) (s : Values) (c : Combination) → IsTrue (is_state s) → All (KeepsAll is_state) c.participants → All IsFaultless c.participants →
    All (λ b. IsTrue (is_state b.target)) (map (branch_of s c.rewards) (ways c.participants))
branches_reach is_state s c k h f =
    All-map (λ b. IsTrue (is_state b.target)) (branch_of s c.rewards) (ways c.participants)
    (All-weaker (All (λ u. All (IsSafe is_state) u.writes)) (λ us. IsTrue (is_state (written s (flat_map (λ u. u.writes) us))))
    (λ us t. written_state is_state s (flat_map (λ u. u.writes) us) (gathered (IsSafe is_state) us t) k) (ways c.participants)
    (in_ways (λ u. All (IsSafe is_state) u.writes) c.participants (safe_participants is_state c.participants h f)))

-- ---- the choices of a combination
proper_outcome : (is_state : Values → Bool) (k : Kinds) (bs : List (Branch Fraction Values)) → (has_kind k ≡ false → IsDistribution is_state bs) → IsProper is_state (outcome_of k bs)
proper_outcome is_state k bs h = by_kind (has_kind k) refl
  where
    by_kind : (b : Bool) → b ≡ has_kind k → IsProper is_state (if b then Bad k else Good bs)
    by_kind true e = sym e
    by_kind false e = h (sym e)

proper_choice : (is_state : Values → Bool) (g : Option Bool) (label : Option Name) (o : Outcome Fraction Values) → IsProper is_state o → All (λ x. IsProper is_state x.outcome) (choice_from g label o)
proper_choice is_state (Some true) label o h = All-cons (λ x. IsProper is_state x.outcome) (record { label = label; outcome = o }) [] h (All-nil (λ x. IsProper is_state x.outcome))
proper_choice is_state (Some false) label o h = All-nil (λ x. IsProper is_state x.outcome)
proper_choice is_state None label o h =
    All-cons (λ x. IsProper is_state x.outcome) (record { label = label; outcome = Bad undef_alone }) [] refl (All-nil (λ x. IsProper is_state x.outcome))

-- at a state, a combination whose assignments keep states gives only distributions and faults with a kind
pub choice_proper : (is_state : Values → Bool) (s : Values) (c : Combination) → IsTrue (is_state s) → All (KeepsAll is_state) c.participants → All (λ x. IsProper is_state x.outcome) (choice_of s c)
choice_proper is_state s c k h =
    proper_choice is_state (guard_of c.participants) c.label _
    (proper_outcome is_state (kinds_of c.rewards c.participants) _ (λ e.
    let f = faultless_participants c e in
    record { targets = branches_reach is_state s c k h f; not_negative = branches_not_negative s c f; whole = branches_whole s c f }))

pub choices_proper : (is_state : Values → Bool) (s : Values) (cs : List Combination) → IsTrue (is_state s) → All (λ c. All (KeepsAll is_state) c.participants) cs → All (λ x. IsProper is_state x.outcome) (choices s cs)
choices_proper is_state s [] k h = All-nil (λ x. IsProper is_state x.outcome)
choices_proper is_state s (c ∷ cs) k h =
    All-append (λ x. IsProper is_state x.outcome) (choice_of s c) (choices s cs)
    (choice_proper is_state s c k (All-head (λ c. All (KeepsAll is_state) c.participants) c cs h))
    (choices_proper is_state s cs k (All-tail (λ c. All (KeepsAll is_state) c.participants) c cs h))
