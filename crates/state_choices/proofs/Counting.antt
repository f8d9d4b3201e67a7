-- Combinations and branches counted: a product of counts, and a product of sums.
use Rattle.std.proofs.Common.{◌≡◌, ℕ, ◌+◌, ◌*◌, List, [], ◌∷◌, map, cond, ◌||◌, length, refl, sym, ap, ap₂, ◌∙◌, arith, sum, nat_lt}
use Rattle.std.specs.List.{sum_by, count_by, filter, flat_map}
use Rattle.std.proofs.lemmas.List.{length-map}
use Rattle.std.proofs.lemmas.List.Sums.{sum_by-cons, sum_by-append, sum-map}
use Rattle.process_core.specs.Product.{one_of_each, multiplied, map-map}
use Rattle.basics.specs.Lists.{map_agree}
use Rattle.process_core.specs.Often.{sum_by-filter, sum_by-flat_map, sum_by-map, sum_by_agree}
use Rattle.process_core.specs.Ready.{Ready}
use Rattle.process_core.specs.Bounds.{is_enabled, is_too_many, branch_count}
use Rattle.state_choices.specs.Groups.{Group, of_group, of_groups}
use Rattle.state_choices.specs.Counted.{may_hold, choice_count, branch_total}
use Rattle.std.specs.Borrow.{Bor}
use Rattle.state_choices.specs.declared.data.Group as code
use Rattle.state_choices.specs.declared.data.Command.{Command}
use Rattle.state_choices.specs.Views.{command_of, update_of, group_of}
use Rattle.op_trees.specs.Tree.{capped}
use Rattle.state_choices.proofs.Capped.{capped_passes}
use Rattle.state_choices.proofs.Opened.{opened, enabled_groups}

-- ---- the sum over all ways of products is the product of sums
module _ {X : Type 0} (f : X → ℕ) where
  abbrev each : List X → ℕ
  each rs = multiplied (map f rs)

  sum_first : (x : X) (rs : List (List X)) → sum_by each (map (λ r. x ∷ r) rs) ≡ f x * sum_by each rs
  sum_first x [] = omega arith
  sum_first x (r ∷ rs) =
      let a = sum_by-cons each (x ∷ r) (map (λ r. x ∷ r) rs) in
      let b = sum_by-cons each r rs in
      let ih = sum_first x rs in
      a ∙ ap (λ n. f x * each r + n) ih ∙ by_parts (f x) (each r) (sum_by each rs) ∙ ap (λ n. f x * n) (sym b)
    where
      by_parts : (a b c : ℕ) → a * b + a * c ≡ a * (b + c)
      by_parts a b c = omega arith

  sum_walk : (xs : List X) (rs : List (List X)) → sum_by each (flat_map (λ x. map (λ r. x ∷ r) rs) xs) ≡ sum_by f xs * sum_by each rs
  sum_walk [] rs = omega arith
  sum_walk (x ∷ xs) rs =
      sum_by-append each (map (λ r. x ∷ r) rs) (flat_map (λ x. map (λ r. x ∷ r) rs) xs)
      ∙ ap₂ (λ a b. a + b) (sum_first x rs) (sum_walk xs rs)
      ∙ by_parts (f x) (sum_by f xs) (sum_by each rs)
      ∙ ap (λ n. n * sum_by each rs) (sym (sum_by-cons f x xs))
    where
      by_parts : (a b c : ℕ) → a * c + b * c ≡ (a + b) * c
      by_parts a b c = omega arith

  pub sum-one_of_each : (xss : List (List X)) → sum_by each (one_of_each xss) ≡ multiplied (map (sum_by f) xss)
  sum-one_of_each [] = refl
  sum-one_of_each (xs ∷ xss) = sum_walk xs (one_of_each xss) ∙ ap (λ n. sum_by f xs * n) (sum-one_of_each xss)

-- ---- of groups
ones : {A : Type 0} (xs : List A) → length xs ≡ sum_by (λ x. 1) xs
ones [] = refl
ones (x ∷ xs) = let a = sum_by-cons (λ x. 1) x xs in let ih = ones xs in omega arith

all_ones : {A : Type 0} (rs : List A) → 1 ≡ multiplied (map (λ r. 1) rs)
all_ones [] = refl
all_ones (r ∷ rs) = let ih = all_ones rs in omega arith

-- a sum over the ways that are left of a group
of_opened : (f : Ready → ℕ) (g : Group) → sum_by (λ c. multiplied (map f c.participants)) (of_group (opened g)) ≡ multiplied (map (sum_by (λ r. cond (may_hold r) (f r) 0)) g.lists)
of_opened f g =
    sum_by-map (λ c. multiplied (map f c.participants)) (λ rs. record { label = g.label; rewards = g.rewards; participants = rs }) (one_of_each (opened g).lists)
    ∙ sum-one_of_each f (opened g).lists
    ∙ ap multiplied (map-map (sum_by f) (filter may_hold) g.lists ∙ map_agree _ _ (sum_by-filter f may_hold) g.lists)

pub counted_choices : (gs : List Group) → length (of_groups (map opened gs)) ≡ sum_by choice_count gs
counted_choices gs =
    ones (of_groups (map opened gs))
    ∙ sum_by-flat_map (λ c. 1) of_group (map opened gs)
    ∙ sum_by-map (λ g. sum_by (λ c. 1) (of_group g)) opened gs
    ∙ sum_by_agree _ _ (λ g. sum_by_agree (λ c. 1) (λ c. multiplied (map (λ r. 1) c.participants)) (λ c. all_ones c.participants) (of_group (opened g)) ∙ of_opened (λ r. 1) g) gs

pub counted_branches : (gs : List Group) → sum (map branch_count (of_groups (map opened gs))) ≡ sum_by branch_total gs
counted_branches gs =
    sum-map branch_count (of_groups (map opened gs))
    ∙ sum_by-flat_map branch_count of_group (map opened gs)
    ∙ sum_by-map (λ g. sum_by branch_count (of_group g)) opened gs
    ∙ sum_by_agree _ _ (of_opened (λ r. length r.updates)) gs

-- the closed form is the count of the definition
pub too_many_is : (gs : List Group) → is_too_many (filter is_enabled (of_groups gs)) ≡ (nat_lt 65536 (sum_by choice_count gs) || nat_lt 1000000 (sum_by branch_total gs))
too_many_is gs =
    ap is_too_many (enabled_groups gs)
    ∙ ap₂ (λ a b. nat_lt 65536 a || nat_lt 1000000 b) (counted_choices gs) (counted_branches gs)

-- ---- of the program's data
pub choice_count_is : (g : code.Group) → choice_count (group_of g) ≡ multiplied (map (λ (m : Bor (List Command)). count_by (λ r. may_hold (command_of r)) m.now) g.lists.items)
choice_count_is g =
    ap multiplied
    (map-map (count_by may_hold) (λ (m : Bor (List Command)). map command_of m.now) g.lists.items
    ∙ map_agree _ _ (λ (m : Bor (List Command)). sum_by-map (λ r. cond (may_hold r) 1 0) command_of m.now) g.lists.items)

pub branch_total_is : (g : code.Group) → branch_total (group_of g) ≡ multiplied (map (λ (m : Bor (List Command)). sum_by (λ r. cond (may_hold (command_of r)) (length r.updates) 0) m.now) g.lists.items)
branch_total_is g =
    ap multiplied
    (map-map (sum_by (λ r. cond (may_hold r) (length r.updates) 0)) (λ (m : Bor (List Command)). map command_of m.now) g.lists.items
    ∙ map_agree _ _ (λ (m : Bor (List Command)). sum_by-map (λ r. cond (may_hold r) (length r.updates) 0) command_of m.now
    ∙ sum_by_agree _ _ (λ (r : Command). ap (λ n. cond (may_hold (command_of r)) n 0) (length-map r.updates update_of)) m.now) g.lists.items)

pub sums_are : (f : Group → ℕ) (gs : List code.Group) → sum_by f (map group_of gs) ≡ sum_by (λ g. f (group_of g)) gs
sums_are f gs = sum_by-map f group_of gs

-- the counts that a program has answer the test
pub too_many_trimmed : (gs : List code.Group) (choices branches : ℕ) → choices ≡ capped (sum_by (λ g. choice_count (group_of g)) gs) → branches ≡ capped (sum_by (λ g. branch_total (group_of g)) gs) →
    (nat_lt 65536 choices || nat_lt 1000000 branches) ≡ is_too_many (filter is_enabled (of_groups (map group_of gs)))
too_many_trimmed gs choices branches e f =
    ap₂ (λ a b. nat_lt 65536 a || nat_lt 1000000 b) (e ∙ ap capped (sym (sums_are choice_count gs))) (f ∙ ap capped (sym (sums_are branch_total gs)))
    ∙ ap₂ (λ a b. a || b) (capped_passes 65536 (sum_by choice_count (map group_of gs)) (omega arith)) (capped_passes 1000000 (sum_by branch_total (map group_of gs)) (omega arith))
    ∙ sym (too_many_is (map group_of gs))
