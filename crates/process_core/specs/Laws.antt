-- The laws of processes, as statements: what the contracts of the empty functions promise.
use Rattle.std.specs.Prelude.{◌≡◌, List, [], ◌∷◌, ◌++◌, map, length, Bool, false, IsTrue, Option, is_none, IsPermutation, ◌||◌, ◌≤◌}
use Rattle.std.specs.List.{flat_map, filter, list_any, fold, count_by, All, AllZip}
use Rattle.frac_core.specs.Fraction.{Fraction, unit, nought, same_number}
use Rattle.frac_core.specs.Sums.{total, product}
use Rattle.process_core.specs.Process.{Branch, EquallyOften, choice_image}
use Rattle.process_core.specs.declared.data.Choice as code_choice
use Rattle.process_core.specs.Merged.{weights_to, merged}
use Rattle.process_core.specs.Product.{one_of_each, multiplied, extended}
use Rattle.process_core.specs.Ready.{Values, Name, Reward, Ready, Sum, Combination, actions_of, together, of_modules, of_elements, vector_of}
use Rattle.process_core.specs.Choices.{number_of, assigned, own_rewards, choice_of, choices}
use Rattle.process_core.specs.Distribution.{IsProper, KeepsAll}
use Rattle.process_core.specs.Follow.{FollowsCombination}
use Rattle.process_core.specs.Idle.{idle, joined_by, Earns, NoRewards}
use Rattle.process_core.specs.Equal.{IsEquality, equal_values, equal_states, equal_branches, equal_choices}

-- one of each list, the last varying fastest
pub record ProductLaws (X Y : Type 0) : Type 0 where
  pub map_through : (f : X → Y) (xss : List (List X)) → one_of_each (map (map f) xss) ≡ map (map f) (one_of_each xss)
  pub joined : (xss yss : List (List X)) → one_of_each (xss ++ yss) ≡ flat_map (λ r. map (λ q. r ++ q) (one_of_each yss)) (one_of_each xss)
  pub none : (xss yss : List (List X)) → one_of_each (xss ++ [] ∷ yss) ≡ []
  pub first_one : (x : X) (xss : List (List X)) → one_of_each ((x ∷ []) ∷ xss) ≡ map (λ r. x ∷ r) (one_of_each xss)
  pub last_one : (xss : List (List X)) (y : X) → one_of_each (xss ++ (y ∷ []) ∷ []) ≡ map (λ r. r ++ y ∷ []) (one_of_each xss)
  pub count : (xss : List (List X)) → length (one_of_each xss) ≡ multiplied (map length xss)
  pub from_front : (xss : List (List X)) → fold extended ([] ∷ []) xss ≡ one_of_each xss

-- lists that hold the same members equally often
pub record OftenLaws (X Y Z : Type 0) : Type 0 where
  pub reordered : (xs ys : List X) → IsPermutation xs ys → EquallyOften xs ys
  pub counted : (xs ys : List X) → EquallyOften xs ys → (p : X → Bool) → count_by p xs ≡ count_by p ys
  pub mapped : (f : X → Y) (xs ys : List X) → EquallyOften xs ys → EquallyOften (map f xs) (map f ys)
  pub filtered : (p : X → Bool) (xs ys : List X) → EquallyOften xs ys → EquallyOften (filter p xs) (filter p ys)
  pub appended : (xs ys us vs : List X) → EquallyOften xs ys → EquallyOften us vs → EquallyOften (xs ++ us) (ys ++ vs)
  pub turned : (xs ys : List X) → EquallyOften (xs ++ ys) (ys ++ xs)
  pub walked : (f k : X → List Y) (xs ys : List X) → EquallyOften xs ys → ((x : X) → EquallyOften (f x) (k x)) → EquallyOften (flat_map f xs) (flat_map k ys)
  pub exchanged : (f : X → Y → List Z) (xs : List X) (ys : List Y) → EquallyOften (flat_map (λ x. flat_map (f x) ys) xs) (flat_map (λ y. flat_map (λ x. f x y) xs) ys)
  pub multiplied : (before : List (List X)) (xs ys : List X) (rest : List (List X)) → EquallyOften xs ys → EquallyOften (one_of_each (before ++ xs ∷ rest)) (one_of_each (before ++ ys ∷ rest))
  pub split : (before : List (List X)) (xs ys : List X) (rest : List (List X)) →
      EquallyOften (one_of_each (before ++ (xs ++ ys) ∷ rest)) (one_of_each (before ++ xs ∷ rest) ++ one_of_each (before ++ ys ∷ rest))
  pub parted : (before parts rest : List (List X)) →
      EquallyOften (one_of_each (before ++ flat_map (λ xs. xs) parts ∷ rest)) (flat_map (λ xs. one_of_each (before ++ xs ∷ rest)) parts)

-- the products of all ways to take one number of each list add up to the product of the lists' sums, so to 1 where all do
pub record TotalLaws : Type 0 where
  pub products : (xss : List (List Fraction)) → total (map product (one_of_each xss)) ≡ product (map total xss)
  pub units : (xss : List (List Fraction)) → All (λ x. x ≡ unit) (map total xss) → total (map product (one_of_each xss)) ≡ unit

-- at a state, combinations whose assignments keep states have choices that are distributions over states, or faults
abbrev pub ChoicesProper : Type 0
ChoicesProper = (is_state : Values → Bool) (s : Values) (cs : List Combination) →
    IsTrue (is_state s) → All (λ c. All (KeepsAll is_state) c.participants) cs → All (λ x. IsProper is_state x.outcome) (choices s cs)

-- where combinations follow others through a map of states and labels, their choices at a state's image are the images
-- of the others' choices, in order
abbrev pub ChoicesFollow : Type 0
ChoicesFollow = (has : Values → Bool) (state : Values → Values) (label : Option Name → Option Name) (s : Values) (cs ds : List Combination) →
    IsTrue (has s) → AllZip (FollowsCombination has state label) cs ds → choices (state s) ds ≡ map (choice_image label state) (choices s cs)

-- a further participant changes no choice: one that does nothing, and one that assigns what the combination earns
pub record IdleLaws : Type 0 where
  pub nothing : (s : Values) (c : Combination) (a : Option Name) → choice_of s (joined_by c c.rewards (idle a [])) ≡ choice_of s c
  pub rewards : (s : Values) (c : Combination) (own : List Sum) (a : Option Name) (assigns : List Reward) → Earns c own assigns → choice_of s (joined_by c own (idle a assigns)) ≡ choice_of s c
  pub earns : (c : Combination) (own : List Sum) (assigns : List Reward) → All NoRewards c.participants → assigned (own_rewards own) assigns ≡ own_rewards c.rewards →
      (list_any (λ r. is_none (number_of r.value.value)) assigns || list_any (λ m. is_none m.value) own) ≡ list_any (λ m. is_none m.value) c.rewards → Earns c own assigns

-- the order and the parts of combinations, and modules as elements with a vector for each action
pub record CombinationLaws : Type 0 where
  pub appended : (s : Values) (cs ds : List Combination) → choices s (cs ++ ds) ≡ choices s cs ++ choices s ds
  pub often : (s : Values) (cs ds : List Combination) → EquallyOften cs ds → EquallyOften (choices s cs) (choices s ds)
  pub parted : (label : Option Name) (rewards : List Sum) (before parts rest : List (List Ready)) →
      EquallyOften (together label rewards (before ++ flat_map (λ p. p) parts ∷ rest)) (flat_map (λ p. together label rewards (before ++ p ∷ rest)) parts)
  pub as_vectors : (rewards : List Sum) (ms : List (List Ready)) → of_modules (λ a. rewards) ms ≡ of_elements rewards (map (λ a. vector_of a ms) (actions_of ms)) ms

-- the tests of equality say yes exactly of equal things
pub record EqualityLaws : Type 0 where
  pub values : IsEquality equal_values
  pub states : IsEquality equal_states
  pub branches : IsEquality equal_branches
  pub choices : IsEquality equal_choices

-- two lists of one length, in which each choice of the first occurs as often as in the second, hold the same choices
-- equally often
abbrev pub CountsTell : Type 0
CountsTell = (xs ys : List code_choice.Choice) → length xs ≡ length ys → All (λ c. count_by (equal_choices c) xs ≡ count_by (equal_choices c) ys) xs → EquallyOften xs ys

-- Merging keeps the sum of the probabilities to each target, and gives each target at most one branch, of a probability
-- other than 0 and without rewards.
abbrev pub IsMerged : Branch Fraction Values → Type 0
IsMerged b = (same_number b.probability nought ≡ false) × (b.rewards ≡ [])

pub record MergingLaws : Type 0 where
  pub sums : (bs : List (Branch Fraction Values)) (t : Values) → total (weights_to equal_states t (merged equal_states bs)) ≡ total (weights_to equal_states t bs)
  pub once : (bs : List (Branch Fraction Values)) (t : Values) → length (weights_to equal_states t (merged equal_states bs)) ≤ 1
  pub each : (bs : List (Branch Fraction Values)) → All IsMerged (merged equal_states bs)
