-- What the commands of a PRISM model or the edges of a JANI model come out as at a state, as plain data, and how they
-- are combined. No expression and no name of a variable is left, so what follows from here on is one for both languages.
-- (PRISM manual, "The PRISM Language": "Commands", "Synchronisation"; jani-model specification, "Edges",
-- "Compositions".)
use Rattle.std.specs.Prelude.{ℕ, List, [], ◌∷◌, ◌++◌, map, Bool, not, Option, Some, None, if◌then◌else◌, bytes_eq}
use Rattle.std.specs.Prelude.{true, false}
use Rattle.std.specs.List.{flat_map, filter, list_any}
use Rattle.basics.specs.Options.{if_some}
use Rattle.frac_core.specs.Fraction.{Fraction}
use Rattle.op_trees.specs.Seen.{Seen}
use Rattle.op_trees.specs.declared.tree.Value.{Value}
use Rattle.process_core.specs.Product.{one_of_each}

-- a state: the values of the columns
abbrev pub Values : Type 0
Values = List Value

-- a name: its bytes
abbrev pub Name : Type 0
Name = List ℕ

-- an assignment: its column, its value, and whether that is in the column's range
pub record Write : Type 0 where
  pub column : ℕ
  pub value : Seen
  pub fits : Bool

-- a reward that an update assigns: the number of its structure, and its value
pub record Reward : Type 0 where
  pub structure : ℕ
  pub value : Seen

-- an update of a command, or a destination of an edge
pub record Update : Type 0 where
  pub weight : Seen
  pub writes : List Write
  pub rewards : List Reward

-- a command, or an edge
pub record Ready : Type 0 where
  pub action : Option Name
  pub guard : Seen
  pub updates : List Update

-- a sum of rewards: its value, and whether something on the way to it is wide
pub record Sum : Type 0 where
  pub value : Option Fraction
  pub wide : Bool

-- a combination: the label of its choice, the reward of each structure that it has by itself, and its participants in order
pub record Combination : Type 0 where
  pub label : Option Name
  pub rewards : List Sum
  pub participants : List Ready

-- ---- actions
abbrev pub same_label : Option Name → Option Name → Bool
same_label None None = true
same_label None (Some y) = false
same_label (Some x) None = false
same_label (Some x) (Some y) = bytes_eq x y

abbrev pub has_action : Option Name → Ready → Bool
has_action a r = same_label a r.action

-- each once, at its first place
abbrev pub firsts : {X : Type 0} → (X → X → Bool) → List X → List X
firsts same [] = []
firsts same (x ∷ xs) = x ∷ filter (λ y. not (same x y)) (firsts same xs)

-- the actions that occur, in order of first occurrence
abbrev pub actions_of : List (List Ready) → List Name
actions_of ms = firsts bytes_eq (flat_map (λ m. flat_map (λ r. if_some r.action) m) ms)

-- ---- combinations
abbrev pub alone : List Sum → Ready → Combination
alone rewards r = record { label = None; rewards = rewards; participants = r ∷ [] }

-- one command or edge without action
abbrev pub silent : List Sum → List (List Ready) → List Combination
silent rewards ms = flat_map (λ m. map (alone rewards) (filter (has_action None) m)) ms

-- one of each list, the last varying fastest
abbrev pub together : Option Name → List Sum → List (List Ready) → List Combination
together label rewards lists = map (λ rs. record { label = label; rewards = rewards; participants = rs }) (one_of_each lists)

-- those of the modules that have the action, and there the commands with it
abbrev pub sharing : Name → List (List Ready) → List (List Ready)
sharing a ms = map (filter (has_action (Some a))) (filter (list_any (has_action (Some a))) ms)

-- of modules: their commands without action, then for each action one command with it from each module that has it
abbrev pub of_modules : (Option Name → List Sum) → List (List Ready) → List Combination
of_modules rewards ms =
    silent (rewards None) ms ++ flat_map (λ a. together (Some a) (rewards (Some a)) (sharing a ms)) (actions_of ms)

-- a synchronisation vector: for each element an action or none, and the result
pub record Vector : Type 0 where
  pub parts : List (Option Name)
  pub result : Option Name

-- the elements that the vector names an action for, and there the edges with it
abbrev pub taking : List (Option Name) → List (List Ready) → List (List Ready)
taking [] es = []
taking (p ∷ parts) [] = []
taking (None ∷ parts) (e ∷ es) = taking parts es
taking (Some a ∷ parts) (e ∷ es) = filter (has_action (Some a)) e ∷ taking parts es

-- of elements, from their edges at their current locations: the silent edges, then for each vector one edge with the
-- named action from each element that isn't null there
abbrev pub of_elements : List Sum → List Vector → List (List Ready) → List Combination
of_elements rewards vectors es = silent rewards es ++ flat_map (λ v. together v.result rewards (taking v.parts es)) vectors

-- the vector of an action of modules
abbrev pub vector_of : Name → List (List Ready) → Vector
vector_of a ms = record { parts = map (λ m. if list_any (has_action (Some a)) m then Some a else None) ms; result = Some a }
