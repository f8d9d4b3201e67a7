-- What a model means, a Markov decision process for each value of its constants, and when two models mean the same.
-- (PRISM manual, "The PRISM Language": "Introduction" and "Commands"; jani-model specification, "Models" for type "mdp".)
use Rattle.std.specs.Prelude.{◌≡◌, ◌⊎◌, ℕ, List, [], ◌∷◌, map, Bool, IsTrue, Option, ◌↔◌}
use Rattle.std.specs.List.{sum_by}

-- why a choice has no distribution: a value is undefined, a written value is outside its range, the probabilities
-- aren't a distribution
pub record Kinds : Type 0 where
  pub undef : Bool
  pub range : Bool
  pub weight : Bool

-- one way that a choice may go: its probability, the state that it leads to, and its rewards
pub record Branch (W S : Type 0) : Type 0 where
  pub probability : W
  pub target : S
  pub rewards : List W

-- a faulty choice, or its branches in order
pub data Outcome (W S : Type 0) : Type 0 where
  Bad : Kinds → Outcome W S
  Good : List (Branch W S) → Outcome W S

-- a choice with its label, or with none
pub record Choice (L W S : Type 0) : Type 0 where
  pub label : Option L
  pub outcome : Outcome W S

-- A model: under each valuation of its constants its instance faults, and which values are states and initial ones, and
-- what is seen at a state: its marks and its choices. V: valuations, F: faults, L: labels, W: probabilities and rewards,
-- M: marks, S: states.
pub record Model (V F L W M S : Type 0) : Type 0 where
  pub faults : V → List F
  pub is_state : V → S → Bool
  pub is_initial : V → S → Bool
  pub marks : V → S → List M
  pub choices : V → S → List (Choice L W S)

-- the same with other labels and states
abbrev pub branch_image : {W S T : Type 0} → (S → T) → Branch W S → Branch W T
branch_image f b = record { probability = b.probability; target = f b.target; rewards = b.rewards }

abbrev pub outcome_image : {W S T : Type 0} → (S → T) → Outcome W S → Outcome W T
outcome_image f (Bad kinds) = Bad kinds
outcome_image f (Good branches) = Good (map (branch_image f) branches)

abbrev pub choice_image : {L K W S T : Type 0} → (Option L → Option K) → (S → T) → Choice L W S → Choice K W T
choice_image l f c = record { label = l c.label; outcome = outcome_image f c.outcome }

-- Each member occurs in both lists equally often: whatever the members weigh, both lists weigh the same.
pub record EquallyOften {X : Type 0} (xs ys : List X) : Type 0 where
  pub weighs : (g : X → ℕ) → sum_by g xs ≡ sum_by g ys

abbrev pub IsIn : {X : Type 0} → X → List X → Type 0
IsIn x [] = ⊥
IsIn x (y ∷ ys) = (x ≡ y) ⊎ IsIn x ys

-- what a model is under one valuation
pub record Process (L W M S : Type 0) : Type 0 where
  pub is_state : S → Bool
  pub is_initial : S → Bool
  pub marks : S → List M
  pub choices : S → List (Choice L W S)

abbrev pub under : {V F L W M S : Type 0} → Model V F L W M S → V → Process L W M S
under m v = record { is_state = m.is_state v; is_initial = m.is_initial v; marks = m.marks v; choices = m.choices v }

-- The map of states is one to one and onto, and keeps what is seen at each state.
pub record SameAt {L K W M S T : Type 0} (p : Process L W M S) (q : Process K W M T) (label : Option L → Option K) (state : S → T) : Type 0 where
  pub into : (s : S) → IsTrue (p.is_state s) → IsTrue (q.is_state (state s))
  pub one : (s t : S) → IsTrue (p.is_state s) → IsTrue (p.is_state t) → state s ≡ state t → s ≡ t
  pub onto : (u : T) → IsTrue (q.is_state u) → (s : S) × IsTrue (p.is_state s) × (state s ≡ u)
  pub initial : (s : S) → IsTrue (p.is_state s) → p.is_initial s ≡ q.is_initial (state s)
  pub marks : (s : S) → IsTrue (p.is_state s) → p.marks s ≡ q.marks (state s)
  pub choices : (s : S) → IsTrue (p.is_state s) → EquallyOften (map (choice_image label state) (p.choices s)) (q.choices (state s))

-- Under valuations that correspond the instance faults are the same, and without any the processes are.
pub record SameProcess {V U F G L K W M S T : Type 0} (p : Model V F L W M S) (q : Model U G K W M T)
    (Correspond : V → U → Type 0) (fault : F → G) (label : Option L → Option K) (state : S → T) : Type 0 where
  pub faults : (v : V) (u : U) → Correspond v u → (f : G) → IsIn f (map fault (p.faults v)) ↔ IsIn f (q.faults u)
  pub process : (v : V) (u : U) → Correspond v u → p.faults v ≡ [] → SameAt (under p v) (under q u) label state
