-- Walks through a process: which steps a walk takes, and why it stops. (The rule of the words is this project's own.)
use Rattle.std.specs.Prelude.{◌≡◌, ℕ, zero, suc, ◌%◌, ◌^◌, ◌<◌, false, slice_index_or, ◌*ℤ◌, pos, int_lt, List, [], ◌∷◌, map, length, take, Bool, Option, Some, None, Result, Ok, Err, slice_get, if◌then◌else◌}
use Rattle.std.specs.List.{All, list_any, position_or_len}
use Rattle.frac_core.specs.Fraction.{Fraction, nought, unit, same_number, is_wide}
use Rattle.frac_core.specs.Sums.{total}
use Rattle.process_core.specs.Process.{Branch, Choice, Outcome, Good, Bad, Kinds}
use Rattle.process_core.specs.Ready.{Values, Name}
use Rattle.process_core.specs.Bounds.{Excess, IsWide, IsTooMany, partial_sums}
use Rattle.process_core.specs.Bounds as core
use Rattle.process_core.specs.Choices as core_choices
use Rattle.process_core.specs.Steps.{Process}
use Rattle.state_choices.specs.Groups.{Group, of_groups}
use Rattle.state_choices.specs.declared.open.OpenBranch.{OpenBranch}
use Rattle.step_sim.specs.declared.walk.Step.{Step}
use Rattle.step_sim.specs.declared.walk.Stop.{Stop}
use Rattle.step_sim.specs.declared.walk.Stop.TheVariants.{Done, Deadlock, NoChoice, NoBranch, Faulty, Wide, TooMany}

-- the state that steps from a state lead to
abbrev pub state_after : Values → List Step → Values
state_after s [] = s
state_after s (t ∷ ts) = state_after t.target.values ts

-- ---- one step
-- the step that a branch of this number leads to; one of probability 0 leads nowhere
abbrev pub by_branch : Option Name → ℕ → Option (Branch Fraction Values) → Result Step Stop
by_branch label j None = Err (NoBranch j)
by_branch label j (Some b) = if same_number b.probability nought then Err (NoBranch j) else Ok (record { label = label; target = record { values = b.target } })

abbrev pub faulty : Kinds → Stop
faulty k = Faulty (record { undef = k.undef; range = k.range; weight = k.weight })

-- what passes a bound at the state comes first
abbrev pub within : Option Excess → Result Step Stop → Result Step Stop
within None r = r
within (Some IsWide) r = Err Wide
within (Some IsTooMany) r = Err TooMany

-- ---- along given numbers
abbrev pub by_outcome : Option Name → ℕ → Outcome Fraction Values → Result Step Stop
by_outcome label j (Bad k) = Err (faulty k)
by_outcome label j (Good bs) = by_branch label j (slice_get bs j)

abbrev pub by_choice : ℕ → ℕ → Option (Choice Name Fraction Values) → Result Step Stop
by_choice i j None = Err (NoChoice i)
by_choice i j (Some c) = by_outcome c.label j c.outcome

-- the step that choice i and its branch j lead to, or why they lead nowhere
abbrev pub step_given : Process → Values → ℕ × ℕ → Result Step Stop
step_given p s g = within (p.excess s) (by_choice g.0 g.1 (slice_get (p.choices s) g.0))

-- A given walk from a state takes the step of each pair, up to the first that leads nowhere. It is done where all pairs
-- are taken, and the choices of its last state are not looked at.
abbrev pub IsGivenWalk : Process → Values → List (ℕ × ℕ) → List Step → Stop → Type 0
IsGivenWalk p s [] [] stop = stop ≡ Done
IsGivenWalk p s [] (t ∷ ts) stop = ⊥
IsGivenWalk p s (g ∷ gs) [] stop = step_given p s g ≡ Err stop
IsGivenWalk p s (g ∷ gs) (t ∷ ts) stop = (step_given p s g ≡ Ok t) × IsGivenWalk p t.target.values gs ts stop

-- ---- along words
abbrev pub probabilities : List (Branch Fraction Values) → List Fraction
probabilities bs = map (λ b. b.probability) bs

-- the sums of the branches' probabilities from the left
abbrev pub running : List (Branch Fraction Values) → List Fraction
running bs = partial_sums nought (probabilities bs)

-- a word as a part of 2^64 is below a sum n / d: w times d is below n times 2^64
abbrev pub is_under : ℕ → Fraction → Bool
is_under w r = int_lt (pos w *ℤ pos r.den) (r.num *ℤ pos (2 ^ 64))

-- the number of the branch that a word draws: the first whose running sum it is below
abbrev pub drawn : ℕ → List (Branch Fraction Values) → ℕ
drawn w bs = position_or_len (is_under w) (running bs)

-- a running sum up to that of the drawn branch is wide
abbrev pub is_drawing_wide : ℕ → List (Branch Fraction Values) → Bool
is_drawing_wide w bs = list_any is_wide (take (suc (drawn w bs)) (running bs))

-- what is known of the number of the branch that a word draws from a distribution
pub record IsDrawn (w : ℕ) (bs : List (Branch Fraction Values)) (i : ℕ) : Type 0 where
  pub within : i < length bs
  pub drawn : i ≡ drawn w bs
  pub narrow : is_drawing_wide w bs ≡ false
  pub possible : (d : Branch Fraction Values) → same_number (slice_index_or bs i d).probability nought ≡ false

-- the probabilities of branches of which no state is built
abbrev pub weights : List OpenBranch → List Fraction
weights bs = map (λ b. b.weight) bs

-- the probabilities of a good choice add up to 1
abbrev pub IsWhole : Outcome Fraction Values → Type 0
IsWhole (Bad k) = Unit {0}
IsWhole (Good bs) = total (probabilities bs) ≡ unit

-- where nothing passes a bound, the choices of these groups at a state are such
abbrev pub HaveWholeChoices : Values → List Group → Type 0
HaveWholeChoices s gs = core.excess (of_groups gs) ≡ None → All (λ c. IsWhole c.outcome) (core_choices.choices s (of_groups gs))

abbrev pub drawn_outcome : Option Name → ℕ → Outcome Fraction Values → Result Step Stop
drawn_outcome label w (Bad k) = Err (faulty k)
drawn_outcome label w (Good bs) = if is_drawing_wide w bs then Err Wide else by_branch label (drawn w bs) (slice_get bs (drawn w bs))

abbrev pub drawn_choice : ℕ → ℕ → Option (Choice Name Fraction Values) → Result Step Stop
drawn_choice i w None = Err (NoChoice i)
drawn_choice i w (Some c) = drawn_outcome c.label w c.outcome

-- the step that two words lead to: the first modulo the number of choices is the choice, and the second draws its branch;
-- among these choices, and at a state
abbrev pub drawn_among : List (Choice Name Fraction Values) → ℕ × ℕ → Result Step Stop
drawn_among cs d = drawn_choice (d.0 % length cs) d.1 (slice_get cs (d.0 % length cs))

abbrev pub step_drawn : Process → Values → ℕ × ℕ → Result Step Stop
step_drawn p s d = drawn_choice (d.0 % length (p.choices s)) d.1 (slice_get (p.choices s) (d.0 % length (p.choices s)))

abbrev pub if_none : List (Choice Name Fraction Values) → Option Stop
if_none [] = Some Deadlock
if_none (c ∷ cs) = None

abbrev pub barred : Option Excess → List (Choice Name Fraction Values) → Option Stop
barred None cs = if_none cs
barred (Some IsWide) cs = Some Wide
barred (Some IsTooMany) cs = Some TooMany

-- why no step is begun in a state, if none is: something passes a bound there, or it has no choice
abbrev pub bar : Process → Values → Option Stop
bar p s = barred (p.excess s) (p.choices s)

-- why a walk of at most n more steps takes none, along these pairs of words: n is 0 and there are none; no step is begun,
-- and there are none; or there is one, and it leads nowhere
abbrev pub EndsDrawn : Process → Values → ℕ → List (ℕ × ℕ) → Stop → Type 0
EndsDrawn p s zero [] stop = stop ≡ Done
EndsDrawn p s zero (d ∷ ds) stop = ⊥
EndsDrawn p s (suc n) [] stop = bar p s ≡ Some stop
EndsDrawn p s (suc n) (d ∷ []) stop = (bar p s ≡ None) × (step_drawn p s d ≡ Err stop)
EndsDrawn p s (suc n) (d ∷ e ∷ ds) stop = ⊥

-- A walk of at most n steps from a state, along pairs of words: each step that is begun takes one pair, and a state in
-- which none is begun takes none. All pairs are taken. It is done where n steps are, and the choices of its last state
-- are not looked at.
abbrev pub IsDrawnWalk : Process → Values → ℕ → List (ℕ × ℕ) → List Step → Stop → Type 0
IsDrawnWalk p s n ds [] stop = EndsDrawn p s n ds stop
IsDrawnWalk p s zero ds (t ∷ ts) stop = ⊥
IsDrawnWalk p s (suc n) [] (t ∷ ts) stop = ⊥
IsDrawnWalk p s (suc n) (d ∷ ds) (t ∷ ts) stop = (bar p s ≡ None) × (step_drawn p s d ≡ Ok t) × IsDrawnWalk p t.target.values n ds ts stop

-- never along given numbers
abbrev pub IsGivenStop : Stop → Type 0
IsGivenStop Deadlock = ⊥
IsGivenStop Done = Unit {0}
IsGivenStop (NoChoice _) = Unit {0}
IsGivenStop (NoBranch _) = Unit {0}
IsGivenStop (Faulty _) = Unit {0}
IsGivenStop Wide = Unit {0}
IsGivenStop TooMany = Unit {0}

-- never along words
abbrev pub IsDrawnStop : Stop → Type 0
IsDrawnStop (NoChoice i) = ⊥
IsDrawnStop (NoBranch j) = ⊥
IsDrawnStop Done = Unit {0}
IsDrawnStop Deadlock = Unit {0}
IsDrawnStop (Faulty _) = Unit {0}
IsDrawnStop Wide = Unit {0}
IsDrawnStop TooMany = Unit {0}
