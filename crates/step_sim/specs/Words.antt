-- The words that a generator gives, two by two.
-- (How many words a step takes is this project's own rule; the generator is PCG XSL RR 128/64, as rand_pcg has it.)
use Rattle.std.specs.Prelude.{◌≡◌, ℕ, zero, suc, List, [], ◌∷◌, Option, Some, None, Result, Err}
use Rattle.rand_core.specs.Stream.{Stream, next_u64}
use Rattle.rand_core.specs.Steps.{stream_of, steps_u64_low}
use Rattle.rand_core.specs.Pcg32Seed.{pcg32_seed}
use Rattle.rand_pcg.specs.Pcg.{pcg64, pcg64_of_seed}
use Rattle.frac_core.specs.Fraction.{Fraction}
use Rattle.process_core.specs.Process.{Choice}
use Rattle.process_core.specs.Ready.{Values, Name}
use Rattle.process_core.specs.Steps.{Process}
use Rattle.step_sim.specs.Walks.{IsDrawnWalk, bar, drawn_among, if_none, step_drawn}
use Rattle.step_sim.specs.declared.walk.Step.{Step}
use Rattle.step_sim.specs.declared.walk.Stop.{Stop}
use Rattle.step_sim.specs.declared.walk.Walk.{Walk}

-- the next two words
abbrev pub pair : Stream → ℕ × ℕ
pair w = ((next_u64 w).0, (next_u64 (next_u64 w).1).0)

-- what is left after two words
abbrev pub rest : Stream → Stream
rest w = (next_u64 (next_u64 w).1).1

-- the first k pairs of words
abbrev pub pairs : ℕ → Stream → List (ℕ × ℕ)
pairs zero w = []
pairs (suc k) w = pair w ∷ pairs k (rest w)

-- what is left after them
abbrev pub left : ℕ → Stream → Stream
left zero w = w
left (suc k) w = left k (rest w)

-- one step along words: two are taken where the step is begun, and none where it is not
abbrev pub StopsOrGoes : Option Stop → Result Step Stop → Stream → Stream → Result Step Stop → Type 0
StopsOrGoes (Some stop) drawn before after r = (r ≡ Err stop) × (after ≡ before)
StopsOrGoes None drawn before after r = (r ≡ drawn) × (after ≡ rest before)

-- along words, where nothing passes a bound and these are the choices
abbrev pub IsStepAmong : List (Choice Name Fraction Values) → Stream → Stream → Result Step Stop → Type 0
IsStepAmong cs before after r = StopsOrGoes (if_none cs) (drawn_among cs (pair before)) before after r

abbrev pub IsDrawnStep : Process → Values → Stream → Stream → Result Step Stop → Type 0
IsDrawnStep p s before after r = StopsOrGoes (bar p s) (step_drawn p s (pair before)) before after r

-- A walk of at most n steps, along words: `begun` steps were begun, and as many pairs of words taken and no more.
pub record IsSeededWalk (p : Process) (s : Values) (n : ℕ) (before after : Stream) (w : Walk) : Type 0 where
  pub starts : w.first.values ≡ s
  pub begun : ℕ
  pub walk : IsDrawnWalk p s n (pairs begun before) w.steps w.stop
  pub taken : after ≡ left begun before

-- the words of the generator Pcg64 under a seed
abbrev pub pcg64_words : ℕ → Stream
pcg64_words seed = stream_of (steps_u64_low pcg64) (pcg64_of_seed (pcg32_seed 32 seed))

-- along the words of a seed
pub record IsWalkOfSeed (p : Process) (s : Values) (n seed : ℕ) (w : Walk) : Type 0 where
  pub after : Stream
  pub walk : IsSeededWalk p s n (pcg64_words seed) after w
