-- Walks along the same numbers, and along the same words, are the same.
-- (This project's own rule.)
use Rattle.std.specs.Prelude.{◌≡◌, ℕ, List}
use Rattle.rand_core.specs.Stream.{Stream}
use Rattle.process_core.specs.Ready.{Values}
use Rattle.process_core.specs.Steps.{Process}
use Rattle.step_sim.specs.Walks.{IsGivenWalk, IsDrawnWalk}
use Rattle.step_sim.specs.Words.{pairs}
use Rattle.step_sim.specs.declared.walk.Step.{Step}
use Rattle.step_sim.specs.declared.walk.Stop.{Stop}

abbrev pub OneGivenWalk : Type 0
OneGivenWalk = (p : Process) (s : Values) (gs : List (ℕ × ℕ)) (ts us : List Step) (stop end : Stop) →
    IsGivenWalk p s gs ts stop → IsGivenWalk p s gs us end → (ts ≡ us) × (stop ≡ end)

-- They take the same number of words, too.
abbrev pub OneDrawnWalk : Type 0
OneDrawnWalk = (p : Process) (s : Values) (n : ℕ) (b : Stream) (i j : ℕ) (ts us : List Step) (stop end : Stop) →
    IsDrawnWalk p s n (pairs i b) ts stop → IsDrawnWalk p s n (pairs j b) us end → (i ≡ j) × (ts ≡ us) × (stop ≡ end)
