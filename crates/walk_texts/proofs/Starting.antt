-- Where a job starts: the state that a word is, and whether it is initial.
use Rattle.std.proofs.Common.{◌≡◌, ℕ, Bool, true, false, IsTrue, List, Some, Result, Ok, Err, refl, sym, subst, ◌∙◌, if◌then◌else◌}
use Rattle.process_core.specs.Ready.{Values}
use Rattle.process_core.specs.Steps.{Process}
use Rattle.process_core.specs.declared.data.State.{State}
use Rattle.process_core.specs.declared.steps.InitialWide.{InitialWide}
use Rattle.process_texts.specs.Laws.{OneStateText}
use Rattle.process_texts.specs.States.{ReadsState}
use Rattle.walk_texts.specs.Jobs.{IsStateOf}

-- what the word spells is no state of the process
pub invalid : OneStateText → (p : Process) (w : List ℕ) (t : State) → ReadsState w (Some t) → p.is_state t.values ≡ false → (s : Values) → IsStateOf p w s → ⊥
invalid one p w t h outside s is =
    let e : true ≡ false = sym (subst (λ x. IsTrue (p.is_state x)) (one w s t.values is.spelled h.0) is.state) ∙ outside in absurd cc

-- the test of whether a state is initial, by its answer
pub told : (wide initial b : Bool) → ◌≡◌ {A = Result Bool InitialWide} (Ok b) (if wide then Err (record {}) else Ok initial) → (wide ≡ false) × (initial ≡ b)
told true initial b e = absurd cc
told false initial b e = let f : b ≡ initial = cc in (refl, sym f)
