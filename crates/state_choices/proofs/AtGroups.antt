-- Groups of a process at a state, from what a program tells of them, and answers by them.
use Rattle.std.proofs.Common.{◌≡◌, List, map, Result, Ok, Err, sym, ap, ◌∙◌, subst}
use Rattle.frac_core.specs.Fraction.{Fraction}
use Rattle.process_core.specs.Process.{Choice}
use Rattle.process_core.specs.Ready.{Values, Name, Combination}
use Rattle.process_core.specs.Choices as core
use Rattle.process_core.specs.Bounds as bounds
use Rattle.process_core.specs.Answers.{Answers, FailsBy}
use Rattle.process_core.specs.Steps.{Process}
use Rattle.process_core.specs.declared.data.StepFail.{StepFail}
use Rattle.state_choices.specs.Groups.{Group, of_groups}
use Rattle.state_choices.specs.Grouped.{AreGroupsAt}
use Rattle.state_choices.specs.Trimmed.{trimmed_group}
use Rattle.state_choices.proofs.TrimmedChoices.{trimmed_excess, trimmed_choices}

-- trimmed groups are a process's own where these have its combinations
pub trimmed_at : (p : Process) (s : Values) (gs shown : List Group) (cs : List Combination) → shown ≡ map trimmed_group gs → of_groups gs ≡ cs → bounds.excess cs ≡ p.excess s → core.choices s cs ≡ p.choices s → AreGroupsAt p s shown
trimmed_at p s gs shown cs e f x c =
    subst (AreGroupsAt p s) (sym e) (record {
      excess = trimmed_excess gs ∙ ap bounds.excess f ∙ x;
      choices = λ n. trimmed_choices s gs (ap bounds.excess f ∙ x ∙ n) ∙ ap (core.choices s) f ∙ c;
    })

-- an answer by the choices of the groups is one by those of the process
pub answers_at : {X : Type 0} (p : Process) (s : Values) (gs : List Group) → AreGroupsAt p s gs → (Is : List (Choice Name Fraction Values) → X → Type 0) (r : Result X StepFail) →
    Answers (bounds.excess (of_groups gs)) (Is (core.choices s (of_groups gs))) r → Answers (p.excess s) (Is (p.choices s)) r
answers_at p s gs h Is (Ok x) a =
    let n = sym h.excess ∙ a.0 in
    (n, subst (λ l. Is l x) (h.choices n) a.1)
answers_at p s gs h Is (Err f) a = subst (λ e. FailsBy e f) h.excess a
