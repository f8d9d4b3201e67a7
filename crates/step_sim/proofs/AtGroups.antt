-- Steps among the choices of groups are those of the process that has these groups.
use Rattle.std.proofs.Common.{◌≡◌, ℕ, List, None, Result, Ok, Err, IfOk, IsTrue, refl, sym, ap, subst, ◌∙◌}
use Rattle.std.specs.List.{All, slice_get}
use Rattle.std.specs.declared.alloc.AllocError.{AllocError}
use Rattle.rand_core.specs.Stream.{Stream}
use Rattle.frac_core.specs.Fraction.{Fraction}
use Rattle.process_core.specs.Process.{Choice, Outcome, Good, Bad}
use Rattle.process_core.specs.Ready.{Values, Name}
use Rattle.process_core.specs.Answers.{FailsBy}
use Rattle.process_core.specs.Bounds as core
use Rattle.process_core.specs.Choices as core_choices
use Rattle.process_core.specs.Distribution.{IsProper}
use Rattle.process_core.specs.Steps.{Process, IsProcess}
use Rattle.process_core.specs.declared.data.StepFail.{StepFail}
use Rattle.process_core.specs.declared.data.StepFail.TheVariants as F
use Rattle.state_choices.specs.Groups.{Group, of_groups}
use Rattle.state_choices.specs.Grouped.{AreGroupsAt}
use Rattle.step_sim.specs.Walks.{by_choice, step_given, within, IsWhole, barred}
use Rattle.step_sim.specs.Words.{IsDrawnStep, IsStepAmong, StopsOrGoes, pair}
use Rattle.step_sim.specs.Walks.{step_drawn}
use Rattle.step_sim.specs.declared.walk.Step.{Step}
use Rattle.step_sim.specs.declared.walk.Stop.{Stop}
use Rattle.step_sim.specs.declared.walk.Stop.TheVariants as S

module _ (p : Process) (s : Values) (gs : List Group) (h : AreGroupsAt p s gs) where
  module _ (cs : List (Choice Name Fraction Values)) (a : (core.excess (of_groups gs) ≡ None) × (cs ≡ core_choices.choices s (of_groups gs))) where
    narrow : p.excess s ≡ None
    narrow = sym h.excess ∙ a.0

    are_choices : cs ≡ p.choices s
    are_choices = a.1 ∙ h.choices narrow

    pub given_of : (n : ℕ × ℕ) (r : Result (Result Step Stop) AllocError) → IfOk r (λ r. r ≡ by_choice n.0 n.1 (slice_get cs n.0)) → IfOk r (λ r. r ≡ step_given p s n)
    given_of n (Ok r) k = k ∙ ap (λ l. by_choice n.0 n.1 (slice_get l n.0)) are_choices ∙ ap (λ x. within x (by_choice n.0 n.1 (slice_get (p.choices s) n.0))) (sym narrow)
    given_of n (Err e) k = tt

    pub drawn_of : (before after : Stream) (r : Result (Result Step Stop) AllocError) → IfOk r (IsStepAmong cs before after) → IfOk r (IsDrawnStep p s before after)
    drawn_of before after (Ok r) k =
        subst (λ b. StopsOrGoes b (step_drawn p s (pair before)) before after r) (sym (ap (λ e. barred e (p.choices s)) narrow))
        (subst (λ l. IsStepAmong l before after r) are_choices k)
    drawn_of before after (Err e) k = tt

    pub are_whole : IsProcess p → IsTrue (p.is_state s) → All (λ c. IsWhole c.outcome) cs
    are_whole law v = subst (All (λ (c : Choice Name Fraction Values). IsWhole c.outcome)) (sym are_choices) (λ i d l. whole _ (law.proper s v i d l))
      where
        whole : (o : Outcome Fraction Values) → IsProper p.is_state o → IsWhole o
        whole (Good bs) d = d.whole
        whole (Bad k) d = tt

  fails : (f : StepFail) → FailsBy (core.excess (of_groups gs)) f → FailsBy (p.excess s) f
  fails f k = subst (λ e. FailsBy e f) h.excess k

  pub wide_given : (n : ℕ × ℕ) (f : StepFail) → FailsBy (core.excess (of_groups gs)) f → f ≡ F.Wide → Err S.Wide ≡ step_given p s n
  wide_given n f k e = ap (λ x. within x (by_choice n.0 n.1 (slice_get (p.choices s) n.0))) (sym (subst (FailsBy (p.excess s)) e (fails f k)))

  pub many_given : (n : ℕ × ℕ) (f : StepFail) → FailsBy (core.excess (of_groups gs)) f → f ≡ F.TooMany → Err S.TooMany ≡ step_given p s n
  many_given n f k e = ap (λ x. within x (by_choice n.0 n.1 (slice_get (p.choices s) n.0))) (sym (subst (FailsBy (p.excess s)) e (fails f k)))

  pub wide_drawn : (w : Stream) (f : StepFail) → FailsBy (core.excess (of_groups gs)) f → f ≡ F.Wide → IsDrawnStep p s w w (Err S.Wide)
  wide_drawn w f k e =
      subst (λ b. StopsOrGoes b (step_drawn p s (pair w)) w w (Err S.Wide)) (sym (ap (λ x. barred x (p.choices s)) (subst (FailsBy (p.excess s)) e (fails f k)))) (refl, refl)

  pub many_drawn : (w : Stream) (f : StepFail) → FailsBy (core.excess (of_groups gs)) f → f ≡ F.TooMany → IsDrawnStep p s w w (Err S.TooMany)
  many_drawn w f k e =
      subst (λ b. StopsOrGoes b (step_drawn p s (pair w)) w w (Err S.TooMany)) (sym (ap (λ x. barred x (p.choices s)) (subst (FailsBy (p.excess s)) e (fails f k)))) (refl, refl)
