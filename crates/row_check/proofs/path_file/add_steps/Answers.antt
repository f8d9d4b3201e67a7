use Rattle.std.proofs.Common.{◌≡◌, ◌∙◌, ◌++◌, ◌∷◌, [], List, map, sym, ap, append_assoc, append-nil}
use Rattle.std.proofs.lemmas.List.{map-append}
use Rattle.row_check.specs.declared.data.PathStep.{PathStep}
use Rattle.row_check.proofs.path_file.add_steps.Goals as goal

-- one part more
added : {B : Type 0} (part : PathStep → B) (first : List B) (so_far : List PathStep) (step : PathStep) (old new : List B) → new ≡ old ++ part step ∷ [] → old ≡ first ++ map part so_far →
    new ≡ first ++ map part (so_far ++ step ∷ [])
added part first so_far step old new e h =
    e ∙ ap (λ l. l ++ part step ∷ []) h ∙ append_assoc first (map part so_far) (part step ∷ []) ∙ ap (λ l. first ++ l) (sym (map-append part so_far (step ∷ [])))

pub loop-step-init : goal.loop-step-init
loop-step-init c = record { states = sym (append-nil c.args.path.now.states); labels = sym (append-nil c.args.path.now.labels) }

pub loop-step-preserved : goal.loop-step-preserved
loop-step-preserved c = record {
  states = added (λ (s : PathStep). s.state) c.args.path.now.states c.loop-step.yielded c.in-Some.step _ _ c.in_ok-add_step.ensures.states c.loop-step.invariant.states;
  labels = added (λ (s : PathStep). s.label) c.args.path.now.labels c.loop-step.yielded c.in-Some.step _ _ c.in_ok-add_step.ensures.labels c.loop-step.invariant.labels;
}
