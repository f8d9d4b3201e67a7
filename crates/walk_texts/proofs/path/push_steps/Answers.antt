use Rattle.std.proofs.Common.{◌≡◌, ◌+◌, ◌++◌, [], ◌∷◌, take, sym, ap, subst, ◌∙◌, append-nil, append_assoc}
use Rattle.std.specs.List.{All, flat_map}
use Rattle.std.proofs.lemmas.List.{take_more}
use Rattle.std.proofs.lemmas.List.Elements.{All-append, All-cons, All-nil}
use Rattle.std.proofs.lemmas.Grind.{flat_map-append}
use Rattle.walk_texts.specs.Jobs.{IsNarrowStep}
use Rattle.walk_texts.specs.Lines.{step_line}
use Rattle.walk_texts.proofs.path.push_steps.Goals as goal

pub loop-step-preserved : goal.loop-step-preserved
loop-step-preserved c =
    let xs = c.args.steps.now in
    let i = c.loop-step.step-index in
    let x = c.step-item.result in
    let old = c.args.out.now.items in
    let more : take (i + 1) xs ≡ take i xs ++ x ∷ [] = take_more xs i x c.loop-step-test.true ∙ ap (λ y. take i xs ++ y ∷ []) (sym c.step-item.is) in
    let lines : flat_map step_line (take (i + 1) xs) ≡ flat_map step_line (take i xs) ++ step_line x =
    ap (flat_map step_line) more ∙ flat_map-append step_line (take i xs) (x ∷ []) ∙ ap (λ l. flat_map step_line (take i xs) ++ l) (append-nil (step_line x)) in
    record {
      text =
          c.in_ok-push_step.ensures.text ∙ ap (λ l. l ++ step_line x) c.loop-step.invariant.text ∙ append_assoc old (flat_map step_line (take i xs)) (step_line x) ∙ ap (λ l. old ++ l) (sym lines);
      narrow =
          subst (All IsNarrowStep) (sym more)
          (All-append IsNarrowStep (take i xs) (x ∷ []) c.loop-step.invariant.narrow (All-cons IsNarrowStep x [] c.in_ok-push_step.ensures.narrow (All-nil IsNarrowStep)));
    }
