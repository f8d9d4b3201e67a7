use Rattle.std.proofs.Common.{ap, ◌∙◌}
use Rattle.std.specs.Prelude.{bytes_eq}
use Rattle.jani_table.specs.Words.{ty_of, ty_text}
use Rattle.jani_table.specs.declared.words.TheConstants.{TYPES}
use Rattle.jani_table.proofs.Found.{found_here, found_later, found_nowhere}
use Rattle.jani_table.proofs.words.ty_of.Goals as goal

pub returns-then-eq : goal.returns-then-eq
unfolding ty_of
returns-then-eq c = found_here (λ t. bytes_eq (ty_text t) c.args.text.now) TYPES c.loop-ty.ty-index _ _ _ (c.eq.ensures ∙ ap (λ s. bytes_eq s c.args.text.now) c.ty_text.ensures) c.if-eq.true c.loop-ty-test.true c.loop-ty.invariant

pub loop-ty-preserved : goal.loop-ty-preserved
loop-ty-preserved c = found_later (λ t. bytes_eq (ty_text t) c.args.text.now) TYPES c.loop-ty.ty-index _ _ _ (c.eq.ensures ∙ ap (λ s. bytes_eq s c.args.text.now) c.ty_text.ensures) c.if-eq.false c.loop-ty-test.true c.loop-ty.invariant

pub returns : goal.returns
unfolding ty_of
returns c = found_nowhere (λ t. bytes_eq (ty_text t) c.args.text.now) TYPES c.loop-ty.ty-index _ c.loop-ty-test.false c.loop-ty.invariant
