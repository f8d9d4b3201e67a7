use Rattle.std.proofs.Common.{ap, ◌∙◌}
use Rattle.std.specs.Prelude.{bytes_eq}
use Rattle.jani_table.specs.Words.{feature_of, feature_text}
use Rattle.jani_table.specs.declared.words.TheConstants.{FEATURES}
use Rattle.jani_table.proofs.Found.{found_here, found_later, found_nowhere}
use Rattle.jani_table.proofs.words.Feature.of.Goals as goal

pub returns-then-eq : goal.returns-then-eq
unfolding feature_of
returns-then-eq c = found_here (λ t. bytes_eq (feature_text t) c.args.text.now) FEATURES c.loop-feature.feature-index _ _ _ (c.eq.ensures ∙ ap (λ s. bytes_eq s c.args.text.now) c.text.ensures) c.if-eq.true c.loop-feature-test.true c.loop-feature.invariant

pub loop-feature-preserved : goal.loop-feature-preserved
loop-feature-preserved c = found_later (λ t. bytes_eq (feature_text t) c.args.text.now) FEATURES c.loop-feature.feature-index _ _ _ (c.eq.ensures ∙ ap (λ s. bytes_eq s c.args.text.now) c.text.ensures) c.if-eq.false c.loop-feature-test.true c.loop-feature.invariant

pub returns : goal.returns
unfolding feature_of
returns c = found_nowhere (λ t. bytes_eq (feature_text t) c.args.text.now) FEATURES c.loop-feature.feature-index _ c.loop-feature-test.false c.loop-feature.invariant
