use Rattle.std.proofs.Common.{◌≡◌, drop}
use Rattle.std.specs.Prelude.{bytes_eq, find}
use Rattle.jani_table.specs.Words.{feature_text}
use Rattle.jani_table.proofs.words.Feature.of.Given as goal

abbrev pub invariant-loop-feature : goal.invariant-loop-feature
invariant-loop-feature l = find (λ t. bytes_eq (feature_text t) l.text) (drop l.feature-index l.feature-items) ≡ find (λ t. bytes_eq (feature_text t) l.text) l.feature-items
