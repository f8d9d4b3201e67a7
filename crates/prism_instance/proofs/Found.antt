-- What an answer tells of what is seen.
use Rattle.std.proofs.Common.{◌≡◌, false, None, Result, if◌then◌else◌, sym, ap, ◌∙◌}
use Rattle.op_trees.specs.Seen.{Seen}
use Rattle.op_trees.specs.declared.tree.Value.{Value}
use Rattle.op_trees.specs.declared.tree.EvalFail.{EvalFail}
use Rattle.state_choices.specs.Views.{seen_of}
use Rattle.state_choices.specs.Trimmed.{computed}
use Rattle.state_choices.proofs.ComputedLaws.{computed_laws}

pub narrow_seen : (s : Seen) (r : Result Value EvalFail) → r ≡ computed s → (seen_of r).wide ≡ false → s.wide ≡ false
narrow_seen s r e h = sym (ap (λ x. x.wide) (ap seen_of e ∙ computed_laws.values s)) ∙ h

-- a value that isn't wide is what is seen
pub value_seen : (s : Seen) (r : Result Value EvalFail) → r ≡ computed s → (seen_of r).wide ≡ false → (seen_of r).value ≡ s.value
value_seen s r e h = ap (λ x. x.value) (ap seen_of e ∙ computed_laws.values s) ∙ ap (λ w. if w then None else s.value) (narrow_seen s r e h)
