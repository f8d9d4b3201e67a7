use Rattle.std.proofs.Common.{◌≡◌, refl, ◌∙◌}
use Rattle.jani_table.specs.Words.{kind_fault, truth_fault}
use Rattle.jani_table.specs.declared.table.Form.{Form}
use Rattle.jani_table.specs.declared.table.Form.TheVariants as F
use Rattle.jani_table.proofs.words.truth_fault.Goals as goal

-- a form where no truth value stands
other_form : (f : Form) → (f ≡ F.Truth → ⊥) → (f ≡ F.Expression → ⊥) → kind_fault f ≡ truth_fault f
other_form F.Truth a b = absurd (a refl)
other_form F.Expression a b = absurd (b refl)
other_form _ a b = refl

pub returns-in_default : goal.returns-in_default
returns-in_default c = c.kind_fault.ensures ∙ other_form c.args.form c.in_default.not-Truth c.in_default.not-Expression
