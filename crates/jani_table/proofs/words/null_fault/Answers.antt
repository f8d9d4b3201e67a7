use Rattle.std.proofs.Common.{◌≡◌, refl, ◌∙◌}
use Rattle.jani_table.specs.Words.{kind_fault, null_fault}
use Rattle.jani_table.specs.declared.table.Form.{Form}
use Rattle.jani_table.specs.declared.table.Form.TheVariants as F
use Rattle.jani_table.proofs.words.null_fault.Goals as goal

-- a form where no null stands
other_form : (f : Form) → (f ≡ F.NameOrNull → ⊥) → kind_fault f ≡ null_fault f
other_form F.NameOrNull a = absurd (a refl)
other_form _ a = refl

pub returns-in_default : goal.returns-in_default
returns-in_default c = c.kind_fault.ensures ∙ other_form c.args.form c.in_default.not-NameOrNull
