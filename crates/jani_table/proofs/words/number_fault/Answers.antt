use Rattle.std.proofs.Common.{◌≡◌, refl, ◌∙◌}
use Rattle.frac_core.specs.declared.decimal.Decimal.{Decimal}
use Rattle.jani_table.specs.Words.{kind_fault, number_fault}
use Rattle.jani_table.specs.declared.table.Form.{Form}
use Rattle.jani_table.specs.declared.table.Form.TheVariants as F
use Rattle.jani_table.proofs.words.number_fault.Goals as goal

-- a form where no number stands
other_form : (f : Form) (d : Decimal) → (f ≡ F.Expression → ⊥) → (f ≡ F.Version → ⊥) → (f ≡ F.Index → ⊥) → kind_fault f ≡ number_fault f d
other_form F.Expression d a b e = absurd (a refl)
other_form F.Version d a b e = absurd (b refl)
other_form F.Index d a b e = absurd (e refl)
other_form _ d a b e = refl

pub returns-in_default : goal.returns-in_default
returns-in_default c =
    c.kind_fault.ensures ∙ other_form c.args.form c.args.number c.in_default.not-Expression c.in_default.not-Version c.in_default.not-Index
