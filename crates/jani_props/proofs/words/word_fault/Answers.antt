use Rattle.std.proofs.Common.{◌≡◌, ℕ, List, refl, ◌∙◌}
use Rattle.jani_props.specs.declared.table.PropForm.{PropForm}
use Rattle.jani_props.specs.declared.table.PropForm.TheVariants as F
use Rattle.jani_props.specs.declared.words.Side.{Side}
use Rattle.jani_props.specs.Words.{kind_fault, word_fault}
use Rattle.jani_props.proofs.words.word_fault.Goals as goal

-- the forms that have no word
record NoWord (f : PropForm) : Type 0 where
  expression : f ≡ F.Expression → ⊥
  name : f ≡ F.Name → ⊥
  operator : f ≡ F.Operator → ⊥
  note : f ≡ F.Note → ⊥
  fun : f ≡ F.Fun → ⊥
  sum : f ≡ F.Sum → ⊥
  compared : (s : Side) → f ≡ F.Compared s → ⊥

no_word : (f : PropForm) (s : List ℕ) → NoWord f → kind_fault f ≡ word_fault f s
no_word F.Expression s n = absurd (n.expression refl)
no_word F.Name s n = absurd (n.name refl)
no_word F.Operator s n = absurd (n.operator refl)
no_word F.Note s n = absurd (n.note refl)
no_word F.Fun s n = absurd (n.fun refl)
no_word F.Sum s n = absurd (n.sum refl)
no_word (F.Compared x) s n = absurd (n.compared x refl)
no_word F.Properties s n = refl
no_word F.Property s n = refl
no_word F.Filter s n = refl
no_word F.Values s n = refl
no_word F.Path s n = refl
no_word F.Steps s n = refl
no_word F.States s n = refl
no_word F.Sums s n = refl
no_word F.Chosen s n = refl
no_word F.LeftOut s n = refl

pub returns-in_default : goal.returns-in_default
returns-in_default c =
    c.kind_fault.ensures
    ∙ no_word c.args.form c.args.text.now (record {
      expression = c.in_default.not-Expression;
      name = c.in_default.not-Name;
      operator = c.in_default.not-Operator;
      note = c.in_default.not-Note;
      fun = c.in_default.not-Fun;
      sum = c.in_default.not-Sum;
      compared = λ s e. c.in_default.not-Compared s e;
    })
