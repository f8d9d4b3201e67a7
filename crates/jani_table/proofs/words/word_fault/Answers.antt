use Rattle.std.proofs.Common.{◌≡◌, ℕ, List, refl, ◌∙◌}
use Rattle.jani_table.specs.Words.{kind_fault, word_fault}
use Rattle.jani_table.specs.declared.table.Form.{Form}
use Rattle.jani_table.specs.declared.table.Form.TheVariants as F
use Rattle.jani_table.proofs.words.word_fault.Goals as goal

-- a form where no word stands
other_word : (f : Form) (s : List ℕ) → (f ≡ F.Text → ⊥) → (f ≡ F.Name → ⊥) → (f ≡ F.NameOrNull → ⊥) → (f ≡ F.Expression → ⊥) → (f ≡ F.ModelType → ⊥) → (f ≡ F.Feature → ⊥) →
    (f ≡ F.ConstantType → ⊥) → (f ≡ F.VariableType → ⊥) → (f ≡ F.BoundedWord → ⊥) → (f ≡ F.BaseWord → ⊥) → (f ≡ F.Operator → ⊥) → kind_fault f ≡ word_fault f s
other_word F.Text s a b c d e f g h i j k = absurd (a refl)
other_word F.Name s a b c d e f g h i j k = absurd (b refl)
other_word F.NameOrNull s a b c d e f g h i j k = absurd (c refl)
other_word F.Expression s a b c d e f g h i j k = absurd (d refl)
other_word F.ModelType s a b c d e f g h i j k = absurd (e refl)
other_word F.Feature s a b c d e f g h i j k = absurd (f refl)
other_word F.ConstantType s a b c d e f g h i j k = absurd (g refl)
other_word F.VariableType s a b c d e f g h i j k = absurd (h refl)
other_word F.BoundedWord s a b c d e f g h i j k = absurd (i refl)
other_word F.BaseWord s a b c d e f g h i j k = absurd (j refl)
other_word F.Operator s a b c d e f g h i j k = absurd (k refl)
other_word _ s a b c d e f g h i j k = refl

pub returns-in_default : goal.returns-in_default
returns-in_default c =
    let n = c.in_default in
    c.kind_fault.ensures
    ∙ other_word c.args.form c.args.text.now n.not-Text n.not-Name n.not-NameOrNull n.not-Expression n.not-ModelType n.not-Feature n.not-ConstantType n.not-VariableType n.not-BoundedWord n.not-BaseWord n.not-Operator
