-- A text spells one value, state or name at most; and the text of a value or a state spells it (this project's own rules).
use Rattle.std.specs.Prelude.{◌≡◌, ℕ, Bool, true, false, List, [], ◌∷◌}
use Rattle.frac_core.specs.Fraction.{is_whole}
use Rattle.op_trees.specs.declared.tree.Value.{Value}
use Rattle.op_trees.specs.declared.tree.Value.TheVariants.{Truth, Number}
use Rattle.process_core.specs.Ready.{Values, Name}
use Rattle.process_texts.specs.Texts.{value_text, state_text}
use Rattle.std.specs.List.{list_any}
use Rattle.process_texts.specs.Given.{IsValue, is_wide_value}
use Rattle.process_texts.specs.Names.{SpellsName}
use Rattle.process_texts.specs.States.{SpellsState}

abbrev pub OneValueText : Type 0
OneValueText = (w : List ℕ) (v u : Value) (a b : Bool) → IsValue w v a → IsValue w u b → (v ≡ u) × (a ≡ b)

abbrev pub OneStateText : Type 0
OneStateText = (w : List ℕ) (s t : Values) → SpellsState w s → SpellsState w t → s ≡ t

abbrev pub OneNameText : Type 0
OneNameText = (w : List ℕ) (x y : Name) → SpellsName w x → SpellsName w y → x ≡ y

-- the numbers in it are whole
abbrev pub AllWhole : Values → Type 0
AllWhole [] = Unit {0}
AllWhole (Truth b ∷ s) = AllWhole s
AllWhole (Number x ∷ s) = (is_whole x ≡ true) × AllWhole s

-- The text of a value within the bound spells it, and that of a state of whole numbers.
abbrev pub ValueReadsBack : Type 0
ValueReadsBack = (v : Value) → is_wide_value v ≡ false → IsValue (value_text v) v false

abbrev pub StateReadsBack : Type 0
StateReadsBack = (s : Values) → AllWhole s → list_any is_wide_value s ≡ false → SpellsState (state_text s) s
