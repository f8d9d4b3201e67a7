-- What texts are read as.
use Rattle.std.proofs.Common.{◌≡◌, ℕ, zero, suc, List, [], ◌∷◌, true, false, Option, Some, None, Result, Ok, Err, IfOk, ap, ◌∙◌, subst, arith}
use Rattle.std.specs.declared.alloc.AllocError.{AllocError}
use Rattle.std.specs.Str.{IsUtf8, IsAscii}
use Rattle.std.specs.Str.Parse.{AllDigits}
use Rattle.std.proofs.lemmas.Str.{is_utf8-from_IsUtf8, IsUtf8-from_is_utf8, IsUtf8-from_ascii}
use Rattle.std.proofs.lemmas.Str.Parse.{tells_digits}
use Rattle.basics.specs.Numbers.{nat_eq-self}
use Rattle.op_trees.specs.declared.tree.Value.{Value}
use Rattle.op_trees.specs.declared.tree.Value.TheVariants.{Truth, Number}
use Rattle.process_core.specs.declared.data.State.{State}
use Rattle.process_core.specs.Ready.{Name}
use Rattle.process_texts.specs.Given.{IsValue, is_wide_value}
use Rattle.process_texts.specs.Given as given
use Rattle.process_texts.specs.Laws.{OneValueText}
use Rattle.process_texts.specs.Names.{ReadsName}
use Rattle.process_texts.specs.States.{ReadsState}
use Rattle.process_texts.specs.declared.given.GivenText.TheVariants.{Good, Past, NoForm}
use Rattle.row_check.specs.Lines.{ReadsText}
use Rattle.row_check.specs.Texts.{IsNumber, IsStateText, IsNameText, IsProbability, begins_with, number_in}

-- ---- numbers

digit_ascii : (ds : List ℕ) → AllDigits 10 ds → IsAscii ds
digit_ascii [] d i = omega arith
digit_ascii (c ∷ ds) d zero = let k = (tells_digits.parts c ds d).0 in omega arith
digit_ascii (c ∷ ds) d (suc i) = digit_ascii ds d.1 i

pub number_utf8 : (text : List ℕ) (n : ℕ) → IsNumber text n → IsUtf8 text
number_utf8 text n h = IsUtf8-from_ascii text (digit_ascii text h.digits.1)

pub not_utf8_number : (text : List ℕ) → ¬ (IsUtf8 text) → (n : ℕ) → ¬ (IsNumber text n)
not_utf8_number text u n h = u (number_utf8 text n h)

-- ---- states and names
pub state_read : (text : List ℕ) (o : Option State) → IsUtf8 text → ReadsState text o → ReadsText (IsStateText text) o
state_read text (Some s) u h = record { utf8 = is_utf8-from_IsUtf8 text u; spells = h.0; narrow = h.1 }
state_read text None u h = λ s k. let e = h s.values k.spells in let f = k.narrow in absurd cc

pub state_read_of : (text said : List ℕ) (r : Result (Option State) AllocError) → said ≡ text → IsUtf8 text → IfOk r (ReadsState said) → IfOk r (ReadsText (IsStateText text))
state_read_of text said (Ok o) e u h = state_read text o u (subst (λ t. ReadsState t o) e h)
state_read_of text said (Err x) e u h = tt

pub state_unread : (text : List ℕ) → ¬ (IsUtf8 text) → ReadsText (IsStateText text) None
state_unread text u = λ s k. u (IsUtf8-from_is_utf8 text k.utf8)

pub name_read : (text : List ℕ) (o : Option Name) → IsUtf8 text → ReadsName text o → ReadsText (IsNameText text) o
name_read text (Some x) u h = record { utf8 = is_utf8-from_IsUtf8 text u; spells = h }
name_read text None u h = λ x k. h x k.spells

pub name_read_of : (text said : List ℕ) (r : Result (Option Name) AllocError) → said ≡ text → IsUtf8 text → IfOk r (ReadsName said) → IfOk r (ReadsText (IsNameText text))
name_read_of text said (Ok o) e u h = name_read text o u (subst (λ t. ReadsName t o) e h)
name_read_of text said (Err x) e u h = tt

pub name_unread : (text : List ℕ) → ¬ (IsUtf8 text) → ReadsText (IsNameText text) None
name_unread text u = λ x k. u (IsUtf8-from_is_utf8 text k.utf8)

-- ---- probabilities

pub probability_unread : (text : List ℕ) → ¬ (IsUtf8 text) → ReadsText (IsProbability text) None
probability_unread text u = λ x k. u (IsUtf8-from_is_utf8 text k.utf8)

module _ (laws : OneValueText) (text : List ℕ) (u : IsUtf8 text) (b : begins_with 45 text ≡ false) where
  bare : (rest : List ℕ) → text ≡ 45 ∷ rest → ⊥
  bare rest e = let f : begins_with 45 text ≡ true = ap (begins_with 45) e ∙ nat_eq-self 45 in absurd cc

  pub probability_good : (v : Value) → given.Answers (IsValue text) (Good v) → ReadsText (IsProbability text) (number_in v)
  probability_good (Truth t) h = λ x k. let e = (laws text (Truth t) (Number x) false false h.0 k.spells).0 in absurd cc
  probability_good (Number x) h = record { utf8 = is_utf8-from_IsUtf8 text u; bare = bare; spells = h.0; narrow = h.1 }

  pub probability_past : given.Answers (IsValue text) Past → ReadsText (IsProbability text) None
  probability_past h = λ x k.
      let same = laws text h.0 (Number x) h.1 false h.2 k.spells in
      let narrow : is_wide_value h.0 ≡ false = ap is_wide_value same.0 ∙ k.narrow in
      let within = same.1 in
      let past = h.3 in
      absurd cc

  pub probability_none : given.Answers (IsValue text) NoForm → ReadsText (IsProbability text) None
  probability_none h = λ x k. h (Number x) false k.spells
