-- The texts of states that are read. (This project's own rule.)
use Rattle.std.specs.Prelude.{◌≡◌, ℕ, ◌==◌, ◌^◌, nat_lt, Bool, true, false, List, [], ◌∷◌, ◌++◌, Option, Some, None, slice_index, drop, if◌then◌else◌}
use Rattle.std.specs.List.{list_any}
use Rattle.std.specs.Str.Parse.{IsNumeral, digits_value}
use Rattle.frac_core.specs.Fraction.{whole, signed}
use Rattle.op_trees.specs.declared.tree.Value.{Value}
use Rattle.op_trees.specs.declared.tree.Value.TheVariants.{Truth, Number}
use Rattle.process_core.specs.Ready.{Values}
use Rattle.process_core.specs.declared.data.State.{State}
use Rattle.process_texts.specs.Texts.{truth_text, tuple_text}
use Rattle.process_texts.specs.Forms.{digits_of, sign_text, truth_of}
use Rattle.process_texts.specs.Given.{is_wide_value}

-- The text spells this value: a truth value, or digits with a minus before them or none.
pub data IsItem (w : List ℕ) (v : Value) : Type 0 where
  truth : (b : Bool) → w ≡ truth_text b → v ≡ Truth b → IsItem w v
  number : (minus : Bool) (ds : List ℕ) → w ≡ sign_text minus ++ ds → IsNumeral 10 ds → v ≡ Number (whole (signed minus (digits_value 10 ds))) → IsItem w v

abbrev pub AreItems : List (List ℕ) → Values → Type 0
AreItems [] [] = Unit {0}
AreItems [] (v ∷ vs) = ⊥
AreItems (w ∷ ws) [] = ⊥
AreItems (w ∷ ws) (v ∷ vs) = IsItem w v × AreItems ws vs

-- The text spells this state: its values in parentheses, with commas between them.
pub record SpellsState (w : List ℕ) (s : Values) : Type 0 where
  pub items : List (List ℕ)
  pub text : w ≡ tuple_text items
  pub are : AreItems items s

-- what is read of a text: a state that it spells, within the bound; or none, where it spells no such state
abbrev pub ReadsState : List ℕ → Option State → Type 0
ReadsState w (Some s) = SpellsState w s.values × (list_any is_wide_value s.values ≡ false)
ReadsState w None = (s : Values) → SpellsState w s → list_any is_wide_value s ≡ true

-- ---- the same, as a program goes about it
-- the parts of a text between commas
abbrev pub cons_first : ℕ → List (List ℕ) → List (List ℕ)
cons_first b [] = (b ∷ []) ∷ []
cons_first b (p ∷ ps) = (b ∷ p) ∷ ps

abbrev pub parts : List ℕ → List (List ℕ)
parts [] = [] ∷ []
parts (b ∷ bs) = if b == 44 then [] ∷ parts bs else cons_first b (parts bs)

-- a text without a minus before it
abbrev pub has_minus : List ℕ → Bool
has_minus w = slice_index w 0 == 45

abbrev pub bare : List ℕ → List ℕ
bare w = if has_minus w then drop 1 w else w

abbrev pub small_number : Bool → Option ℕ → Option Value
small_number minus None = None
small_number minus (Some n) = if nat_lt n (2 ^ 62) then Some (Number (whole (signed minus n))) else None

abbrev pub truth_or : Option Bool → Option Value → Option Value
truth_or (Some b) v = Some (Truth b)
truth_or None v = v

-- the value of a part, if it is within the bound
abbrev pub item_of : List ℕ → Option Value
item_of w = truth_or (truth_of w) (small_number (has_minus w) (digits_of (bare w)))

abbrev pub both : Option Value → Option Values → Option Values
both (Some v) (Some vs) = Some (v ∷ vs)
both (Some v) None = None
both None r = None

abbrev pub values_of : List (List ℕ) → Option Values
values_of [] = Some []
values_of (w ∷ ws) = both (item_of w) (values_of ws)
