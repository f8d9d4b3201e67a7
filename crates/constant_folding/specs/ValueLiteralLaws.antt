-- Where whole numbers are written as they should be, the literals of values are worth these, have their types and name nothing.
use Rattle.std.specs.Prelude.{◌≡◌, ℕ, ◌<◌, ◌^◌, ℤ, pos, nat_abs, nat_lt, Bool, true, false, not, ◌&&◌, Some, None, List, IsTrue, if◌then◌else◌}
use Rattle.std.specs.Ordering.{int_eq}
use Rattle.std.proofs.Common.{refl, sym, ap, ap₂, ◌∙◌, arith}
use Rattle.std.proofs.Math.Bool.{or-false}
use Rattle.std.proofs.lemmas.Bool.Decides.{nat_tests}
use Rattle.basics.specs.Booleans.{both_true}
use Rattle.frac_core.specs.Fraction.{Fraction, whole, over, quotient, is_whole, is_wide}
use Rattle.frac_core.specs.Laws.{den_pos, fraction_self, same_parts}
use Rattle.frac_core.specs.Order.{one_times}
use Rattle.frac_core.specs.Decimal.{is_normal}
use Rattle.op_trees.specs.declared.standard.StandardOp.TheVariants.{Div}
use Rattle.op_trees.specs.declared.tree.Ty.{Ty}
use Rattle.op_trees.specs.declared.tree.Ty.TheVariants as T
use Rattle.op_trees.specs.declared.tree.Value.{Value}
use Rattle.op_trees.specs.declared.tree.Value.TheVariants as V
use Rattle.op_trees.specs.Tree.{Tree, Truth, Two, AllNames, AllNumbers, bare}
use Rattle.op_trees.specs.Meaning.{Meaning, is_wide_value}
use Rattle.op_trees.specs.Standard.{standard_meaning}
use Rattle.op_trees.specs.Types.{Types, has_type, sort_two, type_in}
use Rattle.op_trees.specs.Seen.{Seen, known, node, two_node, seen}
use Rattle.constant_folding.specs.Literals.{AreLiterals}
use Rattle.constant_folding.specs.ValueLiterals.{is_real, quotient_tree, number_tree, value_literal}

-- what is seen of a number that isn't wide
abbrev pub plain_number : Fraction → Seen
plain_number q = record { value = Some (V.Number q); wide = false }

abbrev pub number_as : Bool → Ty
number_as real = if real then T.Real else T.Int

-- How a language writes whole numbers: what is seen of each is the number, where it isn't wide; it has its type, names nothing, and is in normal form,
-- at the offset 0.
module _ {O : Type 0} (m : Meaning O) (whole_tree : Bool → ℤ → Tree O) where
  pub record AreNumerals : Type 0 where
    pub seen_as : (real : Bool) (z : ℤ) (env : List ℕ → Seen) → is_wide (whole z) ≡ false → seen m (whole_tree real z) env ≡ plain_number (whole z)
    pub typed : (real : Bool) (z : ℤ) (types : Types) → type_in m types (whole_tree real z) ≡ Some (number_as real)
    pub nameless : (real : Bool) (z : ℤ) → AllNames (λ x. ⊥) (whole_tree real z)
    pub normal : (real : Bool) (z : ℤ) → AllNumbers (λ d. IsTrue (is_normal d)) (whole_tree real z)
    pub placed : (real : Bool) (z : ℤ) → bare (whole_tree real z) ≡ whole_tree real z

-- an operator of quotients of ints, as the one that languages have in common
module _ {O : Type 0} (m : Meaning O) (div : O) where
  pub record IsQuotient : Type 0 where
    pub divides : (a b : Seen) → two_node m div a b ≡ two_node standard_meaning Div a b
    pub typed : sort_two m div (Some T.Int) (Some T.Int) ≡ Some T.Real

-- ---- values
over-whole : (q : Fraction) → over (whole q.num) (whole (pos q.den)) ≡ q
unfolding over
over-whole q = ap₂ quotient (one_times q.num) (one_times (pos q.den)) ∙ fraction_self q

pub seen_number : (q : Fraction) → is_wide q ≡ false → known (Some (V.Number q)) ≡ plain_number q
seen_number q h = ap (λ w. record { value = Some (V.Number q); wide = w }) h

whole_is : (q : Fraction) → is_whole q ≡ true → whole q.num ≡ q
whole_is q h = same_parts (whole q.num) q refl (let e : 1 ≡ q.den = grind (arith, nat_tests) in e)

small_one : nat_lt 1 (2 ^ 62) ≡ true
small_one = refl

small_num : (q : Fraction) → is_wide q ≡ false → is_wide (whole q.num) ≡ false
small_num q h =
    let parts = both_true (nat_lt (nat_abs q.num) (2 ^ 62)) (nat_lt q.den (2 ^ 62)) h in
    ap₂ (λ a b. not (a && b)) parts.0 small_one

small_den : (q : Fraction) → is_wide q ≡ false → is_wide (whole (pos q.den)) ≡ false
small_den q h =
    let parts = both_true (nat_lt (nat_abs q.num) (2 ^ 62)) (nat_lt q.den (2 ^ 62)) h in
    ap₂ (λ a b. not (a && b)) parts.1 small_one

not_nought : (d : ℕ) → 0 < d → int_eq (pos d) (pos 0) ≡ false
not_nought d h = grind (arith, nat_tests)

divided : (q : Fraction) → two_node standard_meaning Div (plain_number (whole q.num)) (plain_number (whole (pos q.den))) ≡ known (Some (V.Number q))
divided q =
    ap (λ b. node (if b then None else Some (V.Number (over (whole q.num) (whole (pos q.den))))) false) (not_nought q.den (den_pos q))
    ∙ ap (λ x. node (Some (V.Number x)) false) (over-whole q)
    ∙ ap (λ w. record { value = Some (V.Number q); wide = w }) (or-false (is_wide q))

-- ---- literals
module _ {O : Type 0} (whole_tree : Bool → ℤ → Tree O) (div : O) where
  -- what holds of each of its parts
  module _ (P : Tree O → Type 0) (truth : (b : Bool) → P (Truth 0 b)) (numeral : (real : Bool) (z : ℤ) → P (whole_tree real z))
      (quotients : (a b : Tree O) → P a → P b → P (Two 0 div a b)) where
    pub literal_holds : (v : Value) (t : Ty) → P (value_literal whole_tree div v t)
    literal_holds (V.Truth b) t = truth b
    literal_holds (V.Number q) t = by (is_whole q)
      where
        by : (b : Bool) → P (if b then whole_tree (is_real t) q.num else quotient_tree whole_tree div q.num q.den)
        by true = numeral (is_real t) q.num
        by false = quotients _ _ (numeral false q.num) (numeral false (pos q.den))

module _ {O : Type 0} (m : Meaning O) (whole_tree : Bool → ℤ → Tree O) (div : O) (numerals : AreNumerals m whole_tree) (quotients : IsQuotient m div) where
  module _ (env : List ℕ → Seen) where
    number_seen : (q : Fraction) (t : Ty) → is_wide q ≡ false → seen m (number_tree whole_tree div q t) env ≡ known (Some (V.Number q))
    number_seen q t h = by (is_whole q) refl
      where
        by : (b : Bool) → is_whole q ≡ b →
            seen m (if b then whole_tree (is_real t) q.num else quotient_tree whole_tree div q.num q.den) env ≡ known (Some (V.Number q))
        by true e = numerals.seen_as (is_real t) q.num env (small_num q h) ∙ ap plain_number (whole_is q e) ∙ sym (seen_number q h)
        by false e =
            ap₂ (two_node m div) (numerals.seen_as false q.num env (small_num q h)) (numerals.seen_as false (pos q.den) env (small_den q h))
            ∙ quotients.divides (plain_number (whole q.num)) (plain_number (whole (pos q.den))) ∙ divided q

    literal_seen : (v : Value) (t : Ty) → is_wide_value (Some v) ≡ false → seen m (value_literal whole_tree div v t) env ≡ known (Some v)
    literal_seen (V.Truth b) t h = refl
    literal_seen (V.Number q) t h = number_seen q t h

  module _ (types : Types) where
    quotient_typed : (q : Fraction) → type_in m types (quotient_tree whole_tree div q.num q.den) ≡ Some T.Real
    quotient_typed q = ap₂ (sort_two m div) (numerals.typed false q.num types) (numerals.typed false (pos q.den) types) ∙ quotients.typed

    number_typed : (q : Fraction) (t : Ty) → IsTrue (has_type t (V.Number q)) → type_in m types (number_tree whole_tree div q t) ≡ Some t
    number_typed q T.Bool h = absurd cc
    number_typed q T.Int h =
        ap (λ b. type_in m types (if b then whole_tree false q.num else quotient_tree whole_tree div q.num q.den)) h ∙ numerals.typed false q.num types
    number_typed q T.Real h = by (is_whole q)
      where
        by : (b : Bool) → type_in m types (if b then whole_tree true q.num else quotient_tree whole_tree div q.num q.den) ≡ Some T.Real
        by true = numerals.typed true q.num types
        by false = quotient_typed q

    literal_typed : (v : Value) (t : Ty) → IsTrue (has_type t v) → type_in m types (value_literal whole_tree div v t) ≡ Some t
    literal_typed (V.Truth b) T.Bool h = refl
    literal_typed (V.Truth b) T.Int h = absurd cc
    literal_typed (V.Truth b) T.Real h = absurd cc
    literal_typed (V.Number q) t h = number_typed q t h

  pub value_literals : AreLiterals m (value_literal whole_tree div)
  value_literals = record {
    seen_as = λ v t env h. literal_seen env v t h;
    typed = λ v t types h. literal_typed types v t h;
    nameless = literal_holds whole_tree div (AllNames (λ x. ⊥)) (λ b. tt) numerals.nameless (λ a b h k. (h, k));
    normal = literal_holds whole_tree div (AllNumbers (λ d. IsTrue (is_normal d))) (λ b. tt) numerals.normal (λ a b h k. (h, k));
    placed = literal_holds whole_tree div (λ e. bare e ≡ e) (λ b. refl) numerals.placed (λ a b h k. ap₂ (Two 0 div) h k);
  }
