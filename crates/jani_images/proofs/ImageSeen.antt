-- The image of an expression has the value of the expression, and is wide where that is.
use Rattle.std.specs.Prelude.{◌≡◌, ◌<◌, ℕ, zero, suc, pos, negsuc, ℤ, Bool, true, false, not, ◌&&◌, ◌||◌, Some, if◌then◌else◌, nat_abs, neg_ℤ, nat_lt, ◌^◌}
use Rattle.std.proofs.Common.{refl, sym, ap, ap₂, ◌∙◌, arith}
use Rattle.frac_core.specs.declared.decimal.Decimal.{Decimal}
use Rattle.frac_core.specs.Fraction.{Fraction, is_lowest_from, whole, times, plus, negated, nought, signed, is_wide}
use Rattle.frac_core.specs.Gcd.{gcd}
use Rattle.frac_core.specs.Laws.{StandsFor-fraction, StandsFor_self, same_ratio, den_pos, parts_apart, plus_comm, plus_assoc, plus_nought, nought_plus, plus_negated, times_comm, times_nought, times-plus}
use Rattle.frac_core.specs.Decimal.{decimal_value, ten_to}
use Rattle.op_trees.specs.declared.tree.Value.TheVariants as V
use Rattle.op_trees.specs.Tree.{Truth, Number, Name as At, One, Two, Three, AllNames}
use Rattle.op_trees.specs.Seen.{Seen, known, one_node, two_node, lazy_node, seen}
use Rattle.op_trees.specs.Standard.{standard_meaning}
use Rattle.op_trees.specs.AlongLaws.{one_node_alike, two_node_alike, lazy_node_alike}
use Rattle.process_core.specs.Ready.{Name}
use Rattle.prism_tree.specs.declared.operator.PrismOp.TheVariants as P
use Rattle.prism_tree.specs.Operators as PrismTable
use Rattle.prism_tree.specs.Operators.{prism_meaning}
use Rattle.jani_table.specs.declared.operator.JaniOp.{JaniOp}
use Rattle.jani_table.specs.declared.operator.JaniOp.TheVariants as J
use Rattle.jani_table.specs.Operators as JaniTable
use Rattle.jani_table.specs.Operators.{jani_meaning}
use Rattle.jani_tree.specs.Syntax.{Expression}
use Rattle.jani_tree.specs.Canonical.{HasOperands}
use Rattle.jani_images.specs.Image.{prism_op, unsigned, literal, image}

-- ---- negative literals
nat_abs-neg : (z : ℤ) → nat_abs (neg_ℤ z) ≡ nat_abs z
nat_abs-neg (pos zero) = refl
nat_abs-neg (pos (suc n)) = refl
nat_abs-neg (negsuc n) = refl

-- the parts of what is negated
opposite : Fraction → Fraction
opposite x = record { num = neg_ℤ x.num; den = x.den; lowest = is_lowest_from (neg_ℤ x.num) x.den (den_pos x) (ap (λ n. gcd n x.den) (nat_abs-neg x.num) ∙ parts_apart x) }

negated_parts : (x : Fraction) → negated x ≡ opposite x
unfolding opposite negated
negated_parts x = same_ratio (negated x) (opposite x) _ _ _ _ (StandsFor-fraction (neg_ℤ x.num) x.den (den_pos x)) (StandsFor_self (opposite x)) refl

wide_negated : (x : Fraction) → is_wide (negated x) ≡ is_wide x
unfolding opposite
wide_negated x = ap is_wide (negated_parts x) ∙ ap (λ n. not (nat_lt n (2 ^ 62) && nat_lt x.den (2 ^ 62))) (nat_abs-neg x.num)

-- what adds up to 0 is the negated one
opposite_is : (x y : Fraction) → plus x y ≡ nought → y ≡ negated x
opposite_is x y h =
    sym (nought_plus y)
    ∙ ap (λ z. plus z y) (sym (plus_comm (negated x) x ∙ plus_negated x))
    ∙ plus_assoc (negated x) x y
    ∙ ap (plus (negated x)) h
    ∙ plus_nought (negated x)

times_negated : (x y : Fraction) → times (negated x) y ≡ negated (times x y)
times_negated x y =
    opposite_is (times x y) (times (negated x) y)
    (ap₂ plus (times_comm x y) (times_comm (negated x) y)
    ∙ sym (times-plus y x (negated x))
    ∙ ap (times y) (plus_negated x)
    ∙ times_nought y)

whole_negated : (n : ℕ) → whole (neg_ℤ (pos n)) ≡ negated (whole (pos n))
unfolding negated
whole_negated n = same_ratio (whole (neg_ℤ (pos n))) (negated (whole (pos n))) _ _ _ _ (StandsFor_self (whole (neg_ℤ (pos n)))) (StandsFor-fraction (neg_ℤ (pos n)) 1 (let l : 0 < 1 = omega arith in l)) refl

value_negated : (d : Decimal) → d.negative ≡ true → negated (decimal_value (unsigned d)) ≡ decimal_value d
unfolding decimal_value
value_negated d h =
    sym (times_negated (whole (pos d.digits)) (ten_to d.exponent))
    ∙ ap (λ z. times z (ten_to d.exponent)) (sym (whole_negated d.digits) ∙ ap (λ b. whole (signed b d.digits)) (sym h))

same_seen : (x y : Fraction) (a b : Bool) → x ≡ y → a ≡ b → ◌≡◌ {A = Seen} (record { value = Some (V.Number x); wide = a }) (record { value = Some (V.Number y); wide = b })
same_seen x y a b e f = cc

or_same : (a b : Bool) → a ≡ b → (a || b) ≡ b
or_same true true h = refl
or_same true false h = absurd cc
or_same false b h = refl

literal_seen : (at : ℕ) (d : Decimal) (env : Name → Seen) → seen prism_meaning (literal at d) env ≡ known (Some (V.Number (decimal_value d)))
literal_seen at d env = by_sign d.negative refl
  where
    by_sign : (b : Bool) → d.negative ≡ b → seen prism_meaning (if b then One at P.Neg (Number at (unsigned d)) else Number at d) env ≡ known (Some (V.Number (decimal_value d)))
    by_sign true e =
        let x = decimal_value (unsigned d) in
        same_seen (negated x) (decimal_value d) (is_wide (negated x) || is_wide x) (is_wide (decimal_value d)) (value_negated d e)
        (or_same (is_wide (negated x)) (is_wide x) (wide_negated x) ∙ sym (wide_negated x) ∙ ap is_wide (value_negated d e))
    by_sign false e = refl

-- ---- operators mean the same
pub same_op : (o : JaniOp) → PrismTable.standard (prism_op o) ≡ JaniTable.standard o
same_op J.Ite = refl
same_op o = refl

-- ---- expressions
module _ (new : Name → Name) (names env : Name → Seen) where
  pub image_seen : (e : Expression) → AllNames (λ x. env (new x) ≡ names x) e → HasOperands e → seen prism_meaning (image new e) env ≡ seen jani_meaning e names
  image_seen (Truth at b) n h = refl
  image_seen (Number at d) n h = literal_seen at d env
  image_seen (At at x) n h = n
  image_seen (One at o a) n h = ap (one_node prism_meaning (prism_op o)) (image_seen a n h.1) ∙ one_node_alike PrismTable.standard JaniTable.standard standard_meaning (prism_op o) o (same_op o) (seen jani_meaning a names)
  image_seen (Two at o a b) n h =
      ap₂ (two_node prism_meaning (prism_op o)) (image_seen a n.0 h.1) (image_seen b n.1 h.2)
      ∙ two_node_alike PrismTable.standard JaniTable.standard standard_meaning (prism_op o) o (same_op o) (seen jani_meaning a names) (seen jani_meaning b names)
  image_seen (Three at o x a b) n h =
      ap₂ {B = Seen → Seen} (λ r g. g r) (image_seen x n.0 h.1) (ap₂ (λ s t r. lazy_node prism_meaning (prism_op o) r s t) (image_seen a n.1 h.2) (image_seen b n.2 h.3))
      ∙ lazy_node_alike PrismTable.standard JaniTable.standard standard_meaning (prism_op o) o (same_op o) (seen jani_meaning x names) (seen jani_meaning a names) (seen jani_meaning b names)
