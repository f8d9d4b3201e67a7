-- An image is seen as its expression.
use Rattle.std.specs.Prelude.{◌≡◌, ℕ, List, Bool, ◌||◌, Option, Some, None}
use Rattle.std.proofs.Common.{refl, ap, ap₂, ◌∙◌, arith}
use Rattle.frac_core.specs.Fraction.{nought}
use Rattle.frac_core.specs.Decimal.{decimal_value-whole}
use Rattle.op_trees.specs.declared.tree.Value.{Value}
use Rattle.op_trees.specs.declared.tree.Value.TheVariants as V
use Rattle.op_trees.specs.Tree.{Tree, Truth, Number, Name, One, Two, Three, AllNames}
use Rattle.op_trees.specs.Meaning.{number, of_both}
use Rattle.op_trees.specs.Seen.{Seen, known, node, lazy_node, one_node, two_node, seen}
use Rattle.op_trees.specs.StandardLaws.{difference_nought}
use Rattle.op_trees.specs.Standard.{standard_meaning}
use Rattle.op_trees.specs.AlongLaws.{one_node_alike, two_node_alike, lazy_node_alike}
use Rattle.prism_tree.specs.declared.operator.PrismOp.{PrismOp}
use Rattle.prism_tree.specs.declared.operator.PrismOp.TheVariants as P
use Rattle.prism_tree.specs.Operators.{prism_meaning}
use Rattle.prism_tree.specs.Operators as PrismTable
use Rattle.prism_tree.specs.Syntax.{Expression}
use Rattle.jani_table.specs.declared.operator.JaniOp.{JaniOp}
use Rattle.jani_table.specs.declared.operator.JaniOp.TheVariants as J
use Rattle.jani_table.specs.Operators.{jani_meaning}
use Rattle.jani_table.specs.Operators as JaniTable
use Rattle.prism_images.specs.Image.{image, image_one, jani_op, nought_literal}
use Rattle.prism_images.specs.Laws.{HasItsOperands, AreNotNumbers, ComparesNoNumbers, ComparesTruths}

-- neither minus with one operand nor `<=>`: of the same meaning in both languages
abbrev pub IsPlain : PrismOp → Type 0
IsPlain P.Neg = ⊥
IsPlain P.Iff = ⊥
IsPlain o = Unit {0}

pub same_op : (o : PrismOp) → IsPlain o → JaniTable.standard (jani_op o) ≡ PrismTable.standard o
same_op P.Neg n = absurd n
same_op P.Iff n = absurd n
same_op o n = refl

-- ---- nodes
-- `<=>` compares truth values, and so does `=`
iff_alike : (v w : Option Value) → AreNotNumbers v w → of_both jani_meaning J.Equal v w ≡ of_both prism_meaning P.Iff v w
iff_alike None w n = refl
iff_alike (Some x) None n = refl
iff_alike (Some (V.Number x)) (Some (V.Number y)) n = absurd n
iff_alike (Some (V.Number x)) (Some (V.Truth q)) n = refl
iff_alike (Some (V.Truth p)) (Some (V.Number y)) n = refl
iff_alike (Some (V.Truth p)) (Some (V.Truth q)) n = refl

two_alike : (o : PrismOp) (a b : Seen) → PrismTable.arity o ≡ 2 → ComparesNoNumbers o a.value b.value →
    two_node jani_meaning (jani_op o) a b ≡ two_node prism_meaning o a b
two_alike P.Neg a b h n = absurd (omega arith)
two_alike P.Iff a b h n = ap (λ v. node v (a.wide || b.wide)) (iff_alike a.value b.value n)
two_alike o a b h n = two_node_alike JaniTable.standard PrismTable.standard standard_meaning (jani_op o) o (same_op o tt) a b

three_alike : (o : PrismOp) (a b c : Seen) → PrismTable.arity o ≡ 3 →
    lazy_node jani_meaning (jani_op o) a b c ≡ lazy_node prism_meaning o a b c
three_alike P.Ite a b c h = lazy_node_alike JaniTable.standard PrismTable.standard standard_meaning J.Ite P.Ite refl a b c
three_alike o a b c h = absurd (omega arith)

-- minus takes its operand from 0
minus_at : (v : Option Value) (w : Bool) → let a : Seen = record { value = v; wide = w } in
    two_node jani_meaning J.Sub (known (Some (V.Number nought))) a ≡ one_node prism_meaning P.Neg a
minus_at None w = refl
minus_at (Some (V.Truth p)) w = refl
minus_at (Some (V.Number x)) w = ap (λ y. node (Some (V.Number y)) w) (difference_nought x)

nought_is : number nought_literal ≡ V.Number nought
nought_is = ap V.Number (decimal_value-whole nought_literal refl)

minus_alike : (a : Seen) →
    two_node jani_meaning J.Sub (known (Some (number nought_literal))) a ≡ one_node prism_meaning P.Neg a
minus_alike a = ap (λ v. two_node jani_meaning J.Sub (known (Some v)) a) nought_is ∙ minus_at a.value a.wide

one_alike : (at : ℕ) (o : PrismOp) (a : Tree JaniOp) (env : List ℕ → Seen) → PrismTable.arity o ≡ 1 →
    seen jani_meaning (image_one at o a) env ≡ one_node prism_meaning o (seen jani_meaning a env)
one_alike at P.Neg a env h = minus_alike (seen jani_meaning a env)
one_alike at P.Iff a env h = absurd (omega arith)
one_alike at o a env h = one_node_alike JaniTable.standard PrismTable.standard standard_meaning (jani_op o) o (same_op o tt) (seen jani_meaning a env)

-- ---- expressions
module _ (new : List ℕ → List ℕ) (old env : List ℕ → Seen) where
  pub seen_alike : (e : Expression) → AllNames (λ x. env (new x) ≡ old x) e → HasItsOperands e →
      ComparesTruths old e → seen jani_meaning (image new e) env ≡ seen prism_meaning e old
  seen_alike (Truth at b) n h c = refl
  seen_alike (Number at d) n h c = refl
  seen_alike (Name at x) n h c = n
  seen_alike (One at o a) n h c =
      one_alike at o (image new a) env h.0 ∙ ap (one_node prism_meaning o) (seen_alike a n h.1 c)
  seen_alike (Two at o a b) n h c =
      ap₂ (two_node jani_meaning (jani_op o)) (seen_alike a n.0 h.1 c.0) (seen_alike b n.1 h.2 c.1)
      ∙ two_alike o (seen prism_meaning a old) (seen prism_meaning b old) h.0 c.2
  seen_alike (Three at o x a b) n h c =
      ap₂ {B = Seen →
      Seen} (λ r g. g r) (seen_alike x n.0 h.1 c.0) (ap₂ (λ s t r. lazy_node jani_meaning (jani_op o) r s t) (seen_alike a n.1 h.2 c.1) (seen_alike b n.2 h.3 c.2))
      ∙ three_alike o (seen prism_meaning x old) (seen prism_meaning a old) (seen prism_meaning b old) h.0
