-- An image has its expression's type.
use Rattle.std.specs.Prelude.{◌≡◌, ℕ, List, [], Option, Some, None, IsTrue, is_some}
use Rattle.std.proofs.Common.{refl, sym, subst, ap, ap₂, ◌∙◌}
use Rattle.op_trees.specs.declared.tree.Ty.{Ty}
use Rattle.op_trees.specs.declared.tree.Ty.TheVariants as T
use Rattle.op_trees.specs.Tree.{Tree, Truth, Number, Name, One, Two, Three, AllNames}
use Rattle.op_trees.specs.Types.{Types, misfits, sort_one, sort_two, sort_three, type_in}
use Rattle.op_trees.specs.TypeLaws.{misfits_none}
use Rattle.op_trees.specs.Standard.{standard_meaning, alike, both_bool, is_number, joined, with_type}
use Rattle.op_trees.specs.AlongLaws.{sort_one_alike, sort_two_alike, sort_three_alike}
use Rattle.prism_tree.specs.declared.operator.PrismOp.{PrismOp}
use Rattle.prism_tree.specs.declared.operator.PrismOp.TheVariants as P
use Rattle.prism_tree.specs.Operators.{prism_meaning}
use Rattle.prism_tree.specs.Operators as PrismTable
use Rattle.prism_tree.specs.Syntax.{Expression}
use Rattle.jani_table.specs.declared.operator.JaniOp.{JaniOp}
use Rattle.jani_table.specs.declared.operator.JaniOp.TheVariants as J
use Rattle.jani_table.specs.Operators.{jani_meaning}
use Rattle.jani_table.specs.Operators as JaniTable
use Rattle.prism_images.specs.Image.{image, image_one, jani_op}
use Rattle.prism_images.proofs.Values.{same_op}

-- ---- `<=>` takes two truth values, and so does `=`; 0 is an int
iff_alike : (a b t : Ty) → both_bool a b ≡ Some t → with_type T.Bool (alike a b) ≡ Some t
iff_alike T.Bool T.Bool t h = h
iff_alike a b t h = cc

minus_alike : (a t : Ty) → is_number a ≡ Some t → joined T.Int a ≡ Some t
minus_alike T.Bool t h = cc
minus_alike T.Int t h = h
minus_alike T.Real t h = h

both_alike : (o : PrismOp) (a b t : Ty) → sort_two prism_meaning o (Some a) (Some b) ≡ Some t →
    sort_two jani_meaning (jani_op o) (Some a) (Some b) ≡ Some t
both_alike P.Neg a b t h = cc
both_alike P.Iff a b t h = iff_alike a b t h
both_alike o a b t h = sort_two_alike JaniTable.standard PrismTable.standard standard_meaning (jani_op o) o (same_op o tt) (Some a) (Some b) ∙ h

all_alike : (o : PrismOp) (a b c t : Ty) → sort_three prism_meaning o (Some a) (Some b) (Some c) ≡ Some t →
    sort_three jani_meaning (jani_op o) (Some a) (Some b) (Some c) ≡ Some t
all_alike P.Neg a b c t h = cc
all_alike P.Iff a b c t h = cc
all_alike o a b c t h = sort_three_alike JaniTable.standard PrismTable.standard standard_meaning (jani_op o) o (same_op o tt) (Some a) (Some b) (Some c) ∙ h

-- ---- nodes: the types of operands are those of the expression, where it has any
one_typed : (at : ℕ) (o : PrismOp) (a : Tree JaniOp) (types : Types) (given : Option Ty) (t : Ty) →
    ((u : Ty) → given ≡ Some u → type_in jani_meaning types a ≡ Some u) → sort_one prism_meaning o given ≡ Some t →
    type_in jani_meaning types (image_one at o a) ≡ Some t
one_typed at o a types None t ih h = cc
one_typed at P.Neg a types (Some u) t ih h =
    ap (sort_two jani_meaning J.Sub (Some T.Int)) (ih u refl) ∙ minus_alike u t h
one_typed at P.Iff a types (Some u) t ih h = cc
one_typed at o a types (Some u) t ih h =
    ap (sort_one jani_meaning (jani_op o)) (ih u refl) ∙ sort_one_alike JaniTable.standard PrismTable.standard standard_meaning (jani_op o) o (same_op o tt) (Some u) ∙ h

two_typed : (o : PrismOp) (x y given other : Option Ty) (t : Ty) →
    ((u : Ty) → given ≡ Some u → x ≡ Some u) → ((u : Ty) → other ≡ Some u → y ≡ Some u) →
    sort_two prism_meaning o given other ≡ Some t → sort_two jani_meaning (jani_op o) x y ≡ Some t
two_typed o x y None b t ih jh h = cc
two_typed o x y (Some a) None t ih jh h = cc
two_typed o x y (Some a) (Some b) t ih jh h =
    ap₂ (sort_two jani_meaning (jani_op o)) (ih a refl) (jh b refl) ∙ both_alike o a b t h

three_typed : (o : PrismOp) (x y z first second third : Option Ty) (t : Ty) →
    ((u : Ty) → first ≡ Some u → x ≡ Some u) → ((u : Ty) → second ≡ Some u → y ≡ Some u) →
    ((u : Ty) → third ≡ Some u → z ≡ Some u) → sort_three prism_meaning o first second third ≡ Some t →
    sort_three jani_meaning (jani_op o) x y z ≡ Some t
three_typed o x y z None b c t ih jh kh h = cc
three_typed o x y z (Some a) None c t ih jh kh h = cc
three_typed o x y z (Some a) (Some b) None t ih jh kh h = cc
three_typed o x y z (Some a) (Some b) (Some c) t ih jh kh h =
    ap₂ {B = Option Ty →
    Option Ty} (λ r g. g r) (ih a refl) (ap₂ (λ s t r. sort_three jani_meaning (jani_op o) r s t) (jh b refl) (kh c refl))
    ∙ all_alike o a b c t h

-- ---- expressions
module _ (new : List ℕ → List ℕ) (old types : Types) where
  pub typed_alike : (e : Expression) (t : Ty) → AllNames (λ x. types (new x) ≡ old x) e →
      type_in prism_meaning old e ≡ Some t → type_in jani_meaning types (image new e) ≡ Some t
  typed_alike (Truth at b) t n h = h
  typed_alike (Number at d) t n h = h
  typed_alike (Name at x) t n h = n ∙ h
  typed_alike (One at o a) t n h =
      one_typed at o (image new a) types (type_in prism_meaning old a) t (λ u. typed_alike a u n) h
  typed_alike (Two at o a b) t n h =
      two_typed o _ _ (type_in prism_meaning old a) (type_in prism_meaning old b) t
      (λ u. typed_alike a u n.0) (λ u. typed_alike b u n.1) h
  typed_alike (Three at o a b c) t n h =
      three_typed o _ _ _ (type_in prism_meaning old a) (type_in prism_meaning old b) (type_in prism_meaning old c) t
      (λ u. typed_alike a u n.0) (λ u. typed_alike b u n.1) (λ u. typed_alike c u n.2) h

  is_some_of : (a b : Option Ty) → ((t : Ty) → a ≡ Some t → b ≡ Some t) → IsTrue (is_some a) → IsTrue (is_some b)
  is_some_of None b h k = cc
  is_some_of (Some t) b h k = subst (λ o. IsTrue (is_some o)) (sym (h t refl)) refl

  pub fitting : (e : Expression) → AllNames (λ x. types (new x) ≡ old x) e → misfits prism_meaning old e ≡ [] →
      misfits jani_meaning types (image new e) ≡ []
  fitting e n h =
      (misfits_none jani_meaning types (image new e)).1
      (is_some_of (type_in prism_meaning old e) (type_in jani_meaning types (image new e)) (λ t. typed_alike e t n)
      ((misfits_none prism_meaning old e).0 h))
