-- The form of an image, and its names.
use Rattle.std.specs.Prelude.{◌≡◌, ℕ, List, ◌++◌, map}
use Rattle.std.proofs.Common.{refl, sym, ap, ap₂, ◌∙◌, arith}
use Rattle.std.proofs.lemmas.List.{map-append}
use Rattle.bridge_io.specs.declared.reason.Named.{Named}
use Rattle.op_trees.specs.Tree.{Tree, Truth, Number, Name, One, Two, Three, AllNames, AllNumbers}
use Rattle.op_trees.specs.Names.{names_of}
use Rattle.op_trees.specs.Standard.{standard_meaning}
use Rattle.prism_tree.specs.declared.operator.PrismOp.{PrismOp}
use Rattle.prism_tree.specs.declared.operator.PrismOp.TheVariants as P
use Rattle.prism_tree.specs.Operators as PrismTable
use Rattle.prism_tree.specs.Syntax.{Expression}
use Rattle.jani_table.specs.declared.operator.JaniOp.{JaniOp}
use Rattle.jani_table.specs.Operators as JaniTable
use Rattle.jani_tree.specs.Canonical.{HasOperands}
use Rattle.basics.specs.Lists.{IsNotEmpty as HasItems}
use Rattle.jani_tree.specs.Form.{ExprForm, IsNormal}
use Rattle.prism_images.specs.Image.{image, image_one, jani_op}
use Rattle.frac_core.specs.Decimal.{IsLiteral}
use Rattle.prism_images.specs.Laws.{HasItsOperands, names_in}
use Rattle.prism_images.proofs.Values.{IsPlain, same_op}

arity_alike : (o : PrismOp) → IsPlain o → JaniTable.arity (jani_op o) ≡ PrismTable.arity o
arity_alike o n = ap standard_meaning.arity (same_op o n)

two_operands : (o : PrismOp) → PrismTable.arity o ≡ 2 → JaniTable.arity (jani_op o) ≡ 2
two_operands P.Neg h = refl
two_operands P.Iff h = refl
two_operands o h = arity_alike o tt ∙ h

three_operands : (o : PrismOp) → PrismTable.arity o ≡ 3 → JaniTable.arity (jani_op o) ≡ 3
three_operands P.Ite h = refl
three_operands o h = absurd (omega arith)

-- ---- operands
one_operand : (at : ℕ) (o : PrismOp) (a : Tree JaniOp) → PrismTable.arity o ≡ 1 → HasOperands a →
    HasOperands (image_one at o a)
one_operand at P.Neg a h k = (refl, tt, k)
one_operand at P.Iff a h k = absurd (omega arith)
one_operand at o a h k = (arity_alike o tt ∙ h, k)

pub operands_kept : (new : List ℕ → List ℕ) (e : Expression) → HasItsOperands e → HasOperands (image new e)
operands_kept new (Truth at b) h = tt
operands_kept new (Number at d) h = tt
operands_kept new (Name at x) h = tt
operands_kept new (One at o a) h = one_operand at o (image new a) h.0 (operands_kept new a h.1)
operands_kept new (Two at o a b) h = (two_operands o h.0, operands_kept new a h.1, operands_kept new b h.2)
operands_kept new (Three at o a b c) h =
    (three_operands o h.0, operands_kept new a h.1, operands_kept new b h.2, operands_kept new c h.3)

-- ---- literals
one_literal : (at : ℕ) (o : PrismOp) (a : Tree JaniOp) → AllNumbers IsLiteral a → AllNumbers IsLiteral (image_one at o a)
one_literal at P.Neg a h = ((refl, refl), h)
one_literal at o a h = h

pub literals_kept : (new : List ℕ → List ℕ) (e : Expression) → AllNumbers IsLiteral e →
    AllNumbers IsLiteral (image new e)
literals_kept new (Truth at b) h = tt
literals_kept new (Number at d) h = h
literals_kept new (Name at x) h = tt
literals_kept new (One at o a) h = one_literal at o (image new a) (literals_kept new a h)
literals_kept new (Two at o a b) h = (literals_kept new a h.0, literals_kept new b h.1)
literals_kept new (Three at o a b c) h = (literals_kept new a h.0, literals_kept new b h.1, literals_kept new c h.2)

-- ---- the form of trees that are read
one_form : (at : ℕ) (o : PrismOp) (a : Tree JaniOp) → PrismTable.arity o ≡ 1 → ExprForm HasItems a → ExprForm HasItems (image_one at o a)
one_form at P.Neg a h k = (refl, refl, k)
one_form at P.Iff a h k = absurd (omega arith)
one_form at o a h k = (arity_alike o tt ∙ h, k)

pub form_kept : (new : List ℕ → List ℕ) (e : Expression) → HasItsOperands e → AllNumbers IsNormal e →
    AllNames (λ x. HasItems (new x)) e → ExprForm HasItems (image new e)
form_kept new (Truth at b) h d n = tt
form_kept new (Number at d) h k n = k
form_kept new (Name at x) h d n = n
form_kept new (One at o a) h d n = one_form at o (image new a) h.0 (form_kept new a h.1 d n)
form_kept new (Two at o a b) h d n =
    (two_operands o h.0, form_kept new a h.1 d.0 n.0, form_kept new b h.2 d.1 n.1)
form_kept new (Three at o a b c) h d n =
    (three_operands o h.0, form_kept new a h.1 d.0 n.0, form_kept new b h.2 d.1 n.1, form_kept new c h.3 d.2 n.2)

-- ---- names
parted : (xs ys : List Named) → map (λ n. n.name) (xs ++ ys) ≡ map (λ n. n.name) xs ++ map (λ n. n.name) ys
parted xs ys = map-append (λ n. n.name) xs ys

pub one_names : (at : ℕ) (o : PrismOp) (a : Tree JaniOp) → names_of (image_one at o a) ≡ names_of a
one_names at P.Neg a = refl
one_names at o a = refl

pub names_kept : (new : List ℕ → List ℕ) (e : Expression) → names_in (image new e) ≡ map new (names_in e)
names_kept new (Truth at b) = refl
names_kept new (Number at d) = refl
names_kept new (Name at x) = refl
names_kept new (One at o a) = ap (map (λ (n : Named). n.name)) (one_names at o (image new a)) ∙ names_kept new a
names_kept new (Two at o a b) =
    parted (names_of (image new a)) (names_of (image new b)) ∙ ap₂ (λ xs ys. xs ++ ys) (names_kept new a) (names_kept new b)
    ∙ sym (map-append new (names_in a) (names_in b)) ∙ ap (map new) (sym (parted (names_of a) (names_of b)))
names_kept new (Three at o a b c) =
    parted (names_of (image new a)) (names_of (image new b) ++ names_of (image new c))
    ∙ ap₂ (λ xs ys. xs ++ ys) (names_kept new a)
    (parted (names_of (image new b)) (names_of (image new c)) ∙ ap₂ (λ xs ys. xs ++ ys) (names_kept new b) (names_kept new c)
    ∙ sym (map-append new (names_in b) (names_in c)))
    ∙ sym (map-append new (names_in a) (names_in b ++ names_in c))
    ∙ ap (map new) (ap (λ ys. names_in a ++ ys) (sym (parted (names_of b) (names_of c))) ∙ sym (parted (names_of a) (names_of b ++ names_of c)))
