-- The laws of images, each as one statement.
use Rattle.std.specs.Prelude.{◌≡◌, List, [], ◌∷◌, ◌++◌, ℕ, map, Option, Some, None, IsTrue, is_some}
use Rattle.frac_core.specs.Decimal.{IsLiteral}
use Rattle.op_trees.specs.declared.tree.Ty.{Ty}
use Rattle.op_trees.specs.declared.tree.Ty.TheVariants as T
use Rattle.op_trees.specs.declared.tree.Value.{Value}
use Rattle.op_trees.specs.declared.tree.Value.TheVariants as V
use Rattle.op_trees.specs.Tree.{Tree, Truth, Number, Name, One, Two, Three, AllNames, AllNumbers}
use Rattle.op_trees.specs.Names as Walks
use Rattle.op_trees.specs.Names.{names_of}
use Rattle.op_trees.specs.Types.{AgreesWith, Types, misfits, type_in}
use Rattle.op_trees.specs.Seen.{Seen, seen}
use Rattle.prism_tree.specs.declared.operator.PrismOp.{PrismOp}
use Rattle.prism_tree.specs.declared.operator.PrismOp.TheVariants as P
use Rattle.prism_tree.specs.Operators.{prism_meaning, arity}
use Rattle.prism_tree.specs.Syntax.{Expression}
use Rattle.jani_table.specs.Operators.{jani_meaning}
use Rattle.jani_tree.specs.Canonical.{HasOperands}
use Rattle.basics.specs.Lists.{IsNotEmpty as HasItems}
use Rattle.jani_tree.specs.Form.{ExprForm, IsNormal}
use Rattle.prism_images.specs.Image.{image}

-- ---- what is asked of an expression

-- each node has as many operands as its operator
abbrev pub HasItsOperands : Expression → Type 0
HasItsOperands e = Walks.HasOperands arity e

-- the value, if there is one, is no number
abbrev pub IsNoNumber : Option Value → Type 0
IsNoNumber None = Unit {0}
IsNoNumber (Some (V.Truth b)) = Unit {0}
IsNoNumber (Some (V.Number q)) = ⊥

-- not both are numbers
abbrev pub AreNotNumbers : Option Value → Option Value → Type 0
AreNotNumbers (Some (V.Number x)) b = IsNoNumber b
AreNotNumbers (Some (V.Truth _)) b = Unit {0}
AreNotNumbers None b = Unit {0}

-- `<=>` has no value over two numbers, which `=` compares
abbrev pub ComparesNoNumbers : PrismOp → Option Value → Option Value → Type 0
ComparesNoNumbers P.Iff a b = AreNotNumbers a b
ComparesNoNumbers o a b = Unit {0}

-- no `<=>` of an expression stands between two numbers, where names are seen so
abbrev pub ComparesTruths : (List ℕ → Seen) → Expression → Type 0
ComparesTruths old (Truth at b) = Unit {0}
ComparesTruths old (Number at d) = Unit {0}
ComparesTruths old (Name at x) = Unit {0}
ComparesTruths old (One at o a) = ComparesTruths old a
ComparesTruths old (Two at o a b) =
    ComparesTruths old a × ComparesTruths old b
    × ComparesNoNumbers o (seen prism_meaning a old).value (seen prism_meaning b old).value
ComparesTruths old (Three at o a b c) = ComparesTruths old a × ComparesTruths old b × ComparesTruths old c

-- a name of the type bool has no number for its value
abbrev pub IsNoNumberOf : Option Ty → Option Value → Type 0
IsNoNumberOf (Some T.Bool) v = IsNoNumber v
IsNoNumberOf (Some T.Int) v = Unit {0}
IsNoNumberOf (Some T.Real) v = Unit {0}
IsNoNumberOf None v = Unit {0}

-- ---- values

-- where each new name is seen as its old name, the image is seen as the expression: it has the same value, and is wide or
-- not alike
abbrev pub ImageSeenAlike : Type 0
ImageSeenAlike = (new : List ℕ → List ℕ) (e : Expression) (old env : List ℕ → Seen) →
    AllNames (λ x. env (new x) ≡ old x) e → HasItsOperands e → ComparesTruths old e →
    seen jani_meaning (image new e) env ≡ seen prism_meaning e old

-- an expression that has a type meets this, where no name of the type bool has a number for its value
abbrev pub TypedImageSeenAlike : Type 0
TypedImageSeenAlike = (new : List ℕ → List ℕ) (e : Expression) (types : Types) (old env : List ℕ → Seen) →
    AllNames (λ x. env (new x) ≡ old x) e → AllNames (λ x. IsNoNumberOf (types x) (old x).value) e →
    IsTrue (is_some (type_in prism_meaning types e)) →
    seen jani_meaning (image new e) env ≡ seen prism_meaning e old

-- a name with a value of its type meets this
abbrev pub AgreeingIsNoNumber : Type 0
AgreeingIsNoNumber = (t : Option Ty) (v : Option Value) → AgreesWith t v → IsNoNumberOf t v

-- ---- types

-- where each new name has its old name's type, the image of an expression that has a type has the same type
abbrev pub ImageTypedAlike : Type 0
ImageTypedAlike = (new : List ℕ → List ℕ) (e : Expression) (old types : Types) (t : Ty) →
    AllNames (λ x. types (new x) ≡ old x) e → type_in prism_meaning old e ≡ Some t →
    type_in jani_meaning types (image new e) ≡ Some t

-- and where nothing misfits in the expression, nothing does in the image
abbrev pub ImageFits : Type 0
ImageFits = (new : List ℕ → List ℕ) (e : Expression) (old types : Types) →
    AllNames (λ x. types (new x) ≡ old x) e → misfits prism_meaning old e ≡ [] →
    misfits jani_meaning types (image new e) ≡ []

-- ---- form

-- each node of the image has as many operands as its operator
abbrev pub ImageHasOperands : Type 0
ImageHasOperands = (new : List ℕ → List ℕ) (e : Expression) → HasItsOperands e → HasOperands (image new e)

-- literals in normal form that are not negative stay such
abbrev pub ImageHasLiterals : Type 0
ImageHasLiterals =
    (new : List ℕ → List ℕ) (e : Expression) → AllNumbers IsLiteral e → AllNumbers IsLiteral (image new e)

-- so the image has the form of an expression that is read from a JANI file, where its names have
abbrev pub ImageHasForm : Type 0
ImageHasForm = (new : List ℕ → List ℕ) (e : Expression) →
    HasItsOperands e → AllNumbers IsNormal e → AllNames (λ x. HasItems (new x)) e → ExprForm HasItems (image new e)

-- ---- names

-- the names of an expression, in order, each as often as it stands there
abbrev pub names_in : {O : Type 0} → Tree O → List (List ℕ)
names_in e = map (λ n. n.name) (names_of e)

-- the names of the image are the new names of the expression's names
abbrev pub ImageHasNewNames : Type 0
ImageHasNewNames = (new : List ℕ → List ℕ) (e : Expression) → names_in (image new e) ≡ map new (names_in e)
