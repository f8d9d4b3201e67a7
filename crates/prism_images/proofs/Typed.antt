-- An expression that has a type has its operands, and no `<=>` of it stands between two numbers.
use Rattle.std.specs.Prelude.{◌≡◌, ℕ, List, Bool, true, false, Option, Some, None, IsTrue, is_some, if◌then◌else◌}
use Rattle.std.proofs.Common.{refl, ap}
use Rattle.frac_core.specs.Fraction.{Fraction}
use Rattle.op_trees.specs.declared.tree.Ty.{Ty}
use Rattle.op_trees.specs.declared.tree.Ty.TheVariants as T
use Rattle.op_trees.specs.declared.tree.Value.{Value}
use Rattle.op_trees.specs.declared.tree.Value.TheVariants as V
use Rattle.op_trees.specs.Tree.{Truth, Number, Name, One, Two, Three, AllNames}
use Rattle.op_trees.specs.Types.{AgreesWith, Types, sort_one, sort_two, sort_three, type_in}
use Rattle.op_trees.specs.Standard as Table
use Rattle.op_trees.specs.TypeLaws.{some_one, some_two, some_three, typed_operands}
use Rattle.op_trees.specs.Meaning.{of_both, of_lazy}
use Rattle.op_trees.specs.Seen.{Seen, lazy_node, one_node, two_node, seen}
use Rattle.prism_tree.specs.declared.operator.PrismOp.{PrismOp}
use Rattle.prism_tree.specs.declared.operator.PrismOp.TheVariants as P
use Rattle.prism_tree.specs.Operators.{prism_meaning, standard}
use Rattle.prism_tree.specs.OperatorLaws.{prism_lawful}
use Rattle.prism_tree.specs.Syntax.{Expression}
use Rattle.jani_table.specs.Operators.{jani_meaning}
use Rattle.prism_images.specs.Image.{image}
use Rattle.prism_images.specs.Laws.{IsNoNumber, IsNoNumberOf, AreNotNumbers, ComparesNoNumbers, ComparesTruths}
use Rattle.prism_images.proofs.Values.{seen_alike}

-- ---- types that are not bool
number_no_bool : (a : Ty) → Table.is_number a ≡ Some T.Bool → ⊥
number_no_bool T.Bool h = cc
number_no_bool T.Int h = cc
number_no_bool T.Real h = cc

joined_no_bool : (a b : Ty) → Table.joined a b ≡ Some T.Bool → ⊥
joined_no_bool T.Bool b h = cc
joined_no_bool T.Int T.Int h = cc
joined_no_bool T.Int T.Real h = cc
joined_no_bool T.Real T.Int h = cc
joined_no_bool T.Real T.Real h = cc
joined_no_bool a T.Bool h = cc

with_no_bool : (o : Option Ty) (t : Ty) → (t ≡ T.Bool → ⊥) → Table.with_type t o ≡ Some T.Bool → ⊥
with_no_bool None t n h = cc
with_no_bool (Some a) t n h = n (let e : t ≡ T.Bool = cc in e)

both_are_bool : (a b t : Ty) → Table.both_bool a b ≡ Some t → (a ≡ T.Bool) × (b ≡ T.Bool)
both_are_bool T.Bool T.Bool t h = (refl, refl)
both_are_bool a b t h = cc

ints_no_bool : (a b : Ty) → Table.both_int a b ≡ Some T.Bool → ⊥
ints_no_bool T.Int T.Int h = cc
ints_no_bool a b h = cc

alike_bools : (a b : Ty) → Table.alike a b ≡ Some T.Bool → (a ≡ T.Bool) × (b ≡ T.Bool)
alike_bools T.Bool T.Bool h = (refl, refl)
alike_bools a b h = absurd (joined_no_bool a b h)

-- ---- a node of the type bool has no number for its value, where its operands of the type bool have none
one_bool : (o : PrismOp) (a : Ty) (v : Option Value) (w : Bool) → Table.sort_one (standard o) a ≡ Some T.Bool →
    IsNoNumber (one_node prism_meaning o (record { value = v; wide = w })).value
one_bool P.Neg a v w h = absurd (number_no_bool a h)
one_bool P.Floor a v w h = absurd (with_no_bool (Table.is_number a) T.Int (λ e. cc) h)
one_bool P.Ceil a v w h = absurd (with_no_bool (Table.is_number a) T.Int (λ e. cc) h)
one_bool P.Not a None w h = tt
one_bool P.Not a (Some (V.Truth p)) w h = tt
one_bool P.Not a (Some (V.Number q)) w h = tt
one_bool o a v w h = cc

strict_truths : (o : PrismOp) → ((x y : Fraction) → IsNoNumber (Table.of_numbers (standard o) x y)) →
    ((p q : Bool) → IsNoNumber (Table.of_truths (standard o) p q)) → (v w : Option Value) →
    IsNoNumber (of_both prism_meaning o v w)
strict_truths o h k None w = tt
strict_truths o h k (Some x) None = tt
strict_truths o h k (Some (V.Number x)) (Some (V.Number y)) = h x y
strict_truths o h k (Some (V.Truth p)) (Some (V.Truth q)) = k p q
strict_truths o h k (Some (V.Number x)) (Some (V.Truth q)) = tt
strict_truths o h k (Some (V.Truth p)) (Some (V.Number y)) = tt

-- what a lazy operator over bools settles is a truth value, and what it asks for is no number
and_truths : (v w : Option Value) → IsNoNumber w → IsNoNumber (of_lazy prism_meaning P.And v w None)
and_truths None w h = tt
and_truths (Some (V.Truth true)) w h = h
and_truths (Some (V.Truth false)) w h = tt
and_truths (Some (V.Number q)) w h = h

or_truths : (v w : Option Value) → IsNoNumber w → IsNoNumber (of_lazy prism_meaning P.Or v w None)
or_truths None w h = tt
or_truths (Some (V.Truth true)) w h = tt
or_truths (Some (V.Truth false)) w h = h
or_truths (Some (V.Number q)) w h = h

implies_truths : (v w : Option Value) → IsNoNumber w → IsNoNumber (of_lazy prism_meaning P.Implies v w None)
implies_truths None w h = tt
implies_truths (Some (V.Truth true)) w h = h
implies_truths (Some (V.Truth false)) w h = tt
implies_truths (Some (V.Number q)) w h = h

choice_truths : (v w u : Option Value) → IsNoNumber w → IsNoNumber u → IsNoNumber (of_lazy prism_meaning P.Ite v w u)
choice_truths None w u h k = tt
choice_truths (Some (V.Truth true)) w u h k = h
choice_truths (Some (V.Truth false)) w u h k = k
choice_truths (Some (V.Number q)) w u h k = k

two_bool : (o : PrismOp) (a b : Ty) (v w : Seen) → Table.sort_two (standard o) a b ≡ Some T.Bool →
    (b ≡ T.Bool → IsNoNumber w.value) → IsNoNumber (two_node prism_meaning o v w).value
two_bool P.Mul a b v w h k = absurd (joined_no_bool a b h)
two_bool P.Add a b v w h k = absurd (joined_no_bool a b h)
two_bool P.Sub a b v w h k = absurd (joined_no_bool a b h)
two_bool P.Min a b v w h k = absurd (joined_no_bool a b h)
two_bool P.Max a b v w h k = absurd (joined_no_bool a b h)
two_bool P.Div a b v w h k = absurd (with_no_bool (Table.joined a b) T.Real (λ e. cc) h)
two_bool P.Less a b v w h k = strict_truths P.Less (λ x y. tt) (λ p q. tt) v.value w.value
two_bool P.AtMost a b v w h k = strict_truths P.AtMost (λ x y. tt) (λ p q. tt) v.value w.value
two_bool P.AtLeast a b v w h k = strict_truths P.AtLeast (λ x y. tt) (λ p q. tt) v.value w.value
two_bool P.Greater a b v w h k = strict_truths P.Greater (λ x y. tt) (λ p q. tt) v.value w.value
two_bool P.Equal a b v w h k = strict_truths P.Equal (λ x y. tt) (λ p q. tt) v.value w.value
two_bool P.Unequal a b v w h k = strict_truths P.Unequal (λ x y. tt) (λ p q. tt) v.value w.value
two_bool P.Iff a b v w h k = strict_truths P.Iff (λ x y. tt) (λ p q. tt) v.value w.value
two_bool P.And a b v w h k = and_truths v.value w.value (k (both_are_bool a b T.Bool h).1)
two_bool P.Or a b v w h k = or_truths v.value w.value (k (both_are_bool a b T.Bool h).1)
two_bool P.Implies a b v w h k = implies_truths v.value w.value (k (both_are_bool a b T.Bool h).1)
two_bool P.Mod a b v w h k = absurd (ints_no_bool a b h)
two_bool o a b v w h k = cc

three_bool : (o : PrismOp) (a b c : Ty) (u v w : Seen) → Table.sort_three (standard o) a b c ≡ Some T.Bool →
    (b ≡ T.Bool → IsNoNumber v.value) → (c ≡ T.Bool → IsNoNumber w.value) →
    IsNoNumber (lazy_node prism_meaning o u v w).value
three_bool P.Ite T.Bool b c u v w h k l =
    let bools = alike_bools b c h in
    choice_truths u.value v.value w.value (k bools.0) (l bools.1)
three_bool P.Ite T.Int b c u v w h k l = cc
three_bool P.Ite T.Real b c u v w h k l = cc
three_bool o a b c u v w h k l = cc

-- the same over operands that may have no type
one_no_number : (o : PrismOp) (a : Option Ty) (v : Seen) → sort_one prism_meaning o a ≡ Some T.Bool →
    IsNoNumber (one_node prism_meaning o v).value
one_no_number o None v h = cc
one_no_number o (Some a) v h = one_bool o a v.value v.wide h

two_no_number : (o : PrismOp) (a b : Option Ty) (v w : Seen) → sort_two prism_meaning o a b ≡ Some T.Bool →
    (b ≡ Some T.Bool → IsNoNumber w.value) → IsNoNumber (two_node prism_meaning o v w).value
two_no_number o None b v w h k = cc
two_no_number o (Some a) None v w h k = cc
two_no_number o (Some a) (Some b) v w h k = two_bool o a b v w h (λ e. k (ap Some e))

three_no_number : (o : PrismOp) (a b c : Option Ty) (u v w : Seen) → sort_three prism_meaning o a b c ≡ Some T.Bool →
    (b ≡ Some T.Bool → IsNoNumber v.value) → (c ≡ Some T.Bool → IsNoNumber w.value) →
    IsNoNumber (lazy_node prism_meaning o u v w).value
three_no_number o None b c u v w h k l = cc
three_no_number o (Some a) None c u v w h k l = cc
three_no_number o (Some a) (Some b) None u v w h k l = cc
three_no_number o (Some a) (Some b) (Some c) u v w h k l =
    three_bool o a b c u v w h (λ e. k (ap Some e)) (λ e. l (ap Some e))

name_no_number : (t : Option Ty) (v : Option Value) → IsNoNumberOf t v → t ≡ Some T.Bool → IsNoNumber v
name_no_number None v h e = cc
name_no_number (Some T.Bool) v h e = h
name_no_number (Some T.Int) v h e = cc
name_no_number (Some T.Real) v h e = cc

literal_no_bool : (real : Bool) → ◌≡◌ {A = Option Ty} (Some (if real then T.Real else T.Int)) (Some T.Bool) → ⊥
literal_no_bool true e = cc
literal_no_bool false e = cc

-- the operands of `<=>` are bools
iff_first : (a b : Option Ty) → IsTrue (is_some (sort_two prism_meaning P.Iff a b)) → a ≡ Some T.Bool
iff_first None b h = cc
iff_first (Some a) None h = cc
iff_first (Some T.Bool) (Some b) h = refl
iff_first (Some T.Int) (Some b) h = cc
iff_first (Some T.Real) (Some b) h = cc

not_numbers : (v w : Option Value) → IsNoNumber v → AreNotNumbers v w
not_numbers None w h = tt
not_numbers (Some (V.Truth p)) w h = tt
not_numbers (Some (V.Number q)) w h = absurd h

compares_none : (o : PrismOp) (a b : Option Ty) (v w : Option Value) →
    IsTrue (is_some (sort_two prism_meaning o a b)) → (a ≡ Some T.Bool → IsNoNumber v) → ComparesNoNumbers o v w
compares_none P.Iff a b v w h k = not_numbers v w (k (iff_first a b h))
compares_none o a b v w h k = tt

-- ---- expressions
module _ (types : Types) (old : List ℕ → Seen) where
  no_number : (e : Expression) → AllNames (λ x. IsNoNumberOf (types x) (old x).value) e →
      type_in prism_meaning types e ≡ Some T.Bool → IsNoNumber (seen prism_meaning e old).value
  no_number (Truth at b) n h = tt
  no_number (Number at d) n h = absurd (literal_no_bool d.real h)
  no_number (Name at x) n h = name_no_number (types x) (old x).value n h
  no_number (One at o a) n h = one_no_number o (type_in prism_meaning types a) (seen prism_meaning a old) h
  no_number (Two at o a b) n h =
      two_no_number o (type_in prism_meaning types a) (type_in prism_meaning types b) (seen prism_meaning a old) (seen prism_meaning b old) h
      (no_number b n.1)
  no_number (Three at o a b c) n h =
      three_no_number o (type_in prism_meaning types a) (type_in prism_meaning types b) (type_in prism_meaning types c)
      (seen prism_meaning a old) (seen prism_meaning b old) (seen prism_meaning c old) h (no_number b n.1) (no_number c n.2)

  pub compares_truths : (e : Expression) → AllNames (λ x. IsNoNumberOf (types x) (old x).value) e →
      IsTrue (is_some (type_in prism_meaning types e)) → ComparesTruths old e
  compares_truths (Truth at b) n h = tt
  compares_truths (Number at d) n h = tt
  compares_truths (Name at x) n h = tt
  compares_truths (One at o a) n h = compares_truths a n (some_one prism_meaning o _ h)
  compares_truths (Two at o a b) n h =
      let some = some_two prism_meaning o (type_in prism_meaning types a) (type_in prism_meaning types b) h in (
        compares_truths a n.0 some.0,
        compares_truths b n.1 some.1,
        compares_none o (type_in prism_meaning types a) (type_in prism_meaning types b) _ _ h (no_number a n.0),
      )
  compares_truths (Three at o a b c) n h =
      let some = some_three prism_meaning o (type_in prism_meaning types a) (type_in prism_meaning types b) (type_in prism_meaning types c) h in
      (compares_truths a n.0 some.0, compares_truths b n.1 some.1, compares_truths c n.2 some.2)

-- ---- so the image of an expression that has a type is seen as it
pub typed_seen_alike : (new : List ℕ → List ℕ) (e : Expression) (types : Types) (old env : List ℕ → Seen) →
    AllNames (λ x. env (new x) ≡ old x) e → AllNames (λ x. IsNoNumberOf (types x) (old x).value) e →
    IsTrue (is_some (type_in prism_meaning types e)) → seen jani_meaning (image new e) env ≡ seen prism_meaning e old
typed_seen_alike new e types old env n k h =
    seen_alike new old env e n (typed_operands prism_meaning prism_lawful types e h) (compares_truths types old e k h)

-- a value of the type bool is no number
pub agreeing : (t : Option Ty) (v : Option Value) → AgreesWith t v → IsNoNumberOf t v
agreeing (Some T.Bool) None h = tt
agreeing (Some T.Bool) (Some (V.Truth p)) h = tt
agreeing (Some T.Bool) (Some (V.Number q)) h = absurd (let no = h.agrees T.Bool (V.Number q) refl refl in cc)
agreeing t v h = tt
