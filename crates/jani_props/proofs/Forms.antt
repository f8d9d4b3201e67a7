-- The form of what a value spells whose literals are in normal form.
use Rattle.std.proofs.Common.{◌≡◌, ℕ, refl, ap, subst, ◌∙◌, List, ◌++◌, Option, Some, None, inl, inr}
use Rattle.std.specs.Prelude.{bytes_eq, codes, IsSomeAnd}
use Rattle.std.specs.List.{AllByRecursion as Each}
use Rattle.basics.specs.Options.{if_then_some}
use Rattle.op_trees.specs.Tree.{Truth, Number, Name as At, One, Two, Three}
use Rattle.jani_table.specs.declared.table.Kind.{Kind}
use Rattle.jani_table.specs.declared.table.Kind.TheVariants as O
use Rattle.jani_table.specs.declared.operator.JaniOp.{JaniOp}
use Rattle.jani_table.specs.declared.operator.JaniOp.TheVariants.{Ite, Not, Floor, Ceil}
use Rattle.jani_table.specs.Node.{Node, null, truth, number, text, array, object, Fields, no_fields, field}
use Rattle.jani_table.specs.Operators.{arity}
use Rattle.jani_table.specs.Faults.{member_text, op_kind}
use Rattle.jani_tree.specs.Syntax.{Expression}
use Rattle.jani_tree.specs.Form.{NormalNode, NormalFields}
use Rattle.bridge_io.specs.declared.reason.Named.{Named}
use Rattle.prop_grammar.specs.Property.{Ask, greatest, least, bounded, greatest_reward, least_reward, Path, finally, globally, until, weak_until, finally_within, until_within}
use Rattle.prop_trees.specs.Trees.{Role, ask_with, ask_parts, path_parts}
use Rattle.prop_trees.specs.Form.{HasForm}
use Rattle.prop_trees.specs.JaniText.{part, Is, IsExpression, IsPath, IsReached}
use Rattle.jani_props.specs.Spelled.{IsAsked}

-- ---- operators have their operands

-- how many operands an operator of this kind takes
abbrev taken : Kind → ℕ
taken O.Unary = 1
taken O.Binary = 2
taken k = 3

taken_is : (o : JaniOp) → arity o ≡ taken (op_kind o)
taken_is Not = refl
taken_is Floor = refl
taken_is Ceil = refl
taken_is Ite = refl
taken_is o = refl

takes : (o : JaniOp) (k : Kind) → op_kind o ≡ k → arity o ≡ taken k
takes o k e = taken_is o ∙ ap taken e

-- ---- parts of normal values are normal

member_normal : (k : List ℕ) (ms : Fields) (w : Node) → NormalFields ms → member_text k ms ≡ Some w → NormalNode w
member_normal k no_fields w n m = absurd cc
member_normal k (field x v rest) w n m =
    elim (if_then_some (bytes_eq k x.name) v (member_text k rest) w m) [
      | inl e ↦ subst NormalNode e.1 n.0
      | inr e ↦ member_normal k rest w n.1 e.1
    ]

part_normal : (k : List ℕ) (v w : Node) → NormalNode v → part k v ≡ Some w → NormalNode w
part_normal k (object at ms close) w n m = member_normal k ms w n m
part_normal k (null at) w n m = absurd cc
part_normal k (truth at b) w n m = absurd cc
part_normal k (number at d) w n m = absurd cc
part_normal k (text at s) w n m = absurd cc
part_normal k (array at vs) w n m = absurd cc

pub part_then : (k : List ℕ) (v : Node) (P : Node → Type 0) (R : Type 0) → NormalNode v → Is k v P → ((w : Node) → NormalNode w → P w → R) → R
part_then k v P R n i h = by_part (part k v) refl i
  where
    by_part : (o : Option Node) → part k v ≡ o → IsSomeAnd o P → R
    by_part None e i = absurd i
    by_part (Some w) e i = h w (part_normal k v w n e) i

-- ---- expressions, paths and what is asked

formed : (v : Node) (e : Expression) → NormalNode v → IsExpression v e → HasForm arity e
formed v (Truth at b) n i = record { literals = tt; operands = tt }
formed v (Number at d) n i = record { literals = subst NormalNode i n; operands = tt }
formed v (At at x) n i = record { literals = tt; operands = tt }
formed v (One at o a) n i =
    let h = part_then (codes "exp") v (λ w. IsExpression w a) (HasForm arity a) n i.1 (λ w m p. formed w a m p) in record { literals = h.literals; operands = (takes o O.Unary i.0.takes, h.operands) }
formed v (Two at o a b) n i =
    let h = part_then (codes "left") v (λ w. IsExpression w a) (HasForm arity a) n i.1 (λ w m p. formed w a m p) in
    let k = part_then (codes "right") v (λ w. IsExpression w b) (HasForm arity b) n i.2 (λ w m p. formed w b m p) in
    record { literals = (h.literals, k.literals); operands = (takes o O.Binary i.0.takes, h.operands, k.operands) }
formed v (Three at o a b c) n i =
    let h = part_then (codes "if") v (λ w. IsExpression w a) (HasForm arity a) n i.1 (λ w m p. formed w a m p) in
    let k = part_then (codes "then") v (λ w. IsExpression w b) (HasForm arity b) n i.2 (λ w m p. formed w b m p) in
    let l = part_then (codes "else") v (λ w. IsExpression w c) (HasForm arity c) n i.3 (λ w m p. formed w c m p) in
    record { literals = (h.literals, k.literals, l.literals); operands = (takes o O.Choice i.0.takes, h.operands, k.operands, l.operands) }

part_formed : (k : List ℕ) (v : Node) (e : Expression) → NormalNode v → Is k v (λ w. IsExpression w e) → HasForm arity e
part_formed k v e n i = part_then k v (λ w. IsExpression w e) (HasForm arity e) n i (λ w m p. formed w e m p)

bound_formed : (v : Node) (k : Expression) → NormalNode v → Is (codes "step-bounds") v (λ w. Is (codes "upper") w (λ u. IsExpression u k)) → HasForm arity k
bound_formed v k n i = part_then (codes "step-bounds") v (λ w. Is (codes "upper") w (λ u. IsExpression u k)) (HasForm arity k) n i (λ w m p. part_formed (codes "upper") w k m p)

abbrev AreFormed : List (Role × Expression) → Type 0
AreFormed xs = Each (λ x. HasForm arity x.1) xs

path_formed : (v : Node) (p : Path Expression) → NormalNode v → IsPath v p → AreFormed (path_parts p)
path_formed v (finally e) n i = (part_formed (codes "exp") v e n i.1, tt)
path_formed v (globally e) n i = (part_formed (codes "exp") v e n i.1, tt)
path_formed v (until a b) n i = (part_formed (codes "left") v a n i.1, (part_formed (codes "right") v b n i.2, tt))
path_formed v (weak_until a b) n i = (part_formed (codes "left") v a n i.1, (part_formed (codes "right") v b n i.2, tt))
path_formed v (finally_within k e) n i = (bound_formed v k n i.2, (part_formed (codes "exp") v e n i.1, tt))
path_formed v (until_within k a b) n i = (bound_formed v k n i.3, (part_formed (codes "left") v a n i.1, (part_formed (codes "right") v b n i.2, tt)))

reached_formed : (v : Node) (p : Path Expression) → NormalNode v → IsReached v p → AreFormed (path_parts p)
reached_formed v (finally e) n i = (formed v e n i, tt)
reached_formed v (globally e) n i = absurd i
reached_formed v (until a b) n i = absurd i
reached_formed v (weak_until a b) n i = absurd i
reached_formed v (finally_within k e) n i = absurd i
reached_formed v (until_within k a b) n i = absurd i

module _ (number : Named → ℕ) where
  abbrev parts_by : Ask Expression Named → Path Expression → List (Role × Expression)
  parts_by a p = ask_parts (ask_with (λ e. e) number a) ++ path_parts p

  paths_formed : (v : Node) (p : Path Expression) → NormalNode v → Is (codes "exp") v (λ w. IsPath w p) → AreFormed (path_parts p)
  paths_formed v p n i = part_then (codes "exp") v (λ w. IsPath w p) (AreFormed (path_parts p)) n i (λ w m h. path_formed w p m h)

  reach_formed : (v : Node) (p : Path Expression) → NormalNode v → Is (codes "reach") v (λ w. IsReached w p) → AreFormed (path_parts p)
  reach_formed v p n i = part_then (codes "reach") v (λ w. IsReached w p) (AreFormed (path_parts p)) n i (λ w m h. reached_formed w p m h)

  pub asked_formed : (v : Node) (a : Ask Expression Named) (p : Path Expression) → NormalNode v → IsAsked v a p → AreFormed (parts_by a p)
  asked_formed v greatest p n i = paths_formed v p n i.1
  asked_formed v least p n i = paths_formed v p n i.1
  asked_formed v (bounded c e) p n i = (
    part_formed (codes "right") v e n i.2,
    part_then (codes "left") v _ (AreFormed (path_parts p)) n i.1 (λ w m h. paths_formed w p m h.1),
  )
  asked_formed v (greatest_reward x) p n i = reach_formed v p n i.2
  asked_formed v (least_reward x) p n i = reach_formed v p n i.2
