use Rattle.std.proofs.Common.{refl, sym, ap, subst, ◌∙◌}
use Rattle.std.proofs.lemmas.Result.{IfOk-weaker}
use Rattle.std.specs.Prelude.{IfOk}
use Rattle.op_trees.specs.Tree.{tree}
use Rattle.op_trees.specs.Tree as T
use Rattle.op_trees.specs.declared.tree.Value.TheVariants as V
use Rattle.expr_store.specs.NodeLaws.{grown_none, grown_then, stands_later}
use Rattle.expr_store.specs.Nodes.{Holds, Stands}
use Rattle.expr_store.specs.Views.{nodes}
use Rattle.expr_store.specs.declared.node.Node.TheVariants.{Fixed, Name}
use Rattle.expr_store.proofs.Standing.{fixed_stands, name_stands, standing_in}
use Rattle.expr_store.proofs.store.ExprStore.+put.Goals as goal

pub returns-in-Truth-clause-stands : goal.returns-in-Truth-clause-stands
returns-in-Truth-clause-stands g t c =
    let m = g.O.Operator.meaning in
    let places = g.S.Scope.places c.args.scope.now in
    let new = nodes c.put_node.new.self in
    IfOk-weaker c.put_node.result (λ id. Holds new id.number (Fixed (V.Truth c.in-Truth.b))) (λ id. Stands m places new id.number (tree c.args.e.now))
    (λ id k. subst (Stands m places new id.number) (sym (ap tree c.in-Truth.is)) (fixed_stands m places new new id.number (T.Truth c.in-Truth.field-0 c.in-Truth.b) (V.Truth c.in-Truth.b) (λ env. refl) k))
    c.put_node.ensures.holds

pub returns-in-Number-clause-stands : goal.returns-in-Number-clause-stands
returns-in-Number-clause-stands g t c =
    let m = g.O.Operator.meaning in
    let places = g.S.Scope.places c.args.scope.now in
    let new = nodes c.put_literal.new.self in
    subst (λ t. IfOk c.put_literal.result (λ id. Stands m places new id.number t)) (sym (ap tree c.in-Number.is)) (c.put_literal.ensures.stands places c.in-Number.field-0)

pub returns-in-Name-clause-stands : goal.returns-in-Name-clause-stands
returns-in-Name-clause-stands g t c =
    let m = g.O.Operator.meaning in
    let places = g.S.Scope.places c.args.scope.now in
    let new = nodes c.put_node-in-Name.new.self in
    let there = c.place.ensures ∙ ap places c.as_str.ensures in
    IfOk-weaker c.put_node-in-Name.result (λ id. Holds new id.number (Name c.place.result)) (λ id. Stands m places new id.number (tree c.args.e.now))
    (λ id k. subst (Stands m places new id.number) (sym (ap tree c.in-Name.is)) (name_stands m places new new id.number c.in-Name.field-0 c.in-Name.x (subst (λ p. Holds new id.number (Name p)) there k)))
    c.put_node-in-Name.ensures.holds

pub returns-in-Two-clause-stands : goal.returns-in-Two-clause-stands
returns-in-Two-clause-stands g t c =
    let m = g.O.Operator.meaning in
    let places = g.S.Scope.places c.args.scope.now in
    let before = nodes c.put-second.new.self in
    let new = nodes c.put_two.new.self in
    let first = IfOk-weaker c.put-first-in-Two.result (λ id. Stands m places (nodes c.put-first-in-Two.new.self) id.number (tree c.deref-in-Two.result.now)) (λ id. Stands m places before id.number (tree c.in-Two.a.value))
    (λ id s. subst (λ e. Stands m places before id.number (tree e)) c.deref-in-Two.ensures (stands_later c.put-second.ensures.grows s)) c.put-first-in-Two.ensures.stands in
    let second = subst (λ e. IfOk c.put-second.result (λ id. Stands m places before id.number (tree e))) c.deref-in-Two-2.ensures c.put-second.ensures.stands in
    subst (λ e. IfOk c.put_two.result (λ id. Stands m places new id.number e)) (sym (ap tree c.in-Two.is))
    (c.put_two.ensures.stands places c.in-Two.field-0 (tree c.in-Two.a.value) (tree c.in-Two.b.value) first second)

pub returns-in-Three-clause-stands : goal.returns-in-Three-clause-stands
returns-in-Three-clause-stands g t c =
    let m = g.O.Operator.meaning in
    let places = g.S.Scope.places c.args.scope.now in
    let one = nodes c.put-first-in-Three.new.self in
    let two = nodes c.put-second-in-Three.new.self in
    let before = nodes c.put-third.new.self in
    let new = nodes c.put_three.new.self in
    let first = IfOk-weaker c.put-first-in-Three.result (λ id. Stands m places one id.number (tree c.deref-in-Three.result.now)) (λ id. Stands m places before id.number (tree c.in-Three.a.value))
    (λ id s. subst (λ e. Stands m places before id.number (tree e)) c.deref-in-Three.ensures (stands_later (grown_then c.put-second-in-Three.ensures.grows c.put-third.ensures.grows) s)) c.put-first-in-Three.ensures.stands in
    let second = IfOk-weaker c.put-second-in-Three.result (λ id. Stands m places two id.number (tree c.deref-in-Three-2.result.now)) (λ id. Stands m places before id.number (tree c.in-Three.b.value))
    (λ id s. subst (λ e. Stands m places before id.number (tree e)) c.deref-in-Three-2.ensures (stands_later c.put-third.ensures.grows s)) c.put-second-in-Three.ensures.stands in
    let third = subst (λ e. IfOk c.put-third.result (λ id. Stands m places before id.number (tree e))) c.deref-in-Three-3.ensures c.put-third.ensures.stands in
    subst (λ e. IfOk c.put_three.result (λ id. Stands m places new id.number e)) (sym (ap tree c.in-Three.is))
    (c.put_three.ensures.stands places c.in-Three.field-0 (tree c.in-Three.a.value) (tree c.in-Three.b.value) (tree c.in-Three.c.value) first second third)

pub put_one-requires : goal.put_one-requires
put_one-requires g t c =
    let m = g.O.Operator.meaning in
    let places = g.S.Scope.places c.args.scope.now in
    let ns = nodes c.put-first.new.self in
    standing_in m places ns ns c.put-first.result (tree c.deref.result.now) (grown_none ns) c.put-first.ensures.stands

pub put_two-requires-clause-first : goal.put_two-requires-clause-first
put_two-requires-clause-first g t c =
    let m = g.O.Operator.meaning in
    let places = g.S.Scope.places c.args.scope.now in
    let one = nodes c.put-first-in-Two.new.self in
    let before = nodes c.put-second.new.self in
    standing_in m places one before c.put-first-in-Two.result (tree c.deref-in-Two.result.now) c.put-second.ensures.grows c.put-first-in-Two.ensures.stands

pub put_two-requires-clause-second : goal.put_two-requires-clause-second
put_two-requires-clause-second g t c =
    let m = g.O.Operator.meaning in
    let places = g.S.Scope.places c.args.scope.now in
    let before = nodes c.put-second.new.self in
    standing_in m places before before c.put-second.result (tree c.deref-in-Two-2.result.now) (grown_none before) c.put-second.ensures.stands

pub put_three-requires-clause-first : goal.put_three-requires-clause-first
put_three-requires-clause-first g t c =
    let m = g.O.Operator.meaning in
    let places = g.S.Scope.places c.args.scope.now in
    let one = nodes c.put-first-in-Three.new.self in
    let before = nodes c.put-third.new.self in
    standing_in m places one before c.put-first-in-Three.result (tree c.deref-in-Three.result.now) (grown_then c.put-second-in-Three.ensures.grows c.put-third.ensures.grows) c.put-first-in-Three.ensures.stands

pub put_three-requires-clause-second : goal.put_three-requires-clause-second
put_three-requires-clause-second g t c =
    let m = g.O.Operator.meaning in
    let places = g.S.Scope.places c.args.scope.now in
    let two = nodes c.put-second-in-Three.new.self in
    let before = nodes c.put-third.new.self in
    standing_in m places two before c.put-second-in-Three.result (tree c.deref-in-Three-2.result.now) c.put-third.ensures.grows c.put-second-in-Three.ensures.stands

pub put_three-requires-clause-third : goal.put_three-requires-clause-third
put_three-requires-clause-third g t c =
    let m = g.O.Operator.meaning in
    let places = g.S.Scope.places c.args.scope.now in
    let before = nodes c.put-third.new.self in
    standing_in m places before before c.put-third.result (tree c.deref-in-Three-3.result.now) (grown_none before) c.put-third.ensures.stands

pub returns-in-One-clause-grows : goal.returns-in-One-clause-grows
returns-in-One-clause-grows g t c = grown_then c.put-first.ensures.grows c.put_one.ensures.grows

pub returns-in-Two-clause-grows : goal.returns-in-Two-clause-grows
returns-in-Two-clause-grows g t c = grown_then (grown_then c.put-first-in-Two.ensures.grows c.put-second.ensures.grows) c.put_two.ensures.grows

pub returns-in-Three-clause-grows : goal.returns-in-Three-clause-grows
returns-in-Three-clause-grows g t c = grown_then (grown_then (grown_then c.put-first-in-Three.ensures.grows c.put-second-in-Three.ensures.grows) c.put-third.ensures.grows) c.put_three.ensures.grows

pub returns-in-One-clause-stands : goal.returns-in-One-clause-stands
returns-in-One-clause-stands g t c =
    let m = g.O.Operator.meaning in
    let places = g.S.Scope.places c.args.scope.now in
    let before = nodes c.put-first.new.self in
    let new = nodes c.put_one.new.self in
    let first = subst (λ e. IfOk c.put-first.result (λ id. Stands m places before id.number (tree e))) c.deref.ensures c.put-first.ensures.stands in
    subst (λ e. IfOk c.put_one.result (λ id. Stands m places new id.number e)) (sym (ap tree c.in-One.is))
    (c.put_one.ensures.stands places c.in-One.field-0 (tree c.in-One.a.value) first)
