use Rattle.std.proofs.Common.{None, Some, subst, sym}
use Rattle.std.specs.Option.{option_map}
use Rattle.op_trees.specs.Seen.{seen}
use Rattle.op_trees.specs.Tree.{tree}
use Rattle.expr_store.specs.Alike.{IsMade, alike_same, made_map}
use Rattle.expr_store.specs.NodeLaws.{grown_none}
use Rattle.expr_store.specs.Views.{nodes}
use Rattle.network.proofs.putting.put_some.Goals as goal

pub returns-in-None : goal.returns-in-None
returns-in-None g c =
    let m = g.O.Operator.meaning in
    let places = g.S.Scope.places c.args.scope.now in
    let ns = nodes c.args.store.now in
    subst (λ o. IsMade m places ns ns (λ look. option_map look None) (λ names. option_map (λ t. seen m t names) (option_map tree o))) (sym c.in-None.is)
    (record { grown = grown_none ns; made = alike_same None })

pub returns-in_ok-put-in-Some : goal.returns-in_ok-put-in-Some
returns-in_ok-put-in-Some g c =
    let m = g.O.Operator.meaning in
    let places = g.S.Scope.places c.args.scope.now in
    subst (λ o. IsMade m places (nodes c.args.store.now) (nodes c.put.new.store) (λ look. option_map look (Some c.in_ok-put-in-Some.field-0)) (λ names. option_map (λ t. seen m t names) (option_map tree o))) (sym c.in-Some.is)
    (made_map Some (λ look. look c.in_ok-put-in-Some.field-0) (λ names. seen m (tree c.in-Some.e) names) c.in_ok-put-in-Some.ensures)
