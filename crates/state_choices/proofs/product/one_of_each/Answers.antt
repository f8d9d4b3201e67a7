use Rattle.std.proofs.Common.{◌∙◌, sym, ap, ◌∷◌, [], List, map, Vec, Global}
use Rattle.std.specs.List.{fold}
use Rattle.basics.specs.Lists.{at_take_all}
use Rattle.process_core.specs.Product.{extended, extended_all}
use Rattle.state_choices.proofs.Opened.{none_of_each}
use Rattle.state_choices.proofs.product.one_of_each.Goals as goal

pub returns : goal.returns
returns g c =
    let items = λ (v : Vec g.row.T.Denot Global). v.items in
    c.loop-list.invariant
    ∙ at_take_all (λ (l : List (Vec g.row.T.Denot Global)). fold extended ([] ∷ []) (map items l)) c.args.lists.now c.loop-list.list-index c.loop-list-test.false
    ∙ extended_all (map items c.args.lists.now)

pub returns-then-has_empty : goal.returns-then-has_empty
returns-then-has_empty g c =
    let items = λ (v : Vec g.row.T.Denot Global). v.items in
    ap (map items) c.new-fronts.ensures.items ∙ none_of_each items c.args.lists.now (sym c.has_empty.ensures ∙ c.if-has_empty.true)
