use Rattle.std.proofs.Common.{◌≡◌, ◌∙◌, ◌∷◌, [], ◌++◌, List, length, get_or, sym, ap, map, subst, IfOk, Vec, Global}
use Rattle.std.specs.List.{flat_map}
use Rattle.std.proofs.lemmas.List.Folds.{flat_map-map}
use Rattle.std.proofs.lemmas.List.Concat.{flat_map_single}
use Rattle.basics.specs.Lists.{at_take_all}
use Rattle.process_core.specs.Product.{extended}
use Rattle.state_choices.proofs.Gathered.{flat_more, single}
use Rattle.state_choices.proofs.product.extended.Goals as goal

by_one : {X : Type 0} (fronts : List (List X)) (xs : List X) (x : X) → length xs ≡ 1 → x ≡ get_or xs 0 x → map (λ p. p ++ x ∷ []) fronts ≡ extended fronts xs
by_one fronts xs x n e = sym (ap (extended fronts) (single xs x n e) ∙ flat_map_single (λ p. p ++ x ∷ []) fronts)

pub loop-front-preserved : goal.loop-front-preserved
loop-front-preserved g c =
    flat_more (λ v. v.items) (λ p. map (λ x. p.items ++ x ∷ []) c.args.list.now) c.as_slice-front-items.result.now c.loop-front.front-index c.front-item.result c.loop-front.all.items c.append.new.self.items
    c.in_ok-longer.longer.items c.loop-front-test.true c.front-item.is c.loop-front.invariant c.in_ok-append.ensures.items
    (c.in_ok-longer.ensures ∙ ap (λ p. map (λ x. p ++ x ∷ []) c.args.list.now) c.as_slice.ensures.value)

pub returns : goal.returns
returns g c =
    let longer = λ (p : List g.row.T.Denot). map (λ x. p ++ x ∷ []) c.args.list.now in
    c.loop-front.invariant
    ∙ at_take_all (flat_map (λ (v : Vec g.row.T.Denot Global). longer v.items)) c.as_slice-front-items.result.now c.loop-front.front-index c.loop-front-test.false
    ∙ ap (flat_map (λ (v : Vec g.row.T.Denot Global). longer v.items)) c.as_slice-front-items.ensures.value
    ∙ sym (flat_map-map longer (λ (v : Vec g.row.T.Denot Global). v.items) c.args.fronts.items)

pub returns-then-list-eq1 : goal.returns-then-list-eq1
returns-then-list-eq1 g c =
    let fronts = map (λ (v : Vec g.row.T.Denot Global). v.items) c.args.fronts.items in
    subst (λ (l : List (List g.row.T.Denot)). IfOk c.each_longer.result (λ all. map (λ v. v.items) all.items ≡ l)) (by_one fronts c.args.list.now c.index-list-0.result c.if-list-eq1.true c.index-list-0.is) c.each_longer.ensures
