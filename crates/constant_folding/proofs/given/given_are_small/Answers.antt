use Rattle.std.proofs.Common.{◌≡◌, ◌∙◌, ◌∷◌, ◌++◌, [], Some, false, ap, subst, sym, take}
use Rattle.std.specs.List.{AllByRecursion}
use Rattle.std.proofs.lemmas.List.{take_more}
use Rattle.basics.specs.Each.{each_join}
use Rattle.op_trees.specs.Meaning.{is_wide_value}
use Rattle.constant_folding.proofs.given.given_are_small.Goals as goal

pub loop-one-preserved : goal.loop-one-preserved
loop-one-preserved c =
    let i = c.loop-one.one-index in
    let one = c.one-item.result in
    subst (AllByRecursion (λ g. is_wide_value (Some g.value) ≡ false))
    (sym (take_more c.args.given.now i one c.loop-one-test.true ∙ ap (λ z. take i c.args.given.now ++ z ∷ []) (sym c.one-item.is)))
    (each_join (λ g. is_wide_value (Some g.value) ≡ false) _ _ c.loop-one.invariant (c.is_small.ensures, tt))
