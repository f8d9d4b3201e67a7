use Rattle.std.proofs.Common.{◌≡◌, List, ◌∙◌, ap, subst}
use Rattle.std.specs.Prelude.{IfOk, map}
use Rattle.std.specs.Borrow.{Bor}
use Rattle.basics.specs.Lists.{at_take_all}
use Rattle.prism_tree.specs.Syntax.{label_of}
use Rattle.prism_tree.specs.declared.syntax.PrismLabel.{PrismLabel}
use Rattle.prop_trees.specs.Trees.{Name}
use Rattle.prop_to_jani.specs.Code.{found, new_in}
use Rattle.prop_to_jani.proofs.tables.label_map.Goals as goal

pub returns : goal.returns
returns c =
    let F : List Name → Type 0 = λ ys. IfOk c.name_map.result (λ m. (x : Name) → new_in m x ≡ found ys c.args.news.now x) in
    subst F
    (ap (map (λ (y : Bor Name). y.now)) c.as_slice.ensures.value ∙ c.loop-l.invariant
    ∙ at_take_all (λ (ls : List PrismLabel). map (λ l. l.name.name) (map label_of ls)) c.args.labels.now c.loop-l.l-index c.loop-l-test.false)
    c.name_map.ensures
