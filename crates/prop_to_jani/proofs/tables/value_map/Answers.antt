use Rattle.std.proofs.Common.{◌≡◌, List, ◌∙◌, ap, subst}
use Rattle.std.specs.Prelude.{IfOk, map}
use Rattle.std.specs.Borrow.{Bor}
use Rattle.prop_trees.specs.Trees.{Name}
use Rattle.prop_to_jani.specs.Code.{found, new_in}
use Rattle.prop_to_jani.proofs.tables.value_map.Goals as goal

pub returns : goal.returns
returns c =
    let F : List Name → Type 0 = λ ys. IfOk c.name_map.result (λ m. (x : Name) → new_in m x ≡ found ys c.args.news.now x) in
    subst F (ap (map (λ (y : Bor Name). y.now)) c.as_slice.ensures.value ∙ c.in_ok-olds.ensures) c.name_map.ensures
