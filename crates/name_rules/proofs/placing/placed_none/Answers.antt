use Rattle.std.specs.Prelude.{false, length, map, replicate}
use Rattle.std.proofs.Common.{◌∙◌, sym, ap, subst}
use Rattle.std.proofs.lemmas.List.{length-map}
use Rattle.name_rules.specs.Rounds.{count_in, IsPlacing}
use Rattle.name_rules.specs.Circles.{declared_by}
use Rattle.name_rules.proofs.Placed.{placing_none}
use Rattle.name_rules.proofs.placing.placed_none.Goals as goal

pub returns : goal.returns
returns c =
    let all = c.args.all.now in
    let ds = map declared_by all in
    let left = count_in c.in_ok-waiting.waiting in
    let made = rw c.in_ok-waiting.ensures.ok.0 at c.of.ensures in
    let filled = rw c.in_ok-waiting.ensures.ok.1 at c.vec-unplaced.ensures.items_if_clones_equal in
    subst (λ bs. IsPlacing ds left bs c.new.result.items) (sym (filled (λ y h. h) ∙ ap (λ n. replicate n false) (sym (length-map all declared_by))))
    (subst (IsPlacing ds left (replicate (length ds) false)) (sym c.new.ensures.items) (placing_none ds left made))
