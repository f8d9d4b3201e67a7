use Rattle.std.proofs.Common.{◌≡◌, Option, map, subst, sym, ap, ◌∙◌}
use Rattle.process_core.specs.Ready.{Name}
use Rattle.state_choices.specs.Grouped.{AreGroupsAt}
use Rattle.state_choices.specs.Views.{group_of}
use Rattle.state_choices.proofs.AtGroups.{answers_at}
use Rattle.carry_maps.specs.Maps.{candidates}
use Rattle.path_carry.specs.Carried.{chosen}
use Rattle.path_carry.proofs.choosing.label_at.Goals as goal

pub returns : goal.returns
returns g c =
    let p = g.T.Steps.process c.args.prism.now in
    let s = c.args.from.now.values in
    let h = subst (AreGroupsAt p s) (sym (ap (map group_of) c.as_slice.ensures.value ∙ c.in_ok-groups.ensures)) c.requires.groups in
    answers_at p s _ h (λ cs (l : Option Name). l ≡ chosen (candidates c.args.index.now.pairs.now c.args.label.now) cs c.args.to.now.values) c.label_of.result c.label_of.ensures
