use Rattle.std.proofs.Common.{◌∙◌, List, map, sym, ap, refl}
use Rattle.std.specs.Borrow.{Bor}
use Rattle.process_core.specs.Product.{map-map}
use Rattle.state_choices.specs.declared.data.Command.{Command}
use Rattle.state_choices.specs.Views.{command_of, group_of}
use Rattle.state_choices.specs.Members.{silent_of, of_vector, vector_lists}
use Rattle.state_choices.proofs.Gathered.{map_after}
use Rattle.state_choices.proofs.MemberLaws.{same_group}
use Rattle.state_choices.proofs.groups.element_groups.Goals as goal

pub loop-vector-preserved : goal.loop-vector-preserved
loop-vector-preserved c =
    let ms = c.args.members.now in
    let r = c.args.rewards.now in
    map_after group_of (of_vector r ms) (map (silent_of r) ms) c.args.vectors.now c.loop-vector.vector-index c.vector-item.result c.loop-vector.groups.items c.push.new.self.items _
    c.loop-vector-test.true c.vector-item.is c.loop-vector.invariant c.in_ok-push.ensures.items
    (same_group _ _ _ _ _ _ c.as_ref.ensures.value refl
    (sym (map-map (map command_of) (λ (l : Bor (List Command)). l.now) c.in_ok-vector_lists.field-0.items) ∙ ap (map (map command_of)) (c.in_ok-vector_lists.ensures ∙ ap (λ ps. vector_lists ps ms) c.as_slice.ensures)))
