use Rattle.std.proofs.Common.{◌∙◌, [], sym, ap, map, if◌then◌else◌}
use Rattle.std.specs.Option.{option_map}
use Rattle.state_choices.specs.Views.{update_of}
use Rattle.state_choices.proofs.ComputedParts.{command_computed}
use Rattle.jani_instance.specs.Views.{columns_of, guard_as, look_at, setting_of, update_seen}
use Rattle.jani_instance.proofs.edges.command_of.Goals as goal

pub returns : goal.returns
returns c =
    let k = setting_of c.args.here.now in
    let f = update_seen (columns_of k) (look_at k) c.args.i in (
      c.in_ok-updates.ensures.0,
      command_computed (guard_as (option_map (look_at k) c.args.edge.now.guard)) c.guard_of-guard.result (map update_of c.in_ok-updates.updates)
          (map f c.args.edge.now.destinations.items) c.guard_of-guard.ensures.value
          (c.in_ok-updates.ensures.1
          ∙ ap (map f) c.as_slice.ensures.value
          ∙ sym (ap (λ b. if b then [] else map f c.args.edge.now.destinations.items) (sym c.is_false.ensures ∙ c.if-is_false.false))),
    )
