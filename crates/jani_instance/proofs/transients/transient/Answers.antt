use Rattle.std.proofs.Common.{◌∙◌, ap, map}
use Rattle.jani_instance.specs.Parts.{automaton_at}
use Rattle.jani_instance.specs.Shapes.{giver_at}
use Rattle.jani_instance.proofs.Givers.{kept_as, same_transient}
use Rattle.jani_instance.proofs.transients.transient.Goals as goal

pub returns : goal.returns
returns c =
    let o = c.args.o in
    same_transient _ _ _ _ _ c.start_of.ensures
    (ap (map giver_at) c.in_ok-givers.ensures ∙ kept_as (map automaton_at c.args.parts.now) c.args.gifts.now o.owner o.var.now.name.name c.requires)
