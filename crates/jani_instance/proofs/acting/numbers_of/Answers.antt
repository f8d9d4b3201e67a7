use Rattle.std.proofs.Common.{◌∙◌, ap, subst}
use Rattle.std.specs.List.{position}
use Rattle.op_trees.specs.Names.{is_called}
use Rattle.jani_instance.specs.Actions.{AreNumbered, actions_among}
use Rattle.jani_instance.proofs.acting.numbers_of.Goals as goal

pub returns : goal.returns
returns c = record {
  acts = subst (λ es. AreNumbered (actions_among es) c.in_ok-actions.actions) c.edges.ensures c.in_ok-actions.ensures;
  locations = λ x. c.in_ok-locations.ensures x ∙ ap (position (λ l. is_called x l.name)) c.locations.ensures;
}
