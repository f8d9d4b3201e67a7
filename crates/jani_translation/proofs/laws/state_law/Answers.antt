use Rattle.jani_translation.proofs.Elements.{elements_are}
use Rattle.jani_translation.proofs.StateNames.{names_seen_alike}
use Rattle.jani_translation.proofs.States.{states_alike, condition_seen_alike, initial_alike, states_are_these, states_differ}
use Rattle.jani_translation.proofs.Edges.{edges_watched}
use Rattle.jani_translation.proofs.Marks.{labels_seen_alike, marks_alike}
use Rattle.jani_translation.proofs.WatchedSilently.{choices_in_order, choices_watched}
use Rattle.jani_translation.proofs.laws.state_law.Goals as goal

pub returns : goal.returns
returns c = record { elements = elements_are; names = names_seen_alike; states = states_alike; condition = condition_seen_alike; initial = initial_alike; onto = states_are_these; one = states_differ; edges = edges_watched; labels = labels_seen_alike; marks = marks_alike; choices = choices_in_order; watched_choices = choices_watched }
