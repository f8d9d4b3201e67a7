use Rattle.std.proofs.Common.{map-id, sym, ◌∙◌}
use Rattle.jani_tree.proofs.automata.copy_names.Goals as goal

pub returns : goal.returns
returns c = sym (map-id _) ∙ c.in_ok-copies.ensures ∙ map-id _
