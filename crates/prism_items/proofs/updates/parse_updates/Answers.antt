use Rattle.std.proofs.Common.{◌∙◌, sym, map}
use Rattle.prism_tree.specs.Syntax.{branch_of}
use Rattle.prism_items.proofs.Splitting.{ended_update_parses, ended_branches_parses}
use Rattle.prism_items.proofs.updates.parse_updates.Goals as goal

pub returns-then-not-is_plain : goal.returns-then-not-is_plain
returns-then-not-is_plain c = ended_branches_parses (map branch_of) _ c.parse_ended_branches.result (sym c.is_plain.ensures ∙ c.if-not-is_plain.true) c.parse_ended_branches.ensures

pub returns : goal.returns
returns c = ended_update_parses (map branch_of) _ c.parse_ended_update.result (sym c.is_plain.ensures ∙ c.if-not-is_plain.false) c.parse_ended_update.ensures
