use Rattle.std.proofs.Common.{◌∙◌, ap}
use Rattle.name_rules.specs.Names.{is_among}
use Rattle.jani_check.proofs.Parts.{each_itself}
use Rattle.jani_check.proofs.unknown.judge_unknown_names.Goals as goal

pub judge_by_actions-requires : goal.judge_by_actions-requires
judge_by_actions-requires c = c.in_ok-actions.ensures ∙ ap is_among (each_itself _ c.args.file.now.actions c.as_slice.ensures)
