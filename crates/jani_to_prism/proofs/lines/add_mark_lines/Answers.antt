use Rattle.jani_to_prism.proofs.LongActions.{behind}
use Rattle.jani_to_prism.proofs.lines.add_mark_lines.Goals as goal

pub returns : goal.returns
returns c = behind c.args.lines.now c.add_owned_lines.new.lines c.add_owned_lines-2.new.lines _ _ c.in_ok-add_owned_lines.ensures c.in_ok-add_owned_lines-2.ensures
