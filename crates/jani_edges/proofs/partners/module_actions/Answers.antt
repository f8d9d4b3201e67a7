use Rattle.std.proofs.Common.{◌∙◌, ap}
use Rattle.std.specs.List.{list_any}
use Rattle.std.specs.Prelude.{List, Some}
use Rattle.process_core.specs.Ready.{same_label}
use Rattle.gathering.proofs.Loops.{mapped_more}
use Rattle.prism_tree.specs.Syntax.{Command}
use Rattle.name_table.specs.Asks.{action_of}
use Rattle.name_rules.specs.Names.{has_name}
use Rattle.name_table.specs.Gathered.{body_in}
use Rattle.name_rules.specs.declared.names.NameSet.{NameSet}
use Rattle.jani_translation.specs.Translated.{has_command}
use Rattle.jani_edges.proofs.partners.module_actions.Goals as goal

pub loop-m-preserved : goal.loop-m-preserved
loop-m-preserved c = λ x.
    mapped_more (λ (t : NameSet). has_name t x) (has_command x) body_in c.args.modules.now c.loop-m.all.items c.push.new.self.items c.loop-m.m-index c.m-item.result c.in_ok-command_actions.field-0
    c.loop-m-test.true c.m-item.is (c.loop-m.invariant x)
    (c.in_ok-command_actions.ensures x ∙ ap (λ (l : List Command). list_any (λ (r : Command). same_label (Some x) (action_of r)) l) c.commands_of.ensures) c.in_ok-push.ensures.items
