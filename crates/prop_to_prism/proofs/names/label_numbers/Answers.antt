use Rattle.std.proofs.Common.{◌∙◌, ap, sym, arith}
use Rattle.std.specs.Prelude.{bytes_eq}
use Rattle.std.specs.Option.{option_or}
use Rattle.process_core.specs.Ready.{Name}
use Rattle.op_trees.specs.Names.{is_called}
use Rattle.name_table.specs.declared.jani_parts.OwnedVar.{OwnedVar}
use Rattle.name_rules.specs.Names.{under}
use Rattle.name_rules.proofs.Maps.{at}
use Rattle.name_table.specs.JaniParts.{owned_of}
use Rattle.edge_tables.specs.Places.{only_then}
use Rattle.edge_tables.proofs.Positions.{position_more}
use Rattle.prop_to_prism.proofs.names.label_numbers.Goals as goal

pub loop-i-preserved : goal.loop-i-preserved
loop-i-preserved c = λ x.
    position_more (λ o. is_called x o.var.name) owned_of c.args.labels.now c.loop-i.i c.index-labels-i.result _ _ (omega arith) c.index-labels-i.is
    (c.loop-i.invariant x)
    (at c.in_ok-put_first.ensures x ∙ ap (λ (y : Name). option_or (under c.loop-i.all x) (only_then (bytes_eq y x) c.loop-i.i))
    (c.as_str.ensures ∙ ap (λ (o : OwnedVar). o.var.now.name.name) (sym c.index-labels-i.is)))

pub loop-i-init : goal.loop-i-init
loop-i-init c = at c.new-all.ensures
