use Rattle.std.proofs.Common.{◌∙◌, ap, sym, arith}
use Rattle.std.specs.Prelude.{bytes_eq}
use Rattle.std.specs.Option.{option_or}
use Rattle.process_core.specs.Ready.{Name}
use Rattle.jani_tree.specs.declared.syntax.JaniConst.{JaniConst}
use Rattle.jani_tree.specs.Syntax.{const_of}
use Rattle.op_trees.specs.Names.{is_called}
use Rattle.name_rules.specs.Names.{under}
use Rattle.name_rules.proofs.Maps.{at}
use Rattle.edge_tables.specs.Places.{only_then}
use Rattle.edge_tables.proofs.Positions.{position_more}
use Rattle.module_parts.proofs.naming.constant_numbers.Goals as goal

pub loop-i-preserved : goal.loop-i-preserved
loop-i-preserved c = λ x.
    position_more (λ k. is_called x k.name) const_of c.args.constants.now c.loop-i.i c.index-constants-i.result _ _ (omega arith) c.index-constants-i.is
    (c.loop-i.invariant x)
    (at c.in_ok-put_first.ensures x ∙ ap (λ (y : Name). option_or (under c.loop-i.all x) (only_then (bytes_eq y x) c.loop-i.i))
    (c.as_str.ensures ∙ ap (λ (l : JaniConst). l.name.name) (sym c.index-constants-i.is)))

pub loop-i-init : goal.loop-i-init
loop-i-init c = at c.new-all.ensures
