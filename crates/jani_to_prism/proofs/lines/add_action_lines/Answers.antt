use Rattle.std.proofs.Common.{◌++◌, ◌∙◌, ap, refl, map, arith, List}
use Rattle.std.specs.Prelude.{Option, codes}
use Rattle.process_core.specs.Ready.{Name}
use Rattle.name_table.specs.declared.entry.Entry.{Entry}
use Rattle.prism_targets.specs.declared.targets.Target.{Target}
use Rattle.prism_targets.specs.Lines.{name_line, name_lines}
use Rattle.jani_to_prism.specs.LineParts.{old_of}
use Rattle.gathering.proofs.Loops.{paired_flat, paired_all}
use Rattle.jani_to_prism.proofs.LineLists.{no_olds}
use Rattle.jani_to_prism.proofs.lines.add_action_lines.Goals as goal

pub loop-i-preserved : goal.loop-i-preserved
loop-i-preserved c =
    paired_flat (λ (es : List Entry) (xs : List Target). name_lines (codes "action") es (map old_of xs))
    (λ e x. name_line (codes "action") e (old_of x)) (λ e x es xs. refl) _ c.loop-i.lines c.add_name_line.new.lines c.args.entries.now c.args.made.now c.loop-i.i
    c.index-entries-i.result c.index-made-i.result (omega arith) (omega arith) c.index-entries-i.is c.index-made-i.is c.loop-i.invariant
    (c.in_ok-add_name_line.ensures ∙ ap (λ (o : Option Name). c.loop-i.lines ++ name_line (codes "action") c.index-entries-i.result o) c.old_name.ensures)

pub returns : goal.returns
returns c =
    paired_all (λ (es : List Entry) (xs : List Target). name_lines (codes "action") es (map old_of xs))
    (λ xs. refl) (λ es. no_olds (codes "action") es) (c.args.lines.now ++ name_lines (codes "action") c.args.entries.now (map old_of c.args.made.now)) c.loop-i.lines c.args.entries.now c.args.made.now
    c.shorter-count.result c.loop-i.i c.shorter-count.ensures c.loop-i-test.false c.loop-i.invariant
