use Rattle.std.proofs.Common.{◌++◌, ◌∙◌, ap, refl, map, arith, List}
use Rattle.std.specs.Prelude.{Some, codes}
use Rattle.process_core.specs.Ready.{Name}
use Rattle.name_table.specs.declared.entry.Entry.{Entry}
use Rattle.jani_tree.specs.declared.syntax.JaniElement.{JaniElement}
use Rattle.prism_targets.specs.Lines.{name_line, name_lines}
use Rattle.gathering.proofs.Loops.{paired_flat, paired_all}
use Rattle.jani_to_prism.proofs.LineLists.{no_olds}
use Rattle.jani_to_prism.proofs.lines.add_module_lines.Goals as goal

pub loop-i-preserved : goal.loop-i-preserved
loop-i-preserved c =
    paired_flat (λ (es : List Entry) (xs : List JaniElement). name_lines (codes "module") es (map (λ (k : JaniElement). Some k.name.name) xs))
    (λ e x. name_line (codes "module") e (Some x.name.name)) (λ e x es xs. refl) _ c.loop-i.lines c.add_name_line.new.lines c.args.entries.now c.args.elements.now c.loop-i.i
    c.index-entries-i.result c.index-elements-i.result (omega arith) (omega arith) c.index-entries-i.is c.index-elements-i.is c.loop-i.invariant
    (c.in_ok-add_name_line.ensures ∙ ap (λ (x : Name). c.loop-i.lines ++ name_line (codes "module") c.index-entries-i.result (Some x)) (c.as_str.ensures))

pub returns : goal.returns
returns c =
    paired_all (λ (es : List Entry) (xs : List JaniElement). name_lines (codes "module") es (map (λ (k : JaniElement). Some k.name.name) xs))
    (λ xs. refl) (λ es. no_olds (codes "module") es) (c.args.lines.now ++ name_lines (codes "module") c.args.entries.now (map (λ (k : JaniElement). Some k.name.name) c.args.elements.now)) c.loop-i.lines c.args.entries.now c.args.elements.now
    c.shorter-count.result c.loop-i.i c.shorter-count.ensures c.loop-i-test.false c.loop-i.invariant
