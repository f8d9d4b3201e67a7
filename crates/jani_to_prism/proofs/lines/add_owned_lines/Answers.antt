use Rattle.std.proofs.Common.{◌++◌, ◌∙◌, ap, sym, refl, map, arith, List}
use Rattle.std.specs.Prelude.{Some}
use Rattle.process_core.specs.Ready.{Name}
use Rattle.name_table.specs.declared.entry.Entry.{Entry}
use Rattle.name_table.specs.declared.jani_parts.OwnedVar.{OwnedVar}
use Rattle.name_table.specs.JaniParts.{owned_of}
use Rattle.prism_targets.specs.Lines.{name_line, name_lines, called}
use Rattle.gathering.proofs.Loops.{paired_flat, paired_all}
use Rattle.jani_to_prism.proofs.LineLists.{no_olds}
use Rattle.jani_to_prism.proofs.lines.add_owned_lines.Goals as goal

pub loop-i-preserved : goal.loop-i-preserved
loop-i-preserved c =
    paired_flat (λ (es : List Entry) (xs : List OwnedVar). name_lines (c.args.what.now) es (map called (map owned_of xs)))
    (λ e x. name_line (c.args.what.now) e (called (owned_of x))) (λ e x es xs. refl) _ c.loop-i.lines c.add_name_line.new.lines c.args.entries.now c.args.vars.now c.loop-i.i
    c.index-entries-i.result c.index-vars-i.result (omega arith) (omega arith) c.index-entries-i.is c.index-vars-i.is c.loop-i.invariant
    (c.in_ok-add_name_line.ensures ∙ ap (λ (x : Name). c.loop-i.lines ++ name_line (c.args.what.now) c.index-entries-i.result (Some x)) (c.as_str.ensures ∙ ap (λ (v : OwnedVar). v.var.now.name.name) (sym c.index-vars-i.is)))

pub returns : goal.returns
returns c =
    paired_all (λ (es : List Entry) (xs : List OwnedVar). name_lines (c.args.what.now) es (map called (map owned_of xs)))
    (λ xs. refl) (λ es. no_olds (c.args.what.now) es) (c.args.lines.now ++ name_lines (c.args.what.now) c.args.entries.now (map called (map owned_of c.args.vars.now))) c.loop-i.lines c.args.entries.now c.args.vars.now
    c.shorter-count.result c.loop-i.i c.shorter-count.ensures c.loop-i-test.false c.loop-i.invariant
