use Rattle.std.proofs.Common.{arith, refl, map, List, ap, sym, ◌∙◌}
use Rattle.std.specs.List.{zip}
use Rattle.basics.specs.Lists.{zip_none}
use Rattle.prism_tree.specs.Syntax as prism
use Rattle.name_table.specs.declared.entry.Entry.{Entry}
use Rattle.name_table.specs.declared.jani_parts.OwnedVar.{OwnedVar}
use Rattle.name_table.specs.JaniParts.{owned_of}
use Rattle.prism_targets.specs.Marks.{label}
use Rattle.gathering.proofs.Loops.{paired_more, paired_all}
use Rattle.prism_modules.specs.Code.{file_in, names_in}
use Rattle.jani_to_prism.proofs.labels.labels.Goals as goal

pub loop-i-preserved : goal.loop-i-preserved
loop-i-preserved c =
    let n = c.args.names.now in
    paired_more prism.label_of (λ (xs : List OwnedVar) (es : List Entry). map (λ p. label (file_in n) (names_in n) p.0 p.1.name) (zip (map owned_of xs) es))
    (λ x e. label (file_in n) (names_in n) (owned_of x) e.name) (λ x e xs es. refl) _ c.args.vars.now n.entries.labels.now c.loop-i.i
    c.index-vars-i.result c.index-names-i.result c.loop-i.all _ _ (omega arith) (omega arith) c.index-vars-i.is c.index-names-i.is
    c.loop-i.invariant
    (c.in_ok-label.ensures ∙ ap (λ (z : Entry). label (file_in n) (names_in n) (owned_of c.index-vars-i.result) z.name) (sym c.index-names-i.is)) c.in_ok-push.ensures.ok

pub returns : goal.returns
returns c =
    let n = c.args.names.now in
    paired_all (λ (xs : List OwnedVar) (es : List Entry). map (λ p. label (file_in n) (names_in n) p.0 p.1.name) (zip (map owned_of xs) es))
    (λ es. refl) (λ xs. zip_none (λ x (e : Entry). label (file_in n) (names_in n) x e.name) (map owned_of xs)) _ _ c.args.vars.now n.entries.labels.now
    c.shorter-count.result c.loop-i.i c.shorter-count.ensures c.loop-i-test.false c.loop-i.invariant
