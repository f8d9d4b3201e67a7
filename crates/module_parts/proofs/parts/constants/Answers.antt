use Rattle.std.proofs.Common.{arith, refl, map, List, ap, sym, ◌∙◌}
use Rattle.std.specs.List.{zip}
use Rattle.basics.specs.Lists.{zip_none}
use Rattle.prism_tree.specs.Syntax as prism
use Rattle.jani_tree.specs.Syntax as jani
use Rattle.jani_tree.specs.declared.syntax.JaniConst.{JaniConst}
use Rattle.name_table.specs.declared.entry.Entry.{Entry}
use Rattle.edge_tables.specs.Parts.{constant}
use Rattle.module_parts.specs.Code.{file_in, names_in}
use Rattle.gathering.proofs.Loops.{paired_more, paired_all}
use Rattle.module_parts.proofs.parts.constants.Goals as goal

pub loop-i-preserved : goal.loop-i-preserved
loop-i-preserved c =
    let n = c.args.names.now in
    paired_more prism.const_of (λ (xs : List JaniConst) (es : List Entry). map (λ p. constant (file_in n) (names_in n) p.0 p.1.name) (zip (map jani.const_of xs) es))
    (λ x e. constant (file_in n) (names_in n) (jani.const_of x) e.name) (λ x e xs es. refl) _ c.as_slice-constants.result.now n.entries.constants.now c.loop-i.i
    c.index-constants-i.result c.index-names-i.result c.loop-i.all _ _ (omega arith) (omega arith) c.index-constants-i.is c.index-names-i.is
    c.loop-i.invariant
    (c.in_ok-constant.ensures ∙ ap (λ (z : Entry). constant (file_in n) (names_in n) (jani.const_of c.index-constants-i.result) z.name) (sym c.index-names-i.is)) c.in_ok-push.ensures.ok

pub returns : goal.returns
returns c =
    let n = c.args.names.now in
    paired_all (λ (xs : List JaniConst) (es : List Entry). map (λ p. constant (file_in n) (names_in n) p.0 p.1.name) (zip (map jani.const_of xs) es))
    (λ es. refl) (λ xs. zip_none (λ x (e : Entry). constant (file_in n) (names_in n) x e.name) (map jani.const_of xs)) _ _ c.as_slice-constants.result.now n.entries.constants.now
    c.shorter-count.result c.loop-i.i c.shorter-count.ensures c.loop-i-test.false c.loop-i.invariant
    ∙ ap (λ (l : List JaniConst). map (λ p. constant (file_in n) (names_in n) p.0 p.1.name) (zip (map jani.const_of l) n.entries.constants.now)) c.as_slice-constants.ensures
