use Rattle.std.proofs.Common.{arith, refl, map, List}
use Rattle.std.specs.List.{zip}
use Rattle.basics.specs.Lists.{zip_none}
use Rattle.gathering.proofs.Loops.{paired_more, paired_all}
use Rattle.prism_tree.specs.Syntax as prism
use Rattle.prism_tree.specs.declared.syntax.PrismConst.{PrismConst}
use Rattle.jani_tree.specs.Syntax as jani
use Rattle.name_table.specs.declared.entry.Entry.{Entry}
use Rattle.jani_edges.specs.Parts.{constant}
use Rattle.jani_edges.specs.Code.{name_in}
use Rattle.jani_automata.proofs.parts.constants.Goals as goal

pub loop-i-preserved : goal.loop-i-preserved
loop-i-preserved c =
    paired_more jani.const_of (λ (xs : List PrismConst) (es : List Entry). map (λ p. constant (name_in c.args.names.now) p.0 p.1) (zip (map prism.const_of xs) es))
    (λ x e. constant (name_in c.args.names.now) (prism.const_of x) e) (λ x e xs es. refl) _ c.args.constants.now c.args.entries.now c.loop-i.i
    c.index-constants-i.result c.index-entries-i.result c.loop-i.all _ _ (omega arith) (omega arith) c.index-constants-i.is c.index-entries-i.is
    c.loop-i.invariant c.in_ok-constant.ensures c.in_ok-push.ensures.ok

pub returns : goal.returns
returns c =
    paired_all (λ (xs : List PrismConst) (es : List Entry). map (λ p. constant (name_in c.args.names.now) p.0 p.1) (zip (map prism.const_of xs) es))
    (λ es. refl) (λ xs. zip_none (λ x e. constant (name_in c.args.names.now) x e) (map prism.const_of xs)) _ _ c.args.constants.now c.args.entries.now c.shorter-count.result c.loop-i.i
    (omega arith) (omega arith) c.loop-i.invariant
