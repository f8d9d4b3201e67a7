use Rattle.std.proofs.Common.{arith, refl, map, List, ◌∙◌, ap, sym}
use Rattle.std.specs.List.{zip}
use Rattle.basics.specs.Lists.{zip_none}
use Rattle.gathering.proofs.Loops.{paired_more, paired_all}
use Rattle.prism_tree.specs.Syntax as prism
use Rattle.prism_tree.specs.declared.syntax.PrismLabel.{PrismLabel}
use Rattle.jani_tree.specs.Syntax as jani
use Rattle.name_table.specs.declared.entry.Entry.{Entry}
use Rattle.jani_translation.specs.Automata.{label_value}
use Rattle.jani_edges.specs.Code.{names_in}
use Rattle.jani_edges.proofs.locations.label_values.Goals as goal

pub loop-i-preserved : goal.loop-i-preserved
loop-i-preserved c =
    paired_more jani.write_of (λ (xs : List (PrismLabel)) (es : List Entry). map (λ p. label_value (names_in c.args.names.now) p.0 p.1) (zip (map (prism.label_of) xs) es))
    (λ x e. label_value (names_in c.args.names.now) (prism.label_of x) e) (λ x e xs es. refl) _ c.args.labels.now c.args.names.now.labels.now c.loop-i.i
    c.index-labels-i.result c.index-names-i.result c.loop-i.all _ _ (omega arith) (omega arith) c.index-labels-i.is c.index-names-i.is
    c.loop-i.invariant (c.in_ok-label_value.ensures ∙ ap (λ (z : Entry). label_value (names_in c.args.names.now) (prism.label_of c.index-labels-i.result) z) (sym c.index-names-i.is)) c.in_ok-push.ensures.ok

pub returns : goal.returns
returns c =
    paired_all (λ (xs : List (PrismLabel)) (es : List Entry). map (λ p. label_value (names_in c.args.names.now) p.0 p.1) (zip (map (prism.label_of) xs) es))
    (λ es. refl) (λ xs. zip_none (λ x e. label_value (names_in c.args.names.now) x e) (map (prism.label_of) xs)) _ _ c.args.labels.now c.args.names.now.labels.now c.shorter-count.result c.loop-i.i
    (omega arith) (omega arith) c.loop-i.invariant
