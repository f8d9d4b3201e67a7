use Rattle.std.proofs.Common.{arith, refl, map, List}
use Rattle.std.specs.Borrow.{Bor}
use Rattle.std.specs.List.{zip}
use Rattle.basics.specs.Lists.{zip_none}
use Rattle.gathering.proofs.Loops.{paired_more, paired_all}
use Rattle.prism_tree.specs.Syntax as prism
use Rattle.prism_tree.specs.declared.syntax.PrismVar.{PrismVar}
use Rattle.jani_tree.specs.Syntax as jani
use Rattle.name_table.specs.declared.entry.Entry.{Entry}
use Rattle.jani_edges.specs.Parts.{variable}
use Rattle.jani_edges.specs.Code.{name_in}
use Rattle.jani_automata.proofs.parts.add_variables.Goals as goal

pub loop-i-preserved : goal.loop-i-preserved
loop-i-preserved c =
    paired_more jani.var_of (λ (xs : List (Bor PrismVar)) (es : List Entry). map (λ p. variable (name_in c.args.names.now) c.args.has_condition p.0 p.1) (zip (map (λ (x : Bor PrismVar). prism.var_of x.now) xs) es))
    (λ x e. variable (name_in c.args.names.now) c.args.has_condition ((λ (y : Bor PrismVar). prism.var_of y.now) x) e) (λ x e xs es. refl) _ c.args.vars.now c.args.entries.now c.loop-i.i
    c.index-vars-i.result c.index-entries-i.result c.loop-i.all _ _ (omega arith) (omega arith) c.index-vars-i.is c.index-entries-i.is
    c.loop-i.invariant c.in_ok-variable.ensures c.in_ok-push.ensures.ok

pub returns : goal.returns
returns c =
    paired_all (λ (xs : List (Bor PrismVar)) (es : List Entry). map (λ p. variable (name_in c.args.names.now) c.args.has_condition p.0 p.1) (zip (map (λ (x : Bor PrismVar). prism.var_of x.now) xs) es))
    (λ es. refl) (λ xs. zip_none (λ x e. variable (name_in c.args.names.now) c.args.has_condition x e) (map (λ (x : Bor PrismVar). prism.var_of x.now) xs)) _ _ c.args.vars.now c.args.entries.now c.shorter-count.result c.loop-i.i
    (omega arith) (omega arith) c.loop-i.invariant
