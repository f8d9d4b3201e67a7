use Rattle.basics.specs.Options.{if_some}
use Rattle.prop_grammar.specs.Syntax.{written_of}
use Rattle.prop_trees.specs.PrismFaults.{unknown_structure}
use Rattle.prop_trees.specs.Trees.{structure_of}
use Rattle.prop_check.proofs.Stepping.{nested_next}
use Rattle.prop_check.proofs.names.judge_structures.Goals as goal

pub loop-p-preserved : goal.loop-p-preserved
loop-p-preserved c =
    nested_next written_of (λ p. if_some (structure_of p.ask)) (unknown_structure c.args.scope.now.file) c.args.all.now c.loop-p.p-index _ c.loop-p.best _ _
    c.loop-p-test.true c.p-item.is c.judge_query-best.ensures c.loop-p.invariant
