use Rattle.std.proofs.Common.{◌≡◌, ◌++◌, drop}
use Rattle.path_carry.specs.Carried.{chosen_labels, first_excess}
use Rattle.path_carry.proofs.choosing.chosen_labels.Given as goal

abbrev pub invariant-loop-k : goal.invariant-loop-k
invariant-loop-k g l = record {
  labels : l.new ++ chosen_labels (g.T.Steps.process l.prism) l.index.pairs.now (drop l.k l.states) (drop l.k l.labels) ≡ chosen_labels (g.T.Steps.process l.prism) l.index.pairs.now l.states l.labels;
  excess : first_excess (g.T.Steps.process l.prism) l.k (drop l.k l.states) (drop l.k l.labels) ≡ first_excess (g.T.Steps.process l.prism) 0 l.states l.labels;
}
