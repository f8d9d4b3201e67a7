use Rattle.std.proofs.Common.{◌≡◌, ◌+◌, drop}
use Rattle.path_carry.specs.Carried.{lost_line, lost_step}
use Rattle.path_carry.proofs.lost.lost_line.Given as goal

abbrev pub invariant-loop-k : goal.invariant-loop-k
invariant-loop-k g l =
    lost_line (g.S.Steps.process l.s).is_state (g.D.Direction.has l.index.pairs.now) l.path
    ≡ lost_step (g.S.Steps.process l.s).is_state (g.D.Direction.has l.index.pairs.now) (l.k + 1) (drop (l.k + 1) l.states) (drop l.k l.path.labels)
