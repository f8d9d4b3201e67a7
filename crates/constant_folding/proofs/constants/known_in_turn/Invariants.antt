use Rattle.std.proofs.Common.{◌≡◌, ℕ, List, map, take}
use Rattle.name_rules.specs.Circles.{HasTurned}
use Rattle.name_rules.specs.Names.{under}
use Rattle.constant_folding.specs.Constants.{const_of, declared, known_constants}
use Rattle.constant_folding.specs.Tables.{given_in, known_in}
use Rattle.constant_folding.proofs.constants.known_in_turn.Given as goal

abbrev pub invariant-loop-turn : goal.invariant-loop-turn
invariant-loop-turn g l = record {
  known : (x : List ℕ) → HasTurned (map declared (map const_of l.constants)) (take l.turn-index l.order) x →
      known_in l.table x ≡ known_constants g.O.Operator.meaning (map const_of l.constants) (under l.fn.given) x;
  given : given_in l.table ≡ under l.fn.given;
}
