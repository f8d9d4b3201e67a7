use Rattle.std.proofs.Common.{map}
use Rattle.instance_start.specs.Given.{given_by}
use Rattle.name_rules.specs.Names.{under}
use Rattle.constant_folding.specs.Constants.{AreRanked, const_of}
use Rattle.constant_folding.proofs.Fitting.{made, whenever}
use Rattle.constant_folding.proofs.Turns.{are_ranked}
use Rattle.constant_folding.proofs.constants.known_table.Goals as goal

pub returns-clause-known : goal.returns-clause-known
returns-clause-known g c =
    made g.O.Operator.meaning (map const_of c.args.constants.now) (given_by c.args.given.now) (under c.in_ok-values.values) c.in_ok-values.ensures
    c.known_in_turn.result c.known_in_turn.ensures.known c.known_in_turn.ensures.given

pub returns-clause-ranked : goal.returns-clause-ranked
returns-clause-ranked g c =
    whenever (AreRanked (map const_of c.args.constants.now)) (are_ranked (map const_of c.args.constants.now) c.in_ok-order.order.items c.in_ok-order.ensures) c.known_in_turn.result
