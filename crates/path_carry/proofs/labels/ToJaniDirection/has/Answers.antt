use Rattle.std.proofs.Common.{ap, sym, ◌∙◌}
use Rattle.carry_maps.specs.Maps.{has_pair}
use Rattle.path_carry.proofs.Places.{told_any}
use Rattle.path_carry.proofs.labels.ToJaniDirection.has.Goals as goal

pub returns-in-Some : goal.returns-in-Some
returns-in-Some c = c.is_some.ensures ∙ told_any _ c.args.index.now.pairs.now c.pair_of.result c.pair_of.ensures ∙ sym (ap (has_pair c.args.index.now.pairs.now) c.in-Some.is)
