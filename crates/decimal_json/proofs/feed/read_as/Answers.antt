use Rattle.std.proofs.Common.{refl, sym, length}
use Rattle.decimal_json.specs.declared.feed.Feed.TheVariants.{Reading, Broken}
use Rattle.decimal_json.proofs.Reach as r
use Rattle.decimal_json.proofs.feed.read_as.Goals as goal

pub returns-in-Starved : goal.returns-in-Starved
returns-in-Starved c seen l s = tt

pub returns-in-Broken : goal.returns-in-Broken
returns-in-Broken c seen l s = r.broken_whole _ _ seen (r.stand_as _ (Broken c.in-Broken.from c.in-Broken.reason) seen c.in-Broken.is s)

pub returns-in-Ok-Some : goal.returns-in-Ok-Some
returns-in-Ok-Some c seen l s = r.reached_value seen c.in-Reading.state (r.stand_whole _ seen (r.stand_as _ (Reading c.in-Reading.state) seen c.in-Reading.is s)) _ (r.finishes_as c.in-Reading.state _ _ c.in-Ok-Some.field-0-is c.in-Ok-Some.ensures)

pub returns-in-Ok-None : goal.returns-in-Ok-None
returns-in-Ok-None c seen l s =
    r.least_as seen _ (length seen) _ _ (sym l) refl (r.reached_none seen c.in-Reading.state (r.stand_whole _ seen (r.stand_as _ (Reading c.in-Reading.state) seen c.in-Reading.is s)) (r.finishes_as c.in-Reading.state _ _ c.in-Ok-None.field-0-is c.in-Ok-None.ensures))

pub returns-in-Err : goal.returns-in-Err
returns-in-Err c seen l s = r.reached_far seen c.in-Reading.state (r.stand_whole _ seen (r.stand_as _ (Reading c.in-Reading.state) seen c.in-Reading.is s)) _ c.in-Err.ensures
