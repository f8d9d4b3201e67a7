use Rattle.std.proofs.Common.{arith}
use Rattle.frac_core.proofs.Readings.{held, section_more, reading_more}
use Rattle.frac_core.proofs.numeral.NumeralRead.with.Goals as goal

pub returns : goal.returns
returns c text r l =
    let h = held text c.args.self.reading r.reading in
    record {
      section = section_more text c.args.byte _ _ r.section c.behind.ensures;
      reading = reading_more text c.args.byte _ _ _ r.section r.reading (c.with_byte.ensures h.digits (omega (arith, h.places, l)) h.power);
    }
