use Rattle.std.specs.Prelude.{◌≡◌, drop}
use Rattle.std.specs.List.{list_any}
use Rattle.name_rules.specs.Names.{has_name}
use Rattle.prism_check.specs.Known.{loses_by}
use Rattle.prism_check.specs.Tables.{body_under}
use Rattle.prism_check.proofs.lost_names.Reading.some_lost.Given as goal

abbrev pub invariant-loop-pair : goal.invariant-loop-pair
invariant-loop-pair l =
    list_any (loses_by (body_under l.self.formulas.now) (has_name l.self.known.now)) (drop l.pair-index l.pairs)
    ≡ list_any (loses_by (body_under l.self.formulas.now) (has_name l.self.known.now)) l.pairs
