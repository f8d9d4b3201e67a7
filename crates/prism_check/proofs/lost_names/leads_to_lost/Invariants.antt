use Rattle.std.specs.Prelude.{◌+◌, length, map}
use Rattle.name_rules.specs.Names.{has_name}
use Rattle.prism_check.specs.Levels.{lost_in, names_unmet, AreMet}
use Rattle.prism_check.proofs.lost_names.leads_to_lost.Given as goal

abbrev pub invariant-loop-name : goal.invariant-loop-name
invariant-loop-name l =
    AreMet l.formulas (lost_in l.reading) (map (λ s. s.now) l.initial.left.items) (has_name l.met) (map (λ s. s.now) l.left.items)

abbrev pub decreases-loop-name : goal.decreases-loop-name
decreases-loop-name l = names_unmet l.formulas (has_name l.met) + length (map (λ s. s.now) l.left.items)
