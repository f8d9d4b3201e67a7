use Rattle.std.specs.Prelude.{Some, get_or, map, reverse, if◌then◌else◌}
use Rattle.std.proofs.Common.{◌∙◌, sym, ap, ap₂}
use Rattle.std.proofs.lemmas.List.{take_all}
use Rattle.name_rules.specs.Doubled.{lower, lowest_of}
use Rattle.name_rules.specs.Names.{named_by}
use Rattle.name_rules.proofs.Clashes.{no_entry, before_more}
use Rattle.name_rules.proofs.doubled.lowest_among.Goals as goal

pub loop-n-preserved : goal.loop-n-preserved
loop-n-preserved c =
    let es = c.args.earlier.now in
    let e = get_or es c.loop-n.n-index no_entry in
    c.lowered_if-lowest.ensures
    ∙ ap₂ (λ b o. if b then Some (lower o e.at) else o) c.eq.ensures c.loop-n.invariant
    ∙ sym (ap (lowest_of c.args.name.now) (before_more es c.loop-n.n-index c.loop-n-test.true))

pub returns : goal.returns
returns c =
    c.loop-n.invariant
    ∙ ap (λ es. lowest_of c.args.name.now (reverse (map named_by es))) (take_all c.loop-n.n-index c.args.earlier.now c.loop-n-test.false)
