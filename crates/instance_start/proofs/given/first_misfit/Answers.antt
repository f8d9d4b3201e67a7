use Rattle.std.proofs.Common.{◌≡◌, ◌∙◌, sym, ap, map, not, false, Some, None}
use Rattle.std.specs.Prelude.{length, if◌then◌else◌}
use Rattle.std.specs.List.{list_any}
use Rattle.std.proofs.lemmas.List.{at_drop_all}
use Rattle.name_rules.specs.Names.{under}
use Rattle.instance_start.specs.Columns.{constant_of}
use Rattle.instance_start.specs.Given.{fits}
use Rattle.instance_start.proofs.Called.{fitting_misfit}
use Rattle.instance_start.proofs.given.first_misfit.Goals as goal

pub returns-then-has_missing : goal.returns-then-has_missing
returns-then-has_missing c =
    let cs = map constant_of c.args.constants.now in
    let given = c.args.given.now in
    let fit : list_any (λ g. not (fits cs g)) given ≡ false = c.loop-i.invariant.any ∙ at_drop_all (list_any (λ g. not (fits cs g))) given c.loop-i.i c.loop-i-test.false in
    ap (λ b. if b then Some (length given) else None) (sym c.if-has_missing.true) ∙ fitting_misfit cs given (under c.args.values.now) c.has_missing.result fit c.requires.values c.has_missing.ensures

pub returns-else-has_missing : goal.returns-else-has_missing
returns-else-has_missing c =
    let cs = map constant_of c.args.constants.now in
    let given = c.args.given.now in
    let fit : list_any (λ g. not (fits cs g)) given ≡ false = c.loop-i.invariant.any ∙ at_drop_all (list_any (λ g. not (fits cs g))) given c.loop-i.i c.loop-i-test.false in
    ap (λ b. if b then Some (length given) else None) (sym c.if-has_missing.false) ∙ fitting_misfit cs given (under c.args.values.now) c.has_missing.result fit c.requires.values c.has_missing.ensures
