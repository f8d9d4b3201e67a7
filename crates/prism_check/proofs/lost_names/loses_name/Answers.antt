use Rattle.std.specs.Prelude.{length, map, ◌||◌, IfOk}
use Rattle.std.specs.List.{flat_map, list_any}
use Rattle.std.proofs.Common.{◌≡◌, ◌∙◌, sym, ap, subst}
use Rattle.prism_check.specs.Levels.{level, lost_in, names_read}
use Rattle.prism_check.specs.Tables.{body_in}
use Rattle.prism_check.specs.Views.{demand_by}
use Rattle.prism_check.proofs.Levels.{demands_written_out}
use Rattle.prism_check.proofs.lost_names.loses_name.Goals as goal

pub returns-then-some_write_lost : goal.returns-then-some_write_lost
returns-then-some_write_lost c =
    let fs = c.args.formulas.now in
    let lost = lost_in c.args.reading.now in
    let ds = map demand_by c.args.demands.now in
    sym (demands_written_out (body_in fs) lost (length fs) ds
    ∙ ap (λ b. b || list_any (level (body_in fs) lost (length fs)) (flat_map names_read ds)) (sym c.some_write_lost.ensures ∙ c.if-some_write_lost.true))

pub returns : goal.returns
returns c =
    let fs = c.args.formulas.now in
    let lost = lost_in c.args.reading.now in
    let ds = map demand_by c.args.demands.now in
    subst (λ v. IfOk c.leads_to_lost.result (λ b. b ≡ v))
    (ap (list_any (level (body_in fs) lost (length fs))) c.in_ok-left.ensures
    ∙ sym (demands_written_out (body_in fs) lost (length fs) ds
    ∙ ap (λ b. b || list_any (level (body_in fs) lost (length fs)) (flat_map names_read ds)) (sym c.some_write_lost.ensures ∙ c.if-some_write_lost.false)))
    c.leads_to_lost.ensures
