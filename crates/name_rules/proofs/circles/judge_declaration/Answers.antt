use Rattle.std.specs.Prelude.{map, nat_lt}
use Rattle.std.proofs.Common.{◌∙◌, sym, ap}
use Rattle.bridge_io.specs.declared.reason.Reason.TheVariants.{Cycle}
use Rattle.name_rules.specs.Least.{fault_if, soonest}
use Rattle.name_rules.specs.Circles.{is_circular}
use Rattle.name_rules.specs.Rounds.{count_in, is_past}
use Rattle.name_rules.specs.Circles.{declared_at, declared_by}
use Rattle.name_rules.proofs.Leads.{declared_at_is, within}
use Rattle.name_rules.proofs.Placed.{free_name}
use Rattle.name_rules.proofs.Ranked.{apart_in}
use Rattle.name_rules.proofs.Turns.{past_stays}
use Rattle.name_rules.proofs.circles.judge_declaration.Goals.{then-not-tells-via-then-not-tells, then-not-tells-via-else-not-tells+then-is_past}
use Rattle.name_rules.proofs.circles.judge_declaration.Goals as goal

pub returns-then-not-tells : goal.returns-then-not-tells
returns-then-not-tells c =
    let all = c.args.all.now in
    let i = c.args.i in
    let p = c.args.placing.now in
    let ds = map declared_by all in
    let same = declared_at_is all i c.index-all-i.result c.requires.within c.index-all-i.is in
    elim c.then-not-tells.branch [
      | then-not-tells-via-then-not-tells w ↦
          sym (ap (λ b. soonest c.args.before (fault_if b (declared_at ds i).name.at Cycle))
          (free_name ds (count_in p.waiting) p.placed.items p.turns.items c.requires.placed i (within all i c.requires.within)
          (ap (λ d. nat_lt 0 (count_in p.waiting d.name.name)) (sym same) ∙ sym c.tells.ensures ∙ w.if-not-tells.true)))
      | then-not-tells-via-else-not-tells+then-is_past w ↦
          sym (past_stays c.args.before (declared_at ds i).name.at (is_circular ds (declared_at ds i)) Cycle
          (ap (λ d. is_past c.args.before d.name.at) (sym same) ∙ sym w.is_past.ensures ∙ w.if-is_past.true))
    ]

pub returns-then-is_apart : goal.returns-then-is_apart
returns-then-is_apart c =
    let all = c.args.all.now in
    let ds = map declared_by all in
    let d = declared_by c.index-all-i.result in
    let apart = apart_in all c.args.ranks d c.requires.falling (c.is_apart.ensures c.if-is_apart.true) in
    sym (ap (λ b. soonest c.args.before (fault_if b (declared_at ds c.args.i).name.at Cycle))
    (ap (is_circular ds) (sym (declared_at_is all c.args.i c.index-all-i.result c.requires.within c.index-all-i.is)) ∙ apart))
