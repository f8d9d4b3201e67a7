use Rattle.std.specs.Prelude.{◌<◌, length, map, bytes_eq, ◌||◌}
use Rattle.std.proofs.Common.{◌∙◌, sym, ap, arith}
use Rattle.name_rules.specs.Names.{has_name}
use Rattle.name_rules.specs.Circles.{declared_by}
use Rattle.name_rules.specs.Rounds.{some_use}
use Rattle.name_rules.proofs.Maps.{at}
use Rattle.name_rules.proofs.Leads.{declared_at_is, declared_get, leading_more, fewer_others, within}
use Rattle.name_rules.proofs.circles.try_add.Goals as goal

pub returns-clause-leading : goal.returns-clause-leading
returns-clause-leading c = λ y h.
    let ds = map declared_by c.args.all.now in
    let has = has_name c.args.leading.now in
    let l : c.args.i < length c.args.all.now = omega (arith, c.if-i-all.false) in
    leading_more ds y has (has_name c.add.new.self) c.args.i h (within c.args.all.now c.args.i l)
    (ap (λ d. has d.name.name) (sym (declared_get c.args.all.now c.args.i c.index-all-i.result l)) ∙ sym c.has.ensures ∙ c.if-has.false)
    (ap (some_use has) (sym (declared_at_is c.args.all.now c.args.i c.index-all-i-else-has.result l c.index-all-i-else-has.is)) ∙ sym c.some_use.ensures ∙ c.if-not-some_use.false)
    (λ x. at c.in_ok-add.ensures x
    ∙ ap (λ d. bytes_eq d.name.name x || has x) (declared_get c.args.all.now c.args.i c.index-all-i-2.result l))

pub returns-clause-turn : goal.returns-clause-turn
returns-clause-turn c =
    let ds = map declared_by c.args.all.now in
    let has = has_name c.args.leading.now in
    let l : c.args.i < length c.args.all.now = omega (arith, c.if-i-all.false) in
    fewer_others ds has (has_name c.add.new.self) c.args.i (within c.args.all.now c.args.i l)
    (ap (λ d. has d.name.name) (sym (declared_get c.args.all.now c.args.i c.index-all-i.result l)) ∙ sym c.has.ensures ∙ c.if-has.false)
    (λ x. at c.in_ok-add.ensures x
    ∙ ap (λ d. bytes_eq d.name.name x || has x) (declared_get c.args.all.now c.args.i c.index-all-i-2.result l))
