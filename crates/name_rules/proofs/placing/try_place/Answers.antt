use Rattle.std.specs.Prelude.{◌<◌, ◌+◌, true, false, length, map, set, bytes_eq}
use Rattle.std.proofs.Common.{◌≡◌, ◌∙◌, sym, ap, subst, arith, rules}
use Rattle.name_rules.specs.Circles.{Declared}
use Rattle.name_rules.specs.Rounds.{count_in, one_if, is_placed, is_blocked, IsPlacing}
use Rattle.name_rules.specs.Circles.{declared_by}
use Rattle.name_rules.proofs.Leads.{declared_at_is, declared_get, within}
use Rattle.name_rules.proofs.Placed.{fewer_left, placing_more, open_less}
use Rattle.name_rules.proofs.placing.try_place.Goals as goal

pub less-requires : goal.less-requires
less-requires c =
    let all = c.args.all.now in
    let p = c.args.placing.now in
    let i = c.args.i in
    let l : i < length all = omega (arith, c.if-i-all.false) in
    let out : is_placed p.placed.items i ≡ false = search rules in
    subst (λ (d : Declared). 0 < count_in p.waiting d.name.name) (sym (declared_get all i c.index-all-i-2.result l))
    (fewer_left (map declared_by all) (count_in p.waiting) p.placed.items p.turns.items c.requires i (within all i l) out
    (ap (is_blocked (count_in p.waiting)) (sym (declared_at_is all i c.index-all-i.result l c.index-all-i.is)) ∙ sym c.some_use.ensures ∙ c.if-some_use.false))

pub returns-clause-placed : goal.returns-clause-placed
returns-clause-placed c =
    let all = c.args.all.now in
    let p = c.args.placing.now in
    let i = c.args.i in
    let l : i < length all = omega (arith, c.if-i-all.false) in
    let out : is_placed p.placed.items i ≡ false = search rules in
    subst (λ ts. IsPlacing (map declared_by all) (count_in c.less.new.self) (set p.placed.items i true) ts) (sym c.in_ok-push.ensures.items)
    (placing_more (map declared_by all) (count_in p.waiting) p.placed.items p.turns.items c.requires i (within all i l) out
    (ap (is_blocked (count_in p.waiting)) (sym (declared_at_is all i c.index-all-i.result l c.index-all-i.is)) ∙ sym c.some_use.ensures ∙ c.if-some_use.false)
    (count_in c.less.new.self)
    (λ x. c.in_ok-less.ensures x
    ∙ ap (λ d. one_if (bytes_eq d.name.name x) + count_in c.less.new.self x) (declared_get all i c.index-all-i-2.result l)))

pub returns-clause-turn : goal.returns-clause-turn
returns-clause-turn c =
    let p = c.args.placing.now in
    let l : c.args.i < length p.placed.items = (let s = c.requires.size in let k = within c.args.all.now c.args.i (omega (arith, c.if-i-all.false)) in omega (arith, s, k)) in
    let out : is_placed p.placed.items c.args.i ≡ false = search rules in
    open_less p.placed.items c.args.i l out
