use Rattle.std.specs.Prelude.{◌≤◌, ◌+◌, length, map, [], unwrap_or, bytes_eq, if◌then◌else◌}
use Rattle.std.proofs.Common.{◌∙◌, arith, sym, ap, subst, rules}
use Rattle.name_rules.specs.Rounds.{count_in, waiting}
use Rattle.name_rules.specs.Circles.{declared_by}
use Rattle.name_rules.proofs.Maps.{at}
use Rattle.name_rules.proofs.Waited.{count_fits, counted_more}
use Rattle.name_rules.proofs.waiting.Waiting.of.Goals as goal

pub loop-declaration-init : goal.loop-declaration-init
loop-declaration-init c = λ x. ap (λ o. unwrap_or o 0 + waiting (map declared_by c.args.all.now) [] x) (at c.new.ensures x) ∙ omega arith

pub overflow_add-count : goal.overflow_add-count
overflow_add-count c =
    let few : c.count-count.result + 1 ≤ length c.args.all.now =
    subst (λ n. n + 1 ≤ length c.args.all.now) (sym c.count-count.ensures)
    (count_fits c.args.all.now c.loop-declaration.declaration-index c.declaration-item.result (count_in c.loop-declaration.waiting)
    c.loop-declaration-test.true c.declaration-item.is c.loop-declaration.invariant) in
    search (rules, few, c.loop-declaration.auto)

pub loop-declaration-preserved : goal.loop-declaration-preserved
loop-declaration-preserved c =
    counted_more c.args.all.now c.loop-declaration.declaration-index c.declaration-item.result (count_in c.loop-declaration.waiting) (count_in c.put.new.self)
    c.loop-declaration-test.true c.declaration-item.is
    (λ x. c.in_ok-put.ensures x ∙ ap (λ n. if bytes_eq c.declaration-item.result.name.now x then n + 1 else count_in c.loop-declaration.waiting x) c.count-count.ensures)
    c.loop-declaration.invariant
