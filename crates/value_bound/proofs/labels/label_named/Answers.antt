use Rattle.std.proofs.Common.{rules, ◌≡◌, arith, true, false}
use Rattle.std.specs.Prelude.{bytes_eq}
use Rattle.value_bound.proofs.Named.{name_here, name_past}
use Rattle.value_bound.proofs.labels.label_named.Goals as goal

pub returns-then-eq-clause-number : goal.returns-then-eq-clause-number
returns-then-eq-clause-number g c =
    let p = g.S.Steps.process c.args.s.now in
    name_here p.mark_names p.labels c.loop-i.i c.args.name.now c.in_ok-text.text (g.met.S.Steps.lawful c.args.s.now).labels (let e = c.label_count-i-end.ensures in let t = c.loop-i-test.true in omega arith) c.in_ok-text.ensures
    _ c.loop-i.invariant (let q : bytes_eq c.in_ok-text.text c.args.name.now ≡ true = search rules in q)

pub loop-i-preserved : goal.loop-i-preserved
loop-i-preserved g c =
    let p = g.S.Steps.process c.args.s.now in
    name_past p.mark_names p.labels c.loop-i.i c.args.name.now c.in_ok-text.text (g.met.S.Steps.lawful c.args.s.now).labels (let e = c.label_count-i-end.ensures in let t = c.loop-i-test.true in omega arith) c.in_ok-text.ensures
    _ c.loop-i.invariant (let q : bytes_eq c.in_ok-text.text c.args.name.now ≡ false = search rules in q)
