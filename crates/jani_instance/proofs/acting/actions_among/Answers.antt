use Rattle.std.proofs.Common.{◌≡◌, ◌+◌, ◌∙◌, ap, sym, refl, arith, subst, map, take}
use Rattle.std.specs.Prelude.{Some, None}
use Rattle.std.specs.Option.{option_map}
use Rattle.bridge_io.specs.declared.reason.Named.{Named}
use Rattle.jani_tree.specs.Syntax.{edge_of}
use Rattle.jani_instance.specs.Actions.{AreNumbered, actions_among, with_action}
use Rattle.jani_instance.proofs.Numbering.{among_more}
use Rattle.jani_instance.proofs.acting.actions_among.Goals.{in-Some+in_ok-add_action-in-Some, in-None}
use Rattle.jani_instance.proofs.acting.actions_among.Goals as goal

pub loop-edge-init : goal.loop-edge-init
loop-edge-init c = (record { count = refl; numbers = λ x. ap (λ f. f x) c.new.ensures }, omega arith)

pub loop-edge-preserved : goal.loop-edge-preserved
loop-edge-preserved c =
    let e = c.edge-item.result in
    let xs = c.args.these.now in
    let i = c.loop-edge.edge-index in
    let l = actions_among (map edge_of (take i xs)) in
    let m = actions_among (map edge_of (take (i + 1) xs)) in
    elim c.match-edge.branch [
      | in-Some+in_ok-add_action-in-Some w ↦
          let more : m ≡ with_action w.as_str.result.now l =
          among_more xs i e c.loop-edge-test.true c.edge-item.is (Some w.in-Some.name.name) (ap (option_map (λ (n : Named). n.name)) w.in-Some.is)
          ∙ ap (λ x. with_action x l) (sym w.as_str.ensures) in
          let same : c.match-edge.all.count ≡ w.add_action.new.all.count = ap (λ t. t.count) w.all-is in
          let bound = w.in_ok-add_action-in-Some.ensures.bound in
          let before = c.loop-edge.invariant.1 in
          (subst (λ t. AreNumbered m t) (sym w.all-is) (subst (λ k. AreNumbered k w.add_action.new.all) (sym more) (w.in_ok-add_action-in-Some.ensures.numbered l c.loop-edge.invariant.0)), omega (arith, same, bound, before))
      | in-None w ↦
          let more : m ≡ l = among_more xs i e c.loop-edge-test.true c.edge-item.is None (ap (option_map (λ (n : Named). n.name)) w.in-None.is) in
          let same : c.match-edge.all.count ≡ c.loop-edge.all.count = ap (λ t. t.count) w.all-is in
          let before = c.loop-edge.invariant.1 in
          (subst (λ t. AreNumbered m t) (sym w.all-is) (subst (λ k. AreNumbered k c.loop-edge.all) (sym more) c.loop-edge.invariant.0), omega (arith, same, before))
    ]
