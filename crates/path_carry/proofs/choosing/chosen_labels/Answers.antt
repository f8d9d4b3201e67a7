use Rattle.std.proofs.Common.{◌+◌, ◌++◌, ap, sym, subst, ◌∙◌, drop, arith, append-nil, Err}
use Rattle.path_carry.specs.Carried.{chosen_labels}
use Rattle.path_carry.specs.Chosen.{Chooses}
use Rattle.path_carry.proofs.Loops.{chosen_more, excess_more, fails_here, chosen_end, excess_end}
use Rattle.path_carry.proofs.choosing.chosen_labels.Goals as goal

pub loop-k-preserved : goal.loop-k-preserved
loop-k-preserved g c =
    let p = g.T.Steps.process c.args.prism.now in
    let ps = c.args.index.now.pairs.now in
    let ss = c.args.states.now in
    let ls = c.args.labels.now in
    let k = c.loop-k.k in
    let s = c.index-states-k.result in
    let t = c.index-states-k-in-loop-k.result in
    let l = c.index-labels-k.result in
    let lengths = c.requires.lengths in
    record {
      labels = ap (λ r. r ++ chosen_labels p ps (drop (k + 1) ss) (drop (k + 1) ls)) c.in_ok-push-in-Ok.ensures.ok
          ∙ chosen_more p ps k ss ls s t l (omega arith) (omega arith) c.index-states-k.is c.index-states-k-in-loop-k.is c.index-labels-k.is c.loop-k.new _ _ c.in-Ok.ensures.1 c.loop-k.invariant.labels;
      excess = excess_more p ps k ss ls s t l (omega arith) (omega arith) c.index-states-k.is c.index-states-k-in-loop-k.is c.index-labels-k.is _ c.in-Ok.ensures.0 c.loop-k.invariant.excess;
    }

pub returns : goal.returns
returns g c =
    let p = g.T.Steps.process c.args.prism.now in
    let k = c.loop-k.k in
    let ss = c.args.states.now in
    let ls = c.args.labels.now in (
      sym c.loop-k.invariant.excess ∙ excess_end p k ss ls (omega arith),
      sym (append-nil c.loop-k.new) ∙ ap (λ r. c.loop-k.new ++ r) (sym (chosen_end p c.args.index.now.pairs.now k ss ls (omega arith))) ∙ c.loop-k.invariant.labels,
    )

pub returns-in-Err : goal.returns-in-Err
returns-in-Err g c =
    let p = g.T.Steps.process c.args.prism.now in
    let ps = c.args.index.now.pairs.now in
    let ss = c.args.states.now in
    let ls = c.args.labels.now in
    let lengths = c.requires.lengths in
    subst (λ f. Chooses p ps ss ls (Err f)) (sym c.fail_at.ensures)
    (fails_here p ps c.loop-k.k ss ls c.index-states-k.result c.index-states-k-in-loop-k.result c.index-labels-k.result (omega arith) (omega arith) c.index-states-k.is c.index-states-k-in-loop-k.is c.index-labels-k.is c.in-Err.fail
    c.in-Err.ensures c.loop-k.invariant.excess)
