use Rattle.std.proofs.Common.{◌∙◌, ap, ap₂, sym}
use Rattle.name_rules.specs.Names.{under}
use Rattle.jani_tree.specs.Syntax.{element_of}
use Rattle.gathering.proofs.Loops.{any_here, any_left}
use Rattle.prism_targets.specs.Crowds.{crowded_by, has_many}
use Rattle.prism_targets.proofs.crowds.some_crowded.Goals as goal

pub loop-e-preserved : goal.loop-e-preserved
loop-e-preserved c =
    let t = c.args.automata.now in
    any_left (crowded_by t) element_of c.args.elements.now c.loop-e.e-index c.e-item.result _ c.loop-e-test.true c.e-item.is
    (sym (c.in_ok-is_crowded.ensures ∙ ap₂ has_many c.as_slice.ensures (c.get-automaton.ensures ∙ ap (under t) c.as_str.ensures)) ∙ c.if-branch.false)
    c.loop-e.invariant

pub returns-then-branch : goal.returns-then-branch
returns-then-branch c =
    let t = c.args.automata.now in
    sym (any_here (crowded_by t) element_of c.args.elements.now c.loop-e.e-index c.e-item.result _ c.loop-e-test.true c.e-item.is
    (sym (c.in_ok-is_crowded.ensures ∙ ap₂ has_many c.as_slice.ensures (c.get-automaton.ensures ∙ ap (under t) c.as_str.ensures)) ∙ c.if-branch.true)
    c.loop-e.invariant)
