use Rattle.std.proofs.Common.{◌++◌, ◌∙◌, ap, map, take_all, arith, List}
use Rattle.std.specs.List.{flat_map}
use Rattle.process_core.specs.Instance.{only_if}
use Rattle.jani_tree.specs.declared.syntax.JaniWrite.{JaniWrite}
use Rattle.jani_tree.specs.Syntax.{Write, write_of}
use Rattle.op_trees.specs.Names.{is_called}
use Rattle.choice_laws.proofs.Walks.{filter_walk}
use Rattle.gathering.specs.Lists.{list_under}
use Rattle.prism_modules.specs.Code.{element_of}
use Rattle.jani_to_prism.specs.Given.{given_of, given_with}
use Rattle.gathering.proofs.Loops.{flat_seen}
use Rattle.jani_to_prism.proofs.given.add_location.Goals as goal

pub loop-w-preserved : goal.loop-w-preserved
loop-w-preserved c = λ x.
    flat_seen (λ (w : Write). only_if (is_called x w.target) (given_with (element_of c.args.el.now) c.args.number w)) write_of
    c.as_slice-w-items.result.now c.loop-w.w-index c.w-item.result (map given_of (list_under c.args.all.now x)) _ _ c.loop-w-test.true c.w-item.is (c.loop-w.invariant x) (c.in_ok-add_value.ensures x)

pub returns : goal.returns
returns c = λ x.
    let f = λ (w : Write). only_if (is_called x w.target) (given_with (element_of c.args.el.now) c.args.number w) in
    c.loop-w.invariant x
    ∙ ap (λ l. map given_of (list_under c.args.all.now x) ++ l)
    (ap (λ (l : List JaniWrite). flat_map f (map write_of l)) (take_all c.loop-w.w-index c.as_slice-w-items.result.now (omega arith) ∙ c.as_slice-w-items.ensures)
    ∙ filter_walk (λ w. is_called x w.target) (given_with (element_of c.args.el.now) c.args.number) (map write_of c.args.l.now.values))
