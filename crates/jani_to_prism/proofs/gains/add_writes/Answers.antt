use Rattle.std.proofs.Common.{◌++◌, ◌∙◌, ap, map, take_all, arith, List}
use Rattle.std.specs.List.{flat_map}
use Rattle.process_core.specs.Instance.{only_if}
use Rattle.jani_tree.specs.declared.syntax.JaniWrite.{JaniWrite}
use Rattle.jani_tree.specs.Syntax.{Write, write_of}
use Rattle.jani_meaning.specs.Elements.{structure_number}
use Rattle.prism_targets.specs.Elements.{is_at}
use Rattle.choice_laws.proofs.Walks.{filter_walk}
use Rattle.gathering.specs.Lists.{list_for}
use Rattle.prism_modules.specs.Code.{file_in}
use Rattle.jani_to_prism.specs.Gains.{gain_of, gain_with}
use Rattle.gathering.proofs.Loops.{flat_seen}
use Rattle.jani_to_prism.proofs.gains.add_writes.Goals as goal

pub loop-w-preserved : goal.loop-w-preserved
loop-w-preserved c = λ j.
    flat_seen (λ (w : Write). only_if (is_at j (structure_number (file_in c.args.names.now) c.args.element w.target.name)) (gain_with c.args.target c.args.element w)) write_of
    c.args.writes.now c.loop-w.w-index c.w-item.result (map gain_of (list_for c.args.all.now j)) _ _ c.loop-w-test.true c.w-item.is (c.loop-w.invariant j) (c.in_ok-add_write.ensures j)

pub returns : goal.returns
returns c = λ j.
    let f = λ (w : Write). only_if (is_at j (structure_number (file_in c.args.names.now) c.args.element w.target.name)) (gain_with c.args.target c.args.element w) in
    c.loop-w.invariant j
    ∙ ap (λ l. map gain_of (list_for c.args.all.now j) ++ l)
    (ap (λ (l : List JaniWrite). flat_map f (map write_of l)) (take_all c.loop-w.w-index c.args.writes.now (omega arith))
    ∙ filter_walk (λ (w : Write). is_at j (structure_number (file_in c.args.names.now) c.args.element w.target.name)) (gain_with c.args.target c.args.element) (map write_of c.args.writes.now))
