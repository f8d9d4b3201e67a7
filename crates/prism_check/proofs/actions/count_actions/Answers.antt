use Rattle.std.specs.Prelude.{map, length, bytes_eq}
use Rattle.std.specs.List.{flat_map}
use Rattle.std.proofs.Common.{◌∙◌, sym, ap, subst, take_all}
use Rattle.process_core.specs.Ready.{firsts}
use Rattle.prism_tree.specs.Syntax.{module_of}
use Rattle.prism_check.specs.Counted.{actions_by, HasEach}
use Rattle.prism_check.specs.Tables.{module_under}
use Rattle.prism_check.proofs.Acting.{names_more, none_yet}
use Rattle.prism_check.proofs.actions.count_actions.Goals as goal

pub loop-entry-init : goal.loop-entry-init
loop-entry-init c = none_yet _ c.new-actions.ensures.empty

pub loop-entry-preserved : goal.loop-entry-preserved
loop-entry-preserved c =
    subst (HasEach c.add_actions.new.actions) (sym (names_more (actions_by (module_under c.args.modules.now)) module_of c.args.all.now c.loop-entry.entry-index c.entry-item.result c.loop-entry-test.true c.entry-item.is))
    (c.in_ok-add_actions.ensures _ c.loop-entry.invariant)

pub returns : goal.returns
returns c =
    c.len-count.ensures.len ∙ c.loop-entry.invariant.count
    ∙ ap (λ ms. length (firsts bytes_eq (flat_map (actions_by (module_under c.args.modules.now)) (map module_of ms)))) (take_all c.loop-entry.entry-index c.args.all.now c.loop-entry-test.false)
