use Rattle.std.proofs.Common.{◌∙◌, sym, ap, map, List, Bool, Ok, Err, if◌then◌else◌}
use Rattle.std.specs.List.{flat_map}
use Rattle.std.proofs.lemmas.List.{at_drop_all}
use Rattle.basics.specs.Lists.{drop_item}
use Rattle.basics.specs.Members.{any-map}
use Rattle.frac_core.specs.Sums.{total}
use Rattle.op_trees.specs.declared.tree.EvalFail.TheVariants as Fail
use Rattle.process_core.specs.Choices.{is_false}
use Rattle.state_choices.specs.declared.data.Item.{Item}
use Rattle.state_choices.specs.Views.{item_of}
use Rattle.state_choices.specs.Items.{numbers_of, number_in, is_wide_item, is_undefined_item}
use Rattle.state_choices.proofs.Partial.{sums_run, so_far_none, so_far_all}
use Rattle.state_choices.proofs.Items.{wide_trimmed, undefined_trimmed, numbers_trimmed, item_more, item_wide}
use Rattle.state_choices.proofs.rewards.sum_of.Goals as goal

pub loop-item-init : goal.loop-item-init
loop-item-init c = so_far_none sums_run (flat_map numbers_of (map item_of c.args.items.now)) c.zero-sum.result c.zero-sum.ensures

pub loop-item-preserved : goal.loop-item-preserved
loop-item-preserved c =
    let i = item_of c.item-item.result in
    item_more (flat_map numbers_of (map item_of c.args.items.now)) _ _ (is_false i.guard.value) (number_in i) c.loop-item.sum c.in-Ok.more
    (ap (λ (l : List Item). flat_map numbers_of (map item_of l)) (drop_item c.args.items.now c.loop-item.item-index c.item-item.result c.loop-item-test.true c.item-item.is))
    (sym c.added.ensures ∙ c.in-Ok.is) c.loop-item.invariant

pub returns-then-has_wide_item : goal.returns-then-has_wide_item
returns-then-has_wide_item c =
    sym (wide_trimmed (map item_of c.args.items.now) (any-map is_wide_item item_of c.args.items.now ∙ sym c.has_wide_item.ensures ∙ c.if-has_wide_item.true))

pub returns-then-has_undefined_item : goal.returns-then-has_undefined_item
returns-then-has_undefined_item c =
    sym (undefined_trimmed (map item_of c.args.items.now) (any-map is_wide_item item_of c.args.items.now ∙ sym c.has_wide_item.ensures ∙ c.if-has_wide_item.false)
    (any-map is_undefined_item item_of c.args.items.now ∙ sym c.has_undefined_item.ensures ∙ c.if-has_undefined_item.true))

pub returns-in-Err : goal.returns-in-Err
returns-in-Err c =
    let i = item_of c.item-item.result in
    let is = map item_of c.args.items.now in
    let wide =
    item_wide (flat_map numbers_of is) _ _ (is_false i.guard.value) (number_in i) c.loop-item.sum c.in-Err.field-0
    (ap (λ (l : List Item). flat_map numbers_of (map item_of l)) (drop_item c.args.items.now c.loop-item.item-index c.item-item.result c.loop-item-test.true c.item-item.is))
    (sym c.added.ensures ∙ c.in-Err.is) c.loop-item.invariant in
    sym (numbers_trimmed is (any-map is_wide_item item_of c.args.items.now ∙ sym c.has_wide_item.ensures ∙ c.if-has_wide_item.false)
    (any-map is_undefined_item item_of c.args.items.now ∙ sym c.has_undefined_item.ensures ∙ c.if-has_undefined_item.false)
    ∙ ap (λ (b : Bool). if b then Err Fail.Wide else Ok (total (flat_map numbers_of is))) wide)

pub returns : goal.returns
returns c =
    let is = map item_of c.args.items.now in
    let e = so_far_all sums_run (flat_map numbers_of is) _ c.loop-item.sum (at_drop_all (λ (l : List Item). flat_map numbers_of (map item_of l)) c.args.items.now c.loop-item.item-index c.loop-item-test.false) c.loop-item.invariant in
    sym (numbers_trimmed is (any-map is_wide_item item_of c.args.items.now ∙ sym c.has_wide_item.ensures ∙ c.if-has_wide_item.false)
    (any-map is_undefined_item item_of c.args.items.now ∙ sym c.has_undefined_item.ensures ∙ c.if-has_undefined_item.false)
    ∙ ap (λ (b : Bool). if b then Err Fail.Wide else Ok (total (flat_map numbers_of is))) e.0 ∙ ap Ok (sym e.1))
