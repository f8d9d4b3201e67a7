use Rattle.std.proofs.Common.{◌∙◌, ◌+◌, sym, ap, subst, take, get_or}
use Rattle.std.specs.Prelude.{slice_set}
use Rattle.std.specs.Option.{option_map}
use Rattle.std.proofs.lemmas.List.{take_more}
use Rattle.basics.specs.Lists.{at_take_all}
use Rattle.std.proofs.lemmas.Option.{slice_get-get_or}
use Rattle.op_trees.specs.Tree.{tree}
use Rattle.name_rules.specs.Names.{under}
use Rattle.prism_tree.specs.Syntax.{const_of, file_of}
use Rattle.prism_check.specs.Scene.{constant_seen}
use Rattle.state_choices.specs.Trimmed.{computed}
use Rattle.prism_instance.specs.Constants.{AreTurned}
use Rattle.prism_instance.specs.Views.{names_by}
use Rattle.prism_instance.proofs.TableLaws.{constant_there, seen_right, turned_more, all_names, wide_there}
use Rattle.prism_instance.proofs.constants.constant_values.Goals as goal

pub returns-then-is_wide : goal.returns-then-is_wide
returns-then-is_wide c =
    let file = file_of c.args.file.now in
    let v = under c.args.given.now in
    let k = c.loop-turn.turn-index in
    let t = get_or c.args.order.now k 0 in
    let one = c.index-as_slice-turn.result in
    let there = constant_there c.args.file.now.constants c.args.order.now c.requires.turns.within k c.loop-turn-test.true one (c.index-as_slice-turn.is ∙ ap (λ l. get_or l t one) c.as_slice.ensures) in
    let right = c.value_under-value.ensures
    ∙ ap (λ l. computed (constant_seen (v one.name.name) (names_by c.args.places.now l) (option_map tree one.value))) c.as_slice-in-loop-turn.ensures.value
    ∙ ap computed
    (seen_right file v c.requires.form c.args.order.now c.requires.turns c.args.places.now c.requires.places c.loop-turn.table.items k t (const_of one)
    (slice_get-get_or c.args.order.now k 0 c.loop-turn-test.true) there c.loop-turn.invariant) in
    wide_there file v t (const_of one) there c.value_under-value.result right (sym c.is_wide.ensures ∙ c.if-is_wide.true)

pub loop-turn-preserved : goal.loop-turn-preserved
loop-turn-preserved c =
    let file = file_of c.args.file.now in
    let v = under c.args.given.now in
    let k = c.loop-turn.turn-index in
    let t = get_or c.args.order.now k 0 in
    let one = c.index-as_slice-turn.result in
    let there = constant_there c.args.file.now.constants c.args.order.now c.requires.turns.within k c.loop-turn-test.true one (c.index-as_slice-turn.is ∙ ap (λ l. get_or l t one) c.as_slice.ensures) in
    let right = c.value_under-value.ensures
    ∙ ap (λ l. computed (constant_seen (v one.name.name) (names_by c.args.places.now l) (option_map tree one.value))) c.as_slice-in-loop-turn.ensures.value
    ∙ ap computed
    (seen_right file v c.requires.form c.args.order.now c.requires.turns c.args.places.now c.requires.places c.loop-turn.table.items k t (const_of one)
    (slice_get-get_or c.args.order.now k 0 c.loop-turn-test.true) there c.loop-turn.invariant) in
    let next = turned_more file v c.loop-turn.table.items (take k c.args.order.now) c.loop-turn.invariant t (const_of one) there c.value_under-value.result right (sym c.is_wide.ensures ∙ c.if-is_wide.false) in
    subst (λ x. AreTurned file v (slice_set c.loop-turn.table.items t x) (take (k + 1) c.args.order.now)) (sym c.defined.ensures)
    (subst (AreTurned file v (slice_set c.loop-turn.table.items t _)) (sym (take_more c.args.order.now k 0 c.loop-turn-test.true)) next)

pub returns : goal.returns
returns c =
    let file = file_of c.args.file.now in
    let v = under c.args.given.now in
    all_names file v c.requires.form c.args.order.now c.requires.turns c.loop-turn.table.items
    (subst (AreTurned file v c.loop-turn.table.items) (at_take_all (λ l. l) c.args.order.now c.loop-turn.turn-index c.loop-turn-test.false) c.loop-turn.invariant)
