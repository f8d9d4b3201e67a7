use Rattle.std.proofs.Common.{◌∙◌, ◌<◌, [], length, get_or, ap, refl, arith}
use Rattle.std.specs.List.{position}
use Rattle.std.specs.Option.{option_map}
use Rattle.std.proofs.Math.Path.{fun_ext}
use Rattle.std.proofs.lemmas.Option.{slice_get-map, slice_get_read}
use Rattle.op_trees.specs.Names.{is_called}
use Rattle.op_trees.specs.Seen.{Seen, known, known_names}
use Rattle.process_core.specs.Ready.{Name}
use Rattle.state_choices.specs.Trimmed.{computed}
use Rattle.state_choices.specs.Views.{seen_of}
use Rattle.jani_tree.specs.Syntax.{const_of, file_of}
use Rattle.jani_meaning.specs.Scene.{constant_seen}
use Rattle.instance_start.specs.Columns.{value_at}
use Rattle.name_rules.specs.Names.{under}
use Rattle.jani_instance.specs.Views.{values_by}
use Rattle.jani_instance.proofs.StartLaws.{constant_at}
use Rattle.jani_instance.proofs.Tables.{within_more, within_next}
use Rattle.jani_instance.proofs.constants.take_turn.Goals as goal

pub returns-then-i-constants : goal.returns-then-i-constants
returns-then-i-constants c = λ n h. within_more (file_of c.args.file.now) (under c.args.given.now) n c.args.table.now.items h

pub returns : goal.returns
returns c =
    let file = file_of c.args.file.now in
    let v = under c.args.given.now in
    let t = c.args.table.now.items in
    let i = c.args.i in
    let one = c.index-constants-i.result in
    let size = ap length c.as_slice-constants.ensures in
    let low = c.if-i-constants.false in
    let in_constants : i < length c.args.file.now.constants = omega (arith, size, low) in
    let count = c.len.ensures in
    let below = c.if-i-len.false in
    let in_table : i < length t = omega (arith, count, below) in
    let there = slice_get-map const_of c.args.file.now.constants i
    ∙ ap (option_map const_of)
    (slice_get_read c.args.file.now.constants (length c.args.file.now.constants) i one refl in_constants (c.index-constants-i.is ∙ ap (λ l. get_or l i one) c.as_slice-constants.ensures)) in
    let names = fun_ext (λ (x : Name). ap known (ap (value_at [] t) (c.requires x) ∙ constant_at t (position (λ d. is_called x d.name) file.constants))) in
    let is = c.next_value-value.ensures
    ∙ ap (λ l. (seen_of (computed (constant_seen (v one.name.name) (known_names (values_by c.args.places.now l)) (const_of one).value))).value) c.as_slice.ensures.value
    ∙ ap (λ (names : Name → Seen). (seen_of (computed (constant_seen (v one.name.name) names (const_of one).value))).value) names in
    λ n h. within_next file v n t i (const_of one) c.next_value-value.result in_table there is h
