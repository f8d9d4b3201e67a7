use Rattle.std.proofs.Common.{◌≡◌, ◌≤◌, ◌+◌, ◌∙◌, length, map, sym, ap, subst, arith}
use Rattle.std.specs.List.{list_any}
use Rattle.std.proofs.lemmas.List.{length-map}
use Rattle.state_choices.specs.Trimmed.{computed}
use Rattle.state_choices.specs.Views.{seen_of}
use Rattle.jani_tree.specs.Syntax.{const_of, file_of}
use Rattle.jani_meaning.specs.Scene.{constant_within}
use Rattle.name_rules.specs.Names.{under}
use Rattle.jani_instance.specs.Constants.{first_table, round_of}
use Rattle.jani_instance.proofs.Rounds.{IsRound, narrow_values, round_more, round_none, round_settled, round_wide, wides}
use Rattle.jani_instance.proofs.constants.table_in_turns.Goals as goal

pub loop-turn-init : goal.loop-turn-init
loop-turn-init c =
    let file = file_of c.args.file.now in
    let v = under c.args.given.now in
    subst (IsRound file v 0) (sym (c.in_ok-table.ensures ∙ ap (λ l. first_table (map const_of l)) c.as_slice-constants.ensures)) (round_none file v)

pub loop-turn-preserved : goal.loop-turn-preserved
loop-turn-preserved c =
    let file = file_of c.args.file.now in
    let v = under c.args.given.now in
    let ss = round_of file.constants v c.loop-turn.table.items in
    let found = c.in_ok-found.ensures ∙ ap (λ l. map computed (round_of (map const_of l) v c.as_slice.result.now)) c.as_slice-constants.ensures ∙ ap (λ t. map computed (round_of file.constants v t)) c.as_slice.ensures.value in
    let wide = sym (wides ss) ∙ sym (ap (list_any (λ r. (seen_of r).wide)) (c.as_slice-in-loop-turn.ensures.value ∙ found)) ∙ sym c.has_wide.ensures in
    let next = c.in_ok-next.ensures ∙ ap (map (λ r. (seen_of r).value)) (c.as_slice-in-loop-turn-2.ensures.value ∙ found) ∙ narrow_values ss (wide ∙ c.if-has_wide.false) in
    subst (IsRound file v (c.loop-turn._turn + 1)) (sym next) (round_more file v c.loop-turn._turn c.loop-turn.table.items c.loop-turn.invariant)

pub returns-then-has_wide : goal.returns-then-has_wide
returns-then-has_wide c =
    let file = file_of c.args.file.now in
    let v = under c.args.given.now in
    let ss = round_of file.constants v c.loop-turn.table.items in
    let found = c.in_ok-found.ensures ∙ ap (λ l. map computed (round_of (map const_of l) v c.as_slice.result.now)) c.as_slice-constants.ensures ∙ ap (λ t. map computed (round_of file.constants v t)) c.as_slice.ensures.value in
    let wide = sym (wides ss) ∙ sym (ap (list_any (λ r. (seen_of r).wide)) (c.as_slice-in-loop-turn.ensures.value ∙ found)) ∙ sym c.has_wide.ensures in
    let size = ap length c.as_slice-constants.ensures ∙ sym (length-map c.args.file.now.constants const_of) in
    let test = c.loop-turn-test.true in
    round_wide file v c.loop-turn._turn c.loop-turn.table.items (let d : c.loop-turn._turn ≤ length file.constants = omega (arith, size, test) in d) c.loop-turn.invariant (wide ∙ c.if-has_wide.true)

pub returns-then-same : goal.returns-then-same
returns-then-same c =
    let file = file_of c.args.file.now in
    let v = under c.args.given.now in
    let ss = round_of file.constants v c.loop-turn.table.items in
    let found = c.in_ok-found.ensures ∙ ap (λ l. map computed (round_of (map const_of l) v c.as_slice.result.now)) c.as_slice-constants.ensures ∙ ap (λ t. map computed (round_of file.constants v t)) c.as_slice.ensures.value in
    let wide = sym (wides ss) ∙ sym (ap (list_any (λ r. (seen_of r).wide)) (c.as_slice-in-loop-turn.ensures.value ∙ found)) ∙ sym c.has_wide.ensures in
    let next = c.in_ok-next.ensures ∙ ap (map (λ r. (seen_of r).value)) (c.as_slice-in-loop-turn-2.ensures.value ∙ found) ∙ narrow_values ss (wide ∙ c.if-has_wide.false) in
    let same = sym c.as_slice-in-loop-turn-3.ensures.value ∙ c.same.ensures c.if-same.true ∙ c.as_slice-in-loop-turn-4.ensures.value ∙ next in
    let size = ap length c.as_slice-constants.ensures ∙ sym (length-map c.args.file.now.constants const_of) in
    let test = c.loop-turn-test.true in
    round_settled file v c.loop-turn._turn c.loop-turn.table.items (let d : c.loop-turn._turn ≤ length file.constants = omega (arith, size, test) in d) c.loop-turn.invariant
    (subst (IsRound file v (c.loop-turn._turn + 1)) (sym same) (round_more file v c.loop-turn._turn c.loop-turn.table.items c.loop-turn.invariant))

pub returns : goal.returns
returns c =
    let file = file_of c.args.file.now in
    let v = under c.args.given.now in
    let size = ap length c.as_slice-constants.ensures ∙ sym (length-map c.args.file.now.constants const_of) in
    let test = c.loop-turn-test.false in
    let end = c.loop-turn.auto._turn-end in
    λ x. c.loop-turn.invariant.at x ∙ ap (λ m. constant_within file v m x) (let d : c.loop-turn._turn ≡ length file.constants = omega (arith, size, test, end) in d)
