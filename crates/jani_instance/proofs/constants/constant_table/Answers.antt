use Rattle.std.proofs.Common.{◌∙◌, map, sym, ap, subst}
use Rattle.std.specs.List.{list_any}
use Rattle.std.proofs.lemmas.List.{length-map}
use Rattle.state_choices.specs.Trimmed.{computed}
use Rattle.state_choices.specs.Views.{seen_of}
use Rattle.jani_tree.specs.Syntax.{const_of, file_of}
use Rattle.name_rules.specs.Names.{under}
use Rattle.jani_instance.specs.Constants.{AreWithin, round_of}
use Rattle.jani_instance.proofs.Rounds.{narrow_values, wides}
use Rattle.jani_instance.proofs.Tables.{within_settled, within_wide}
use Rattle.jani_instance.proofs.constants.constant_table.Goals as goal

pub returns-then-has_wide : goal.returns-then-has_wide
returns-then-has_wide c =
    let file = file_of c.args.file.now in
    let v = under c.args.given.now in
    let t = c.in_ok-table.table.items in
    let ss = round_of file.constants v t in
    let found = c.in_ok-found.ensures ∙ ap (λ l. map computed (round_of (map const_of l) v c.as_slice-2.result.now)) c.as_slice-constants.ensures ∙ ap (λ t. map computed (round_of file.constants v t)) c.as_slice-2.ensures.value in
    let wide = sym (wides ss) ∙ sym (ap (list_any (λ r. (seen_of r).wide)) (c.as_slice-3.ensures.value ∙ found)) ∙ sym c.has_wide.ensures in
    within_wide file v t (subst (λ n. AreWithin file v n t) (sym (length-map c.args.file.now.constants const_of)) c.in_ok-table.ensures) (wide ∙ c.if-has_wide.true)

pub returns-then-same : goal.returns-then-same
returns-then-same c =
    let file = file_of c.args.file.now in
    let v = under c.args.given.now in
    let t = c.in_ok-table.table.items in
    let ss = round_of file.constants v t in
    let found = c.in_ok-found.ensures ∙ ap (λ l. map computed (round_of (map const_of l) v c.as_slice-2.result.now)) c.as_slice-constants.ensures ∙ ap (λ t. map computed (round_of file.constants v t)) c.as_slice-2.ensures.value in
    let wide = sym (wides ss) ∙ sym (ap (list_any (λ r. (seen_of r).wide)) (c.as_slice-3.ensures.value ∙ found)) ∙ sym c.has_wide.ensures in
    let next = c.in_ok-next.ensures ∙ ap (map (λ r. (seen_of r).value)) (c.as_slice-4.ensures.value ∙ found) ∙ narrow_values ss (wide ∙ c.if-has_wide.false) in
    let same = sym c.as_slice-5.ensures.value ∙ c.same.ensures c.if-same.true ∙ c.as_slice-6.ensures.value ∙ next in
    within_settled file v t (subst (λ n. AreWithin file v n t) (sym (length-map c.args.file.now.constants const_of)) c.in_ok-table.ensures) (sym same)
