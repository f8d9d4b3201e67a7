use Rattle.std.proofs.Common.{◌∙◌, sym, ap}
use Rattle.decimal_json.specs.declared.tree.Json.TheVariants.{Array, Object}
use Rattle.jani_table.specs.Node.{nodes}
use Rattle.jani_table.specs.Table.{known_form}
use Rattle.name_rules.specs.Least.{soonest}
use Rattle.jani_table.specs.Faults.{list_faults}
use Rattle.jani_table.proofs.shape.+judge.Goals as goal
use Rattle.jani_table.proofs.shape.+judge.Goals.{then-not-is_null_part, else-not-is_null_part, in-Some-known_form, in-None-known_form}
use Rattle.jani_table.proofs.Walk.{items_next, items_done, members_next_some, members_next_none, members_done}

pub loop-x-preserved : goal.loop-x-preserved
loop-x-preserved t c = elim c.if-not-is_null_part.branch [
  | else-not-is_null_part w ↦ items_next _ _ _ _ _ _ _ c.loop-x-test.true c.x-item.is (w.best-is ∙ ap (soonest c.loop-x.best) (sym (c.is_null_part.ensures w.if-not-is_null_part.false))) c.loop-x.invariant
  | then-not-is_null_part w ↦ items_next _ _ _ _ _ _ _ c.loop-x-test.true c.x-item.is (w.best-is ∙ w.judge-best.ensures) c.loop-x.invariant
]

pub loop-m-preserved : goal.loop-m-preserved
loop-m-preserved t c = elim c.match-known_form.branch [
  | in-Some-known_form w ↦ members_next_some _ _ _ _ _ _ _ _ (ap (λ s. known_form c.in-Some-object_kind.kind s) (sym c.as_str-in-loop-m.ensures) ∙ (sym c.known_form.ensures ∙ w.in-Some-known_form.is)) c.loop-m-test.true c.m-item.is (w.best-is ∙ w.judge-best-in-Some-known_form.ensures) c.loop-m.invariant
  | in-None-known_form w ↦ members_next_none _ _ _ _ _ _ _ (ap (λ s. known_form c.in-Some-object_kind.kind s) (sym c.as_str-in-loop-m.ensures) ∙ (sym c.known_form.ensures ∙ w.in-None-known_form.is)) c.loop-m-test.true c.m-item.is (w.best-is ∙ w.sooner-best.ensures) c.loop-m.invariant
]

pub returns-after-loop-x : goal.returns-after-loop-x
returns-after-loop-x t c = items_done _ _ _ _ _ _ _ _ _ (sym c.item_form.ensures ∙ c.in-Some.is) (c.in-Array.is ∙ ap (λ vs. Array c.in-Array.at vs) (sym c.as_slice-slice.ensures)) c.loop-x-test.false c.loop-x.invariant (c.judge_list.ensures ∙ ap (λ vs. soonest c.loop-x.best (list_faults c.args.form c.in-Array.at (nodes vs))) (sym c.as_slice-slice.ensures))

pub returns-after-loop-m : goal.returns-after-loop-m
returns-after-loop-m t c = members_done _ _ _ _ _ _ _ _ _ _ (sym c.object_kind.ensures ∙ c.in-Some-object_kind.is) (c.in-Object.is ∙ ap (λ ms. Object c.in-Object.at ms c.in-Object.close) (sym c.as_slice-slice-in-Object.ensures)) c.loop-m-test.false c.loop-m.invariant c.judge_own.ensures
