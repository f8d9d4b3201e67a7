use Rattle.std.proofs.Common.{◌∙◌, sym, ap}
use Rattle.decimal_json.specs.declared.tree.Json.TheVariants.{Object}
use Rattle.name_rules.specs.Names.{has_name}
use Rattle.jani_props.specs.Table.{known_form}
use Rattle.jani_props.specs.Shape.{reading}
use Rattle.jani_props.proofs.shape.+judge.Goals as goal
use Rattle.jani_props.proofs.shape.+judge.Goals.{in-Some-known_form, in-None-known_form}
use Rattle.jani_props.proofs.Walk.{items_next, members_next_some, members_next_none, members_done}

pub loop-x-preserved : goal.loop-x-preserved
loop-x-preserved t c = items_next (has_name c.args.given.now) _ _ _ _ _ _ _ c.loop-x-test.true c.x-item.is c.judge-best.ensures c.loop-x.invariant

pub loop-m-preserved : goal.loop-m-preserved
loop-m-preserved t c = elim c.match-known_form.branch [
  | in-Some-known_form w ↦ members_next_some (has_name c.args.given.now) _ _ _ _ _ _ _ _ (ap (λ s. known_form c.in-As.kind s) (sym c.as_str-in-loop-m.ensures) ∙ (sym c.known_form.ensures ∙ w.in-Some-known_form.is)) c.loop-m-test.true c.m-item.is (w.best-is ∙ w.judge-best-in-Some-known_form.ensures) c.loop-m.invariant
  | in-None-known_form w ↦ members_next_none (has_name c.args.given.now) _ _ _ _ _ _ _ (ap (λ s. known_form c.in-As.kind s) (sym c.as_str-in-loop-m.ensures) ∙ (sym c.known_form.ensures ∙ w.in-None-known_form.is)) c.loop-m-test.true c.m-item.is (w.best-is ∙ w.sooner-best.ensures) c.loop-m.invariant
]

pub returns-after-loop-m : goal.returns-after-loop-m
returns-after-loop-m t c = members_done (has_name c.args.given.now) _ _ _ _ _ _ _ _ _ _ (sym (c.read_as.ensures ∙ ap (reading c.args.form) c.op_word.ensures) ∙ c.in-As.is) (c.in-Object.is ∙ ap (λ ms. Object c.in-Object.at ms c.in-Object.close) (sym c.as_slice-slice.ensures)) c.loop-m-test.false c.loop-m.invariant c.judge_own.ensures
