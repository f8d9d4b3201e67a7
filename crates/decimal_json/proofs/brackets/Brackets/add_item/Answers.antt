use Rattle.std.proofs.Common.{◌-◌, refl, sym, ap, arith}
use Rattle.std.specs.Vec.{vec_len}
use Rattle.decimal_json.specs.declared.brackets.Brackets.TheInside.{Inside}
use Rattle.decimal_json.proofs.Adding.{none_added, item_added}
use Rattle.decimal_json.proofs.brackets.Brackets.add_item.Goals.{in-None, in-Some}
use Rattle.decimal_json.proofs.brackets.Brackets.add_item.Goals as goal

pub returns-clause-added : goal.returns-clause-added
returns-clause-added c = elim c.match-last_mut.branch [
  | in-None w ↦ none_added _ _ _ w.result-is
  | in-Some w ↦ item_added _ c.self.inside.frames.items _ (vec_len c.self.inside.frames - 1) _ _ _ _ _ w.result-is (sym c.self.view_is) (let v = w.in-Some.ensures.variant.0 refl in let k = c.self.inside.frames.ok.0 in omega (arith, v, k)) w.in-Some.ensures.value (ap (λ (i : Inside). i.frames.items) w.self-inside-is) w.add_to.ensures.added
]
