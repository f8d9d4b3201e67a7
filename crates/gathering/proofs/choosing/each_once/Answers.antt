use Rattle.std.proofs.Common.{◌∙◌, ap, ℕ, List, map, take_all}
use Rattle.std.specs.Prelude.{bytes_eq, ◌||◌}
use Rattle.std.specs.Borrow.{Bor}
use Rattle.std.proofs.lemmas.Result.{IfOk-from_err}
use Rattle.process_core.specs.Ready.{firsts}
use Rattle.name_rules.specs.Names.{has_name}
use Rattle.name_rules.proofs.Maps.{at}
use Rattle.gathering.proofs.Once.{once_more, seen_more}
use Rattle.gathering.proofs.choosing.each_once.Goals as goal

pub loop-name-init : goal.loop-name-init
loop-name-init c = record { gathered = ap (map (λ (x : Bor (List ℕ)). x.now)) c.new-all.ensures.items; known = at c.new-seen.ensures }

pub loop-name-preserved : goal.loop-name-preserved
loop-name-preserved c = record {
  gathered =
      once_more bytes_eq (λ (x : Bor (List ℕ)). x.now) c.args.names.now c.loop-name.name-index c.name-item.result _ _ _ c.loop-name-test.true c.name-item.is
      c.loop-name.invariant.gathered (c.has-is_new.ensures ∙ ap (λ y. has_name c.loop-name.seen y) c.as_str-text.ensures ∙ c.loop-name.invariant.known c.name-item.result.now) c.in_ok-keep_if.ensures;
  known = λ z.
      seen_more (λ (x : Bor (List ℕ)). x.now) c.args.names.now c.loop-name.name-index c.name-item.result z _ _ c.loop-name-test.true c.name-item.is
      (c.loop-name.invariant.known z) (at c.in_ok-add.ensures z ∙ ap (λ y. bytes_eq y z || has_name c.loop-name.seen z) c.as_str-text.ensures);
}

pub returns-in_err-add : goal.returns-in_err-add
returns-in_err-add c = IfOk-from_err _ _ c.from_residual.ensures.0

pub returns-in_err-keep_if : goal.returns-in_err-keep_if
returns-in_err-keep_if c = IfOk-from_err _ _ c.from_residual-in_err-keep_if.ensures.0

pub returns : goal.returns
returns c = c.loop-name.invariant.gathered ∙ ap (λ (xs : List (Bor (List ℕ))). firsts bytes_eq (map (λ x. x.now) xs)) (take_all _ _ c.loop-name-test.false)
