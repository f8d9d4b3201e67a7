use Rattle.std.proofs.Common.{◌∙◌, Option, None, refl, sym, ap, subst, get_or, map}
use Rattle.std.specs.Prelude.{unwrap_or, bytes_eq, if◌then◌else◌}
use Rattle.std.proofs.lemmas.List.{take_more}
use Rattle.std.proofs.lemmas.Option.{slice_get-get_or}
use Rattle.basics.specs.Lists.{at_take_all}
use Rattle.name_rules.specs.Circles.{HasTurned}
use Rattle.name_rules.specs.Names.{Name, under}
use Rattle.constant_folding.specs.declared.known.Fixed.{Fixed}
use Rattle.constant_folding.specs.Constants.{const_of, declared, known_by}
use Rattle.constant_folding.specs.Tables.{known_in}
use Rattle.constant_folding.proofs.KnownLaws.{const_there, none_turned, one_more, all_turned}
use Rattle.constant_folding.proofs.constants.known_in_turn.Goals as goal

pub loop-turn-init : goal.loop-turn-init
loop-turn-init g c = record {
  known = λ x h.
      ap (λ (f : Name → Option (Option Fixed)). unwrap_or (f x) None) c.new.ensures
      ∙ none_turned g.O.Operator.meaning (map const_of c.args.constants.now) (under c.args.given) c.args.order.now c.requires.turns x h;
  given = refl;
}

pub loop-turn-preserved : goal.loop-turn-preserved
loop-turn-preserved g c = record {
  known = λ x h.
      let m = g.O.Operator.meaning in
      let cs = map const_of c.args.constants.now in
      let k = c.loop-turn.turn-index in
      let t = get_or c.args.order.now k 0 in
      let one = c.index-constants-turn.result in
      let there = const_there c.args.constants.now c.args.order.now c.requires.turns.within k c.loop-turn-test.true one c.index-constants-turn.is in
      let old = known_in c.loop-turn.table in
      let given = c.loop-turn.invariant.given in
      c.in_ok-take_turn.ensures.known x
      ∙ ap (λ f. if bytes_eq one.name.now.name x then known_by m (f one.name.now.name) old one.ty (const_of one).value else old x) given
      ∙ one_more m cs (under c.args.given) c.args.order.now c.requires.turns c.requires.own old k t (const_of one)
      (slice_get-get_or c.args.order.now k 0 c.loop-turn-test.true) there c.loop-turn.invariant.known x
      (subst (λ ts. HasTurned (map declared cs) ts x) (take_more c.args.order.now k 0 c.loop-turn-test.true) h);
  given = c.in_ok-take_turn.ensures.given ∙ c.loop-turn.invariant.given;
}

pub returns-clause-known : goal.returns-clause-known
returns-clause-known g c = λ x.
    let cs = map const_of c.args.constants.now in
    c.loop-turn.invariant.known x
    (subst (λ ts. HasTurned (map declared cs) ts x) (sym (at_take_all (λ l. l) c.args.order.now c.loop-turn.turn-index c.loop-turn-test.false))
    (all_turned g.O.Operator.meaning cs (under c.args.given) c.args.order.now c.requires.turns x))
