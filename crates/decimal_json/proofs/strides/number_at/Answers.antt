use Rattle.std.proofs.Common.{◌+◌, ◌<◌, length, refl, sym, ◌∙◌, arith}
use Rattle.decimal_json.proofs.Tokens.{from_begins, from_digits, front_of, runs_rest, number_stops_rest, within_rest}
use Rattle.decimal_json.proofs.StepLemmas.{measured_some}
use Rattle.decimal_json.proofs.strides.number_at.Goals as goal

pub returns-then-end-bytes : goal.returns-then-end-bytes
returns-then-end-bytes c u b =
    from_begins c.args.at c.args.n c.args.bytes.now _ u c.begin.new.state c.begin.result c.taken.result c.requires.some c.taken.ensures c.begin.ensures b

pub returns-then-not-is_end : goal.returns-then-not-is_end
returns-then-not-is_end c u b =
    from_begins c.args.at c.args.n c.args.bytes.now _ u c.begin-then-not-is_end.new.state c.begin-then-not-is_end.result c.taken-then-not-is_end.result c.requires.some c.taken-then-not-is_end.ensures c.begin-then-not-is_end.ensures b

pub returns-in-None : goal.returns-in-None
returns-in-None c u b =
    c.word_at.ensures u b

pub returns-in-None-decimal_of : goal.returns-in-None-decimal_of
returns-in-None-decimal_of c u b =
    from_begins c.args.at c.args.n c.args.bytes.now _ u c.begin-in-None-decimal_of.new.state c.begin-in-None-decimal_of.result c.taken-in-None-decimal_of.result c.requires.some c.taken-in-None-decimal_of.ensures c.begin-in-None-decimal_of.ensures b

pub returns-in-Some-decimal_of : goal.returns-in-Some-decimal_of
returns-in-Some-decimal_of c u b =
    let z : c.args.n + 1 < length c.args.bytes.now + 1 = (let e = c.requires.some in omega (arith, e)) in
    let k = within_rest c.args.bytes.now _ (c.args.n + 1) refl c.number_front-more.result.0 (omega (arith, z)) c.number_front-more.ensures.within in
    let l : (c.args.n + 1) + c.number_front-more.result.0 < length c.args.bytes.now = (let e = c.if-end-bytes.false in omega (arith, k, e)) in
    let m = measured_some _ _ _ c.decimal_of.ensures c.in-Some-decimal_of.is in
    from_digits c.args.at c.args.n c.number_front-more.result.0 c.args.bytes.now c.args.state.now.frames _ _ _ u _ _ l (sym c.first.ensures ∙ c.in-Some.is) (runs_rest c.args.bytes.now _ (c.args.n + 1) refl c.number_front-more.result.0 _ _ c.number_front-more.ensures.runs) (number_stops_rest c.args.bytes.now _ (c.args.n + 1) refl c.number_front-more.result.0 _ (omega (arith, z)) l c.number_front-more.ensures.stops) (sym c.is_end.ensures ∙ c.if-not-is_end.false) (front_of c.args.n c.number_front-more.result.0 _ c.args.bytes.now c.requires.some (omega arith)) m.0 m.1 b c.after_at.ensures
