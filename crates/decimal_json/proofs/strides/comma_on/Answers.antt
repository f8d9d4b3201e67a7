use Rattle.std.proofs.Common.{◌+◌, ◌++◌, ◌∷◌, [], ap, ◌∙◌, arith}
use Rattle.decimal_json.specs.declared.brackets.Frame.{Frame}
use Rattle.decimal_json.proofs.Tokens.{from_ends, from_closed, from_comma, from_memory}
use Rattle.decimal_json.specs.States.{Goes, closes, stepping}
use Rattle.std.proofs.Math.ListN.{get_or}
use Rattle.decimal_json.proofs.StepLemmas.{pushed}
use Rattle.decimal_json.proofs.strides.comma_on.Goals as goal

pub returns-in-None : goal.returns-in-None
returns-in-None c u b =
    from_closed c.args.at c.args.n c.args.bytes.now c.args.state.now.frames _ u c.requires.some c.requires.comma c.in-None.ensures.none.0 b

pub returns-in-Some-InArray : goal.returns-in-Some-InArray
returns-in-Some-InArray c u b =
    from_ends c.args.at c.args.n c.args.bytes.now _ u c.in_array.new.state c.in_array.result c.taken.result c.requires.some c.taken.ensures (pushed (λ v. Goes (c.args.at + c.args.n) (get_or c.args.bytes.now c.args.n 0) (closes v c.args.value) (stepping c.in_array.result c.in_array.new.state)) c.pop.new.self c.args.state.now.frames _ (c.in-Some-InArray.ensures.some ∙ ap (λ (f : Frame). c.pop.new.self ++ f ∷ []) c.in-Some-InArray.field-0-is) (c.in_array.ensures.goes (c.args.at + c.args.n))) c.in_array.ensures.quiet b

pub returns-in-Err : goal.returns-in-Err
returns-in-Err c u b =
    from_memory c.args.at c.args.n c.args.bytes.now u (let e = c.requires.some in omega (arith, e))

pub returns-in-Ok : goal.returns-in-Ok
returns-in-Ok c u b =
    from_comma c.args.at c.args.n _ c.args.bytes.now c.args.state.now.frames c.pop.new.self _ _ c.args.value _ u _ c.requires.some c.requires.comma c.in-Some-InObject.ensures.some c.in-Some-InObject.field-0-is c.in-Ok.ensures b c.key_at.ensures
