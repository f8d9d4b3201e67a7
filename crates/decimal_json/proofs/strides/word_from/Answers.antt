use Rattle.std.proofs.Common.{◌+◌, ◌<◌, length, refl, sym, ◌∙◌, arith}
use Rattle.decimal_json.specs.declared.machine.Mode.TheVariants as modes
use Rattle.decimal_json.specs.declared.machine.State.{State}
use Rattle.decimal_json.proofs.Tokens.{from_mode, from_on, along_word, take_rest, word_passes}
use Rattle.decimal_json.proofs.strides.word_from.Goals as goal

pub returns-then-not-begins_with : goal.returns-then-not-begins_with
returns-then-not-begins_with c =
    let l : c.args.n < length c.args.bytes.now = (let e = c.if-n-bytes.false in let f = c.requires.front in omega (arith, e, f)) in
    from_mode c.args.at c.args.n c.args.bytes.now (modes.Word c.args.word c.args.value) c.args.state.now.frames _ c.in_word.new.state c.in_word.result c.taken.result refl l c.taken.ensures tt c.in_word.ensures

pub returns : goal.returns
returns c =
    let s : State = record { mode = modes.Word c.args.word c.args.value; frames = c.args.state.now.frames } in
    let t = word_passes _ c.args.word c.args.value c.args.state.now.frames s refl refl (c.args.at + c.args.n) in
    from_on c.args.at c.args.n (length c.args.word.now) c.args.bytes.now s t.0 _ c.requires.front
    (along_word _ _ _ s t.0 (sym (c.begins_with.ensures.same c.if-not-begins_with.false) ∙ take_rest c.args.bytes.now _ c.args.n refl (length c.args.word.now)) t.1)
    (c.after_at.ensures t.0 (t.2 _ _))
