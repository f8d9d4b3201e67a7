use Rattle.std.proofs.Common.{[], refl, sym, ◌∙◌}
use Rattle.decimal_json.specs.declared.chars.Within.TheVariants.{Between}
use Rattle.decimal_json.proofs.Chains.{text_along}
use Rattle.decimal_json.proofs.Tokens.{some_holds, from_memory, from_on, from_in_text, along_rest, byte_rest}
use Rattle.decimal_json.proofs.strides.text_opened.Goals as goal

pub returns-in-Err : goal.returns-in-Err
returns-in-Err c = from_memory c.args.at c.args.n c.args.bytes.now _ c.requires.some

pub returns-in-Ok-None : goal.returns-in-Ok-None
returns-in-Ok-None c = from_in_text c.args.at c.args.n c.args.start c.args.bytes.now Between Between [] _ c.args.state.now.frames _ refl (sym c.new-text.ensures) c.text_from.ensures

pub text_ended-requires-clause-quote : goal.text_ended-requires-clause-quote
text_ended-requires-clause-quote c = sym (byte_rest c.args.bytes.now _ c.args.n refl c.in-Ok-Some.more) ∙ (some_holds _ _ _ c.in-Ok-Some.field-0-is c.in-Ok-Some.ensures).2

pub returns-in-Ok-Some : goal.returns-in-Ok-Some
returns-in-Ok-Some c =
    from_on c.args.at c.args.n c.in-Ok-Some.more c.args.bytes.now _ _ _ c.requires.front
    (along_rest c.args.bytes.now _ c.args.n refl c.args.at c.in-Ok-Some.more _ _ (text_along _ _ _ _ _ _ _ c.args.state.now.frames (some_holds _ _ _ c.in-Ok-Some.field-0-is c.in-Ok-Some.ensures).1)) c.text_ended.ensures
