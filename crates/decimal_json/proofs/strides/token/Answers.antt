use Rattle.std.proofs.Common.{◌≡◌, sym, ap, ◌∙◌}
use Rattle.decimal_json.proofs.Tokens.{from_state, ends_after}
use Rattle.decimal_json.specs.declared.machine.Mode.{Mode}
use Rattle.decimal_json.specs.declared.machine.State.{State}
use Rattle.decimal_json.proofs.strides.token.Goals as goal

is_in : (u : State) (m : Mode) → u.mode ≡ m → u ≡ record { mode = m; frames = u.frames }
is_in u m e = ap (λ (k : Mode). record { mode = k; frames = u.frames }) e

pub returns-in-Value : goal.returns-in-Value
returns-in-Value c =
    from_state c.args.at c.args.n c.args.bytes.now _ c.args.state.now _ (sym (is_in c.args.state.now _ (sym (c.into_mode.ensures ∙ c.replace.ensures.value) ∙ c.in-Value.is))) c.value_on.ensures

pub returns-in-InNumber : goal.returns-in-InNumber
returns-in-InNumber c =
    from_state c.args.at c.args.n c.args.bytes.now _ c.args.state.now _ (sym (is_in c.args.state.now _ (sym (c.into_mode.ensures ∙ c.replace.ensures.value) ∙ c.in-InNumber.is))) c.number_on.ensures

pub returns-in-After : goal.returns-in-After
returns-in-After c =
    c.after_at.ensures c.args.state.now (ends_after _ _ c.args.state.now _ (sym (c.into_mode.ensures ∙ c.replace.ensures.value) ∙ c.in-After.is))

pub returns-in-First : goal.returns-in-First
returns-in-First c =
    from_state c.args.at c.args.n c.args.bytes.now _ c.args.state.now _ (sym (is_in c.args.state.now _ (sym (c.into_mode.ensures ∙ c.replace.ensures.value) ∙ c.in-First.is))) c.first_at.ensures

pub returns-in-FirstKey : goal.returns-in-FirstKey
returns-in-FirstKey c =
    from_state c.args.at c.args.n c.args.bytes.now _ c.args.state.now _ (sym (is_in c.args.state.now _ (sym (c.into_mode.ensures ∙ c.replace.ensures.value) ∙ c.in-FirstKey.is))) c.first_key_at.ensures

pub returns-in-Key : goal.returns-in-Key
returns-in-Key c =
    from_state c.args.at c.args.n c.args.bytes.now _ c.args.state.now _ (sym (is_in c.args.state.now _ (sym (c.into_mode.ensures ∙ c.replace.ensures.value) ∙ c.in-Key.is))) c.key_at.ensures

pub returns-in-Colon : goal.returns-in-Colon
returns-in-Colon c =
    from_state c.args.at c.args.n c.args.bytes.now _ c.args.state.now _ (sym (is_in c.args.state.now _ (sym (c.into_mode.ensures ∙ c.replace.ensures.value) ∙ c.in-Colon.is))) c.colon_at.ensures

pub returns-in-InKey : goal.returns-in-InKey
returns-in-InKey c =
    from_state c.args.at c.args.n c.args.bytes.now _ c.args.state.now _ (sym (is_in c.args.state.now _ (sym (c.into_mode.ensures ∙ c.replace.ensures.value) ∙ c.in-InKey.is))) c.key_from.ensures

pub returns-in-InString : goal.returns-in-InString
returns-in-InString c =
    from_state c.args.at c.args.n c.args.bytes.now _ c.args.state.now _ (sym (is_in c.args.state.now _ (sym (c.into_mode.ensures ∙ c.replace.ensures.value) ∙ c.in-InString.is))) c.text_from.ensures

pub returns-in-Word : goal.returns-in-Word
returns-in-Word c =
    from_state c.args.at c.args.n c.args.bytes.now _ c.args.state.now _ (sym (is_in c.args.state.now _ (sym (c.into_mode.ensures ∙ c.replace.ensures.value) ∙ c.in-Word.is))) c.word_from.ensures
