use Rattle.std.proofs.Common.{arith, ◌≡◌, ◌∙◌, sym, subst, ◌∷◌, []}
use Rattle.std.proofs.lemmas.Grind.{common_steps}
use Rattle.std.specs.Prelude.{string_bytes}
use Rattle.command_words.specs.Words.{IsWrong}
use Rattle.command_words.proofs.Wrong.{read_none, read_first}
use Rattle.command_words.proofs.Requests.{ToJaniForm, no_model, empty_model, no_properties, behind_properties, some_items, some_texts}
use Rattle.command_words.proofs.words.to_jani_in.Goals as goal

pub returns-in_default : goal.returns-in_default
returns-in_default c = read_none ToJaniForm 1 _ c.in_default.len_below no_model

pub returns-then-is_empty : goal.returns-then-is_empty
returns-then-is_empty c =
    let e : string_bytes c.name-item.result ≡ [] = grind (arith, common_steps) in
    read_first ToJaniForm 1 _ c.name-item.result [] c.in-len1-up.len_at_least c.name-item.is e (empty_model _)

pub returns-in_default-name_in : goal.returns-in_default-name_in
returns-in_default-name_in c =
    let n = some_items c.as_str-file.result.now (sym c.is_empty.ensures ∙ c.if-is_empty.false) in
    read_first ToJaniForm 2 _ c.name-item.result _ c.in-len1-up.len_at_least c.name-item.is (sym c.as_str-file.ensures.value)
    (no_properties _ n _ (some_texts _ (sym c.is_empty-2.ensures ∙ c.if-is_empty-2.false)) c.in_default-name_in.ensures)

pub returns-then-not-is_empty : goal.returns-then-not-is_empty
returns-then-not-is_empty c =
    let n = some_items c.as_str-file.result.now (sym c.is_empty.ensures ∙ c.if-is_empty.false) in
    read_first ToJaniForm 3 _ c.name-item.result _ c.in-len1-up.len_at_least c.name-item.is (sym c.as_str-file.ensures.value)
    (subst (λ ws. IsWrong ToJaniForm (c.as_str-file.result.now ∷ ws) 3) (sym c.in-Some.ensures.words_are)
    (behind_properties _ n _ _ c.in-Some.ensures.name (some_texts _ (sym c.is_empty-3.ensures ∙ c.if-not-is_empty.true))))
