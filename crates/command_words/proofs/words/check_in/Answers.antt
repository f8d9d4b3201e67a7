use Rattle.std.proofs.Common.{rules, ◌≡◌, ◌≢◌, refl}
use Rattle.std.specs.Prelude.{string_bytes, codes}
use Rattle.command_words.proofs.Wrong.{read_none, read_first}
use Rattle.command_words.proofs.Requests.{CheckForm, no_language, other_language, behind_jani, behind_prism}
use Rattle.command_words.proofs.words.check_in.Goals as goal

pub returns-in_default : goal.returns-in_default
returns-in_default c = read_none CheckForm 1 _ c.in_default.len_below no_language

pub returns-in-Err : goal.returns-in-Err
returns-in-Err c =
    let eq : string_bytes c.lang-item.result ≡ codes "prism" = search rules in
    read_first CheckForm _ _ c.lang-item.result _ c.in-len1-up.len_at_least c.lang-item.is eq (behind_prism _ _ c.in-Err.ensures)

pub returns-in-Err-file_in : goal.returns-in-Err-file_in
returns-in-Err-file_in c =
    let eq : string_bytes c.lang-item.result ≡ codes "jani" = search rules in
    read_first CheckForm _ _ c.lang-item.result _ c.in-len1-up.len_at_least c.lang-item.is eq (behind_jani _ _ c.in-Err-file_in.ensures)

pub returns-in_default-as_str : goal.returns-in_default-as_str
returns-in_default-as_str c =
    let not_prism : string_bytes c.lang-item.result ≢ codes "prism" = search rules in
    let not_jani : string_bytes c.lang-item.result ≢ codes "jani" = search rules in
    read_first CheckForm 1 _ c.lang-item.result _ c.in-len1-up.len_at_least c.lang-item.is refl (other_language _ _ not_prism not_jani)
