use Rattle.std.proofs.Common.{rules, ◌≡◌, ◌≢◌, refl}
use Rattle.std.specs.Prelude.{string_bytes, codes}
use Rattle.command_words.specs.Fronts.{WayForm}
use Rattle.command_words.proofs.Wrong.{read_none, read_first}
use Rattle.command_words.proofs.Forms.{no_way, other_way, way_given, way_seed}
use Rattle.command_words.proofs.fronts.way_in.Goals as goal

pub returns-in_default : goal.returns-in_default
returns-in_default c = read_none WayForm 1 c.args.words.now c.in_default.len_below no_way

pub returns-in-Err-At : goal.returns-in-Err-At
returns-in-Err-At c =
    let eq : string_bytes c.word-item.result ≡ codes "given" = search rules in
    read_first WayForm _ c.args.words.now c.word-item.result _ c.in-len1-up.len_at_least c.word-item.is eq (way_given _ _ (rw c.in-Err-At.field-0-is at c.in-Err-At.ensures))

pub returns-in-Err : goal.returns-in-Err
returns-in-Err c =
    let eq : string_bytes c.word-item.result ≡ codes "seed" = search rules in
    read_first WayForm _ c.args.words.now c.word-item.result _ c.in-len1-up.len_at_least c.word-item.is eq (way_seed _ _ c.in-Err.ensures)

pub returns-in_default-as_str : goal.returns-in_default-as_str
returns-in_default-as_str c =
    let not_given : string_bytes c.word-item.result ≢ codes "given" = search rules in
    let not_seed : string_bytes c.word-item.result ≢ codes "seed" = search rules in
    read_first WayForm 1 c.args.words.now c.word-item.result _ c.in-len1-up.len_at_least c.word-item.is refl (other_way _ _ not_given not_seed)
