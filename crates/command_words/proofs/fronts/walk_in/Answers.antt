use Rattle.std.proofs.Common.{rules, ◌≡◌, ◌≢◌, sym, refl, subst, None}
use Rattle.std.specs.Prelude.{string_bytes, codes}
use Rattle.command_words.specs.Fronts.{WalkForm, IsFront}
use Rattle.command_words.proofs.Wrong.{read_none, read_first, first_words}
use Rattle.command_words.proofs.Forms.{no_walk, walk_from, walk_answer}
use Rattle.command_words.proofs.fronts.walk_in.Goals as goal

pub returns-in_default : goal.returns-in_default
returns-in_default c = read_none WalkForm 1 c.args.words.now c.in_default.len_below no_walk

pub returns-in-Ok : goal.returns-in-Ok
returns-in-Ok c =
    let eq : string_bytes c.word-item.result ≡ codes "from" = search rules in
    subst (λ ws. IsFront (codes "simulate") None ws c.in-Ok.front) (sym (first_words c.args.words.now c.word-item.result _ c.in-len1-up.len_at_least c.word-item.is eq)) c.in-Ok.ensures

pub returns-in-Err-At : goal.returns-in-Err-At
returns-in-Err-At c =
    let eq : string_bytes c.word-item.result ≡ codes "from" = search rules in
    read_first WalkForm _ c.args.words.now c.word-item.result _ c.in-len1-up.len_at_least c.word-item.is eq (walk_from _ _ (rw c.in-Err-At.field-0-is at c.in-Err-At.ensures))

pub returns : goal.returns
returns c =
    let other : string_bytes c.word-item.result ≢ codes "from" = search rules in
    walk_answer _ _ _ _ (first_words c.args.words.now c.word-item.result _ c.in-len1-up.len_at_least c.word-item.is refl) other c.way_in.result c.way_in.ensures
