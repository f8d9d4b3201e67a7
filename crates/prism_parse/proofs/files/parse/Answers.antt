use Rattle.std.proofs.Common.{map, length, subst, rules}
use Rattle.std.specs.Prelude.{Err}
use Rattle.std.proofs.lemmas.List.{length-map}
use Rattle.prism_exprs.specs.Kept.{seen, lexeme_at}
use Rattle.prism_exprs.specs.declared.tokens.Stop.{Stop}
use Rattle.prism_exprs.specs.declared.tokens.Stop.TheVariants.{At}
use Rattle.prism_items.specs.Files.{FileIn}
use Rattle.prism_parse.proofs.Whole.{token_refusal, tree_spelled, grammar_refusal}
use Rattle.prism_parse.proofs.files.parse.Goals as goal

pub returns-in_err-lexed-clause-err : goal.returns-in_err-lexed-clause-err
returns-in_err-lexed-clause-err c = let r = token_refusal c.one_list.ensures.faults c.args.bytes.now c.in_err-lexed.field-0.0 c.in_err-lexed.ensures.err in search rules

pub returns-in-Ok-clause-ok : goal.returns-in-Ok-clause-ok
returns-in-Ok-clause-ok c =
    tree_spelled c.one_list.ensures.list c.args.bytes.now c.in_ok-lexed.lexed.literals c.in_ok-lexed.lexed.found c.in_ok-lexed.ensures.ok _ (rw (← c.as_slice.ensures, ← c.as_slice-2.ensures) c.in-Ok.ensures)

pub returns-clause-err : goal.returns-clause-err
returns-clause-err c =
    let F : Stop → Type 0 = λ e. FileIn (length c.args.bytes.now) (map (lexeme_at c.args.bytes.now c.as_slice.result.now) c.as_slice-2.result.now) (Err e) in
    let stop : F (At c.in-Err-At.rest c.in-Err-At.cause) = subst F c.in-Err-At.field-0-is c.in-Err-At.ensures in
    grammar_refusal c.one_list.ensures.list c.args.bytes.now c.in_ok-lexed.lexed.literals c.in_ok-lexed.lexed.found c.in_ok-lexed.ensures.ok (seen c.in-Err-At.rest) c.in-Err-At.cause c.fault_at.result
    (rw (← c.as_slice.ensures, ← c.as_slice-2.ensures) stop)
    (rw (← c.as_slice.ensures, ← c.as_slice-2.ensures) (c.fault_at.ensures (seen c.in-Err-At.rest) (length-map c.in-Err-At.rest.found.now _) stop))
