use Rattle.std.proofs.Common.{subst}
use Rattle.std.specs.Prelude.{Option, Some, None}
use Rattle.prism_lex.specs.Tokens.{Continues}
use Rattle.prism_exprs.specs.declared.tokens.Found.{Found}
use Rattle.prism_parse.specs.Lexed.{Keeps}
use Rattle.prism_parse.proofs.Fitting.{fault_fits}
use Rattle.prism_parse.proofs.Reached.{one_kept, end_kept, literals_behind, not_end}
use Rattle.prism_parse.proofs.lexing.read_tokens.Goals as goal

pub returns-in-Err-clause-err : goal.returns-in-Err-clause-err
returns-in-Err-clause-err c = (
  (c.reader_laws.ensures.fault c.args.bytes.now c.tokens.at _ c.in-Err.fault c.tokens.invariant.reaches c.in-Err.ensures.fault).0,
  fault_fits c.args.bytes.now c.tokens.at c.in-Err.fault c.tokens.invariant.within c.in-Err.ensures.fault,
)

pub returns-in_default-clause-ok : goal.returns-in_default-clause-ok
returns-in_default-clause-ok c =
    let F : Option Found → Type 0 = λ o. Keeps c.tokens.literals c.in-Ok.token c.keep.new.literals o in
    let keeps : F None = subst F c.in_default.is c.in_ok-next.ensures in
    let whole = c.reader_laws.ensures.end c.args.bytes.now c.tokens.at _ (end_kept _ _ _ _ _ _ c.tokens.invariant.reaches keeps) (c.in-Ok.ensures.end keeps.is).gap in
    record { tokens = whole.0; faultless = whole.2 }

pub tokens-preserved : goal.tokens-preserved
tokens-preserved c =
    let F : Option Found → Type 0 = λ o. Keeps c.tokens.literals c.in-Ok.token c.keep.new.literals o in
    let keeps : F (Some c.in-Some.next) = subst F c.in-Some.is c.in_ok-next.ensures in
    let next : Continues c.args.bytes.now c.tokens.at c.in-Ok.token = c.in-Ok.ensures.token (not_end c.tokens.literals _ c.in-Ok.token c.in-Some.next keeps) in
    record {
      within = next.within;
      room = literals_behind c.tokens.literals _ c.args.bytes.now c.tokens.at c.in-Ok.token _ c.tokens.invariant.room next keeps;
      reaches = rw (c.in_ok-push.ensures.ok) (one_kept c.reader_laws.ensures.next c.args.bytes.now c.tokens.literals _ c.tokens.found c.tokens.at c.in-Ok.token c.in-Some.next c.tokens.invariant.reaches next keeps);
    }
