use Rattle.std.proofs.Common.{sym, subst, List}
use Rattle.prism_exprs.specs.Reading.{Ends}
use Rattle.prism_exprs.specs.Levels.{goes_on}
use Rattle.prism_lex.specs.Tokens.{Lexeme}
use Rattle.prism_exprs.proofs.Symbols.{closed_reads}
use Rattle.prism_exprs.proofs.Numbers.{number_leads, number_missing, name_leads, name_missing}
use Rattle.prism_exprs.proofs.Arguments.{name_alone}
use Rattle.prism_exprs.proofs.Alone.{leaf_first, leaf_is, no_open}
use Rattle.prism_exprs.proofs.leaf.parse_leaf.Goals as goal

pub returns-in-Some-number-clause-read : goal.returns-in-Some-number-clause-read
returns-in-Some-number-clause-read c =
    let l = leaf_first c.args.tokens _ _ c.requires c.in-Some.ensures.cases.0 in
    let F : List Lexeme → Type 0 = λ u. Ends goes_on u in
    (number_leads _ _ _ _ c.in-Some.first.now _ _ c.in-Some-number.value c.in-Some.ensures.cases.0 c.in-Number.is c.with-rest.ensures c.in-Some-number.ensures).reads _ _
    (closed_reads _ _ (no_open _ (subst F (sym c.with-rest.ensures) l.1)))

pub returns-in-None-clause-read : goal.returns-in-None-clause-read
returns-in-None-clause-read c = number_missing _ _ _ _ c.in-Some.first.now _ c.in-Some.ensures.cases.0 c.in-Number.is c.in-None.ensures

pub returns-in_ok-copy_of-in-Some-name : goal.returns-in_ok-copy_of-in-Some-name
returns-in_ok-copy_of-in-Some-name c =
    let l = leaf_first c.args.tokens _ _ c.requires c.in-Some.ensures.cases.0 in
    let F : List Lexeme → Type 0 = λ u. Ends goes_on u in
    let ends = subst F (sym c.with-rest.ensures) l.1 in
    record {
      read =
          (name_leads _ _ _ _ c.in-Some.first.now _ c.in-Some-name.name.now c.in-Some.ensures.cases.0 (leaf_is c.in-Some.first.now.kind l.0 c.in_default-kind.not-Number) c.with-rest.ensures c.in-Some-name.ensures.some).reads _ _
          (rw (c.in_ok-copy_of-in-Some-name.ensures) (name_alone _ _ _ (no_open _ ends)));
      ends = ends;
    }

pub returns-in-None-name : goal.returns-in-None-name
returns-in-None-name c =
    let l = leaf_first c.args.tokens _ _ c.requires c.in-Some.ensures.cases.0 in
    record {
      read = name_missing _ _ _ _ c.in-Some.first.now c.in-Some.ensures.cases.0 (leaf_is c.in-Some.first.now.kind l.0 c.in_default-kind.not-Number) c.in-None-name.ensures.none;
      ends = tt;
    }
