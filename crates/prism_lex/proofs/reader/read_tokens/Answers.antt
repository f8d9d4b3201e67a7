use Rattle.std.proofs.Common.{refl, sym, ◌∙◌, List, [], ◌∷◌, ◌++◌}
use Rattle.prism_lex.specs.Tokens.{Lexeme, lexeme_of, Continues}
use Rattle.prism_lex.proofs.Fitting.{fault_fits}
use Rattle.prism_lex.proofs.reader.read_tokens.Goals as goal

pub returns-in-Err-clause-err : goal.returns-in-Err-clause-err
returns-in-Err-clause-err c = (
  (c.reader_laws.ensures.fault c.args.bytes.now c.tokens.at c.tokens.invariant.reached.0 c.in-Err.fault c.tokens.invariant.reached.1 c.in-Err.ensures.fault).0,
  fault_fits c.args.bytes.now c.tokens.at c.in-Err.fault c.tokens.invariant.within c.in-Err.ensures.fault,
)

pub tokens-preserved : goal.tokens-preserved
tokens-preserved c =
    let next : Continues c.args.bytes.now c.tokens.at c.in-Ok.token = c.in-Ok.ensures.token c.in_default.not-End in
    let l : Lexeme = lexeme_of c.args.bytes.now c.in-Ok.token in
    let ls : List Lexeme = c.tokens.invariant.reached.0 in
    record {
      within = next.within;
      reached = (
        ls ++ l ∷ [],
        c.reader_laws.ensures.next c.args.bytes.now 0 c.tokens.at ls c.in-Ok.token c.tokens.invariant.reached.1 next,
        c.in_ok-keep.ensures ls l c.tokens.invariant.reached.2 (record { kind = refl; at = refl; text = λ e. sym c.text_of.ensures ∙ c.name_of-name.ensures.text e }),
      );
    }
