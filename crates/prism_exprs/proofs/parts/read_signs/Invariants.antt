use Rattle.std.proofs.Common.{◌≡◌, List, ◌++◌, map, length}
use Rattle.prism_lex.specs.declared.token.TokenKind.TheVariants as K
use Rattle.prism_exprs.specs.declared.tokens.Found.{Found}
use Rattle.prism_tree.specs.Lang.{many, front}
use Rattle.prism_exprs.specs.Kept.{seen, lexeme_at}
use Rattle.prism_exprs.specs.Reading.{is_kind}
use Rattle.prism_tree.specs.Grammar.{symbol}
use Rattle.prism_exprs.proofs.Loops.{Leads}
use Rattle.prism_exprs.proofs.parts.read_signs.Given as goal

abbrev pub invariant-signs : goal.invariant-signs
invariant-signs l = record {
  done : List Found;
  parts : l.tokens.found.now ≡ done ++ l.rest;
  few : l.count ≡ length done;
  leads :
      Leads (is_kind (K.Symbol l.sign)) (many (symbol l.sign)) (seen l.tokens)
      (front (symbol l.sign) (map (lexeme_at l.tokens.source.now.bytes.now l.tokens.source.now.literals.now) done)) (map (lexeme_at l.tokens.source.now.bytes.now l.tokens.source.now.literals.now) l.rest);
}

abbrev pub decreases-signs : goal.decreases-signs
decreases-signs l = length l.rest
