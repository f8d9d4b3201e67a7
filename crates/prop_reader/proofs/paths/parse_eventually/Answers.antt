use Rattle.std.proofs.Common.{refl, sym}
use Rattle.prism_lex.specs.declared.token.TokenKind.TheVariants as K
use Rattle.prism_lex.specs.declared.words.Reserved.TheVariants as W
use Rattle.prism_lex.specs.declared.symbols.Symbol.TheVariants as S
use Rattle.prism_exprs.specs.Levels.{goes_on}
use Rattle.prism_exprs.proofs.Outer.{leaves_in}
use Rattle.prop_grammar.specs.Grammar
use Rattle.prop_reader.specs.Parts.{in_scope}
use Rattle.prop_reader.proofs.Pieces
use Rattle.prop_reader.proofs.Choices
use Rattle.prop_reader.proofs.Worded
use Rattle.prop_reader.proofs.paths.parse_eventually.Goals as goal

pub returns-in_err-_finally : goal.returns-in_err-_finally
unfolding Grammar.eventually
returns-in_err-_finally c = leaves_in _ _ _ _ _ _ c.from_residual.ensures (λ s. Worded.no_token (K.Word W.FWord) (K.Symbol S.RightBracket) goes_on (in_scope Grammar.target s) (λ p. Grammar.finally_by p.0 p.1) refl (Pieces.target s).one (Pieces.target s).word s _ _ (c.in_err-_finally.ensures s))

pub returns-in_err-bound : goal.returns-in_err-bound
unfolding Grammar.eventually
returns-in_err-bound c = leaves_in _ _ _ _ _ _ c.from_residual-in_err-bound.ensures (λ s. Worded.no_part (K.Word W.FWord) (K.Symbol S.RightBracket) goes_on (in_scope Grammar.target s) (λ p. Grammar.finally_by p.0 p.1) refl (Pieces.target s).one (Pieces.target s).word s _ (c.in_ok-_finally.ensures s) (c.in_err-bound.ensures s))

pub returns : goal.returns
unfolding Grammar.eventually
returns c = λ s. Choices.valued _ _ _ _ _ _ (sym c.finally_by.ensures) (Worded.all_read (K.Word W.FWord) (K.Symbol S.RightBracket) goes_on (in_scope Grammar.target s) (λ p. Grammar.finally_by p.0 p.1) refl (Pieces.target s).one (Pieces.target s).word (c.in_ok-_finally.ensures s) (c.in_ok-bound.ensures s))
