use Rattle.std.proofs.Common.{refl}
use Rattle.prism_lex.specs.declared.token.TokenKind.TheVariants as K
use Rattle.prism_lex.specs.declared.symbols.Symbol.TheVariants as S
use Rattle.prism_exprs.specs.Levels.{goes_on}
use Rattle.prism_exprs.specs.Scope.{expressions}
use Rattle.prism_exprs.proofs.Outer.{expressions_one, leaves_in}
use Rattle.prop_reader.proofs.Worded
use Rattle.prop_reader.proofs.paths.parse_closed_state.Goals as goal

pub returns-in_err-state : goal.returns-in_err-state
returns-in_err-state c = leaves_in _ _ _ _ _ _ c.from_residual.ensures (λ s. Worded.no_inner (K.Symbol S.RightBracket) goes_on (expressions s) refl (expressions_one s) s _ _ (c.in_err-state.ensures s))

pub returns-in_err-_right : goal.returns-in_err-_right
returns-in_err-_right c = leaves_in _ _ _ _ _ _ c.from_residual-in_err-_right.ensures (λ s. Worded.no_end (K.Symbol S.RightBracket) goes_on (expressions s) refl (expressions_one s) s _ (c.in_ok-state.ensures s) (c.in_err-_right.ensures s))

pub returns : goal.returns
returns c = λ s. Worded.closed_read (K.Symbol S.RightBracket) goes_on (expressions s) refl (expressions_one s) (c.in_ok-state.ensures s) (c.in_ok-_right.ensures s)
