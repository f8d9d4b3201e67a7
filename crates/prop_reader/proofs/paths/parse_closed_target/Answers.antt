use Rattle.std.proofs.Common.{refl}
use Rattle.prism_lex.specs.declared.token.TokenKind.TheVariants as K
use Rattle.prism_lex.specs.declared.symbols.Symbol.TheVariants as S
use Rattle.prism_exprs.specs.Levels.{goes_on}
use Rattle.prism_exprs.proofs.Outer.{leaves_in}
use Rattle.prop_grammar.specs.Grammar
use Rattle.prop_reader.specs.Parts.{in_scope}
use Rattle.prop_reader.proofs.Pieces
use Rattle.prop_reader.proofs.Worded
use Rattle.prop_reader.proofs.paths.parse_closed_target.Goals as goal

pub returns-in_err-goal : goal.returns-in_err-goal
returns-in_err-goal c = leaves_in _ _ _ _ _ _ c.from_residual.ensures (λ s. Worded.no_inner (K.Symbol S.RightBracket) goes_on (in_scope Grammar.target s) refl (Pieces.target s).one s _ _ (c.in_err-goal.ensures s))

pub returns-in_err-_right : goal.returns-in_err-_right
returns-in_err-_right c = leaves_in _ _ _ _ _ _ c.from_residual-in_err-_right.ensures (λ s. Worded.no_end (K.Symbol S.RightBracket) goes_on (in_scope Grammar.target s) refl (Pieces.target s).one s _ (c.in_ok-goal.ensures s) (c.in_err-_right.ensures s))

pub returns : goal.returns
returns c = λ s. Worded.closed_read (K.Symbol S.RightBracket) goes_on (in_scope Grammar.target s) refl (Pieces.target s).one (c.in_ok-goal.ensures s) (c.in_ok-_right.ensures s)
