use Rattle.std.proofs.Common.{refl}
use Rattle.prism_lex.specs.declared.token.TokenKind.TheVariants as K
use Rattle.prism_lex.specs.declared.symbols.Symbol.TheVariants as S
use Rattle.prism_exprs.specs.Reading.{none}
use Rattle.prism_exprs.proofs.Outer.{leaves_in}
use Rattle.prop_grammar.specs.Grammar
use Rattle.prop_reader.proofs.Single.{title_one}
use Rattle.prop_reader.proofs.Worded
use Rattle.prop_reader.proofs.queries.read_closed_title.Goals as goal

pub returns-in_err-title : goal.returns-in_err-title
returns-in_err-title c = leaves_in _ _ _ _ _ _ c.from_residual.ensures (λ s. Worded.no_inner (K.Symbol S.RightBrace) none Grammar.title refl title_one s _ _ (c.in_err-title.ensures s))

pub returns-in_err-_right : goal.returns-in_err-_right
returns-in_err-_right c = leaves_in _ _ _ _ _ _ c.from_residual-in_err-_right.ensures (λ s. Worded.no_end (K.Symbol S.RightBrace) none Grammar.title refl title_one s _ (c.in_ok-title.ensures s) (c.in_err-_right.ensures s))

pub returns : goal.returns
returns c = λ s. Worded.closed_read (K.Symbol S.RightBrace) none Grammar.title refl title_one (c.in_ok-title.ensures s) (c.in_ok-_right.ensures s)
