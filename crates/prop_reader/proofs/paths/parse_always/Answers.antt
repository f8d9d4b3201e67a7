use Rattle.std.proofs.Common.{refl}
use Rattle.prism_lex.specs.declared.token.TokenKind.TheVariants as K
use Rattle.prism_lex.specs.declared.words.Reserved.TheVariants as W
use Rattle.prism_lex.specs.declared.symbols.Symbol.TheVariants as S
use Rattle.prism_exprs.specs.Levels.{goes_on}
use Rattle.prism_exprs.specs.Scope.{expressions}
use Rattle.prism_exprs.proofs.Outer.{expressions_one, expressions_word, leaves_in}
use Rattle.prop_grammar.specs.Property
use Rattle.prop_grammar.specs.Grammar
use Rattle.prop_reader.proofs.Worded
use Rattle.prop_reader.proofs.paths.parse_always.Goals as goal

pub returns-in_err-_globally : goal.returns-in_err-_globally
unfolding Grammar.always
returns-in_err-_globally c = leaves_in _ _ _ _ _ _ c.from_residual.ensures (λ s. Worded.no_token (K.Word W.GWord) (K.Symbol S.RightBracket) goes_on (expressions s) (λ e. Property.globally e) refl (expressions_one s) (expressions_word s) s _ _ (c.in_err-_globally.ensures s))

pub returns-in_err-state : goal.returns-in_err-state
unfolding Grammar.always
returns-in_err-state c = leaves_in _ _ _ _ _ _ c.from_residual-in_err-state.ensures (λ s. Worded.no_part (K.Word W.GWord) (K.Symbol S.RightBracket) goes_on (expressions s) (λ e. Property.globally e) refl (expressions_one s) (expressions_word s) s _ (c.in_ok-_globally.ensures s) (c.in_err-state.ensures s))

pub returns : goal.returns
unfolding Grammar.always
returns c = λ s. Worded.all_read (K.Word W.GWord) (K.Symbol S.RightBracket) goes_on (expressions s) (λ e. Property.globally e) refl (expressions_one s) (expressions_word s) (c.in_ok-_globally.ensures s) (c.in_ok-state.ensures s)
