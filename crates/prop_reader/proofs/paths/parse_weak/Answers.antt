use Rattle.std.proofs.Common.{refl}
use Rattle.prism_lex.specs.declared.token.TokenKind.TheVariants as K
use Rattle.prism_lex.specs.declared.words.Reserved.TheVariants as W
use Rattle.prism_lex.specs.declared.symbols.Symbol.TheVariants as S
use Rattle.prism_exprs.specs.Levels.{goes_on}
use Rattle.prism_exprs.specs.Scope.{expressions}
use Rattle.prism_exprs.proofs.Outer.{expressions_one, expressions_word, leaves_in}
use Rattle.op_trees.specs.Tree.{tree}
use Rattle.prop_grammar.specs.Property
use Rattle.prop_grammar.specs.Grammar
use Rattle.prop_reader.proofs.Worded
use Rattle.prop_reader.proofs.paths.parse_weak.Goals as goal

pub returns-in_err-_weak : goal.returns-in_err-_weak
unfolding Grammar.weak_after
returns-in_err-_weak c = leaves_in _ _ _ _ _ _ c.from_residual.ensures (λ s. Worded.no_token (K.Word W.WWord) (K.Symbol S.RightBracket) goes_on (expressions s) (λ e. Property.weak_until (tree c.args.first) e) refl (expressions_one s) (expressions_word s) s _ _ (c.in_err-_weak.ensures s))

pub returns-in_err-second : goal.returns-in_err-second
unfolding Grammar.weak_after
returns-in_err-second c = leaves_in _ _ _ _ _ _ c.from_residual-in_err-second.ensures (λ s. Worded.no_part (K.Word W.WWord) (K.Symbol S.RightBracket) goes_on (expressions s) (λ e. Property.weak_until (tree c.args.first) e) refl (expressions_one s) (expressions_word s) s _ (c.in_ok-_weak.ensures s) (c.in_err-second.ensures s))

pub returns : goal.returns
unfolding Grammar.weak_after
returns c = λ s. Worded.all_read (K.Word W.WWord) (K.Symbol S.RightBracket) goes_on (expressions s) (λ e. Property.weak_until (tree c.args.first) e) refl (expressions_one s) (expressions_word s) (c.in_ok-_weak.ensures s) (c.in_ok-second.ensures s)
