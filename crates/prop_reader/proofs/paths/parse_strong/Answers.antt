use Rattle.std.proofs.Common.{refl, sym}
use Rattle.prism_lex.specs.declared.token.TokenKind.TheVariants as K
use Rattle.prism_lex.specs.declared.words.Reserved.TheVariants as W
use Rattle.prism_lex.specs.declared.symbols.Symbol.TheVariants as S
use Rattle.prism_exprs.specs.Levels.{goes_on}
use Rattle.prism_exprs.proofs.Outer.{leaves_in}
use Rattle.op_trees.specs.Tree.{tree}
use Rattle.prop_grammar.specs.Grammar
use Rattle.prop_reader.specs.Parts.{in_scope}
use Rattle.prop_reader.proofs.Pieces
use Rattle.prop_reader.proofs.Choices
use Rattle.prop_reader.proofs.Worded
use Rattle.prop_reader.proofs.paths.parse_strong.Goals as goal

pub returns-in_err-_until : goal.returns-in_err-_until
unfolding Grammar.strong_after
returns-in_err-_until c = leaves_in _ _ _ _ _ _ c.from_residual.ensures (λ s. Worded.no_token (K.Word W.UWord) (K.Symbol S.RightBracket) goes_on (in_scope Grammar.target s) (λ p. Grammar.until_by (tree c.args.first) p.0 p.1) refl (Pieces.target s).one (Pieces.target s).word s _ _ (c.in_err-_until.ensures s))

pub returns-in_err-bound : goal.returns-in_err-bound
unfolding Grammar.strong_after
returns-in_err-bound c = leaves_in _ _ _ _ _ _ c.from_residual-in_err-bound.ensures (λ s. Worded.no_part (K.Word W.UWord) (K.Symbol S.RightBracket) goes_on (in_scope Grammar.target s) (λ p. Grammar.until_by (tree c.args.first) p.0 p.1) refl (Pieces.target s).one (Pieces.target s).word s _ (c.in_ok-_until.ensures s) (c.in_err-bound.ensures s))

pub returns : goal.returns
unfolding Grammar.strong_after
returns c = λ s. Choices.valued _ _ _ _ _ _ (sym c.until_by.ensures) (Worded.all_read (K.Word W.UWord) (K.Symbol S.RightBracket) goes_on (in_scope Grammar.target s) (λ p. Grammar.until_by (tree c.args.first) p.0 p.1) refl (Pieces.target s).one (Pieces.target s).word (c.in_ok-_until.ensures s) (c.in_ok-bound.ensures s))
