use Rattle.std.proofs.Common.{ℕ, ap, None}
use Rattle.prism_lex.specs.declared.words.Reserved.TheVariants as W
use Rattle.prism_exprs.proofs.Laws.{gives_word, gives_reads}
use Rattle.prism_exprs.proofs.Keeping.{place_kept}
use Rattle.prism_exprs.proofs.Outer.{leaves_in}
use Rattle.prism_items.proofs.Leading.{step, halt}
use Rattle.prop_grammar.specs.Property
use Rattle.prop_grammar.specs.Syntax.{path_of}
use Rattle.prop_reader.proofs.Pieces
use Rattle.prop_reader.proofs.Choices
use Rattle.prop_reader.proofs.queries.parse_highest_reward.Goals as goal

pub returns-in_err-word : goal.returns-in_err-word
returns-in_err-word c = λ n. leaves_in _ _ _ _ _ _ c.from_residual.ensures (λ s. halt _ _ s (Choices.rmax_here s n _ c.requires.reward c.requires.first) (λ t. (Pieces.asking_reach s n _).word) _ (c.in_err-word.ensures s))

pub returns-in_err-path : goal.returns-in_err-path
returns-in_err-path c = λ n. leaves_in _ _ _ _ _ _ c.from_residual-in_err-path.ensures (λ s. halt _ _ s (step _ _ (Choices.rmax_here s n _ c.requires.reward c.requires.first) (Pieces.asks W.Rmax).one (c.in_ok-word.ensures s)) (λ p. gives_word _) _ (c.in_err-path.ensures s))

pub returns : goal.returns
returns c = λ n s. Choices.valued _ _ _ _ _ _ (ap (λ (i : ℕ). record { name = n; ask = Property.greatest_reward (record { name = None; at = i }); path = path_of c.in_ok-path.path }) (place_kept _ _ c.in_ok-word.word.kind c.in_ok-word.word.at c.in_ok-word.word.size)) ((step _ _ (step _ _ (Choices.rmax_here s n _ c.requires.reward c.requires.first) (Pieces.asks W.Rmax).one (c.in_ok-word.ensures s)) (Pieces.bracketed_reach s).one (c.in_ok-path.ensures s)).reads _ _ (gives_reads _ _))
