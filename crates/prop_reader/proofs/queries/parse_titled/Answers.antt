use Rattle.std.proofs.Common.{sym, ◌∙◌, Some, None}
use Rattle.prism_exprs.specs.Reading.{none}
use Rattle.prism_exprs.proofs.Laws.{token_one, token_word, then_word}
use Rattle.prism_exprs.proofs.Outer.{leaves_in}
use Rattle.prism_items.proofs.Leading.{step, halt, parses_by, stops_by}
use Rattle.prop_grammar.specs.Grammar
use Rattle.prop_grammar.specs.Syntax.{written_of}
use Rattle.prop_reader.specs.Parts.{in_scope}
use Rattle.prop_reader.proofs.Single.{title_one}
use Rattle.prop_reader.proofs.Pieces
use Rattle.prop_reader.proofs.Choices
use Rattle.prop_reader.proofs.queries.parse_titled.Goals as goal

pub returns-then-not-title_next : goal.returns-then-not-title_next
returns-then-not-title_next c = parses_by written_of (in_scope Grammar.titled) (in_scope (λ E B. Grammar.query E B None)) none _ _ c.parse_untitled.result (λ s. Choices.untitled_here s _ (sym c.title_next.ensures ∙ c.if-not-title_next.true)) c.parse_untitled.ensures

pub returns-in_err-name : goal.returns-in_err-name
unfolding Grammar.titled_query
returns-in_err-name c = leaves_in _ _ _ _ _ _ c.from_residual.ensures (λ s. halt _ _ s (Choices.titled_here s _ (sym c.title_next.ensures ∙ c.if-not-title_next.false)) (λ _. then_word (token_word _) (λ _. (Pieces.query s _).word)) _ (c.in_err-name.ensures s))

pub returns-in_err-_colon : goal.returns-in_err-_colon
unfolding Grammar.titled_query
returns-in_err-_colon c = leaves_in _ _ _ _ _ _ c.from_residual-in_err-_colon.ensures (λ s. halt _ _ s (step _ _ (Choices.titled_here s _ (sym c.title_next.ensures ∙ c.if-not-title_next.false)) title_one (c.in_ok-name.ensures s)) (λ _. (Pieces.query s _).word) _ (c.in_err-_colon.ensures s))

pub returns-in_err-ask : goal.returns-in_err-ask
unfolding Grammar.titled_query
returns-in_err-ask c = leaves_in _ _ _ _ _ _ c.from_residual-in_err-ask.ensures (λ s. stops_by s _ (step _ _ (step _ _ (Choices.titled_here s _ (sym c.title_next.ensures ∙ c.if-not-title_next.false)) title_one (c.in_ok-name.ensures s)) (token_one _) (c.in_ok-_colon.ensures s)) (c.in_err-ask.ensures (Some c.in_ok-name.name) s))

pub returns : goal.returns
unfolding Grammar.titled_query
returns c = λ s. (step _ _ (step _ _ (Choices.titled_here s _ (sym c.title_next.ensures ∙ c.if-not-title_next.false)) title_one (c.in_ok-name.ensures s)) (token_one _) (c.in_ok-_colon.ensures s)).reads _ _ (c.in_ok-ask.ensures (Some c.in_ok-name.name) s)
