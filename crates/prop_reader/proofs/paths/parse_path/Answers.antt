use Rattle.std.proofs.Common.{sym, ◌∙◌}
use Rattle.op_trees.specs.Tree.{tree}
use Rattle.prism_exprs.specs.Reading.{none}
use Rattle.prism_exprs.proofs.Outer.{expressions_one, leaves_in}
use Rattle.prism_items.proofs.Leading.{step_to, halt_at, parses_by}
use Rattle.prop_grammar.specs.Grammar
use Rattle.prop_grammar.specs.Syntax.{path_of}
use Rattle.prop_reader.specs.Parts.{in_scope, bracket_behind}
use Rattle.prop_reader.proofs.Pieces
use Rattle.prop_reader.proofs.Choices
use Rattle.prop_reader.proofs.paths.parse_path.Goals as goal

pub returns-then-word_next : goal.returns-then-word_next
returns-then-word_next c = parses_by path_of Choices.closed_path (in_scope (λ E B. bracket_behind (Grammar.eventually E B))) none _ _ c.parse_eventually.result (λ s. Choices.finally_here s _ (sym c.word_next.ensures ∙ c.if-word_next.true)) c.parse_eventually.ensures

pub returns-then-word_next-2 : goal.returns-then-word_next-2
returns-then-word_next-2 c = parses_by path_of Choices.closed_path (in_scope (λ E B. bracket_behind (Grammar.always E B))) none _ _ c.parse_always.result (λ s. Choices.globally_here s _ (sym c.word_next.ensures ∙ c.if-word_next.false) (sym c.word_next-2.ensures ∙ c.if-word_next-2.true)) c.parse_always.ensures

pub returns-in_err-first : goal.returns-in_err-first
returns-in_err-first c = leaves_in _ _ _ _ _ _ c.from_residual.ensures (λ s. halt_at _ _ s (Choices.until_here s _ (sym c.word_next.ensures ∙ c.if-word_next.false) (sym c.word_next-2.ensures ∙ c.if-word_next-2.false)) (λ a. Pieces.closed_after_word s a) (Pieces.closed_after_follows s) _ (c.in_err-first.ensures s))

pub returns : goal.returns
returns c = parses_by path_of Choices.closed_path (in_scope (λ E B. bracket_behind (Grammar.after E B (tree c.in_ok-first.first)))) none _ _ c.parse_after.result
    (λ s. step_to _ _ (Choices.until_here s _ (sym c.word_next.ensures ∙ c.if-word_next.false) (sym c.word_next-2.ensures ∙ c.if-word_next-2.false)) (expressions_one s) (Pieces.closed_after_follows s) (c.in_ok-first.ensures s)) c.parse_after.ensures
