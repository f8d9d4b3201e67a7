use Rattle.std.proofs.Common.{sym, ◌∙◌}
use Rattle.op_trees.specs.Tree.{tree}
use Rattle.prism_exprs.specs.Reading.{none}
use Rattle.prism_items.proofs.Leading.{parses_by}
use Rattle.prop_grammar.specs.Grammar
use Rattle.prop_grammar.specs.Syntax.{path_of}
use Rattle.prop_reader.specs.Parts.{in_scope, bracket_behind}
use Rattle.prop_reader.proofs.Choices
use Rattle.prop_reader.proofs.paths.parse_after.Goals as goal

pub returns-then-word_next : goal.returns-then-word_next
returns-then-word_next c = parses_by path_of (in_scope (λ E B. bracket_behind (Grammar.after E B (tree c.args.first)))) (in_scope (λ E B. bracket_behind (Grammar.weak_after E B (tree c.args.first)))) none _ _ c.parse_weak.result
    (λ s. Choices.weak s _ _ (sym c.word_next.ensures ∙ c.if-word_next.true)) c.parse_weak.ensures

pub returns : goal.returns
returns c = parses_by path_of (in_scope (λ E B. bracket_behind (Grammar.after E B (tree c.args.first)))) (in_scope (λ E B. bracket_behind (Grammar.strong_after E B (tree c.args.first)))) none _ _ c.parse_strong.result
    (λ s. Choices.strong s _ _ (sym c.word_next.ensures ∙ c.if-word_next.false)) c.parse_strong.ensures
