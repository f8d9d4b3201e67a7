use Rattle.std.proofs.Common.{sym, ◌∙◌}
use Rattle.prism_exprs.specs.Reading.{none}
use Rattle.prism_items.proofs.Leading.{parses_by}
use Rattle.prop_grammar.specs.Grammar
use Rattle.prop_reader.specs.Parts.{in_scope, asked_as, asked_of}
use Rattle.prop_reader.proofs.Choices
use Rattle.prop_reader.proofs.queries.parse_of.Goals as goal

pub returns-then-word_next : goal.returns-then-word_next
returns-then-word_next c = λ n. parses_by (asked_as n) (in_scope (λ E B. asked_of n (Grammar.of_structure E B c.args.structure) E B)) (in_scope (λ E B. asked_of n (Grammar.most_of E B c.args.structure) E B)) none _ _ c.parse_most_of.result
    (λ s. Choices.max_here s n c.args.structure _ (sym c.word_next.ensures ∙ c.if-word_next.true)) (c.parse_most_of.ensures n)

pub returns : goal.returns
returns c = λ n. parses_by (asked_as n) (in_scope (λ E B. asked_of n (Grammar.of_structure E B c.args.structure) E B)) (in_scope (λ E B. asked_of n (Grammar.least_of E B c.args.structure) E B)) none _ _ c.parse_least_of.result
    (λ s. Choices.min_here s n c.args.structure _ (sym c.word_next.ensures ∙ c.if-word_next.false)) (c.parse_least_of.ensures n)
