use Rattle.prism_exprs.specs.Reading.{none}
use Rattle.prism_exprs.proofs.Laws.{token_one, token_word, then_word}
use Rattle.prism_exprs.proofs.Outer.{leaves_in}
use Rattle.prism_items.proofs.Leading.{step, halt, parses_by}
use Rattle.prop_grammar.specs.Grammar
use Rattle.prop_reader.specs.Parts.{in_scope, asked_as, asked_of}
use Rattle.prop_reader.proofs.Pieces
use Rattle.prop_reader.proofs.Choices
use Rattle.prop_reader.proofs.queries.parse_named_reward.Goals as goal

pub returns-in_err-_word : goal.returns-in_err-_word
returns-in_err-_word c = λ n. leaves_in _ _ _ _ _ _ c.from_residual.ensures (λ s. halt _ _ s (Choices.named_here s n _ c.requires.reward c.requires.another c.requires.third) (λ t. then_word (token_word _) (λ l. then_word Pieces.closed_title.word (λ x. Pieces.asked_of_word s n x))) _ (c.in_err-_word.ensures s))

pub returns-in_err-_left : goal.returns-in_err-_left
returns-in_err-_left c = λ n. leaves_in _ _ _ _ _ _ c.from_residual-in_err-_left.ensures (λ s. halt _ _ s (step _ _ (Choices.named_here s n _ c.requires.reward c.requires.another c.requires.third) (token_one _) (c.in_ok-_word.ensures s)) (λ l. then_word Pieces.closed_title.word (λ x. Pieces.asked_of_word s n x)) _ (c.in_err-_left.ensures s))

pub returns-in_err-title : goal.returns-in_err-title
returns-in_err-title c = λ n. leaves_in _ _ _ _ _ _ c.from_residual-in_err-title.ensures (λ s. halt _ _ s (step _ _ (step _ _ (Choices.named_here s n _ c.requires.reward c.requires.another c.requires.third) (token_one _) (c.in_ok-_word.ensures s)) (token_one _) (c.in_ok-_left.ensures s)) (λ x. Pieces.asked_of_word s n x) _ (c.in_err-title.ensures s))

pub returns : goal.returns
returns c = λ n. parses_by (asked_as n) (in_scope (λ E B. Grammar.query E B n)) (in_scope (λ E B. asked_of n (Grammar.of_structure E B (Grammar.called c.in_ok-title.title)) E B)) none _ _ c.parse_of.result
    (λ s. step _ _ (step _ _ (step _ _ (Choices.named_here s n _ c.requires.reward c.requires.another c.requires.third) (token_one _) (c.in_ok-_word.ensures s)) (token_one _) (c.in_ok-_left.ensures s)) Pieces.closed_title.unique (c.in_ok-title.ensures s)) (c.parse_of.ensures n)
