use Rattle.std.proofs.Common.{rules}
use Rattle.prism_lex.specs.declared.token.TokenKind.TheVariants as K
use Rattle.prism_items.proofs.Seen.{word_itself, first_read, not_next, none_next}
use Rattle.prism_items.proofs.readers.read_word.Goals as goal

pub returns-in_default : goal.returns-in_default
returns-in_default c = none_next _ (K.Word c.args.wanted) _ (word_itself c.args.wanted) c.in_default.ensures.cases

pub returns-then-not-word_next : goal.returns-then-not-word_next
returns-then-not-word_next c = not_next (K.Word c.args.wanted) _ (word_itself c.args.wanted) (search rules)

pub returns : goal.returns
returns c = λ s. first_read _ (K.Word c.args.wanted) _ _ _ _ c.in-Some.ensures.cases.0 (search rules) c.with.ensures
