use Rattle.std.proofs.Common.{refl}
use Rattle.prism_lex.specs.declared.token.TokenKind.TheVariants as K
use Rattle.prism_lex.specs.declared.symbols.Symbol.TheVariants as S
use Rattle.prism_exprs.specs.Reading.{none, is_kind}
use Rattle.prism_exprs.proofs.Laws.{token_one, token_word, token_follows, then_word, gives_word}
use Rattle.prism_exprs.proofs.Outer.{leaves_in}
use Rattle.prism_items.specs.Parts.{in_scope, closed_by, bracketed_pairs}
use Rattle.prism_items.proofs.Leading.{begin, followed, step, step_to, halt, halt_at}
use Rattle.prism_items.proofs.Building.{several_pairs_one, several_pairs_word}
use Rattle.prism_items.proofs.modules.parse_renaming.Goals as goal

pub returns-in_err-_left : goal.returns-in_err-_left
unfolding closed_by
returns-in_err-_left c = leaves_in _ _ _ _ _ _ c.from_residual.ensures (λ s. halt _ _ s (begin (in_scope bracketed_pairs s) none _) (λ _. then_word (several_pairs_word s) (λ _. then_word (token_word _) (λ _. gives_word _))) _ (c.in_err-_left.ensures s))

pub returns-in_err-pairs : goal.returns-in_err-pairs
unfolding closed_by
returns-in_err-pairs c = leaves_in _ _ _ _ _ _ c.from_residual-in_err-pairs.ensures (λ s. halt_at _ _ s (step _ _ (begin (in_scope bracketed_pairs s) none _) (token_one _) (c.in_ok-_left.ensures s)) (λ _. then_word (token_word _) (λ _. gives_word _)) (token_follows (is_kind (K.Symbol S.Comma)) (K.Symbol S.RightBracket) _ none refl) _ (c.in_err-pairs.ensures s))

pub returns : goal.returns
unfolding closed_by
returns c =
    followed (λ x. x) (in_scope bracketed_pairs) _ (K.Symbol S.RightBracket) c.in_ok-pairs.pairs _ _ c.read_symbol-2.result c.followed_by.result
    (λ s. step_to _ _ (step _ _ (begin (in_scope bracketed_pairs s) none _) (token_one _) (c.in_ok-_left.ensures s)) (several_pairs_one s) (token_follows (is_kind (K.Symbol S.Comma)) (K.Symbol S.RightBracket) _ none refl) (c.in_ok-pairs.ensures s))
    c.read_symbol-2.ensures c.followed_by.ensures
