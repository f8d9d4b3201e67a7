use Rattle.prism_lex.specs.declared.token.TokenKind.TheVariants as K
use Rattle.prism_lex.specs.declared.symbols.Symbol.TheVariants as S
use Rattle.prism_exprs.specs.Reading.{none}
use Rattle.prism_exprs.proofs.Laws.{token_one, token_word, then_word, gives_word}
use Rattle.prism_exprs.proofs.Outer.{leaves_in}
use Rattle.prism_items.specs.Parts.{in_scope, target}
use Rattle.prism_items.proofs.Leading.{begin, followed, step, halt}
use Rattle.prism_items.proofs.Declaring.{name_one, name_word}
use Rattle.prism_items.proofs.updates.parse_target.Goals as goal

pub returns-in_err-_open : goal.returns-in_err-_open
returns-in_err-_open c = leaves_in _ _ _ _ _ _ c.from_residual.ensures (λ s. halt _ _ s (begin (in_scope target s) none _) (λ _. then_word name_word (λ _. then_word (token_word _) (λ _. then_word (token_word _) (λ _. gives_word _)))) _ (c.in_err-_open.ensures s))

pub returns-in_err-name : goal.returns-in_err-name
returns-in_err-name c = leaves_in _ _ _ _ _ _ c.from_residual-in_err-name.ensures (λ s. halt _ _ s (step _ _ (begin (in_scope target s) none _) (token_one _) (c.in_ok-_open.ensures s)) (λ _. then_word (token_word _) (λ _. then_word (token_word _) (λ _. gives_word _))) _ (c.in_err-name.ensures s))

pub returns-in_err-_prime : goal.returns-in_err-_prime
returns-in_err-_prime c = leaves_in _ _ _ _ _ _ c.from_residual-in_err-_prime.ensures (λ s. halt _ _ s (step _ _ (step _ _ (begin (in_scope target s) none _) (token_one _) (c.in_ok-_open.ensures s)) name_one (c.in_ok-name.ensures s)) (λ _. then_word (token_word _) (λ _. gives_word _)) _ (c.in_err-_prime.ensures s))

pub returns : goal.returns
returns c =
    followed (λ x. x) (in_scope target) _ (K.Symbol S.Equal) c.in_ok-name.name _ _ c.read_symbol-3.result c.followed_by.result
    (λ s. step _ _ (step _ _ (step _ _ (begin (in_scope target s) none _) (token_one _) (c.in_ok-_open.ensures s)) name_one (c.in_ok-name.ensures s)) (token_one _) (c.in_ok-_prime.ensures s))
    c.read_symbol-3.ensures c.followed_by.ensures
