-- Parts of the shape: a token, a part, and the token that closes it.
use Rattle.std.proofs.Common.{◌≡◌, Bool, false, List}
use Rattle.prism_lex.specs.declared.token.TokenKind.{TokenKind}
use Rattle.prism_lex.specs.Tokens.{Lexeme}
use Rattle.prism_tree.specs.Lang.{Lang, token, gives, ◌>>=◌}
use Rattle.prism_exprs.specs.declared.tokens.Stop.{Stop}
use Rattle.prism_exprs.specs.Reading.{none, Reads}
use Rattle.prism_exprs.specs.Scope.{Scope, StopsIn}
use Rattle.prism_exprs.proofs.Laws.{IsOne, HasWord, token_one, token_word, token_follows, then_word, gives_word, gives_reads}
use Rattle.prism_exprs.proofs.Grouping.{same_trans, assoc, same_then, gives_then}
use Rattle.prism_items.specs.Parts.{closed_by}
use Rattle.prism_items.proofs.Leading.{Leads, same_leads, begin, step, step_to, halt, halt_at}
use Rattle.prism_items.proofs.Closing.{closed_one, closed_word, closed-same}

module _ {A : Type 0} (k : TokenKind) (m : TokenKind → Bool) (L : Lang A) (off : m k ≡ false) (one : IsOne L m) where
  pub no_inner : (s : Scope) (ts : List Lexeme) (e : Stop) → StopsIn s L m ts e → StopsIn s (closed_by k L) none ts e
  unfolding closed_by
  no_inner s ts e h = halt_at _ _ s (begin (closed_by k L) none ts) (λ x. then_word (token_word k) (λ u. gives_word _)) (token_follows m k _ none off) e h

  pub no_end : (s : Scope) {ts us : List Lexeme} {x : A} (e : Stop) → Reads L m ts x us → StopsIn s (token k) none us e → StopsIn s (closed_by k L) none ts e
  unfolding closed_by
  no_end s {ts} e p h = halt _ _ s (step_to _ _ (begin (closed_by k L) none ts) one (token_follows m k _ none off) p) (λ u. gives_word _) e h

  pub closed_read : {ts us vs : List Lexeme} {x : A} {u : Lexeme} → Reads L m ts x us → Reads (token k) none us u vs → Reads (closed_by k L) none ts x vs
  unfolding closed_by
  closed_read {ts} p q = (step _ _ (step_to _ _ (begin (closed_by k L) none ts) one (token_follows m k _ none off) p) (token_one k) q).reads _ _ (gives_reads _ _)

module _ {A B : Type 0} (j k : TokenKind) (m : TokenKind → Bool) (L : Lang A) (f : A → B) (off : m k ≡ false) (one : IsOne L m) (word : HasWord L) where
  abbrev worded : Lang B
  worded = token j >>= λ t. L >>= λ x. gives (f x)

  leads : (ts : List Lexeme) → Leads none (closed_by k worded) ts (token j >>= λ t. closed_by k L >>= λ x. gives (f x)) ts
  unfolding closed_by
  leads ts =
      same_leads none ts (same_trans (assoc (token j) _ _) (same_then (token j) _ _ (λ t.
      same_trans (assoc L _ _) (same_trans (same_then L _ _ (λ x. gives_then (f x) (λ y. token k >>= λ u. gives y))) (closed-same k L (λ x. gives (f x)))))))

  pub no_token : (s : Scope) (ts : List Lexeme) (e : Stop) → StopsIn s (token j) none ts e → StopsIn s (closed_by k worded) none ts e
  no_token s ts e h = halt _ _ s (leads ts) (λ t. then_word (closed_word k word) (λ x. gives_word _)) e h

  pub no_part : (s : Scope) {ts us : List Lexeme} {t : Lexeme} (e : Stop) → Reads (token j) none ts t us → StopsIn s (closed_by k L) none us e → StopsIn s (closed_by k worded) none ts e
  no_part s {ts} e p h = halt _ _ s (step _ _ (leads ts) (token_one j) p) (λ x. gives_word _) e h

  pub all_read : {ts us vs : List Lexeme} {t : Lexeme} {x : A} → Reads (token j) none ts t us → Reads (closed_by k L) none us x vs → Reads (closed_by k worded) none ts (f x) vs
  all_read {ts} p q = (step _ _ (step _ _ (leads ts) (token_one j) p) (closed_one k m one off) q).reads _ _ (gives_reads _ _)
