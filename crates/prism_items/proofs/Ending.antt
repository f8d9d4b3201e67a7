-- What stands behind the name of a module, up to its last word.
use Rattle.std.proofs.Common.{◌≡◌, true, false, List, refl, sym, subst}
use Rattle.std.specs.Prelude.{Result, Ok, Err}
use Rattle.bridge_io.specs.declared.reason.Named.{Named}
use Rattle.prism_lex.specs.declared.token.TokenKind.TheVariants as K
use Rattle.prism_lex.specs.declared.words.Reserved.TheVariants as W
use Rattle.prism_lex.specs.declared.symbols.Symbol.TheVariants as S
use Rattle.prism_lex.specs.Tokens.{Lexeme}
use Rattle.prism_tree.specs.declared.syntax.PrismModule.{PrismModule}
use Rattle.prism_tree.specs.Syntax.{module_of}
use Rattle.prism_tree.specs.Lang.{gives, ◌>>=◌}
use Rattle.prism_tree.specs.Grammar.{word, body, copy}
use Rattle.prism_exprs.specs.declared.tokens.Tokens.{Tokens}
use Rattle.prism_exprs.specs.declared.tokens.Stop.{Stop}
use Rattle.prism_exprs.specs.Kept.{seen}
use Rattle.prism_exprs.specs.Reading.{none, starts, is_kind}
use Rattle.prism_exprs.specs.Scope.{Scope, StopsIn, ParsesIn}
use Rattle.prism_exprs.proofs.Laws.{token_word, token_follows, then_word, gives_word}
use Rattle.prism_items.specs.Parts.{in_scope, closed_by, module_rest, all_but}
use Rattle.prism_items.proofs.Leading.{Leads, step, step_to, halt, halt_at}
use Rattle.prism_items.proofs.Building.{body_one, copy_one, rest_copy, rest_body}

-- What was read is a module up to its last word.
abbrev pub IsUpToEnd : Scope → Named → List Lexeme → Result (PrismModule × Tokens) Stop → Type 0
IsUpToEnd s x ts (Ok y) = Leads none (in_scope (module_rest x) s) ts (word W.Endmodule >>= λ t. gives (module_of y.0)) (seen y.1)
IsUpToEnd s x ts (Err e) = StopsIn s (in_scope (module_rest x) s) none ts e

pub copy_to_end : (s : Scope) (x : Named) (ts : List Lexeme) (r : Result (PrismModule × Tokens) Stop) → starts (is_kind (K.Symbol S.Equal)) ts ≡ true → ParsesIn module_of (in_scope (λ E V. copy E V x)) none ts r → IsUpToEnd s x ts r
unfolding closed_by
copy_to_end s x ts (Ok y) h p = step _ _ (rest_copy s x ts h) (copy_one s x) (p s)
copy_to_end s x ts (Err e) h p = halt _ _ s (rest_copy s x ts h) (λ _. then_word (token_word _) (λ _. gives_word _)) e (p s)

pub body_to_end : (s : Scope) (x : Named) (ts : List Lexeme) (r : Result (PrismModule × Tokens) Stop) → starts (is_kind (K.Symbol S.Equal)) ts ≡ false →
    ParsesIn module_of (in_scope (λ E V. body E V x)) (all_but (K.Word W.Endmodule)) ts r → IsUpToEnd s x ts r
unfolding closed_by
body_to_end s x ts (Ok y) h p = step_to _ _ (rest_body s x ts h) (body_one s x) (token_follows (all_but (K.Word W.Endmodule)) (K.Word W.Endmodule) _ none refl) (p s)
body_to_end s x ts (Err e) h p =
    halt_at _ _ s (rest_body s x ts h) (λ _. then_word (token_word _) (λ _. gives_word _)) (token_follows (all_but (K.Word W.Endmodule)) (K.Word W.Endmodule) _ none refl) e (p s)

pub up_to_end : (s : Scope) (x : Named) (ts : List Lexeme) (r q : Result (PrismModule × Tokens) Stop) → q ≡ r → IsUpToEnd s x ts r → IsUpToEnd s x ts q
up_to_end s x ts r q e i = let F : Result (PrismModule × Tokens) Stop → Type 0 = λ u. IsUpToEnd s x ts u in subst F (sym e) i
