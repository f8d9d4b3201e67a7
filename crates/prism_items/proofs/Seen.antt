-- One token of those that are kept, as the grammar sees it.
use Rattle.std.proofs.Common.{◌≡◌, ℕ, Bool, true, false, List, [], ◌∷◌, ◌++◌, Some, None, refl, sym, ap, subst, ◌∙◌, map, length, if◌then◌else◌}
use denote.Enum.Bare.{true_same}
use Rattle.bridge_io.specs.declared.reason.Named.{Named}
use Rattle.prism_lex.specs.contracts.words.Reserved.{the_type as words}
use Rattle.prism_lex.specs.declared.token.TokenKind.{TokenKind}
use Rattle.prism_lex.specs.declared.token.TokenKind.TheVariants as K
use Rattle.prism_lex.specs.declared.words.Reserved.{Reserved}
use Rattle.prism_lex.specs.Tokens.{Lexeme}
use Rattle.prism_tree.specs.Lang.{token, gives, ◌>>=◌}
use Rattle.prism_tree.specs.Grammar.{named}
use Rattle.prism_exprs.specs.declared.tokens.Cause.TheVariants as C
use Rattle.prism_exprs.specs.declared.tokens.Found.{Found}
use Rattle.prism_exprs.specs.declared.tokens.Literal.{Literal}
use Rattle.prism_exprs.specs.declared.tokens.Kept.{Kept}
use Rattle.prism_exprs.specs.declared.tokens.Kept.TheVariants as H
use Rattle.prism_exprs.specs.Kept.{is_ascii_text, lexeme_at, lexeme_by, in_row, text_at}
use Rattle.prism_exprs.specs.Reading.{none, Reads, starts, is_kind, same_kind}
use Rattle.prism_exprs.specs.Scope.{Scope, Halts}
use Rattle.prism_exprs.proofs.Laws.{none_follows, token_word, gives_word, then_word, then_reads, token_reads, gives_reads}
use Rattle.prism_exprs.proofs.Choice.{then_barred, token_barred}
use Rattle.prism_exprs.proofs.Keeping.{of_name, of_literal}
use Rattle.prism_exprs.proofs.Loops.{same_is, starts_not}
use Rattle.prism_exprs.proofs.Symbols.{starts_empty}
use Rattle.std.proofs.Common.{arith, Option}
use Rattle.std.proofs.lemmas.Option.{cond_some}
use Rattle.std.proofs.lemmas.Bool.{and_parts}
use Rattle.std.proofs.lemmas.List.Folds.{list_all-append}
use Rattle.std.specs.Char.{is_ascii}
use Rattle.op_trees.specs.declared.tree.Ty.{Ty}
use Rattle.op_trees.specs.declared.tree.Ty.TheVariants as T
use Rattle.prism_lex.specs.declared.words.Reserved.TheVariants as W
use Rattle.prism_items.specs.Parts.{text_if, type_of, kept_type, behind_type, type_front}
use Rattle.prism_items.proofs.Leading.{barred_halts}

pub word_itself : (r : Reserved) → same_kind (K.Word r) (K.Word r) ≡ true
word_itself r = true_same words r r refl

pub first_read : (f : Found → Lexeme) (k : TokenKind) (found xs : List Found) (x : Found) (r : List Lexeme) → found ≡ x ∷ xs → starts (is_kind k) (map f found) ≡ true → r ≡ map f xs → Reads (token k) none (map f found) (f x) r
first_read f k found xs x r e s g =
    let F : List Found → Type 0 = λ u. starts (is_kind k) (map f u) ≡ true in
    token_reads (f x) r (ap (λ (u : List Found). map f u) e ∙ ap (λ (u : List Lexeme). f x ∷ u) (sym g)) (same_is _ _ (subst F e s))

pub not_next : (k : TokenKind) (ts : List Lexeme) → same_kind k k ≡ true → starts (is_kind k) ts ≡ false → (s : Scope) → Halts s C.Form (token k) none ts ts
not_next k ts same e s = barred_halts (token k) none ts s (token_word k) (token_barred none ts (starts_not k ts same e))

pub none_next : (f : Found → Lexeme) (k : TokenKind) (found : List Found) → same_kind k k ≡ true → length found ≡ 0 → (s : Scope) → Halts s C.Form (token k) none (map f found) (map f found)
none_next f k found same e s = not_next k (map f found) same (starts_empty (is_kind k) f found e) s

-- ---- texts

none_kind : (b : Bool) (t : List ℕ) → (if b then Some t else None) ≡ None → b ≡ false
none_kind true t e = absurd cc
none_kind false t e = refl

-- A name that one token spells.
pub text_read : (f : Found → Lexeme) (k : TokenKind) (g : List ℕ → List ℕ) (found xs : List Found) (x : Found) (r : List Lexeme) (w v : List ℕ) (at : ℕ) → found ≡ x ∷ xs → text_if k (f x) ≡ Some w → v ≡ g w → at ≡ (f x).at →
    r ≡ map f xs → Reads (token k >>= λ t. gives (named (g t.text) t.at)) none (map f found) (named v at) r
text_read f k g found xs x r w v at e h p q i =
    let n = cond_some (is_kind k (f x).kind) (f x).text w h in
    let G : Named → Type 0 = λ u. Reads (token k >>= λ t. gives (named (g t.text) t.at)) none (map f found) u r in
    let same : named (g (f x).text) (f x).at ≡ named v at = ap (λ (u : List ℕ). named u (f x).at) (ap g n.1 ∙ sym p) ∙ ap (λ (m : ℕ). named v m) (sym q) in
    let starts_so : starts (is_kind k) (map f found) ≡ true = (let F : List Found → Type 0 = λ u. starts (is_kind k) (map f u) ≡ true in subst F (sym e) n.0) in
    subst G same (then_reads _ (first_read f k found xs x r e starts_so i) (gives_reads _ r))

pub text_missing : (k : TokenKind) (g : List ℕ → List ℕ) (ts : List Lexeme) → same_kind k k ≡ true → starts (is_kind k) ts ≡ false → (s : Scope) → Halts s C.Form (token k >>= λ t. gives (named (g t.text) t.at)) none ts ts
text_missing k g ts same e s =
    barred_halts _ none ts s (then_word (token_word k) (λ t. gives_word _)) (then_barred _ _ none none ts (none_follows _ none) (token_barred none ts (starts_not k ts same e)))

pub text_other : (f : Found → Lexeme) (k : TokenKind) (found xs : List Found) (x : Found) → found ≡ x ∷ xs → text_if k (f x) ≡ None → starts (is_kind k) (map f found) ≡ false
text_other f k found xs x e h =
    let F : List Found → Type 0 = λ u. starts (is_kind k) (map f u) ≡ false in
    subst F (sym e) (none_kind (is_kind k (f x).kind) (f x).text h)

-- ---- types

word_type : (r : Reserved) → type_of (K.Word r) ≡ kept_type (H.Word r)
word_type W.Int = refl
word_type W.Double = refl
word_type W.BoolWord = refl
word_type r = refl

pub type_kept : (bytes : List ℕ) (literals : List Literal) (k : Kept) (at size : ℕ) → type_of (lexeme_by bytes literals k at size).kind ≡ kept_type k
type_kept bytes literals (H.Word r) at size = word_type r
type_kept bytes literals (H.Symbol a) at size = refl
type_kept bytes literals H.Ident at size = of_name (is_ascii_text (text_at bytes at size)) K.Ident (text_at bytes at size) at type_of None refl refl
type_kept bytes literals H.Quoted at size = of_name (is_ascii_text (text_at bytes at size)) K.Quoted (text_at bytes at size) at type_of None refl refl
type_kept bytes literals (H.Number row) at size = of_literal bytes (in_row literals row size) at type_of None (λ l. refl) refl

pub type_seen : (bytes : List ℕ) (literals : List Literal) (found xs : List Found) (x : Found) (ty : Option Ty) → found ≡ x ∷ xs → ty ≡ kept_type x.kind →
    type_front (map (lexeme_at bytes literals) found) ≡ behind_type ty (lexeme_at bytes literals x) (map (lexeme_at bytes literals) xs)
type_seen bytes literals found xs x ty e h =
    let f = lexeme_at bytes literals in
    ap (λ (u : List Found). type_front (map f u)) e ∙ ap (λ (o : Option Ty). behind_type o (f x) (map f xs)) (type_kept bytes literals x.kind x.at x.size ∙ sym h)

pub type_other : (bytes : List ℕ) (literals : List Literal) (found xs : List Found) (x : Found) → found ≡ x ∷ xs → None ≡ kept_type x.kind → type_front (map (lexeme_at bytes literals) found) ≡ (T.Int, map (lexeme_at bytes literals) found)
type_other bytes literals found xs x e h = type_seen bytes literals found xs x None e h ∙ ap (λ (u : List Found). (T.Int, map (lexeme_at bytes literals) u)) (sym e)

pub type_none : (f : Found → Lexeme) (found : List Found) → length found ≡ 0 → type_front (map f found) ≡ (T.Int, map f found)
type_none f [] e = refl
type_none f (x ∷ xs) e = absurd (omega (arith, e))

-- ---- quotes

pub ascii_between : (w v x : List ℕ) (a b : ℕ) → w ≡ a ∷ v → v ≡ x ++ b ∷ [] → is_ascii_text w ≡ true → is_ascii_text x ≡ true
ascii_between w v x a b e f h =
    let i : is_ascii_text v ≡ true = (and_parts (is_ascii a) (is_ascii_text v) (sym (ap is_ascii_text e) ∙ h)).1 in
    (and_parts (is_ascii_text x) (is_ascii_text (b ∷ [])) (sym (list_all-append is_ascii x (b ∷ [])) ∙ sym (ap is_ascii_text f) ∙ i)).0
