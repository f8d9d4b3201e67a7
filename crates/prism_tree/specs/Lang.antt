-- Languages of lists of tokens: which lists spell which values. These few words are the whole notation of the grammar.
use Rattle.std.specs.Prelude.{◌≡◌, List, [], ◌∷◌, ◌++◌, Option, Some, None, ◌⊎◌}
use Rattle.prism_lex.specs.declared.token.TokenKind.{TokenKind}
use Rattle.prism_lex.specs.Tokens.{Lexeme}

abbrev pub Lang : Type 0 → Type 1
Lang A = List Lexeme → A → Type 0

-- one token of a kind
unfoldable pub token : TokenKind → Lang Lexeme
token k w t = (w ≡ t ∷ []) × (t.kind ≡ k)

-- one token that has a meaning
unfoldable pub token_with : {A : Type 0} → (Lexeme → Option A) → Lang A
token_with meaning w a = (t : Lexeme) × (w ≡ t ∷ []) × (meaning t ≡ Some a)

-- no token, with this value
unfoldable pub gives : {A : Type 0} → A → Lang A
gives a w b = (w ≡ []) × (b ≡ a)

-- nothing spells a value
unfoldable pub never : {A : Type 0} → Lang A
never w a = ⊥

-- first the one, then the other, which may depend on the value of the first
infixl 10 ◌>>=◌
unfoldable pub ◌>>=◌ : {A B : Type 0} → Lang A → (A → Lang B) → Lang B
◌>>=◌ {A} L M w y = (x : A) × (a b : List Lexeme) × (w ≡ a ++ b) × L a x × M x b y

infixl 10 ◌>>◌
abbrev pub ◌>>◌ : {A B : Type 0} → Lang A → Lang B → Lang B
L >> M = L >>= λ _. M

-- the one or the other
infixl 9 ◌or◌
unfoldable pub ◌or◌ : {A : Type 0} → Lang A → Lang A → Lang A
◌or◌ L M w x = L w x ⊎ M w x

-- it may be missing
abbrev pub optional : {A : Type 0} → Lang A → Lang (Option A)
optional L = gives None or (L >>= λ x. gives (Some x))

-- any number, one after another
unfoldable pub many : {A : Type 0} → Lang A → Lang (List A)
many L w [] = w ≡ []
many L w (x ∷ xs) = (a b : List Lexeme) × (w ≡ a ++ b) × L a x × many L b xs

-- any number, taken up from left to right
abbrev pub fold_left : {S A : Type 0} → (S → A → S) → S → List A → S
fold_left f s [] = s
fold_left f s (x ∷ xs) = fold_left f (f s x) xs

unfoldable pub folding : {S A : Type 0} → (S → A → S) → Lang A → S → Lang S
folding f L s = many L >>= λ xs. gives (fold_left f s xs)

abbrev pub with_last : {A : Type 0} → List A → A → List A
with_last xs x = xs ++ x ∷ []

-- these, and then any number more
abbrev pub front : {A : Type 0} → Lang A → List A → Lang (List A)
front L xs = folding with_last L xs

-- some list goes on from this one to a word of the language
abbrev pub Begins : {A : Type 0} → Lang A → List Lexeme → Type 0
Begins {A} L u = (v : List Lexeme) × (x : A) × L (u ++ v) x
