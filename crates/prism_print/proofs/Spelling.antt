-- Which pieces spell which values.
use Rattle.std.proofs.Common.{◌≡◌, ℕ, List, [], ◌∷◌, ◌++◌, Option, Some, refl, sym, ap, subst, ◌∙◌, append_assoc, append-nil, inl, inr}
use Rattle.prism_lex.specs.declared.token.TokenKind.{TokenKind}
use Rattle.prism_lex.specs.Tokens.{Lexeme}
use Rattle.prism_tree.specs.Lang.{Lang, token, token_with, gives, ◌>>=◌, ◌or◌, many, folding, fold_left}
use Rattle.prism_print.proofs.Pieces.{Piece, printed, blank}

-- the tokens are those of the pieces, wherever they stand
abbrev pub Match : List Piece → List Lexeme → Type 0
Match [] w = w ≡ []
Match (printed k s ∷ ps) w = (t : Lexeme) × (u : List Lexeme) × (w ≡ t ∷ u) × (t.kind ≡ k) × (t.text ≡ s) × Match ps u
Match (blank g ∷ ps) w = Match ps w

-- whatever tokens the pieces give, they spell a value with P
pub record Writes {A : Type 0} (L : Lang A) (P : A → Type 0) (ps : List Piece) : Type 0 where
  pub spells : (w : List Lexeme) → Match ps w → (x : A) × L w x × P x

pub match_append : (ps qs : List Piece) (w : List Lexeme) → Match (ps ++ qs) w → (a b : List Lexeme) × (w ≡ a ++ b) × Match ps a × Match qs b
match_append [] qs w m = ([], w, refl, refl, m)
match_append (printed k s ∷ ps) qs w m =
    let r = match_append ps qs m.1 m.5 in
    (m.0 ∷ r.0, r.1, m.2 ∙ ap (λ (u : List Lexeme). m.0 ∷ u) r.2, (m.0, r.0, refl, m.3, m.4, r.3), r.4)
match_append (blank g ∷ ps) qs w m = match_append ps qs w m

pub then_writes : {A B : Type 0} {L : Lang A} {M : A → Lang B} {P : A → Type 0} {Q : B → Type 0} {ps qs : List Piece} → Writes L P ps → ((x : A) → P x → Writes (M x) Q qs) → Writes (L >>= M) Q (ps ++ qs)
unfolding ◌>>=◌
then_writes {ps = ps} {qs = qs} l m = record {
  spells = λ w h.
      let r = match_append ps qs w h in
      let x = l.spells r.0 r.3 in
      let y = (m x.0 x.2).spells r.1 r.4 in
      (y.0, (x.0, r.0, r.1, r.2, x.1, y.1), y.2);
}

-- a value that takes no token
pub none_writes : {A B : Type 0} {L : Lang A} {M : A → Lang B} {P : A → Type 0} {Q : B → Type 0} {qs : List Piece} → Writes L P [] → ((x : A) → P x → Writes (M x) Q qs) → Writes (L >>= M) Q qs
none_writes l m = then_writes l m

pub token_writes : {B : Type 0} {M : Lexeme → Lang B} {Q : B → Type 0} {qs : List Piece} (k : TokenKind) (s : List ℕ) → ((t : Lexeme) → t.text ≡ s → Writes (M t) Q qs) → Writes (token k >>= M) Q (printed k s ∷ qs)
unfolding ◌>>=◌ token
token_writes k s m = record {
  spells = λ w h.
      let y = (m h.0 h.4).spells h.1 h.5 in
      (y.0, (h.0, h.0 ∷ [], h.1, h.2, (refl, h.3), y.1), y.2);
}

pub token_with_writes : {A B : Type 0} (M : A → Lang B) {Q : B → Type 0} {qs : List Piece} (meaning : Lexeme → Option A) (k : TokenKind) (s : List ℕ) (a : A) → ((t : Lexeme) → t.kind ≡ k → meaning t ≡ Some a) → Writes (M a) Q qs → Writes (token_with meaning >>= M) Q (printed k s ∷ qs)
unfolding ◌>>=◌ token_with
token_with_writes M meaning k s a e m = record {
  spells = λ w h.
      let y = m.spells h.1 h.5 in
      (y.0, (a, h.0 ∷ [], h.1, h.2, (h.0, refl, e h.0 h.3), y.1), y.2);
}

pub blank_writes : {A : Type 0} {L : Lang A} {P : A → Type 0} {ps : List Piece} (g : List ℕ) → Writes L P ps → Writes L P (blank g ∷ ps)
blank_writes g l = record { spells = λ w h. l.spells w h }

pub gives_writes : {A : Type 0} {P : A → Type 0} (a : A) → P a → Writes (gives a) P []
unfolding gives
gives_writes a p = record { spells = λ w h. (a, (h, refl), p) }

pub left_writes : {A : Type 0} {L : Lang A} (M : Lang A) {P : A → Type 0} {ps : List Piece} → Writes L P ps → Writes (L or M) P ps
unfolding ◌or◌
left_writes M l = record { spells = λ w h. let x = l.spells w h in (x.0, inl x.1, x.2) }

pub right_writes : {A : Type 0} (L : Lang A) {M : Lang A} {P : A → Type 0} {ps : List Piece} → Writes M P ps → Writes (L or M) P ps
unfolding ◌or◌
right_writes L l = record { spells = λ w h. let x = l.spells w h in (x.0, inr x.1, x.2) }

pub weaken : {A : Type 0} {L : Lang A} {P Q : A → Type 0} {ps : List Piece} → ((x : A) → P x → Q x) → Writes L P ps → Writes L Q ps
weaken f l = record { spells = λ w h. let x = l.spells w h in (x.0, x.1, f x.0 x.2) }

pub also : {A : Type 0} {L M : Lang A} {P : A → Type 0} {ps : List Piece} → ((w : List Lexeme) (x : A) → L w x → M w x) → Writes L P ps → Writes M P ps
also f l = record { spells = λ w h. let x = l.spells w h in (x.0, f w x.0 x.1, x.2) }

-- a value that is made of another
pub made_writes : {A B : Type 0} {L : Lang A} {P : A → Type 0} {Q : B → Type 0} {ps : List Piece} (f : A → B) → ((x : A) → P x → Q (f x)) → Writes L P ps → Writes (L >>= λ x. gives (f x)) Q ps
unfolding ◌>>=◌ gives
made_writes f q l = record {
  spells = λ w h.
      let x = l.spells w h in
      (f x.0, (x.0, w, [], sym (append-nil w), x.1, (refl, refl)), q x.0 x.2);
}

-- ---- lists

pub many_none : {A : Type 0} (L : Lang A) {P : List A → Type 0} → P [] → Writes (many L) P []
unfolding many
many_none L p = record { spells = λ w h. ([], h, p) }

pub many_one : {A : Type 0} {L : Lang A} {P : A → Type 0} {Q R : List A → Type 0} {ps qs : List Piece} → Writes L P ps → Writes (many L) Q qs → ((x : A) (xs : List A) → P x → Q xs → R (x ∷ xs)) → Writes (many L) R (ps ++ qs)
unfolding many
many_one {ps = ps} {qs = qs} l m f = record {
  spells = λ w h.
      let r = match_append ps qs w h in
      let x = l.spells r.0 r.3 in
      let xs = m.spells r.1 r.4 in
      (x.0 ∷ xs.0, (r.0, r.1, r.2, x.1, xs.1), f x.0 xs.0 x.2 xs.2);
}

many_append : {A : Type 0} (L : Lang A) (xs ys : List A) (a b w : List Lexeme) → w ≡ a ++ b → many L a xs → many L b ys → many L w (xs ++ ys)
unfolding many
many_append {A} L [] ys a b w e p q = let F : List Lexeme → Type 0 = λ u. many L u ys in subst F (sym (e ∙ ap (λ (u : List Lexeme). u ++ b) p)) q
many_append L (x ∷ xs) ys a b w e p q =
    (p.0, p.1 ++ b, e ∙ ap (λ (u : List Lexeme). u ++ b) p.2 ∙ append_assoc p.0 p.1 b, p.3, many_append L xs ys p.1 b (p.1 ++ b) refl p.4 q)

-- one list behind another
pub many_both : {A : Type 0} (L : Lang A) {P Q R : List A → Type 0} {ps qs : List Piece} → Writes (many L) P ps → Writes (many L) Q qs → ((xs ys : List A) → P xs → Q ys → R (xs ++ ys)) → Writes (many L) R (ps ++ qs)
many_both L {ps = ps} {qs = qs} l m f = record {
  spells = λ w h.
      let r = match_append ps qs w h in
      let xs = l.spells r.0 r.3 in
      let ys = m.spells r.1 r.4 in
      (xs.0 ++ ys.0, many_append L xs.0 ys.0 r.0 r.1 w r.2 xs.1 ys.1, f xs.0 ys.0 xs.2 ys.2);
}

-- taken up from left to right
pub folding_writes : {S A : Type 0} (L : Lang A) {P : List A → Type 0} {Q : S → Type 0} {ps : List Piece} (f : S → A → S) (s : S) → Writes (many L) P ps → ((xs : List A) → P xs → Q (fold_left f s xs)) → Writes (folding f L s) Q ps
unfolding folding
folding_writes L f s l q = made_writes (λ xs. fold_left f s xs) q l
