-- Of two alternatives that the first token does not tell apart, the one that comes further decides.
use Rattle.std.proofs.Common.{◌≡◌, Bool, List, [], ◌∷◌, ◌++◌, refl, sym, ap, subst, ◌∙◌, append_assoc, append-nil, inl, inr}
use Rattle.std.specs.Prelude.{◌⊎◌}
use Rattle.prism_lex.specs.declared.token.TokenKind.{TokenKind}
use Rattle.prism_lex.specs.Tokens.{Lexeme}
use Rattle.prism_tree.specs.Lang.{Lang, ◌>>=◌, ◌or◌, Begins}
use Rattle.prism_exprs.specs.Reading.{next, Dead, Fails}
use Rattle.prism_exprs.proofs.Laws.{next-append}
use Rattle.prism_exprs.proofs.Choice.{Same, or_dead}

-- P fails at a place up to which the list begins a word of Q.
pub record Splits {A : Type 0} (P Q : Lang A) (more : TokenKind → Bool) (ts : List Lexeme) : Type 0 where
  pub before : List Lexeme
  pub rest : List Lexeme
  pub parts : ts ≡ before ++ rest
  pub dead : Dead P more before rest
  pub begins : Begins Q before

-- Of two fronts of one list one is a front of the other.
fronts : (a r u q : List Lexeme) → a ++ r ≡ u ++ q → ((x : List Lexeme) × (a ≡ u ++ x) × (q ≡ x ++ r)) ⊎ ((t : Lexeme) × (x : List Lexeme) × (u ≡ a ++ (t ∷ x)) × (r ≡ t ∷ (x ++ q)))
fronts a r [] q e = inl (a, refl, sym e)
fronts [] r (t ∷ u) q e = inr (t, u, refl, e)
fronts (s ∷ a) r (t ∷ u) q e = step s t a u r q (cc) (fronts a r u q (cc))
  where
    step : (s t : Lexeme) (a u r q : List Lexeme) → s ≡ t → ((x : List Lexeme) × (a ≡ u ++ x) × (q ≡ x ++ r)) ⊎ ((w : Lexeme) × (x : List Lexeme) × (u ≡ a ++ (w ∷ x)) × (r ≡ w ∷ (x ++ q)))
        → ((x : List Lexeme) × ((s ∷ a) ≡ (t ∷ u) ++ x) × (q ≡ x ++ r)) ⊎ ((w : Lexeme) × (x : List Lexeme) × ((t ∷ u) ≡ (s ∷ a) ++ (w ∷ x)) × (r ≡ w ∷ (x ++ q)))
    step s t a u r q i (inl h) = inl (h.0, (let f = h.1 in cc), h.2)
    step s t a u r q i (inr h) = inr (h.0, h.1, (let f = h.2 in cc), h.3)

-- What fails does so where it can begin no more.
fails_beyond : {A : Type 0} (Q : Lang A) (more : TokenKind → Bool) (u q r : List Lexeme) (p : Fails Q more (u ++ q) r) → Begins Q u → (x : List Lexeme) × (p.before ≡ u ++ x) × (q ≡ x ++ r)
fails_beyond {A} Q more u q r p b = go (fronts p.before r u q (sym p.parts))
  where
    go : ((x : List Lexeme) × (p.before ≡ u ++ x) × (q ≡ x ++ r)) ⊎ ((t : Lexeme) × (x : List Lexeme) × (u ≡ p.before ++ (t ∷ x)) × (r ≡ t ∷ (x ++ q))) → (x : List Lexeme) × (p.before ≡ u ++ x) × (q ≡ x ++ r)
    go (inl h) = h
    go (inr h) = absurd (p.dead (h.0 ∷ (h.1 ++ b.0)) (u ++ b.0) [] b.1 (ap next (sym h.3)) (sym (append-nil _ ∙ ap (λ (w : List Lexeme). w ++ b.0) h.2 ∙ append_assoc p.before (h.0 ∷ h.1) b.0)) b.2 tt)

dead_later : {A : Type 0} (P : Lang A) (more : TokenKind → Bool) (u x r a q : List Lexeme) → Dead P more u q → a ≡ u ++ x → q ≡ x ++ r → Dead P more a r
dead_later P more u x r a q d e f other w z y n g h i =
    d (x ++ other) w z y (next-append x r other n ∙ ap next (sym f)) (sym (append_assoc u x other) ∙ ap (λ (v : List Lexeme). v ++ other) (sym e) ∙ g) h i

pub furthest_fails : {A : Type 0} (P Q : Lang A) (more : TokenKind → Bool) (ts r : List Lexeme) → Splits P Q more ts → Fails Q more ts r → (Fails (P or Q) more ts r) × (Fails (Q or P) more ts r)
unfolding ◌or◌
furthest_fails {A} P Q more ts r s p =
    let F : List Lexeme → Type 0 = λ u. Fails Q more u r in
    let p' = subst F s.parts p in
    let k = fails_beyond Q more s.before s.rest r p' s.begins in
    let d : Dead P more p'.before r = dead_later P more s.before k.0 r p'.before s.rest s.dead k.1 k.2 in
    let n = p'.begins in (
      record { before = p'.before; parts = s.parts ∙ p'.parts; begins = (n.0, n.1, inr n.2); dead = or_dead P Q more p'.before r d p'.dead },
      record { before = p'.before; parts = s.parts ∙ p'.parts; begins = (n.0, n.1, inl n.2); dead = or_dead Q P more p'.before r p'.dead d },
    )

-- alternatives, and then the same
pub or_then : {A B : Type 0} (L M : Lang A) (N : A → Lang B) → Same ((L or M) >>= N) ((L >>= N) or (M >>= N))
unfolding ◌or◌ ◌>>=◌
or_then {A} {B} L M N = record { to = λ w y h. to w y h.0 h.1 h.2 h.3 h.4 h.5; from = from }
  where
    to : (w : List Lexeme) (y : B) (x : A) (a b : List Lexeme) → w ≡ a ++ b → L a x ⊎ M a x → N x b y → ((x : A) × (a b : List Lexeme) × (w ≡ a ++ b) × L a x × N x b y) ⊎ ((x : A) × (a b : List Lexeme) × (w ≡ a ++ b) × M a x × N x b y)
    to w y x a b e (inl h) n = inl (x, a, b, e, h, n)
    to w y x a b e (inr h) n = inr (x, a, b, e, h, n)

    from : (w : List Lexeme) (y : B) → ((x : A) × (a b : List Lexeme) × (w ≡ a ++ b) × L a x × N x b y) ⊎ ((x : A) × (a b : List Lexeme) × (w ≡ a ++ b) × M a x × N x b y) → (x : A) × (a b : List Lexeme) × (w ≡ a ++ b) × (L a x ⊎ M a x) × N x b y
    from w y (inl h) = (h.0, h.1, h.2, h.3, inl h.4, h.5)
    from w y (inr h) = (h.0, h.1, h.2, h.3, inr h.4, h.5)
