-- Where the tokens of two lists go together one by one, what the one list spells the other spells too.
use Rattle.std.proofs.Common.{◌≡◌, List, [], ◌∷◌, ◌++◌, refl, sym, ap, subst, ◌∙◌, inl, inr}
use Rattle.std.specs.Prelude.{◌⊎◌}
use Rattle.prism_lex.specs.Tokens.{Lexeme}
use Rattle.prism_tree.specs.Lang.{Lang, gives, never, ◌>>=◌, ◌or◌, optional, many, folding}

-- ---- lists that go together one by one

abbrev pub Pairs : (Lexeme → Lexeme → Type 0) → List Lexeme → List Lexeme → Type 0
Pairs R [] [] = Unit {0}
Pairs R [] (u ∷ us) = ⊥
Pairs R (t ∷ ts) [] = ⊥
Pairs R (t ∷ ts) (u ∷ us) = R t u × Pairs R ts us

-- a list that goes together with the two parts of another has two such parts
pub pairs_split : (R : Lexeme → Lexeme → Type 0) (a b v : List Lexeme) → Pairs R (a ++ b) v →
    (c d : List Lexeme) × (v ≡ c ++ d) × Pairs R a c × Pairs R b d
pairs_split R [] b v p = ([], v, refl, tt, p)
pairs_split R (t ∷ a) b [] p = absurd p
pairs_split R (t ∷ a) b (u ∷ v) p =
    let s = pairs_split R a b v p.1 in
    (u ∷ s.0, s.1, ap (λ (l : List Lexeme). u ∷ l) s.2, (p.0, s.3), s.4)

pub pairs_append : (R : Lexeme → Lexeme → Type 0) (a b c d : List Lexeme) → Pairs R a c → Pairs R b d → Pairs R (a ++ b) (c ++ d)
pairs_append R [] b [] d p q = q
pairs_append R [] b (u ∷ c) d p q = absurd p
pairs_append R (t ∷ a) b [] d p q = absurd p
pairs_append R (t ∷ a) b (u ∷ c) d p q = (p.0, pairs_append R a b c d p.1 q)

pub pairs_flip : (R S : Lexeme → Lexeme → Type 0) → ((t u : Lexeme) → R t u → S u t) → (a b : List Lexeme) → Pairs R a b → Pairs S b a
pairs_flip R S f [] [] p = tt
pairs_flip R S f [] (u ∷ b) p = absurd p
pairs_flip R S f (t ∷ a) [] p = absurd p
pairs_flip R S f (t ∷ a) (u ∷ b) p = (f t u p.0, pairs_flip R S f a b p.1)

pub pairs_self : (R : Lexeme → Lexeme → Type 0) → ((t : Lexeme) → R t t) → (a : List Lexeme) → Pairs R a a
pairs_self R f [] = tt
pairs_self R f (t ∷ a) = (f t, pairs_self R f a)

-- a list that goes together with one token
pub pairs_one : (R : Lexeme → Lexeme → Type 0) (t : Lexeme) (v : List Lexeme) → Pairs R (t ∷ []) v → (u : Lexeme) × (v ≡ u ∷ []) × R t u
pairs_one R t [] p = absurd p
pairs_one R t (u ∷ []) p = (u, refl, p.0)
pairs_one R t (u ∷ x ∷ v) p = absurd p.1

pub pairs_none : (R : Lexeme → Lexeme → Type 0) (v : List Lexeme) → Pairs R [] v → v ≡ []
pairs_none R [] p = refl
pairs_none R (u ∷ v) p = absurd p

-- ---- languages

module _ (R : Lexeme → Lexeme → Type 0) where
  -- What the one language reads off a list, the other reads off each that goes together with it.
  pub record Moves {A : Type 0} (L M : Lang A) : Type 0 where
    pub moves : (w v : List Lexeme) (x : A) → Pairs R w v → L w x → M v x

  -- the same, where the values go together by S
  pub record Carries {A : Type 0} (S : A → A → Type 0) (L M : Lang A) : Type 0 where
    pub carries : (w v : List Lexeme) (x : A) → Pairs R w v → L w x → (y : A) × M v y × S x y

  pub then_moves : {A B : Type 0} {L M : Lang A} {P Q : A → Lang B} → Moves L M → ((x : A) → Moves (P x) (Q x)) → Moves (L >>= P) (M >>= Q)
  unfolding ◌>>=◌
  then_moves {A} {B} {L} {M} {P} {Q} g h = record {
    moves = λ w v y r p.
        let s = pairs_split R p.1 p.2 v (subst (λ (l : List Lexeme). Pairs R l v) p.3 r) in
        (p.0, s.0, s.1, s.2, g.moves p.1 s.0 p.0 s.3 p.4, (h p.0).moves p.2 s.1 y s.4 p.5);
  }

  pub carry_moves : {A B : Type 0} {S : A → A → Type 0} {L M : Lang A} {P Q : A → Lang B} → Carries S L M →
      ((x y : A) → S x y → Moves (P x) (Q y)) → Moves (L >>= P) (M >>= Q)
  unfolding ◌>>=◌
  carry_moves {A} {B} {S} {L} {M} {P} {Q} g h = record {
    moves = λ w v z r p.
        let s = pairs_split R p.1 p.2 v (subst (λ (l : List Lexeme). Pairs R l v) p.3 r) in
        let c = g.carries p.1 s.0 p.0 s.3 p.4 in
        (c.0, s.0, s.1, s.2, c.1, (h p.0 c.0 c.2).moves p.2 s.1 z s.4 p.5);
  }

  -- The value is that of the first part, and the second is read over.
  pub carry_then : {A B : Type 0} {S : A → A → Type 0} {L M : Lang A} {P Q : Lang B} → Carries S L M → Moves P Q →
      Carries S (L >>= λ x. P >>= λ _. gives x) (M >>= λ x. Q >>= λ _. gives x)
  unfolding ◌>>=◌ gives
  carry_then {A} {B} {S} {L} {M} {P} {Q} g h = record {
    carries = λ w v z r p.
        let s = pairs_split R p.1 p.2 v (subst (λ (l : List Lexeme). Pairs R l v) p.3 r) in
        let c = g.carries p.1 s.0 p.0 s.3 p.4 in
        let q = p.5 in
        let d = pairs_split R q.1 q.2 s.1 (subst (λ (l : List Lexeme). Pairs R l s.1) q.3 s.4) in
        let n = pairs_none R d.1 (subst (λ (l : List Lexeme). Pairs R l d.1) q.5.0 d.4) in
        (c.0, (c.0, s.0, s.1, s.2, c.1, (q.0, d.0, d.1, d.2, h.moves q.1 d.0 q.0 d.3 q.4, (n, refl))), subst (λ (a : A). S a c.0) (sym q.5.1) c.2);
  }

  pub gives_moves : {A : Type 0} (x : A) → Moves (gives x) (gives x)
  unfolding gives
  gives_moves x = record { moves = λ w v y r p. (pairs_none R v (subst (λ (l : List Lexeme). Pairs R l v) p.0 r), p.1) }

  pub gives_same : {A : Type 0} (x y : A) → x ≡ y → Moves (gives x) (gives y)
  unfolding gives
  gives_same x y e = record { moves = λ w v z r p. (pairs_none R v (subst (λ (l : List Lexeme). Pairs R l v) p.0 r), p.1 ∙ e) }

  pub never_moves : {A : Type 0} → Moves (never {A = A}) (never {A = A})
  unfolding never
  never_moves = record { moves = λ w v x r p. p }

  pub or_moves : {A : Type 0} {L M P Q : Lang A} → Moves L M → Moves P Q → Moves (L or P) (M or Q)
  unfolding ◌or◌
  or_moves {A} {L} {M} {P} {Q} g h = record { moves = λ w v x r p. go w v x r p }
    where
      go : (w v : List Lexeme) (x : A) → Pairs R w v → L w x ⊎ P w x → M v x ⊎ Q v x
      go w v x r (inl a) = inl (g.moves w v x r a)
      go w v x r (inr b) = inr (h.moves w v x r b)

  pub many_moves : {A : Type 0} {L M : Lang A} → Moves L M → Moves (many L) (many M)
  unfolding many
  many_moves {A} {L} {M} g = record { moves = λ w v xs r p. go xs w v r p }
    where
      go : (xs : List A) (w v : List Lexeme) → Pairs R w v → many L w xs → many M v xs
      go [] w v r p = pairs_none R v (subst (λ (l : List Lexeme). Pairs R l v) p r)
      go (x ∷ xs) w v r p =
          let s = pairs_split R p.0 p.1 v (subst (λ (l : List Lexeme). Pairs R l v) p.2 r) in
          (s.0, s.1, s.2, g.moves p.0 s.0 x s.3 p.3, go xs p.1 s.1 s.4 p.4)

  pub folding_moves : {T A : Type 0} {L M : Lang A} (f : T → A → T) (s : T) → Moves L M → Moves (folding f L s) (folding f M s)
  unfolding folding
  folding_moves f s g = then_moves (many_moves g) (λ xs. gives_moves _)

  pub optional_moves : {A : Type 0} {L M : Lang A} → Moves L M → Moves (optional L) (optional M)
  optional_moves g = or_moves (gives_moves _) (then_moves g (λ x. gives_moves _))
