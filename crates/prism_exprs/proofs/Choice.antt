-- Alternatives and repetitions.
use Rattle.std.proofs.Common.{◌≡◌, Bool, true, false, List, [], ◌∷◌, ◌++◌, Option, Some, refl, sym, ap, subst, ◌∙◌, append_assoc, inl, inr}
use Rattle.std.specs.Prelude.{◌⊎◌}
use Rattle.std.proofs.lemmas.List.{append_cancel_left}
use Rattle.prism_lex.specs.declared.token.TokenKind.{TokenKind}
use Rattle.prism_lex.specs.Tokens.{Lexeme}
use Rattle.prism_exprs.specs.declared.tokens.Stop.{Stop}
use Rattle.prism_exprs.specs.declared.tokens.Stop.TheVariants.{Memory, At}
use Rattle.prism_exprs.specs.Kept.{seen}
use Rattle.prism_tree.specs.Lang.{Lang, token, token_with, gives, folding, fold_left, ◌>>=◌, ◌or◌, many}
use Rattle.prism_exprs.specs.Reading.{Stops, Ends, next, Dead, Reads, Fails}
use Rattle.prism_exprs.proofs.Laws.{IsOne, HasWord, Follows, next-append, then_one, gives_one}

-- the same words, with the same values
pub record Same {A : Type 0} (L M : Lang A) : Type 0 where
  pub to : (w : List Lexeme) (x : A) → L w x → M w x
  pub from : (w : List Lexeme) (x : A) → M w x → L w x

pub same_reads : {A : Type 0} {L M : Lang A} {more : TokenKind → Bool} {ts rest : List Lexeme} {x : A} → Same L M → Reads M more ts x rest → Reads L more ts x rest
same_reads {x = x} s p = record { word = p.word; parts = p.parts; spells = s.from p.word x p.spells; ends = p.ends }

pub same_fails : {A : Type 0} {L M : Lang A} {more : TokenKind → Bool} {ts rest : List Lexeme} → Same L M → Fails M more ts rest → Fails L more ts rest
same_fails s p = record {
  before = p.before;
  parts = p.parts;
  begins = let b = p.begins in (b.0, b.1, s.from (p.before ++ b.0) b.1 b.2);
  dead = λ other w z x e f h g. p.dead other w z x e f (s.to w x h) g;
}

pub same_stops : {A : Type 0} {L M : Lang A} (more : TokenKind → Bool) (ts : List Lexeme) (e : Stop) → Same L M → Stops M more ts e → Stops L more ts e
same_stops more ts Memory s p = tt
same_stops more ts (At r c) s p = same_fails s p

-- ---- either

-- No word of L stands at the front, whatever comes behind the first token.
abbrev pub Barred : {A : Type 0} → Lang A → (TokenKind → Bool) → List Lexeme → Type 0
Barred L more ts = Dead L more [] ts

Barred-dead : {A : Type 0} (L : Lang A) (more : TokenKind → Bool) (ts u r : List Lexeme) → ts ≡ u ++ r → Barred L more ts → Dead L more u r
Barred-dead L more ts u r p b other w z x e f h g =
    b (u ++ other) w z x (next-append u r other e ∙ ap next (sym p)) f h g

pub or_reads_left : {A : Type 0} (L M : Lang A) {more : TokenKind → Bool} {ts rest : List Lexeme} {x : A} → Reads L more ts x rest → Reads (L or M) more ts x rest
unfolding ◌or◌
or_reads_left L M p = record { word = p.word; parts = p.parts; spells = inl p.spells; ends = p.ends }

pub or_reads_right : {A : Type 0} (L M : Lang A) {more : TokenKind → Bool} {ts rest : List Lexeme} {x : A} → Reads M more ts x rest → Reads (L or M) more ts x rest
unfolding ◌or◌
or_reads_right L M p = record { word = p.word; parts = p.parts; spells = inr p.spells; ends = p.ends }

pub or_dead : {A : Type 0} (L M : Lang A) (more : TokenKind → Bool) (u r : List Lexeme) → Dead L more u r → Dead M more u r → Dead (L or M) more u r
unfolding ◌or◌
or_dead L M more u r p q other w z x e f (inl h) g = p other w z x e f h g
or_dead L M more u r p q other w z x e f (inr h) g = q other w z x e f h g

pub or_fails_right : {A : Type 0} (L M : Lang A) (more : TokenKind → Bool) (ts r : List Lexeme) → Barred L more ts → Fails M more ts r → Fails (L or M) more ts r
unfolding ◌or◌
or_fails_right L M more ts r b p = record {
  before = p.before;
  parts = p.parts;
  begins = let n = p.begins in (n.0, n.1, inr n.2);
  dead = or_dead L M more p.before r (Barred-dead L more ts p.before r p.parts b) p.dead;
}

pub or_stops_right : {A : Type 0} (L M : Lang A) (more : TokenKind → Bool) (ts : List Lexeme) (e : Stop) → Barred L more ts → Stops M more ts e → Stops (L or M) more ts e
or_stops_right L M more ts Memory b p = tt
or_stops_right L M more ts (At r c) b p = or_fails_right L M more ts (seen r) b p

pub or_barred : {A : Type 0} (L M : Lang A) (more : TokenKind → Bool) (ts : List Lexeme) → Barred L more ts → Barred M more ts → Barred (L or M) more ts
or_barred L M more ts p q = or_dead L M more [] ts p q

-- nothing stands at the front
pub barred_fails : {A : Type 0} (L : Lang A) (more : TokenKind → Bool) (ts : List Lexeme) → HasWord L → Barred L more ts → Fails L more ts ts
barred_fails L more ts h b = record { before = []; parts = refl; begins = h; dead = b }

pub then_barred : {A B : Type 0} (L : Lang A) (M : A → Lang B) (m more : TokenKind → Bool) (ts : List Lexeme) → Follows m M more → Barred L m ts → Barred (L >>= M) more ts
unfolding ◌>>=◌
then_barred L M m more ts fol b other w z y e f h g =
    b other h.1 (h.2 ++ z) h.0 e (f ∙ ap (λ (u : List Lexeme). u ++ z) h.3 ∙ append_assoc h.1 h.2 z) h.4 (fol.ends h.0 h.2 z y h.5 g)

-- the first token, if there is one, is of a kind such that P holds
abbrev pub FirstIs : (TokenKind → Type 0) → List Lexeme → Type 0
FirstIs P ts = (t : Lexeme) (rest : List Lexeme) → ts ≡ t ∷ rest → P t.kind

pub token_barred : {k : TokenKind} (m : TokenKind → Bool) (ts : List Lexeme) → FirstIs (λ j. j ≡ k → ⊥) ts → Barred (token k) m ts
unfolding token
token_barred m ts never other w z x e f h g = front ts x (sym (ap next (sym (f ∙ ap (λ (u : List Lexeme). u ++ z) h.0)) ∙ e)) (λ rest q. never x rest q h.1)
  where
    front : (ts : List Lexeme) (t : Lexeme) → next ts ≡ Some t → ((rest : List Lexeme) → ts ≡ t ∷ rest → ⊥) → ⊥
    front [] t e f = absurd cc
    front (s ∷ ts) t e f = f ts (let h : s ≡ t = cc in ap (λ (u : Lexeme). u ∷ ts) h)

-- nothing goes on with what was read, but the first token does
pub gives_barred : {A : Type 0} (a : A) (more : TokenKind → Bool) (t : Lexeme) (rest : List Lexeme) → more t.kind ≡ true → Barred (gives a) more (t ∷ rest)
unfolding gives
gives_barred a more t rest h [] w z x e f p g = absurd cc
gives_barred a more t rest h (s ∷ other) w z x e f p g =
    let q : s ≡ t = cc in
    let P : List Lexeme → Type 0 = λ u. Ends more u in
    let ends : more s.kind ≡ false = subst P (sym (f ∙ ap (λ (u : List Lexeme). u ++ z) p.0)) g in
    let n : more t.kind ≡ false = rw (← q) ends in
    absurd cc

-- each word begins with a token of a kind such that P holds
abbrev pub Opens : {A : Type 0} → Lang A → (TokenKind → Type 0) → Type 0
Opens {A} L P = (w : List Lexeme) (a : A) → L w a → (t : Lexeme) × (u : List Lexeme) × (w ≡ t ∷ u) × P t.kind

pub token_opens : (k : TokenKind) → Opens (token k) (λ j. j ≡ k)
unfolding token
token_opens k w a h = (a, [], h.0, h.1)

pub token_with_opens : {A : Type 0} (meaning : Lexeme → Option A) (P : TokenKind → Type 0) → ((t : Lexeme) (a : A) → meaning t ≡ Some a → P t.kind) → Opens (token_with meaning) P
unfolding token_with
token_with_opens meaning P all w a h = (h.0, [], h.1, all h.0 a h.2)

pub then_opens : {A B : Type 0} {L : Lang A} (M : A → Lang B) (P : TokenKind → Type 0) → Opens L P → Opens (L >>= M) P
unfolding ◌>>=◌
then_opens M P o w a h =
    let n = o h.1 h.0 h.4 in
    (n.0, n.1 ++ h.2, h.3 ∙ ap (λ (u : List Lexeme). u ++ h.2) n.2, n.3)

pub or_opens : {A : Type 0} {L M : Lang A} (P Q : TokenKind → Type 0) → Opens L P → Opens M Q → Opens (L or M) (λ k. P k ⊎ Q k)
unfolding ◌or◌
or_opens P Q p q w a (inl h) = let n = p w a h in (n.0, n.1, n.2, inl n.3)
or_opens P Q p q w a (inr h) = let n = q w a h in (n.0, n.1, n.2, inr n.3)

pub or_one : {A : Type 0} {L M : Lang A} {more : TokenKind → Bool} (P Q : TokenKind → Type 0) → Opens L P → Opens M Q → ((k : TokenKind) → P k → Q k → ⊥) → IsOne L more → IsOne M more → IsOne (L or M) more
unfolding ◌or◌
or_one {A} {L} {M} {more} P Q p q differ l m = record { one = go }
  where
    apart : (w z v y : List Lexeme) (a b : A) → L w a → M v b → w ++ z ≡ v ++ y → ⊥
    apart w z v y a b g h e =
        let i = p w a g in
        let j = q v b h in
        let f : i.0 ∷ (i.1 ++ z) ≡ j.0 ∷ (j.1 ++ y) = ap (λ (u : List Lexeme). u ++ z) (sym i.2) ∙ e ∙ ap (λ (u : List Lexeme). u ++ y) j.2 in
        let s : i.0 ≡ j.0 = cc in
        let R : Lexeme → Type 0 = λ t. P t.kind in
        differ (j.0).kind (subst R s i.3) j.3

    go : (w z v y : List Lexeme) (a b : A) → L w a ⊎ M w a → L v b ⊎ M v b → w ++ z ≡ v ++ y → Ends more z → Ends more y → (w ≡ v) × (a ≡ b)
    go w z v y a b (inl g) (inl h) e i j = l.one w z v y a b g h e i j
    go w z v y a b (inr g) (inr h) e i j = m.one w z v y a b g h e i j
    go w z v y a b (inl g) (inr h) e i j = absurd (apart w z v y a b g h e)
    go w z v y a b (inr g) (inl h) e i j = absurd (apart v y w z b a h g (sym e))

pub or_word : {A : Type 0} (L M : Lang A) → HasWord L → HasWord (L or M)
unfolding ◌or◌
or_word L M h = (h.0, h.1, inl h.2)

-- ---- any number

-- When what goes on with one item is m, what goes on with any number of them is more.
pub record Repeats (P : TokenKind → Type 0) (m more : TokenKind → Bool) : Type 0 where
  pub again : (k : TokenKind) → P k → more k ≡ true
  pub apart : (k : TokenKind) → P k → m k ≡ false
  pub within : (k : TokenKind) → more k ≡ false → m k ≡ false

Ends-within : {P : TokenKind → Type 0} {m more : TokenKind → Bool} → Repeats P m more → (z : List Lexeme) → Ends more z → Ends m z
Ends-within r [] e = tt
Ends-within r (t ∷ z) e = r.within t.kind e

many_ends : {A : Type 0} {L : Lang A} {P : TokenKind → Type 0} {m more : TokenKind → Bool} → Opens L P → Repeats P m more → (xs : List A) (w z : List Lexeme) → many L w xs → Ends more z → Ends m (w ++ z)
unfolding many
many_ends {m = m} o r [] w z h e =
    let F : List Lexeme → Type 0 = λ u. Ends m (u ++ z) in
    subst F (sym h) (Ends-within r z e)
many_ends {m = m} o r (x ∷ xs) w z h e =
    let n = o h.0 x h.3 in
    let F : List Lexeme → Type 0 = λ u. Ends m (u ++ z) in
    subst F (sym (h.2 ∙ ap (λ (u : List Lexeme). u ++ h.1) n.2)) (r.apart (n.0).kind n.3)

pub many_one : {A : Type 0} {L : Lang A} {P : TokenKind → Type 0} {m more : TokenKind → Bool} → Opens L P → Repeats P m more → IsOne L m → IsOne (many L) more
unfolding many
many_one {A} {L} {P} {m} {more} o r l = record { one = λ w z v y xs ys. go xs ys w z v y }
  where
    none_and_some : (x : A) (w z v y a b : List Lexeme) → w ≡ [] → v ≡ a ++ b → L a x → w ++ z ≡ v ++ y → Ends more z → ⊥
    none_and_some x w z v y a b g h i e f =
        let n = o a x i in
        let q : z ≡ n.0 ∷ ((n.1 ++ b) ++ y) = ap (λ (u : List Lexeme). u ++ z) (sym g) ∙ e ∙ ap (λ (u : List Lexeme). u ++ y) (h ∙ ap (λ (u : List Lexeme). u ++ b) n.2) in
        let F : List Lexeme → Type 0 = λ u. Ends more u in
        let no_more : more (n.0).kind ≡ false = subst F q f in
        let again : more (n.0).kind ≡ true = r.again (n.0).kind n.3 in
        absurd cc

    go : (xs ys : List A) (w z v y : List Lexeme) → many L w xs → many L v ys → w ++ z ≡ v ++ y → Ends more z → Ends more y → (w ≡ v) × (xs ≡ ys)
    go [] [] w z v y g h e f i = (g ∙ sym h, refl)
    go [] (x ∷ ys) w z v y g h e f i = absurd (none_and_some x w z v y h.0 h.1 g h.2 h.3 e f)
    go (x ∷ xs) [] w z v y g h e f i = absurd (none_and_some x v y w z g.0 g.1 h g.2 g.3 (sym e) i)
    go (x ∷ xs) (x' ∷ ys) w z v y g h e f i =
        let g1 : g.0 ++ (g.1 ++ z) ≡ h.0 ++ (h.1 ++ y) = sym (append_assoc g.0 g.1 z) ∙ ap (λ (u : List Lexeme). u ++ z) (sym g.2) ∙ e ∙ ap (λ (u : List Lexeme). u ++ y) h.2 ∙ append_assoc h.0 h.1 y in
        let k = l.one g.0 (g.1 ++ z) h.0 (h.1 ++ y) x x' g.3 h.3 g1 (many_ends o r xs g.1 z g.4 f) (many_ends o r ys h.1 y h.4 i) in
        let g2 : g.1 ++ z ≡ h.1 ++ y = append_cancel_left g.0 _ _ (g1 ∙ ap (λ (u : List Lexeme). u ++ (h.1 ++ y)) (sym k.0)) in
        let n = go xs ys g.1 z h.1 y g.4 h.4 g2 f i in
        let a_is : x ≡ x' = k.1 in
        let as_are : xs ≡ ys = n.1 in
        (g.2 ∙ ap (λ (u : List Lexeme). u ++ g.1) k.0 ∙ ap (λ (u : List Lexeme). h.0 ++ u) n.0 ∙ sym h.2, cc)

pub folding_one : {S A : Type 0} (f : S → A → S) {L : Lang A} {P : TokenKind → Type 0} {m more : TokenKind → Bool} (s : S) → Opens L P → Repeats P m more → IsOne L m → IsOne (folding f L s) more
unfolding folding gives
folding_one f {more = more} s o r l = then_one more (many_one o r l) (λ xs. gives_one (fold_left f s xs) more) (record { ends = λ xs w z y h e. let F : List Lexeme → Type 0 = λ u. Ends more (u ++ z) in subst F (sym h.0) e })

pub folding_word : {S A : Type 0} (f : S → A → S) (L : Lang A) (s : S) → HasWord (folding f L s)
unfolding folding ◌>>=◌ many gives
folding_word f L s = ([], s, ([], [], [], refl, refl, (refl, refl)))

-- Nothing more, or one item and then any number.
pub folding-unfold : {S A : Type 0} (f : S → A → S) (L : Lang A) (s : S) → Same (folding f L s) (gives s or (L >>= λ x. folding f L (f s x)))
unfolding folding ◌>>=◌ ◌or◌ many gives
folding-unfold {S} {A} f L s = record { to = λ w x h. to h.0 h.1 h.2 w x h.3 h.4 h.5.0 h.5.1; from = from }
  where
    to : (xs : List A) (a b w : List Lexeme) (x : S) → w ≡ a ++ b → many L a xs → b ≡ [] → x ≡ fold_left f s xs
        → ((w ≡ []) × (x ≡ s)) ⊎ ((i : A) × (c d : List Lexeme) × (w ≡ c ++ d) × L c i × ((ys : List A) × (p q : List Lexeme) × (d ≡ p ++ q) × many L p ys × ((q ≡ []) × (x ≡ fold_left f (f s i) ys))))
    to [] a b w x e m n g = inl (e ∙ ap (λ (u : List Lexeme). u ++ b) m ∙ n, g)
    to (i ∷ ys) a b w x e m n g = inr (i, m.0, m.1 ++ b, e ∙ ap (λ (u : List Lexeme). u ++ b) m.2 ∙ append_assoc m.0 m.1 b, m.3, (ys, m.1, b, refl, m.4, (n, g)))

    from : (w : List Lexeme) (x : S)
        → ((w ≡ []) × (x ≡ s)) ⊎ ((i : A) × (c d : List Lexeme) × (w ≡ c ++ d) × L c i × ((ys : List A) × (p q : List Lexeme) × (d ≡ p ++ q) × many L p ys × ((q ≡ []) × (x ≡ fold_left f (f s i) ys))))
        → (xs : List A) × (a b : List Lexeme) × (w ≡ a ++ b) × many L a xs × ((b ≡ []) × (x ≡ fold_left f s xs))
    from w x (inl h) = ([], [], [], h.0, refl, (refl, h.1))
    from w x (inr h) = let k = h.5 in (h.0 ∷ k.0, h.1 ++ k.1, k.2, h.3 ∙ ap (λ (u : List Lexeme). h.1 ++ u) k.3 ∙ sym (append_assoc h.1 k.1 k.2), (h.1, k.1, refl, h.4, k.4), k.5)

pub folding_follows : {S A B : Type 0} (f : S → A → S) {L : Lang A} {P : TokenKind → Type 0} {m more : TokenKind → Bool} → Opens L P → Repeats P m more → (g : B → S) → Follows m (λ y. folding f L (g y)) more
unfolding folding ◌>>=◌ gives
folding_follows f {L} {P} {m} {more} o r g = record {
  ends = λ x w z y h e.
      let F : List Lexeme → Type 0 = λ u. Ends m (u ++ z) in
      let ends : Ends more (h.2 ++ z) = (let G : List Lexeme → Type 0 = λ u. Ends more (u ++ z) in subst G (sym h.5.0) e) in
      subst F (sym h.3) (rw append_assoc (many_ends o r h.0 h.1 (h.2 ++ z) h.4 ends));
}

-- what begins with a token that does not go on with m follows m
pub opens_follows : {A B : Type 0} {M : A → Lang B} {P : TokenKind → Type 0} (m more : TokenKind → Bool) → ((x : A) → Opens (M x) P) → ((k : TokenKind) → P k → m k ≡ false) → Follows m M more
opens_follows m more o h = record {
  ends = λ x w z y d e.
      let n = o x w y d in
      let F : List Lexeme → Type 0 = λ u. Ends m (u ++ z) in
      subst F (sym n.2) (h (n.0).kind n.3);
}

-- any number, and then what does not begin as they do
pub many_then_opens : {A B : Type 0} {L : Lang A} {M : List A → Lang B} (P Q : TokenKind → Type 0) → Opens L P → ((xs : List A) → Opens (M xs) Q) → Opens (many L >>= M) (λ k. P k ⊎ Q k)
unfolding ◌>>=◌ many
many_then_opens {A} {B} {L} {M} P Q p q w y h = go h.0 h.1 h.2 w y h.3 h.4 h.5
  where
    go : (xs : List A) (a b w : List Lexeme) (y : B) → w ≡ a ++ b → many L a xs → M xs b y → (t : Lexeme) × (u : List Lexeme) × (w ≡ t ∷ u) × (P t.kind ⊎ Q t.kind)
    go [] a b w y e m n = let i = q [] b y n in (i.0, i.1, e ∙ ap (λ (u : List Lexeme). u ++ b) m ∙ i.2, inr i.3)
    go (x ∷ xs) a b w y e m n = let i = p m.0 x m.3 in (i.0, (i.1 ++ m.1) ++ b, e ∙ ap (λ (u : List Lexeme). u ++ b) (m.2 ∙ ap (λ (u : List Lexeme). u ++ m.1) i.2), inl i.3)

pub many_word : {A : Type 0} (L : Lang A) → HasWord (many L)
unfolding many
many_word L = ([], [], refl)
