-- How the reading of parts makes the reading of a whole.
use Rattle.std.proofs.Common.{◌≡◌, Bool, false, List, [], ◌∷◌, ◌++◌, Option, Some, refl, sym, ap, subst, ◌∙◌, append_assoc}
use Rattle.prism_lex.specs.declared.token.TokenKind.{TokenKind}
use Rattle.prism_lex.specs.Tokens.{Lexeme}
use Rattle.prism_exprs.specs.declared.tokens.Stop.{Stop}
use Rattle.prism_exprs.specs.declared.tokens.Stop.TheVariants.{Memory, At}
use Rattle.prism_exprs.specs.declared.tokens.Tokens.{Tokens}
use Rattle.std.specs.Prelude.{Result, IsErr, IsErrAnd}
use Rattle.std.proofs.lemmas.Result.{err_from_is_err_and}
use Rattle.std.proofs.lemmas.List.{append_cancel_left}
use Rattle.prism_tree.specs.Lang.{Lang, token, token_with, gives, ◌>>=◌}
use Rattle.prism_exprs.specs.Reading.{Parses, Stops, Ends, none, next, Reads, Fails}

-- No list begins with two words of L that nothing goes on with.
pub record IsOne {A : Type 0} (L : Lang A) (more : TokenKind → Bool) : Type 0 where
  pub one : (w z v y : List Lexeme) (a b : A) → L w a → L v b → w ++ z ≡ v ++ y → Ends more z → Ends more y → (w ≡ v) × (a ≡ b)

abbrev pub HasWord : {A : Type 0} → Lang A → Type 0
HasWord {A} L = (w : List Lexeme) × (a : A) × L w a

pub record IsClear {A : Type 0} (L : Lang A) (more : TokenKind → Bool) : Type 0 where
  pub unique : IsOne L more
  pub word : HasWord L

-- what follows a word of L in L >>= M does not go on with it
pub record Follows {A B : Type 0} (more : TokenKind → Bool) (M : A → Lang B) (more' : TokenKind → Bool) : Type 0 where
  pub ends : (x : A) (w z : List Lexeme) (y : B) → M x w y → Ends more' z → Ends more (w ++ z)

pub none_ends : (ts : List Lexeme) → Ends none ts
none_ends [] = tt
none_ends (t ∷ ts) = refl

pub none_follows : {A B : Type 0} (M : A → Lang B) (more : TokenKind → Bool) → Follows none M more
none_follows M more = record { ends = λ x w z y h e. none_ends (w ++ z) }

pub Ends-next : (more : TokenKind → Bool) (a b : List Lexeme) → next b ≡ next a → Ends more a → Ends more b
Ends-next more [] [] e h = tt
Ends-next more [] (t ∷ b) e h = absurd cc
Ends-next more (s ∷ a) [] e h = absurd cc
Ends-next more (s ∷ a) (t ∷ b) e h =
    let p : t ≡ s = cc in
    rw p h

pub next-append : (u a b : List Lexeme) → next b ≡ next a → next (u ++ b) ≡ next (u ++ a)
next-append [] a b e = e
next-append (t ∷ u) a b e = refl

pub token_follows : {A B : Type 0} (m : TokenKind → Bool) (k : TokenKind) (M : A → Lexeme → Lang B) (more : TokenKind → Bool) → m k ≡ false → Follows m (λ x. token k >>= M x) more
unfolding token ◌>>=◌
token_follows m k M more f = record {
  ends = λ x w z y h e.
      let F : List Lexeme → Type 0 = λ u. Ends m (u ++ z) in
      let G : TokenKind → Type 0 = λ j. m j ≡ false in
      subst F (sym (h.3 ∙ ap (λ (u : List Lexeme). u ++ h.2) h.4.0)) (subst G (sym h.4.1) f);
}

pub token_clear : (k : TokenKind) (more : TokenKind → Bool) → IsClear (token k) more
unfolding token
token_clear k more = record {
  unique = record {
    one = λ w z v y a b p q e f g.
        let h : a ∷ z ≡ b ∷ y = ap (λ (u : List Lexeme). u ++ z) (sym p.0) ∙ e ∙ ap (λ (u : List Lexeme). u ++ y) q.0 in
        let s : a ≡ b = cc in
        (p.0 ∙ ap (λ (t : Lexeme). t ∷ []) s ∙ sym q.0, s);
  };
  word = (record { kind = k; text = []; at = 0 } ∷ [], record { kind = k; text = []; at = 0 }, (refl, refl));
}

pub token_with_one : {A : Type 0} (meaning : Lexeme → Option A) (more : TokenKind → Bool) → IsOne (token_with meaning) more
unfolding token_with
token_with_one {A} meaning more = record {
  one = λ w z v y a b p q e f g.
      let h : p.0 ∷ z ≡ q.0 ∷ y = ap (λ (u : List Lexeme). u ++ z) (sym p.1) ∙ e ∙ ap (λ (u : List Lexeme). u ++ y) q.1 in
      let s : p.0 ≡ q.0 = cc in
      let m : Some a ≡ Some b = sym p.2 ∙ ap (λ (t : Lexeme). meaning t) s ∙ q.2 in
      (p.1 ∙ ap (λ (t : Lexeme). t ∷ []) s ∙ sym q.1, cc);
}

pub gives_clear : {A : Type 0} (a : A) (more : TokenKind → Bool) → IsClear (gives a) more
unfolding gives
gives_clear a more = record {
  unique = record { one = λ w z v y b c p q e f g. (p.0 ∙ sym q.0, p.1 ∙ sym q.1) };
  word = ([], a, (refl, refl));
}

pub then_one : {A B : Type 0} {L : Lang A} {M : A → Lang B} (m : TokenKind → Bool) {more : TokenKind → Bool} → IsOne L m → ((x : A) → IsOne (M x) more) → Follows m M more → IsOne (L >>= M) more
unfolding ◌>>=◌
then_one {A} {B} {L} {M} m {more} cl cm fol = record {
  one = λ w z v y a b p q e f g.
      let g1 : p.1 ++ (p.2 ++ z) ≡ q.1 ++ (q.2 ++ y) = sym (append_assoc p.1 p.2 z) ∙ ap (λ (u : List Lexeme). u ++ z) (sym p.3) ∙ e ∙ ap (λ (u : List Lexeme). u ++ y) q.3 ∙ append_assoc q.1 q.2 y in
      let h = cl.one p.1 (p.2 ++ z) q.1 (q.2 ++ y) p.0 q.0 p.4 q.4 g1 (fol.ends p.0 p.2 z a p.5 f) (fol.ends q.0 q.2 y b q.5 g) in
      let P : A → Type 0 = λ x. M x q.2 b in
      let g2 : p.2 ++ z ≡ q.2 ++ y = append_cancel_left p.1 _ _ (g1 ∙ ap (λ (u : List Lexeme). u ++ (q.2 ++ y)) (sym h.0)) in
      let k = (cm p.0).one p.2 z q.2 y a b p.5 (subst P (sym h.1) q.5) g2 f g in
      (p.3 ∙ ap (λ (u : List Lexeme). u ++ p.2) h.0 ∙ ap (λ (u : List Lexeme). q.1 ++ u) k.0 ∙ sym q.3, k.1);
}

pub then_word : {A B : Type 0} {L : Lang A} {M : A → Lang B} → HasWord L → ((x : A) → HasWord (M x)) → HasWord (L >>= M)
unfolding ◌>>=◌
then_word l cm =
    let n = cm l.1 in
    (l.0 ++ n.0, n.1, (l.1, l.0, n.0, refl, l.2, n.2))

-- Both parts are read.
pub then_reads : {A B : Type 0} {L : Lang A} (M : A → Lang B) {m : TokenKind → Bool} {more : TokenKind → Bool} {ts mid rest : List Lexeme} {x : A} {y : B} → Reads L m ts x mid → Reads (M x) more mid y rest → Reads (L >>= M) more ts y rest
unfolding ◌>>=◌
then_reads M {ts = ts} {mid = mid} {rest = rest} {x = x} p q = record {
  word = p.word ++ q.word;
  parts = p.parts ∙ ap (λ (u : List Lexeme). p.word ++ u) q.parts ∙ sym (append_assoc p.word q.word rest);
  spells = (x, p.word, q.word, refl, p.spells, q.spells);
  ends = q.ends;
}

-- The first part fails.
pub then_fails : {A B : Type 0} {L : Lang A} (M : A → Lang B) {m : TokenKind → Bool} {more : TokenKind → Bool} {ts rest : List Lexeme} → ((x : A) → HasWord (M x)) → Follows m M more → Fails L m ts rest → Fails (L >>= M) more ts rest
unfolding ◌>>=◌
then_fails {A} {B} {L} M {m} {more} {ts} {rest} cm fol p = record {
  before = p.before;
  parts = p.parts;
  begins =
      let l = p.begins in
      let n = cm l.1 in
      (l.0 ++ n.0, n.1, (l.1, p.before ++ l.0, n.0, sym (append_assoc p.before l.0 n.0), l.2, n.2));
  dead = λ other w z y e f h g.
      p.dead other h.1 (h.2 ++ z) h.0 e (f ∙ ap (λ (u : List Lexeme). u ++ z) h.3 ∙ append_assoc h.1 h.2 z) h.4 (fol.ends h.0 h.2 z y h.5 g);
}

-- The first part is read, and the second fails.
pub then_fails_later : {A B : Type 0} {L : Lang A} (M : A → Lang B) {m : TokenKind → Bool} {more : TokenKind → Bool} {ts mid rest : List Lexeme} {x : A} → IsOne L m → Follows m M more → Reads L m ts x mid → Fails (M x) more mid rest → Fails (L >>= M) more ts rest
unfolding ◌>>=◌
then_fails_later {A} {B} {L} M {m} {more} {ts} {mid} {rest} {x} cl fol p q = record {
  before = p.word ++ q.before;
  parts = p.parts ∙ ap (λ (u : List Lexeme). p.word ++ u) q.parts ∙ sym (append_assoc p.word q.before rest);
  begins =
      let n = q.begins in
      (n.0, n.1, (x, p.word, q.before ++ n.0, append_assoc p.word q.before n.0, p.spells, n.2));
  dead = λ other w z y e f h g.
      let g1 : p.word ++ (q.before ++ other) ≡ h.1 ++ (h.2 ++ z) = sym (append_assoc p.word q.before other) ∙ f ∙ ap (λ (u : List Lexeme). u ++ z) h.3 ∙ append_assoc h.1 h.2 z in
      let P : List Lexeme → Type 0 = λ u. Ends m u in
      let e1 : Ends m (q.before ++ other) = Ends-next m (q.before ++ rest) (q.before ++ other) (next-append q.before rest other e) (subst P q.parts p.ends) in
      let k = cl.one p.word (q.before ++ other) h.1 (h.2 ++ z) x h.0 p.spells h.4 g1 e1 (fol.ends h.0 h.2 z y h.5 g) in
      let g2 : q.before ++ other ≡ h.2 ++ z = append_cancel_left p.word _ _ (g1 ∙ ap (λ (u : List Lexeme). u ++ (h.2 ++ z)) (sym k.0)) in
      let Q : A → Type 0 = λ a. M a h.2 y in
      q.dead other h.2 z y e g2 (subst Q (sym k.1) h.5) g;
}

pub token_reads : {k : TokenKind} {ts : List Lexeme} (t : Lexeme) (rest : List Lexeme) → ts ≡ t ∷ rest → t.kind ≡ k → Reads (token k) none ts t rest
unfolding token
token_reads t rest e h = record { word = t ∷ []; parts = e; spells = (refl, h); ends = none_ends rest }

pub token_fails : {k : TokenKind} (ts : List Lexeme) → ((t : Lexeme) (rest : List Lexeme) → ts ≡ t ∷ rest → t.kind ≡ k → ⊥) → Fails (token k) none ts ts
unfolding token
token_fails {k} ts never = record {
  before = [];
  parts = refl;
  begins = let c = (token_clear k none).word in c;
  dead = λ other w z t e f h g.
      let p : other ≡ t ∷ z = f ∙ ap (λ (u : List Lexeme). u ++ z) h.0 in
      let n : next (t ∷ z) ≡ next ts = ap next (sym p) ∙ e in
      next_is ts t (sym n) (λ rest q. never t rest q h.1);
}
  where
    next_is : (ts : List Lexeme) (t : Lexeme) → next ts ≡ Some t → ((rest : List Lexeme) → ts ≡ t ∷ rest → ⊥) → ⊥
    next_is [] t e f = absurd cc
    next_is (s ∷ ts) t e f = f ts (let h : s ≡ t = cc in ap (λ (u : Lexeme). u ∷ ts) h)

pub then_stops : {A B : Type 0} (L : Lang A) (M : A → Lang B) (m more : TokenKind → Bool) (ts : List Lexeme) (e : Stop) → ((x : A) → HasWord (M x)) → Follows m M more → Stops L m ts e → Stops (L >>= M) more ts e
then_stops L M m more ts Memory cm fol p = tt
then_stops L M m more ts (At r c) cm fol p = then_fails M cm fol p

pub then_stops_later : {A B : Type 0} {L : Lang A} (M : A → Lang B) (m more : TokenKind → Bool) {ts mid : List Lexeme} {x : A} (e : Stop) → IsOne L m → Follows m M more → Reads L m ts x mid → Stops (M x) more mid e → Stops (L >>= M) more ts e
then_stops_later M m more Memory cl fol p q = tt
then_stops_later M m more (At r c) cl fol p q = then_fails_later M cl fol p q

-- ---- a step that nothing goes on with, and the rest

pub step_reads : {A B : Type 0} {L : Lang A} (M : A → Lang B) {more : TokenKind → Bool} {ts mid rest : List Lexeme} {x : A} {y : B} → Reads L none ts x mid → Reads (M x) more mid y rest → Reads (L >>= M) more ts y rest
step_reads M p q = then_reads M p q

pub step_stops : {A B : Type 0} (L : Lang A) (M : A → Lang B) (more : TokenKind → Bool) (ts : List Lexeme) (e : Stop) → ((x : A) → HasWord (M x)) → Stops L none ts e → Stops (L >>= M) more ts e
step_stops L M more ts Memory cm p = tt
step_stops L M more ts (At r c) cm p = then_fails M cm (none_follows M more) p

pub step_stops_later : {A B : Type 0} {L : Lang A} (M : A → Lang B) (more : TokenKind → Bool) {ts mid : List Lexeme} {x : A} (e : Stop) → IsOne L none → Reads L none ts x mid → Stops (M x) more mid e → Stops (L >>= M) more ts e
step_stops_later M more Memory cl p q = tt
step_stops_later M more (At r c) cl p q = then_fails_later M cl (none_follows M more) p q

pub gives_reads : {A : Type 0} (a : A) (ts : List Lexeme) → Reads (gives a) none ts a ts
unfolding gives
gives_reads a ts = record { word = []; parts = refl; spells = (refl, refl); ends = none_ends ts }

-- What a function returned at a `?` is the fault that it met.
pub leaves : {X A : Type 0} (view : X → A) (L : Lang A) (more : TokenKind → Bool) (ts : List Lexeme) (r : Result (X × Tokens) Stop) (e : Stop) → IsErr r × IsErrAnd r (λ x. x ≡ e) → Stops L more ts e → Parses view L more ts r
leaves view L more ts r e h s =
    let p = err_from_is_err_and r h.1 in
    rw (p.1, p.2) s

-- ---- words and uniqueness, by their lemmas

pub token_word : (k : TokenKind) → HasWord (token k)
token_word k = (token_clear k none).word

pub token_one : (k : TokenKind) → IsOne (token k) none
token_one k = (token_clear k none).unique

pub gives_word : {A : Type 0} (a : A) → HasWord (gives a)
gives_word a = (gives_clear a none).word

pub gives_one : {A : Type 0} (a : A) (more : TokenKind → Bool) → IsOne (gives a) more
gives_one a more = (gives_clear a more).unique

pub step_one : {A B : Type 0} {L : Lang A} (M : A → Lang B) {more : TokenKind → Bool} → IsOne L none → ((x : A) → IsOne (M x) more) → IsOne (L >>= M) more
step_one M {more} cl cm = then_one none cl cm (none_follows M more)

pub ruleset words = (then_word, token_word, gives_word)

pub ruleset ones = (step_one, token_one, gives_one)

pub ruleset steps = (words, ones, then_reads, step_stops, step_stops_later, gives_reads)
