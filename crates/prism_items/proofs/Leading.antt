-- How far reading has come: what is left to be read, and from where, so that what this gives the whole gives too.
use Rattle.std.proofs.Common.{map, ◌≡◌, Bool, true, false, List, [], ◌∷◌, ◌++◌, Some, refl, sym, ap, subst, ◌∙◌, append_assoc, inl, inr}
use Rattle.std.specs.Prelude.{◌⊎◌, Result, Ok, Err}
use Rattle.std.proofs.lemmas.List.{map_push, append_cancel_left}
use Rattle.prism_lex.specs.declared.token.TokenKind.{TokenKind}
use Rattle.prism_lex.specs.Tokens.{Lexeme}
use Rattle.prism_tree.specs.Lang.{Lang, token, gives, folding, front, with_last, ◌>>=◌, ◌or◌, many, Begins}
use Rattle.prism_exprs.specs.declared.tokens.Found.{Found}
use Rattle.prism_exprs.specs.declared.tokens.Tokens.{Tokens}
use Rattle.prism_exprs.specs.declared.tokens.Cause.{Cause}
use Rattle.prism_exprs.specs.declared.tokens.Cause.TheVariants as C
use Rattle.prism_exprs.specs.declared.tokens.Stop.{Stop}
use Rattle.prism_exprs.specs.declared.tokens.Stop.TheVariants.{Memory, At}
use Rattle.prism_exprs.specs.Kept.{seen}
use Rattle.prism_exprs.specs.Reading.{Ends, none, next, Dead, Reads, starts}
use Rattle.prism_exprs.specs.Scope.{Scope, Halts, StopsIn, ParsesIn}
use Rattle.prism_exprs.proofs.Laws.{IsOne, HasWord, Follows, none_follows, token_one, gives_reads, gives_word, Ends-next, next-append, then_reads}
use Rattle.prism_exprs.proofs.Choice.{Same, same_reads, Barred, or_dead, or_reads_left, or_reads_right, gives_barred, Opens, folding-unfold, folding_word}
use Rattle.prism_items.specs.Parts.{followed_by}
use Rattle.prism_exprs.proofs.Loops.{Begun, many-folding, starts_cons, starts_ends, folding_reads}

-- Behind the front, M is left to be read from us, where L was to be read from ts.
pub record Leads {A : Type 0} (more : TokenKind → Bool) (L : Lang A) (ts : List Lexeme) (M : Lang A) (us : List Lexeme) : Type 0 where
  pub front : List Lexeme
  pub parts : ts ≡ front ++ us
  pub reads : (x : A) (r : List Lexeme) → Reads M more us x r → Reads L more ts x r
  pub begins : (v : List Lexeme) → Begins M v → Begins L (front ++ v)
  pub dead : (v r : List Lexeme) → next (v ++ r) ≡ next us → Dead M more v r → Dead L more (front ++ v) r

pub begin : {A : Type 0} (L : Lang A) (more : TokenKind → Bool) (ts : List Lexeme) → Leads more L ts L ts
begin L more ts = record { front = []; parts = refl; reads = λ x r h. h; begins = λ v b. b; dead = λ v r e d. d }

pub leads_on : {A : Type 0} {more : TokenKind → Bool} {L M N : Lang A} {ts us vs : List Lexeme} → Leads more L ts M us → Leads more M us N vs → Leads more L ts N vs
leads_on {more = more} {L = L} {vs = vs} p q = record {
  front = p.front ++ q.front;
  parts = p.parts ∙ ap (λ (u : List Lexeme). p.front ++ u) q.parts ∙ sym (append_assoc p.front q.front vs);
  reads = λ x r h. p.reads x r (q.reads x r h);
  begins = λ v b.
      let F : List Lexeme → Type 0 = λ u. Begins L u in
      subst F (sym (append_assoc p.front q.front v)) (p.begins (q.front ++ v) (q.begins v b));
  dead = λ v r e d.
      let F : List Lexeme → Type 0 = λ u. Dead L more u r in
      subst F (sym (append_assoc p.front q.front v))
      (p.dead (q.front ++ v) r (ap next (append_assoc q.front v r) ∙ next-append q.front vs (v ++ r) e ∙ ap next (sym q.parts)) (q.dead v r e d));
}

-- The first part is read.
pub then_leads : {A B : Type 0} {L : Lang A} (M : A → Lang B) (m more : TokenKind → Bool) {ts us : List Lexeme} {x : A} → IsOne L m → Follows m M more → Reads L m ts x us → Leads more (L >>= M) ts (M x) us
unfolding ◌>>=◌
then_leads {A} {B} {L} M m more {ts} {us} {x} one fol p = record {
  front = p.word;
  parts = p.parts;
  reads = λ y r q. then_reads M p q;
  begins = λ v b. (b.0, b.1, (x, p.word, v ++ b.0, append_assoc p.word v b.0, p.spells, b.2));
  dead = λ v r i d other w z y e f h g.
      let g1 : p.word ++ (v ++ other) ≡ h.1 ++ (h.2 ++ z) = sym (append_assoc p.word v other) ∙ f ∙ ap (λ (u : List Lexeme). u ++ z) h.3 ∙ append_assoc h.1 h.2 z in
      let e1 : Ends m (v ++ other) = Ends-next m us (v ++ other) (next-append v r other e ∙ i) p.ends in
      let k = one.one p.word (v ++ other) h.1 (h.2 ++ z) x h.0 p.spells h.4 g1 e1 (fol.ends h.0 h.2 z y h.5 g) in
      let g2 : v ++ other ≡ h.2 ++ z = append_cancel_left p.word _ _ (g1 ∙ ap (λ (u : List Lexeme). u ++ (h.2 ++ z)) (sym k.0)) in
      let Q : A → Type 0 = λ a. M a h.2 y in
      d other h.2 z y e g2 (subst Q (sym k.1) h.5) g;
}

pub same_leads : {A : Type 0} {L M : Lang A} (more : TokenKind → Bool) (ts : List Lexeme) → Same L M → Leads more L ts M ts
same_leads more ts s = record {
  front = [];
  parts = refl;
  reads = λ x r. same_reads s;
  begins = λ v b. (b.0, b.1, s.from (v ++ b.0) b.1 b.2);
  dead = λ v r e d other w z x n f h g. d other w z x n f (s.to w x h) g;
}

pub barred_dead : {A : Type 0} (L : Lang A) (more : TokenKind → Bool) (ts v r : List Lexeme) → Barred L more ts → next (v ++ r) ≡ next ts → Dead L more v r
barred_dead L more ts v r b e other w z x n f h g = b (v ++ other) w z x (next-append v r other n ∙ e) f h g

pub or_right : {A : Type 0} (L M : Lang A) (more : TokenKind → Bool) (ts : List Lexeme) → Barred L more ts → Leads more (L or M) ts M ts
unfolding ◌or◌
or_right L M more ts b = record {
  front = [];
  parts = refl;
  reads = λ x r p. or_reads_right L M p;
  begins = λ v n. (n.0, n.1, inr n.2);
  dead = λ v r e d. or_dead L M more v r (barred_dead L more ts v r b e) d;
}

pub or_left : {A : Type 0} (L M : Lang A) (more : TokenKind → Bool) (ts : List Lexeme) → Barred M more ts → Leads more (L or M) ts L ts
unfolding ◌or◌
or_left L M more ts b = record {
  front = [];
  parts = refl;
  reads = λ x r p. or_reads_left L M p;
  begins = λ v n. (n.0, n.1, inl n.2);
  dead = λ v r e d. or_dead L M more v r d (barred_dead M more ts v r b e);
}

-- ---- where reading halts

pub halts_by : {A : Type 0} {more : TokenKind → Bool} {L M : Lang A} {ts us : List Lexeme} (s : Scope) (c : Cause) (r : List Lexeme) → Leads more L ts M us → Halts s c M more us r → Halts s c L more ts r
halts_by {L = L} s c r l h = record {
  before = l.front ++ h.before;
  parts = l.parts ∙ ap (λ (u : List Lexeme). l.front ++ u) h.parts ∙ sym (append_assoc l.front h.before r);
  begins = l.begins h.before h.begins;
  dead = λ t. l.dead h.before r (sym (ap next h.parts)) (h.dead t);
  goes = λ p.
      let g = h.goes p in
      let F : List Lexeme → Type 0 = λ u. Begins L u in
      (g.0, g.1, g.2, subst F (sym (append_assoc l.front h.before (g.0 ∷ []))) (l.begins (h.before ++ g.0 ∷ []) g.3));
}

pub stops_by : {A : Type 0} {more : TokenKind → Bool} {L M : Lang A} {ts us : List Lexeme} (s : Scope) (e : Stop) → Leads more L ts M us → StopsIn s M more us e → StopsIn s L more ts e
stops_by s Memory l h = tt
stops_by s (At r c) l h = halts_by s c (seen r) l h

pub then_begins : {A B : Type 0} (L : Lang A) (M : A → Lang B) (u : List Lexeme) → ((x : A) → HasWord (M x)) → Begins L u → Begins (L >>= M) u
unfolding ◌>>=◌
then_begins L M u word b = let n = word b.1 in (b.0 ++ n.0, n.1, (b.1, u ++ b.0, n.0, sym (append_assoc u b.0 n.0), b.2, n.2))

pub then_dead : {A B : Type 0} (L : Lang A) (M : A → Lang B) {m more : TokenKind → Bool} (u r : List Lexeme) → Follows m M more → Dead L m u r → Dead (L >>= M) more u r
unfolding ◌>>=◌
then_dead L M u r fol d other w z y e f h g = d other h.1 (h.2 ++ z) h.0 e (f ∙ ap (λ (u : List Lexeme). u ++ z) h.3 ∙ append_assoc h.1 h.2 z) h.4 (fol.ends h.0 h.2 z y h.5 g)

pub then_halts : {A B : Type 0} (L : Lang A) (M : A → Lang B) {m more : TokenKind → Bool} {ts r : List Lexeme} (s : Scope) (c : Cause) → ((x : A) → HasWord (M x)) → Follows m M more → Halts s c L m ts r → Halts s c (L >>= M) more ts r
then_halts L M {r = r} s c word fol h = record {
  before = h.before;
  parts = h.parts;
  begins = then_begins L M h.before word h.begins;
  dead = λ t. then_dead L M h.before r fol (h.dead t);
  goes = λ p. let g = h.goes p in (g.0, g.1, g.2, then_begins L M (h.before ++ g.0 ∷ []) word g.3);
}

then_stops : {A B : Type 0} (L : Lang A) (M : A → Lang B) {m more : TokenKind → Bool} (ts : List Lexeme) (s : Scope) (e : Stop) → ((x : A) → HasWord (M x)) → Follows m M more → StopsIn s L m ts e → StopsIn s (L >>= M) more ts e
then_stops L M ts s Memory word fol h = tt
then_stops L M ts s (At r c) word fol h = then_halts L M s c word fol h

-- No word stands here.
pub barred_halts : {A : Type 0} (L : Lang A) (more : TokenKind → Bool) (ts : List Lexeme) (s : Scope) → HasWord L → Barred L more ts → Halts s C.Form L more ts ts
barred_halts L more ts s word b = record { before = []; parts = refl; begins = word; dead = λ t. b; goes = λ p. absurd p }

-- ---- one step after another

pub step : {A B : Type 0} {L : Lang B} (K : Lang A) (M : A → Lang B) {more : TokenKind → Bool} {ts us vs : List Lexeme} {x : A} → Leads more L ts (K >>= M) us → IsOne K none → Reads K none us x vs → Leads more L ts (M x) vs
step K M {more = more} l one p = leads_on l (then_leads M none more one (none_follows M more) p)

-- a step that may go on, and then what does not go on with it
pub step_to : {A B : Type 0} {L : Lang B} (K : Lang A) (M : A → Lang B) {m more : TokenKind → Bool} {ts us vs : List Lexeme} {x : A} → Leads more L ts (K >>= M) us → IsOne K m → Follows m M more → Reads K m us x vs → Leads more L ts (M x) vs
step_to K M {m = m} {more = more} l one fol p = leads_on l (then_leads M m more one fol p)

-- The step after those halts.
pub halt : {A B : Type 0} {L : Lang B} (K : Lang A) (M : A → Lang B) {more : TokenKind → Bool} {ts us : List Lexeme} (s : Scope) → Leads more L ts (K >>= M) us → ((x : A) → HasWord (M x)) → (e : Stop) → StopsIn s K none us e → StopsIn s L more ts e
halt K M {more = more} s l word e p = stops_by s e l (then_stops K M _ s e word (none_follows M more) p)

pub halt_at : {A B : Type 0} {L : Lang B} (K : Lang A) (M : A → Lang B) {m more : TokenKind → Bool} {ts us : List Lexeme} (s : Scope) → Leads more L ts (K >>= M) us → ((x : A) → HasWord (M x)) → Follows m M more → (e : Stop) → StopsIn s K m us e → StopsIn s L more ts e
halt_at K M s l word fol e p = stops_by s e l (then_stops K M _ s e word fol p)

pub parses_by : {X A : Type 0} (view : X → A) (L M : Scope → Lang A) (more : TokenKind → Bool) (ts us : List Lexeme) (r : Result (X × Tokens) Stop) → ((s : Scope) → Leads more (L s) ts (M s) us) → ParsesIn view M more us r → ParsesIn view L more ts r
parses_by view L M more ts us (Ok y) l p = λ s. (l s).reads _ _ (p s)
parses_by view L M more ts us (Err e) l p = λ s. stops_by s e (l s) (p s)

-- a value, and the token behind it
pub followed : {X A : Type 0} (view : X → A) (L : Scope → Lang A) (lexeme : Found → Lexeme) (k : TokenKind) (x : X) (ts us : List Lexeme) (read : Result (Found × Tokens) Stop) (r : Result (X × Tokens) Stop) →
    ((s : Scope) → Leads none (L s) ts (token k >>= λ _. gives (view x)) us) → ParsesIn lexeme (λ s. token k) none us read → r ≡ followed_by x read → ParsesIn view L none ts r
followed {X} view L lexeme k x ts us read r l p e =
    let F : Result (X × Tokens) Stop → Type 0 = λ u. ParsesIn view L none ts u in
    subst F (sym e) (by_read read p)
  where
    by_read : (read : Result (Found × Tokens) Stop) → ParsesIn lexeme (λ s. token k) none us read → ParsesIn view L none ts (followed_by x read)
    by_read (Ok y) p = λ s. (step _ _ (l s) (token_one _) (p s)).reads _ _ (gives_reads _ _)
    by_read (Err e) p = λ s. halt _ _ s (l s) (λ _. gives_word _) e (p s)

-- ---- repetitions

-- Another item stands next.
pub another : {S A : Type 0} (f : S → A → S) (L : Lang A) {more : TokenKind → Bool} (s : S) {ts : List Lexeme} → starts more ts ≡ true → Leads more (folding f L s) ts (L >>= λ x. folding f L (f s x)) ts
another f L {more} s {ts} e =
    let n = starts_cons more ts e in
    let F : List Lexeme → Type 0 = λ u. Barred (gives s) more u in
    leads_on (same_leads more ts (folding-unfold f L s)) (or_right (gives s) _ more ts (subst F (sym n.2) (gives_barred s more n.0 n.1 n.3)))

pub loop_next : {S A : Type 0} {K : Lang S} (f : S → A → S) (L : Lang A) {first : TokenKind → Bool} {ts us vs : List Lexeme} (s : S) (x : A) → Begun L first → IsOne L none → Leads first K ts (folding f L s) us → starts first us ≡ true → Reads L none us x vs → Leads first K ts (folding f L (f s x)) vs
loop_next f L s x o l i e p = step _ _ (leads_on i (another f L s e)) l p

pub loop_stops : {S A : Type 0} {K : Lang S} (f : S → A → S) (L : Lang A) {first : TokenKind → Bool} {ts us : List Lexeme} (s : S) (c : Scope) (e : Stop) → Leads first K ts (folding f L s) us → starts first us ≡ true → StopsIn c L none us e → StopsIn c K first ts e
loop_stops f L s c e i n p = halt _ _ c (leads_on i (another f L s n)) (λ x. folding_word f L (f s x)) e p

pub loop_done : {S A : Type 0} {K : Lang S} (f : S → A → S) (L : Lang A) {first : TokenKind → Bool} {ts us : List Lexeme} (s : S) → Leads first K ts (folding f L s) us → starts first us ≡ false → Reads K first ts s us
loop_done f L {first} {us = us} s i e = i.reads s us (folding_reads f L s us (starts_ends first us e))

pub many_begin : {A : Type 0} (L : Lang A) (more : TokenKind → Bool) (ts : List Lexeme) → Leads more (many L) ts (front L []) ts
many_begin L more ts = same_leads more ts (many-folding L)

-- ---- what was taken up into a list

pub taken_reads : {X A : Type 0} (view : X → A) (L : Scope → Lang A) (more : TokenKind → Bool) (ts : List Lexeme) (r : Result (X × Tokens) Stop) (x : X) (rest : Tokens) → r ≡ Ok (x, rest) → ParsesIn view L more ts r →
    (s : Scope) → Reads (L s) more ts (view x) (seen rest)
taken_reads {X} view L more ts r x rest e p = let F : Result (X × Tokens) Stop → Type 0 = λ u. ParsesIn view L more ts u in subst F e p

pub taken_stops : {X A : Type 0} (view : X → A) (L : Scope → Lang A) (more : TokenKind → Bool) (ts : List Lexeme) (r : Result (X × Tokens) Stop) (e : Stop) → (e ≡ Memory) ⊎ (r ≡ Err e) → ParsesIn view L more ts r →
    (s : Scope) → StopsIn s (L s) more ts e
taken_stops view L more ts r e (inl m) p s = let F : Stop → Type 0 = λ u. StopsIn s (L s) more ts u in subst F (sym m) tt
taken_stops {X} view L more ts r e (inr q) p s = let F : Result (X × Tokens) Stop → Type 0 = λ u. ParsesIn view L more ts u in subst F q p s

-- ---- first tokens

pub opens_barred : {A : Type 0} (L : Lang A) (P : TokenKind → Type 0) (m : TokenKind → Bool) (ts : List Lexeme) → Opens L P → ((t : Lexeme) (us : List Lexeme) → ts ≡ t ∷ us → P t.kind → ⊥) → Barred L m ts
opens_barred L P m ts o never other w z x n f h g =
    let i = o w x h in
    let j : next ts ≡ Some i.0 = sym n ∙ ap next (f ∙ ap (λ (u : List Lexeme). u ++ z) i.2) in
    by_list ts j never i.3
  where
    by_list : (ts : List Lexeme) {t : Lexeme} → next ts ≡ Some t → ((t : Lexeme) (us : List Lexeme) → ts ≡ t ∷ us → P t.kind → ⊥) → P t.kind → ⊥
    by_list [] e never p = absurd cc
    by_list (s ∷ us) {t} e never p =
        let q : s ≡ t = cc in
        let F : Lexeme → Type 0 = λ u. P u.kind in
        never s us refl (subst F (sym q) p)

-- ---- the list that a loop keeps

pub listed : {X A : Type 0} {K : Lang (List A)} (f : X → A) (L : Lang A) {more : TokenKind → Bool} {ts us : List Lexeme} (xs ys : List X) → ys ≡ xs → Leads more K ts (front L (map f xs)) us → Leads more K ts (front L (map f ys)) us
listed {K = K} f L {more} {ts} {us} xs ys e l = let F : List _ → Type 0 = λ u. Leads more K ts (front L (map f u)) us in subst F (sym e) l

pub pushed : {X A : Type 0} {K : Lang (List A)} (f : X → A) (L : Lang A) {more : TokenKind → Bool} {ts us : List Lexeme} (xs ys : List X) (x : X) → ys ≡ xs ++ x ∷ [] → Leads more K ts (front L (with_last (map f xs) (f x))) us → Leads more K ts (front L (map f ys)) us
pushed {A = A} {K = K} f L {more} {ts} {us} xs ys x e l =
    let F : List A → Type 0 = λ u. Leads more K ts (front L u) us in
    listed f L (xs ++ x ∷ []) ys e (subst F (sym (map_push f xs x)) l)
