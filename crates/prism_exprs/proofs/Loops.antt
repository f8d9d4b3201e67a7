-- What a loop has read so far, and what is left.
use Rattle.prism_lex.specs.declared.token.TokenKind.TheVariants as K
use Rattle.prism_lex.specs.contracts.words.Reserved.{the_type as words}
use Rattle.prism_lex.specs.contracts.symbols.Symbol.{the_type as symbols}
use denote.Enum.Bare.{same_true}
use Rattle.prism_exprs.specs.Reading.{starts, is_kind, same_kind}
use Rattle.std.proofs.lemmas.List.{length-append}
use Rattle.prism_exprs.specs.declared.tokens.Tokens.{Tokens}
use Rattle.std.specs.Prelude.{Result, Ok, Err}
use Rattle.std.proofs.Common.{rules, arith, length, ◌<◌, append-nil, ◌≡◌, Bool, true, false, List, [], ◌∷◌, ◌++◌, refl, sym, ap, subst, ◌∙◌}
use Rattle.prism_lex.specs.declared.token.TokenKind.{TokenKind}
use Rattle.prism_lex.specs.Tokens.{Lexeme}
use Rattle.prism_exprs.specs.declared.tokens.Stop.{Stop}
use Rattle.prism_tree.specs.Lang.{Lang, gives, folding, with_last, front, ◌>>=◌, ◌or◌, many}
use Rattle.prism_tree.specs.Laws.{fold_last}
use Rattle.prism_exprs.specs.Reading.{Parses, Stops, Ends, none, Reads, Fails}
use Rattle.prism_exprs.proofs.Laws.{none_follows, IsOne, HasWord, Follows, then_reads, then_fails_later, then_stops, then_stops_later}
use Rattle.prism_exprs.proofs.Choice.{FirstIs, Same, same_reads, same_fails, same_stops, or_fails_right, Barred, or_reads_left, or_reads_right, or_stops_right, gives_barred, Opens, Repeats, folding-unfold, folding_word, folding_follows}

-- Whatever reading M from us gives, reading L from ts gives too.
pub record Leads {A : Type 0} (more : TokenKind → Bool) (L : Lang A) (ts : List Lexeme) (M : Lang A) (us : List Lexeme) : Type 0 where
  pub reads : (x : A) (r : List Lexeme) → Reads M more us x r → Reads L more ts x r
  pub stops : (e : Stop) → Stops M more us e → Stops L more ts e
  pub fails : (r : List Lexeme) → Fails M more us r → Fails L more ts r

pub leads_on : {A : Type 0} {more : TokenKind → Bool} {L M N : Lang A} {ts us vs : List Lexeme} → Leads more L ts M us → Leads more M us N vs → Leads more L ts N vs
leads_on p q = record { reads = λ x r h. p.reads x r (q.reads x r h); stops = λ e h. p.stops e (q.stops e h); fails = λ r h. p.fails r (q.fails r h) }

pub then_leads : {A B : Type 0} {L : Lang A} (M : A → Lang B) (m more : TokenKind → Bool) {ts us : List Lexeme} {x : A} → IsOne L m → Follows m M more → Reads L m ts x us → Leads more (L >>= M) ts (M x) us
then_leads M m more l fol p = record { reads = λ y r q. then_reads M p q; stops = λ e q. then_stops_later M m more e l fol p q; fails = λ r q. then_fails_later M l fol p q }

pub same_leads : {A : Type 0} {L M : Lang A} (more : TokenKind → Bool) (ts : List Lexeme) → Same L M → Leads more L ts M ts
same_leads more ts s = record { reads = λ x r. same_reads s; stops = λ e. same_stops more ts e s; fails = λ r. same_fails s }

pub or_leads_right : {A : Type 0} (L M : Lang A) (more : TokenKind → Bool) (ts : List Lexeme) → Barred L more ts → Leads more (L or M) ts M ts
or_leads_right L M more ts b = record { reads = λ x r p. or_reads_right L M p; stops = λ e p. or_stops_right L M more ts e b p; fails = λ r p. or_fails_right L M more ts r b p }

-- Nothing more is read.
pub folding_reads : {S A : Type 0} (f : S → A → S) (L : Lang A) {more : TokenKind → Bool} (s : S) (ts : List Lexeme) → Ends more ts → Reads (folding f L s) more ts s ts
unfolding gives
folding_reads f L s ts e = same_reads (folding-unfold f L s) (or_reads_left (gives s) (L >>= λ x. folding f L (f s x)) (record { word = []; parts = refl; spells = (refl, refl); ends = e }))

-- One more item is read.
pub folding_leads : {S A : Type 0} (f : S → A → S) {L : Lang A} {P : TokenKind → Type 0} {m more : TokenKind → Bool} (s : S) (x : A) {ts us : List Lexeme} → Opens L P → Repeats P m more → IsOne L m → Reads L m ts x us → Leads more (folding f L s) ts (folding f L (f s x)) us
folding_leads f {L} {P} {m} {more} s x {ts} {us} o r l p =
    let n = o p.word x p.spells in
    let parts : ts ≡ n.0 ∷ (n.1 ++ us) = p.parts ∙ ap (λ (u : List Lexeme). u ++ us) n.2 in
    let F : List Lexeme → Type 0 = λ u. Barred (gives s) more u in
    let barred : Barred (gives s) more ts = subst F (sym parts) (gives_barred s more n.0 (n.1 ++ us) (r.again (n.0).kind n.3)) in
    leads_on (same_leads more ts (folding-unfold f L s)) (leads_on (or_leads_right _ _ more ts barred) (then_leads (λ y. folding f L (f s y)) m more l (folding_follows f o r (f s)) p))

-- The next item fails.
pub folding_stops : {S A : Type 0} (f : S → A → S) {L : Lang A} {P : TokenKind → Type 0} {m more : TokenKind → Bool} (s : S) (t : Lexeme) (rest : List Lexeme) (e : Stop) → Opens L P → Repeats P m more → more t.kind ≡ true → Stops L m (t ∷ rest) e → Stops (folding f L s) more (t ∷ rest) e
folding_stops f {L} {P} {m} {more} s t rest e o r h p =
    same_stops more (t ∷ rest) e (folding-unfold f L s) (or_stops_right _ _ more (t ∷ rest) e (gives_barred s more t rest h)
    (then_stops L (λ y. folding f L (f s y)) m more (t ∷ rest) e (λ y. folding_word f L (f s y)) (folding_follows f o r (f s)) p))

-- ---- one step after another

pub begin : {A : Type 0} (L : Lang A) (more : TokenKind → Bool) (ts : List Lexeme) → Leads more L ts L ts
begin L more ts = record { reads = λ x r h. h; stops = λ e h. h; fails = λ r h. h }

pub step : {A B : Type 0} {L : Lang B} (K : Lang A) (M : A → Lang B) {more : TokenKind → Bool} {ts us vs : List Lexeme} {x : A} → Leads more L ts (K >>= M) us → IsOne K none → Reads K none us x vs → Leads more L ts (M x) vs
step K M {more = more} l one p = leads_on l (then_leads M none more one (none_follows M more) p)

-- the step after those fails
pub halt : {A B : Type 0} {L : Lang B} (K : Lang A) (M : A → Lang B) {more : TokenKind → Bool} {ts us : List Lexeme} → Leads more L ts (K >>= M) us → ((x : A) → HasWord (M x)) → (e : Stop) → Stops K none us e → Stops L more ts e
halt K M {more = more} {us = us} l word e p = l.stops e (then_stops K M none more us e word (none_follows M more) p)

-- a step that may go on, and then what does not go on with it
pub step_to : {A B : Type 0} {L : Lang B} (K : Lang A) (M : A → Lang B) {m more : TokenKind → Bool} {ts us vs : List Lexeme} {x : A} → Leads more L ts (K >>= M) us → IsOne K m → Follows m M more → Reads K m us x vs → Leads more L ts (M x) vs
step_to K M {m = m} {more = more} l one fol p = leads_on l (then_leads M m more one fol p)

pub halt_at : {A B : Type 0} {L : Lang B} (K : Lang A) (M : A → Lang B) {m more : TokenKind → Bool} {ts us : List Lexeme} → Leads more L ts (K >>= M) us → ((x : A) → HasWord (M x)) → Follows m M more → (e : Stop) → Stops K m us e → Stops L more ts e
halt_at K M {m = m} {more = more} {us = us} l word fol e p = l.stops e (then_stops K M m more us e word fol p)

-- ---- lists

-- any number are those, taken up into a list
pub many-folding : {A : Type 0} (L : Lang A) → Same (many L) (folding with_last L [])
unfolding folding ◌>>=◌ gives
many-folding {A} L = record {
  to = λ w xs h. (xs, w, [], sym (append-nil w), h, (refl, sym (fold_last [] xs)));
  from = λ w xs h.
      let F : List Lexeme → Type 0 = λ u. many L u xs in
      let G : List A → Type 0 = λ ys. many L h.1 ys in
      let ys_are : xs ≡ h.0 = h.5.1 ∙ fold_last [] h.0 in
      subst F (sym (h.3 ∙ ap (λ (u : List Lexeme). h.1 ++ u) h.5.0 ∙ append-nil h.1)) (subst G (sym ys_are) h.4);
}

pub many_begin : {A : Type 0} (L : Lang A) (more : TokenKind → Bool) (ts : List Lexeme) → Leads more (many L) ts (front L []) ts
many_begin L more ts = same_leads more ts (many-folding L)

-- what an item takes is not nothing
pub reads_shorter : {A : Type 0} {L : Lang A} (P : TokenKind → Type 0) {m : TokenKind → Bool} {ts us : List Lexeme} {x : A} → Opens L P → Reads L m ts x us → length us < length ts
reads_shorter P {ts = ts} {us = us} {x = x} o p =
    let n = o p.word x p.spells in
    omega (arith, ap length p.parts, length-append p.word us, ap length n.2)

-- each word begins with a token that passes the test
abbrev pub Begun : {A : Type 0} → Lang A → (TokenKind → Bool) → Type 0
Begun L first = Opens L (λ k. first k ≡ true)

pub kind_begun : {A : Type 0} (L : Lang A) (kind : TokenKind) → same_kind kind kind ≡ true → Opens L (λ k. k ≡ kind) → Begun L (is_kind kind)
kind_begun L kind same o w a h =
    let n = o w a h in
    let F : TokenKind → Type 0 = λ k. same_kind k kind ≡ true in
    (n.0, n.1, n.2, subst F (sym n.3) same)

pub begun_repeats : (first : TokenKind → Bool) → Repeats (λ k. first k ≡ true) none first
begun_repeats first = record { again = λ k h. h; apart = λ k h. refl; within = λ k h. refl }

pub starts_cons : (first : TokenKind → Bool) (ts : List Lexeme) → starts first ts ≡ true → (t : Lexeme) × (us : List Lexeme) × (ts ≡ t ∷ us) × (first t.kind ≡ true)
starts_cons first [] e = absurd cc
starts_cons first (t ∷ us) e = (t, us, refl, e)

pub starts_ends : (first : TokenKind → Bool) (ts : List Lexeme) → starts first ts ≡ false → Ends first ts
starts_ends first [] e = tt
starts_ends first (t ∷ us) e = e

-- A loop reads one more item.
pub loop_next : {A : Type 0} {K : Lang (List A)} (L : Lang A) (first : TokenKind → Bool) {ts us vs : List Lexeme} (xs : List A) (x : A) → Begun L first → IsOne L none → Leads first K ts (front L xs) us → Reads L none us x vs → Leads first K ts (front L (xs ++ x ∷ [])) vs
loop_next L first xs x o l i p = leads_on i (folding_leads with_last xs x o (begun_repeats first) l p)

-- No item stands next.
pub loop_done : {A : Type 0} {K : Lang (List A)} (L : Lang A) (first : TokenKind → Bool) {ts us : List Lexeme} (xs : List A) → Leads first K ts (front L xs) us → starts first us ≡ false → Reads K first ts xs us
loop_done L first {us = us} xs i s = i.reads xs us (folding_reads with_last L xs us (starts_ends first us s))

-- ---- what a function returned, through Leads

pub parses_via : {X A : Type 0} (view : X → A) (L M : Lang A) (more : TokenKind → Bool) (ts us : List Lexeme) (r : Result (X × Tokens) Stop) → Leads more L ts M us → Parses view M more us r → Parses view L more ts r
parses_via view L M more ts us (Ok y) l p = l.reads _ _ p
parses_via view L M more ts us (Err e) l p = l.stops e p

-- kinds that are the same are equal
pub same_is : (j k : TokenKind) → same_kind j k ≡ true → j ≡ k
same_is (K.Word a) (K.Word b) e = ap K.Word (same_true words (search rules) a b e)
same_is (K.Symbol a) (K.Symbol b) e = ap K.Symbol (same_true symbols (search rules) a b e)
same_is K.Ident K.Ident e = refl
same_is K.Quoted K.Quoted e = refl
same_is j k e = cc

-- the first token, by a test
pub starts_is : (kind : TokenKind) (ts : List Lexeme) → starts (is_kind kind) ts ≡ true → (t : Lexeme) × (us : List Lexeme) × (ts ≡ t ∷ us) × (t.kind ≡ kind)
starts_is kind [] e = absurd cc
starts_is kind (t ∷ us) e = (t, us, refl, same_is t.kind kind e)

pub starts_not : (kind : TokenKind) (ts : List Lexeme) → same_kind kind kind ≡ true → starts (is_kind kind) ts ≡ false → FirstIs (λ k. k ≡ kind → ⊥) ts
starts_not kind [] same e t us f g = absurd cc
starts_not kind (s ∷ ss) same e t us f g =
    let h : s ≡ t = cc in
    let i : s.kind ≡ kind = ap (λ (u : Lexeme). u.kind) h ∙ g in
    let F : TokenKind → Type 0 = λ k. same_kind k kind ≡ true in
    let n : same_kind s.kind kind ≡ true = subst F (sym i) same in
    let m : same_kind s.kind kind ≡ false = e in
    absurd cc
