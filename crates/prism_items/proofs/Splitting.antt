-- Which of the two forms of updates stands in a list: where one of them ends, the other begins.
use Rattle.std.proofs.Common.{◌≡◌, Bool, true, false, List, [], ◌∷◌, ◌++◌, refl, sym, subst, ◌∙◌, inl, inr, cond}
use Rattle.std.specs.Prelude.{◌⊎◌, ◌&&◌, Result, Ok, Err}
use Rattle.std.proofs.lemmas.List.{append_cancel_right}
use Rattle.prism_lex.specs.declared.token.TokenKind.{TokenKind}
use Rattle.prism_lex.specs.declared.token.TokenKind.TheVariants as K
use Rattle.prism_lex.specs.declared.words.Reserved.TheVariants as W
use Rattle.prism_lex.specs.declared.symbols.Symbol.TheVariants as S
use Rattle.prism_lex.specs.Tokens.{Lexeme}
use Rattle.prism_tree.specs.Syntax.{Branch}
use Rattle.prism_tree.specs.Lang.{Lang, gives, ◌or◌, Begins}
use Rattle.prism_tree.specs.Grammar.{name, write, updates}
use Rattle.prism_exprs.specs.declared.tokens.Cause.{Cause}
use Rattle.prism_exprs.specs.declared.tokens.Stop.{Stop}
use Rattle.prism_exprs.specs.declared.tokens.Stop.TheVariants.{Memory, At}
use Rattle.prism_exprs.specs.declared.tokens.Tokens.{Tokens}
use Rattle.prism_exprs.specs.Kept.{seen}
use Rattle.prism_exprs.specs.Reading.{Ends, none, next, Dead, Reads, starts, is_kind}
use Rattle.prism_exprs.specs.Scope.{Scope, Halts, StopsIn, ParsesIn}
use Rattle.prism_exprs.proofs.Laws.{IsOne, HasWord, none_ends, none_follows, token_reads, then_word, token_one, token_word, gives_one, gives_word, step_one, then_one}
use Rattle.prism_exprs.proofs.Choice.{or_word, same_reads, then_opens, token_opens, or_reads_left, or_reads_right}
use Rattle.prism_exprs.proofs.Furthest.{Splits, furthest_fails}
use Rattle.prism_exprs.proofs.Loops.{same_is}
use Rattle.prism_exprs.proofs.Outer.{expressions_word}
use Rattle.prism_items.specs.Parts.{in_scope, ended_branches, ended_update, ended_updates, writes_on, branches_on, plain_front}
use Rattle.prism_items.proofs.Leading.{Leads, begin, step, same_leads, then_begins, then_dead, stops_by}
use Rattle.prism_items.proofs.Closing.{same_one, closed_one, closed_word}
use Rattle.prism_items.proofs.Declaring.{name_one, name_opens}
use Rattle.prism_items.proofs.Choosing.{not_here}
use Rattle.prism_items.proofs.Updating.{update_word, write_opens, update_one, several_branches_one, several_branches_word, Alone, Several, ended_alone, alone-ended, updates-or, alone_follows, dead_at, begins_at, begins_true, begins_open, begins_name, weighted_begins, several_at_end, several_at_prime, first_write, first_true, writes_word}

-- ---- where nothing has been read yet

none_read : {A : Type 0} {L M : Lang A} {more : TokenKind → Bool} (ts : List Lexeme) → (l : Leads more L ts M ts) → l.front ≡ []
none_read ts l = append_cancel_right l.front [] ts (sym l.parts)

dead_from : {A : Type 0} {L M : Lang A} {more : TokenKind → Bool} (ts v r : List Lexeme) → Leads more L ts M ts → next (v ++ r) ≡ next ts → Dead M more v r → Dead L more v r
dead_from {L = L} {more = more} ts v r l e d = let F : List Lexeme → Type 0 = λ u. Dead L more (u ++ v) r in subst F (none_read ts l) (l.dead v r e d)

begins_from : {A : Type 0} {L M : Lang A} {more : TokenKind → Bool} (ts v : List Lexeme) → Leads more L ts M ts → Begins M v → Begins L v
begins_from {L = L} ts v l b = let F : List Lexeme → Type 0 = λ u. Begins L (u ++ v) in subst F (none_read ts l) (l.begins v b)

split_at : (P Q : Lang (List Branch)) (u r : List Lexeme) → Dead P none u r → Begins Q u → Splits P Q none (u ++ r)
split_at P Q u r d b = record { before = u; rest = r; parts = refl; dead = d; begins = b }

-- ---- inside a write

write_past : (s : Scope) (o : Lexeme) (us : List Lexeme) → o.kind ≡ K.Symbol S.LeftParenthesis → starts (is_kind K.Ident) us ≡ false → Dead (in_scope write s) none (o ∷ []) us
unfolding write
write_past s o us e h = dead_at (o ∷ []) us (step _ _ (begin (in_scope write s) none (o ∷ us)) (token_one _) (token_reads o us refl e)) (not_here _ none K.Ident us (then_opens _ _ name_opens) refl h)

name_read : (i : Lexeme) (us : List Lexeme) → i.kind ≡ K.Ident → Reads name none (i ∷ us) (record { name = i.text; at = i.at }) us
unfolding name gives
name_read i us f = (step _ _ (begin name none (i ∷ us)) (token_one _) (token_reads i us refl f)).reads _ us (record { word = []; parts = refl; spells = (refl, refl); ends = none_ends us })

write_past_name : (s : Scope) (o i : Lexeme) (us : List Lexeme) → o.kind ≡ K.Symbol S.LeftParenthesis → i.kind ≡ K.Ident → starts (is_kind (K.Symbol S.Prime)) us ≡ false → Dead (in_scope write s) none (o ∷ i ∷ []) us
unfolding write
write_past_name s o i us e f h =
    dead_at (o ∷ i ∷ []) us (step _ _ (step _ _ (begin (in_scope write s) none (o ∷ i ∷ us)) (token_one _) (token_reads o (i ∷ us) refl e)) name_one (name_read i us f))
    (not_here _ none (K.Symbol S.Prime) us (then_opens _ _ (token_opens _)) refl h)

write_begins_name : (s : Scope) (o i : Lexeme) (us : List Lexeme) → o.kind ≡ K.Symbol S.LeftParenthesis → i.kind ≡ K.Ident → Begins (in_scope write s) (o ∷ i ∷ [])
unfolding write
write_begins_name s o i us e f =
    begins_at (o ∷ i ∷ []) us (step _ _ (step _ _ (begin (in_scope write s) none (o ∷ i ∷ us)) (token_one _) (token_reads o (i ∷ us) refl e)) name_one (name_read i us f))
    (then_word (token_word _) (λ b. then_word (token_word _) (λ c. then_word (expressions_word s) (λ e. then_word (token_word _) (λ d. gives_word _)))))

alone_dead : (s : Scope) (u r ts : List Lexeme) → starts (is_kind (K.Word W.True)) ts ≡ false → next (u ++ r) ≡ next ts → Dead (in_scope write s) none u r → Dead (Alone s) none u r
alone_dead s u r ts h e d = dead_from ts u r (first_write s ts h) e (then_dead _ _ u r (none_follows _ none) d)

-- ---- an update alone comes further

true_ends : (s : Scope) (t e : Lexeme) (us : List Lexeme) → t.kind ≡ K.Word W.True → e.kind ≡ K.Symbol S.Semicolon → Splits (Several s) (Alone s) none (t ∷ e ∷ us)
true_ends s t e us h k = split_at (Several s) (Alone s) (t ∷ []) (e ∷ us) (several_at_end s t e us h k) (begins_at (t ∷ []) (e ∷ us) (first_true s t (e ∷ us) h) (then_word (token_word _) (λ u. gives_word _)))

prime_stands : (s : Scope) (o i p : Lexeme) (us : List Lexeme) → is_kind (K.Word W.True) o.kind ≡ false → o.kind ≡ K.Symbol S.LeftParenthesis → i.kind ≡ K.Ident → p.kind ≡ K.Symbol S.Prime → Splits (Several s) (Alone s) none (o ∷ i ∷ p ∷ us)
prime_stands s o i p us n e f g =
    split_at (Several s) (Alone s) (o ∷ i ∷ []) (p ∷ us) (several_at_prime s o i p us e f g)
    (begins_from (o ∷ i ∷ p ∷ us) (o ∷ i ∷ []) (first_write s (o ∷ i ∷ p ∷ us) n) (then_begins _ _ (o ∷ i ∷ []) (writes_word s) (write_begins_name s o i (p ∷ us) e f)))

-- ---- several branches come further

at_true : (s : Scope) (t : Lexeme) (us : List Lexeme) → t.kind ≡ K.Word W.True → starts (is_kind (K.Symbol S.Semicolon)) us ≡ false → Splits (Alone s) (Several s) none (t ∷ us)
at_true s t us h k =
    split_at (Alone s) (Several s) (t ∷ []) us (dead_at (t ∷ []) us (first_true s t us h) (not_here _ none (K.Symbol S.Semicolon) us (then_opens _ _ (token_opens _)) refl k))
    (weighted_begins s (t ∷ []) (begins_true s t h))

at_open : (s : Scope) (o : Lexeme) (us : List Lexeme) → is_kind (K.Word W.True) o.kind ≡ false → o.kind ≡ K.Symbol S.LeftParenthesis → starts (is_kind K.Ident) us ≡ false → Splits (Alone s) (Several s) none (o ∷ us)
at_open s o us n e h = split_at (Alone s) (Several s) (o ∷ []) us (alone_dead s (o ∷ []) us (o ∷ us) n refl (write_past s o us e h)) (weighted_begins s (o ∷ []) (begins_open s o e))

at_name : (s : Scope) (o i : Lexeme) (us : List Lexeme) → is_kind (K.Word W.True) o.kind ≡ false → o.kind ≡ K.Symbol S.LeftParenthesis → i.kind ≡ K.Ident → starts (is_kind (K.Symbol S.Prime)) us ≡ false → Splits (Alone s) (Several s) none (o ∷ i ∷ us)
at_name s o i us n e f h =
    split_at (Alone s) (Several s) (o ∷ i ∷ []) us (alone_dead s (o ∷ i ∷ []) us (o ∷ i ∷ us) n refl (write_past_name s o i us e f h)) (weighted_begins s (o ∷ i ∷ []) (begins_name s o i e f))

several_word : (s : Scope) → HasWord (Several s)
several_word s = closed_word _ (several_branches_word s)

at_other : (s : Scope) (ts : List Lexeme) → starts (is_kind (K.Word W.True)) ts ≡ false → starts (is_kind (K.Symbol S.LeftParenthesis)) ts ≡ false → Splits (Alone s) (Several s) none ts
at_other s ts e f = split_at (Alone s) (Several s) [] ts (alone_dead s [] ts ts e refl (not_here _ none (K.Symbol S.LeftParenthesis) ts (write_opens s) refl f)) (several_word s)

-- ---- by three tokens

pub plain_splits : (s : Scope) (ts : List Lexeme) → plain_front ts ≡ true → Splits (Several s) (Alone s) none ts
plain_splits s [] e = absurd cc
plain_splits s (t ∷ []) e = absurd cc
plain_splits s (t ∷ u ∷ ts) e = two (is_kind (K.Word W.True) t.kind) refl (is_kind (K.Symbol S.LeftParenthesis) t.kind) refl (is_kind K.Ident u.kind) refl ts e
  where
    two : (a : Bool) → is_kind (K.Word W.True) t.kind ≡ a → (b : Bool) → is_kind (K.Symbol S.LeftParenthesis) t.kind ≡ b → (c : Bool) → is_kind K.Ident u.kind ≡ c
        → (ts : List Lexeme) → cond a (is_kind (K.Symbol S.Semicolon) u.kind) ((b && c) && starts (is_kind (K.Symbol S.Prime)) ts) ≡ true → Splits (Several s) (Alone s) none (t ∷ u ∷ ts)
    two true f b g c h ts e = true_ends s t u ts (same_is t.kind _ f) (same_is u.kind _ e)
    two false f true g true h [] e = absurd cc
    two false f true g true h (p ∷ ts) e = prime_stands s t u p ts f (same_is t.kind _ g) (same_is u.kind _ h) (same_is p.kind _ e)
    two false f true g false h ts e = absurd cc
    two false f false g c h ts e = absurd cc

pub other_splits : (s : Scope) (ts : List Lexeme) → plain_front ts ≡ false → Splits (Alone s) (Several s) none ts
other_splits s [] e = at_other s [] refl refl
other_splits s (t ∷ []) e = one (is_kind (K.Word W.True) t.kind) refl (is_kind (K.Symbol S.LeftParenthesis) t.kind) refl
  where
    one : (a : Bool) → is_kind (K.Word W.True) t.kind ≡ a → (b : Bool) → is_kind (K.Symbol S.LeftParenthesis) t.kind ≡ b → Splits (Alone s) (Several s) none (t ∷ [])
    one true f b g = at_true s t [] (same_is t.kind _ f) refl
    one false f true g = at_open s t [] f (same_is t.kind _ g) refl
    one false f false g = at_other s (t ∷ []) f g
other_splits s (t ∷ u ∷ ts) e = two (is_kind (K.Word W.True) t.kind) refl (is_kind (K.Symbol S.LeftParenthesis) t.kind) refl (is_kind K.Ident u.kind) refl e
  where
    two : (a : Bool) → is_kind (K.Word W.True) t.kind ≡ a → (b : Bool) → is_kind (K.Symbol S.LeftParenthesis) t.kind ≡ b → (c : Bool) → is_kind K.Ident u.kind ≡ c
        → cond a (is_kind (K.Symbol S.Semicolon) u.kind) ((b && c) && starts (is_kind (K.Symbol S.Prime)) ts) ≡ false → Splits (Alone s) (Several s) none (t ∷ u ∷ ts)
    two true f b g c h e = at_true s t (u ∷ ts) (same_is t.kind _ f) e
    two false f true g true h e = at_name s t u ts f (same_is t.kind _ g) (same_is u.kind _ h) e
    two false f true g false h e = at_open s t (u ∷ ts) f (same_is t.kind _ g) h
    two false f false g c h e = at_other s (t ∷ u ∷ ts) f g

-- ---- where reading halts

split_halts : {A : Type 0} (P Q : Lang A) (ts r : List Lexeme) (s : Scope) (c : Cause) → Splits P Q none ts → Halts s c Q none ts r → (Halts s c (P or Q) none ts r) × (Halts s c (Q or P) none ts r)
unfolding ◌or◌
split_halts P Q ts r s c p h =
    let b = h.begins in (
      record {
        before = h.before;
        parts = h.parts;
        begins = (b.0, b.1, inr b.2);
        dead = λ t.
            let f = (furthest_fails P Q none ts r p (record { before = h.before; parts = h.parts; begins = h.begins; dead = h.dead t })).0 in
            let F : List Lexeme → Type 0 = λ u. Dead (P or Q) none u r in
            subst F (append_cancel_right f.before h.before r (sym f.parts ∙ h.parts)) f.dead;
        goes = λ n. let g = h.goes n in (g.0, g.1, g.2, (g.3.0, g.3.1, inr g.3.2));
      },
      record {
        before = h.before;
        parts = h.parts;
        begins = (b.0, b.1, inl b.2);
        dead = λ t.
            let f = (furthest_fails P Q none ts r p (record { before = h.before; parts = h.parts; begins = h.begins; dead = h.dead t })).1 in
            let F : List Lexeme → Type 0 = λ u. Dead (Q or P) none u r in
            subst F (append_cancel_right f.before h.before r (sym f.parts ∙ h.parts)) f.dead;
        goes = λ n. let g = h.goes n in (g.0, g.1, g.2, (g.3.0, g.3.1, inl g.3.2));
      },
    )

alone_stops : (s : Scope) (ts : List Lexeme) (e : Stop) → plain_front ts ≡ true → StopsIn s (Alone s) none ts e → StopsIn s (Alone s or Several s) none ts e
alone_stops s ts Memory h p = tt
alone_stops s ts (At r c) h p = (split_halts (Several s) (Alone s) ts (seen r) s c (plain_splits s ts h) p).1

several_stops : (s : Scope) (ts : List Lexeme) (e : Stop) → plain_front ts ≡ false → StopsIn s (Several s) none ts e → StopsIn s (Alone s or Several s) none ts e
several_stops s ts Memory h p = tt
several_stops s ts (At r c) h p = (split_halts (Alone s) (Several s) ts (seen r) s c (other_splits s ts h) p).0

-- ---- updates, and the semicolon

pub ended_alone_reads : (s : Scope) (ts us : List Lexeme) (x : List Branch) → Reads (ended_alone s) none ts x us → Reads (in_scope ended_updates s) none ts x us
ended_alone_reads s ts us x p = same_reads (updates-or s) (or_reads_left _ _ (same_reads (alone-ended s) p))

pub ended_alone_stops : (s : Scope) (ts : List Lexeme) (e : Stop) → plain_front ts ≡ true → StopsIn s (ended_alone s) none ts e → StopsIn s (in_scope ended_updates s) none ts e
ended_alone_stops s ts e h p = stops_by s e (same_leads none ts (updates-or s)) (alone_stops s ts e h (stops_by s e (same_leads none ts (alone-ended s)) p))

pub ended_several_reads : (s : Scope) (ts us : List Lexeme) (x : List Branch) → Reads (Several s) none ts x us → Reads (in_scope ended_updates s) none ts x us
ended_several_reads s ts us x p = same_reads (updates-or s) (or_reads_right _ _ p)

pub ended_several_stops : (s : Scope) (ts : List Lexeme) (e : Stop) → plain_front ts ≡ false → StopsIn s (Several s) none ts e → StopsIn s (in_scope ended_updates s) none ts e
ended_several_stops s ts e h p = stops_by s e (same_leads none ts (updates-or s)) (several_stops s ts e h p)

-- what a function returned
pub ended_update_parses : {X : Type 0} (view : X → List Branch) (ts : List Lexeme) (r : Result (X × Tokens) Stop) → plain_front ts ≡ true → ParsesIn view (in_scope ended_update) none ts r → ParsesIn view (in_scope ended_updates) none ts r
ended_update_parses view ts (Ok y) h p = λ s. ended_alone_reads s _ _ _ (p s)
ended_update_parses view ts (Err e) h p = λ s. ended_alone_stops s _ _ h (p s)

pub ended_branches_parses : {X : Type 0} (view : X → List Branch) (ts : List Lexeme) (r : Result (X × Tokens) Stop) → plain_front ts ≡ false → ParsesIn view (in_scope ended_branches) none ts r → ParsesIn view (in_scope ended_updates) none ts r
ended_branches_parses view ts (Ok y) h p = λ s. ended_several_reads s _ _ _ (p s)
ended_branches_parses view ts (Err e) h p = λ s. ended_several_stops s _ _ h (p s)

split_apart : {A : Type 0} (P Q : Lang A) (ts w z : List Lexeme) (x : A) → Splits P Q none ts → ts ≡ w ++ z → P w x → Ends none z → ⊥
split_apart P Q ts w z x p e h i = p.dead p.rest w z x refl (sym p.parts ∙ e) h i

either_one : {A : Type 0} (P Q : Lang A) (test : List Lexeme → Bool) → ((ts : List Lexeme) → test ts ≡ true → Splits Q P none ts) → ((ts : List Lexeme) → test ts ≡ false → Splits P Q none ts) → IsOne P none → IsOne Q none → IsOne (P or Q) none
unfolding ◌or◌
either_one {A} P Q test p q l m = record { one = go }
  where
    apart : (b : Bool) (w z v y : List Lexeme) (a c : A) → test (w ++ z) ≡ b → P w a → Q v c → w ++ z ≡ v ++ y → Ends none z → Ends none y → ⊥
    apart true w z v y a c t g h e i j = split_apart Q P (w ++ z) v y c (p (w ++ z) t) e h j
    apart false w z v y a c t g h e i j = split_apart P Q (w ++ z) w z a (q (w ++ z) t) refl g i

    go : (w z v y : List Lexeme) (a b : A) → P w a ⊎ Q w a → P v b ⊎ Q v b → w ++ z ≡ v ++ y → Ends none z → Ends none y → (w ≡ v) × (a ≡ b)
    go w z v y a b (inl g) (inl h) e i j = l.one w z v y a b g h e i j
    go w z v y a b (inr g) (inr h) e i j = m.one w z v y a b g h e i j
    go w z v y a b (inl g) (inr h) e i j = absurd (apart (test (w ++ z)) w z v y a b refl g h e i j)
    go w z v y a b (inr g) (inl h) e i j = absurd (apart (test (v ++ y)) v y w z b a refl h g (sym e) j i)

pub ended_updates_one : (s : Scope) → IsOne (in_scope ended_updates s) none
ended_updates_one s =
    same_one (updates-or s) (either_one (Alone s) (Several s) plain_front (plain_splits s) (other_splits s)
    (same_one (alone-ended s) (then_one writes_on (update_one s) (λ ws. step_one _ (token_one _) (λ t. gives_one _ none)) alone_follows)) (closed_one _ branches_on (several_branches_one s) refl))

pub updates_word : (s : Scope) → HasWord (in_scope updates s)
unfolding updates
updates_word s = or_word _ _ (then_word (update_word s) (λ ws. gives_word _))
