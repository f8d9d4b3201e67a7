-- Lists of properties, and whole files.
use Rattle.std.proofs.Common.{◌≡◌, ◌+◌, ◌<◌, Bool, true, false, List, [], ◌∷◌, ◌++◌, Option, Some, None, refl, sym, ap, subst, ◌∙◌, arith, inl, inr, append-nil, append_assoc, length}
use Rattle.std.specs.Prelude.{◌⊎◌, if◌then◌else◌, Result, Err, IsErr, IsErrAnd}
use Rattle.std.proofs.lemmas.Result.{err_from_is_err_and}
use Rattle.std.proofs.lemmas.List.{append_cancel_right}
use Rattle.prism_lex.specs.declared.token.TokenKind.{TokenKind}
use Rattle.prism_lex.specs.declared.token.TokenKind.TheVariants as K
use Rattle.prism_lex.specs.declared.symbols.Symbol.TheVariants as S
use Rattle.prism_lex.specs.Tokens.{Lexeme}
use Rattle.prism_tree.specs.Lang.{Lang, gives, ◌>>=◌, ◌or◌, optional, many, folding, front, with_last, Begins}
use Rattle.prism_tree.specs.Grammar.{symbol}
use Rattle.prism_exprs.specs.declared.tokens.Cause.{Cause}
use Rattle.prism_exprs.specs.declared.tokens.Cause.TheVariants as C
use Rattle.prism_exprs.specs.declared.tokens.Stop.{Stop}
use Rattle.prism_exprs.specs.declared.tokens.Stop.TheVariants.{Memory, At}
use Rattle.prism_exprs.specs.Kept.{seen}
use Rattle.prism_exprs.specs.Reading.{Ends, none, next, Reads, starts, is_kind}
use Rattle.prism_exprs.specs.Scope.{Scope, IsStopped, IsPassed, Halts, StopsIn}
use Rattle.prism_exprs.proofs.Laws.{IsOne, HasWord, then_one, then_word, step_one, token_one, gives_one, gives_word, none_follows, token_reads}
use Rattle.prism_exprs.proofs.Choice.{Barred, Opens, token_opens, then_opens, many_one, folding_word, or_word}
use Rattle.prism_exprs.proofs.Cut.{gives_or_one}
use Rattle.prism_exprs.proofs.Exprs.{gives_follows}
use Rattle.prism_exprs.proofs.Furthest.{or_then}
use Rattle.prism_exprs.proofs.Loops.{starts_is, same_is, folding_reads}
use Rattle.prism_items.proofs.Leading.{Leads, leads_on, same_leads, or_left, or_right, step, then_halts, halts_by, another}
use Rattle.prism_exprs.proofs.Grouping.{assoc, same_then, same_trans, gives_then}
use Rattle.prism_items.proofs.Choosing.{not_here}
use Rattle.prop_grammar.specs.Syntax.{WrittenProperty}
use Rattle.prop_grammar.specs.declared.syntax.Written.{Written}
use Rattle.prop_grammar.specs.Grammar
use Rattle.prop_reader.specs.Parts.{in_scope, behind_semicolon, properties_in, IsWholeFile, Refuses, PropertiesIn}
use Rattle.prop_reader.proofs.Pieces
use Rattle.prop_reader.proofs.Pieces.{BeginsTitled, titled, titled_asked}
use Rattle.prism_items.specs.Files.{plain}
use Rattle.prism_parse.proofs.Stopped.{stopped}
use Rattle.prism_items.proofs.Filing.{some_left}
use Rattle.prism_exprs.specs.declared.tokens.Tokens.{Tokens}

-- nothing but the end
abbrev pub any : TokenKind → Bool
any k = true

abbrev semicolon : TokenKind
semicolon = K.Symbol S.Semicolon

abbrev pub property_in : Scope → Lang WrittenProperty
property_in s = in_scope Grammar.property s

abbrev closes : WrittenProperty → Lang WrittenProperty
closes p = optional (symbol S.Semicolon) >>= λ o. gives p

no_semicolon : (k : TokenKind) → k ≡ semicolon → BeginsTitled k → ⊥
no_semicolon k e p = let n = titled_asked k p in let m = ap Pieces.asked e in absurd (omega (arith, n, m))

property_opens : (s : Scope) → Opens (property_in s) BeginsTitled
unfolding Grammar.property
property_opens s = then_opens _ _ (titled s).opens

optional_one : IsOne (optional (symbol S.Semicolon)) (is_kind semicolon)
optional_one =
    gives_or_one None (λ j. j ≡ semicolon) (then_opens _ _ (token_opens semicolon)) (λ k e. ap (is_kind semicolon) e)
    (step_one _ (token_one semicolon) (λ t. gives_one (Some t) (is_kind semicolon)))

property_one : (s : Scope) → IsOne (property_in s) (is_kind semicolon)
unfolding Grammar.property
property_one s = step_one _ (titled s).one (λ p. then_one (is_kind semicolon) optional_one (λ o. gives_one p (is_kind semicolon)) (gives_follows (λ o. p) (is_kind semicolon)))

apart_test : (k : TokenKind) → BeginsTitled k → is_kind semicolon k ≡ false
apart_test k p = by_test (is_kind semicolon k) refl
  where
    by_test : (b : Bool) → is_kind semicolon k ≡ b → b ≡ false
    by_test true e = absurd (no_semicolon k (same_is k semicolon e) p)
    by_test false e = refl

pub properties_one : (s : Scope) → IsOne (properties_in s) any
unfolding Grammar.properties
properties_one s = many_one (property_opens s) (record { again = λ k p. refl; apart = apart_test; within = λ k e. absurd cc }) (property_one s)

-- ---- behind a property

folding_off : (s : Scope) (xs : List WrittenProperty) (ts : List Lexeme) → starts (is_kind semicolon) ts ≡ true → Barred (front (property_in s) xs) any ts
unfolding folding ◌>>=◌ many gives
folding_off s xs ts e other w z x n f h g = by_list h.0 h.1 h.2 h.3 h.4 h.5.0
  where
    first : (t : Lexeme) × (us : List Lexeme) × (ts ≡ t ∷ us) × (t.kind ≡ semicolon)
    first = starts_is semicolon ts e

    front_is : (t : Lexeme) (us : List Lexeme) → other ≡ t ∷ us → t.kind ≡ semicolon
    front_is t us p =
        let q : Some t ≡ Some first.0 = sym (ap next p) ∙ n ∙ ap next first.2 in
        let r : t ≡ first.0 = cc in
        ap (λ (u : Lexeme). u.kind) r ∙ first.3

    nothing : (z : List Lexeme) → other ≡ z → Ends any z → ⊥
    nothing [] p q = let r : None ≡ Some first.0 = sym (ap next p) ∙ n ∙ ap next first.2 in absurd cc
    nothing (t ∷ z) p q = absurd cc

    by_list : (ys : List WrittenProperty) (a b : List Lexeme) → w ≡ a ++ b → many (property_in s) a ys → b ≡ [] → ⊥
    by_list [] a b p m q = nothing z (f ∙ ap (λ (u : List Lexeme). u ++ z) (p ∙ ap (λ (u : List Lexeme). u ++ b) m ∙ q)) g
    by_list (y ∷ ys) a b p m q =
        let o = property_opens s m.0 y m.3 in
        no_semicolon (o.0).kind (front_is o.0 (((o.1 ++ m.1) ++ b) ++ z) (f ∙ ap (λ (u : List Lexeme). u ++ z) (p ∙ ap (λ (u : List Lexeme). u ++ b) (m.2 ∙ ap (λ (u : List Lexeme). u ++ m.1) o.2)))) o.3

-- what is left behind a property
abbrev pub left : Scope → List WrittenProperty → Lang (List WrittenProperty)
left s xs = front (property_in s) xs

abbrev missing_one : Lang (Option Lexeme)
missing_one = gives None

abbrev one_there : Lang (Option Lexeme)
one_there = symbol S.Semicolon >>= λ x. gives (Some x)

semicolon_leads : (s : Scope) (xs : List WrittenProperty) (ts : List Lexeme) → Leads any (optional (symbol S.Semicolon) >>= λ o. left s xs) ts (left s xs) (behind_semicolon ts)
semicolon_leads s xs ts = leads_on (same_leads any ts (or_then _ _ _)) (by_list ts)
  where
    missing : (ts : List Lexeme) → starts (is_kind semicolon) ts ≡ false → Leads any ((missing_one >>= λ o. left s xs) or (one_there >>= λ o. left s xs)) ts (left s xs) ts
    missing ts e = leads_on (or_left _ _ any ts (not_here _ any semicolon ts (then_opens _ _ (then_opens _ _ (token_opens semicolon))) refl e)) (same_leads any ts (gives_then None _))

    there : (t : Lexeme) (us : List Lexeme) → is_kind semicolon t.kind ≡ true → Leads any ((missing_one >>= λ o. left s xs) or (one_there >>= λ o. left s xs)) (t ∷ us) (left s xs) us
    there t us e =
        let off = folding_off s xs (t ∷ us) e in
        let b : Barred (missing_one >>= λ o. left s xs) any (t ∷ us) = λ other w z x n f h g. off other w z x n f ((gives_then None (λ o. left s xs)).to w x h) g in
        let l = leads_on (or_right (missing_one >>= λ o. left s xs) (one_there >>= λ o. left s xs) any (t ∷ us) b) (same_leads any (t ∷ us) (same_trans (assoc (symbol S.Semicolon) (λ x. gives (Some x)) (λ o. left s xs)) (same_then (symbol S.Semicolon) _ _ (λ x. gives_then (Some x) (λ o. left s xs))))) in
        step (symbol S.Semicolon) (λ x. left s xs) l (token_one semicolon) (read t us e)
      where
        read : (t : Lexeme) (us : List Lexeme) → is_kind semicolon t.kind ≡ true → Reads (symbol S.Semicolon) none (t ∷ us) t us
        read t us e = token_reads t us refl (same_is t.kind semicolon e)

    by_test : (t : Lexeme) (us : List Lexeme) (b : Bool) → is_kind semicolon t.kind ≡ b → Leads any ((missing_one >>= λ o. left s xs) or (one_there >>= λ o. left s xs)) (t ∷ us) (left s xs) (if b then us else t ∷ us)
    by_test t us true e = there t us e
    by_test t us false e = missing (t ∷ us) e

    by_list : (ts : List Lexeme) → Leads any ((missing_one >>= λ o. left s xs) or (one_there >>= λ o. left s xs)) ts (left s xs) (behind_semicolon ts)
    by_list [] = missing [] refl
    by_list (t ∷ us) = by_test t us (is_kind semicolon t.kind) refl

-- the next property, and what is left behind it
abbrev pub next_titled : Scope → List WrittenProperty → Lang (List WrittenProperty)
next_titled s xs = in_scope Grammar.titled s >>= λ p. optional (symbol S.Semicolon) >>= λ o. left s (xs ++ p ∷ [])

pub titled_next : (s : Scope) (xs : List WrittenProperty) {ts us : List Lexeme} → Leads any (properties_in s) ts (left s xs) us → starts any us ≡ true → Leads any (properties_in s) ts (next_titled s xs) us
unfolding Grammar.property
titled_next s xs {ts} {us} l e =
    leads_on (leads_on l (another with_last (property_in s) xs e)) (same_leads any us
    (same_trans (assoc (in_scope Grammar.titled s) closes (λ p. left s (xs ++ p ∷ []))) (same_then (in_scope Grammar.titled s) _ _ (λ p.
    same_trans (assoc (optional (symbol S.Semicolon)) (λ o. gives p) (λ q. left s (xs ++ q ∷ []))) (same_then (optional (symbol S.Semicolon)) _ _ (λ o. gives_then p (λ q. left s (xs ++ q ∷ []))))))))

pub one_more : (s : Scope) (xs : List WrittenProperty) (p : WrittenProperty) {ts us vs ws : List Lexeme} → Leads any (properties_in s) ts (left s xs) us → starts any us ≡ true → Reads (in_scope Grammar.titled s) none us p vs → ws ≡ behind_semicolon vs →
    Leads any (properties_in s) ts (left s (xs ++ p ∷ [])) ws
one_more s xs p {ts} {us} {vs} {ws} l e r q =
    let F : List Lexeme → Type 0 = λ u. Leads any (properties_in s) ts (left s (xs ++ p ∷ [])) u in
    subst F (sym q) (leads_on (step (in_scope Grammar.titled s) (λ p. optional (symbol S.Semicolon) >>= λ o. left s (xs ++ p ∷ [])) (titled_next s xs l e) (titled s).one r) (semicolon_leads s (xs ++ p ∷ []) vs))

next_word : (s : Scope) (xs : List WrittenProperty) (p : WrittenProperty) → HasWord (optional (symbol S.Semicolon) >>= λ o. left s (xs ++ p ∷ []))
next_word s xs p = then_word (or_word _ _ (gives_word None)) (λ o. folding_word with_last (property_in s) (xs ++ p ∷ []))

pub titled_halts : (s : Scope) (xs : List WrittenProperty) (c : Cause) {ts us r : List Lexeme} → Leads any (properties_in s) ts (left s xs) us → starts any us ≡ true → Halts s c (in_scope Grammar.titled s) none us r → Halts s c (properties_in s) any ts r
titled_halts s xs c l e h = halts_by s c _ (titled_next s xs l e) (then_halts (in_scope Grammar.titled s) (λ p. optional (symbol S.Semicolon) >>= λ o. left s (xs ++ p ∷ [])) s c (next_word s xs) (none_follows _ any) h)

pub shorter : (vs : List Lexeme) → length (behind_semicolon vs) < length vs + 1
shorter [] = omega arith
shorter (t ∷ vs) = by_test (is_kind semicolon t.kind)
  where
    by_test : (b : Bool) → length (if b then vs else t ∷ vs) < length (t ∷ vs) + 1
    by_test true = omega arith
    by_test false = omega arith

-- ---- whole files

pub whole_file : (ts us : List Lexeme) (xs : List WrittenProperty) → ((s : Scope) → Leads any (properties_in s) ts (left s xs) us) → us ≡ [] → IsWholeFile ts xs
whole_file ts us xs l e s = record { spells = spelled s (read s); only = λ y h. ((properties_one s).one ts [] ts [] y xs h (spelled s (read s)) refl tt tt).1 }
  where
    ends : Ends any us
    ends = let F : List Lexeme → Type 0 = λ u. Ends any u in subst F (sym e) tt

    read : (s : Scope) → Reads (properties_in s) any ts xs us
    read s = (l s).reads xs us (folding_reads with_last (property_in s) xs us ends)

    spelled : (s : Scope) → Reads (properties_in s) any ts xs us → properties_in s ts xs
    spelled s r =
        let F : List Lexeme → Type 0 = λ u. properties_in s u xs in
        subst F (sym (r.parts ∙ ap (λ (u : List Lexeme). r.word ++ u) e ∙ append-nil r.word)) r.spells

pub refused : (ts r : List Lexeme) (c : Cause) → ((s : Scope) → Halts s c (properties_in s) any ts r) → Refuses ts r c
refused ts r c h = record {
  before = (h plain).before;
  parts = (h plain).parts;
  begins = λ s. moved s (h s).begins;
  ends = λ e s x p. ends e s x p (is_deep c);
  first = λ s i t others e b.
      (h s).dead i (t ∷ b.0) ((h s).before ++ t ∷ b.0) [] b.1 (sym (ap next e)) (sym (append-nil ((h s).before ++ t ∷ b.0))) (back s t b) tt;
  goes = λ s i. let g = (h s).goes i in (g.0, g.1, g.2, (let F : List Lexeme → Type 0 = λ u. Begins (properties_in s) (u ++ g.0 ∷ []) in subst F (same s) g.3));
}
  where
    same : (s : Scope) → (h s).before ≡ (h plain).before
    same s = append_cancel_right (h s).before (h plain).before r (sym (h s).parts ∙ (h plain).parts)

    moved : (s : Scope) → Begins (properties_in s) (h s).before → Begins (properties_in s) (h plain).before
    moved s b = let F : List Lexeme → Type 0 = λ u. Begins (properties_in s) u in subst F (same s) b

    back : (s : Scope) (t : Lexeme) (b : Begins (properties_in s) ((h plain).before ++ t ∷ [])) → properties_in s ((h s).before ++ t ∷ b.0) b.1
    back s t b =
        let F : List Lexeme → Type 0 = λ u. properties_in s u b.1 in
        subst F (append_assoc (h plain).before (t ∷ []) b.0 ∙ ap (λ (u : List Lexeme). u ++ t ∷ b.0) (sym (same s))) b.2

    is_deep : (c : Cause) → (c ≡ C.Deep) ⊎ (c ≡ C.Deep → ⊥)
    is_deep C.Deep = inl refl
    is_deep C.Form = inr (λ e. cc)
    is_deep C.Item = inr (λ e. cc)
    is_deep C.Type = inr (λ e. cc)

    ends : r ≡ [] → (s : Scope) (x : List WrittenProperty) → properties_in s ts x → (c ≡ C.Deep) ⊎ (c ≡ C.Deep → ⊥) → ⊥
    ends e s x p (inl d) =
        let F : Cause → Type 0 = λ k. IsPassed k plain in
        let g = (h plain).goes (subst F (sym d) refl) in
        let i : [] ≡ g.0 ∷ g.1 = sym e ∙ g.2 in
        absurd cc
    ends e s x p (inr n) =
        let q : Scope = record { counted = s.counted; int_too = false } in
        let F : List Lexeme → Type 0 = λ u. IsStopped c q u in
        let whole : (h q).before ++ [] ≡ ts ++ [] = ap (λ (u : List Lexeme). (h q).before ++ u) (sym e) ∙ sym (h q).parts ∙ sym (append-nil ts) in
        (h q).dead (subst F (sym e) (stopped c q [] n (λ i. refl))) [] ts [] x (sym (ap next e)) whole p tt

pub leaves_whole : (ts : List Lexeme) (r : Result (List Written) Stop) (e : Stop) → IsErr r × IsErrAnd r (λ x. x ≡ e) → PropertiesIn ts (Err e) → PropertiesIn ts r
leaves_whole ts r e h p =
    let q = err_from_is_err_and r h.1 in
    rw (q.1, q.2) p

pub stops_whole : (ts us : List Lexeme) (xs : List WrittenProperty) (e : Stop) → ((s : Scope) → Leads any (properties_in s) ts (left s xs) us) → starts any us ≡ true → ((s : Scope) → StopsIn s (in_scope Grammar.titled s) none us e) → PropertiesIn ts (Err e)
stops_whole ts us xs Memory l n h = tt
stops_whole ts us xs (At r c) l n h = refused ts (seen r) c (λ s. titled_halts s xs c (l s) n (h s))

pub some_any : (t : Tokens) → (length t.found.now ≡ 0 → ⊥) → starts any (seen t) ≡ true
some_any t n = let first = some_left t n in ap (starts any) first.2
