-- The reason that is told of a token is the reason why it cannot stand where reading stopped.
use Rattle.std.proofs.Common.{◌≡◌, zero, suc, Bool, true, false, List, [], ◌∷◌, ◌++◌, refl, sym, ap, subst, ◌∙◌, arith, inl, inr, append-nil}
use Rattle.std.specs.Prelude.{◌⊎◌, ◌&&◌, if◌then◌else◌, Contains}
use Rattle.std.proofs.lemmas.Bool.{and_parts, and_from}
use Rattle.std.proofs.lemmas.List.Elements.{Contains-push}
use Rattle.bridge_io.specs.declared.reason.Reason.{Reason}
use Rattle.bridge_io.specs.declared.reason.Reason.TheVariants.{Syntax, PropertyLeftOut}
use Rattle.prism_lex.specs.declared.token.TokenKind.{TokenKind}
use Rattle.prism_lex.specs.declared.token.TokenKind.TheVariants as K
use Rattle.prism_lex.specs.declared.words.Reserved.{Reserved}
use Rattle.prism_lex.specs.declared.words.Reserved.TheVariants as W
use Rattle.prism_lex.specs.declared.symbols.Symbol.{Symbol as PrismSymbol}
use Rattle.prism_lex.specs.declared.symbols.Symbol.TheVariants as S
use Rattle.prism_lex.specs.Tokens.{Lexeme}
use Rattle.prism_tree.specs.Lang.{Begins}
use Rattle.prism_exprs.specs.declared.tokens.Cause.{Cause}
use Rattle.prism_exprs.specs.declared.tokens.Cause.TheVariants as C
use Rattle.prism_exprs.specs.Scope.{IsPassed, GoesOn}
use Rattle.prop_grammar.specs.Faults.{file, left_out_words, query_words, IsInQuery, IsBehindUnbounded, IsLeftOut, a_left_out_form, a_nested_query, another_bound, IsReason, too_deep, left_out, no_form, at_token, at_end}
use Rattle.prism_parse.proofs.Told.{all_contained, ends_some, ends_last}
use Rattle.prism_parse.proofs.Stopped.{limited, stopped, stopped_limited}
use Rattle.prop_reader.specs.Parts.{properties_in}
use Rattle.prop_reader.specs.Reasons.{is_left_out, is_query, is_unbounded, bracketed, in_query_from, in_query, behind_unbounded, left_out_if, is_at_most, form_reason, reason_at, RefusedAtToken, RefusedAtEnd}
use Rattle.prism_items.specs.Files.{plain}

-- ---- words

abbrev of_word : (Reserved → Bool) → TokenKind → Bool
of_word p (K.Word w) = p w
of_word p k = false

left_out_contains : (w : Reserved) → is_left_out w ≡ true → Contains left_out_words (K.Word w)
left_out_contains W.XWord e = (0, omega arith, refl)
left_out_contains W.SWord e = (1, omega arith, refl)
left_out_contains W.CWord e = (2, omega arith, refl)
left_out_contains W.IWord e = (3, omega arith, refl)
left_out_contains W.Const e = (4, omega arith, refl)
left_out_contains W.Label e = (5, omega arith, refl)
left_out_contains W.Formula e = (6, omega arith, refl)
left_out_contains W.Filter e = (7, omega arith, refl)
left_out_contains w e = absurd cc

query_contains : (w : Reserved) → is_query w ≡ true → Contains query_words (K.Word w)
query_contains W.PWord e = (0, omega arith, refl)
query_contains W.RWord e = (1, omega arith, refl)
query_contains W.Pmax e = (2, omega arith, refl)
query_contains W.Pmin e = (3, omega arith, refl)
query_contains W.Rmax e = (4, omega arith, refl)
query_contains W.Rmin e = (5, omega arith, refl)
query_contains w e = absurd cc

at_most_is : (s : PrismSymbol) → is_at_most s ≡ true → s ≡ S.AtMost
at_most_is S.AtMost e = refl
at_most_is s e = absurd cc

unbounded_is : (k : TokenKind) → is_unbounded k ≡ true → (k ≡ K.Word W.GWord) ⊎ (k ≡ K.Word W.WWord)
unbounded_is (K.Word W.GWord) e = inl refl
unbounded_is (K.Word W.WWord) e = inr refl
unbounded_is k e = absurd cc

-- ---- the last bracket

-- what a kind is to a bracket
data Bracket (k : TokenKind) : Type 0 where
  left_one : k ≡ K.Symbol S.LeftBracket → Bracket k
  right_one : k ≡ K.Symbol S.RightBracket → Bracket k
  none_such : ((b : Bool) → bracketed b k ≡ b) → (k ≡ K.Symbol S.RightBracket → ⊥) → Bracket k

bracket : (k : TokenKind) → Bracket k
bracket (K.Symbol S.LeftBracket) = left_one refl
bracket (K.Symbol S.RightBracket) = right_one refl
bracket (K.Symbol s) = none_such (λ b. refl) (λ e. cc)
bracket (K.Word w) = none_such (λ b. refl) (λ e. cc)
bracket K.Ident = none_such (λ b. refl) (λ e. cc)
bracket K.Quoted = none_such (λ b. refl) (λ e. cc)
bracket (K.Number d) = none_such (λ b. refl) (λ e. cc)
bracket K.End = none_such (λ b. refl) (λ e. cc)

abbrev NoneRight : List Lexeme → Type 0
NoneRight us = (t : Lexeme) → Contains us t → t.kind ≡ K.Symbol S.RightBracket → ⊥

none_right : (u : Lexeme) (us : List Lexeme) → (u.kind ≡ K.Symbol S.RightBracket → ⊥) → NoneRight us → NoneRight (u ∷ us)
none_right u us n h t (zero, l, e) k = n (ap (λ (x : Lexeme). x.kind) e ∙ k)
none_right u us n h t (suc i, l, e) k = h t (i, omega (arith, l), e) k

inside_sound : (b : Bool) (us : List Lexeme) → in_query_from b us ≡ true → IsInQuery us ⊎ ((b ≡ true) × NoneRight us)
inside_sound b [] e = inr (e, λ t c k. absurd (omega (arith, c.1)))
inside_sound b (u ∷ us) e = by_bracket (bracket u.kind) (inside_sound (bracketed b u.kind) us e)
  where
    by_bracket : Bracket u.kind → IsInQuery us ⊎ ((bracketed b u.kind ≡ true) × NoneRight us) → IsInQuery (u ∷ us) ⊎ ((b ≡ true) × NoneRight (u ∷ us))
    by_bracket k (inl q) = inl (record { before = u ∷ q.before; bracket = q.bracket; behind = q.behind; parts = ap (λ (v : List Lexeme). u ∷ v) q.parts; opens = q.opens; stays = q.stays })
    by_bracket (left_one k) (inr q) = inl (record { before = []; bracket = u; behind = us; parts = refl; opens = k; stays = q.1 })
    by_bracket (right_one k) (inr q) = let f : bracketed b (K.Symbol S.RightBracket) ≡ true = sym (ap (bracketed b) k) ∙ q.0 in absurd cc
    by_bracket (none_such k n) (inr q) = inr (sym (k b) ∙ q.0, none_right u us n q.1)

keeps : (k : TokenKind) → Bracket k → (k ≡ K.Symbol S.RightBracket → ⊥) → bracketed true k ≡ true
keeps k (left_one e) n = ap (bracketed true) e
keeps k (right_one e) n = absurd (n e)
keeps k (none_such h m) n = h true

stays_inside : (us : List Lexeme) → NoneRight us → in_query_from true us ≡ true
stays_inside [] h = refl
stays_inside (u ∷ us) h =
    ap (λ (x : Bool). in_query_from x us) (keeps u.kind (bracket u.kind) (λ e. h u (0, omega arith, refl) e)) ∙ stays_inside us rest
  where
    rest : NoneRight us
    rest t c k = h t (suc c.0, omega (arith, c.1), c.2) k

opens_inside : (b : Bool) (before : List Lexeme) (u : Lexeme) (behind : List Lexeme) → u.kind ≡ K.Symbol S.LeftBracket → NoneRight behind → in_query_from b (before ++ u ∷ behind) ≡ true
opens_inside b [] u behind k n = ap (λ (x : TokenKind). in_query_from (bracketed b x) behind) k ∙ stays_inside behind n
opens_inside b (x ∷ xs) u behind k n = opens_inside (bracketed b x.kind) xs u behind k n

query_sound : (us : List Lexeme) → in_query us ≡ true → IsInQuery us
query_sound us e = of_either (inside_sound false us e)
  where
    of_either : IsInQuery us ⊎ ((false ≡ true) × NoneRight us) → IsInQuery us
    of_either (inl q) = q
    of_either (inr q) = let f = q.0 in absurd cc

query_complete : (us : List Lexeme) → IsInQuery us → in_query us ≡ true
query_complete us q = ap in_query q.parts ∙ opens_inside false q.before q.bracket q.behind q.opens q.stays

-- ---- the token before

behind_sound : (us : List Lexeme) → behind_unbounded us ≡ true → IsBehindUnbounded us
behind_sound us e = let r = ends_some (λ t. is_unbounded t.kind) us e in (r.0, r.1, r.2, unbounded_is r.1.kind r.3)

is_one : (k : TokenKind) → (k ≡ K.Word W.GWord) ⊎ (k ≡ K.Word W.WWord) → is_unbounded k ≡ true
is_one k (inl e) = ap is_unbounded e
is_one k (inr e) = ap is_unbounded e

behind_complete : (us : List Lexeme) → IsBehindUnbounded us → behind_unbounded us ≡ true
behind_complete us b = ap behind_unbounded b.2 ∙ ends_last (λ t. is_unbounded t.kind) b.0 b.1 ∙ is_one b.1.kind b.3

-- ---- the reason

left_out_test : (b : Bool) → left_out_if b ≡ PropertyLeftOut → b ≡ true
left_out_test true e = refl
left_out_test false e = absurd cc

out_reason : (k : TokenKind) (a b : Bool) → of_word is_left_out k ≡ true → form_reason k a b ≡ PropertyLeftOut
out_reason (K.Word w) a b e = ap (λ (x : Bool). if x then PropertyLeftOut else left_out_if (is_query w && a)) e
out_reason k a b e = absurd cc

if_either : (o c : Bool) → c ≡ true → (if o then PropertyLeftOut else left_out_if c) ≡ PropertyLeftOut
if_either true c e = refl
if_either false c e = ap left_out_if e

query_reason : (k : TokenKind) (a b : Bool) → of_word is_query k ≡ true → a ≡ true → form_reason k a b ≡ PropertyLeftOut
query_reason (K.Word w) a b e f = if_either (is_left_out w) (is_query w && a) (and_from (is_query w) a e f)
query_reason k a b e f = absurd cc

either_reason : (k : TokenKind) (a b : Bool) → (form_reason k a b ≡ PropertyLeftOut) ⊎ (form_reason k a b ≡ Syntax)
either_reason k a b = told k
  where
    if_told : (c : Bool) → (left_out_if c ≡ PropertyLeftOut) ⊎ (left_out_if c ≡ Syntax)
    if_told true = inl refl
    if_told false = inr refl

    word_told : (o c : Bool) → ((if o then PropertyLeftOut else left_out_if c) ≡ PropertyLeftOut) ⊎ ((if o then PropertyLeftOut else left_out_if c) ≡ Syntax)
    word_told true c = inl refl
    word_told false c = if_told c

    told : (x : TokenKind) → (form_reason x a b ≡ PropertyLeftOut) ⊎ (form_reason x a b ≡ Syntax)
    told (K.Word w) = word_told (is_left_out w) (is_query w && a)
    told (K.Symbol s) = if_told (is_at_most s && b)
    told x = inr refl

module _ (us : List Lexeme) (t : Lexeme) where
  left_out_sound : (k : TokenKind) → t.kind ≡ k → form_reason k (in_query us) (behind_unbounded us) ≡ PropertyLeftOut → IsLeftOut us t
  left_out_sound (K.Word w) h e = of_word_if (is_left_out w) refl e
    where
      there : (ks : List TokenKind) → Contains ks (K.Word w) → Contains ks t.kind
      there ks c = let F : TokenKind → Type 0 = λ k. Contains ks k in subst F (sym h) c

      of_word_if : (o : Bool) → is_left_out w ≡ o → (if o then PropertyLeftOut else left_out_if (is_query w && in_query us)) ≡ PropertyLeftOut → IsLeftOut us t
      of_word_if true g f = a_left_out_form (there left_out_words (left_out_contains w g))
      of_word_if false g f =
          let q = and_parts (is_query w) (in_query us) (left_out_test _ f) in
          a_nested_query (there query_words (query_contains w q.0)) (query_sound us q.1)
  left_out_sound (K.Symbol s) h e =
      let q = and_parts (is_at_most s) (behind_unbounded us) (left_out_test _ e) in
      another_bound (h ∙ ap K.Symbol (at_most_is s q.0)) (behind_sound us q.1)
  left_out_sound k h e = absurd cc

  left_out_complete : IsLeftOut us t → form_reason t.kind (in_query us) (behind_unbounded us) ≡ PropertyLeftOut
  left_out_complete (a_left_out_form c) = out_reason t.kind (in_query us) (behind_unbounded us) (all_contained (of_word is_left_out) left_out_words t.kind refl c)
  left_out_complete (a_nested_query c q) =
      query_reason t.kind (in_query us) (behind_unbounded us) (all_contained (of_word is_query) query_words t.kind refl c) (query_complete us q)
  left_out_complete (another_bound e b) =
      ap (λ (k : TokenKind). form_reason k (in_query us) (behind_unbounded us)) e ∙ ap left_out_if (behind_complete us b)

  dead_reason : (Begins file (us ++ t ∷ []) → ⊥) → IsReason us t (form_reason t.kind (in_query us) (behind_unbounded us))
  dead_reason n = by_form (either_reason t.kind (in_query us) (behind_unbounded us))
    where
      F : Reason → Type 0
      F r = IsReason us t r

      by_form : (form_reason t.kind (in_query us) (behind_unbounded us) ≡ PropertyLeftOut) ⊎ (form_reason t.kind (in_query us) (behind_unbounded us) ≡ Syntax) → IsReason us t (form_reason t.kind (in_query us) (behind_unbounded us))
      by_form (inl e) = subst F (sym e) (left_out n (left_out_sound t.kind refl e))
      by_form (inr e) = subst F (sym e) (no_form n (λ h. let f = sym (left_out_complete h) ∙ e in absurd cc))

  reason_is : (c : Cause) → (c ≡ C.Deep → Begins file (us ++ t ∷ [])) → ((c ≡ C.Deep → ⊥) → Begins file (us ++ t ∷ []) → ⊥) → IsReason us t (reason_at c us t)
  reason_is C.Deep h n = too_deep (h refl)
  reason_is C.Form h n = dead_reason (n (λ e. cc))
  reason_is C.Item h n = dead_reason (n (λ e. cc))
  reason_is C.Type h n = dead_reason (n (λ e. cc))

-- ---- where reading stopped

goes_on : (before others : List Lexeme) (t : Lexeme) → GoesOn (properties_in plain) before (t ∷ others) → Begins file (before ++ t ∷ [])
goes_on before others t g =
    let f = g.2 in
    let same : g.0 ≡ t = cc in
    let F : Lexeme → Type 0 = λ x. Begins file (before ++ x ∷ []) in
    subst F same g.3

pub refused_at_token : RefusedAtToken
refused_at_token end ts others t c stop =
    let us = stop.before ++ t ∷ [] in
    at_token stop.before others t stop.parts (stop.begins (limited stop.before))
    (stop.first (limited us) (stopped_limited c us t others (Contains-push stop.before t)) t others refl)
    refl
    (reason_is stop.before t c (λ h. goes_on stop.before others t (stop.goes plain (let F : Cause → Type 0 = λ d. IsPassed d plain in subst F (sym h) refl)))
    (λ n b. stop.first plain (stopped c plain (t ∷ others) n (λ e. refl)) t others refl b))

pub refused_at_end : RefusedAtEnd
refused_at_end end ts c stop =
    let same : ts ≡ stop.before = stop.parts ∙ append-nil stop.before in
    let F : List Lexeme → Type 0 = λ u. Begins (properties_in (limited ts)) u in
    at_end (subst F (sym same) (stop.begins (limited ts))) (λ x h. stop.ends refl plain x h) refl refl
