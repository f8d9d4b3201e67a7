-- Tokens have one fault of the grammar at most, and bytes one list of faults.
use Rattle.std.proofs.Common.{◌≡◌, ℕ, false, List, [], ◌∷◌, ◌++◌, length, refl, sym, ap, ap₂, subst, ◌∙◌, append_assoc, append-nil}
use Rattle.std.specs.Prelude.{if◌then◌else◌}
use Rattle.std.proofs.lemmas.List.Elements.{All-contains, All-from_recursion, Contains-append_left}
use Rattle.bridge_io.specs.declared.reason.Reason.{Reason}
use Rattle.bridge_io.specs.declared.reason.Reason.TheVariants.{OtherKind, LeftOut}
use Rattle.bridge_io.specs.declared.reason.Fault.{Fault}
use Rattle.prism_lex.specs.declared.token.TokenKind.{TokenKind}
use Rattle.prism_lex.specs.declared.token.TokenKind.TheVariants as K
use Rattle.prism_lex.specs.Tokens.{Lexeme}
use Rattle.prism_lex.specs.Laws.{OneList, OneFaults}
use Rattle.prism_tree.specs.Syntax.{File}
use Rattle.prism_tree.specs.Grammar.{expr, int_too}
use Rattle.prism_tree.specs.Faults.{outer, file, file_within, IsSound, kind_words, left_out_words, WouldBegin, another_kind, a_left_out_form, an_unbounded_variable, a_left_out_function, IsReason, too_deep, not_read, no_form, IsGrammarFault, at_token, at_end, of_tokens, of_grammar, none}
use Rattle.prism_parse.specs.Reasons.{is_kind_word}
use Rattle.prism_parse.specs.Laws.{OneSyntax}
use Rattle.prism_parse.proofs.Grows.{Grows, file_grows}

-- ---- the reasons of a token

-- what a token would begin, if it begins anything that is told of
abbrev begun_reason : TokenKind → Reason
begun_reason (K.Word w) = if is_kind_word w then OtherKind else LeftOut
begun_reason k = LeftOut

begun : (end : ℕ) (us : List Lexeme) (t : Lexeme) (r : Reason) → WouldBegin end us t r → r ≡ begun_reason t.kind
begun end us t r (another_kind c i) =
    All-contains (λ k. OtherKind ≡ begun_reason k) kind_words t.kind (All-from_recursion (λ k. OtherKind ≡ begun_reason k) kind_words (refl, (refl, (refl, (refl, (refl, (refl, (refl, tt)))))))) c
begun end us t r (a_left_out_form c) =
    All-contains (λ k. LeftOut ≡ begun_reason k) left_out_words t.kind (All-from_recursion (λ k. LeftOut ≡ begun_reason k) left_out_words (refl, (refl, (refl, (refl, (refl, (refl, (refl, tt)))))))) c
begun end us t r (an_unbounded_variable e b) = ap begun_reason (sym e)
begun end us t r (a_left_out_function e a s p i c) = ap begun_reason (sym e)

one_reason : (end : ℕ) (us : List Lexeme) (t : Lexeme) (r s : Reason) → IsReason end us t r → IsReason end us t s → r ≡ s
one_reason end us t r s (too_deep b) (too_deep d) = refl
one_reason end us t r s (too_deep b) (not_read q n w) = absurd (n b)
one_reason end us t r s (too_deep b) (no_form n w) = absurd (n b)
one_reason end us t r s (not_read q n w) (too_deep b) = absurd (n b)
one_reason end us t r s (not_read q n w) (not_read p m v) = begun end us t q w ∙ sym (begun end us t p v)
one_reason end us t r s (not_read q n w) (no_form m v) = absurd (v q w)
one_reason end us t r s (no_form n w) (too_deep b) = absurd (n b)
one_reason end us t r s (no_form n w) (not_read q m v) = absurd (w q v)
one_reason end us t r s (no_form n w) (no_form m v) = refl

-- ---- what begins sound tokens is sound

pub less_early : (us vs : List Lexeme) → Grows (outer (us ++ vs)) (outer us)
unfolding outer
less_early us vs = record { grows = λ w e p. (p.0, λ a b t q c. p.1 a b t q (Contains-append_left us vs t c)) }

pub only_read : (us : List Lexeme) → Grows (outer us) expr
unfolding outer
only_read us = record { grows = λ w e p. p.0 }

sound_before : (end : ℕ) (us vs : List Lexeme) → IsSound end (us ++ vs) → IsSound end us
sound_before end us vs s =
    let F : List Lexeme → Type 0 = λ w. file_within end (us ++ vs) w s.1 in
    (vs ++ s.0, s.1, (file_grows (outer (us ++ vs)) (outer us) (int_too false) (less_early us vs) end).grows (us ++ (vs ++ s.0)) s.1 (subst F (append_assoc us vs s.0) s.2))

sound_whole : (end : ℕ) (ts : List Lexeme) (x : File) → file_within end ts ts x → IsSound end ts
sound_whole end ts x h = let F : List Lexeme → Type 0 = λ w. file_within end ts w x in ([], x, subst F (sym (append-nil ts)) h)

read_whole : (end : ℕ) (ts : List Lexeme) (x : File) → file_within end ts ts x → file end ts x
read_whole end ts x h = (file_grows (outer ts) expr (int_too false) (only_read ts) end).grows ts x h

-- The tokens with this one more are not sound, so no longer ones are.
not_sound : (end : ℕ) (us more vs : List Lexeme) (t : Lexeme) → vs ≡ us ++ t ∷ more → (IsSound end (us ++ t ∷ []) → ⊥) → IsSound end vs → ⊥
not_sound end us more vs t e n s =
    let F : List Lexeme → Type 0 = λ w. IsSound end w in
    n (sound_before end (us ++ t ∷ []) more (subst F (e ∙ sym (append_assoc us (t ∷ []) more)) s))

-- ---- places in one list

pub data Order (us vs : List Lexeme) (t s : Lexeme) : Type 0 where
  same : us ≡ vs → t ≡ s → Order us vs t s
  sooner : (more : List Lexeme) → vs ≡ us ++ t ∷ more → Order us vs t s
  later : (more : List Lexeme) → us ≡ vs ++ s ∷ more → Order us vs t s

pub order : (us vs : List Lexeme) (t s : Lexeme) (rest others : List Lexeme) → us ++ t ∷ rest ≡ vs ++ s ∷ others → Order us vs t s
order [] [] t s rest others e = same refl cc
order [] (v ∷ vs) t s rest others e = let h : t ≡ v = cc in sooner vs (ap (λ (x : Lexeme). x ∷ vs) (sym h))
order (u ∷ us) [] t s rest others e = let h : u ≡ s = cc in later us (ap (λ (x : Lexeme). x ∷ us) h)
order (u ∷ us) (v ∷ vs) t s rest others e =
    let h : u ≡ v = cc in
    let f : us ++ t ∷ rest ≡ vs ++ s ∷ others = cc in
    go h (order us vs t s rest others f)
  where
    go : u ≡ v → Order us vs t s → Order (u ∷ us) (v ∷ vs) t s
    go h (same p q) = same (cc) q
    go h (sooner more p) = sooner more cc
    go h (later more p) = later more cc

one_grammar_fault : (end : ℕ) (ts : List Lexeme) (f g : Fault) → IsGrammarFault end ts f → IsGrammarFault end ts g → f ≡ g
one_grammar_fault end ts f g (at_end p n e h) (at_end q m d k) = ap₂ (λ (r : Reason) (at : ℕ). record { reason = r; at = at }) (h ∙ sym k) (e ∙ sym d)
one_grammar_fault end ts f g (at_end p n e h) (at_token us rest t parts q m d k) = absurd (not_sound end us rest ts t parts m p)
one_grammar_fault end ts f g (at_token us rest t parts q m d k) (at_end p n e h) = absurd (not_sound end us rest ts t parts m p)
one_grammar_fault end ts f g (at_token us rest t parts q m d k) (at_token vs others s part p n e h) = go (order us vs t s rest others (sym parts ∙ part))
  where
    go : Order us vs t s → f ≡ g
    go (sooner more i) = absurd (not_sound end us more vs t i m p)
    go (later more i) = absurd (not_sound end vs more us s i n q)
    go (same i j) =
        let F : List Lexeme → Type 0 = λ ws. IsReason end ws t f.reason in
        let G : Lexeme → Type 0 = λ l. IsReason end vs l f.reason in
        ap₂ (λ (r : Reason) (at : ℕ). record { reason = r; at = at }) (one_reason end vs s f.reason g.reason (subst G j (subst F i k)) h) (d ∙ ap (λ (l : Lexeme). l.at) j ∙ sym e)

not_both : (end : ℕ) (ts : List Lexeme) (f : Fault) (x : File) → IsGrammarFault end ts f → file_within end ts ts x → ⊥
not_both end ts f x (at_end p n e h) w = n x (read_whole end ts x w)
not_both end ts f x (at_token us rest t parts q m d k) w = not_sound end us rest ts t parts m (sound_whole end ts x w)

-- ---- bytes

pub one_syntax : OneList → OneFaults → OneSyntax
one_syntax list faults bytes fs gs (of_tokens f fs' p) (of_tokens g gs' q) = faults bytes (f ∷ fs') (g ∷ gs') p q
one_syntax list faults bytes fs gs (of_tokens f fs' p) (of_grammar ts g q a h) = let e = faults bytes (f ∷ fs') [] p q in absurd cc
one_syntax list faults bytes fs gs (of_tokens f fs' p) (none ts x q a h) = let e = faults bytes (f ∷ fs') [] p q in absurd cc
one_syntax list faults bytes fs gs (of_grammar ts g q a h) (of_tokens f fs' p) = let e = faults bytes (f ∷ fs') [] p q in absurd cc
one_syntax list faults bytes fs gs (of_grammar ts f p a h) (of_grammar us g q b k) =
    let F : List Lexeme → Type 0 = λ vs. IsGrammarFault (length bytes) vs g in
    ap (λ (x : Fault). x ∷ []) (one_grammar_fault (length bytes) ts f g h (subst F (list bytes us ts b a) k))
one_syntax list faults bytes fs gs (of_grammar ts f p a h) (none us x q b k) =
    let F : List Lexeme → Type 0 = λ vs. file_within (length bytes) vs vs x in
    absurd (not_both (length bytes) ts f x h (subst F (list bytes us ts b a) k))
one_syntax list faults bytes fs gs (none us x q b k) (of_tokens f fs' p) = let e = faults bytes (f ∷ fs') [] p q in absurd cc
one_syntax list faults bytes fs gs (none us x q b k) (of_grammar ts f p a h) =
    let F : List Lexeme → Type 0 = λ vs. file_within (length bytes) vs vs x in
    absurd (not_both (length bytes) ts f x h (subst F (list bytes us ts b a) k))
one_syntax list faults bytes fs gs (none us x q b k) (none ts y p a h) = refl
