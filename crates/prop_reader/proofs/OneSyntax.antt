-- Tokens have one fault of the grammar at most, and bytes one list of faults and one list of properties.
use Rattle.std.proofs.Common.{◌≡◌, ℕ, List, [], ◌∷◌, ◌++◌, length, map, refl, sym, ap, ap₂, subst, ◌∙◌, append_assoc, append-nil}
use Rattle.std.proofs.lemmas.List.Elements.{Contains-append_left}
use Rattle.bridge_io.specs.declared.reason.Reason.{Reason}
use Rattle.bridge_io.specs.declared.reason.Fault.{Fault}
use Rattle.prism_lex.specs.Tokens.{Lexeme}
use Rattle.prism_lex.specs.Laws.{OneList, OneFaults}
use Rattle.prism_tree.specs.Grammar.{expr}
use Rattle.prism_tree.specs.Faults.{outer}
use Rattle.prism_items.specs.Files.{plain}
use Rattle.prism_parse.proofs.Grows.{Grows}
use Rattle.prism_parse.proofs.Single.{less_early, only_read, Order, same, sooner, later, order}
use Rattle.prop_grammar.specs.Syntax.{WrittenProperty}
use Rattle.prop_grammar.specs.Grammar.{as_name}
use Rattle.prop_grammar.specs.Faults.{operand, outer_operand, file, file_within, BeginsProperties, IsReason, too_deep, left_out, no_form, IsGrammarFault, at_token, at_end, of_tokens, of_grammar, none}
use Rattle.prop_reader.proofs.Whole.{properties_one}
use Rattle.prop_reader.specs.Laws.{OneSyntax, OneFile}
use Rattle.prop_reader.proofs.Growing.{properties_grows}

one_reason : (us : List Lexeme) (t : Lexeme) (r s : Reason) → IsReason us t r → IsReason us t s → r ≡ s
one_reason us t r s (too_deep b) (too_deep d) = refl
one_reason us t r s (too_deep b) (left_out n w) = absurd (n b)
one_reason us t r s (too_deep b) (no_form n w) = absurd (n b)
one_reason us t r s (left_out n w) (too_deep b) = absurd (n b)
one_reason us t r s (left_out n w) (left_out m v) = refl
one_reason us t r s (left_out n w) (no_form m v) = absurd (v w)
one_reason us t r s (no_form n w) (too_deep b) = absurd (n b)
one_reason us t r s (no_form n w) (left_out m v) = absurd (w v)
one_reason us t r s (no_form n w) (no_form m v) = refl

-- ---- what begins sound tokens is sound

operand_less_early : (us vs : List Lexeme) → Grows (outer_operand (us ++ vs)) (outer_operand us)
unfolding outer_operand
operand_less_early us vs = record { grows = λ w e p. (p.0, λ a b t q c. p.1 a b t q (Contains-append_left us vs t c)) }

operand_only_read : (us : List Lexeme) → Grows (outer_operand us) operand
unfolding outer_operand
operand_only_read us = record { grows = λ w e p. p.0 }

sound_before : (us vs : List Lexeme) → BeginsProperties (us ++ vs) → BeginsProperties us
sound_before us vs s =
    let F : List Lexeme → Type 0 = λ w. file_within (us ++ vs) w s.1 in
    (vs ++ s.0, s.1, (properties_grows (outer (us ++ vs)) (outer us) (outer_operand (us ++ vs)) (outer_operand us) (less_early us vs) (operand_less_early us vs)).grows (us ++ (vs ++ s.0)) s.1 (subst F (append_assoc us vs s.0) s.2))

sound_whole : (ts : List Lexeme) (x : List WrittenProperty) → file_within ts ts x → BeginsProperties ts
sound_whole ts x h = let F : List Lexeme → Type 0 = λ w. file_within ts w x in ([], x, subst F (sym (append-nil ts)) h)

read_whole : (ts : List Lexeme) (x : List WrittenProperty) → file_within ts ts x → file ts x
read_whole ts x h = (properties_grows (outer ts) expr (outer_operand ts) operand (only_read ts) (operand_only_read ts)).grows ts x h

-- The tokens with this one more are not sound, so no longer ones are.
not_sound : (us more vs : List Lexeme) (t : Lexeme) → vs ≡ us ++ t ∷ more → (BeginsProperties (us ++ t ∷ []) → ⊥) → BeginsProperties vs → ⊥
not_sound us more vs t e n s =
    let F : List Lexeme → Type 0 = λ w. BeginsProperties w in
    n (sound_before (us ++ t ∷ []) more (subst F (e ∙ sym (append_assoc us (t ∷ []) more)) s))

one_grammar_fault : (end : ℕ) (ts : List Lexeme) (f g : Fault) → IsGrammarFault end ts f → IsGrammarFault end ts g → f ≡ g
one_grammar_fault end ts f g (at_end p n e h) (at_end q m d k) = ap₂ (λ (r : Reason) (at : ℕ). record { reason = r; at = at }) (h ∙ sym k) (e ∙ sym d)
one_grammar_fault end ts f g (at_end p n e h) (at_token us rest t parts q m d k) = absurd (not_sound us rest ts t parts m p)
one_grammar_fault end ts f g (at_token us rest t parts q m d k) (at_end p n e h) = absurd (not_sound us rest ts t parts m p)
one_grammar_fault end ts f g (at_token us rest t parts q m d k) (at_token vs others s part p n e h) = go (order us vs t s rest others (sym parts ∙ part))
  where
    go : Order us vs t s → f ≡ g
    go (sooner more i) = absurd (not_sound us more vs t i m p)
    go (later more i) = absurd (not_sound vs more us s i n q)
    go (same i j) =
        let F : List Lexeme → Type 0 = λ ws. IsReason ws t f.reason in
        let G : Lexeme → Type 0 = λ l. IsReason vs l f.reason in
        ap₂ (λ (r : Reason) (at : ℕ). record { reason = r; at = at }) (one_reason vs s f.reason g.reason (subst G j (subst F i k)) h) (d ∙ ap (λ (l : Lexeme). l.at) j ∙ sym e)

pub not_both : (end : ℕ) (ts : List Lexeme) (f : Fault) (x : List WrittenProperty) → IsGrammarFault end ts f → file_within ts ts x → ⊥
not_both end ts f x (at_end p n e h) w = n x (read_whole ts x w)
not_both end ts f x (at_token us rest t parts q m d k) w = not_sound us rest ts t parts m (sound_whole ts x w)

-- ---- bytes

pub one_syntax : OneList → OneFaults → OneSyntax
one_syntax list faults bytes fs gs (of_tokens f fs' p) (of_tokens g gs' q) = faults bytes (f ∷ fs') (g ∷ gs') p q
one_syntax list faults bytes fs gs (of_tokens f fs' p) (of_grammar ts g q a h) = let e = faults bytes (f ∷ fs') [] p q in absurd cc
one_syntax list faults bytes fs gs (of_tokens f fs' p) (none ts x q a h) = let e = faults bytes (f ∷ fs') [] p q in absurd cc
one_syntax list faults bytes fs gs (of_grammar ts g q a h) (of_tokens f fs' p) = let e = faults bytes (f ∷ fs') [] p q in absurd cc
one_syntax list faults bytes fs gs (of_grammar ts f p a h) (of_grammar us g q b k) =
    let F : List Lexeme → Type 0 = λ vs. IsGrammarFault (length bytes) (map as_name vs) g in
    ap (λ (x : Fault). x ∷ []) (one_grammar_fault (length bytes) (map as_name ts) f g h (subst F (list bytes us ts b a) k))
one_syntax list faults bytes fs gs (of_grammar ts f p a h) (none us x q b k) =
    let F : List Lexeme → Type 0 = λ vs. file_within (map as_name vs) (map as_name vs) x in
    absurd (not_both (length bytes) (map as_name ts) f x h (subst F (list bytes us ts b a) k))
one_syntax list faults bytes fs gs (none us x q b k) (of_tokens f fs' p) = let e = faults bytes (f ∷ fs') [] p q in absurd cc
one_syntax list faults bytes fs gs (none us x q b k) (of_grammar ts f p a h) =
    let F : List Lexeme → Type 0 = λ vs. file_within (map as_name vs) (map as_name vs) x in
    absurd (not_both (length bytes) (map as_name ts) f x h (subst F (list bytes us ts b a) k))
one_syntax list faults bytes fs gs (none us x q b k) (none ts y p a h) = refl

pub one_file : OneList → OneFile
one_file list bytes x y p q =
    let F : List Lexeme → Type 0 = λ ts. file (map as_name ts) y in
    let ts = map as_name p.tokens in
    ((properties_one plain).one ts [] ts [] x y p.spelled (subst F (list bytes q.tokens p.tokens q.are_tokens p.are_tokens) q.spelled) refl tt tt).1
