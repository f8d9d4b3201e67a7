-- What comes next from an offset on.
use Rattle.std.proofs.Common.{◌≡◌, ℕ, zero, suc, ◌+◌, ◌-◌, ◌≤◌, ◌<◌, true, List, [], ◌∷◌, ◌++◌, length, take, drop, None, refl, sym, ap, subst, ◌∙◌, arith, append-nil, length-drop, drop-drop}
use Rattle.std.specs.Prelude.{slice_range}
use Rattle.std.proofs.lemmas.List.{take-append-drop, length-take-le, nil_from_length}
use Rattle.bridge_io.specs.declared.reason.Reason.{Reason}
use Rattle.prism_lex.specs.declared.gap.Gap.TheVariants.{Between}
use Rattle.prism_lex.specs.declared.token.Token.{Token}
use Rattle.prism_lex.specs.declared.token.TokenKind.{TokenKind}
use Rattle.prism_lex.specs.declared.token.TokenKind.TheVariants.{End}
use Rattle.prism_lex.specs.Gaps.{may_end, gap_after, gap_len, IsGap}
use Rattle.prism_lex.specs.Tokens.{IsKind, IsToken, IsLongest, Lexeme, refusal, IsNext, IsEnd, IsStuck, Continues, Finishes, IsFault, refused, no_token, fault}
use Rattle.prism_lex.specs.Front as front
use Rattle.prism_lex.proofs.LongestGap.{gap_within, gap_is, gap_most}

gap_longest : (bytes : List ℕ) → IsLongest IsGap (take (gap_len Between bytes) bytes) (drop (gap_len Between bytes) bytes)
gap_longest bytes = record {
  is = gap (gap_len Between bytes) (gap_is Between bytes);
  longest = λ v z e h. let l = length-take-le (gap_len Between bytes) bytes (gap_within Between bytes) in let m = most v z (sym (take-append-drop (gap_len Between bytes) bytes) ∙ e) h in omega arith;
}
  where
    gap : (n : ℕ) → (0 < n → may_end (gap_after Between (take n bytes)) ≡ true) → IsGap (take n bytes)
    gap zero h = refl
    gap (suc n) h = h (omega arith)

    most : (v z : List ℕ) → bytes ≡ v ++ z → IsGap v → length v ≤ gap_len Between bytes
    most [] z e h = omega arith
    most (c ∷ v) z e h = gap_most Between bytes (c ∷ v) z e (omega arith) h

token_longest : (bytes : List ℕ) (k : TokenKind) (n : ℕ) → front.Begins bytes k n → IsLongest IsToken (take n bytes) (drop n bytes)
token_longest bytes k n b = record {
  is = (k, b.is);
  longest = λ v z e h. let l = length-take-le n bytes b.within in let m = b.longest v z (sym (take-append-drop n bytes) ∙ e) h in omega arith;
}

abbrev pub lexeme : TokenKind → List ℕ → ℕ → Lexeme
lexeme k w n = record { kind = k; text = w; at = n }

pub next_is : (bytes : List ℕ) (from n : ℕ) (k : TokenKind) (m : ℕ) → n ≡ gap_len Between (drop from bytes) → front.Begins (drop n (drop from bytes)) k m → IsNext bytes from (lexeme k (take m (drop n (drop from bytes))) (from + n))
next_is bytes from n k m e b =
    let rest = drop from bytes in
    let behind = drop n rest in
    let g : IsLongest IsGap (take n rest) (drop n rest) = (let F : ℕ → Type 0 = λ u. IsLongest IsGap (take u rest) (drop u rest) in subst F (sym e) (gap_longest rest)) in
    let w = take-append-drop m behind in
    record {
      gap = take n rest;
      rest = drop m behind;
      parts = sym (take-append-drop n rest) ∙ ap (λ (u : List ℕ). take n rest ++ u) (sym w);
      is_between = (let F : List ℕ → Type 0 = λ u. IsLongest IsGap (take n rest) u in subst F (sym w) g);
      is_token = token_longest behind k m b;
      kind = b.is;
      begins = (let l = length-take-le n rest (within n rest e) in omega arith);
    }
  where
    within : (n : ℕ) (rest : List ℕ) → n ≡ gap_len Between rest → n ≤ length rest
    within n rest e = let h = gap_within Between rest in omega (arith, h)

abbrev token : TokenKind → ℕ → ℕ → Token
token k a e = record { kind = k; at = a; end = e }

text_is : (bytes : List ℕ) (from n m : ℕ) → take m (drop n (drop from bytes)) ≡ slice_range bytes (from + n) (from + n + m)
text_is bytes from n m = ap (take m) (drop-drop n from bytes) ∙ ap (λ (u : ℕ). take u (drop (from + n) bytes)) (minus from n m)
  where
    minus : (a b c : ℕ) → c ≡ a + b + c - (a + b)
    minus a b c = omega arith

behind_length : (bytes : List ℕ) (from n : ℕ) → from ≤ length bytes → n ≡ gap_len Between (drop from bytes) → length (drop n (drop from bytes)) + (from + n) ≡ length bytes
behind_length bytes from n l e = let a = length-drop n (drop from bytes) in let b = length-drop from bytes in let c = gap_within Between (drop from bytes) in omega arith

-- ---- the parts that the code cuts

pub record Cut (bytes : List ℕ) (from : ℕ) (rest : List ℕ) (n : ℕ) (behind : List ℕ) : Type 0 where
  pub within : from ≤ length bytes
  pub rest_is : rest ≡ drop from bytes
  pub gap : n ≡ gap_len Between rest
  pub behind_is : behind ≡ drop n rest

gap_at : {bytes rest behind : List ℕ} {from n : ℕ} → Cut bytes from rest n behind → n ≡ gap_len Between (drop from bytes)
gap_at c = c.gap ∙ ap (gap_len Between) c.rest_is

behind_at : {bytes rest behind : List ℕ} {from n : ℕ} → Cut bytes from rest n behind → behind ≡ drop n (drop from bytes)
behind_at {n = n} c = c.behind_is ∙ ap (drop n) c.rest_is

pub continues : (bytes rest behind : List ℕ) (from n : ℕ) (k : TokenKind) (m : ℕ) → Cut bytes from rest n behind → front.Begins behind k m × (refusal k (take m behind) ≡ None) → Continues bytes from (token k (from + n) (from + n + m))
continues bytes rest behind from n k m c g =
    let F : List ℕ → Type 0 = λ u. front.Begins u k m in
    let b = subst F (behind_at c) g.0 in
    let w = text_is bytes from n m in
    let l = behind_length bytes from n c.within (gap_at c) in
    record {
      next = (let G : List ℕ → Type 0 = λ u. IsNext bytes from (lexeme k u (from + n)) in subst G w (next_is bytes from n k m (gap_at c) b));
      accepted = ap (refusal k) (sym w) ∙ ap (λ (u : List ℕ). refusal k (take m u)) (sym (behind_at c)) ∙ g.1;
      behind = omega arith;
      some = (let a = b.above in omega arith);
      within = (let a = b.within in omega arith);
    }

pub end_at : (bytes : List ℕ) (from n : ℕ) → n ≡ gap_len Between (drop from bytes) → length (drop n (drop from bytes)) ≡ 0 → IsEnd bytes from
end_at bytes from n e l =
    let all : take n (drop from bytes) ≡ drop from bytes = sym (append-nil (take n (drop from bytes))) ∙ ap (λ (u : List ℕ). take n (drop from bytes) ++ u) (sym (nil_from_length (drop n (drop from bytes)) l)) ∙ take-append-drop n (drop from bytes) in
    let F : ℕ → Type 0 = λ u. IsGap (take u (drop from bytes)) in
    let G : List ℕ → Type 0 = λ u. IsGap u in
    subst G all (subst F (sym e) ((gap_longest (drop from bytes)).is))

pub finishes : (bytes rest behind : List ℕ) (from n : ℕ) → Cut bytes from rest n behind → length behind ≡ 0 → Finishes bytes from (token End (from + n) (from + n))
finishes bytes rest behind from n c h =
    let e = gap_at c in
    let l : length (drop n (drop from bytes)) ≡ 0 = ap length (sym (behind_at c)) ∙ h in
    let a : length bytes ≡ from + n = (let k = behind_length bytes from n c.within e in omega arith) in
    record { gap = end_at bytes from n e l; at = sym a; end = sym a }

pub stuck_at : (bytes : List ℕ) (from n : ℕ) → n ≡ gap_len Between (drop from bytes) → 0 < length (drop n (drop from bytes)) → front.BeginsNone (drop n (drop from bytes)) → IsStuck bytes from (from + n)
stuck_at bytes from n e l b =
    let rest = drop from bytes in
    record {
      gap = take n rest;
      rest = drop n rest;
      parts = sym (take-append-drop n rest);
      is_between = (let F : ℕ → Type 0 = λ u. IsLongest IsGap (take u rest) (drop u rest) in subst F (sym e) (gap_longest rest));
      some = l;
      none = b;
      begins = (let h = length-take-le n rest (let i = gap_within Between rest in omega (arith, i)) in omega arith);
    }

fails_at : (bytes : List ℕ) (from n : ℕ) (reason : Reason) → n ≡ gap_len Between (drop from bytes) → 0 < length (drop n (drop from bytes)) → front.IsRefused (drop n (drop from bytes)) reason → IsFault bytes from (fault reason (from + n))
fails_at bytes from n reason e l (front.refused k m b r) = refused (lexeme k (take m (drop n (drop from bytes))) (from + n)) (next_is bytes from n k m e b) r refl
fails_at bytes from n reason e l (front.no_token b r) = no_token (stuck_at bytes from n e l b) r

pub fails : (bytes rest behind : List ℕ) (from n : ℕ) (reason : Reason) → Cut bytes from rest n behind → 0 < length behind → front.IsRefused behind reason → IsFault bytes from (fault reason (from + n))
fails bytes rest behind from n reason c l r =
    let F : List ℕ → Type 0 = λ u. 0 < length u in
    let G : List ℕ → Type 0 = λ u. front.IsRefused u reason in
    fails_at bytes from n reason (gap_at c) (subst F (behind_at c) l) (subst G (behind_at c) r)
