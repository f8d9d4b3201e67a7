-- Texts with commas between them, one more at a time.
use Rattle.std.proofs.Common.{◌≡◌, ℕ, zero, suc, ◌+◌, ◌<◌, ◌≤◌, List, [], ◌∷◌, ◌++◌, take, length, get_or, codes, sym, ap, ◌∙◌, arith, append_assoc, append-nil, lt-ltb, if◌then◌else◌}
use Rattle.std.proofs.lemmas.List.{take_more, length-take-le}
use Rattle.basics.specs.Lists.{at_take_all}
use Rattle.decimal_json.specs.Text.{with_commas, behind_commas}
use Rattle.process_texts.specs.Texts.{comma_before, tuple_text}

behind-snoc : (ts : List (List ℕ)) (t : List ℕ) → behind_commas (ts ++ t ∷ []) ≡ behind_commas ts ++ 44 ∷ t
behind-snoc [] t = ap (λ l. 44 ∷ l) (append-nil t)
behind-snoc (x ∷ ts) t = ap (λ l. 44 ∷ (x ++ l)) (behind-snoc ts t) ∙ ap (λ l. 44 ∷ l) (sym (append_assoc x (behind_commas ts) (44 ∷ t)))

pub with_commas-snoc : (ts : List (List ℕ)) (t : List ℕ) (i : ℕ) → length ts ≡ i → with_commas (ts ++ t ∷ []) ≡ (with_commas ts ++ comma_before i) ++ t
with_commas-snoc [] t zero e = append-nil t
with_commas-snoc [] t (suc i) e = absurd cc
with_commas-snoc (x ∷ ts) t zero e = absurd cc
with_commas-snoc (x ∷ ts) t (suc i) e =
    ap (λ l. x ++ l) (behind-snoc ts t) ∙ sym (append_assoc x (behind_commas ts) (44 ∷ t)) ∙ sym (append_assoc (x ++ behind_commas ts) (44 ∷ []) t)
    ∙ ap (λ b. ((x ++ behind_commas ts) ++ (if b then codes "," else [])) ++ t) (sym (lt-ltb 0 (suc i) (omega arith)))

-- before the first part
pub begun : (a b : List ℕ) → a ≡ [] → b ≡ a ++ codes "(" → b ≡ codes "(" ++ with_commas []
begun a b e f = f ∙ ap (λ l. l ++ codes "(") e

-- behind the last part
pub ended : (texts : List (List ℕ)) (i : ℕ) (a b : List ℕ) → length texts ≤ i → a ≡ codes "(" ++ with_commas (take i texts) → b ≡ a ++ codes ")" → b ≡ tuple_text texts
ended texts i a b h e f = f ∙ ap (λ l. l ++ codes ")") e ∙ at_take_all (λ l. (codes "(" ++ with_commas l) ++ codes ")") texts i h

-- after the part of an index, behind what was there before
pub goes_on : (before : List ℕ) (texts : List (List ℕ)) (i : ℕ) (t a b c : List ℕ) → i < length texts → t ≡ get_or texts i t → a ≡ before ++ with_commas (take i texts) → b ≡ a ++ comma_before i →
    c ≡ b ++ t → c ≡ before ++ with_commas (take (i + 1) texts)
goes_on before texts i t a b c h e f g k =
    let n : length (take i texts) ≡ i = length-take-le i texts (omega arith) in
    let w = with_commas (take i texts) in
    k ∙ ap (λ l. l ++ t) (g ∙ ap (λ l. l ++ comma_before i) f ∙ append_assoc before w (comma_before i))
    ∙ append_assoc before (w ++ comma_before i) t
    ∙ ap (λ l. before ++ l) (sym (with_commas-snoc (take i texts) t i n) ∙ ap (λ l. with_commas (take i texts ++ l ∷ [])) e ∙ ap with_commas (sym (take_more texts i t h)))

pub text_pushed : (b c s t : List ℕ) → c ≡ b ++ s → s ≡ t → c ≡ b ++ t
text_pushed b c s t e f = e ∙ ap (λ l. b ++ l) f
