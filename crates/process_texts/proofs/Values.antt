-- The parts of a text that spells a value.
use Rattle.std.proofs.Common.{◌≡◌, ◌≢◌, ℕ, suc, ◌+◌, ◌<◌, ◌≤◌, ◌==◌, Bool, true, false, not, List, [], ◌∷◌, ◌++◌, take, drop, length, get_or, slice_index, codes, Option, Some, None, cond, refl, sym, ap, ap₂, subst, ◌∙◌, arith, add-one, if◌then◌else◌, take-append-drop, drop-cons, eqb-true, bytes_eq, length-append, length-drop, take_all, ◌-◌}
use Rattle.std.specs.List.{position_or_len}
use Rattle.std.specs.Char.{digit_value}
use Rattle.std.specs.Str.Parse.{IsNumeral, AllDigits}
use Rattle.std.specs.Cmp.Lexicographic.{bytes_decides}
use Rattle.std.proofs.lemmas.List.Sums.{passes_at_first}
use Rattle.std.proofs.lemmas.Bool.Decides.{nat_tests}
use Rattle.op_trees.specs.declared.tree.Value.{Value}
use Rattle.prism_lex.specs.declared.automaton.State.TheVariants.{Start, Dead}
use Rattle.prism_lex.specs.Automaton.{step, after}
use Rattle.prism_lex.specs.Numbers.{is_number, is_at_digit}
use Rattle.process_texts.specs.Texts.{truth_text}
use Rattle.process_texts.specs.Forms.{truth_of, sign_text, IsSigned}
use Rattle.process_texts.specs.Given.{IsValue, IsLiteral, IsRatio, Answers, truth, literal, ratio}
use Rattle.process_texts.specs.declared.given.GivenText.{GivenText}
use Rattle.process_texts.specs.declared.given.GivenText.TheVariants.{Good, Past, NoForm}
use Rattle.process_texts.proofs.Numbers.{dead, no_slash_in_number}

-- ---- truth values
pub truth_some : (w : List ℕ) (b : Bool) → truth_of w ≡ Some b → w ≡ truth_text b
truth_some w b h = by_true (bytes_eq w (codes "true")) refl h
  where
    by_false : (z : Bool) → z ≡ bytes_eq w (codes "false") → (if z then Some false else None) ≡ Some b → w ≡ truth_text b
    by_false true e k = (bytes_decides w (codes "false")).0 (sym e) ∙ ap truth_text (let f : false ≡ b = cc in f)
    by_false false e k = absurd cc

    by_true : (z : Bool) → z ≡ bytes_eq w (codes "true") → (if z then Some true else (if bytes_eq w (codes "false") then Some false else None)) ≡ Some b → w ≡ truth_text b
    by_true true e k = (bytes_decides w (codes "true")).0 (sym e) ∙ ap truth_text (let f : true ≡ b = cc in f)
    by_true false e k = by_false (bytes_eq w (codes "false")) refl k

pub truth_back : (b : Bool) → truth_of (truth_text b) ≡ Some b
truth_back true = refl
truth_back false = refl

pub truth_none : (w : List ℕ) (b : Bool) → truth_of w ≡ None → w ≡ truth_text b → ⊥
truth_none w b h e = let f : ◌≡◌ {A = Option Bool} (Some b) None = sym (truth_back b) ∙ ap truth_of (sym e) ∙ h in cc

-- ---- a sign
pub record Unsigned (u : List ℕ) : Type 0 where
  pub first : slice_index u 0 ≢ 45

pub signed_of : (w u : List ℕ) (m : Bool) → w ≡ sign_text m ++ u → Unsigned u → IsSigned w m u
signed_of w u true e n = record { text = e; bare = λ k. absurd cc }
signed_of w u false e n = record { text = e; bare = λ k z. n.first (ap (λ l. slice_index l 0) (sym e) ∙ z) }

pub sign_once : (w u rest : List ℕ) (m minus : Bool) → IsSigned w minus rest → w ≡ sign_text m ++ u → Unsigned u → (m ≡ minus) × (u ≡ rest)
sign_once w u rest true true s e n = (refl, let f : 45 ∷ u ≡ 45 ∷ rest = sym e ∙ s.text in cc)
sign_once w u rest false false s e n = (refl, sym e ∙ s.text)
sign_once w u rest true false s e n = absurd (s.bare refl (ap (λ l. slice_index l 0) e))
sign_once w u rest false true s e n = absurd (n.first (ap (λ l. slice_index l 0) (sym e ∙ s.text)))

pub number_unsigned : (u : List ℕ) → is_number u ≡ true → Unsigned u
number_unsigned [] h = absurd (let f : is_at_digit Start ≡ true = h in cc)
number_unsigned (b ∷ u) h = record {
  first = λ e. let f : is_at_digit Dead ≡ true = ap is_at_digit (sym (dead u)) ∙ ap (λ x. is_at_digit (after (step Start x) u)) (sym e) ∙ h in cc;
}

pub digit_above : (c : ℕ) → digit_value c < 10 → 48 ≤ c
digit_above c h = grind (arith, nat_tests)

pub numeral_unsigned : (n m : List ℕ) → IsNumeral 10 n → Unsigned (n ++ m)
numeral_unsigned [] m h = let no = h.0 in absurd (omega arith)
numeral_unsigned (c ∷ n) m h = record { first = λ e. let k = digit_above c h.1.0 in let no : ⊥ = omega (arith, e) in no }

-- ---- a slash
digit_no_slash : (c : ℕ) → digit_value c < 10 → (c == 47) ≡ false
digit_no_slash c h = grind (arith, nat_tests)

-- the first slash is behind the digits
pub place_of_slash : (n m : List ℕ) → AllDigits 10 n → position_or_len (λ b. b == 47) (n ++ 47 ∷ m) ≡ length n
place_of_slash [] m h = refl
place_of_slash (c ∷ n) m h =
    ap (λ b. cond (not b) (1 + position_or_len (λ b. b == 47) (n ++ 47 ∷ m)) 0) (digit_no_slash c h.0) ∙ (let e = place_of_slash n m h.1 in omega arith)

pub front_of : (n m : List ℕ) → take (length n) (n ++ 47 ∷ m) ≡ n
front_of [] m = refl
front_of (c ∷ n) m = ap (λ l. c ∷ l) (front_of n m)

pub behind_of : (n m : List ℕ) → drop (suc (length n)) (n ++ 47 ∷ m) ≡ m
behind_of [] m = refl
behind_of (c ∷ n) m = behind_of n m

-- ---- the same values
pub record Same (R S : Value → Bool → Type 0) : Type 0 where
  pub there : (v : Value) (past : Bool) → R v past → S v past
  pub back : (v : Value) (past : Bool) → S v past → R v past

pub answers_same : (R S : Value → Bool → Type 0) (r : GivenText) → Same R S → Answers R r → Answers S r
answers_same R S (Good v) s h = (s.there v false h.0, h.1)
answers_same R S Past s h = (h.0, h.1, s.there h.0 h.1 h.2, h.3)
answers_same R S NoForm s h = λ v past k. h v past (s.back v past k)

module _ (w : List ℕ) (minus : Bool) (rest : List ℕ) (none : truth_of w ≡ None) (s : IsSigned w minus rest) where
  pub as_literal : length rest ≤ position_or_len (λ b. b == 47) rest → Same (IsLiteral minus rest) (IsValue w)
  as_literal h = record {
    there = λ v past l. literal minus rest s.text l;
    back = back;
  }
    where
      back : (v : Value) (past : Bool) → IsValue w v past → IsLiteral minus rest v past
      back v past (truth b e f g) = absurd (truth_none w b none e)
      back v past (literal m u e l) =
          let k = sign_once w u rest m minus s e (number_unsigned u l.number) in
          subst (λ x. IsLiteral x rest v past) k.0 (subst (λ x. IsLiteral m x v past) k.1 l)
      back v past (ratio m n d e r) =
          let k = sign_once w (n ++ 47 ∷ d) rest m minus s e (numeral_unsigned n (47 ∷ d) r.top) in
          let p : position_or_len (λ b. b == 47) rest ≡ length n = ap (position_or_len (λ b. b == 47)) (sym k.1) ∙ place_of_slash n d r.top.1 in
          let l : length n + suc (length d) ≡ length rest = sym (length-append n (47 ∷ d)) ∙ ap length k.1 in
          absurd (omega arith)

  pub as_ratio : (place : ℕ) → place ≡ position_or_len (λ b. b == 47) rest → place < length rest → Same (IsRatio minus (take place rest) (drop (place + 1) rest)) (IsValue w)
  as_ratio place p h = record {
    there = λ v past r. ratio minus (take place rest) (drop (place + 1) rest) (s.text ∙ ap (λ l. sign_text minus ++ l) parts) r;
    back = back;
  }
    where
      slash : get_or rest place 0 ≡ 47
      slash = eqb-true (get_or rest place 0) 47 (subst (λ i. (get_or rest i 0 == 47) ≡ true) (sym p) (passes_at_first (λ b. b == 47) rest 0 (subst (λ i. i < length rest) p h)))

      parts : rest ≡ take place rest ++ 47 ∷ drop (place + 1) rest
      parts = sym (take-append-drop place rest) ∙ ap (λ l. take place rest ++ l) (drop-cons rest place 0 h ∙ ap₂ (λ x n. x ∷ drop n rest) slash (sym (add-one place)))

      back : (v : Value) (past : Bool) → IsValue w v past → IsRatio minus (take place rest) (drop (place + 1) rest) v past
      back v past (truth b e f g) = absurd (truth_none w b none e)
      back v past (literal m u e l) =
          let k = sign_once w u rest m minus s e (number_unsigned u l.number) in
          absurd (no_slash_in_number (take place rest) (drop (place + 1) rest) (ap is_number (sym parts ∙ sym k.1) ∙ l.number))
      back v past (ratio m n d e r) =
          let k = sign_once w (n ++ 47 ∷ d) rest m minus s e (numeral_unsigned n (47 ∷ d) r.top) in
          let q : place ≡ length n = p ∙ ap (position_or_len (λ b. b == 47)) (sym k.1) ∙ place_of_slash n d r.top.1 in
          let a : n ≡ take place rest = sym (front_of n d) ∙ ap₂ take (sym q) k.1 in
          let b : d ≡ drop (place + 1) rest = sym (behind_of n d) ∙ ap₂ drop (ap suc (sym q) ∙ sym (add-one place)) k.1 in
          subst (λ x. IsRatio x (take place rest) (drop (place + 1) rest) v past) k.0 (subst (λ x. IsRatio m x (drop (place + 1) rest) v past) a (subst (λ x. IsRatio m n x v past) b r))

pub le_from_eq : (a b : ℕ) → a ≡ b → a ≤ b
le_from_eq a b e = omega arith

pub to_end : (l : List ℕ) (n : ℕ) → take (length l - n) (drop n l) ≡ drop n l
to_end l n = take_all (length l - n) (drop n l) (let e = length-drop n l in omega arith)
