-- Columns in which states differ, and assignments taken back.
use Rattle.std.proofs.Common.{◌≡◌, ℕ, zero, suc, ◌+◌, ◌-◌, ◌<◌, ◌≤◌, List, [], ◌∷◌, ◌++◌, length, get_or, Bool, true, false, ◌&&◌, if◌then◌else◌, slice_set, unwrap_or, nat_eq, refl, sym, ap, ap₂, ◌∙◌, arith}
use Rattle.std.proofs.lemmas.Bool.{ne_eqb}
use Rattle.std.proofs.lemmas.List.{get_or_default}
use Rattle.op_trees.specs.declared.tree.Value.{Value}
use Rattle.op_trees.specs.declared.tree.Value.TheVariants as V
use Rattle.process_core.specs.Ready.{Values, Write}
use Rattle.process_core.specs.Choices.{written}
use Rattle.process_core.specs.Equal.{equal_states, equal_values}
use Rattle.state_choices.specs.Apart.{columns_apart, differs, taken_back}

-- ---- one column
pub length_set : (s : Values) (i : ℕ) (v : Value) → length (slice_set s i v) ≡ length s
length_set [] i v = refl
length_set (x ∷ s) zero v = refl
length_set (x ∷ s) (suc i) v = ap suc (length_set s i v)

pub set_past : (s : Values) (i : ℕ) (v : Value) → length s ≤ i → slice_set s i v ≡ s
set_past [] i v h = refl
set_past (x ∷ s) zero v h = let no : ⊥ = omega arith in absurd no
set_past (x ∷ s) (suc i) v h = ap (λ l. x ∷ l) (set_past s i v (omega arith))

set_twice : (s : Values) (i : ℕ) (v w : Value) → slice_set (slice_set s i v) i w ≡ slice_set s i w
set_twice [] i v w = refl
set_twice (x ∷ s) zero v w = refl
set_twice (x ∷ s) (suc i) v w = ap (λ l. x ∷ l) (set_twice s i v w)

set_turned : (f : ℕ → Value) (s : Values) (i j : ℕ) → slice_set (slice_set s i (f i)) j (f j) ≡ slice_set (slice_set s j (f j)) i (f i)
set_turned f [] i j = refl
set_turned f (x ∷ s) zero zero = refl
set_turned f (x ∷ s) zero (suc j) = refl
set_turned f (x ∷ s) (suc i) zero = refl
set_turned f (x ∷ s) (suc i) (suc j) = ap (λ l. x ∷ l) (set_turned (λ k. f (suc k)) s i j)

set_own : (s : Values) (i : ℕ) (d : Value) → slice_set s i (get_or s i d) ≡ s
set_own [] i d = refl
set_own (x ∷ s) zero d = refl
set_own (x ∷ s) (suc i) d = ap (λ l. x ∷ l) (set_own s i d)

-- ---- assignments
pub length-written : (s : Values) (ws : List Write) → length (written s ws) ≡ length s
length-written s [] = refl
length-written s (w ∷ ws) =
    let v = unwrap_or w.value.value (V.Truth false) in
    length-written (slice_set s w.column v) ws ∙ length_set s w.column v

pub length-taken_back : (from s : Values) (ws : List Write) → length (taken_back from s ws) ≡ length s
length-taken_back from s [] = refl
length-taken_back from s (w ∷ ws) =
    let v = get_or from w.column (V.Truth false) in
    length-taken_back from (slice_set s w.column v) ws ∙ length_set s w.column v

pub taken_back-append : (from s : Values) (vs ws : List Write) → taken_back from s (vs ++ ws) ≡ taken_back from (taken_back from s vs) ws
taken_back-append from s [] ws = refl
taken_back-append from s (v ∷ vs) ws = taken_back-append from (slice_set s v.column (get_or from v.column (V.Truth false))) vs ws

module _ (from : Values) where
  abbrev own : ℕ → Value
  own i = get_or from i (V.Truth false)

  -- one column more may be taken back before or after the others
  back_later : (s : Values) (i : ℕ) (ws : List Write) → taken_back from (slice_set s i (own i)) ws ≡ slice_set (taken_back from s ws) i (own i)
  back_later s i [] = refl
  back_later s i (w ∷ ws) =
      ap (λ t. taken_back from t ws) (set_turned own s i w.column)
      ∙ back_later (slice_set s w.column (own w.column)) i ws

  -- what was written is of no matter
  back_from : (s : Values) (ws : List Write) → taken_back from (written s ws) ws ≡ taken_back from s ws
  back_from s [] = refl
  back_from s (w ∷ ws) =
      let v = unwrap_or w.value.value (V.Truth false) in
      back_later (written (slice_set s w.column v) ws) w.column ws
      ∙ ap (λ t. slice_set t w.column (own w.column)) (back_from (slice_set s w.column v) ws)
      ∙ sym (back_later (slice_set s w.column v) w.column ws)
      ∙ ap (λ t. taken_back from t ws) (set_twice s w.column v (own w.column))

  back_none : (ws : List Write) → taken_back from from ws ≡ from
  back_none [] = refl
  back_none (w ∷ ws) = ap (λ t. taken_back from t ws) (set_own from w.column (V.Truth false)) ∙ back_none ws

  pub back_all : (ws : List Write) → taken_back from (written from ws) ws ≡ from
  back_all ws = back_from from ws ∙ back_none ws

-- ---- how many columns differ
differs_below : (b : Bool) → (if b then 0 else 1) ≤ 1
differs_below true = omega arith
differs_below false = omega arith

pub differs_small : (x y : Value) → differs x y ≤ 1
differs_small x y = differs_below (equal_values y x)

pub apart_small : (s t : Values) → columns_apart s t ≤ length s
apart_small [] t = omega arith
apart_small (x ∷ s) [] = omega arith
apart_small (x ∷ s) (y ∷ t) = let a = differs_small x y in let ih = apart_small s t in omega arith

pub apart_set : (s t : Values) (i : ℕ) (x y v : Value) → i < length s → length s ≡ length t → x ≡ get_or s i x → y ≡ get_or t i y →
    columns_apart (slice_set s i v) t + differs x y ≡ columns_apart s t + differs v y
apart_set [] t i x y v h l e f = let no : ⊥ = omega arith in absurd no
apart_set (a ∷ s) [] i x y v h l e f = let no : ⊥ = omega arith in absurd no
apart_set (a ∷ s) (b ∷ t) zero x y v h l e f =
    ap₂ (λ p q. differs v b + columns_apart s t + differs p q) e f
    ∙ turned (differs v b) (columns_apart s t) (differs a b)
    ∙ ap (λ q. differs a b + columns_apart s t + differs v q) (sym f)
  where
    turned : (p q r : ℕ) → p + q + r ≡ r + q + p
    turned p q r = omega arith
apart_set (a ∷ s) (b ∷ t) (suc i) x y v h l e f =
    let ih = apart_set s t i x y v (omega arith) (omega arith) e f in
    more (differs a b) _ _ _ _ ih
  where
    more : (d p q r u : ℕ) → p + q ≡ r + u → d + p + q ≡ d + r + u
    more d p q r u k = omega arith

here_apart : (s t : Values) (i : ℕ) (x y : Value) → i < length s → length s ≡ length t → x ≡ get_or s i x → y ≡ get_or t i y → differs x y ≤ columns_apart s t
here_apart [] t i x y h l e f = let no : ⊥ = omega arith in absurd no
here_apart (a ∷ s) [] i x y h l e f = let no : ⊥ = omega arith in absurd no
here_apart (a ∷ s) (b ∷ t) zero x y h l e f = let d = ap₂ differs e f in omega arith
here_apart (a ∷ s) (b ∷ t) (suc i) x y h l e f = let ih = here_apart s t i x y (omega arith) (omega arith) e f in omega arith

-- one column put
module _ (s t : Values) (i : ℕ) (x y z v : Value) (apart before after : ℕ) (h : i < length s) (l : length s ≡ length t) (e : x ≡ get_or s i x) (f : y ≡ get_or t i y) (g : z ≡ get_or t i z)
    (so_far : apart ≡ columns_apart s t) (b : before ≡ differs x y) (a : after ≡ differs v z) where
  pub put_within : before ≤ apart
  put_within = let k = here_apart s t i x y h l e f in omega arith

  same_wanted : z ≡ y
  same_wanted = g ∙ get_or_default t i z y (omega arith) ∙ sym f

  pub put_apart : apart - before + after ≡ columns_apart (slice_set s i v) t
  put_apart =
      let k = apart_set s t i x y v h l e f in
      let w = here_apart s t i x y h l e f in
      let d = ap (differs v) same_wanted in
      omega arith

  pub put_small : apart - before + after ≤ length s
  put_small =
      let k = apart_small (slice_set s i v) t in
      let n = length_set s i v in
      let p = put_apart in
      omega arith

-- no column differs where the states are equal
none_first : (b : Bool) (n : ℕ) → nat_eq ((if b then 0 else 1) + n) 0 ≡ (b && nat_eq n 0)
none_first true n = ap (λ m. nat_eq m 0) (let e : 0 + n ≡ n = omega arith in e)
none_first false n = ne_eqb (1 + n) 0 (λ e. let no : ⊥ = omega arith in no)

pub none_apart : (s t : Values) → length s ≡ length t → nat_eq (columns_apart s t) 0 ≡ equal_states t s
none_apart [] [] l = refl
none_apart [] (y ∷ t) l = let no : ⊥ = omega arith in absurd no
none_apart (x ∷ s) [] l = let no : ⊥ = omega arith in absurd no
none_apart (x ∷ s) (y ∷ t) l = none_first (equal_values y x) (columns_apart s t) ∙ ap (λ b. equal_values y x && b) (none_apart s t (omega arith))

-- states of other lengths are other states
pub other_length : (s t : Values) → (length s ≡ length t → ⊥) → equal_states t s ≡ false
other_length [] [] l = absurd (l refl)
other_length [] (y ∷ t) l = refl
other_length (x ∷ s) [] l = refl
other_length (x ∷ s) (y ∷ t) l = ap (λ b. equal_values y x && b) (other_length s t (λ e. l (ap suc e))) ∙ nothing (equal_values y x)
  where
    nothing : (b : Bool) → (b && false) ≡ false
    nothing true = refl
    nothing false = refl
