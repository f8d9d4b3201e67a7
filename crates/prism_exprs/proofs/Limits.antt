-- What is in one of a family of languages that grow.
use Rattle.std.proofs.Common.{ℕ, zero, suc, ◌+◌, ◌≤◌, List, [], ◌∷◌, arith, inl, inr}
use Rattle.std.specs.Prelude.{◌⊎◌}
use Rattle.prism_lex.specs.Tokens.{Lexeme}
use Rattle.prism_tree.specs.Lang.{Lang, gives, folding, fold_left, ◌>>=◌, ◌or◌, many}

-- F grows, and G is all of it
pub record IsLimit {A : Type 0} (F : ℕ → Lang A) (G : Lang A) : Type 0 where
  pub up : (m n : ℕ) → m ≤ n → (w : List Lexeme) (x : A) → F m w x → F n w x
  pub below : (n : ℕ) (w : List Lexeme) (x : A) → F n w x → G w x
  pub reach : (w : List Lexeme) (x : A) → G w x → (n : ℕ) × F n w x

pub const_limit : {A : Type 0} (L : Lang A) → IsLimit (λ n. L) L
const_limit L = record { up = λ m n h w x p. p; below = λ n w x p. p; reach = λ w x p. (0, p) }

pub then_limit : {A B : Type 0} {F : ℕ → Lang A} {G : Lang A} {M : ℕ → A → Lang B} {N : A → Lang B} → IsLimit F G → ((x : A) → IsLimit (λ n. M n x) (N x)) → IsLimit (λ n. F n >>= M n) (G >>= N)
unfolding ◌>>=◌
then_limit {A} {B} {F} {G} {M} {N} f g = record {
  up = λ m n h w y p. (p.0, p.1, p.2, p.3, f.up m n h p.1 p.0 p.4, (g p.0).up m n h p.2 y p.5);
  below = λ n w y p. (p.0, p.1, p.2, p.3, f.below n p.1 p.0 p.4, (g p.0).below n p.2 y p.5);
  reach = λ w y p.
      let i = f.reach p.1 p.0 p.4 in
      let j = (g p.0).reach p.2 y p.5 in
      (i.0 + j.0, (p.0, p.1, p.2, p.3, f.up i.0 (i.0 + j.0) (omega arith) p.1 p.0 i.1, (g p.0).up j.0 (i.0 + j.0) (omega arith) p.2 y j.1));
}

pub or_limit : {A : Type 0} {F K : ℕ → Lang A} {G H : Lang A} → IsLimit F G → IsLimit K H → IsLimit (λ n. F n or K n) (G or H)
unfolding ◌or◌
or_limit {A} {F} {K} {G} {H} f k = record { up = up; below = below; reach = reach }
  where
    up : (m n : ℕ) → m ≤ n → (w : List Lexeme) (x : A) → F m w x ⊎ K m w x → F n w x ⊎ K n w x
    up m n h w x (inl p) = inl (f.up m n h w x p)
    up m n h w x (inr p) = inr (k.up m n h w x p)

    below : (n : ℕ) (w : List Lexeme) (x : A) → F n w x ⊎ K n w x → G w x ⊎ H w x
    below n w x (inl p) = inl (f.below n w x p)
    below n w x (inr p) = inr (k.below n w x p)

    reach : (w : List Lexeme) (x : A) → G w x ⊎ H w x → (n : ℕ) × (F n w x ⊎ K n w x)
    reach w x (inl p) = let i = f.reach w x p in (i.0, inl i.1)
    reach w x (inr p) = let i = k.reach w x p in (i.0, inr i.1)

pub many_limit : {A : Type 0} {F : ℕ → Lang A} {G : Lang A} → IsLimit F G → IsLimit (λ n. many (F n)) (many G)
unfolding many
many_limit {A} {F} {G} f = record { up = λ m n h w x. up m n h x w; below = λ n w x. below n x w; reach = λ w x. reach x w }
  where
    up : (m n : ℕ) → m ≤ n → (xs : List A) (w : List Lexeme) → many (F m) w xs → many (F n) w xs
    up m n h [] w p = p
    up m n h (x ∷ xs) w p = (p.0, p.1, p.2, f.up m n h p.0 x p.3, up m n h xs p.1 p.4)

    below : (n : ℕ) (xs : List A) (w : List Lexeme) → many (F n) w xs → many G w xs
    below n [] w p = p
    below n (x ∷ xs) w p = (p.0, p.1, p.2, f.below n p.0 x p.3, below n xs p.1 p.4)

    reach : (xs : List A) (w : List Lexeme) → many G w xs → (n : ℕ) × many (F n) w xs
    reach [] w p = (0, p)
    reach (x ∷ xs) w p =
        let i = f.reach p.0 x p.3 in
        let j = reach xs p.1 p.4 in
        (i.0 + j.0, (p.0, p.1, p.2, f.up i.0 (i.0 + j.0) (omega arith) p.0 x i.1, up j.0 (i.0 + j.0) (omega arith) xs p.1 j.1))

pub folding_limit : {S A : Type 0} (f : S → A → S) {F : ℕ → Lang A} {G : Lang A} (s : S) → IsLimit F G → IsLimit (λ n. folding f (F n) s) (folding f G s)
unfolding folding
folding_limit f s l = then_limit (many_limit l) (λ xs. const_limit (gives (fold_left f s xs)))

-- a family of two: L, and then M, which has all of L
abbrev pub two : {A : Type 0} → Lang A → Lang A → ℕ → Lang A
two L M zero = L
two L M (suc n) = M

pub two_limit : {A : Type 0} (L M : Lang A) → ((w : List Lexeme) (x : A) → L w x → M w x) → IsLimit (two L M) M
two_limit {A} L M h = record { up = up; below = below; reach = λ w x p. (1, p) }
  where
    up : (m n : ℕ) → m ≤ n → (w : List Lexeme) (x : A) → two L M m w x → two L M n w x
    up zero zero e w x p = p
    up zero (suc n) e w x p = h w x p
    up (suc m) zero e w x p = absurd (omega arith)
    up (suc m) (suc n) e w x p = p

    below : (n : ℕ) (w : List Lexeme) (x : A) → two L M n w x → M w x
    below zero w x p = h w x p
    below (suc n) w x p = p
