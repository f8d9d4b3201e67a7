-- Expressions without their offsets: written out and renamed, and how large they are.
use Rattle.std.specs.Prelude.{◌≡◌, ℕ, zero, suc, ◌+◌, max, List, Option, Some, None}
use Rattle.std.specs.Option.{option_map}
use Rattle.std.proofs.Common.{refl, sym, ap, ap₂, ◌∙◌}
use Rattle.std.proofs.Math.Path.{fun_ext}
use Rattle.op_trees.specs.Meaning.{Meaning}
use Rattle.op_trees.specs.Seen.{Seen, seen, looked_up}
use Rattle.op_trees.specs.SeenLaws.{seen-bare, seen-written_out}
use Rattle.op_trees.specs.Tree.{Tree, Truth, Number, Name, One, Two, Three, bare, node_count, height_of, replaced, substituted, written_out, renamed}
use Rattle.op_trees.specs.TypeLaws.{type-bare, type-written_out}
use Rattle.op_trees.specs.Types.{Types, type_in, types_looked_up}
use Rattle.basics.specs.Mapped.{some_turned}

module _ {O : Type 0} where
  -- ---- sizes
  pub count-bare : (t : Tree O) → node_count (bare t) ≡ node_count t
  count-bare (Truth at b) = refl
  count-bare (Number at d) = refl
  count-bare (Name at x) = refl
  count-bare (One at o a) = ap (λ n. n + 1) (count-bare a)
  count-bare (Two at o a b) = ap₂ (λ k n. k + n + 1) (count-bare a) (count-bare b)
  count-bare (Three at o a b c) = ap₂ {B = ℕ → ℕ} (λ k g. g k) (count-bare a) (ap₂ (λ m n k. k + m + n + 1) (count-bare b) (count-bare c))

  pub height-bare : (t : Tree O) → height_of (bare t) ≡ height_of t
  height-bare (Truth at b) = refl
  height-bare (Number at d) = refl
  height-bare (Name at x) = refl
  height-bare (One at o a) = ap (λ n. n + 1) (height-bare a)
  height-bare (Two at o a b) = ap₂ (λ k n. max k n + 1) (height-bare a) (height-bare b)
  height-bare (Three at o a b c) = ap₂ {B = ℕ → ℕ} (λ k g. g k) (height-bare a) (ap₂ (λ m n k. max k (max m n) + 1) (height-bare b) (height-bare c))

  -- ---- renaming and writing out
  three : (at : ℕ) (o : O) {a b c x y z : Tree O} → a ≡ x → b ≡ y → c ≡ z → Three at o a b c ≡ Three at o x y z
  three at o e h k = ap₂ {B = Tree O → Tree O} (λ a g. g a) e (ap₂ (λ b c a. Three at o a b c) h k)

  pub renamed-bare : (new : List ℕ → List ℕ) (t : Tree O) → renamed new (bare t) ≡ bare (renamed new t)
  renamed-bare new (Truth at b) = refl
  renamed-bare new (Number at d) = refl
  renamed-bare new (Name at x) = refl
  renamed-bare new (One at o a) = ap (One 0 o) (renamed-bare new a)
  renamed-bare new (Two at o a b) = ap₂ (Two 0 o) (renamed-bare new a) (renamed-bare new b)
  renamed-bare new (Three at o a b c) = three 0 o (renamed-bare new a) (renamed-bare new b) (renamed-bare new c)

  replaced-bare : (at : ℕ) (x : List ℕ) (o : Option (Tree O)) → replaced (Name 0 x) (option_map bare o) ≡ bare (replaced (Name at x) o)
  replaced-bare at x None = refl
  replaced-bare at x (Some b) = refl

  substituted-bare : (bodies : List ℕ → Option (Tree O)) (t : Tree O) → substituted (λ x. option_map bare (bodies x)) (bare t) ≡ bare (substituted bodies t)
  substituted-bare bodies (Truth at b) = refl
  substituted-bare bodies (Number at d) = refl
  substituted-bare bodies (Name at x) = replaced-bare at x (bodies x)
  substituted-bare bodies (One at o a) = ap (One 0 o) (substituted-bare bodies a)
  substituted-bare bodies (Two at o a b) = ap₂ (Two 0 o) (substituted-bare bodies a) (substituted-bare bodies b)
  substituted-bare bodies (Three at o a b c) = three 0 o (substituted-bare bodies a) (substituted-bare bodies b) (substituted-bare bodies c)

  pub written_out-bare : (bodies : List ℕ → Option (Tree O)) (n : ℕ) (t : Tree O) → written_out (λ x. option_map bare (bodies x)) n (bare t) ≡ bare (written_out bodies n t)
  written_out-bare bodies zero t = refl
  written_out-bare bodies (suc n) t =
      ap (λ f. substituted f (bare t)) (fun_ext (λ x. some_turned bare bare _ _ (written_out-bare bodies n) (bodies x)))
      ∙ substituted-bare (λ x. option_map (written_out bodies n) (bodies x)) t

  -- ---- what is seen of names, and their types: those of the names written out
  module _ (m : Meaning O) (bodies : List ℕ → Option (Tree O)) (n : ℕ) where
    abbrev bare_bodies : List ℕ → Option (Tree O)
    bare_bodies x = option_map bare (bodies x)

    pub looked_up-bare : (env : List ℕ → Seen) → looked_up m bare_bodies n env ≡ looked_up m bodies n env
    looked_up-bare env =
        fun_ext (λ x. sym (seen-written_out m bare_bodies env n (Name 0 x)) ∙ ap (λ t. seen m t env) (written_out-bare bodies n (Name 0 x))
        ∙ seen-bare m (written_out bodies n (Name 0 x)) env ∙ seen-written_out m bodies env n (Name 0 x))

    pub types-bare : (types : Types) → types_looked_up m bare_bodies n types ≡ types_looked_up m bodies n types
    types-bare types =
        fun_ext (λ x. sym (type-written_out m bare_bodies types n (Name 0 x)) ∙ ap (type_in m types) (written_out-bare bodies n (Name 0 x))
        ∙ type-bare m (written_out bodies n (Name 0 x)) types ∙ type-written_out m bodies types n (Name 0 x))
