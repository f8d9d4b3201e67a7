-- How many nodes a tree has, and how high it is, once the names that have bodies are written out, counted on the tree as it
-- stands.
use Rattle.std.specs.Prelude.{◌≡◌, ℕ, zero, suc, ◌+◌, max, List, Option, Some, None}
use Rattle.std.specs.Option.{option_map}
use Rattle.std.proofs.Common.{refl, sym, ap, ap₂, ◌∙◌}
use Rattle.op_trees.specs.Tree.{Tree, Truth, Number, Name, One, Two, Three, AllNames, node_count, height_of, replaced, substituted, written_out, renamed}
use Rattle.op_trees.specs.Seen.{FallsTo, IsFalling}
use Rattle.op_trees.specs.SeenLaws.{names_all, names_then}
use Rattle.prism_names.specs.WrittenOut.{lower, lowest}

-- the nodes where a name counts as so many
abbrev pub nodes_by : {O : Type 0} → (List ℕ → ℕ) → Tree O → ℕ
nodes_by f (Truth at b) = 1
nodes_by f (Number at d) = 1
nodes_by f (Name at x) = f x
nodes_by f (One at o a) = nodes_by f a + 1
nodes_by f (Two at o a b) = nodes_by f a + nodes_by f b + 1
nodes_by f (Three at o a b c) = nodes_by f a + nodes_by f b + nodes_by f c + 1

-- the height where a name is so high
abbrev pub height_by : {O : Type 0} → (List ℕ → ℕ) → Tree O → ℕ
height_by f (Truth at b) = 1
height_by f (Number at d) = 1
height_by f (Name at x) = f x
height_by f (One at o a) = height_by f a + 1
height_by f (Two at o a b) = max (height_by f a) (height_by f b) + 1
height_by f (Three at o a b c) = max (height_by f a) (max (height_by f b) (height_by f c)) + 1

-- what a name counts: as its body, else 1
abbrev pub count_of : {O : Type 0} → Option (Tree O) → (Tree O → ℕ) → ℕ
count_of None count = 1
count_of (Some b) count = count b

module _ {O : Type 0} (bodies : List ℕ → Option (Tree O)) where
  abbrev pub name_nodes : ℕ → List ℕ → ℕ
  name_nodes zero x = 1
  name_nodes (suc n) x = count_of (bodies x) (nodes_by (name_nodes n))

  abbrev pub name_height : ℕ → List ℕ → ℕ
  name_height zero x = 1
  name_height (suc n) x = count_of (bodies x) (height_by (name_height n))

-- ---- nodes
nodes_at : {O : Type 0} (at : ℕ) (x : List ℕ) (o : Option (Tree O)) → node_count (replaced (Name at x) o) ≡ count_of o node_count
nodes_at at x None = refl
nodes_at at x (Some b) = refl

nodes-substituted : {O : Type 0} (f : List ℕ → Option (Tree O)) (t : Tree O) → node_count (substituted f t) ≡ nodes_by (λ x. count_of (f x) node_count) t
nodes-substituted f (Truth at b) = refl
nodes-substituted f (Number at d) = refl
nodes-substituted f (Name at x) = nodes_at at x (f x)
nodes-substituted f (One at o a) = ap (λ n. n + 1) (nodes-substituted f a)
nodes-substituted f (Two at o a b) = ap₂ (λ k n. k + n + 1) (nodes-substituted f a) (nodes-substituted f b)
nodes-substituted f (Three at o a b c) =
    ap₂ {B = ℕ → ℕ} (λ k g. g k) (nodes-substituted f a) (ap₂ (λ m n k. k + m + n + 1) (nodes-substituted f b) (nodes-substituted f c))

pub nodes_by_agree_on : {O : Type 0} (f g : List ℕ → ℕ) (t : Tree O) → AllNames (λ x. f x ≡ g x) t → nodes_by f t ≡ nodes_by g t
nodes_by_agree_on f g (Truth at b) h = refl
nodes_by_agree_on f g (Number at d) h = refl
nodes_by_agree_on f g (Name at x) h = h
nodes_by_agree_on f g (One at o a) h = ap (λ n. n + 1) (nodes_by_agree_on f g a h)
nodes_by_agree_on f g (Two at o a b) h = ap₂ (λ k n. k + n + 1) (nodes_by_agree_on f g a h.0) (nodes_by_agree_on f g b h.1)
nodes_by_agree_on f g (Three at o a b c) h =
    ap₂ {B = ℕ → ℕ} (λ k q. q k) (nodes_by_agree_on f g a h.0) (ap₂ (λ m n k. k + m + n + 1) (nodes_by_agree_on f g b h.1) (nodes_by_agree_on f g c h.2))

nodes_by_agree : {O : Type 0} (f g : List ℕ → ℕ) → ((x : List ℕ) → f x ≡ g x) → (t : Tree O) → nodes_by f t ≡ nodes_by g t
nodes_by_agree f g h t = nodes_by_agree_on f g t (names_all (λ x. f x ≡ g x) h t)

nodes_plain : {O : Type 0} (t : Tree O) → node_count t ≡ nodes_by (λ x. 1) t
nodes_plain (Truth at b) = refl
nodes_plain (Number at d) = refl
nodes_plain (Name at x) = refl
nodes_plain (One at o a) = ap (λ n. n + 1) (nodes_plain a)
nodes_plain (Two at o a b) = ap₂ (λ k n. k + n + 1) (nodes_plain a) (nodes_plain b)
nodes_plain (Three at o a b c) = ap₂ {B = ℕ → ℕ} (λ k q. q k) (nodes_plain a) (ap₂ (λ m n k. k + m + n + 1) (nodes_plain b) (nodes_plain c))

pub nodes-renamed : {O : Type 0} (new : List ℕ → List ℕ) (t : Tree O) → node_count (renamed new t) ≡ node_count t
nodes-renamed new (Truth at b) = refl
nodes-renamed new (Number at d) = refl
nodes-renamed new (Name at x) = refl
nodes-renamed new (One at o a) = ap (λ n. n + 1) (nodes-renamed new a)
nodes-renamed new (Two at o a b) = ap₂ (λ k n. k + n + 1) (nodes-renamed new a) (nodes-renamed new b)
nodes-renamed new (Three at o a b c) =
    ap₂ {B = ℕ → ℕ} (λ k q. q k) (nodes-renamed new a) (ap₂ (λ m n k. k + m + n + 1) (nodes-renamed new b) (nodes-renamed new c))

module _ {O : Type 0} (bodies : List ℕ → Option (Tree O)) where
  nodes_of_body : (n : ℕ) → ((t : Tree O) → node_count (written_out bodies n t) ≡ nodes_by (name_nodes bodies n) t) →
      (o : Option (Tree O)) → count_of (option_map (written_out bodies n) o) node_count ≡ count_of o (nodes_by (name_nodes bodies n))
  nodes_of_body n ih None = refl
  nodes_of_body n ih (Some b) = ih b

  pub nodes-written_out : (n : ℕ) (t : Tree O) → node_count (written_out bodies n t) ≡ nodes_by (name_nodes bodies n) t
  nodes-written_out zero t = nodes_plain t ∙ nodes_by_agree (λ x. 1) (name_nodes bodies zero) (λ x. refl) t
  nodes-written_out (suc n) t =
      nodes-substituted (λ x. option_map (written_out bodies n) (bodies x)) t
      ∙ nodes_by_agree _ (name_nodes bodies (suc n)) (λ x. nodes_of_body n (nodes-written_out n) (bodies x)) t

-- ---- heights
height_at : {O : Type 0} (at : ℕ) (x : List ℕ) (o : Option (Tree O)) → height_of (replaced (Name at x) o) ≡ count_of o height_of
height_at at x None = refl
height_at at x (Some b) = refl

height-substituted : {O : Type 0} (f : List ℕ → Option (Tree O)) (t : Tree O) → height_of (substituted f t) ≡ height_by (λ x. count_of (f x) height_of) t
height-substituted f (Truth at b) = refl
height-substituted f (Number at d) = refl
height-substituted f (Name at x) = height_at at x (f x)
height-substituted f (One at o a) = ap (λ n. n + 1) (height-substituted f a)
height-substituted f (Two at o a b) = ap₂ (λ k n. max k n + 1) (height-substituted f a) (height-substituted f b)
height-substituted f (Three at o a b c) =
    ap₂ {B = ℕ → ℕ} (λ k g. g k) (height-substituted f a) (ap₂ (λ m n k. max k (max m n) + 1) (height-substituted f b) (height-substituted f c))

pub height_by_agree_on : {O : Type 0} (f g : List ℕ → ℕ) (t : Tree O) → AllNames (λ x. f x ≡ g x) t → height_by f t ≡ height_by g t
height_by_agree_on f g (Truth at b) h = refl
height_by_agree_on f g (Number at d) h = refl
height_by_agree_on f g (Name at x) h = h
height_by_agree_on f g (One at o a) h = ap (λ n. n + 1) (height_by_agree_on f g a h)
height_by_agree_on f g (Two at o a b) h = ap₂ (λ k n. max k n + 1) (height_by_agree_on f g a h.0) (height_by_agree_on f g b h.1)
height_by_agree_on f g (Three at o a b c) h =
    ap₂ {B = ℕ → ℕ} (λ k q. q k) (height_by_agree_on f g a h.0) (ap₂ (λ m n k. max k (max m n) + 1) (height_by_agree_on f g b h.1) (height_by_agree_on f g c h.2))

height_by_agree : {O : Type 0} (f g : List ℕ → ℕ) → ((x : List ℕ) → f x ≡ g x) → (t : Tree O) → height_by f t ≡ height_by g t
height_by_agree f g h t = height_by_agree_on f g t (names_all (λ x. f x ≡ g x) h t)

height_plain : {O : Type 0} (t : Tree O) → height_of t ≡ height_by (λ x. 1) t
height_plain (Truth at b) = refl
height_plain (Number at d) = refl
height_plain (Name at x) = refl
height_plain (One at o a) = ap (λ n. n + 1) (height_plain a)
height_plain (Two at o a b) = ap₂ (λ k n. max k n + 1) (height_plain a) (height_plain b)
height_plain (Three at o a b c) =
    ap₂ {B = ℕ → ℕ} (λ k q. q k) (height_plain a) (ap₂ (λ m n k. max k (max m n) + 1) (height_plain b) (height_plain c))

pub height-renamed : {O : Type 0} (new : List ℕ → List ℕ) (t : Tree O) → height_of (renamed new t) ≡ height_of t
height-renamed new (Truth at b) = refl
height-renamed new (Number at d) = refl
height-renamed new (Name at x) = refl
height-renamed new (One at o a) = ap (λ n. n + 1) (height-renamed new a)
height-renamed new (Two at o a b) = ap₂ (λ k n. max k n + 1) (height-renamed new a) (height-renamed new b)
height-renamed new (Three at o a b c) =
    ap₂ {B = ℕ → ℕ} (λ k q. q k) (height-renamed new a) (ap₂ (λ m n k. max k (max m n) + 1) (height-renamed new b) (height-renamed new c))

module _ {O : Type 0} (bodies : List ℕ → Option (Tree O)) where
  height_of_body : (n : ℕ) → ((t : Tree O) → height_of (written_out bodies n t) ≡ height_by (name_height bodies n) t) →
      (o : Option (Tree O)) → count_of (option_map (written_out bodies n) o) height_of ≡ count_of o (height_by (name_height bodies n))
  height_of_body n ih None = refl
  height_of_body n ih (Some b) = ih b

  pub height-written_out : (n : ℕ) (t : Tree O) → height_of (written_out bodies n t) ≡ height_by (name_height bodies n) t
  height-written_out zero t = height_plain t ∙ height_by_agree (λ x. 1) (name_height bodies zero) (λ x. refl) t
  height-written_out (suc n) t =
      height-substituted (λ x. option_map (written_out bodies n) (bodies x)) t
      ∙ height_by_agree _ (name_height bodies (suc n)) (λ x. height_of_body n (height-written_out n) (bodies x)) t

-- ---- bodies that lead round in no circle: at a depth above all ranks a name counts as its body does
module _ {O : Type 0} (bodies : List ℕ → Option (Tree O)) (rank : List ℕ → ℕ) (falling : IsFalling bodies rank) where
  count_none : (o : Option (Tree O)) (count : Tree O → ℕ) → o ≡ None → 1 ≡ count_of o count
  count_none o count e = ap (λ p. count_of p count) (sym e)

  nodes_settle : (n : ℕ) → ((y : List ℕ) → FallsTo bodies rank n y → name_nodes bodies n y ≡ name_nodes bodies (suc n) y) →
      (x : List ℕ) (o : Option (Tree O)) → bodies x ≡ o → FallsTo bodies rank (suc n) x →
      count_of o (nodes_by (name_nodes bodies n)) ≡ count_of o (nodes_by (name_nodes bodies (suc n)))
  nodes_settle n ih x None e f = refl
  nodes_settle n ih x (Some b) e f =
      nodes_by_agree_on (name_nodes bodies n) (name_nodes bodies (suc n)) b
      (names_then (FallsTo bodies rank n) (λ y. name_nodes bodies n y ≡ name_nodes bodies (suc n) y) ih b (lower bodies rank falling n x b e f))

  pub name_nodes_settled : (n : ℕ) (x : List ℕ) → FallsTo bodies rank n x → name_nodes bodies n x ≡ name_nodes bodies (suc n) x
  name_nodes_settled zero x f = count_none (bodies x) (nodes_by (name_nodes bodies zero)) (lowest bodies rank falling x (bodies x) refl f)
  name_nodes_settled (suc n) x f = nodes_settle n (name_nodes_settled n) x (bodies x) refl f

  height_settles : (n : ℕ) → ((y : List ℕ) → FallsTo bodies rank n y → name_height bodies n y ≡ name_height bodies (suc n) y) →
      (x : List ℕ) (o : Option (Tree O)) → bodies x ≡ o → FallsTo bodies rank (suc n) x →
      count_of o (height_by (name_height bodies n)) ≡ count_of o (height_by (name_height bodies (suc n)))
  height_settles n ih x None e f = refl
  height_settles n ih x (Some b) e f =
      height_by_agree_on (name_height bodies n) (name_height bodies (suc n)) b
      (names_then (FallsTo bodies rank n) (λ y. name_height bodies n y ≡ name_height bodies (suc n) y) ih b (lower bodies rank falling n x b e f))

  pub name_height_settled : (n : ℕ) (x : List ℕ) → FallsTo bodies rank n x → name_height bodies n x ≡ name_height bodies (suc n) x
  name_height_settled zero x f = count_none (bodies x) (height_by (name_height bodies zero)) (lowest bodies rank falling x (bodies x) refl f)
  name_height_settled (suc n) x f = height_settles n (name_height_settled n) x (bodies x) refl f
