-- Sums of capped numbers are capped as the sums of the numbers are.
use Rattle.std.specs.Prelude.{ℕ, ◌+◌, max, List, [], ◌∷◌, ◌++◌}
use Rattle.std.proofs.Common.{◌≡◌, refl, arith}
use Rattle.op_trees.specs.Tree.{Tree, Truth, Number, Name as At, One, Two, Three, AllNames, capped}
use Rattle.op_trees.specs.SeenLaws.{names_all}
use Rattle.process_core.specs.Ready.{Name}
use Rattle.prism_flat.specs.Sizes.{nodes_by, height_by}
use Rattle.prism_check.specs.Demands.{Demand, expression_of}
use Rattle.prism_check.specs.Counted.{nodes_of, highest}

twice : (k n : ℕ) → k ≡ capped n → capped k ≡ capped n
twice k n h = omega (arith, h)

one_more : (a b : ℕ) → capped a ≡ capped b → capped (a + 1) ≡ capped (b + 1)
one_more a b p = omega (arith, p)

pub sum_capped : (a b c d : ℕ) → capped a ≡ capped b → capped c ≡ capped d → capped (a + c) ≡ capped (b + d)
sum_capped a b c d p q = omega (arith, p, q)

pub max_capped : (a b c d : ℕ) → capped a ≡ capped b → capped c ≡ capped d → capped (max a c) ≡ capped (max b d)
max_capped a b c d p q = omega (arith, p, q)

-- ---- one expression
pub nodes_capped_on : {O : Type 0} (f g : List ℕ → ℕ) (t : Tree O) → AllNames (λ x. f x ≡ capped (g x)) t → capped (nodes_by f t) ≡ capped (nodes_by g t)
nodes_capped_on f g (Truth at b) h = refl
nodes_capped_on f g (Number at d) h = refl
nodes_capped_on f g (At at x) h = twice (f x) (g x) h
nodes_capped_on f g (One at o a) h = one_more (nodes_by f a) (nodes_by g a) (nodes_capped_on f g a h)
nodes_capped_on f g (Two at o a b) h =
    one_more (nodes_by f a + nodes_by f b) (nodes_by g a + nodes_by g b)
    (sum_capped (nodes_by f a) (nodes_by g a) (nodes_by f b) (nodes_by g b) (nodes_capped_on f g a h.0) (nodes_capped_on f g b h.1))
nodes_capped_on f g (Three at o a b c) h =
    one_more (nodes_by f a + nodes_by f b + nodes_by f c) (nodes_by g a + nodes_by g b + nodes_by g c)
    (sum_capped (nodes_by f a + nodes_by f b) (nodes_by g a + nodes_by g b) (nodes_by f c) (nodes_by g c)
    (sum_capped (nodes_by f a) (nodes_by g a) (nodes_by f b) (nodes_by g b) (nodes_capped_on f g a h.0) (nodes_capped_on f g b h.1)) (nodes_capped_on f g c h.2))

pub height_capped_on : {O : Type 0} (f g : List ℕ → ℕ) (t : Tree O) → AllNames (λ x. f x ≡ capped (g x)) t → capped (height_by f t) ≡ capped (height_by g t)
height_capped_on f g (Truth at b) h = refl
height_capped_on f g (Number at d) h = refl
height_capped_on f g (At at x) h = twice (f x) (g x) h
height_capped_on f g (One at o a) h = one_more (height_by f a) (height_by g a) (height_capped_on f g a h)
height_capped_on f g (Two at o a b) h =
    one_more (max (height_by f a) (height_by f b)) (max (height_by g a) (height_by g b))
    (max_capped (height_by f a) (height_by g a) (height_by f b) (height_by g b) (height_capped_on f g a h.0) (height_capped_on f g b h.1))
height_capped_on f g (Three at o a b c) h =
    one_more (max (height_by f a) (max (height_by f b) (height_by f c))) (max (height_by g a) (max (height_by g b) (height_by g c)))
    (max_capped (height_by f a) (height_by g a) (max (height_by f b) (height_by f c)) (max (height_by g b) (height_by g c)) (height_capped_on f g a h.0)
    (max_capped (height_by f b) (height_by g b) (height_by f c) (height_by g c) (height_capped_on f g b h.1) (height_capped_on f g c h.2)))

-- ---- all expressions of a list
pub nodes_of_capped : (f g : Name → ℕ) → ((x : Name) → f x ≡ capped (g x)) → (ds : List Demand) → capped (nodes_of f ds) ≡ capped (nodes_of g ds)
nodes_of_capped f g h [] = refl
nodes_of_capped f g h (d ∷ ds) =
    sum_capped (nodes_by f (expression_of d)) (nodes_by g (expression_of d)) (nodes_of f ds) (nodes_of g ds)
    (nodes_capped_on f g (expression_of d) (names_all (λ x. f x ≡ capped (g x)) h (expression_of d))) (nodes_of_capped f g h ds)

pub highest_capped : (f g : Name → ℕ) → ((x : Name) → f x ≡ capped (g x)) → (ds : List Demand) → capped (highest f ds) ≡ capped (highest g ds)
highest_capped f g h [] = refl
highest_capped f g h (d ∷ ds) =
    max_capped (height_by f (expression_of d)) (height_by g (expression_of d)) (highest f ds) (highest g ds)
    (height_capped_on f g (expression_of d) (names_all (λ x. f x ≡ capped (g x)) h (expression_of d))) (highest_capped f g h ds)

-- ---- lists put together
pub nodes_of-append : (f : Name → ℕ) (ds es : List Demand) → nodes_of f (ds ++ es) ≡ nodes_of f ds + nodes_of f es
nodes_of-append f [] es = omega arith
nodes_of-append f (d ∷ ds) es = let ih = nodes_of-append f ds es in omega (arith, ih)

pub highest-append : (f : Name → ℕ) (ds es : List Demand) → highest f (ds ++ es) ≡ max (highest f ds) (highest f es)
highest-append f [] es = omega arith
highest-append f (d ∷ ds) es = let ih = highest-append f ds es in omega (arith, ih)
