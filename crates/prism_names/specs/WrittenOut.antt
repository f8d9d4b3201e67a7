-- Trees whose names have bodies that lead round in no circle: written out to a depth, no name with a body is left, and one
-- substitution by bodies that are written out does the same.
use Rattle.std.specs.Prelude.{◌≡◌, ℕ, zero, suc, ◌<◌, List, Option, Some, None}
use Rattle.std.specs.Option.{option_map}
use Rattle.std.proofs.Common.{refl, sym, ap, ap₂, arith}
use Rattle.op_trees.specs.Tree.{Tree, Truth, Number, Name, One, Two, Three, AllNames, replaced, substituted, written_out}
use Rattle.op_trees.specs.Seen.{FallsTo, IsFalling}
use Rattle.op_trees.specs.SeenLaws.{names_then}

-- bodies that agree on the names of a tree give the same tree
pub substituted_agree_on : {O : Type 0} (f g : List ℕ → Option (Tree O)) (t : Tree O) → AllNames (λ x. f x ≡ g x) t → substituted f t ≡ substituted g t
substituted_agree_on f g (Truth at b) h = refl
substituted_agree_on f g (Number at d) h = refl
substituted_agree_on f g (Name at x) h = ap (replaced (Name at x)) h
substituted_agree_on f g (One at o a) h = ap (One at o) (substituted_agree_on f g a h)
substituted_agree_on f g (Two at o a b) h = ap₂ (Two at o) (substituted_agree_on f g a h.0) (substituted_agree_on f g b h.1)
substituted_agree_on {O = O} f g (Three at o a b c) h =
    ap₂ {B = Tree O → Tree O} (λ r k. k r) (substituted_agree_on f g a h.0)
    (ap₂ (λ s t r. Three at o r s t) (substituted_agree_on f g b h.1) (substituted_agree_on f g c h.2))

-- without bodies nothing changes
pub substituted_none : {O : Type 0} (f : List ℕ → Option (Tree O)) (t : Tree O) → AllNames (λ x. f x ≡ None) t → substituted f t ≡ t
substituted_none f (Truth at b) h = refl
substituted_none f (Number at d) h = refl
substituted_none f (Name at x) h = ap (replaced (Name at x)) h
substituted_none f (One at o a) h = ap (One at o) (substituted_none f a h)
substituted_none f (Two at o a b) h = ap₂ (Two at o) (substituted_none f a h.0) (substituted_none f b h.1)
substituted_none {O = O} f (Three at o a b c) h =
    ap₂ {B = Tree O → Tree O} (λ r k. k r) (substituted_none f a h.0)
    (ap₂ (λ s t r. Three at o r s t) (substituted_none f b h.1) (substituted_none f c h.2))

-- the names after a substitution are those of the bodies, and those without body
pub names-substituted : {O : Type 0} (P : List ℕ → Type 0) (f : List ℕ → Option (Tree O)) (t : Tree O) →
    AllNames (λ x. (at : ℕ) → AllNames P (replaced (Name at x) (f x))) t → AllNames P (substituted f t)
names-substituted P f (Truth at b) h = tt
names-substituted P f (Number at d) h = tt
names-substituted P f (Name at x) h = h at
names-substituted P f (One at o a) h = names-substituted P f a h
names-substituted P f (Two at o a b) h = (names-substituted P f a h.0, names-substituted P f b h.1)
names-substituted P f (Three at o a b c) h = (names-substituted P f a h.0, names-substituted P f b h.1, names-substituted P f c h.2)

module _ {O : Type 0} (bodies : List ℕ → Option (Tree O)) (rank : List ℕ → ℕ) (falling : IsFalling bodies rank) where
  -- the names in a body fall below what its own name falls below
  pub lower : (n : ℕ) (x : List ℕ) (b : Tree O) → bodies x ≡ Some b → FallsTo bodies rank (suc n) x → AllNames (FallsTo bodies rank n) b
  lower n x b e f =
      let low : rank x < suc n = f.below b e in
      names_then (FallsTo bodies rank (rank x)) (FallsTo bodies rank n)
      (λ y g. record {
        below = λ c k. let deep : rank y < rank x = g.below c k in omega arith;
      }) b (falling.falls x b e)

  -- a name that falls below nothing has no body
  pub lowest : (x : List ℕ) (o : Option (Tree O)) → bodies x ≡ o → FallsTo bodies rank 0 x → o ≡ None
  lowest x None e f = refl
  lowest x (Some b) e f = absurd (let low : rank x < 0 = f.below b e in omega arith)

  abbrev pub body_written_out : ℕ → List ℕ → Option (Tree O)
  body_written_out n x = option_map (written_out bodies n) (bodies x)

  body_settled : (n : ℕ) → ((t : Tree O) → AllNames (FallsTo bodies rank n) t → written_out bodies n t ≡ written_out bodies (suc n) t) →
      (x : List ℕ) (o : Option (Tree O)) → bodies x ≡ o → FallsTo bodies rank (suc n) x →
      option_map (written_out bodies n) o ≡ option_map (written_out bodies (suc n)) o
  body_settled n ih x None e f = refl
  body_settled n ih x (Some b) e f = ap Some (ih b (lower n x b e f))

  none_below : (x : List ℕ) (o : Option (Tree O)) → o ≡ None → option_map (written_out bodies zero) o ≡ None
  none_below x o e = ap (option_map (written_out bodies zero)) e

  -- where all names of a tree fall below a depth, to write it out deeper changes nothing
  pub written_out_settled : (n : ℕ) (t : Tree O) → AllNames (FallsTo bodies rank n) t → written_out bodies n t ≡ written_out bodies (suc n) t
  written_out_settled zero t h =
      sym (substituted_none (body_written_out zero) t
      (names_then (FallsTo bodies rank 0) (λ x. body_written_out zero x ≡ None) (λ x f. none_below x (bodies x) (lowest x (bodies x) refl f)) t h))
  written_out_settled (suc n) t h =
      substituted_agree_on (body_written_out n) (body_written_out (suc n)) t
      (names_then (FallsTo bodies rank (suc n)) (λ x. body_written_out n x ≡ body_written_out (suc n) x)
      (λ x f. body_settled n (written_out_settled n) x (bodies x) refl f) t h)

  abbrev pub HasNoBody : List ℕ → Type 0
  HasNoBody x = bodies x ≡ None

  plain_body : (n : ℕ) → ((t : Tree O) → AllNames (FallsTo bodies rank n) t → AllNames HasNoBody (written_out bodies n t)) →
      (x : List ℕ) (o : Option (Tree O)) → bodies x ≡ o → FallsTo bodies rank (suc n) x →
      (at : ℕ) → AllNames HasNoBody (replaced (Name at x) (option_map (written_out bodies n) o))
  plain_body n ih x None e f at = e
  plain_body n ih x (Some b) e f at = ih b (lower n x b e f)

  -- there no name with a body is left
  pub written_out_plain : (n : ℕ) (t : Tree O) → AllNames (FallsTo bodies rank n) t → AllNames HasNoBody (written_out bodies n t)
  written_out_plain zero t h = names_then (FallsTo bodies rank 0) HasNoBody (λ x f. lowest x (bodies x) refl f) t h
  written_out_plain (suc n) t h =
      names-substituted HasNoBody (body_written_out n) t
      (names_then (FallsTo bodies rank (suc n)) (λ x. (at : ℕ) → AllNames HasNoBody (replaced (Name at x) (body_written_out n x)))
      (λ x f. plain_body n (written_out_plain n) x (bodies x) refl f) t h)
