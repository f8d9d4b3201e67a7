-- Laws of the names in an expression: under other offsets and other names, and what holds of each of them.
use Rattle.std.specs.Prelude.{◌≡◌, ℕ, List, ◌++◌, map, Bool, false, ◌||◌, [], ◌∷◌}
use Rattle.std.proofs.Common.{refl, sym, ap₂, ◌∙◌}
use Rattle.std.proofs.lemmas.Bool.{or_parts}
use Rattle.std.proofs.lemmas.List.{map-append}
use Rattle.op_trees.specs.Tree.{Tree, Truth, Number, Name, One, Two, Three, AllNames, bare, renamed}
use Rattle.op_trees.specs.Names.{offset_of, names_of, bare_name, some_name}
use Rattle.std.specs.List.{All}
use Rattle.std.proofs.lemmas.List.Elements.{All-head, All-tail, All-nil, All-cons}
use Rattle.bridge_io.specs.declared.reason.Named.{Named}

-- ---- offsets do not matter
pub offset-bare : {O : Type 0} (t : Tree O) → offset_of (bare t) ≡ 0
offset-bare (Truth at b) = refl
offset-bare (Number at d) = refl
offset-bare (Name at x) = refl
offset-bare (One at o a) = refl
offset-bare (Two at o a b) = refl
offset-bare (Three at o a b c) = refl

pub some_name-bare : {O : Type 0} (is_such : List ℕ → Bool) (t : Tree O) → some_name is_such (bare t) ≡ some_name is_such t
some_name-bare p (Truth at b) = refl
some_name-bare p (Number at d) = refl
some_name-bare p (Name at x) = refl
some_name-bare p (One at o a) = some_name-bare p a
some_name-bare p (Two at o a b) = ap₂ (λ x y. x || y) (some_name-bare p a) (some_name-bare p b)
some_name-bare p (Three at o a b c) = ap₂ (λ x y. x || y) (some_name-bare p a) (ap₂ (λ x y. x || y) (some_name-bare p b) (some_name-bare p c))

-- the same names stand in it, at the offset 0
pub names-bare : {O : Type 0} (t : Tree O) → names_of (bare t) ≡ map bare_name (names_of t)
names-bare (Truth at b) = refl
names-bare (Number at d) = refl
names-bare (Name at x) = refl
names-bare (One at o a) = names-bare a
names-bare (Two at o a b) =
    ap₂ (λ xs ys. xs ++ ys) (names-bare a) (names-bare b) ∙ sym (map-append (λ n. record { name = n.name; at = 0 }) (names_of a) (names_of b))
names-bare (Three at o a b c) =
    ap₂ (λ xs ys. xs ++ ys) (names-bare a)
    (ap₂ (λ xs ys. xs ++ ys) (names-bare b) (names-bare c) ∙ sym (map-append (λ n. record { name = n.name; at = 0 }) (names_of b) (names_of c)))
    ∙ sym (map-append (λ n. record { name = n.name; at = 0 }) (names_of a) (names_of b ++ names_of c))

-- ---- names read through a map
pub offset-renamed : {O : Type 0} (new : List ℕ → List ℕ) (t : Tree O) → offset_of (renamed new t) ≡ offset_of t
offset-renamed new (Truth at b) = refl
offset-renamed new (Number at d) = refl
offset-renamed new (Name at x) = refl
offset-renamed new (One at o a) = refl
offset-renamed new (Two at o a b) = refl
offset-renamed new (Three at o a b c) = refl

pub some_name-renamed : {O : Type 0} (new : List ℕ → List ℕ) (is_such : List ℕ → Bool) (t : Tree O) →
    some_name is_such (renamed new t) ≡ some_name (λ x. is_such (new x)) t
some_name-renamed new p (Truth at b) = refl
some_name-renamed new p (Number at d) = refl
some_name-renamed new p (Name at x) = refl
some_name-renamed new p (One at o a) = some_name-renamed new p a
some_name-renamed new p (Two at o a b) = ap₂ (λ x y. x || y) (some_name-renamed new p a) (some_name-renamed new p b)
some_name-renamed new p (Three at o a b c) =
    ap₂ (λ x y. x || y) (some_name-renamed new p a) (ap₂ (λ x y. x || y) (some_name-renamed new p b) (some_name-renamed new p c))

pub names_renamed : {O : Type 0} (P : List ℕ → Type 0) (new : List ℕ → List ℕ) (t : Tree O) → AllNames (λ x. P (new x)) t → AllNames P (renamed new t)
names_renamed P new (Truth at b) h = tt
names_renamed P new (Number at d) h = tt
names_renamed P new (Name at x) h = h
names_renamed P new (One at o a) h = names_renamed P new a h
names_renamed P new (Two at o a b) h = (names_renamed P new a h.0, names_renamed P new b h.1)
names_renamed P new (Three at o a b c) h = (names_renamed P new a h.0, names_renamed P new b h.1, names_renamed P new c h.2)

-- ---- what holds of each name
pub names_with : {O : Type 0} (P Q R : List ℕ → Type 0) → ((x : List ℕ) → P x → Q x → R x) → (t : Tree O) → AllNames P t → AllNames Q t → AllNames R t
names_with P Q R h (Truth at b) p q = tt
names_with P Q R h (Number at d) p q = tt
names_with P Q R h (Name at x) p q = h x p q
names_with P Q R h (One at o a) p q = names_with P Q R h a p q
names_with P Q R h (Two at o a b) p q = (names_with P Q R h a p.0 q.0, names_with P Q R h b p.1 q.1)
names_with P Q R h (Three at o a b c) p q = (names_with P Q R h a p.0 q.0, names_with P Q R h b p.1 q.1, names_with P Q R h c p.2 q.2)

-- a test that fails of each name
pub none_named : {O : Type 0} (test : List ℕ → Bool) (t : Tree O) → some_name test t ≡ false → AllNames (λ x. test x ≡ false) t
none_named test (Truth at b) h = tt
none_named test (Number at d) h = tt
none_named test (Name at x) h = h
none_named test (One at o a) h = none_named test a h
none_named test (Two at o a b) h =
    let p = or_parts (some_name test a) (some_name test b) h in
    (none_named test a p.0, none_named test b p.1)
none_named test (Three at o a b c) h =
    let p = or_parts (some_name test a) (some_name test b || some_name test c) h in
    let q = or_parts (some_name test b) (some_name test c) p.1 in
    (none_named test a p.0, none_named test b q.0, none_named test c q.1)

pub named_none : {O : Type 0} (test : List ℕ → Bool) (t : Tree O) → AllNames (λ x. test x ≡ false) t → some_name test t ≡ false
named_none test (Truth at b) h = refl
named_none test (Number at d) h = refl
named_none test (Name at x) h = h
named_none test (One at o a) h = named_none test a h
named_none test (Two at o a b) h = ap₂ (λ p q. p || q) (named_none test a h.0) (named_none test b h.1)
named_none test (Three at o a b c) h =
    ap₂ (λ p q. p || q) (named_none test a h.0) (ap₂ (λ p q. p || q) (named_none test b h.1) (named_none test c h.2))

-- tests that agree on the names of a tree
pub some_agree_on : {O : Type 0} (f g : List ℕ → Bool) (t : Tree O) → AllNames (λ x. f x ≡ g x) t → some_name f t ≡ some_name g t
some_agree_on f g (Truth at b) h = refl
some_agree_on f g (Number at d) h = refl
some_agree_on f g (Name at x) h = h
some_agree_on f g (One at o a) h = some_agree_on f g a h
some_agree_on f g (Two at o a b) h = ap₂ (λ p q. p || q) (some_agree_on f g a h.0) (some_agree_on f g b h.1)
some_agree_on f g (Three at o a b c) h =
    ap₂ (λ p q. p || q) (some_agree_on f g a h.0) (ap₂ (λ p q. p || q) (some_agree_on f g b h.1) (some_agree_on f g c h.2))

-- ---- what holds of the bytes of all names, where they are listed
in_both : (P : List ℕ → Type 0) (xs ys : List Named) → All P (map (λ n. n.name) (xs ++ ys)) → All P (map (λ n. n.name) xs) × All P (map (λ n. n.name) ys)
in_both P [] ys h = (All-nil P, h)
in_both P (x ∷ xs) ys h =
    let rest = in_both P xs ys (All-tail P x.name (map (λ n. n.name) (xs ++ ys)) h) in
    (All-cons P x.name (map (λ n. n.name) xs) (All-head P x.name (map (λ n. n.name) (xs ++ ys)) h) rest.0, rest.1)

pub each_name : {O : Type 0} (P : List ℕ → Type 0) (t : Tree O) → All P (map (λ n. n.name) (names_of t)) → AllNames P t
each_name P (Truth at b) h = tt
each_name P (Number at d) h = tt
each_name P (Name at x) h = All-head P x [] h
each_name P (One at o a) h = each_name P a h
each_name P (Two at o a b) h =
    let parts = in_both P (names_of a) (names_of b) h in
    (each_name P a parts.0, each_name P b parts.1)
each_name P (Three at o a b c) h =
    let parts = in_both P (names_of a) (names_of b ++ names_of c) h in
    let last = in_both P (names_of b) (names_of c) parts.1 in
    (each_name P a parts.0, each_name P b last.0, each_name P c last.1)
