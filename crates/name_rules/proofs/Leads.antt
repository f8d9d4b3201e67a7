-- Names that lead to names, through what is declared.
use Rattle.std.specs.Prelude.{ℕ, zero, suc, ◌+◌, ◌-◌, ◌<◌, ◌≤◌, List, [], ◌∷◌, map, length, get_or, Bool, true, false, not, ◌&&◌, ◌||◌, bytes_eq, if◌then◌else◌}
use Rattle.std.specs.List.{flat_map, filter, list_any}
use Rattle.std.proofs.Common.{◌≡◌, refl, sym, ap, ap₂, subst, ◌∙◌, arith}
use Rattle.std.proofs.lemmas.List.{length-map, get_or-map}
use Rattle.std.proofs.lemmas.List.Folds.{list_any-append}
use Rattle.std.proofs.lemmas.Slice.Eq.{bytes_eq-Decides}
use Rattle.basics.specs.Texts.{bytes_eq-self}
use Rattle.name_rules.specs.Names.{Name}
use Rattle.op_trees.specs.Names.{is_called}
use Rattle.name_rules.specs.Circles.{Declared, uses_of, leads_to, is_circular}
use Rattle.name_rules.specs.declared.declarations.Declaration.{Declaration}
use Rattle.name_rules.specs.Circles.{declared_by, nothing_declared, declared_at}
use Rattle.name_rules.specs.Rounds.{some_use, one_if, others, AreLeading, AreClosed}

-- ---- tests of lists
module _ {A : Type 0} (p : A → Bool) where
  pub any_false : (d : A) (xs : List A) → ((i : ℕ) → i < length xs → p (get_or xs i d) ≡ false) → list_any p xs ≡ false
  any_false d [] h = refl
  any_false d (x ∷ xs) h = by_test (p x) (h 0 (omega arith)) (any_false d xs (λ i l. h (suc i) (omega arith)))
    where
      by_test : (b : Bool) → b ≡ false → list_any p xs ≡ false → (b || list_any p xs) ≡ false
      by_test true e r = absurd (cc)
      by_test false e r = r

  pub any_true : (d : A) (xs : List A) (i : ℕ) → i < length xs → p (get_or xs i d) ≡ true → list_any p xs ≡ true
  any_true d [] i l h = absurd (omega arith)
  any_true d (x ∷ xs) zero l h = ap (λ b. b || list_any p xs) h
  any_true d (x ∷ xs) (suc i) l h = by_test (p x) (any_true d xs i (omega arith) h)
    where
      by_test : (b : Bool) → list_any p xs ≡ true → (b || list_any p xs) ≡ true
      by_test true e = refl
      by_test false e = e

  -- the place of one that passes
  pub any_at : (d : A) (xs : List A) → list_any p xs ≡ true → (i : ℕ) × (i < length xs) × (p (get_or xs i d) ≡ true)
  any_at d [] h = absurd (cc)
  any_at d (x ∷ xs) h = by_test (p x) refl h (any_at d xs)
    where
      by_test : (b : Bool) → p x ≡ b → (b || list_any p xs) ≡ true → (list_any p xs ≡ true → (i : ℕ) × (i < length xs) × (p (get_or xs i d) ≡ true)) →
          (i : ℕ) × (i < suc (length xs)) × (p (get_or (x ∷ xs) i d) ≡ true)
      by_test true e t ih = (0, omega arith, e)
      by_test false e t ih = let r = ih t in let k = r.1 in (suc r.0, omega (arith, k), r.2)

  pub all_false : (xs : List A) → list_any p xs ≡ false → (i : ℕ) (d : A) → i < length xs → p (get_or xs i d) ≡ false
  all_false xs h i d l = by_test (p (get_or xs i d)) refl
    where
      by_test : (b : Bool) → p (get_or xs i d) ≡ b → b ≡ false
      by_test true e = sym (any_true d xs i l e) ∙ h
      by_test false e = refl

  -- what passes one test passes another
  pub any_weaker : (q : A → Bool) → ((x : A) → p x ≡ true → q x ≡ true) → (xs : List A) → list_any p xs ≡ true → list_any q xs ≡ true
  any_weaker q h [] e = absurd (cc)
  any_weaker q h (x ∷ xs) e = by_test (p x) (q x) (h x) e (any_weaker q h xs)
    where
      by_test : (b c : Bool) → (b ≡ true → c ≡ true) → (b || list_any p xs) ≡ true → (list_any p xs ≡ true → list_any q xs ≡ true) → (c || list_any q xs) ≡ true
      by_test true c k s ih = ap (λ b. b || list_any q xs) (k refl)
      by_test false true k s ih = refl
      by_test false false k s ih = ih s

-- what fails one test fails another
pub any_stronger : {A : Type 0} (p q : A → Bool) → ((x : A) → q x ≡ true → p x ≡ true) → (xs : List A) → list_any p xs ≡ false → list_any q xs ≡ false
any_stronger p q h xs e = by_test (list_any q xs) refl
  where
    by_test : (b : Bool) → list_any q xs ≡ b → b ≡ false
    by_test true t = sym (any_weaker q p h xs t) ∙ e
    by_test false t = refl

pub called_same : (d : Declared) (x : Name) → is_called x d.name ≡ true → d.name.name ≡ x
called_same d x h = (bytes_eq-Decides d.name.name x).0 h

-- ---- uses
-- a name of this name's declarations is such a one
abbrev pub uses_such : List Declared → (Name → Bool) → Name → Bool
uses_such ds q x = list_any (λ d. is_called x d.name && some_use q d) ds

pub uses_of_any : (ds : List Declared) (q : Name → Bool) (x : Name) → list_any q (uses_of ds x) ≡ uses_such ds q x
uses_of_any [] q x = refl
uses_of_any (d ∷ ds) q x = by_test (is_called x d.name) (uses_of_any ds q x)
  where
    by_test : (b : Bool) → list_any q (uses_of ds x) ≡ uses_such ds q x →
        list_any q (flat_map (λ e. e.uses) (if b then d ∷ filter (λ e. is_called x e.name) ds else filter (λ e. is_called x e.name) ds)) ≡ ((b && some_use q d) || uses_such ds q x)
    by_test true ih = list_any-append q d.uses (uses_of ds x) ∙ ap (λ b. some_use q d || b) ih
    by_test false ih = ih

pub others_most : (has : Name → Bool) (es : List Declared) → others has es ≤ length es
others_most has [] = omega arith
others_most has (d ∷ es) = by_test (has d.name.name) (others_most has es)
  where
    by_test : (b : Bool) → others has es ≤ length es → one_if (not b) + others has es ≤ suc (length es)
    by_test true k = omega (arith, k)
    by_test false k = omega (arith, k)

module _ (ds : List Declared) where
  -- one step
  abbrev pub leads_by : ℕ → Name → Name → Bool
  leads_by n y z = leads_to ds n z y

  pub steps_to : (n : ℕ) (x y : Name) (i : ℕ) → i < length ds → is_called x (declared_at ds i).name ≡ true → some_use (leads_by n y) (declared_at ds i) ≡ true →
      leads_to ds (suc n) x y ≡ true
  steps_to n x y i l c u =
      by_test (bytes_eq x y) (uses_of_any ds (leads_by n y) x ∙ any_true _ nothing_declared ds i l (ap₂ (λ a b. a && b) c u))
    where
      by_test : (b : Bool) → list_any (leads_by n y) (uses_of ds x) ≡ true → (b || list_any (leads_by n y) (uses_of ds x)) ≡ true
      by_test true h = refl
      by_test false h = h

  -- one step more does no harm
  pub leads_more : (n : ℕ) (x y : Name) → leads_to ds n x y ≡ true → leads_to ds (suc n) x y ≡ true
  leads_more zero x y h = ap (λ b. b || list_any (leads_by zero y) (uses_of ds x)) h
  leads_more (suc n) x y h = by_test (bytes_eq x y) h (any_weaker (leads_by n y) (leads_by (suc n) y) (λ z. leads_more n z y) (uses_of ds x))
    where
      by_test : (b : Bool) → (b || list_any (leads_by n y) (uses_of ds x)) ≡ true →
          (list_any (leads_by n y) (uses_of ds x) ≡ true → list_any (leads_by (suc n) y) (uses_of ds x) ≡ true) → (b || list_any (leads_by (suc n) y) (uses_of ds x)) ≡ true
      by_test true e ih = refl
      by_test false e ih = ih e

  pub leads_within : (k n m : ℕ) (x y : Name) → k + n ≡ m → leads_to ds n x y ≡ true → leads_to ds m x y ≡ true
  leads_within zero n m x y e h = let same : n ≡ m = omega (arith, e) in subst (λ j. leads_to ds j x y ≡ true) same h
  leads_within (suc k) n m x y e h = leads_within k (suc n) m x y (omega (arith, e)) (leads_more n x y h)

  pub leads_in : (n m : ℕ) (x y : Name) → n ≤ m → leads_to ds n x y ≡ true → leads_to ds m x y ≡ true
  leads_in n m x y l h = leads_within (m - n) n m x y (omega arith) h

  -- ---- names that lead to one
  pub others_fewer : (p q : Name → Bool) (es : List Declared) → ((x : Name) → p x ≡ true → q x ≡ true) → others q es ≤ others p es
  others_fewer p q [] h = omega arith
  others_fewer p q (d ∷ es) h = by_test (p d.name.name) (q d.name.name) (h d.name.name) (others_fewer p q es h)
    where
      by_test : (c e : Bool) → (c ≡ true → e ≡ true) → others q es ≤ others p es → one_if (not e) + others q es ≤ one_if (not c) + others p es
      by_test true true k ih = omega (arith, ih)
      by_test true false k ih = absurd (let z = k refl in cc)
      by_test false true k ih = omega (arith, ih)
      by_test false false k ih = omega (arith, ih)

  pub others_less : (p q : Name → Bool) (i : ℕ) (es : List Declared) → i < length es → p (declared_at es i).name.name ≡ false → q (declared_at es i).name.name ≡ true →
      ((x : Name) → p x ≡ true → q x ≡ true) → suc (others q es) ≤ others p es
  others_less p q i [] l a b h = absurd (omega arith)
  others_less p q zero (d ∷ es) l a b h =
      let rest = others_fewer p q es h in
      subst (λ (c : Bool). suc (one_if (not (q d.name.name)) + others q es) ≤ one_if (not c) + others p es) (sym a)
      (subst (λ (c : Bool). suc (one_if (not c) + others q es) ≤ 1 + others p es) (sym b) (omega (arith, rest)))
  others_less p q (suc i) (d ∷ es) l a b h = by_test (p d.name.name) (q d.name.name) (h d.name.name) (others_less p q i es (omega arith) a b h)
    where
      by_test : (c e : Bool) → (c ≡ true → e ≡ true) → suc (others q es) ≤ others p es → suc (one_if (not e) + others q es) ≤ one_if (not c) + others p es
      by_test true true k ih = omega (arith, ih)
      by_test true false k ih = absurd (let z = k refl in cc)
      by_test false true k ih = omega (arith, ih)
      by_test false false k ih = omega (arith, ih)

  -- with one name more
  kept : (has : Name → Bool) (name x : Name) → has x ≡ true → (bytes_eq name x || has x) ≡ true
  kept has name x e = either (bytes_eq name x) e
    where
      either : (b : Bool) → has x ≡ true → (b || has x) ≡ true
      either true k = refl
      either false k = k

  pub fewer_others : (has more : Name → Bool) (i : ℕ) → i < length ds → has (declared_at ds i).name.name ≡ false →
      ((x : Name) → more x ≡ (bytes_eq (declared_at ds i).name.name x || has x)) → others more ds < others has ds
  fewer_others has more i l out is =
      let name = (declared_at ds i).name.name in
      let less = others_less has more i ds l out (is name ∙ ap (λ b. b || has name) (bytes_eq-self name)) (λ x e. is x ∙ kept has name x e) in
      omega (arith, less)

  -- one that uses such a name is such a one
  pub leading_more : (y : Name) (has more : Name → Bool) (i : ℕ) → AreLeading ds y has → i < length ds → has (declared_at ds i).name.name ≡ false →
      some_use has (declared_at ds i) ≡ true → ((x : Name) → more x ≡ (bytes_eq (declared_at ds i).name.name x || has x)) → AreLeading ds y more
  leading_more y has more i h l out used is = record {
    steps = suc h.steps;
    own = is y ∙ kept has (declared_at ds i).name.name y h.own;
    sound = λ x m. by_test x (bytes_eq (declared_at ds i).name.name x) refl (sym (is x) ∙ m);
    room = let less = fewer_others has more i l out is in let room = h.room in omega (arith, less, room);
  }
    where
      by_test : (x : Name) (b : Bool) → bytes_eq (declared_at ds i).name.name x ≡ b → (b || has x) ≡ true → leads_to ds (suc h.steps) x y ≡ true
      by_test x true c m = steps_to h.steps x y i l c (any_weaker has (leads_by h.steps y) (λ z. h.sound z) (declared_at ds i).uses used)
      by_test x false c m = leads_more h.steps x y (h.sound x m)

  -- where no other uses one of them, what is not among them does not lead there
  apart : (y : Name) (has : Name → Bool) → has y ≡ true → (x : Name) → has x ≡ false → (b : Bool) → bytes_eq x y ≡ b → b ≡ false
  apart y has own x out true e = absurd (let same = (bytes_eq-Decides x y).0 e in let k = ap has same in cc)
  apart y has own x out false e = refl

  closed_out : (y : Name) (has : Name → Bool) → has y ≡ true → AreClosed ds has → (n : ℕ) (x : Name) → has x ≡ false → leads_to ds n x y ≡ false
  closed_out y has own closed zero x out = apart y has own x out (bytes_eq x y) refl
  closed_out y has own closed (suc n) x out =
      ap₂ (λ a b. a || b) (apart y has own x out (bytes_eq x y) refl)
      (uses_of_any ds (leads_by n y) x ∙ any_false _ nothing_declared ds (λ i l. by_test i l (is_called x (declared_at ds i).name) refl (closed_out y has own closed n)))
    where
      by_use : (z : Name) (b : Bool) → has z ≡ b → leads_to ds n z y ≡ true → ((z : Name) → has z ≡ false → leads_to ds n z y ≡ false) → b ≡ true
      by_use z true e t ih = refl
      by_use z false e t ih = sym (ih z e) ∙ t

      by_test : (i : ℕ) → i < length ds → (b : Bool) → is_called x (declared_at ds i).name ≡ b → ((z : Name) → has z ≡ false → leads_to ds n z y ≡ false) →
          (b && some_use (leads_by n y) (declared_at ds i)) ≡ false
      by_test i l true c ih =
          any_stronger has (leads_by n y) (λ z t. by_use z (has z) refl t ih) (declared_at ds i).uses
          (closed i l (ap has (called_same (declared_at ds i) x c) ∙ out))
      by_test i l false c ih = refl

  pub leading_is : (y : Name) (has : Name → Bool) → AreLeading ds y has → AreClosed ds has → (x : Name) → has x ≡ leads_to ds (length ds) x y
  leading_is y has h closed x = by_test (has x) refl
    where
      by_test : (b : Bool) → has x ≡ b → b ≡ leads_to ds (length ds) x y
      by_test true e = let room = h.room in sym (leads_in h.steps (length ds) x y (omega (arith, room)) (h.sound x e))
      by_test false e = sym (closed_out y has h.own closed (length ds) x e)

  -- so a declaration is in a circle where it uses one that leads to it
  pub circular_is : (d : Declared) (has : Name → Bool) → AreLeading ds d.name.name has → AreClosed ds has → some_use has d ≡ is_circular ds d
  circular_is d has h closed = same d.uses
    where
      same : (xs : List Name) → list_any has xs ≡ list_any (leads_by (length ds) d.name.name) xs
      same [] = refl
      same (x ∷ xs) = ap₂ (λ a b. a || b) (leading_is d.name.name has h closed x) (same xs)

  -- at first only the name itself
  pub leading_one : (y : Name) (has : Name → Bool) → ((x : Name) → has x ≡ bytes_eq y x) → AreLeading ds y has
  leading_one y has is = record {
    steps = 0;
    own = is y ∙ bytes_eq-self y;
    sound = λ x h. ap (λ z. bytes_eq x z) ((bytes_eq-Decides y x).0 (sym (is x) ∙ h)) ∙ bytes_eq-self x;
    room = let k = others_most has ds in omega (arith, k);
  }

-- a declaration of a list, as contracts see it
pub declared_at_is : (all : List Declaration) (i : ℕ) (d : Declaration) → i < length all → d ≡ get_or all i d → declared_by d ≡ declared_at (map declared_by all) i
declared_at_is all i d l is = ap declared_by is ∙ sym (get_or-map declared_by all i d nothing_declared l)

pub within : (all : List Declaration) (i : ℕ) → i < length all → i < length (map declared_by all)
within all i l = let e = length-map all declared_by in omega (arith, l, e)

pub declared_get : (all : List Declaration) (i : ℕ) (d : Declaration) → i < length all → declared_by (get_or all i d) ≡ declared_at (map declared_by all) i
declared_get all i d l = sym (get_or-map declared_by all i d nothing_declared l)
