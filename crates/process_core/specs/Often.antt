-- Laws of lists that hold the same members equally often: what keeps it, and what it says of counts.
use Rattle.std.specs.Prelude.{◌≡◌, ℕ, ◌+◌, List, [], ◌∷◌, ◌++◌, map, Bool, true, false, cond, IsPermutation}
use Rattle.std.specs.List.{flat_map, sum_by, count_by, filter}
use Rattle.std.proofs.Common.{refl, sym, ap, ap₂, ◌∙◌, arith}
use Rattle.std.proofs.lemmas.List.Sums.{sum_by-append, sum_by-cons}
use Rattle.std.proofs.lemmas.List.Sorted.{sum_by-IsPermutation}
use Rattle.std.proofs.lemmas.List.{map-append}
use Rattle.std.proofs.lemmas.List.Concat.{flat_map-append}
use Rattle.process_core.specs.Process.{EquallyOften}
use Rattle.process_core.specs.Product.{one_of_each, flat_map_agree}

-- ---- what a list weighs
pub sum_by_agree : {X : Type 0} (g h : X → ℕ) → ((x : X) → g x ≡ h x) → (xs : List X) → sum_by g xs ≡ sum_by h xs
sum_by_agree g h e [] = refl
sum_by_agree g h e (x ∷ xs) = sum_by-cons g x xs ∙ ap₂ (λ a b. a + b) (e x) (sum_by_agree g h e xs) ∙ sym (sum_by-cons h x xs)

pub sum_by-map : {X Y : Type 0} (g : Y → ℕ) (f : X → Y) (xs : List X) → sum_by g (map f xs) ≡ sum_by (λ x. g (f x)) xs
sum_by-map g f [] = refl
sum_by-map g f (x ∷ xs) = sum_by-cons g (f x) (map f xs) ∙ ap (λ a. g (f x) + a) (sum_by-map g f xs) ∙ sym (sum_by-cons (λ x. g (f x)) x xs)

pub sum_by-flat_map : {X Y : Type 0} (g : Y → ℕ) (f : X → List Y) (xs : List X) → sum_by g (flat_map f xs) ≡ sum_by (λ x. sum_by g (f x)) xs
sum_by-flat_map g f [] = refl
sum_by-flat_map g f (x ∷ xs) =
    sum_by-append g (f x) (flat_map f xs) ∙ ap (λ a. sum_by g (f x) + a) (sum_by-flat_map g f xs) ∙ sym (sum_by-cons (λ x. sum_by g (f x)) x xs)

pub sum_by-add : {X : Type 0} (g h : X → ℕ) (xs : List X) → sum_by (λ x. g x + h x) xs ≡ sum_by g xs + sum_by h xs
sum_by-add g h [] = refl
sum_by-add g h (x ∷ xs) =
    let a = sum_by-cons (λ x. g x + h x) x xs in
    let b = sum_by-cons g x xs in
    let c = sum_by-cons h x xs in
    let ih = sum_by-add g h xs in
    omega arith

pub sum_by-zero : {X : Type 0} (xs : List X) → sum_by (λ x. 0) xs ≡ 0
sum_by-zero [] = refl
sum_by-zero (x ∷ xs) = let e = sum_by-cons (λ x. 0) x xs in let ih = sum_by-zero xs in omega arith

-- the order of two sums is free
pub sum_by_exchange : {X Y : Type 0} (g : X → Y → ℕ) (xs : List X) (ys : List Y) → sum_by (λ x. sum_by (g x) ys) xs ≡ sum_by (λ y. sum_by (λ x. g x y) xs) ys
sum_by_exchange g [] ys = sym (sum_by-zero ys)
sum_by_exchange g (x ∷ xs) ys =
    sum_by-cons (λ x. sum_by (g x) ys) x xs
    ∙ ap (λ a. sum_by (g x) ys + a) (sum_by_exchange g xs ys)
    ∙ sym (sum_by-add (g x) (λ y. sum_by (λ x. g x y) xs) ys)
    ∙ sum_by_agree _ _ (λ y. sym (sum_by-cons (λ x. g x y) x xs)) ys

kept_or_not : {X : Type 0} (g : X → ℕ) (x : X) (ys : List X) (b : Bool) → sum_by g (cond b (x ∷ ys) ys) ≡ cond b (g x) 0 + sum_by g ys
kept_or_not g x ys true = sum_by-cons g x ys
kept_or_not g x ys false = omega arith

pub sum_by-filter : {X : Type 0} (g : X → ℕ) (p : X → Bool) (xs : List X) → sum_by g (filter p xs) ≡ sum_by (λ x. cond (p x) (g x) 0) xs
sum_by-filter g p [] = refl
sum_by-filter g p (x ∷ xs) = kept_or_not g x (filter p xs) (p x) ∙ ap (λ a. cond (p x) (g x) 0 + a) (sum_by-filter g p xs) ∙ sym (sum_by-cons (λ x. cond (p x) (g x) 0) x xs)

-- ---- equally often
pub often_refl : {X : Type 0} (xs : List X) → EquallyOften xs xs
often_refl xs = record { weighs = λ g. refl }

pub often_same : {X : Type 0} (xs ys : List X) → xs ≡ ys → EquallyOften xs ys
often_same xs ys e = record { weighs = λ g. ap (sum_by g) e }

pub often_sym : {X : Type 0} {xs ys : List X} → EquallyOften xs ys → EquallyOften ys xs
often_sym h = record { weighs = λ g. sym (h.weighs g) }

pub often_trans : {X : Type 0} {xs ys zs : List X} → EquallyOften xs ys → EquallyOften ys zs → EquallyOften xs zs
often_trans h k = record { weighs = λ g. h.weighs g ∙ k.weighs g }

-- each test counts the same in both
pub often_count : {X : Type 0} {xs ys : List X} → EquallyOften xs ys → (p : X → Bool) → count_by p xs ≡ count_by p ys
often_count h p = h.weighs (λ x. cond (p x) 1 0)

pub often_IsPermutation : {X : Type 0} (xs ys : List X) → IsPermutation xs ys → EquallyOften xs ys
often_IsPermutation xs ys h = record { weighs = λ g. sym (sum_by-IsPermutation g xs ys h) }

pub often-map : {X Y : Type 0} (f : X → Y) {xs ys : List X} → EquallyOften xs ys → EquallyOften (map f xs) (map f ys)
often-map f {xs} {ys} h = record { weighs = λ g. sum_by-map g f xs ∙ h.weighs (λ x. g (f x)) ∙ sym (sum_by-map g f ys) }

pub often-filter : {X : Type 0} (p : X → Bool) {xs ys : List X} → EquallyOften xs ys → EquallyOften (filter p xs) (filter p ys)
often-filter p {xs} {ys} h = record { weighs = λ g. sum_by-filter g p xs ∙ h.weighs (λ x. cond (p x) (g x) 0) ∙ sym (sum_by-filter g p ys) }

pub often-append : {X : Type 0} {xs ys us vs : List X} → EquallyOften xs ys → EquallyOften us vs → EquallyOften (xs ++ us) (ys ++ vs)
often-append {X} {xs} {ys} {us} {vs} h k = record {
  weighs = λ g. sum_by-append g xs us ∙ ap₂ (λ a b. a + b) (h.weighs g) (k.weighs g) ∙ sym (sum_by-append g ys vs);
}

pub often_turned : {X : Type 0} (xs ys : List X) → EquallyOften (xs ++ ys) (ys ++ xs)
often_turned xs ys = record {
  weighs = λ g.
      let a = sum_by-append g xs ys in
      let b = sum_by-append g ys xs in
      omega arith;
}

pub often-flat_map : {X Y : Type 0} (f k : X → List Y) {xs ys : List X} → EquallyOften xs ys → ((x : X) → EquallyOften (f x) (k x)) → EquallyOften (flat_map f xs) (flat_map k ys)
often-flat_map f k {xs} {ys} h e = record {
  weighs = λ g. sum_by-flat_map g f xs ∙ h.weighs (λ x. sum_by g (f x)) ∙ sum_by_agree _ _ (λ x. (e x).weighs g) ys ∙ sym (sum_by-flat_map g k ys);
}

-- the order of two walks is free
pub often_exchange : {X Y Z : Type 0} (f : X → Y → List Z) (xs : List X) (ys : List Y) → EquallyOften (flat_map (λ x. flat_map (f x) ys) xs) (flat_map (λ y. flat_map (λ x. f x y) xs) ys)
often_exchange f xs ys = record {
  weighs = λ g.
      sum_by-flat_map g (λ x. flat_map (f x) ys) xs
      ∙ sum_by_agree _ _ (λ x. sum_by-flat_map g (f x) ys) xs
      ∙ sum_by_exchange (λ x y. sum_by g (f x y)) xs ys
      ∙ sym (sum_by-flat_map g (λ y. flat_map (λ x. f x y) xs) ys ∙ sum_by_agree _ _ (λ y. sum_by-flat_map g (λ x. f x y) xs) ys);
}

-- a walk that does two things is two walks
pub often_two : {X Y : Type 0} (f k : X → List Y) (xs : List X) → EquallyOften (flat_map (λ x. f x ++ k x) xs) (flat_map f xs ++ flat_map k xs)
often_two f k xs = record {
  weighs = λ g.
      sum_by-flat_map g (λ x. f x ++ k x) xs
      ∙ sum_by_agree _ _ (λ x. sum_by-append g (f x) (k x)) xs
      ∙ sum_by-add (λ x. sum_by g (f x)) (λ x. sum_by g (k x)) xs
      ∙ sym (sum_by-append g (flat_map f xs) (flat_map k xs) ∙ ap₂ (λ a b. a + b) (sum_by-flat_map g f xs) (sum_by-flat_map g k xs));
}

-- ---- products
-- the members of one list may come in another order
pub often-one_of_each : {X : Type 0} (before : List (List X)) {xs ys : List X} (rest : List (List X)) → EquallyOften xs ys → EquallyOften (one_of_each (before ++ xs ∷ rest)) (one_of_each (before ++ ys ∷ rest))
often-one_of_each [] rest h = often-flat_map _ _ h (λ x. often_refl (map (λ r. x ∷ r) (one_of_each rest)))
often-one_of_each (us ∷ before) {xs} {ys} rest h =
    often-flat_map (λ x. map (λ r. x ∷ r) (one_of_each (before ++ xs ∷ rest))) (λ x. map (λ r. x ∷ r) (one_of_each (before ++ ys ∷ rest))) (often_refl us)
    (λ x. often-map (λ r. x ∷ r) (often-one_of_each before rest h))

-- where one list is two lists joined, the product is that with the first and that with the second
pub often_split : {X : Type 0} (before : List (List X)) (xs ys : List X) (rest : List (List X)) →
    EquallyOften (one_of_each (before ++ (xs ++ ys) ∷ rest)) (one_of_each (before ++ xs ∷ rest) ++ one_of_each (before ++ ys ∷ rest))
often_split [] xs ys rest = often_same _ _ (flat_map-append (λ x. map (λ r. x ∷ r) (one_of_each rest)) xs ys)
often_split (us ∷ before) xs ys rest =
    let A = one_of_each (before ++ xs ∷ rest) in
    let B = one_of_each (before ++ ys ∷ rest) in
    often_trans
    (often-flat_map (λ x. map (λ r. x ∷ r) (one_of_each (before ++ (xs ++ ys) ∷ rest))) (λ x. map (λ r. x ∷ r) (A ++ B)) (often_refl us) (λ x. often-map (λ r. x ∷ r) (often_split before xs ys rest)))
    (often_trans
    (often_same _ _ (flat_map_agree (λ x. map (λ r. x ∷ r) (A ++ B)) (λ x. map (λ r. x ∷ r) A ++ map (λ r. x ∷ r) B) (λ x. map-append (λ r. x ∷ r) A B) us))
    (often_two (λ x. map (λ r. x ∷ r) A) (λ x. map (λ r. x ∷ r) B) us))

no_member : {X : Type 0} (before rest : List (List X)) → EquallyOften (one_of_each (before ++ [] ∷ rest)) []
no_member [] rest = often_refl []
no_member (us ∷ before) rest = record {
  weighs = λ g.
      sum_by-flat_map g (λ x. map (λ r. x ∷ r) (one_of_each (before ++ [] ∷ rest))) us
      ∙ sum_by_agree _ (λ x. 0) (λ x. sum_by-map g (λ r. x ∷ r) (one_of_each (before ++ [] ∷ rest)) ∙ (no_member before rest).weighs (λ r. g (x ∷ r))) us
      ∙ sum_by-zero us;
}

-- where one list is split into parts, the product is that with each part in turn
pub often_parts : {X : Type 0} (before parts rest : List (List X)) →
    EquallyOften (one_of_each (before ++ flat_map (λ xs. xs) parts ∷ rest)) (flat_map (λ xs. one_of_each (before ++ xs ∷ rest)) parts)
often_parts before [] rest = no_member before rest
often_parts before (xs ∷ parts) rest =
    often_trans (often_split before xs (flat_map (λ ys. ys) parts) rest)
    (often-append (often_refl (one_of_each (before ++ xs ∷ rest))) (often_parts before parts rest))
