-- Products of lists: what holds of each way through them, members that give nothing and are left out, and one list split into
-- parts.
use Rattle.std.specs.Prelude.{◌≡◌, List, [], ◌∷◌, map, Bool, true, not, ◌||◌, get_or}
use Rattle.std.specs.List.{flat_map, filter, list_any, All}
use Rattle.std.proofs.Common.{refl, sym, ap, ap₂, ◌∙◌, inl, inr}
use Rattle.std.proofs.lemmas.List.Folds.{flat_map-map}
use Rattle.std.proofs.lemmas.List.Elements.{All-nil, All-cons, All-head, All-tail, All-append}
use Rattle.basics.specs.Members.{all_each}
use Rattle.process_core.specs.Process.{EquallyOften}
use Rattle.process_core.specs.Product.{one_of_each, map-flat_map, flat_map_agree, flat_map-flat_map}
use Rattle.process_core.specs.Often.{often_refl, often_same, often_trans, often-map, often-flat_map, often-one_of_each, often_exchange}
use Rattle.choice_laws.specs.Products.{Place, AreWhole, OneIsParted, wholes, parts_for}
use Rattle.choice_laws.proofs.Walks.{flat_map_agree_in, flat_map_none, kept_walk}

-- ---- what holds of each way
-- of ways that begin with one member
first_of_each : {X : Type 0} (Q S : List X → Type 0) (x : X) → ((r : List X) → Q r → S (x ∷ r)) → (rs : List (List X)) → All Q rs → All S (map (λ r. x ∷ r) rs)
first_of_each Q S x h [] k = All-nil S
first_of_each Q S x h (r ∷ rs) k = All-cons S (x ∷ r) (map (λ r. x ∷ r) rs) (h r (All-head Q r rs k)) (first_of_each Q S x h rs (All-tail Q r rs k))

-- of ways that begin with a member of one list, and go on as others
pub All-ways : {X : Type 0} (P : X → Type 0) (Q S : List X → Type 0) → ((x : X) (r : List X) → P x → Q r → S (x ∷ r)) → (xs : List X) (rs : List (List X)) → All P xs → All Q rs →
    All S (flat_map (λ x. map (λ r. x ∷ r) rs) xs)
All-ways P Q S h [] rs p q = All-nil S
All-ways P Q S h (x ∷ xs) rs p q =
    All-append S (map (λ r. x ∷ r) rs) (flat_map (λ x. map (λ r. x ∷ r) rs) xs)
    (first_of_each Q S x (λ r k. h x r (All-head P x xs p) k) rs q) (All-ways P Q S h xs rs (All-tail P x xs p) q)

-- ---- members that give nothing
walked : {X Y : Type 0} (f : List X → List Y) (rs : List (List X)) (xs : List X) →
    flat_map f (flat_map (λ x. map (λ r. x ∷ r) rs) xs) ≡ flat_map (λ x. flat_map (λ r. f (x ∷ r)) rs) xs
walked f rs xs = flat_map-flat_map f (λ x. map (λ r. x ∷ r) rs) xs ∙ flat_map_agree _ _ (λ x. flat_map-map f (λ r. x ∷ r) rs) xs

-- where a way with a member that fails the test gives nothing, such members may be left out
pub only_kept : {X Y : Type 0} (p : X → Bool) (xss : List (List X)) (f : List X → List Y) → ((rs : List X) → list_any (λ x. not (p x)) rs ≡ true → f rs ≡ []) →
    flat_map f (one_of_each xss) ≡ flat_map f (one_of_each (map (filter p) xss))
only_kept p [] f n = refl
only_kept p (xs ∷ xss) f n =
    walked f (one_of_each xss) xs
    ∙ kept_walk p (λ x. flat_map (λ r. f (x ∷ r)) (one_of_each xss)) (λ x. flat_map (λ r. f (x ∷ r)) (one_of_each (map (filter p) xss)))
    (λ x e. only_kept p xss (λ r. f (x ∷ r)) (λ rs k. n (x ∷ rs) (ap₂ (λ a b. not a || b) e k)))
    (λ x e. flat_map_none (λ r. f (x ∷ r)) (one_of_each xss) (all_each (λ r. f (x ∷ r) ≡ []) (λ r. n (x ∷ r) (ap (λ a. not a || list_any (λ y. not (p y)) r) e)) (one_of_each xss))) xs
    ∙ sym (walked f (one_of_each (map (filter p) xss)) (filter p xs))

-- ---- one list split into parts
module _ {X T : Type 0} (ts : List T) where
  pub whole_parts : (ps : List (Place X T)) → AreWhole ts ps → All (λ t. parts_for t ps ≡ wholes ps) ts
  whole_parts [] h k d l = refl
  whole_parts (p ∷ ps) h k d l = ap₂ (λ a b. a ∷ b) (h.0 k d l) (whole_parts ps h.1 k d l)

  -- the ways are those through the parts for each thing in turn
  pub ways_parted : (ps : List (Place X T)) → OneIsParted ts ps → EquallyOften (one_of_each (wholes ps)) (flat_map (λ t. one_of_each (parts_for t ps)) ts)
  ways_parted [] h = absurd h
  ways_parted (p ∷ ps) (inl h) =
      let C = one_of_each (wholes ps) in
      often_trans (often-one_of_each [] (wholes ps) h.0)
      (often_same _ _ (flat_map-flat_map (λ x. map (λ r. x ∷ r) C) p.part ts
      ∙ flat_map_agree_in (λ t. flat_map (λ x. map (λ r. x ∷ r) C) (p.part t)) (λ t. one_of_each (parts_for t (p ∷ ps))) ts
      (λ k d l. let t = get_or ts k d in ap (λ w. one_of_each (p.part t ∷ w)) (sym (whole_parts ps h.1 k d l)))))
  ways_parted (p ∷ ps) (inr h) =
      let C = one_of_each (wholes ps) in
      let D : T → List (List X) = λ t. one_of_each (parts_for t ps) in
      often_trans
      (often-flat_map (λ x. map (λ r. x ∷ r) C) (λ x. flat_map (λ t. map (λ r. x ∷ r) (D t)) ts) (often_refl p.all)
      (λ x. often_trans (often-map (λ r. x ∷ r) (ways_parted ps h.1)) (often_same _ _ (map-flat_map (λ r. x ∷ r) D ts))))
      (often_trans (often_exchange (λ x t. map (λ r. x ∷ r) (D t)) p.all ts)
      (often_same _ _ (flat_map_agree_in (λ t. flat_map (λ x. map (λ r. x ∷ r) (D t)) p.all) (λ t. one_of_each (parts_for t (p ∷ ps))) ts
      (λ k d l. let t = get_or ts k d in ap (flat_map (λ x. map (λ r. x ∷ r) (D t))) (sym (h.0 k d l))))))
