-- The participants of a synchronisation vector, as a walk over the elements with their numbers.
use Rattle.std.specs.Prelude.{◌≡◌, ℕ, suc, ◌+◌, List, [], ◌∷◌, ◌++◌, map, Option, Some, None, slice_get}
use Rattle.std.specs.List.{filter}
use Rattle.std.specs.Option.{option_map}
use Rattle.std.proofs.Common.{refl, sym, ap, ap₂, ◌∙◌, arith}
use Rattle.bridge_io.specs.declared.reason.Named.{Named}
use Rattle.process_core.specs.Ready.{Name, Ready, has_action, taking}
use Rattle.process_core.specs.Instance.{numbered}
use Rattle.prism_translation.specs.Targets.{name_in}

-- what a part takes of the edges of an element
abbrev pub taken : Option Name → List Ready → List (List Ready)
taken None es = []
taken (Some a) es = filter (has_action (Some a)) es ∷ []

abbrev pub part_name : Option (Option Named) → Option Name
part_name p = name_in p

taken_none : {X : Type 0} (f : ℕ → X → List (List Ready)) (k : ℕ) (xs : List X) → ((i : ℕ) (x : X) → f (k + i) x ≡ []) → numbered f k xs ≡ []
taken_none f k [] h = refl
taken_none f k (x ∷ xs) h =
    ap₂ (λ a b. a ++ b) (let e : k + 0 ≡ k = omega arith in ap (λ i. f i x) (sym e) ∙ h 0 x)
    (taken_none f (k + 1) xs (λ i y. let e : (k + 1) + i ≡ k + (i + 1) = omega arith in ap (λ j. f j y) e ∙ h (i + 1) y))

later : (all ps : List (Option Named)) (p : Option Named) (k : ℕ) → ((i : ℕ) → slice_get all (k + i) ≡ slice_get (p ∷ ps) i) → (i : ℕ) → slice_get all ((k + 1) + i) ≡ slice_get ps i
later all ps p k h i = let e : (k + 1) + i ≡ k + suc i = omega arith in ap (slice_get all) e ∙ h (suc i)

-- the parts of a vector are taken where it names an action
pub taking_walk : {X : Type 0} (f : ℕ → X → List Ready) (all parts : List (Option Named)) (k : ℕ) (xs : List X) → ((i : ℕ) → slice_get all (k + i) ≡ slice_get parts i) →
    taking (map (option_map (λ n. n.name)) parts) (numbered (λ i x. f i x ∷ []) k xs) ≡ numbered (λ i x. taken (part_name (slice_get all i)) (f i x)) k xs
taking_walk f all [] k xs h = sym (taken_none (λ i x. taken (part_name (slice_get all i)) (f i x)) k xs (λ i x. ap (λ o. taken (part_name o) (f (k + i) x)) (h i)))
taking_walk f all (p ∷ ps) k [] h = refl
taking_walk f all (p ∷ ps) k (x ∷ xs) h =
    by_part p (taking_walk f all ps (k + 1) xs (later all ps p k h))
    ∙ ap (λ o. taken (part_name o) (f k x) ++ numbered (λ i x. taken (part_name (slice_get all i)) (f i x)) (k + 1) xs)
    (sym (let e : k + 0 ≡ k = omega arith in ap (slice_get all) (sym e) ∙ h 0))
  where
    by_part : (q : Option Named) →
        taking (map (option_map (λ n. n.name)) ps) (numbered (λ i x. f i x ∷ []) (k + 1) xs) ≡ numbered (λ i x. taken (part_name (slice_get all i)) (f i x)) (k + 1) xs →
        taking (map (option_map (λ n. n.name)) (q ∷ ps)) (f k x ∷ numbered (λ i x. f i x ∷ []) (k + 1) xs)
        ≡ taken (part_name (Some q)) (f k x) ++ numbered (λ i x. taken (part_name (slice_get all i)) (f i x)) (k + 1) xs
    by_part None e = e
    by_part (Some n) e = ap (λ l. filter (has_action (Some n.name)) (f k x) ∷ l) e
