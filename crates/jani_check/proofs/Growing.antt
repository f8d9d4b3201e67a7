-- Lists of names that grow.
use Rattle.std.specs.Prelude.{ℕ, ◌<◌, ◌≤◌, ◌+◌, List, [], ◌∷◌, ◌++◌, map, length, drop, Bool, true, false, bytes_eq, if◌then◌else◌}
use Rattle.std.specs.Borrow.{Bor}
use Rattle.std.proofs.Common.{◌≡◌, refl, sym, ap, ◌∙◌, get_or, append-nil, append_assoc}
use Rattle.std.proofs.lemmas.List.{at_drop_more, at_drop_all, map-append}
use Rattle.gathering.specs.Instance.{only_if}
use Rattle.name_rules.specs.Names.{Name}
use Rattle.name_rules.proofs.Maps.{no_str}

-- one more name in the list under a name
only_name : (b : Bool) (s : Bor (List ℕ)) → map (λ y. y.now) (only_if b s) ≡ (if b then s.now ∷ [] else [])
only_name true s = refl
only_name false s = refl

pub name_added : (b : Bool) (l new : List (Bor (List ℕ))) (s : Bor (List ℕ)) → new ≡ l ++ only_if b s → map (λ y. y.now) new ≡ map (λ y. y.now) l ++ (if b then s.now ∷ [] else [])
name_added b l new s h = ap (map (λ y. y.now)) h ∙ map-append (λ y. y.now) l (only_if b s) ∙ ap (λ r. map (λ y. y.now) l ++ r) (only_name b s)

under_append : (b : Bool) (xs ys : List Name) → (if b then xs ++ ys else []) ≡ (if b then xs else []) ++ (if b then ys else [])
under_append true xs ys = refl
under_append false xs ys = refl

-- one name of a list more under a name
pub one_under : (key q : List ℕ) (xs : List (Bor (List ℕ))) (i : ℕ) (old new whole : List Name) → i < length xs →
    new ≡ old ++ (if bytes_eq key q then (get_or xs i no_str).now ∷ [] else []) →
    old ++ (if bytes_eq key q then map (λ s. s.now) (drop i xs) else []) ≡ whole → new ++ (if bytes_eq key q then map (λ s. s.now) (drop (i + 1) xs) else []) ≡ whole
one_under key q xs i old new whole h added so_far =
    let b = bytes_eq key q in
    let rest = map (λ s. s.now) (drop (i + 1) xs) in
    ap (λ l. l ++ (if b then rest else [])) added
    ∙ append_assoc old (if b then (get_or xs i no_str).now ∷ [] else []) (if b then rest else [])
    ∙ ap (λ l. old ++ l) (sym (under_append b ((get_or xs i no_str).now ∷ []) rest))
    ∙ sym (at_drop_more (λ ys. old ++ (if b then map (λ s. s.now) ys else [])) xs i no_str h)
    ∙ so_far

pub none_under : (key q : List ℕ) (xs : List (Bor (List ℕ))) (i : ℕ) (old whole : List Name) → length xs ≤ i →
    old ++ (if bytes_eq key q then map (λ s. s.now) (drop i xs) else []) ≡ whole → old ≡ whole
none_under key q xs i old whole h so_far =
    sym (no_more (bytes_eq key q) old) ∙ sym (at_drop_all (λ ys. old ++ (if bytes_eq key q then map (λ s. s.now) ys else [])) xs i h) ∙ so_far
  where
    no_more : (b : Bool) (l : List Name) → l ++ (if b then [] else []) ≡ l
    no_more true l = append-nil l
    no_more false l = append-nil l
