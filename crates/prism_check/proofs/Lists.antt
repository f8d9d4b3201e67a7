-- One more member of a list, told of those that are left.
use Rattle.std.proofs.Common.{◌≡◌, ℕ, ◌+◌, ◌-◌, ◌<◌, nat_lt, Bool, true, false, cond, List, [], ◌∷◌, ◌++◌, length, drop, get_or, sym, ap, ◌∙◌, append_assoc}
use Rattle.std.proofs.lemmas.List.{get_or_default}
use Rattle.name_rules.specs.Circles.{turns_from}
use Rattle.basics.specs.Lists.{drop_item}

-- the turns from a place on, counted from there
pub turns_left : (c : ℕ) (total old new : List ℕ) (xs : List ℕ) (i : ℕ) → i < length xs → old ++ turns_from c (drop i xs) ≡ total →
    new ≡ cond (nat_lt (get_or xs i 0) c) old (old ++ (get_or xs i 0 - c) ∷ []) → new ++ turns_from c (drop (i + 1) xs) ≡ total
turns_left c total old new xs i h so_far added =
    let x = get_or xs i 0 in
    let rest = turns_from c (drop (i + 1) xs) in
    by_test (nat_lt x c) rest added ∙ ap (λ l. old ++ turns_from c l) (sym (drop_item xs i x h (get_or_default xs i 0 x h))) ∙ so_far
  where
    by_test : (b : Bool) (rest : List ℕ) → new ≡ cond b old (old ++ (get_or xs i 0 - c) ∷ []) → new ++ rest ≡ old ++ cond b rest ((get_or xs i 0 - c) ∷ rest)
    by_test true rest e = ap (λ l. l ++ rest) e
    by_test false rest e = ap (λ l. l ++ rest) e ∙ append_assoc old ((get_or xs i 0 - c) ∷ []) rest
