-- Numbers by names: room for one element more, one number more.
use Rattle.std.proofs.Common.{◌≡◌, ℕ, suc, zero, ◌+◌, ◌<◌, List, [], ◌∷◌, ◌++◌, map, length, take, get_or, cond, refl, sym, ap, ap₂, ◌∙◌, arith}
use Rattle.std.specs.Prelude.{Bool, true, false, Option, Some, None, slice_get}
use Rattle.std.specs.List.{position}
use Rattle.std.specs.Option.{option_map, option_or}
use Rattle.std.proofs.lemmas.List.{map-append, length-map, length-take}
use Rattle.basics.specs.Members.{position_cons}
use Rattle.process_core.specs.Ready.{Name}
use Rattle.name_rules.specs.declared.map.NameMap.{NameMap}
use Rattle.name_rules.specs.Names.{under}
use Rattle.gathering.proofs.Loops.{taken}
use Rattle.edge_tables.specs.Places.{under_some, only_then}

-- where there is no map yet
pub none_yet : (k : ℕ) (x : Name) → under_some (slice_get [] k) x ≡ None
none_yet zero x = refl
none_yet (suc k) x = refl

-- an empty map behind the others
pub grown : (ms : List (NameMap ℕ)) (m : NameMap ℕ) (k : ℕ) (x : Name) → under m x ≡ None → under_some (slice_get (ms ++ m ∷ []) k) x ≡ under_some (slice_get ms k) x
grown [] m zero x h = h
grown [] m (suc k) x h = refl
grown (n ∷ ns) m zero x h = refl
grown (n ∷ ns) m (suc k) x h = grown ns m k x h

-- ---- the first that passes

-- with one more behind
position_behind : {X : Type 0} (p : X → Bool) (xs : List X) (y : X) → position p (xs ++ y ∷ []) ≡ option_or (position p xs) (only_then (p y) (length xs))
position_behind p [] y = position_cons p y [] ∙ by_test (p y)
  where
    by_test : (b : Bool) → cond {A = Option ℕ} b (Some 0) None ≡ option_or None (only_then b 0)
    by_test true = refl
    by_test false = refl
position_behind p (x ∷ xs) y =
    position_cons p x (xs ++ y ∷ [])
    ∙ ap (λ o. cond {A = Option ℕ} (p x) (Some 0) (option_map suc o)) (position_behind p xs y)
    ∙ by_test (p x) (position p xs) (p y)
    ∙ ap (λ o. option_or o (only_then (p y) (suc (length xs)))) (sym (position_cons p x xs))
  where
    by_test : (b : Bool) (o : Option ℕ) (c : Bool) →
        cond {A = Option ℕ} b (Some 0) (option_map suc (option_or o (only_then c (length xs)))) ≡ option_or (cond {A = Option ℕ} b (Some 0) (option_map suc o)) (only_then c (suc (length xs)))
    by_test true o c = refl
    by_test false None true = refl
    by_test false None false = refl
    by_test false (Some i) c = refl

-- the first that passes of those that a loop has seen, and of one more
pub position_more : {A B : Type 0} (p : B → Bool) (s : A → B) (xs : List A) (i : ℕ) (x : A) (old new : Option ℕ) → i < length xs → x ≡ get_or xs i x →
    old ≡ position p (map s (take i xs)) → new ≡ option_or old (only_then (p (s x)) i) → new ≡ position p (map s (take (i + 1) xs))
position_more p s xs i x old new h e so_far next =
    let n : length (map s (take i xs)) ≡ i = length-map (take i xs) s ∙ (let m = length-take i xs in omega arith) in
    next
    ∙ ap₂ (λ o j. option_or o (only_then (p (s x)) j)) so_far (sym n)
    ∙ sym (position_behind p (map s (take i xs)) (s x))
    ∙ ap (position p) (sym (map-append s (take i xs) (x ∷ [])) ∙ ap (map s) (sym (taken xs i x h e)))
