-- Lists that loops gather, one member more, and lists of images.
use Rattle.std.proofs.Common.{◌≡◌, ℕ, ◌+◌, ◌<◌, List, [], ◌∷◌, ◌++◌, map, Bool, true, cond, Result, Ok, Err, IfOk, Vec, Global, length, get_or, take, sym, ap, ap₂, ◌∙◌, append-nil, append_assoc, arith}
use Rattle.std.specs.List.{list_any, flat_map, filter}
use Rattle.std.proofs.lemmas.List.{take_more, map-append, map_more}
use Rattle.std.proofs.lemmas.List.Elements.{filter-append}
use Rattle.std.proofs.lemmas.List.Concat.{flat_map-append}
use Rattle.std.proofs.lemmas.List.Folds.{list_any_at}
use Rattle.process_core.specs.Product.{one_of_each, one_of_each-map, map-map}

-- one that passes
pub any_here : {A : Type 0} (p : A → Bool) (xs : List A) (i : ℕ) (x : A) → i < length xs → x ≡ get_or xs i x → p x ≡ true → list_any p xs ≡ true
any_here p xs i x h e t = list_any_at p xs i x h (ap p (sym e) ∙ t)

-- one member more, whose part is added at the end
pub flat_more : {A B Y : Type 0} (view : Y → B) (f : A → List B) (xs : List A) (i : ℕ) (x : A) (old new added : List Y) → i < length xs → x ≡ get_or xs i x →
    map view old ≡ flat_map f (take i xs) → new ≡ old ++ added → map view added ≡ f x → map view new ≡ flat_map f (take (i + 1) xs)
flat_more view f xs i x old new added h e so_far pushed here =
    ap (map view) pushed
    ∙ map-append view old added
    ∙ ap₂ (λ a b. a ++ b) so_far here
    ∙ ap (λ l. flat_map f (take i xs) ++ l) (sym (append-nil (f x)))
    ∙ sym (flat_map-append f (take i xs) (x ∷ []))
    ∙ ap (flat_map f) (ap (λ z. take i xs ++ z ∷ []) e ∙ sym (take_more xs i x h))

-- one member more, whose image is added where it passes
pub kept_more : {A B Y : Type 0} (view : Y → B) (p : B → Bool) (f : A → B) (xs : List A) (i : ℕ) (x : A) (old new : List Y) (b : Bool) → i < length xs → x ≡ get_or xs i x →
    map view old ≡ filter p (map f (take i xs)) → b ≡ p (f x) → map view new ≡ map view old ++ cond b (f x ∷ []) [] → map view new ≡ filter p (map f (take (i + 1) xs))
kept_more view p f xs i x old new b h e so_far told next =
    next
    ∙ ap₂ (λ l b. l ++ cond b (f x ∷ []) []) so_far told
    ∙ sym (filter-append p (map f (take i xs)) (f x ∷ []))
    ∙ ap (filter p) (ap (λ z. map f (take i xs) ++ f z ∷ []) e ∙ sym (map_more f xs i x h))

-- ---- products, seen
pub ways_seen : {V X Y : Type 0} (items : V → List X) (f : X → Y) (ways lists : List V) → map items ways ≡ one_of_each (map items lists) →
    map (λ w. map f (items w)) ways ≡ one_of_each (map (λ l. map f (items l)) lists)
ways_seen items f ways lists h =
    sym (map-map (map f) items ways)
    ∙ ap (map (map f)) h
    ∙ sym (one_of_each-map f (map items lists))
    ∙ ap one_of_each (map-map (map f) items lists)

pub ways_answered : {V X Y E : Type 0} (items : V → List X) (f : X → Y) (r : Result (Vec V Global) E) (lists : List V) (seen : List (List Y)) → map (λ l. map f (items l)) lists ≡ seen →
    IfOk r (λ w. map items w.items ≡ one_of_each (map items lists)) → IfOk r (λ w. map (λ x. map f (items x)) w.items ≡ one_of_each seen)
ways_answered items f (Ok w) lists seen e h = ways_seen items f w.items lists h ∙ ap one_of_each e
ways_answered items f (Err x) lists seen e h = h

-- one member more behind a list that stays, whose image is added at the end
pub map_after : {A B Y : Type 0} (view : Y → B) (f : A → B) (before : List B) (xs : List A) (i : ℕ) (x : A) (old new : List Y) (y : Y) → i < length xs → x ≡ get_or xs i x →
    map view old ≡ before ++ map f (take i xs) → new ≡ old ++ y ∷ [] → view y ≡ f x → map view new ≡ before ++ map f (take (i + 1) xs)
map_after view f before xs i x old new y h e so_far pushed here =
    ap (map view) pushed
    ∙ map-append view old (y ∷ [])
    ∙ ap₂ (λ a b. a ++ b ∷ []) so_far here
    ∙ append_assoc before (map f (take i xs)) (f x ∷ [])
    ∙ ap (λ l. before ++ l) (sym (map-append f (take i xs) (x ∷ [])) ∙ ap (map f) (ap (λ z. take i xs ++ z ∷ []) e ∙ sym (take_more xs i x h)))

-- a list of one member
pub single : {X : Type 0} (xs : List X) (x : X) → length xs ≡ 1 → x ≡ get_or xs 0 x → xs ≡ x ∷ []
single [] x n e = let no : ⊥ = omega arith in absurd no
single (y ∷ []) x n e = ap (λ z. z ∷ []) (sym e)
single (y ∷ (z ∷ zs)) x n e = let no : ⊥ = omega arith in absurd no
