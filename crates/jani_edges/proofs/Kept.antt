-- Lists that loops keep members in, and names that are found from the end, one member more.
use Rattle.std.proofs.Common.{◌≡◌, ℕ, ◌+◌, ◌<◌, min, List, [], ◌∷◌, ◌++◌, map, length, get_or, take, drop, refl, sym, ap, ap₂, ◌∙◌, arith}
use Rattle.std.specs.Prelude.{nat_le, Bool, true, false, if◌then◌else◌, Some, None, bytes_eq}
use Rattle.std.specs.List.{filter}
use Rattle.std.specs.Borrow.{Bor}
use Rattle.std.proofs.lemmas.List.{drop_all, map-append}
use Rattle.std.proofs.lemmas.List.Elements.{filter-append}
use Rattle.basics.specs.Lists.{drop_item}
use Rattle.process_core.specs.Ready.{Name}
use Rattle.name_table.specs.declared.entry.Entry.{Entry}
use Rattle.gathering.proofs.Loops.{taken}
use Rattle.jani_edges.specs.Code.{found}

-- ---- what is kept
pub kept_more : {A B : Type 0} (p : B → Bool) (s : A → B) (xs : List A) (i : ℕ) (x : A) → i < length xs → x ≡ get_or xs i x →
    filter p (map s (take (i + 1) xs)) ≡ filter p (map s (take i xs)) ++ (if p (s x) then s x ∷ [] else [])
kept_more p s xs i x h e =
    ap (λ l. filter p (map s l)) (taken xs i x h e)
    ∙ ap (filter p) (map-append s (take i xs) (x ∷ []))
    ∙ filter-append p (map s (take i xs)) (s x ∷ [])

-- ---- names that are found, from the end
pub not_found : (olds : List Name) (x : Name) → found olds [] x ≡ None
not_found [] x = refl
not_found (y ∷ ys) x = refl

pub found_step : (olds : List (Bor Name)) (news : List Entry) (i j : ℕ) (y : Bor Name) (e : Entry) (x : Name) → i ≡ j + 1 → j < length olds → j < length news → y ≡ get_or olds j y → e ≡ get_or news j e →
    (if bytes_eq y.now x then Some e.name else found (map (λ z. z.now) (drop i olds)) (drop i news) x) ≡ found (map (λ z. z.now) (drop j olds)) (drop j news) x
found_step olds news i j y e x n h k a b =
    ap (λ (m : ℕ). if bytes_eq y.now x then Some e.name else found (map (λ z. z.now) (drop m olds)) (drop m news) x) n
    ∙ sym (ap₂ (λ l m. found (map (λ z. z.now) l) m x) (drop_item olds j y h a) (drop_item news j e k b))

pub found_none : (olds : List (Bor Name)) (news : List Entry) (n : ℕ) (x : Name) → n ≡ min (length olds) (length news) → found (map (λ z. z.now) (drop n olds)) (drop n news) x ≡ None
found_none olds news n x m = which (nat_le (length olds) (length news)) refl
  where
    which : (b : Bool) → b ≡ nat_le (length olds) (length news) → found (map (λ z. z.now) (drop n olds)) (drop n news) x ≡ None
    which true b = ap (λ (l : List (Bor Name)). found (map (λ z. z.now) l) (drop n news) x) (drop_all n olds (grind arith))
    which false b = ap (λ (l : List Entry). found (map (λ z. z.now) (drop n olds)) l x) (drop_all n news (grind arith)) ∙ not_found _ x
