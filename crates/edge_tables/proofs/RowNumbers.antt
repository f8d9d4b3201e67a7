-- Vectors that get the numbers of their targets, one more.
use Rattle.std.specs.Prelude.{◌≡◌, ℕ, ◌+◌, ◌<◌, List, [], ◌∷◌, ◌++◌, map, length, drop, get_or}
use Rattle.std.proofs.Common.{sym, ap, ap₂, ◌∙◌, append_assoc}
use Rattle.std.proofs.lemmas.List.{map-append}
use Rattle.basics.specs.Lists.{drop_item}
use Rattle.edge_tables.specs.Tables.{Split, Row, row_at, rows_from, split_count}

pub rows_more : {A Y : Type 0} (view : Y → Row) (s : A → Split) (xs : List A) (i n m : ℕ) (x : A) (y : Y) (old new : List Y) (total : List Row) → i < length xs → x ≡ get_or xs i x →
    map view old ++ rows_from n (map s (drop i xs)) ≡ total → view y ≡ row_at n (s x) → (view y).end ≡ m → new ≡ old ++ y ∷ [] →
    map view new ++ rows_from m (map s (drop (i + 1) xs)) ≡ total
rows_more view s xs i n m x y old new total h e so_far here at pushed =
    ap₂ (λ l k. map view l ++ rows_from k (map s (drop (i + 1) xs))) pushed (sym at ∙ ap (λ (r : Row). r.end) here)
    ∙ ap (λ l. l ++ rows_from (n + split_count (s x)) (map s (drop (i + 1) xs))) (map-append view old (y ∷ []))
    ∙ append_assoc (map view old) (view y ∷ []) (rows_from (n + split_count (s x)) (map s (drop (i + 1) xs)))
    ∙ ap (λ z. map view old ++ z ∷ rows_from (n + split_count (s x)) (map s (drop (i + 1) xs))) here
    ∙ ap (λ l. map view old ++ rows_from n (map s l)) (sym (drop_item xs i x h e))
    ∙ so_far
