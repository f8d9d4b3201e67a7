-- The columns of a file are as many as their texts, which stand in order.
use Rattle.std.specs.Prelude.{◌≡◌, ℕ, zero, suc, ◌+◌, ◌-◌, ◌<◌, ◌≤◌, List, [], ◌∷◌, ◌++◌, map, length, Some, codes, slice_get}
use Rattle.std.specs.Fmt.{decimal}
use Rattle.std.proofs.Common.{sym, ap, ap₂, ◌∙◌, arith, length-append}
use Rattle.std.proofs.lemmas.List.{length-map}
use Rattle.basics.specs.Lists.{slice_get-front}
use Rattle.process_core.specs.Instance.{Valuation}
use Rattle.jani_tree.specs.Syntax.{File, element_names}
use Rattle.jani_meaning.specs.Elements.{elements, lasting}
use Rattle.jani_meaning.specs.Scene.{column, columns_of, constant_names, location_column}
use Rattle.instance_start.specs.Columns.{column_of}
use Rattle.instance_start.specs.declared.data.Column.{Column}
use Rattle.jani_instance.specs.Described.{column_texts, texts_from}
use Rattle.jani_instance.specs.Lawful.{column_count, texts_length}
use Rattle.jani_meaning.specs.LoopLaws.{element_count}

pub column_number : (cs : List Column) (file : File) (v : Valuation) → map column_of cs ≡ columns_of file v → length cs ≡ length (column_texts file)
column_number cs file v e =
    sym (length-map cs column_of)
    ∙ ap length e
    ∙ length-append (map location_column (elements file)) (map (λ o. column (constant_names file v) o.var) (lasting file))
    ∙ ap₂ (λ a b. a + b) (length-map (elements file) location_column ∙ element_count file) (length-map (lasting file) (λ o. column (constant_names file v) o.var))
    ∙ sym (column_count file)

text_at : (mark : List ℕ) (j n i : ℕ) → i < n → slice_get (texts_from mark j n) i ≡ Some (mark ++ decimal (j + i))
text_at mark j zero i h = absurd (omega (arith, h))
text_at mark j (suc n) zero h = ap (λ k. Some (mark ++ decimal k)) (let d : j ≡ j + 0 = omega arith in d)
text_at mark j (suc n) (suc i) h =
    text_at mark (j + 1) n i (let d : i < n = omega (arith, h) in d) ∙ ap (λ k. Some (mark ++ decimal k)) (let d : j + 1 + i ≡ j + suc i = omega arith in d)

in_second : {X : Type 0} (xs ys : List X) (i : ℕ) → slice_get (xs ++ ys) (length xs + i) ≡ slice_get ys i
in_second [] ys i = ap (slice_get ys) (let d : 0 + i ≡ i = omega arith in d)
in_second (x ∷ xs) ys i = ap (slice_get (x ∷ (xs ++ ys))) (let d : suc (length xs) + i ≡ suc (length xs + i) = omega arith in d) ∙ in_second xs ys i

pub location_text : (file : File) (i : ℕ) → i < length (element_names file) → slice_get (column_texts file) i ≡ Some (codes "@" ++ decimal i)
location_text file i h =
    let n = length (element_names file) in
    let m = length (lasting file) in
    let e = texts_length (codes "@") 0 n in
    slice_get-front (texts_from (codes "@") 0 n) (texts_from (codes "#") 0 m) i (let d : i < length (texts_from (codes "@") 0 n) = omega (arith, h, e) in d)
    ∙ text_at (codes "@") 0 n i h
    ∙ ap (λ k. Some (codes "@" ++ decimal k)) (let d : 0 + i ≡ i = omega arith in d)

pub variable_text : (file : File) (i : ℕ) → length (element_names file) ≤ i → i < length (column_texts file) → slice_get (column_texts file) i ≡ Some (codes "#" ++ decimal (i - length (element_names file)))
variable_text file i l h =
    let n = length (element_names file) in
    let m = length (lasting file) in
    let e : length (texts_from (codes "@") 0 n) ≡ n = texts_length (codes "@") 0 n in
    let f : length (column_texts file) ≡ n + m = column_count file in
    ap (slice_get (column_texts file)) (let d : i ≡ length (texts_from (codes "@") 0 n) + (i - n) = omega (arith, l, e) in d)
    ∙ in_second (texts_from (codes "@") 0 n) (texts_from (codes "#") 0 m) (i - n)
    ∙ text_at (codes "#") 0 m (i - n) (let d : i - n < m = omega (arith, h, l, f) in d)
    ∙ ap (λ k. Some (codes "#" ++ decimal k)) (let d : 0 + (i - n) ≡ i - n = omega arith in d)
