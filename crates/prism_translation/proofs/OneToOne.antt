-- No column stands twice in a translated file, so its states go one to one to those of the file.
use Rattle.std.specs.Prelude.{◌≡◌, ℕ, ◌+◌, ◌-◌, ◌<◌, ◌≤◌, List, [], ◌∷◌, map, length, Bool, true, false, ◌&&◌, cond, Option, Some, None, is_none, nat_eq, nat_lt, get_or, slice_get}
use Rattle.std.specs.List.{flat_map, filter, count_by, sum_by, All}
use Rattle.std.proofs.Common.{refl, sym, ap, ap₂, subst, ◌∙◌, arith, eq-eqb, ltb-true, ltb-false}
use Rattle.std.proofs.lemmas.Bool.{ne_eqb, eqb-true, both_ways}
use Rattle.std.proofs.lemmas.List.{map-append}
use Rattle.std.proofs.lemmas.List.Sums.{sum_by-cons, sum_by-append}
use Rattle.std.proofs.lemmas.List.Elements.{All-head, All-tail}
use Rattle.std.proofs.lemmas.Option.{same_Some}
use Rattle.process_core.specs.Often.{sum_by_agree, sum_by-map, sum_by-flat_map, sum_by-zero}
use Rattle.process_core.specs.Ready.{Values}
use Rattle.process_core.specs.Product.{map_agree_in}
use Rattle.choice_laws.specs.Columns.{value_at}
use Rattle.choice_laws.proofs.Columns.{read_at, read_back, times_of}
use Rattle.choice_laws.proofs.Members.{if_zero, none_counted, sum_by_agree_in}
use Rattle.process_core.specs.Instance.{only_if}
use Rattle.jani_tree.specs.Syntax.{File, element_names}
use Rattle.jani_meaning.specs.Elements as jani
use Rattle.jani_meaning.specs.Elements.{lasting, is_owner}
use Rattle.prism_translation.specs.Elements.{Element, elements, has_several, Lasting, lasting_variables, is_at, writers, home_by, home, shared, own, adopted, at_home}
use Rattle.prism_translation.specs.StateLaws.{column_of, module_columns, columns, state_of}
use Rattle.prism_translation.proofs.Numbered.{lasting_length, lasting_numbers, element_once, lasting_counted, no_lasting}
use Rattle.prism_translation.proofs.ColumnNames.{below}
use Rattle.prism_translation.proofs.Coverage.{no_variable, all_within}

module _ (file : File) where
  abbrev n : ℕ
  n = length (element_names file)

  shifted : (a b : ℕ) → nat_eq (n + a) (n + b) ≡ nat_eq a b
  shifted a b = by_test (nat_eq a b) refl
    where
      by_test : (c : Bool) → nat_eq a b ≡ c → nat_eq (n + a) (n + b) ≡ c
      by_test true e = let s : a ≡ b = eqb-true a b e in eq-eqb (n + a) (n + b) (omega arith)
      by_test false e = ne_eqb (n + a) (n + b) (λ h. both_ways (nat_eq a b) e (eq-eqb a b (omega arith)))

  -- how often a variable's column stands among some
  counted_columns : (P : Lasting → Bool) → All (λ x. times_of (column_of file x) (map (column_of file) (filter P (lasting_variables file))) ≡ cond (P x) 1 0) (lasting_variables file)
  counted_columns P k d l =
      let x = get_or (lasting_variables file) k d in
      sum_by-map (λ c. cond (nat_eq c (column_of file x)) 1 0) (column_of file) (filter P (lasting_variables file))
      ∙ sum_by_agree _ _ (λ y. ap (λ b. cond b 1 0) (shifted y.number x.number)) (filter P (lasting_variables file))
      ∙ lasting_counted P 0 (lasting file) k d l

  counted_locations : (P : List Lasting) (i : ℕ) → i < n → times_of i (map (column_of file) P) ≡ 0
  counted_locations P i l = none_counted (λ c. nat_eq c i) (map (column_of file) P) (no_variable file P i l)

  count_one : (q : ℕ → Bool) (b : Bool) (x : ℕ) → count_by q (only_if b x) ≡ cond b (cond (q x) 1 0) 0
  count_one q true x = omega arith
  count_one q false x = refl

  parts : (j : ℕ) → times_of j (columns file) ≡ times_of j (map (column_of file) (shared file)) + sum_by (λ el. times_of j (module_columns file el)) (elements file)
  parts j =
      sum_by-append (λ c. cond (nat_eq c j) 1 0) (map (column_of file) (shared file)) (flat_map (module_columns file) (elements file))
      ∙ ap (λ m. times_of j (map (column_of file) (shared file)) + m) (sum_by-flat_map (λ c. cond (nat_eq c j) 1 0) (module_columns file) (elements file))

  module_part : (el : Element) (j : ℕ) → times_of j (module_columns file el)
      ≡ cond (has_several el) (cond (nat_eq el.number j) 1 0) 0 + (times_of j (map (column_of file) (own file el.number)) + times_of j (map (column_of file) (adopted file el.number)))
  module_part el j =
      sum_by-append (λ c. cond (nat_eq c j) 1 0) (only_if (has_several el) el.number) (map (column_of file) (at_home file el.number))
      ∙ ap₂ (λ a b. a + b) (count_one (λ c. nat_eq c j) (has_several el) el.number)
      (ap (times_of j) (map-append (column_of file) (own file el.number) (adopted file el.number))
      ∙ sum_by-append (λ c. cond (nat_eq c j) 1 0) (map (column_of file) (own file el.number)) (map (column_of file) (adopted file el.number)))

  sum_at_most : {X : Type 0} (f g : X → ℕ) (xs : List X) → All (λ x. f x ≤ g x) xs → sum_by f xs ≤ sum_by g xs
  sum_at_most f g [] h = omega arith
  sum_at_most f g (x ∷ xs) h =
      let a = sum_by-cons f x xs in
      let b = sum_by-cons g x xs in
      let c = All-head (λ x. f x ≤ g x) x xs h in
      let d = sum_at_most f g xs (All-tail (λ x. f x ≤ g x) x xs h) in
      omega arith

  -- ---- a location
  location_once : (i : ℕ) → i < n → times_of i (columns file) ≤ 1
  location_once i l =
      let front = counted_locations (shared file) i l in
      let p = parts i in
      let most = sum_at_most (λ el. times_of i (module_columns file el)) (λ el. cond (nat_eq el.number i) 1 0) (elements file)
      (λ k d x.
      let el = get_or (elements file) k d in
      let m = module_part el i in
      let a = counted_locations (own file el.number) i l in
      let b = counted_locations (adopted file el.number) i l in
      let c = at_most (has_several el) (cond (nat_eq el.number i) 1 0) in
      omega arith) in
      let one = element_once 0 (jani.elements file) i in
      omega arith
    where
      at_most : (b : Bool) (m : ℕ) → cond b m 0 ≤ m
      at_most true m = omega arith
      at_most false m = omega arith

  -- ---- a variable
  owned_once : (i : ℕ) (h : Option ℕ) (ws : List Element) (o : Option ℕ) → home_by ws o ≡ h →
      cond (is_owner i o) 1 0 + cond (is_none o && is_at i h) 1 0 ≡ cond (is_at i h) 1 0
  owned_once i h ws None e = omega arith
  owned_once i h ws (Some k) e = ap (λ m. cond (is_owner i (Some k)) 1 0 + m) (refl) ∙ (let s : cond (is_at i (Some k)) 1 0 + 0 ≡ cond (is_at i (Some k)) 1 0 = omega arith in s) ∙ ap (λ h. cond (is_at i h) 1 0) e

  homes_once : (h : Option ℕ) → cond (is_none h) 1 0 + sum_by (λ (el : Element). cond (is_at el.number h) 1 0) (elements file) ≤ 1
  homes_once None = let e = sum_by-zero (elements file) in omega arith
  homes_once (Some k) = let e = element_once 0 (jani.elements file) k in omega arith

  variable_once : All (λ x. times_of (column_of file x) (columns file) ≤ 1) (lasting_variables file)
  variable_once k d l =
      let x = get_or (lasting_variables file) k d in
      let j = column_of file x in
      let front = counted_columns (λ y. is_none (home file y)) k d l in
      let p = parts j in
      let homes = homes_once (home file x) in
      let all = sum_by_agree_in (λ el. times_of j (module_columns file el)) (λ el. cond (is_at el.number (home file x)) 1 0) (elements file)
      (λ i a m.
      let el = get_or (elements file) i a in
      let low = below file i a m in
      module_part el j
      ∙ ap₂ (λ b c. cond (has_several el) (cond b 1 0) 0 + c) (ne_eqb el.number j (λ e. omega arith))
      (ap₂ (λ b c. b + c) (counted_columns (λ y. is_owner el.number y.owned.owner) k d l) (counted_columns (λ y. is_none y.owned.owner && is_at el.number (home file y)) k d l)
      ∙ owned_once el.number (home file x) (writers file x.number) x.owned.owner refl)
      ∙ ap (λ b. b + cond (is_at el.number (home file x)) 1 0) (if_zero (has_several el)) ∙ omega arith) in
      omega arith

  pub columns_once : All (λ j. times_of j (columns file) ≤ 1) (columns file)
  columns_once k d l = by_kind (nat_lt j n) refl
    where
      j : ℕ
      j = get_or (columns file) k d

      by_kind : (b : Bool) → nat_lt j n ≡ b → times_of j (columns file) ≤ 1
      by_kind true e = location_once j (ltb-true j n e)
      by_kind false e =
          let up = ltb-false j n e in
          let within = all_within file k d l in
          let low : j - n < length (lasting file) = omega arith in
          let long = lasting_length 0 (lasting file) in
          let at = lasting_numbers 0 (lasting file) (j - n) no_lasting low in
          let there : j - n < length (lasting_variables file) = omega arith in
          let same : column_of file (get_or (lasting_variables file) (j - n) no_lasting) ≡ j = omega arith in
          let once = variable_once (j - n) no_lasting there in
          subst (λ i. times_of i (columns file) ≤ 1) same once

-- ---- what stands in each column tells the state
pub states_one : (file : File) (s t : Values) → length s ≡ length (columns file) → length t ≡ length (columns file) → state_of file s ≡ state_of file t → s ≡ t
states_one file s t l m e =
    let cols = columns file in
    let total = length (element_names file) + length (lasting file) in
    sym (read_back cols s l (columns_once file))
    ∙ map_agree_in (value_at cols s) (value_at cols t) cols
    (λ k d x.
    let j = get_or cols k d in
    let within = all_within file k d x in
    same_Some (value_at cols s j) (value_at cols t j) (sym (read_at cols total s j within) ∙ ap (λ u. slice_get u j) e ∙ read_at cols total t j within))
    ∙ read_back cols t m (columns_once file)
