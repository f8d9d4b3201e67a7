-- Each variable of the file is a column of the translated file, and so is the location of each element that has several.
use Rattle.std.specs.Prelude.{◌≡◌, ℕ, ◌+◌, ◌<◌, ◌≤◌, List, [], ◌∷◌, map, length, Bool, true, false, ◌&&◌, ◌||◌, Option, Some, None, is_none, nat_eq, get_or, IfSome}
use Rattle.std.specs.List.{flat_map, filter, list_any, All}
use Rattle.std.proofs.Common.{refl, sym, ap, ap₂, subst, ◌∙◌, arith, ne_eqb}
use Rattle.std.proofs.lemmas.List.{map-append}
use Rattle.std.proofs.lemmas.List.Elements.{All-nil, All-cons, All-head, All-weaker, All-filter, All-append, All-map}
use Rattle.std.proofs.lemmas.List.Folds.{list_any-append}
use Rattle.std.proofs.lemmas.Bool.{or_right, or_left}
use Rattle.std.proofs.Math.Bool.{or-false}
use Rattle.std.proofs.lemmas.Option.{same_Some}
use Rattle.basics.specs.Numbers.{nat_eq-self}
use Rattle.basics.specs.Members.{any-map, any_agree}
use Rattle.choice_laws.specs.Columns.{stands}
use Rattle.choice_laws.proofs.Walks.{All-flat_map, any-filter, any-flat_map, has_any}
use Rattle.process_core.specs.Instance.{numbered, only_if}
use Rattle.jani_tree.specs.Syntax.{Var, Automaton, File, element_names}
use Rattle.jani_meaning.specs.Elements as jani
use Rattle.jani_meaning.specs.Elements.{owned_by, is_lasting, is_owner, lasting}
use Rattle.prism_translation.specs.Elements.{Element, elements, has_several, Lasting, lasting_variables, is_at, writers, shared_home, home_by, home, shared, own, adopted, at_home}
use Rattle.prism_translation.specs.StateLaws.{column_of, module_columns, columns}
use Rattle.prism_translation.proofs.Numbered.{automata_length, element_length, lasting_below, lasting_owned, told_by_number, element_numbers, lasting_length, no_element, lasting_numbers, no_lasting}
use Rattle.prism_translation.proofs.ColumnNames.{below}

module _ (file : File) where
  abbrev n : ℕ
  n = length (element_names file)

  abbrev m : ℕ
  m = length (lasting file)

  -- ---- all columns are columns of the file
  variables_below : All (λ (x : Lasting). x.number < m) (lasting_variables file)
  variables_below = All-weaker (λ (x : Lasting). x.number < 0 + m) (λ (x : Lasting). x.number < m) (λ x l. omega arith) (lasting_variables file) (lasting_below 0 (lasting file))

  columns_below : (P : Lasting → Bool) → All (λ j. j < n + m) (map (column_of file) (filter P (lasting_variables file)))
  columns_below P =
      All-map (λ j. j < n + m) (column_of file) (filter P (lasting_variables file))
      (All-filter P (λ x. column_of file x < n + m) (lasting_variables file) (All-weaker (λ (x : Lasting). x.number < m) (λ x. column_of file x < n + m) (λ x l. omega arith) (lasting_variables file) variables_below))

  module_below : (el : Element) → el.number < n → All (λ j. j < n + m) (module_columns file el)
  module_below el l =
      All-append (λ j. j < n + m) (only_if (has_several el) el.number) (map (column_of file) (at_home file el.number)) (one (has_several el))
      (subst (λ js. All (λ j. j < n + m) js) (sym (map-append (column_of file) (own file el.number) (adopted file el.number)))
      (All-append (λ j. j < n + m) (map (column_of file) (own file el.number)) (map (column_of file) (adopted file el.number))
      (columns_below (λ x. is_owner el.number x.owned.owner)) (columns_below (λ x. is_none x.owned.owner && is_at el.number (home file x)))))
    where
      one : (b : Bool) → All (λ j. j < n + m) (only_if b el.number)
      one true = All-cons (λ j. j < n + m) el.number [] (omega arith) (All-nil (λ j. j < n + m))
      one false = All-nil (λ j. j < n + m)

  pub all_within : All (λ j. j < n + m) (columns file)
  all_within =
      All-append (λ j. j < n + m) (map (column_of file) (shared file)) (flat_map (module_columns file) (elements file)) (columns_below (λ x. is_none (home file x)))
      (All-flat_map (λ j. j < n + m) (module_columns file) (elements file) (λ k d l. module_below (get_or (elements file) k d) (below file k d l)))

  -- ---- owners are elements
  owned_all : (o : Option ℕ) (xs : List Var) → IfSome o (λ k. k < n) → All (λ x. IfSome x.owner (λ k. k < n)) (owned_by o xs)
  owned_all o xs h = All-map (λ x. IfSome x.owner (λ k. k < n)) (λ x. record { owner = o; var = x }) xs (λ i d l. h)

  owned_from : (k : ℕ) (xs : List Automaton) → k + length xs ≤ n → All (λ x. IfSome x.owner (λ k. k < n)) (numbered (λ i a. owned_by (Some i) a.variables) k xs)
  owned_from k [] l = All-nil (λ x. IfSome x.owner (λ k. k < n))
  owned_from k (a ∷ xs) l =
      All-append (λ x. IfSome x.owner (λ k. k < n)) (owned_by (Some k) a.variables) (numbered (λ i a. owned_by (Some i) a.variables) (k + 1) xs)
      (owned_all (Some k) a.variables (omega arith)) (owned_from (k + 1) xs (omega arith))

  owners_below : All (λ x. IfSome x.owner (λ k. k < n)) (lasting file)
  owners_below =
      All-filter is_lasting (λ x. IfSome x.owner (λ k. k < n)) (jani.variables file)
      (All-append (λ x. IfSome x.owner (λ k. k < n)) (owned_by None file.variables) (numbered (λ i a. owned_by (Some i) a.variables) 0 (jani.elements file))
      (owned_all None file.variables tt) (owned_from 0 (jani.elements file) (let e = automata_length file in omega arith)))

  shared_below : 0 < n → (ws : List Element) → All (λ el. el.number < n) ws → IfSome (shared_home ws) (λ k. k < n)
  shared_below some [] h = some
  shared_below some (el ∷ []) h = All-head (λ el. el.number < n) el [] h
  shared_below some (el ∷ other ∷ more) h = tt

  home_below : 0 < n → All (λ x. IfSome (home file x) (λ k. k < n)) (lasting_variables file)
  home_below some k d l = by_owner x.owned.owner (lasting_owned (λ o. IfSome o.owner (λ k. k < n)) 0 (lasting file) owners_below k d l)
    where
      x : Lasting
      x = get_or (lasting_variables file) k d

      by_owner : (o : Option ℕ) → IfSome o (λ k. k < n) → IfSome (home_by (writers file x.number) o) (λ k. k < n)
      by_owner None h = shared_below some (writers file x.number) (All-filter _ (λ el. el.number < n) (elements file) (below file))
      by_owner (Some k) h = h

  -- ---- each variable has a column
  abbrev pub finds : ℕ → ℕ → Bool
  finds j c = nat_eq c j

  among : (P : Lasting → Bool) → All (λ x. P x ≡ true → list_any (finds (column_of file x)) (map (column_of file) (filter P (lasting_variables file))) ≡ true) (lasting_variables file)
  among P k d l h =
      let x = get_or (lasting_variables file) k d in
      any-map (finds (column_of file x)) (column_of file) (filter P (lasting_variables file))
      ∙ any-filter (λ y. nat_eq (column_of file y) (column_of file x)) P (lasting_variables file)
      ∙ has_any (λ y. P y && nat_eq (column_of file y) (column_of file x)) (lasting_variables file) k d l (ap₂ (λ a b. a && b) h (nat_eq-self (column_of file x)))

  -- where the module of an element has it
  in_module : (j k : ℕ) → k < n → list_any (finds j) (map (column_of file) (at_home file k)) ≡ true → list_any (finds j) (flat_map (module_columns file) (elements file)) ≡ true
  in_module j k l h =
      let e = automata_length file in
      let long = element_length 0 (jani.elements file) in
      let at : (get_or (elements file) k no_element).number ≡ k = element_numbers 0 (jani.elements file) k no_element (omega arith) ∙ (let o : 0 + k ≡ k = omega arith in o) in
      let el = get_or (elements file) k no_element in
      any-flat_map (finds j) (module_columns file) (elements file)
      ∙ has_any (λ el. list_any (finds j) (module_columns file el)) (elements file) k no_element (omega arith)
      (list_any-append (finds j) (only_if (has_several el) el.number) (map (column_of file) (at_home file el.number))
      ∙ or_right (list_any (finds j) (only_if (has_several el) el.number)) (list_any (finds j) (map (column_of file) (at_home file el.number)))
      (ap (λ i. list_any (finds j) (map (column_of file) (at_home file i))) at ∙ h))

  pub variable_stands : 0 < n → All (λ x. stands (columns file) (column_of file x) ≡ true) (lasting_variables file)
  variable_stands some k d l =
      list_any-append (finds (column_of file x)) (map (column_of file) (shared file)) (flat_map (module_columns file) (elements file))
      ∙ by_home (home file x) refl (home_below some k d l)
    where
      x : Lasting
      x = get_or (lasting_variables file) k d

      j : ℕ
      j = column_of file x

      front : Bool
      front = list_any (finds j) (map (column_of file) (shared file))

      back : Bool
      back = list_any (finds j) (flat_map (module_columns file) (elements file))

      by_owner : (i : ℕ) (o : Option ℕ) → x.owned.owner ≡ o → home file x ≡ Some i → list_any (finds j) (map (column_of file) (at_home file i)) ≡ true
      by_owner i None e f =
          ap (list_any (finds j)) (map-append (column_of file) (own file i) (adopted file i))
          ∙ list_any-append (finds j) (map (column_of file) (own file i)) (map (column_of file) (adopted file i))
          ∙ or_right (list_any (finds j) (map (column_of file) (own file i))) (list_any (finds j) (map (column_of file) (adopted file i)))
          (among (λ y. is_none y.owned.owner && is_at i (home file y)) k d l (ap₂ (λ a b. is_none a && is_at i b) e f ∙ nat_eq-self i))
      by_owner i (Some o) e f =
          let same : o ≡ i = same_Some o i (sym (ap (home_by (writers file x.number)) e) ∙ f) in
          ap (list_any (finds j)) (map-append (column_of file) (own file i) (adopted file i))
          ∙ list_any-append (finds j) (map (column_of file) (own file i)) (map (column_of file) (adopted file i))
          ∙ or_left (list_any (finds j) (map (column_of file) (own file i))) (list_any (finds j) (map (column_of file) (adopted file i)))
          (among (λ y. is_owner i y.owned.owner) k d l (ap (is_owner i) e ∙ ap (λ z. nat_eq i z) same ∙ nat_eq-self i))

      by_home : (h : Option ℕ) → home file x ≡ h → IfSome h (λ k. k < n) → (front || back) ≡ true
      by_home None e g = or_left front back (among (λ y. is_none (home file y)) k d l (ap is_none e))
      by_home (Some i) e g = or_right front back (in_module j i g (by_owner i x.owned.owner refl e))

  pub variable_there : 0 < n → (i : ℕ) → i < m → stands (columns file) (n + i) ≡ true
  variable_there some i l =
      let within : i < length (lasting_variables file) = let e = lasting_length 0 (lasting file) in omega arith in
      ap (λ k. stands (columns file) (n + k)) (sym (lasting_numbers 0 (lasting file) i no_lasting l ∙ (let o : 0 + i ≡ i = omega arith in o)))
      ∙ variable_stands some i no_lasting within

  -- ---- a location has a column where there are several
  pub no_variable : (xs : List Lasting) (i : ℕ) → i < n → list_any (finds i) (map (column_of file) xs) ≡ false
  no_variable [] i l = refl
  no_variable (x ∷ xs) i l = ap₂ (λ a b. a || b) (ne_eqb (column_of file x) i (λ e. let no : ⊥ = omega arith in no)) (no_variable xs i l)

  pub location_stands : All (λ el. stands (columns file) el.number ≡ has_several el) (elements file)
  location_stands k d l =
      let el = get_or (elements file) k d in
      let i = el.number in
      list_any-append (finds i) (map (column_of file) (shared file)) (flat_map (module_columns file) (elements file))
      ∙ ap (λ b. b || list_any (finds i) (flat_map (module_columns file) (elements file))) (no_variable (shared file) i (below file k d l))
      ∙ any-flat_map (finds i) (module_columns file) (elements file)
      ∙ any_agree _ (λ e. has_several e && nat_eq e.number i)
      (λ e. list_any-append (finds i) (only_if (has_several e) e.number) (map (column_of file) (at_home file e.number))
      ∙ ap (λ b. list_any (finds i) (only_if (has_several e) e.number) || b) (no_variable (at_home file e.number) i (below file k d l))
      ∙ by_test (has_several e) e.number i) (elements file)
      ∙ told_by_number has_several 0 (jani.elements file) k d l
    where
      by_test : (b : Bool) (x i : ℕ) → (list_any (finds i) (only_if b x) || false) ≡ (b && nat_eq x i)
      by_test true x i = or-false (nat_eq x i || false) ∙ or-false (nat_eq x i)
      by_test false x i = refl
