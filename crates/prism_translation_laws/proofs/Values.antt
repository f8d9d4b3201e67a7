-- The names of the constants and variables of a translated file: no two are the same, and what a name of an expression becomes is
-- one of them.
use Rattle.std.specs.Prelude.{◌≡◌, ◌<◌, ◌≤◌, ℕ, zero, suc, ◌+◌, List, [], ◌∷◌, ◌++◌, map, length, Bool, true, false, ◌||◌, Option, Some, None, get_or, bytes_eq, nat_eq, nat_lt, unwrap_or, cond}
use Rattle.std.proofs.Common.{refl, sym, ap, ap₂, subst, ◌∙◌, arith, eq-eqb, inl, inr}
use Rattle.std.specs.Option.{option_map, option_or}
use Rattle.std.specs.List.{count_by, flat_map, zip, All, list_any, position}
use Rattle.std.proofs.lemmas.Bool.{eqb-true, or_left, or_right}
use Rattle.std.proofs.lemmas.Slice.Eq.{bytes_eq-Decides}
use Rattle.std.proofs.lemmas.List.{map-append}
use Rattle.std.proofs.lemmas.List.Sums.{sum_by-cons}
use Rattle.std.proofs.lemmas.List.Elements.{All-head, All-tail, All-append, All-map}
use Rattle.std.proofs.lemmas.List.Folds.{list_any-append, flat_map-map}
use Rattle.std.proofs.lemmas.List.Quantifiers.{position-Some}
use Rattle.basics.specs.Texts.{bytes_ne, bytes_eq-self}
use Rattle.basics.specs.Numbers.{nat_eq_comm}
use Rattle.basics.specs.Members.{any-map}
use Rattle.bridge_io.specs.declared.reason.Named.{Named}
use Rattle.process_core.specs.Product.{map-map, map-flat_map}
use Rattle.process_core.specs.Ready.{Name}
use Rattle.process_core.proofs.Targets.{Distinct}
use Rattle.choice_laws.specs.Columns.{stands}
use Rattle.choice_laws.proofs.Walks.{flat_map_agree_in}
use Rattle.choice_laws.proofs.Members.{not_counted}
use Rattle.prism_lex.specs.declared.token.TokenKind.TheVariants.{Ident}
use Rattle.prism_lex.specs.Tokens.{IsKind}
use Rattle.name_rules.proofs.Plain.{among_names}
use Rattle.prism_tree.specs.Syntax as prism
use Rattle.prism_tree.specs.Syntax.{plain}
use Rattle.process_core.specs.Instance.{Valuation, only_if}
use Rattle.prism_check.specs.NameFaults.{module_vars, values}
use Rattle.jani_tree.specs.Syntax.{boolean, Const, File, element_names}
use Rattle.op_trees.specs.Names.{is_called}
use Rattle.jani_meaning.specs.Elements.{is_own, is_global, lasting, place_of}
use Rattle.prism_translation.specs.Entry.{Entry}
use Rattle.prism_translation.specs.PrismAsks.{NewNames, name_at, value_name}
use Rattle.prism_translation.specs.Elements.{Element, elements, has_several, Lasting, lasting_variables, shared, at_home}
use Rattle.prism_translation.specs.Names.{new_names}
use Rattle.prism_translation.specs.Parts.{constant, variable, location_name, location_variable}
use Rattle.prism_translation.specs.Modules.{module_of}
use Rattle.prism_translation.specs.StateLaws.{column_of, module_columns, columns}
use Rattle.prism_translation.specs.Translated.{translated}
use Rattle.prism_translation.specs.Sound.{IsConstant, IsKnown}
use Rattle.prism_translation.proofs.OnlyIf.{map-only_if}
use Rattle.prism_translation.proofs.Numbered.{lasting_length, lasting_numbers}
use Rattle.prism_translation.proofs.Follows.{column_name, variable_name}
use Rattle.prism_translation.proofs.ColumnNames.{below, location_is, entries_differ, entries_long, constant_entry, index, index_below, named_by, names_apart}
use Rattle.prism_translation.proofs.Coverage.{all_within, variable_stands, location_stands}
use Rattle.prism_translation.proofs.OneToOne.{columns_once}
use Rattle.prism_translation_laws.proofs.Good.{is_value}
use Rattle.prism_translation_laws.proofs.Images.{GoodName}
use Rattle.prism_translation_laws.proofs.Segments.{name_there, constants_part, constant_spelled, variable_spelled}

-- ---- names that differ
abbrev pub Differ : List Name → Type 0
Differ xs = Distinct bytes_eq bytes_eq-Decides xs

differ_join : (xs ys : List Name) → Differ xs → Differ ys → All (λ x. All (λ y. bytes_eq x y ≡ false) ys) xs → Differ (xs ++ ys)
differ_join [] ys h k o = k
differ_join (x ∷ xs) ys h k o = (
  All-append (λ y. bytes_eq x y ≡ false) xs ys h.0 (All-head (λ x. All (λ y. bytes_eq x y ≡ false) ys) x xs o),
  differ_join xs ys h.1 k (All-tail (λ x. All (λ y. bytes_eq x y ≡ false) ys) x xs o),
)

-- ---- lists of names

any_more : {X : Type 0} (p q : X → Bool) (xs : List X) → ((x : X) → p x ≡ true → q x ≡ true) → list_any p xs ≡ true → list_any q xs ≡ true
any_more p q [] h k = absurd cc
any_more p q (x ∷ xs) h k = by_test (p x) refl k (any_more p q xs h)
  where
    by_test : (b : Bool) → p x ≡ b → (b || list_any p xs) ≡ true → (list_any p xs ≡ true → list_any q xs ≡ true) → (q x || list_any q xs) ≡ true
    by_test true e g r = or_left (q x) (list_any q xs) (h x e)
    by_test false e g r = or_right (q x) (list_any q xs) (r g)

any_there : (es : List Entry) (i : ℕ) → i < length es → list_any (λ y. bytes_eq y (name_at es i)) (map (λ e. e.name) es) ≡ true
any_there [] i l = absurd (let no : ⊥ = omega arith in no)
any_there (e ∷ es) zero l = or_left (bytes_eq e.name e.name) (list_any (λ y. bytes_eq y e.name) (map (λ u. u.name) es)) (bytes_eq-self e.name)
any_there (e ∷ es) (suc i) l = or_right (bytes_eq e.name (name_at es i)) (list_any (λ y. bytes_eq y (name_at es i)) (map (λ u. u.name) es)) (any_there es i (omega arith))

-- what is made of things with entries has the names of the entries
pub zip_named : {X Y : Type 0} (n : Y → Name) (f : X → Entry → Y) → ((x : X) (e : Entry) → n (f x e) ≡ e.name) → (xs : List X) (es : List Entry) → length es ≡ length xs →
    map n (map (λ p. f p.0 p.1) (zip xs es)) ≡ map (λ e. e.name) es
zip_named n f h [] [] l = refl
zip_named n f h [] (e ∷ es) l = absurd (let no : ⊥ = omega arith in no)
zip_named n f h (x ∷ xs) [] l = absurd (let no : ⊥ = omega arith in no)
zip_named n f h (x ∷ xs) (e ∷ es) l = ap₂ (λ a r. a ∷ r) (h x e) (zip_named n f h xs es (omega arith))

-- ---- numbers that stand once
once_differ : (f : ℕ → Name) (total : ℕ) → ((i j : ℕ) → i < total → j < total → bytes_eq (f i) (f j) ≡ nat_eq i j) → (js : List ℕ) → All (λ j. j < total) js →
    All (λ j. count_by (λ c. nat_eq c j) js ≤ 1) js → Differ (map f js)
once_differ f total apart [] w o = tt
once_differ f total apart (j ∷ js) w o = (
  All-map (λ y. bytes_eq (f j) y ≡ false) f js
      (λ k d l. apart j (get_or js k d) (All-head (λ j. j < total) j js w) (All-tail (λ j. j < total) j js w k d l) ∙ (nat_eq_comm j (get_or js k d) ∙ not_counted (λ c. nat_eq c j) js none k d l)),
  once_differ f total apart js (All-tail (λ j. j < total) j js w)
      (λ k d l.
      let i = get_or js k d in
      let h = All-tail (λ i. count_by (λ c. nat_eq c i) (j ∷ js) ≤ 1) j js o k d l in
      let s = sum_by-cons (λ c. cond (nat_eq c i) 1 0) j js in
      omega arith),
)
  where
    none : count_by (λ c. nat_eq c j) js ≡ 0
    none =
        let h = All-head (λ i. count_by (λ c. nat_eq c i) (j ∷ js) ≤ 1) j js o in
        let s : count_by (λ c. nat_eq c j) (j ∷ js) ≡ 1 + count_by (λ c. nat_eq c j) js = sum_by-cons (λ c. cond (nat_eq c j) 1 0) j js ∙ ap (λ b. cond b 1 0 + count_by (λ c. nat_eq c j) js) (eq-eqb j j refl) in
        omega arith

-- ---- a file
module _ (file : File) where
  abbrev n : ℕ
  n = length (element_names file)

  abbrev names : NewNames
  names = new_names file

  abbrev new : prism.File
  new = translated file

  abbrev pub nowhere : Valuation
  nowhere x = None

  -- the name of a column
  abbrev pub column_named : ℕ → Name
  column_named j = column_name file nowhere nowhere [] j

  abbrev pub constant_names : List Name
  constant_names = map (λ e. e.name) names.constants

  constants_named : map (λ y. y.name) (map (λ (d : prism.Const). d.name) new.constants) ≡ constant_names
  constants_named =
      map-map (λ (y : Named). y.name) (λ (d : prism.Const). d.name) new.constants
      ∙ zip_named (λ (d : prism.Const). d.name.name) (λ d e. constant file names d e.name) (λ d e. refl) file.constants names.constants (constants_part file).long

  pub variables_named : (xs : List Lasting) → map (λ y. y.name) (map (λ (x : prism.Var). x.name) (map (variable file names) xs)) ≡ map column_named (map (column_of file) xs)
  variables_named [] = refl
  variables_named (x ∷ xs) = ap₂ (λ a l. a ∷ l) (sym (variable_name file nowhere nowhere [] x.number)) (variables_named xs)

  pub module_named : (el : Element) → el.number < n → map (λ y. y.name) (module_vars new (plain (module_of file names el))) ≡ map column_named (module_columns file el)
  module_named el l =
      let xs = only_if (has_several el) (location_variable file names el) in
      let ys = map (variable file names) (at_home file el.number) in
      ap (map (λ (y : Named). y.name)) (map-append (λ (x : prism.Var). x.name) xs ys)
      ∙ map-append (λ (y : Named). y.name) (map (λ (x : prism.Var). x.name) xs) (map (λ (x : prism.Var). x.name) ys)
      ∙ ap₂ (λ a b. a ++ b)
      (ap (map (λ (y : Named). y.name)) (map-only_if (λ (x : prism.Var). x.name) (has_several el) (location_variable file names el))
      ∙ map-only_if (λ (y : Named). y.name) (has_several el) (location_variable file names el).name
      ∙ ap (only_if (has_several el)) (sym (location_is file nowhere el l))
      ∙ sym (map-only_if column_named (has_several el) el.number))
      (variables_named (at_home file el.number))
      ∙ sym (map-append column_named (only_if (has_several el) el.number) (map (column_of file) (at_home file el.number)))

  pub names_of_values : map (λ y. y.name) (values new) ≡ constant_names ++ map column_named (columns file)
  names_of_values =
      let ms = map (λ el. plain (module_of file names el)) (elements file) in
      map-append (λ (y : Named). y.name) (map (λ (d : prism.Const). d.name) new.constants) (map (λ (x : prism.Var). x.name) new.globals ++ flat_map (module_vars new) ms)
      ∙ ap₂ (λ a b. a ++ b) constants_named
      (map-append (λ (y : Named). y.name) (map (λ (x : prism.Var). x.name) new.globals) (flat_map (module_vars new) ms)
      ∙ ap₂ (λ a b. a ++ b) (variables_named (shared file))
      (ap (map (λ (y : Named). y.name)) (flat_map-map (module_vars new) (λ el. plain (module_of file names el)) (elements file))
      ∙ map-flat_map (λ (y : Named). y.name) (λ el. module_vars new (plain (module_of file names el))) (elements file)
      ∙ flat_map_agree_in _ (λ el. map column_named (module_columns file el)) (elements file) (λ k d l. module_named (get_or (elements file) k d) (below file k d l))
      ∙ sym (map-flat_map column_named (module_columns file) (elements file)))
      ∙ sym (map-append column_named (map (column_of file) (shared file)) (flat_map (module_columns file) (elements file))))

  -- ---- no two are the same
  columns_differ : Differ (map column_named (columns file))
  columns_differ = once_differ column_named (n + length (lasting file)) (names_apart file nowhere) (columns file) (all_within file) (columns_once file)

  pub constant_differs : (i j : ℕ) → i < length file.constants → j < n + length (lasting file) → bytes_eq (name_at names.constants i) (column_named j) ≡ false
  constant_differs i j l k =
      let b = nat_lt j n in
      bytes_ne (name_at names.constants i) (column_named j)
      (λ e. entries_differ file (0 + i) (index file b j) (let h = entries_long file in omega arith) (index_below file nowhere j b refl k) (apart b)
      (sym (constant_entry file i l) ∙ e ∙ named_by file nowhere j b refl k))
    where
      apart : (b : Bool) → 0 + i ≡ index file b j → ⊥
      apart true e = omega arith
      apart false e = omega arith

  pub values_differ : Differ (map (λ y. y.name) (values new))
  values_differ =
      let long = (constants_part file).long in
      subst Differ (sym names_of_values)
      (differ_join constant_names (map column_named (columns file)) (constants_part file).distinct columns_differ
      (All-map (λ x. All (λ y. bytes_eq x y ≡ false) (map column_named (columns file))) (λ (e : Entry). e.name) names.constants
      (λ i d l.
      All-map (λ y. bytes_eq (get_or names.constants i d).name y ≡ false) column_named (columns file)
      (λ k a x.
      ap (λ z. bytes_eq z (column_named (get_or (columns file) k a))) (sym (name_there names.constants i d l))
      ∙ constant_differs i (get_or (columns file) k a) (omega arith) (all_within file k a x)))))

  -- ---- what is among them
  among_values : (x : Name) → is_value new x ≡ (list_any (λ y. bytes_eq y x) constant_names || list_any (λ j. bytes_eq (column_named j) x) (columns file))
  among_values x =
      among_names (values new) x
      ∙ ap (list_any (λ y. bytes_eq y x)) names_of_values
      ∙ list_any-append (λ y. bytes_eq y x) constant_names (map column_named (columns file))
      ∙ ap (λ b. list_any (λ y. bytes_eq y x) constant_names || b) (any-map (λ y. bytes_eq y x) column_named (columns file))

  column_value : (j : ℕ) → stands (columns file) j ≡ true → is_value new (column_named j) ≡ true
  column_value j h =
      among_values (column_named j)
      ∙ or_right (list_any (λ y. bytes_eq y (column_named j)) constant_names) (list_any (λ i. bytes_eq (column_named i) (column_named j)) (columns file))
      (any_more (λ i. nat_eq i j) (λ i. bytes_eq (column_named i) (column_named j)) (columns file) (λ i e. ap (λ k. bytes_eq (column_named k) (column_named j)) (eqb-true i j e) ∙ bytes_eq-self (column_named j)) h)

  pub constant_value : (i : ℕ) → i < length file.constants → is_value new (name_at names.constants i) ≡ true
  constant_value i l =
      let x = name_at names.constants i in
      let long = (constants_part file).long in
      among_values x
      ∙ or_left (list_any (λ y. bytes_eq y x) constant_names) (list_any (λ j. bytes_eq (column_named j) x) (columns file)) (any_there names.constants i (omega arith))

  anything : Lasting
  anything = record { number = 0; owned = record { owner = None; var = record { name = record { name = []; at = 0 }; kind = boolean; kind_at = 0; transient = false; start = None; note = None } } }

  pub variable_value : 0 < n → (i : ℕ) → i < length (lasting file) → is_value new (name_at names.variables i) ≡ true
  variable_value some i l =
      let long = lasting_length 0 (lasting file) in
      let at = lasting_numbers 0 (lasting file) i anything l in
      let h = variable_stands file some i anything (omega arith) in
      let e : n + (get_or (lasting_variables file) i anything).number ≡ n + i = omega arith in
      ap (is_value new) (sym (variable_name file nowhere nowhere [] i)) ∙ column_value (n + i) (ap (stands (columns file)) (sym e) ∙ h)

  pub location_value : All (λ el. has_several el ≡ true → is_value new (location_name file names el.number) ≡ true) (elements file)
  location_value k d l h =
      let el = get_or (elements file) k d in
      ap (is_value new) (sym (location_is file nowhere el (below file k d l))) ∙ column_value el.number (location_stands file k d l ∙ h)

  -- ---- what names become
  no_constant : Const
  no_constant = record { name = record { name = []; at = 0 }; ty = Rattle.op_trees.specs.declared.tree.Ty.TheVariants.Bool; value = None; note = None }

  pub place_below : (k : ℕ) (x : Name) (i : ℕ) → place_of (lasting file) k x ≡ Some i → i < length (lasting file)
  place_below k x i h = by_own (position (is_own k x) (lasting file)) refl h
    where
      by_own : (a : Option ℕ) → position (is_own k x) (lasting file) ≡ a → option_or a (position (is_global x) (lasting file)) ≡ Some i → i < length (lasting file)
      by_own None e f = (position-Some (is_global x) (lasting file) i anything.owned f).0
      by_own (Some j) e f = (position-Some (is_own k x) (lasting file) i anything.owned (e ∙ f)).0

  pub constant_becomes : (k : ℕ) (x : Name) (h : IsConstant file k x) → value_name file names k x ≡ name_at names.constants h.number
  constant_becomes k x h =
      ap₂ (λ a b. unwrap_or (option_or (option_map (name_at names.variables) a) (option_map (name_at names.constants) b)) []) h.no_variable h.stands_there

  pub variable_becomes : (k : ℕ) (x : Name) (i : ℕ) → place_of (lasting file) k x ≡ Some i → value_name file names k x ≡ name_at names.variables i
  variable_becomes k x i h =
      ap (λ a. unwrap_or (option_or (option_map (name_at names.variables) a) (option_map (name_at names.constants) (position (λ d. is_called x d.name) file.constants))) []) h

  -- the new name of a variable that is assigned to
  pub place_good : 0 < n → (k : ℕ) (x : Name) (i : ℕ) → place_of (lasting file) k x ≡ Some i → IsKind (name_at names.variables i) Ident × (is_value new (name_at names.variables i) ≡ true)
  place_good some k x i h = let l = place_below k x i h in (variable_spelled file i l, variable_value some i l)

  pub known_good : 0 < n → (k : ℕ) (x : Name) → IsKnown file k x → GoodName (is_value new) (value_name file names k) x
  known_good some k x (inl h) =
      let l = (position-Some (λ d. is_called x d.name) file.constants h.number no_constant h.stands_there).0 in
      let e = sym (constant_becomes k x h) in
      (subst (λ y. IsKind y Ident) e (constant_spelled file h.number l), subst (λ y. is_value new y ≡ true) e (constant_value h.number l))
  known_good some k x (inr h) =
      let g = place_good some k x h.number h.stands_there in
      let e = sym (variable_becomes k x h.number h.stands_there) in
      (subst (λ y. IsKind y Ident) e g.0, subst (λ y. is_value new y ≡ true) e g.1)
