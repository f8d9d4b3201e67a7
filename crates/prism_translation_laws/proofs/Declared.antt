-- What the names of a translated file are declared as: constants, the variables that last, and the locations of elements.
use Rattle.std.specs.Prelude.{◌≡◌, ℕ, ◌+◌, ◌-◌, ◌<◌, List, [], ◌∷◌, ◌++◌, map, length, Bool, true, false, ◌&&◌, ◌||◌, cond, Option, Some, None, is_none, if◌then◌else◌, nat_eq, nat_lt, bytes_eq, slice_get, get_or}
use Rattle.std.specs.List.{find, flat_map, list_any, zip, All}
use Rattle.std.specs.Option.{option_map, option_or as or_else}
use Rattle.std.proofs.Common.{refl, sym, ap, ap₂, ◌∙◌, arith, lt-ltb, ltb-false}
use Rattle.std.proofs.lemmas.Bool.{eqb-true}
use Rattle.std.proofs.lemmas.Option.{slice_get-get_or, get_or_from_slice_get}
use Rattle.std.proofs.lemmas.List.{map-append, length-map}
use Rattle.std.proofs.lemmas.List.Elements.{All-head, All-tail, All-append, All-filter, All-map, All-from_get_or, filter_passes}
use Rattle.basics.specs.Texts.{bytes_ne}
use Rattle.op_trees.specs.declared.tree.Ty.TheVariants as T
use Rattle.process_core.specs.Ready.{Name}
use Rattle.choice_laws.specs.Columns.{stands}
use Rattle.prism_tree.specs.Syntax as prism
use Rattle.prism_tree.specs.Syntax.{plain}
use Rattle.op_trees.specs.Names.{is_called}
use Rattle.prism_names.specs.Names.{part_of}
use Rattle.process_core.specs.Instance.{Valuation, only_if}
use Rattle.prism_check.specs.Demands.{var_type}
use Rattle.prism_check.specs.TypeFaults.{Variable, part_variables, numbered_variables, variables, variable_called, declared_types}
use Rattle.jani_tree.specs.Syntax.{Const, Automaton, File, element_names}
use Rattle.jani_meaning.specs.Elements as jani
use Rattle.jani_meaning.specs.Elements.{lasting, is_owner}
use Rattle.prism_translation.specs.PrismAsks.{NewNames, name_at}
use Rattle.prism_translation.specs.Elements.{Element, elements, has_several, Lasting, lasting_variables, is_at, writers, home, home_by, shared, own, adopted, at_home}
use Rattle.prism_translation.specs.Names.{new_names}
use Rattle.prism_translation.specs.Parts.{variable, location_variable}
use Rattle.prism_translation.specs.Modules.{module_of}
use Rattle.prism_translation.specs.StateLaws.{column_of, module_columns, columns}
use Rattle.prism_translation.specs.Translated.{translated}
use Rattle.prism_translation.proofs.Numbered.{numbered_from, lasting_length, lasting_numbers, lasting_owned_at}
use Rattle.prism_translation.proofs.Follows.{column_name, not_less, variable_name}
use Rattle.prism_translation.proofs.ColumnNames.{below, nothing, entries_differ, entries_long, constant_entry, index, index_below, named_by, names_apart}
use Rattle.prism_translation.proofs.Coverage.{all_within, variable_stands, location_stands}
use Rattle.prism_translation.proofs.NamesAlike as alike
use Rattle.prism_translation.proofs.NamesAlike.{zip_at, zip_length}
use Rattle.prism_translation_laws.proofs.TypedScopes.{nobody, no_constant}

-- ---- lists
find_none : {X : Type 0} (p : X → Bool) (xs : List X) → All (λ x. p x ≡ false) xs → find p xs ≡ None
find_none p [] h = refl
find_none p (x ∷ xs) h = ap₂ (λ b o. cond b (Some x) o) (All-head (λ x. p x ≡ false) x xs h) (find_none p xs (All-tail (λ x. p x ≡ false) x xs h))

-- what one number alone passes is found there
find_number : {X : Type 0} (p : X → Bool) (f : ℕ → X) (j : ℕ) (is : List ℕ) → All (λ i. p (f i) ≡ nat_eq i j) is → list_any (λ i. nat_eq i j) is ≡ true → find p (map f is) ≡ Some (f j)
find_number p f j [] h k = absurd cc
find_number p f j (i ∷ is) h k =
    ap (λ b. cond b (Some (f i)) (find p (map f is))) (All-head (λ i. p (f i) ≡ nat_eq i j) i is h)
    ∙ by_test (nat_eq i j) refl k (find_number p f j is (All-tail (λ i. p (f i) ≡ nat_eq i j) i is h))
  where
    by_test : (b : Bool) → nat_eq i j ≡ b → (b || list_any (λ i. nat_eq i j) is) ≡ true → (list_any (λ i. nat_eq i j) is ≡ true → find p (map f is) ≡ Some (f j)) → cond b (Some (f i)) (find p (map f is)) ≡ Some (f j)
    by_test true e l r = ap (λ n. Some (f n)) (eqb-true i j e)
    by_test false e l r = r l

module _ (file : File) where
  abbrev names : NewNames
  names = new_names file

  abbrev n : ℕ
  n = length (element_names file)

  abbrev m : ℕ
  m = length (lasting file)

  abbrev given : Valuation
  given x = None

  abbrev pub nowhere : Lasting
  nowhere = record { number = 0; owned = nobody }

  -- the variable of this number
  abbrev pub lasting_at : ℕ → Lasting
  lasting_at i = get_or (lasting_variables file) i nowhere

  pub number_of : (i : ℕ) → i < m → (lasting_at i).number ≡ i
  number_of i l = lasting_numbers 0 (lasting file) i nowhere l ∙ (let e : 0 + i ≡ i = omega arith in e)

  pub owned_of : (i : ℕ) → i < m → (lasting_at i).owned ≡ get_or (lasting file) i nobody
  owned_of i l = lasting_owned_at 0 (lasting file) i nowhere nobody l

  pub lasting_there : All (λ (x : Lasting). lasting_at x.number ≡ x) (lasting_variables file)
  lasting_there i d l =
      let x = get_or (lasting_variables file) i d in
      get_or_from_slice_get (lasting_variables file) x.number x nowhere
      (ap (slice_get (lasting_variables file)) (lasting_numbers 0 (lasting file) i d (let e = lasting_length 0 (lasting file) in omega arith) ∙ (let o : 0 + i ≡ i = omega arith in o))
      ∙ slice_get-get_or (lasting_variables file) i d l)

  -- ---- what each column is declared as
  abbrev pub of_lasting : Lasting → Variable
  of_lasting x = record { owner = home file x; name = name_at names.variables x.number; ty = var_type (variable file names x) }

  abbrev pub of_location : ℕ → Variable
  of_location k = record { owner = Some k; name = name_at names.locations k; ty = T.Int }

  abbrev variable_of : ℕ → Variable
  variable_of j = if nat_lt j n then of_location j else of_lasting (lasting_at (j - n))

  -- a variable, in the module that it is at home in
  abbrev IsHere : Option ℕ → Lasting → Type 0
  IsHere o x = (home file x ≡ o) × (lasting_at x.number ≡ x)

  abbrev declared_in : Option ℕ → prism.Var → Variable
  declared_in o x = record { owner = o; name = x.name.name; ty = var_type x }

  column_is : (i : ℕ) → variable_of (n + i) ≡ of_lasting (lasting_at i)
  column_is i =
      ap (λ b. if b then of_location (n + i) else of_lasting (lasting_at ((n + i) - n))) (not_less n i)
      ∙ ap (λ k. of_lasting (lasting_at k)) (let e : (n + i) - n ≡ i = omega arith in e)

  variables_here : (o : Option ℕ) (xs : List Lasting) → All (IsHere o) xs → map (declared_in o) (map (variable file names) xs) ≡ map variable_of (map (column_of file) xs)
  variables_here o [] h = refl
  variables_here o (x ∷ xs) h =
      let here = All-head (IsHere o) x xs h in
      ap₂ (λ v vs. v ∷ vs)
      (ap (λ w. record { owner = w; name = name_at names.variables x.number; ty = var_type (variable file names x) }) (sym here.0)
      ∙ ap of_lasting (sym here.1) ∙ sym (column_is x.number))
      (variables_here o xs (All-tail (IsHere o) x xs h))

  shared_here : All (IsHere None) (shared file)
  shared_here i d l = (
    none (home file (get_or (shared file) i d)) (filter_passes (λ x. is_none (home file x)) (lasting_variables file) i d l),
    All-filter (λ x. is_none (home file x)) (λ (x : Lasting). lasting_at x.number ≡ x) (lasting_variables file) lasting_there i d l,
  )
    where
      none : (o : Option ℕ) → is_none o ≡ true → o ≡ None
      none None e = refl
      none (Some k) e = absurd cc

  own_here : (k : ℕ) → All (IsHere (Some k)) (own file k)
  own_here k i d l =
      let x = get_or (own file k) i d in (
        owner (writers file x.number) x.owned.owner (filter_passes (λ (x : Lasting). is_owner k x.owned.owner) (lasting_variables file) i d l),
        All-filter (λ (x : Lasting). is_owner k x.owned.owner) (λ (x : Lasting). lasting_at x.number ≡ x) (lasting_variables file) lasting_there i d l,
      )
    where
      owner : (ws : List Element) (o : Option ℕ) → is_owner k o ≡ true → home_by ws o ≡ Some k
      owner ws None e = absurd cc
      owner ws (Some j) e = ap Some (sym (eqb-true k j e))

  adopted_here : (k : ℕ) → All (IsHere (Some k)) (adopted file k)
  adopted_here k i d l =
      let x = get_or (adopted file k) i d in (
        adopter (is_none x.owned.owner) (home file x) (filter_passes (λ x. is_none x.owned.owner && is_at k (home file x)) (lasting_variables file) i d l),
        All-filter (λ x. is_none x.owned.owner && is_at k (home file x)) (λ (x : Lasting). lasting_at x.number ≡ x) (lasting_variables file) lasting_there i d l,
      )
    where
      adopter : (b : Bool) (o : Option ℕ) → (b && is_at k o) ≡ true → o ≡ Some k
      adopter true None e = absurd cc
      adopter true (Some j) e = ap Some (sym (eqb-true k j e))
      adopter false o e = absurd cc

  location_here : (b : Bool) (el : Element) → el.number < n → map (declared_in (Some el.number)) (only_if b (location_variable file names el)) ≡ map variable_of (only_if b el.number)
  location_here true el l = ap (λ c. (if c then of_location el.number else of_lasting (lasting_at (el.number - n))) ∷ []) (sym (lt-ltb el.number n l))
  location_here false el l = refl

  module_here : (el : Element) → el.number < n → part_variables el.number (part_of (translated file) (plain (module_of file names el))) ≡ map variable_of (module_columns file el)
  module_here el l =
      map-append (declared_in (Some el.number)) (only_if (has_several el) (location_variable file names el)) (map (variable file names) (at_home file el.number))
      ∙ ap₂ (λ a b. a ++ b) (location_here (has_several el) el l)
      (variables_here (Some el.number) (at_home file el.number) (All-append (IsHere (Some el.number)) (own file el.number) (adopted file el.number) (own_here el.number) (adopted_here el.number)))
      ∙ sym (map-append variable_of (only_if (has_several el) el.number) (map (column_of file) (at_home file el.number)))

  modules_here : (k : ℕ) (xs : List Automaton) → All (λ (el : Element). el.number < n) (numbered_from k xs) →
      numbered_variables k (map (part_of (translated file)) (map (λ el. plain (module_of file names el)) (numbered_from k xs))) ≡ map variable_of (flat_map (module_columns file) (numbered_from k xs))
  modules_here k [] h = refl
  modules_here k (a ∷ xs) h =
      let el : Element = record { number = k; automaton = a } in
      ap₂ (λ u v. u ++ v) (module_here el (All-head (λ (el : Element). el.number < n) el (numbered_from (k + 1) xs) h))
      (modules_here (k + 1) xs (All-tail (λ (el : Element). el.number < n) el (numbered_from (k + 1) xs) h))
      ∙ sym (map-append variable_of (module_columns file el) (flat_map (module_columns file) (numbered_from (k + 1) xs)))

  variables_are : variables (translated file) ≡ map variable_of (columns file)
  variables_are =
      ap₂ (λ u v. u ++ v) (variables_here None (shared file) shared_here) (modules_here 0 (jani.elements file) (below file))
      ∙ sym (map-append variable_of (map (column_of file) (shared file)) (flat_map (module_columns file) (elements file)))

  -- ---- variables by their names
  name_is : (j : ℕ) (b : Bool) → nat_lt j n ≡ b → j < n + m → (variable_of j).name ≡ column_name file given given [] j
  name_is j true e l = ap (λ b. (if b then of_location j else of_lasting (lasting_at (j - n))).name) e ∙ ap (λ b. if b then name_at names.locations j else name_at names.variables (j - n)) (sym e)
  name_is j false e l =
      let below = ltb-false j n e in
      ap (λ b. (if b then of_location j else of_lasting (lasting_at (j - n))).name) e
      ∙ ap (name_at names.variables) (number_of (j - n) (omega arith))
      ∙ ap (λ b. if b then name_at names.locations j else name_at names.variables (j - n)) (sym e)

  found : (j : ℕ) → j < n + m → stands (columns file) j ≡ true → variable_called (translated file) (column_name file given given [] j) ≡ Some (variable_of j)
  found j l h =
      ap (find (λ (v : Variable). bytes_eq v.name (column_name file given given [] j))) variables_are
      ∙ find_number (λ (v : Variable). bytes_eq v.name (column_name file given given [] j)) variable_of j (columns file)
      (λ i d k.
      let c = get_or (columns file) i d in
      let in_range = all_within file i d k in
      ap (λ x. bytes_eq x (column_name file given given [] j)) (name_is c (nat_lt c n) refl in_range) ∙ names_apart file given c j in_range l) h

  -- a variable that lasts is declared where it is at home, and a location of several in its own module
  pub variable_found : 0 < n → (i : ℕ) → i < m → variable_called (translated file) (name_at names.variables i) ≡ Some (of_lasting (lasting_at i))
  variable_found some i l =
      ap (variable_called (translated file)) (sym (variable_name file given given [] i))
      ∙ found (n + i) (omega arith)
      (ap (λ k. stands (columns file) (n + k)) (sym (number_of i l)) ∙ variable_stands file some i nowhere (let e = lasting_length 0 (lasting file) in omega arith))
      ∙ ap Some (column_is i)

  pub location_found : All (λ el. has_several el ≡ true → variable_called (translated file) (name_at names.locations el.number) ≡ Some (of_location el.number)) (elements file)
  location_found i d l h =
      let el = get_or (elements file) i d in
      let in_range = below file i d l in
      ap (variable_called (translated file)) (ap (λ b. if b then name_at names.locations el.number else name_at names.variables (el.number - n)) (sym (lt-ltb el.number n in_range)))
      ∙ found el.number (omega arith) (location_stands file i d l ∙ h)
      ∙ ap (λ b. Some (if b then of_location el.number else of_lasting (lasting_at (el.number - n)))) (lt-ltb el.number n in_range)

  -- ---- constants by their names
  abbrev c : ℕ
  c = length file.constants

  apart_from : (i j : ℕ) (b : Bool) → nat_lt j n ≡ b → i < c → j < n + m → (column_name file given given [] j ≡ name_at names.constants i → ⊥)
  apart_from i j b e l k h =
      entries_differ file (index file b j) (0 + i) (index_below file given j b e k) (let x = entries_long file in omega arith) (other j b e)
      (sym (named_by file given j b e k) ∙ h ∙ constant_entry file i l)
    where
      other : (j : ℕ) (b : Bool) → nat_lt j n ≡ b → index file b j ≡ 0 + i → ⊥
      other j true e f = omega arith
      other j false e f = omega arith

  pub constant_no_variable : (i : ℕ) → i < c → variable_called (translated file) (name_at names.constants i) ≡ None
  constant_no_variable i l =
      ap (find (λ (v : Variable). bytes_eq v.name (name_at names.constants i))) variables_are
      ∙ find_none (λ (v : Variable). bytes_eq v.name (name_at names.constants i)) (map variable_of (columns file))
      (All-map (λ (v : Variable). bytes_eq v.name (name_at names.constants i) ≡ false) variable_of (columns file)
      (λ k d q.
      let j = get_or (columns file) k d in
      let in_range = all_within file k d q in
      ap (λ x. bytes_eq x (name_at names.constants i)) (name_is j (nat_lt j n) refl in_range)
      ∙ bytes_ne (column_name file given given [] j) (name_at names.constants i) (apart_from i j (nat_lt j n) refl l in_range)))

  constants_length : length (translated file).constants ≡ c
  constants_length = length-map (zip file.constants names.constants) (alike.made_constant file given given) ∙ zip_length file.constants names.constants (alike.constants_long file given given)

  -- a name that is none of a constant is declared as none
  no_constant_called : (y : Name) → ((i : ℕ) → i < c → name_at names.constants i ≡ y → ⊥) → find (λ d. is_called y d.name) (translated file).constants ≡ None
  no_constant_called y h =
      find_none (λ (d : prism.Const). is_called y d.name) (translated file).constants
      (All-from_get_or (λ (d : prism.Const). is_called y d.name ≡ false) (translated file).constants (alike.made_constant file given given (alike.pair file given given))
      (λ i l.
      let within : i < c = let e = constants_length in omega arith in
      ap (λ (d : prism.Const). bytes_eq d.name.name y)
      (alike.made_at file given given i within (alike.pair file given given)
      ∙ ap (alike.made_constant file given given) (zip_at file.constants names.constants i (alike.no_constant file given given) (nothing file) (alike.constants_long file given given) within))
      ∙ ap (λ x. bytes_eq x y) (alike.name_is file given given i within)
      ∙ bytes_ne (name_at names.constants i) y (h i within)))

  column_no_constant : (j : ℕ) → j < n + m → find (λ d. is_called (column_name file given given [] j) d.name) (translated file).constants ≡ None
  column_no_constant j l = no_constant_called (column_name file given given [] j) (λ i k e. apart_from i j (nat_lt j n) refl k l (sym e))

  -- ---- the declared types
  pub constant_type : (i : ℕ) → i < c → declared_types (translated file) (name_at names.constants i) ≡ Some (get_or file.constants i no_constant).ty
  constant_type i l =
      ap (λ o. or_else (option_map (λ (d : prism.Const). d.ty) o) (option_map (λ (v : Variable). v.ty) (variable_called (translated file) (name_at names.constants i)))) (alike.called_there file given given i l)
      ∙ ap (λ (d : Const). Some d.ty)
      (get_or_from_slice_get file.constants i (get_or file.constants i no_constant) (alike.no_constant file given given) (slice_get-get_or file.constants i no_constant l))

  type_of : (y : Name) (v : Variable) → find (λ d. is_called y d.name) (translated file).constants ≡ None → variable_called (translated file) y ≡ Some v → declared_types (translated file) y ≡ Some v.ty
  type_of y v h k = ap₂ (λ a b. or_else (option_map (λ (d : prism.Const). d.ty) a) (option_map (λ (v : Variable). v.ty) b)) h k

  pub variable_type : 0 < n → (i : ℕ) → i < m → declared_types (translated file) (name_at names.variables i) ≡ Some (var_type (variable file names (lasting_at i)))
  variable_type some i l =
      type_of (name_at names.variables i) (of_lasting (lasting_at i))
      (ap (λ y. find (λ (d : prism.Const). is_called y d.name) (translated file).constants) (sym (variable_name file given given [] i)) ∙ column_no_constant (n + i) (omega arith))
      (variable_found some i l)

  pub location_type : All (λ el. has_several el ≡ true → declared_types (translated file) (name_at names.locations el.number) ≡ Some T.Int) (elements file)
  location_type i d l h =
      let el = get_or (elements file) i d in
      let in_range = below file i d l in
      type_of (name_at names.locations el.number) (of_location el.number)
      (ap (λ y. find (λ (d : prism.Const). is_called y d.name) (translated file).constants) (ap (λ b. if b then name_at names.locations el.number else name_at names.variables (el.number - n)) (sym (lt-ltb el.number n in_range)))
      ∙ column_no_constant el.number (omega arith))
      (location_found i d l h)
