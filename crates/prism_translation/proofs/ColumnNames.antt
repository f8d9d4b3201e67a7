-- The columns of a translated file in order: their names, which differ from each other and from those of constants, and where
-- each stands.
use Rattle.std.specs.Prelude.{◌≡◌, ℕ, ◌+◌, ◌-◌, ◌<◌, ◌≤◌, List, [], ◌∷◌, ◌++◌, map, length, drop, take, Bool, true, false, not, cond, Some, if◌then◌else◌, nat_eq, nat_lt, bytes_eq, slice_get, get_or, unwrap_or}
use Rattle.std.specs.List.{position_or_len, All}
use Rattle.std.specs.Option.{option_map}
use Rattle.std.proofs.Common.{refl, sym, ap, ap₂, ◌∙◌, arith, eq-eqb, lt-ltb, ltb-true, ltb-false, length-append, length-drop}
use Rattle.std.proofs.lemmas.Bool.{eqb-true}
use Rattle.std.proofs.lemmas.Slice.Eq.{bytes_eq-Decides}
use Rattle.std.proofs.lemmas.Option.{slice_get-get_or}
use Rattle.std.proofs.lemmas.List.{length-take, get_or-take, get_or-drop}
use Rattle.std.proofs.lemmas.List.Elements.{All-head, All-tail, All-weaker}
use Rattle.basics.specs.Lists.{slice_get-front}
use Rattle.basics.specs.Texts.{bytes_ne}
use Rattle.process_core.specs.Ready.{Name}
use Rattle.choice_laws.specs.Columns.{slot}
use Rattle.process_core.specs.Instance.{Valuation, Column}
use Rattle.prism_flat.specs.Scene as prism_scene
use Rattle.prism_flat.specs.Moment.{place_of}
use Rattle.jani_tree.specs.Syntax.{File, element_names}
use Rattle.jani_meaning.specs.Elements as jani
use Rattle.jani_meaning.specs.Elements.{lasting, labels, structures}
use Rattle.name_table.specs.declared.class.NameClass.{NameClass}
use Rattle.name_table.specs.declared.class.NameClass.TheVariants.{Constant, Variable, Label, Reward}
use Rattle.name_table.specs.declared.class.Target.TheVariants.{Prism}
use Rattle.name_table.specs.declared.entry.Entry.{Entry}
use Rattle.name_table.specs.Rule.{space}
use Rattle.name_table.specs.Entries.{Ask}
use Rattle.name_table.proofs.EntryLemmas.{one_each, no_two_alike}
use Rattle.name_table.proofs.Parts.{class_has, first_have}
use Rattle.name_table.specs.Asks.{some_from}
use Rattle.name_table.specs.PrismAsks.{NewNames, name_at, ask_for, constant_ask, location_ask, module_ask, asks}
use Rattle.prism_translation.specs.Elements.{Element, elements, lasting_variables}
use Rattle.prism_translation.specs.Targets.{targets}
use Rattle.prism_translation.specs.Names.{new_names, all_asks, entries, action_ask}
use Rattle.prism_translation.specs.StateLaws.{columns}
use Rattle.prism_translation.specs.Translated.{translated}
use Rattle.prism_translation.proofs.ColumnsAlike.{columns_alike}
use Rattle.prism_translation.proofs.Numbered.{numbers_below}
use Rattle.prism_translation.proofs.Apart.{asks_length}
use Rattle.prism_translation.proofs.Follows.{column_name, variable_name, prism_columns}
use Rattle.jani_meaning.specs.LoopLaws.{element_count}

module _ (file : File) where
  abbrev n : ℕ
  n = length (element_names file)

  abbrev total : ℕ
  total = n + length (lasting file)

  pub below : All (λ el. el.number < n) (elements file)
  below =
      All-weaker (λ el. el.number < 0 + length (jani.elements file)) (λ el. el.number < n)
      (λ el l. let e = element_count file in omega arith) (elements file) (numbers_below 0 (jani.elements file))

  abbrev names : NewNames
  names = new_names file

  -- ---- the names of the columns, in order
  module _ (v : Valuation) where
    abbrev pub name_of : ℕ → Name
    name_of j = column_name file v v [] j

    pub location_is : (el : Element) → el.number < n → name_of el.number ≡ name_at names.locations el.number
    location_is el l = ap (λ b. if b then name_at names.locations el.number else name_at names.variables (el.number - n)) (lt-ltb el.number n l)

    pub names_of_columns : map (λ (c : Column). c.name) (prism_scene.columns_of (translated file) v) ≡ map name_of (columns file)
    names_of_columns =
        columns_alike file v (λ (c : Column). c.name) name_of
        (λ i d l. sym (variable_name file v v [] (get_or (lasting_variables file) i d).number))
        (λ i d l. sym (location_is (get_or (elements file) i d) (below i d l)))

  -- ---- the names of constants, variables and location variables differ
  abbrev pub c : ℕ
  c = length file.constants

  abbrev pub m : ℕ
  m = length (lasting file)

  abbrev IsValue : NameClass → Type 0
  IsValue b = space Prism b ≡ space Prism Constant

  value_asked : (i : ℕ) (a : Ask) → i < c + (m + n) → slice_get (all_asks file) i ≡ Some a → IsValue a.0
  value_asked i a l g =
      let rest = map module_ask (element_names file) ++ (map (ask_for Label) (labels file) ++ map (ask_for Reward) (structures file)) in
      first_have IsValue constant_ask (λ x. refl) file.constants (map (ask_for Variable) (lasting file) ++ (map location_ask (element_names file) ++ rest)) (m + (n + 0))
      (first_have IsValue (ask_for Variable) (λ x. refl) (lasting file) (map location_ask (element_names file) ++ rest) (n + 0)
      (first_have IsValue location_ask (λ x. refl) (element_names file) rest 0 (λ j b k h. absurd (omega arith)))) i a (omega arith)
      (sym (slice_get-front (asks file) (map action_ask (targets file)) i (let k = asks_length file in omega arith)) ∙ g)

  pub nothing : Entry
  nothing = record { class = Constant; name = []; kept = false }

  abbrev pub es : List Entry
  es = entries file

  pub entries_long : c + (m + n) ≤ length es
  entries_long =
      let a = one_each Prism (all_asks file) in
      let b = length-append (asks file) (map action_ask (targets file)) in
      let k = asks_length file in
      omega arith

  -- the entry of this number
  abbrev pub entry_name : ℕ → Name
  entry_name i = (get_or es i nothing).name

  pub entries_differ : (i j : ℕ) → i < c + (m + n) → j < c + (m + n) → (i ≡ j → ⊥) → entry_name i ≡ entry_name j → ⊥
  entries_differ i j l k d e =
      let a = get_or es i nothing in
      let b = get_or es j nothing in
      let long = entries_long in
      let g : slice_get es i ≡ Some a = slice_get-get_or es i nothing (omega arith) in
      let h : slice_get es j ≡ Some b = slice_get-get_or es j nothing (omega arith) in
      no_two_alike Prism (all_asks file) i j a b g h d
      (class_has Prism (all_asks file) IsValue i a (λ u q. value_asked i u l q) g ∙ sym (class_has Prism (all_asks file) IsValue j b (λ u q. value_asked j u k q) h)) e

  some_name : (at count i : ℕ) → i < count → at + count ≤ length es → name_at (some_from at count es) i ≡ entry_name (at + i)
  some_name at count i l h =
      ap (λ o. unwrap_or (option_map (λ (x : Entry). x.name) o) [])
      (slice_get-get_or (take count (drop at es)) i nothing (let a = length-take count (drop at es) in let b = length-drop at es in omega arith)
      ∙ ap Some (get_or-take count (drop at es) i nothing l ∙ get_or-drop at es i nothing))

  pub variable_entry : (i : ℕ) → i < m → name_at names.variables i ≡ entry_name (c + i)
  variable_entry i l = some_name c m i l (let a = entries_long in omega arith)

  pub location_entry : (k : ℕ) → k < n → name_at names.locations k ≡ entry_name ((c + m) + k)
  location_entry k l = some_name (c + m) n k l (let a = entries_long in omega arith)

  pub constant_entry : (i : ℕ) → i < c → name_at names.constants i ≡ entry_name (0 + i)
  constant_entry i l = some_name 0 c i l (let a = entries_long in omega arith)

  -- the entry of a column
  abbrev pub index : Bool → ℕ → ℕ
  index b j = if b then (c + m) + j else c + (j - n)

  module _ (v : Valuation) where
    pub named_by : (j : ℕ) (b : Bool) → nat_lt j n ≡ b → j < total → column_name file v v [] j ≡ entry_name (index b j)
    named_by j true e l = ap (λ b. if b then name_at names.locations j else name_at names.variables (j - n)) e ∙ location_entry j (ltb-true j n e)
    named_by j false e l =
        ap (λ b. if b then name_at names.locations j else name_at names.variables (j - n)) e
        ∙ variable_entry (j - n) (let k = ltb-false j n e in omega arith)

    pub index_below : (j : ℕ) (b : Bool) → nat_lt j n ≡ b → j < total → index b j < c + (m + n)
    index_below j true e l = let k = ltb-true j n e in omega arith
    index_below j false e l = let k = ltb-false j n e in omega arith

    index_apart : (i j : ℕ) (a b : Bool) → nat_lt i n ≡ a → nat_lt j n ≡ b → i < total → j < total → index a i ≡ index b j → i ≡ j
    index_apart i j true true e f l k h = omega arith
    index_apart i j true false e f l k h = let x = ltb-true i n e in let y = ltb-false j n f in omega arith
    index_apart i j false true e f l k h = let x = ltb-false i n e in let y = ltb-true j n f in omega arith
    index_apart i j false false e f l k h = let x = ltb-false i n e in let y = ltb-false j n f in omega arith

    pub names_apart : (i j : ℕ) → i < total → j < total → bytes_eq (column_name file v v [] i) (column_name file v v [] j) ≡ nat_eq i j
    names_apart i j l k = by_test (nat_eq i j) refl
      where
        by_test : (b : Bool) → nat_eq i j ≡ b → bytes_eq (column_name file v v [] i) (column_name file v v [] j) ≡ b
        by_test true e = (bytes_eq-Decides (column_name file v v [] i) (column_name file v v [] j)).1 (ap (column_name file v v []) (eqb-true i j e))
        by_test false e =
            bytes_ne (column_name file v v [] i) (column_name file v v [] j)
            (λ h.
            let a = nat_lt i n in
            let b = nat_lt j n in
            entries_differ (index a i) (index b j) (index_below i a refl l) (index_below j b refl k)
            (λ f. differ e (eq-eqb i j (index_apart i j a b refl refl l k f)))
            (sym (named_by i a refl l) ∙ h ∙ named_by j b refl k))
          where
            differ : nat_eq i j ≡ false → nat_eq i j ≡ true → ⊥
            differ x y = absurd cc

    -- ---- where a column stands in the translated file
    position_map : {X Y : Type 0} (q : Y → Bool) (f : X → Y) (xs : List X) → position_or_len q (map f xs) ≡ position_or_len (λ x. q (f x)) xs
    position_map q f [] = refl
    position_map q f (x ∷ xs) = ap (λ i. cond (not (q (f x))) (1 + i) 0) (position_map q f xs)

    position_agree_in : {X : Type 0} (p q : X → Bool) (xs : List X) → All (λ x. p x ≡ q x) xs → position_or_len p xs ≡ position_or_len q xs
    position_agree_in p q [] h = refl
    position_agree_in p q (x ∷ xs) h =
        ap₂ (λ b i. cond (not b) (1 + i) 0) (All-head (λ x. p x ≡ q x) x xs h) (position_agree_in p q xs (All-tail (λ x. p x ≡ q x) x xs h))

    pub place_is_slot : All (λ j. j < total) (columns file) → (j : ℕ) → j < total → place_of (prism_columns file v v []) (column_name file v v [] j) ≡ slot (columns file) j
    place_is_slot h j l =
        sym (position_map (λ x. bytes_eq x (column_name file v v [] j)) (λ (c : Column). c.name) (prism_columns file v v []))
        ∙ ap (position_or_len (λ x. bytes_eq x (column_name file v v [] j))) (names_of_columns v)
        ∙ position_map (λ x. bytes_eq x (column_name file v v [] j)) (column_name file v v []) (columns file)
        ∙ position_agree_in (λ i. bytes_eq (column_name file v v [] i) (column_name file v v [] j)) (λ i. nat_eq i j) (columns file) (λ k d x. names_apart (get_or (columns file) k d) j (h k d x) l)
