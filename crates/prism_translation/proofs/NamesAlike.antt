-- A new name is seen in the translated file as the old one is in the file: that of a constant, and at a state that of a
-- variable.
use Rattle.std.specs.Prelude.{◌≡◌, ℕ, zero, suc, ◌+◌, ◌<◌, List, [], ◌∷◌, map, length, drop, Bool, true, false, ◌||◌, Option, Some, None, if◌then◌else◌, nat_eq, nat_lt, bytes_eq, get_or, slice_get, unwrap_or, IfSome}
use Rattle.std.specs.List.{find, position, zip, All}
use Rattle.std.specs.Option.{option_map, option_or}
use Rattle.std.proofs.Common.{refl, sym, ap, ap₂, subst, ◌∙◌, arith, length-drop}
use Rattle.std.proofs.lemmas.Slice.Eq.{bytes_eq-Decides}
use Rattle.std.proofs.lemmas.Option.{slice_get-get_or}
use Rattle.std.proofs.lemmas.List.Folds.{find_at}
use Rattle.std.proofs.lemmas.List.Quantifiers.{position-Some}
use Rattle.std.proofs.lemmas.List.Sums.{position_or_len_is}
use Rattle.std.proofs.lemmas.List.{get_or-map, length-map, length-take}
use Rattle.std.proofs.lemmas.List.Elements.{All-head, All-tail, All-map}
use Rattle.basics.specs.Texts.{bytes_ne}
use Rattle.basics.specs.Members.{All-unmap}
use Rattle.op_trees.specs.declared.tree.Ty.TheVariants as T
use Rattle.op_trees.specs.declared.tree.Value.{Value}
use Rattle.op_trees.specs.Tree.{AllNames}
use Rattle.op_trees.specs.Seen.{Seen, known}
use Rattle.op_trees.specs.SeenLaws.{names_then}
use Rattle.process_core.specs.Product.{map-map, map_agree_in}
use Rattle.process_core.specs.Ready.{Values, Name}
use Rattle.choice_laws.specs.Columns.{stands, value_at}
use Rattle.choice_laws.proofs.Columns.{read_at}
use Rattle.choice_laws.proofs.Walks.{cons_parts}
use Rattle.prism_tree.specs.Syntax as prism
use Rattle.prism_names.specs.Names as prism_names
use Rattle.prism_names.specs.Names.{unchanged}
use Rattle.process_core.specs.Instance.{Valuation, Column}
use Rattle.prism_flat.specs.Scene as prism_scene
use Rattle.prism_flat.specs.Moment as prism_moment
use Rattle.jani_tree.specs.Syntax.{Expression, Const, File, element_names}
use Rattle.jani_tree.specs.Canonical.{HasOperands}
use Rattle.jani_meaning.specs.Elements as jani
use Rattle.op_trees.specs.Names.{is_called}
use Rattle.jani_meaning.specs.Elements.{lasting}
use Rattle.jani_meaning.specs.Scene as jani_scene
use Rattle.jani_meaning.specs.Moment as jani_moment
use Rattle.name_table.specs.declared.entry.Entry.{Entry}
use Rattle.name_table.specs.PrismAsks.{NewNames, name_at, value_name, outside}
use Rattle.jani_images.specs.Image.{image}
use Rattle.prism_translation.specs.Names.{new_names}
use Rattle.prism_translation.specs.Parts.{constant}
use Rattle.prism_translation.specs.StateLaws.{columns, state_of}
use Rattle.prism_translation.specs.Translated.{translated}
use Rattle.prism_translation.specs.Sound.{IsConstant, IsVariable, IsConstantExpression, GivesAlike}
use Rattle.jani_images.proofs.ImageSeen.{image_seen}
use Rattle.prism_translation.proofs.Follows.{column_name, variable_name}
use Rattle.prism_translation.proofs.ColumnNames.{names_of_columns, names_apart, named_by, index, index_below, entries_differ, entries_long, constant_entry, nothing, es, c}
use Rattle.prism_translation.proofs.Numbered.{no_owned}

-- ---- first members
-- one at a place is the first, where it passes and no earlier one does
pub first_at : {X : Type 0} (p : X → Bool) (xs : List X) (i : ℕ) (d : X) → i < length xs → p (get_or xs i d) ≡ true → ((j : ℕ) → j < i → p (get_or xs j d) ≡ false) → find p xs ≡ Some (get_or xs i d)
first_at p xs i d l h k = find_at p xs ∙ ap (slice_get xs) (position_or_len_is p xs i d (omega arith) k (λ m. h)) ∙ slice_get-get_or xs i d l

-- and the first stands at its place, and passes
pub record IsFirst {X : Type 0} (p : X → Bool) (xs : List X) (i : ℕ) (d : X) : Type 0 where
  pub found : find p xs ≡ Some (get_or xs i d)
  pub within : i < length xs
  pub passes : p (get_or xs i d) ≡ true

pub found_at : {X : Type 0} (p : X → Bool) (xs : List X) (i : ℕ) (d : X) → position p xs ≡ Some i → IsFirst p xs i d
found_at p xs i d h =
    let first = position-Some p xs i d h in
    record { found = first_at p xs i d first.0 first.1 first.2; within = first.0; passes = first.1 }

-- ---- lists that are gone through together
pub zip_at : {X Y : Type 0} (xs : List X) (ys : List Y) (i : ℕ) (d : X) (e : Y) → length ys ≡ length xs → i < length xs → get_or (zip xs ys) i (d, e) ≡ (get_or xs i d, get_or ys i e)
zip_at [] ys i d e h l = absurd (let no : ⊥ = omega arith in no)
zip_at (x ∷ xs) [] i d e h l = absurd (let no : ⊥ = omega arith in no)
zip_at (x ∷ xs) (y ∷ ys) zero d e h l = refl
zip_at (x ∷ xs) (y ∷ ys) (suc i) d e h l = zip_at xs ys i d e (omega arith) (omega arith)

pub zip_length : {X Y : Type 0} (xs : List X) (ys : List Y) → length ys ≡ length xs → length (zip xs ys) ≡ length xs
zip_length [] ys h = refl
zip_length (x ∷ xs) [] h = absurd (let no : ⊥ = omega arith in no)
zip_length (x ∷ xs) (y ∷ ys) h = ap suc (zip_length xs ys (omega arith))

module _ (file : File) (v w : Valuation) where
  abbrev names : NewNames
  names = new_names file

  abbrev count : ℕ
  count = length file.constants

  pub no_constant : Const
  no_constant = record { name = record { name = []; at = 0 }; ty = T.Bool; value = None; note = None }

  abbrev pub const_at : ℕ → Const
  const_at i = get_or file.constants i no_constant

  constant_named : (k : ℕ) (x : Name) (h : IsConstant file k x) → value_name file names k x ≡ name_at names.constants h.number
  constant_named k x h =
      ap₂ (λ a b. unwrap_or (option_or (option_map (name_at names.variables) a) (option_map (name_at names.constants) b)) []) h.no_variable h.stands_there

  -- ---- the constants of the translated file
  pub constants_long : length names.constants ≡ count
  constants_long =
      let a = length-take count (drop 0 (es file)) in
      let b = length-drop 0 (es file) in
      let d = entries_long file in
      omega arith

  abbrev pub made_constant : Const × Entry → prism.Const
  made_constant p = constant file names p.0 p.1.name

  pub name_is : (i : ℕ) → i < count → (get_or names.constants i (nothing file)).name ≡ name_at names.constants i
  name_is i l =
      ap (λ o. unwrap_or (option_map (λ (x : Entry). x.name) o) []) (sym (slice_get-get_or names.constants i (nothing file) (let e = constants_long in omega arith)))

  names_differ : (i j : ℕ) → i < count → j < count → (i ≡ j → ⊥) → bytes_eq (name_at names.constants i) (name_at names.constants j) ≡ false
  names_differ i j l k d =
      bytes_ne (name_at names.constants i) (name_at names.constants j)
      (λ e. entries_differ file (0 + i) (0 + j) (omega arith) (omega arith) (λ f. d (omega arith)) (sym (constant_entry file i l) ∙ e ∙ constant_entry file j k))

  pub made_at : (i : ℕ) → i < count → (d : Const × Entry) → get_or (map made_constant (zip file.constants names.constants)) i (made_constant d) ≡ made_constant (get_or (zip file.constants names.constants) i d)
  made_at i l d = get_or-map made_constant (zip file.constants names.constants) i d (made_constant d) (let a = zip_length file.constants names.constants constants_long in omega arith)

  abbrev pub pair : Const × Entry
  pair = (no_constant, nothing file)

  pub called_there : (i : ℕ) → i < count → prism_scene.constant_called (translated file) (name_at names.constants i) ≡ Some (constant file names (const_at i) (get_or names.constants i (nothing file)).name)
  called_there i l =
      let ds = map made_constant (zip file.constants names.constants) in
      let long : length ds ≡ count = length-map (zip file.constants names.constants) made_constant ∙ zip_length file.constants names.constants constants_long in
      first_at (λ d. is_called (name_at names.constants i) d.name) ds i (made_constant pair) (omega arith)
      (ap (λ (d : prism.Const). bytes_eq d.name.name (name_at names.constants i)) (value_at_place i l) ∙ (bytes_eq-Decides (get_or names.constants i (nothing file)).name (name_at names.constants i)).1 (name_is i l))
      (λ j k. ap (λ (d : prism.Const). bytes_eq d.name.name (name_at names.constants i)) (value_at_place j (omega arith))
      ∙ ap (λ y. bytes_eq y (name_at names.constants i)) (name_is j (omega arith)) ∙ names_differ j i (omega arith) l (λ e. omega arith))
      ∙ ap Some (value_at_place i l)
    where
      value_at_place : (j : ℕ) → j < count → get_or (map made_constant (zip file.constants names.constants)) j (made_constant pair) ≡ constant file names (const_at j) (get_or names.constants j (nothing file)).name
      value_at_place j k = made_at j k pair ∙ ap made_constant (zip_at file.constants names.constants j no_constant (nothing file) constants_long k)

  -- without formulas a name is seen as it is given
  pub plain_reading : (given : Name → Seen) → prism_names.reading (translated file) given ≡ given
  unfolding prism_names.reading
  plain_reading given = refl

  pub see_constant : (e : Expression) (given : Name → Seen) (old : Name → Seen) → AllNames (λ x. given (value_name file names (outside file) x) ≡ old x) e → HasOperands e →
      prism_names.see (image (value_name file names (outside file)) e) given ≡ jani_scene.see e old
  unfolding prism_names.see jani_scene.see
  see_constant e given old n h = image_seen (value_name file names (outside file)) old given e n h

  -- ---- their values
  module _ (sound : All (λ d. IfSome d.value (IsConstantExpression file)) file.constants) (alike : GivesAlike file v w) where
    pub value_within : (d : ℕ) (k : ℕ) (x : Name) (h : IsConstant file k x) →
        prism_scene.constant_within (translated file) v d (value_name file names k x) ≡ jani_scene.constant_within file w d x
    value_within zero k x h = refl
    value_within (suc d) k x h =
        let i = h.number in
        let found = found_at (λ d. is_called x d.name) file.constants i no_constant h.stands_there in
        let given : (const_at i).value ≡ None → v (name_at names.constants i) ≡ w x =
        λ none. alike i (const_at i) (slice_get-get_or file.constants i no_constant found.within) none ∙ ap w ((bytes_eq-Decides (const_at i).name.name x).0 found.passes) in
        ap₂ (λ y r. prism_scene.constant_value (v y) r (prism_scene.constant_called (translated file) y)) (constant_named k x h) (plain_reading (λ y. known (prism_scene.constant_within (translated file) v d y)))
        ∙ ap (prism_scene.constant_value (v (name_at names.constants i)) (λ y. known (prism_scene.constant_within (translated file) v d y))) (called_there i found.within)
        ∙ by_value (const_at i).value (sound i no_constant found.within) i given (λ y g. value_within d (outside file) y g)
        ∙ ap (jani_scene.constant_value (w x) (λ y. known (jani_scene.constant_within file w d y))) (sym found.found)
      where
        by_value : (o : Option Expression) → IfSome o (IsConstantExpression file) → (i : ℕ) → (o ≡ None → v (name_at names.constants i) ≡ w x) →
            ((y : Name) → IsConstant file (outside file) y → prism_scene.constant_within (translated file) v d (value_name file names (outside file) y) ≡ jani_scene.constant_within file w d y) →
            (prism_scene.constant_seen (v (name_at names.constants i)) (λ y. known (prism_scene.constant_within (translated file) v d y)) (option_map (image (value_name file names (outside file))) o)).value
            ≡ (jani_scene.constant_seen (w x) (λ y. known (jani_scene.constant_within file w d y)) o).value
        by_value None g i e ih = e refl
        by_value (Some t) g i e ih =
            ap (λ (z : Seen). z.value)
            (see_constant t (λ y. known (prism_scene.constant_within (translated file) v d y)) (λ y. known (jani_scene.constant_within file w d y))
            (names_then (IsConstant file (outside file)) (λ y. known (prism_scene.constant_within (translated file) v d (value_name file names (outside file) y)) ≡ known (jani_scene.constant_within file w d y)) (λ y k. ap known (ih y k)) t g.1) g.0)

    constants_length : length (translated file).constants ≡ count
    constants_length = length-map (zip file.constants names.constants) made_constant ∙ zip_length file.constants names.constants constants_long

    -- Each constant has the same value in both files.
    pub constant_alike : (k : ℕ) (x : Name) → IsConstant file k x → prism_scene.constant (translated file) v (value_name file names k x) ≡ jani_scene.constant file w x
    constant_alike k x h = ap (λ d. prism_scene.constant_within (translated file) v d (value_name file names k x)) constants_length ∙ value_within count k x h

    -- ---- names at a state
    module _ (s : Values) (long : length s ≡ length (columns file)) (all_below : All (λ j. j < length (element_names file) + length (lasting file)) (columns file)) where
      abbrev total : ℕ
      total = length (element_names file) + length (lasting file)

      abbrev prism_columns : List Column
      prism_columns = prism_scene.columns_of (translated file) v

      abbrev cols : List ℕ
      cols = columns file

      abbrev name_of : ℕ → Name
      name_of j = column_name file v v [] j

      looked_up : (cs : List Column) (js : List ℕ) (t : Values) (y : Name) (j : ℕ) (consts : Name → Option Value) → map (λ (c : Column). bytes_eq c.name y) cs ≡ map (λ i. nat_eq i j) js → length t ≡ length js →
          stands js j ≡ true → prism_moment.value_in cs t consts y ≡ Some (value_at js t j)
      looked_up [] [] t y j f e l h = absurd cc
      looked_up [] (i ∷ js) t y j f e l h = absurd cc
      looked_up (c ∷ cs) [] t y j f e l h = absurd cc
      looked_up (c ∷ cs) (i ∷ js) [] y j f e l h = absurd (let no : ⊥ = omega arith in no)
      looked_up (c ∷ cs) (i ∷ js) (u ∷ t) y j f e l h =
          let both = cons_parts (bytes_eq c.name y) (nat_eq i j) (map (λ (c : Column). bytes_eq c.name y) cs) (map (λ i. nat_eq i j) js) e in
          ap (λ b. if b then Some u else prism_moment.value_in cs t f y) both.0
          ∙ by_test (nat_eq i j) h (λ k. looked_up cs js t y j f both.1 (omega arith) k)
        where
          by_test : (b : Bool) → (b || stands js j) ≡ true → (stands js j ≡ true → prism_moment.value_in cs t f y ≡ Some (value_at js t j)) →
              (if b then Some u else prism_moment.value_in cs t f y) ≡ Some (if b then u else value_at js t j)
          by_test true h ih = refl
          by_test false h ih = ih h

      not_there : (cs : List Column) (t : Values) (y : Name) (consts : Name → Option Value) → All (λ (c : Column). bytes_eq c.name y ≡ false) cs → prism_moment.value_in cs t consts y ≡ consts y
      not_there [] t y f h = refl
      not_there (c ∷ cs) [] y f h = refl
      not_there (c ∷ cs) (u ∷ t) y f h =
          ap (λ b. if b then Some u else prism_moment.value_in cs t f y) (All-head (λ (c : Column). bytes_eq c.name y ≡ false) c cs h)
          ∙ not_there cs t y f (All-tail (λ (c : Column). bytes_eq c.name y ≡ false) c cs h)

      named_at : (j : ℕ) → j < total → map (λ (c : Column). bytes_eq c.name (name_of j)) prism_columns ≡ map (λ i. nat_eq i j) cols
      named_at j l =
          sym (map-map (λ x. bytes_eq x (name_of j)) (λ (c : Column). c.name) prism_columns)
          ∙ ap (map (λ x. bytes_eq x (name_of j))) (names_of_columns file v)
          ∙ map-map (λ x. bytes_eq x (name_of j)) name_of cols
          ∙ map_agree_in (λ i. bytes_eq (name_of i) (name_of j)) (λ i. nat_eq i j) cols (λ k d x. names_apart file v (get_or cols k d) j (all_below k d x) l)

      constant_apart : (i : ℕ) → i < count → All (λ (c : Column). bytes_eq c.name (name_at names.constants i) ≡ false) prism_columns
      constant_apart i l =
          All-unmap (λ x. bytes_eq x (name_at names.constants i) ≡ false) (λ (c : Column). c.name) prism_columns
          (subst (λ xs. All (λ x. bytes_eq x (name_at names.constants i) ≡ false) xs) (sym (names_of_columns file v))
          (All-map (λ x. bytes_eq x (name_at names.constants i) ≡ false) name_of cols
          (λ k d x.
          let j = get_or cols k d in
          let b = nat_lt j (length (element_names file)) in
          bytes_ne (name_of j) (name_at names.constants i)
          (λ e. entries_differ file (index file b j) (0 + i) (index_below file v j b refl (all_below k d x)) (let h = entries_long file in omega arith) (above j b)
          (sym (named_by file v j b refl (all_below k d x)) ∙ e ∙ constant_entry file i l)))))
        where
          above : (j : ℕ) (b : Bool) → index file b j ≡ 0 + i → ⊥
          above j true e = omega arith
          above j false e = omega arith

      abbrev pub env : Name → Seen
      env = prism_moment.names_in (translated file) v s unchanged

      abbrev pub old : ℕ → Name → Seen
      old k = jani_moment.names_in file w (state_of file s) k

      env_is : (y : Name) → env y ≡ known (prism_moment.value_in prism_columns s (prism_scene.constant (translated file) v) y)
      env_is y = ap (λ f. f y) (plain_reading (λ x. known (prism_moment.value_in prism_columns s (prism_scene.constant (translated file) v) x)))

      pub env_column : (j : ℕ) → j < total → stands cols j ≡ true → env (name_of j) ≡ known (Some (value_at cols s j))
      env_column j l h = env_is (name_of j) ∙ ap known (looked_up prism_columns cols s (name_of j) j (prism_scene.constant (translated file) v) (named_at j l) long h)

      -- a name that is a constant's, or a variable's that has a column
      pub constant_seen_alike : (k : ℕ) (x : Name) → IsConstant file k x → env (value_name file names k x) ≡ old k x
      constant_seen_alike k x h =
          let found = found_at (λ d. is_called x d.name) file.constants h.number no_constant h.stands_there in
          env_is (value_name file names k x)
          ∙ ap known
          (ap (λ y. prism_moment.value_in prism_columns s (prism_scene.constant (translated file) v) y) (constant_named k x h)
          ∙ not_there prism_columns s (name_at names.constants h.number) (prism_scene.constant (translated file) v) (constant_apart h.number found.within)
          ∙ ap (prism_scene.constant (translated file) v) (sym (constant_named k x h))
          ∙ constant_alike k x h
          ∙ ap (λ o. jani_moment.value_in (state_of file s) (option_map (λ i. length (element_names file) + i) o) (jani_scene.constant file w x)) (sym h.no_variable))

      pub place_below : (k : ℕ) (x : Name) (i : ℕ) → jani.place_of (lasting file) k x ≡ Some i → i < length (lasting file)
      place_below k x i h = by_first (position (jani.is_own k x) (lasting file)) refl h
        where
          by_first : (a : Option ℕ) → position (jani.is_own k x) (lasting file) ≡ a → option_or a (position (jani.is_global x) (lasting file)) ≡ Some i → i < length (lasting file)
          by_first None e f = (found_at (jani.is_global x) (lasting file) i no_owned f).within
          by_first (Some j) e f = (found_at (jani.is_own k x) (lasting file) i no_owned (e ∙ f)).within

      variable_named : (k : ℕ) (x : Name) (h : IsVariable file k x) → value_name file names k x ≡ name_of (length (element_names file) + h.number)
      variable_named k x h =
          ap (λ a. unwrap_or (option_or (option_map (name_at names.variables) a) (option_map (name_at names.constants) (position (λ d. is_called x d.name) file.constants))) []) h.stands_there
          ∙ sym (variable_name file v v [] h.number)

      pub variable_seen_alike : (k : ℕ) (x : Name) (h : IsVariable file k x) → stands cols (length (element_names file) + h.number) ≡ true → env (value_name file names k x) ≡ old k x
      variable_seen_alike k x h there =
          let below = place_below k x h.number h.stands_there in
          ap env (variable_named k x h)
          ∙ env_column (length (element_names file) + h.number) (omega arith) there
          ∙ ap known
          (sym (read_at cols total s (length (element_names file) + h.number) (omega arith))
          ∙ ap (λ o. jani_moment.value_in (state_of file s) (option_map (λ i. length (element_names file) + i) o) (jani_scene.constant file w x)) (sym h.stands_there))
