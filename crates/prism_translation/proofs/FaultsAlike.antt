-- The instance faults of a translated file are those of the file, each at the column that its column is.
use Rattle.std.specs.Prelude.{◌≡◌, ◌⊎◌, ◌↔◌, ℕ, suc, ◌+◌, ◌-◌, ◌<◌, List, [], ◌∷◌, ◌++◌, map, length, Bool, true, false, Option, Some, None, is_none, get_or, slice_get, unwrap_or, IfSome}
use Rattle.std.specs.List.{flat_map, zip, All}
use Rattle.std.specs.Option.{option_map}
use Rattle.std.proofs.Common.{refl, sym, ap, ap₂, subst, ◌∙◌, arith, inl, inr, ltb-false}
use Rattle.std.proofs.lemmas.Option.{slice_get-get_or, get_or_from_slice_get, same_Some}
use Rattle.std.proofs.lemmas.List.{map-append, length-map}
use Rattle.std.proofs.lemmas.List.Elements.{All-head, All-tail}
use Rattle.op_trees.specs.declared.tree.Value.{Value}
use Rattle.op_trees.specs.Seen.{Seen, known}
use Rattle.op_trees.specs.SeenLaws.{names_then}
use Rattle.process_core.specs.Process.{IsIn}
use Rattle.process_core.specs.Product.{map-map}
use Rattle.process_core.specs.declared.data.FaultKind.TheVariants.{ConstUndef, EmptyRange, InitOutside}
use Rattle.process_core.specs.Ready.{Name}
use Rattle.choice_laws.specs.Columns.{counting, stands}
use Rattle.choice_laws.proofs.Walks.{cons_parts}
use Rattle.choice_laws.proofs.Columns.{counting_at, listed, comes, length-counting, goes, below_stands, stands_in, stands_below}
use Rattle.choice_laws.proofs.Members.{in_left, in_right, in_either}
use Rattle.prism_tree.specs.Syntax as prism
use Rattle.prism_names.specs.Names.{unchanged}
use Rattle.process_core.specs.Instance.{Valuation, Fault, fault_of, Domain, Truths, Between, Range, Column, only_if, numbered, constant_faults, range_faults, domain_faults, first_faults, column_faults, range_from, is_empty, is_outside, instance_faults, value_faults}
use Rattle.prism_flat.specs.Scene as prism_scene
use Rattle.jani_tree.specs.Syntax.{Expression, Const, File, element_names}
use Rattle.jani_meaning.specs.Elements.{lasting}
use Rattle.jani_meaning.specs.Scene as jani_scene
use Rattle.name_table.specs.declared.entry.Entry.{Entry}
use Rattle.name_table.specs.PrismAsks.{NewNames, value_name, outside}
use Rattle.jani_images.specs.Image.{image}
use Rattle.prism_translation.specs.Names.{new_names}
use Rattle.prism_translation.specs.Parts.{constant}
use Rattle.prism_translation.specs.Sound.{IsConstant, IsConstantExpression, FileIsSound, GivesAlike}
use Rattle.prism_translation.specs.StateLaws.{columns}
use Rattle.prism_translation.specs.Translated.{translated}
use Rattle.prism_translation.specs.SameMeaning.{column_at, placed}
use Rattle.prism_translation.proofs.ColumnNames.{nothing}
use Rattle.prism_translation.proofs.Domains.{constants_here_are, range_at, domains_alike}
use Rattle.prism_translation.proofs.NamesAlike.{see_constant, constant_alike, constants_long, name_is}
use Rattle.prism_translation.proofs.Coverage.{all_within}
use Rattle.prism_translation.proofs.States.{IsSingle, single, jani_columns_long}
use Rattle.prism_translation.proofs.Starts.{flags_alike, shown, start, start_shown, starts_alike, starts_there}

-- ---- faults of columns, by what they are of
abbrev faults_of : Bool → ℕ → Domain → Option Seen → List Fault
faults_of any j d o = domain_faults j d ++ first_faults any j d o

-- first values count only where there is no initial condition
first_counts : (any : Bool) (j : ℕ) (d : Domain) (o : Option Seen) → first_faults any j d o ≡ first_faults any j d (shown any o)
first_counts true j d o = refl
first_counts false j d o = refl

module _ (file : File) where
  placed_range : (p : ℕ) (r : Option Range) → map (placed file) (range_faults p r) ≡ range_faults (column_at file p) r
  placed_range p None = refl
  placed_range p (Some r) = by_test (is_empty r)
    where
      by_test : (b : Bool) → map (placed file) (only_if b (fault_of EmptyRange p)) ≡ only_if b (fault_of EmptyRange (column_at file p))
      by_test true = refl
      by_test false = refl

  placed_domain : (p : ℕ) (d : Domain) → map (placed file) (domain_faults p d) ≡ domain_faults (column_at file p) d
  placed_domain p Truths = refl
  placed_domain p (Between l h) = placed_range p (range_from l h)

  placed_value : (p : ℕ) (d : Domain) (o : Option Value) → map (placed file) (value_faults p d o) ≡ value_faults (column_at file p) d o
  placed_value p d None = refl
  placed_value p d (Some u) = by_test (is_outside d u)
    where
      by_test : (b : Bool) → map (placed file) (only_if b (fault_of InitOutside p)) ≡ only_if b (fault_of InitOutside (column_at file p))
      by_test true = refl
      by_test false = refl

  placed_first : (any : Bool) (p : ℕ) (d : Domain) (o : Option Seen) → map (placed file) (first_faults any p d o) ≡ first_faults any (column_at file p) d o
  placed_first true p d o = refl
  placed_first false p d None = refl
  placed_first false p d (Some z) = placed_value p d z.value

  placed_column : (any : Bool) (p : ℕ) (c : Column) → map (placed file) (column_faults any p c) ≡ faults_of any (column_at file p) c.domain (shown any c.first)
  placed_column any p c =
      map-append (placed file) (domain_faults p c.domain) (first_faults any p c.domain c.first)
      ∙ ap₂ (λ a b. a ++ b) (placed_domain p c.domain) (placed_first any p c.domain c.first ∙ first_counts any (column_at file p) c.domain c.first)

  own_column : (any : Bool) (p : ℕ) (c : Column) → column_faults any p c ≡ faults_of any p c.domain (shown any c.first)
  own_column any p c = ap (λ l. domain_faults p c.domain ++ l) (first_counts any p c.domain c.first)

  module _ (v w : Valuation) (sound : FileIsSound file) (alike : GivesAlike file v w) where
    abbrev range : ℕ → Domain
    range j = range_at file v w sound alike j

    -- whether there is an initial condition
    abbrev any : Bool
    any = jani_scene.has_condition file

    abbrev first : ℕ → Option Seen
    first j = start_shown file v w sound alike j

    abbrev at_column : ℕ → List Fault
    at_column j = faults_of any j (range j) (first j)

    -- columns by their numbers
    by_columns : (f : ℕ → Column → List Fault) (at : ℕ → ℕ) → ((p : ℕ) (c : Column) → f p c ≡ faults_of any (at p) c.domain (shown any c.first)) → (k : ℕ) (cs : List Column) (js : List ℕ) →
        ((i : ℕ) → i < length js → slice_get js i ≡ Some (at (k + i))) →
        map (λ (c : Column). c.domain) cs ≡ map range js → map (λ (c : Column). shown any c.first) cs ≡ map first js → numbered f k cs ≡ flat_map at_column js
    by_columns f at h k [] [] n e g = refl
    by_columns f at h k [] (j ∷ js) n e g = absurd cc
    by_columns f at h k (c ∷ cs) [] n e g = absurd cc
    by_columns f at h k (c ∷ cs) (j ∷ js) n e g =
        let d = cons_parts c.domain (range j) (map (λ (c : Column). c.domain) cs) (map range js) e in
        let s = cons_parts (shown any c.first) (first j) (map (λ (c : Column). shown any c.first) cs) (map first js) g in
        let here : at k ≡ j = same_Some (at k) j (ap (λ m. Some (at m)) (let o : k ≡ k + 0 = omega arith in o) ∙ sym (n 0 (omega arith))) in
        ap₂ (λ a b. a ++ b)
        (h k c ∙ ap₂ (λ i x. faults_of any i x (shown any c.first)) here d.0 ∙ ap (faults_of any j (range j)) s.0)
        (by_columns f at h (k + 1) cs js (λ i l. n (suc i) (omega arith) ∙ ap (λ m. Some (at m)) (let o : k + suc i ≡ (k + 1) + i = omega arith in o)) d.1 s.1)

    -- ---- constants
    abbrev names : NewNames
    names = new_names file

    abbrev constants_here : Name → Seen
    constants_here = prism_scene.constant_names (translated file) v unchanged

    abbrev prism_constant : prism.Const → Seen
    prism_constant c = prism_scene.constant_seen (v c.name.name) constants_here c.value

    abbrev jani_constant : Const → Seen
    jani_constant c = jani_scene.constant_seen (w c.name.name) (jani_scene.constant_names file w) c.value

    abbrev made : Const × Entry → prism.Const
    made p = constant file names p.0 p.1.name

    one_alike : (d : Const) (e : Entry) → (d.value ≡ None → v e.name ≡ w d.name.name) → IfSome d.value (IsConstantExpression file) → (prism_constant (made (d, e))).value ≡ (jani_constant d).value
    one_alike d e h g = by_value d.value h g
      where
        by_value : (o : Option Expression) → (o ≡ None → v e.name ≡ w d.name.name) → IfSome o (IsConstantExpression file) →
            (prism_scene.constant_seen (v e.name) constants_here (option_map (image (value_name file names (outside file))) o)).value ≡ (jani_scene.constant_seen (w d.name.name) (jani_scene.constant_names file w) o).value
        by_value None h g = h refl
        by_value (Some t) h g =
            ap (λ (z : Seen). z.value)
            (see_constant file v w t constants_here (jani_scene.constant_names file w)
            (names_then (IsConstant file (outside file)) (λ y. constants_here (value_name file names (outside file) y) ≡ jani_scene.constant_names file w y)
            (λ y k. constants_here_are file v w sound alike (value_name file names (outside file) y) ∙ ap known (constant_alike file v w sound.constants alike (outside file) y k)) t g.1) g.0)

    all_alike : (ds : List Const) (es : List Entry) → length es ≡ length ds → ((i : ℕ) (a : Const) (b : Entry) → i < length ds → (get_or ds i a).value ≡ None → v (get_or es i b).name ≡ w (get_or ds i a).name.name) → All (λ d. IfSome d.value (IsConstantExpression file)) ds →
        map (λ (z : Seen). is_none z.value) (map prism_constant (map made (zip ds es))) ≡ map (λ (z : Seen). is_none z.value) (map jani_constant ds)
    all_alike [] [] l h g = refl
    all_alike [] (e ∷ es) l h g = absurd (let no : ⊥ = omega arith in no)
    all_alike (d ∷ ds) [] l h g = absurd (let no : ⊥ = omega arith in no)
    all_alike (d ∷ ds) (e ∷ es) l h g =
        ap₂ (λ a r. a ∷ r) (ap is_none (one_alike d e (h 0 d e (omega arith)) (All-head (λ d. IfSome d.value (IsConstantExpression file)) d ds g)))
        (all_alike ds es (omega arith) (λ i a b m. h (suc i) a b (omega arith)) (All-tail (λ d. IfSome d.value (IsConstantExpression file)) d ds g))

    given_alike : (i : ℕ) (a : Const) (b : Entry) → i < length file.constants → (get_or file.constants i a).value ≡ None → v (get_or names.constants i b).name ≡ w (get_or file.constants i a).name.name
    given_alike i a b l none =
        ap v (ap (λ (e : Entry). e.name) (sym (get_or_from_slice_get names.constants i (get_or names.constants i b) (nothing file) (slice_get-get_or names.constants i b (let c = constants_long file v w in omega arith)))) ∙ name_is file v w i l)
        ∙ alike i (get_or file.constants i a) (slice_get-get_or file.constants i a l) none

    by_none : (k : ℕ) (xs ys : List Seen) → map (λ (z : Seen). is_none z.value) xs ≡ map (λ (z : Seen). is_none z.value) ys → numbered constant_faults k xs ≡ numbered constant_faults k ys
    by_none k [] [] e = refl
    by_none k [] (y ∷ ys) e = absurd cc
    by_none k (x ∷ xs) [] e = absurd cc
    by_none k (x ∷ xs) (y ∷ ys) e =
        let h = cons_parts (is_none x.value) (is_none y.value) (map (λ (z : Seen). is_none z.value) xs) (map (λ (z : Seen). is_none z.value) ys) e in
        ap₂ (λ a b. a ++ b) (ap (λ b. only_if b (fault_of ConstUndef k)) h.0) (by_none (k + 1) xs ys h.1)

    stay : (k : ℕ) (xs : List Seen) → map (placed file) (numbered constant_faults k xs) ≡ numbered constant_faults k xs
    stay k [] = refl
    stay k (x ∷ xs) = map-append (placed file) (constant_faults k x) (numbered constant_faults (k + 1) xs) ∙ ap₂ (λ a b. a ++ b) (by_test (is_none x.value)) (stay (k + 1) xs)
      where
        by_test : (b : Bool) → map (placed file) (only_if b (fault_of ConstUndef k)) ≡ only_if b (fault_of ConstUndef k)
        by_test true = refl
        by_test false = refl

    constants_alike : map (placed file) (numbered constant_faults 0 (prism_scene.scene (translated file) v).constants) ≡ numbered constant_faults 0 (jani_scene.scene file w).constants
    constants_alike =
        stay 0 (prism_scene.scene (translated file) v).constants
        ∙ by_none 0 (prism_scene.scene (translated file) v).constants (jani_scene.scene file w).constants
        (all_alike file.constants names.constants (constants_long file v w) given_alike sound.constants)

    -- ---- columns
    abbrev prism_columns : List Column
    prism_columns = prism_scene.columns_of (translated file) v

    abbrev jani_columns : List Column
    jani_columns = jani_scene.columns_of file w

    abbrev cols : List ℕ
    cols = columns file

    abbrev total : ℕ
    total = length (element_names file) + length (lasting file)

    map-numbered : {X Y Z : Type 0} (h : Y → Z) (f : ℕ → X → List Y) (k : ℕ) (xs : List X) → map h (numbered f k xs) ≡ numbered (λ i x. map h (f i x)) k xs
    map-numbered h f k [] = refl
    map-numbered h f k (x ∷ xs) = map-append h (f k x) (numbered f (k + 1) xs) ∙ ap (λ l. map h (f k x) ++ l) (map-numbered h f (k + 1) xs)

    prism_faults : map (placed file) (numbered (column_faults any) 0 prism_columns) ≡ flat_map at_column cols
    prism_faults =
        map-numbered (placed file) (column_faults any) 0 prism_columns
        ∙ by_columns (λ p c. map (placed file) (column_faults any p c)) (column_at file) (placed_column any) 0 prism_columns cols
        (λ i l. slice_get-get_or cols i 0 l ∙ sym (ap (λ (o : Option ℕ). Some (unwrap_or o 0)) (ap (slice_get cols) (let e : 0 + i ≡ i = omega arith in e) ∙ slice_get-get_or cols i 0 l)))
        (domains_alike file v w sound alike) (starts_alike file v w sound alike)

    by_length : {X : Type 0} (d : X) (f : Column → X) → map f jani_columns ≡ map (λ j. get_or (map f jani_columns) j d) (counting 0 total)
    by_length d f =
        listed d 0 (map f jani_columns) (λ j. get_or (map f jani_columns) j d) (λ i l. ap (λ j. get_or (map f jani_columns) j d) (let e : 0 + i ≡ i = omega arith in e))
        ∙ ap (λ m. map (λ j. get_or (map f jani_columns) j d) (counting 0 m)) (length-map jani_columns f ∙ jani_columns_long file v w sound alike)

    firsts_there : (b : Bool) → map (λ (c : Column). shown b c.first) jani_columns ≡ map (λ j. shown b (start file v w sound alike j)) (counting 0 total)
    firsts_there b =
        sym (map-map (shown b) (λ (c : Column). c.first) jani_columns)
        ∙ ap (map (shown b)) (by_length (Some (known None)) (λ (c : Column). c.first))
        ∙ map-map (shown b) (start file v w sound alike) (counting 0 total)

    jani_faults : numbered (column_faults any) 0 jani_columns ≡ flat_map at_column (counting 0 total)
    jani_faults =
        by_columns (column_faults any) (λ i. i) (own_column any) 0 jani_columns (counting 0 total)
        (λ i l. counting_at 0 total i (let e = length-counting 0 total in omega arith))
        (by_length Truths (λ (c : Column). c.domain)) (firsts_there any)

    -- a single location has no fault
    none_there : (j : ℕ) → IsSingle file v w sound alike j → at_column j ≡ []
    none_there j k =
        let few = ltb-false 1 (length k.element.automaton.locations) k.few in
        let none : length k.element.automaton.locations - 1 ≡ 0 = omega arith in
        ap₂ (λ d (z : Option Seen). faults_of any j d z) (k.range_is ∙ ap (λ m. Between (jani_scene.counted 0) (jani_scene.counted m)) none) (starts_there file v w sound alike j k)
        ∙ single_fine any
      where
        single_fine : (b : Bool) → faults_of b j (Between (jani_scene.counted 0) (jani_scene.counted 0)) (shown b (Some (jani_scene.counted 0))) ≡ []
        single_fine true = refl
        single_fine false = refl

    -- The same faults are there.
    pub faults_alike : (f : Fault) → IsIn f (map (placed file) (instance_faults (prism_scene.scene (translated file) v))) ↔ IsIn f (instance_faults (jani_scene.scene file w))
    faults_alike f =
        let A = numbered constant_faults 0 (jani_scene.scene file w).constants in
        let whole =
        ap (λ b. map (placed file) (numbered constant_faults 0 (prism_scene.scene (translated file) v).constants ++ numbered (column_faults b) 0 prism_columns)) (flags_alike file v w sound alike)
        ∙ map-append (placed file) (numbered constant_faults 0 (prism_scene.scene (translated file) v).constants) (numbered (column_faults any) 0 prism_columns) ∙ ap₂ (λ a b. a ++ b) constants_alike prism_faults in
        let other = ap (λ l. A ++ l) jani_faults in (
          (λ h. subst (λ l. IsIn f l) (sym other) (onward A (in_either f A (flat_map at_column cols) (subst (λ l. IsIn f l) whole h)))),
          (λ h. subst (λ l. IsIn f l) (sym whole) (backward A (in_either f A (flat_map at_column (counting 0 total)) (subst (λ l. IsIn f l) other h)))),
        )
      where
        onward : (A : List Fault) → IsIn f A ⊎ IsIn f (flat_map at_column cols) → IsIn f (A ++ flat_map at_column (counting 0 total))
        onward A (inl h) = in_left f A (flat_map at_column (counting 0 total)) h
        onward A (inr h) =
            let c = comes f at_column cols h in
            in_right f A (flat_map at_column (counting 0 total))
            (goes f at_column (counting 0 total) c.from (below_stands 0 total c.from (omega arith) (let l = stands_in (λ j. j < total) cols (all_within file) c.from c.there in omega arith)) c.among)

        backward : (A : List Fault) → IsIn f A ⊎ IsIn f (flat_map at_column (counting 0 total)) → IsIn f (A ++ flat_map at_column cols)
        backward A (inl h) = in_left f A (flat_map at_column cols) h
        backward A (inr h) =
            let c = comes f at_column (counting 0 total) h in
            let l = stands_below 0 total c.from c.there in
            in_right f A (flat_map at_column cols) (by_stand c.from (omega arith) (stands cols c.from) refl c.among)
          where
            by_stand : (j : ℕ) → j < total → (b : Bool) → stands cols j ≡ b → IsIn f (at_column j) → IsIn f (flat_map at_column cols)
            by_stand j l true e k = goes f at_column cols j e k
            by_stand j l false e k = absurd (subst (λ fs. IsIn f fs) (none_there j (single file v w sound alike j l e)) k)
