-- What a file that is written out starts with.
use Rattle.std.proofs.Common.{◌≡◌, ℕ, suc, ◌+◌, List, [], ◌∷◌, ◌++◌, map, length, Bool, true, false, Option, Some, None, refl, sym, ap, ◌∙◌, append-nil, arith}
use Rattle.std.specs.Prelude.{bytes_eq, slice_get, not, if◌then◌else◌}
use Rattle.std.specs.List.{flat_map, list_all}
use Rattle.std.specs.Option.{option_or}
use Rattle.std.proofs.lemmas.List.{map-append}
use Rattle.op_trees.specs.declared.tree.Value.{Value}
use Rattle.process_core.specs.Ready.{Name, Values}
use Rattle.process_core.specs.Instance.{Valuation, Column}
use Rattle.prism_tree.specs.Syntax.{Const, Module, plain, copied, File}
use Rattle.prism_names.specs.Names.{unchanged, part_of}
use Rattle.prism_check.specs.Kept.{IsWrittenOut, is_plain}
use Rattle.prism_check.specs.Scene.{column, columns_of, constant_names, has_condition, part_columns}
use Rattle.prism_check.specs.Moment.{value_in, place_of}
use Rattle.instance_start.specs.Columns.{column_at, value_at}
use Rattle.instance_start.specs.declared.data.Place.{Place}
use Rattle.instance_start.specs.declared.data.Place.TheVariants.{Constant, Variable}
use Rattle.name_rules.specs.Circles.{circles as circles_of}
use Rattle.prism_check.specs.NameFaults.{declared_formula}
use Rattle.prism_check.proofs.Typed.{no_name_fault}
use Rattle.prism_check.specs.Flattened.{IsFlat}
use Rattle.process_core.specs.declared.data.Given.{Given}
use Rattle.process_core.specs.declared.data.StartFail.{StartFail}
use Rattle.process_core.specs.declared.data.StartFail.TheVariants.{Memory, Wide, Faults, Word}
use Rattle.state_choices.specs.Trimmed.{trimmed_seen}
use Rattle.instance_start.specs.Description.{Description}
use Rattle.instance_start.specs.Given.{given_by, misfit}
use Rattle.instance_start.specs.Started.{FailsIn, FailsToStart}
use Rattle.prism_instance.specs.Constants.{declared_const, narrow_value}
use Rattle.prism_instance.specs.Places.{column_place, constant_place}
use Rattle.prism_instance.specs.Variables.{all_variables, own_variables}

-- ---- columns
own_columns : (file : File) (c : Bool) (v : Valuation) (ms : List Module) → list_all is_plain ms ≡ true →
    map (column c unchanged (constant_names file v unchanged)) (flat_map own_variables ms) ≡ flat_map (part_columns file c v) (map (part_of file) ms)
own_columns file c v [] h = refl
own_columns file c v (plain m ∷ ms) h =
    map-append (column c unchanged (constant_names file v unchanged)) m.vars (flat_map own_variables ms)
    ∙ ap (λ l. map (column c unchanged (constant_names file v unchanged)) m.vars ++ l) (own_columns file c v ms h)
own_columns file c v (copied m ∷ ms) h = absurd cc

pub columns_are : (file : File) (v : Valuation) → IsWrittenOut file → map (column (has_condition file) unchanged (constant_names file v unchanged)) (all_variables file) ≡ columns_of file v
columns_are file v w =
    map-append (column (has_condition file) unchanged (constant_names file v unchanged)) file.globals (flat_map own_variables file.modules)
    ∙ ap (λ l. map (column (has_condition file) unchanged (constant_names file v unchanged)) file.globals ++ l) (own_columns file (has_condition file) v file.modules w.modules)

-- ---- names
value_from : (whole s : Values) (table : List (Option Value)) (i : ℕ) (cs : List Column) (x : Name) (o : Option Place) (constants : Name → Option Value) →
    length s ≡ length cs → ((j : ℕ) → slice_get whole (i + j) ≡ slice_get s j) → value_at whole table o ≡ constants x →
    value_at whole table (option_or (column_place i cs x) o) ≡ value_in cs s constants x
value_from whole [] table i [] x o constants l h k = k
value_from whole (v ∷ s) table i [] x o constants l h k = absurd (omega (arith, l))
value_from whole [] table i (c ∷ cs) x o constants l h k = absurd (omega (arith, l))
value_from whole (v ∷ s) table i (c ∷ cs) x o constants l h k =
    by_test (bytes_eq c.name x)
    (value_from whole s table (i + 1) cs x o constants (let e : length s ≡ length cs = omega (arith, l) in e)
    (λ j. ap (slice_get whole) (let e : i + 1 + j ≡ i + suc j = omega arith in e) ∙ h (suc j)) k)
  where
    by_test : (b : Bool) → value_at whole table (option_or (column_place (i + 1) cs x) o) ≡ value_in cs s constants x →
        value_at whole table (option_or (if b then Some (Variable i) else column_place (i + 1) cs x) o) ≡ (if b then Some v else value_in cs s constants x)
    by_test true r = ap (slice_get whole) (let e : i ≡ i + 0 = omega arith in e) ∙ h 0
    by_test false r = r

pub values_are : (s : Values) (table : List (Option Value)) (cs : List Column) (x : Name) (o : Option Place) (constants : Name → Option Value) →
    length s ≡ length cs → value_at s table o ≡ constants x → value_at s table (option_or (column_place 0 cs x) o) ≡ value_in cs s constants x
values_are s table cs x o constants l k = value_from s s table 0 cs x o constants l (λ j. ap (slice_get s) (let e : 0 + j ≡ j = omega arith in e)) k

no_column : (n i : ℕ) (ks : List Const) (x : Name) → column_at n (constant_place i ks x) ≡ n
no_column n i [] x = refl
no_column n i (k ∷ ks) x = by_test (bytes_eq k.name.name x) (no_column n (i + 1) ks x)
  where
    by_test : (b : Bool) → column_at n (constant_place (i + 1) ks x) ≡ n → column_at n (if b then Some (Constant i) else constant_place (i + 1) ks x) ≡ n
    by_test true r = refl
    by_test false r = r

column_from : (n i : ℕ) (cs : List Column) (ks : List Const) (x : Name) → i + length cs ≡ n →
    column_at n (option_or (column_place i cs x) (constant_place 0 ks x)) ≡ i + place_of cs x
column_from n i [] ks x e = no_column n 0 ks x ∙ (let f : n ≡ i + 0 = omega (arith, e) in f)
column_from n i (c ∷ cs) ks x e = by_test (bytes_eq c.name x) (column_from n (i + 1) cs ks x (let f : i + 1 + length cs ≡ n = omega (arith, e) in f))
  where
    by_test : (b : Bool) → column_at n (option_or (column_place (i + 1) cs x) (constant_place 0 ks x)) ≡ i + 1 + place_of cs x →
        column_at n (option_or (if b then Some (Variable i) else column_place (i + 1) cs x) (constant_place 0 ks x)) ≡ i + (if not b then 1 + place_of cs x else 0)
    by_test true r = let f : i ≡ i + 0 = omega arith in f
    by_test false r = r ∙ (let f : i + 1 + place_of cs x ≡ i + (1 + place_of cs x) = omega arith in f)

pub writes_are : (cs : List Column) (ks : List Const) (x : Name) → column_at (length cs) (option_or (column_place 0 cs x) (constant_place 0 ks x)) ≡ place_of cs x
writes_are cs ks x = column_from (length cs) 0 cs ks x (let e : 0 + length cs ≡ length cs = omega arith in e) ∙ (let e : 0 + place_of cs x ≡ place_of cs x = omega arith in e)

-- ---- no constant leads to itself
pub no_circles : (file : File) → IsFlat file → circles_of (map declared_const file.constants) ≡ []
no_circles file flat =
    ap circles_of (sym (append-nil (map declared_const file.constants)) ∙ ap (λ fs. map declared_const file.constants ++ map declared_formula fs) (sym flat.form.formulas))
    ∙ (no_name_fault file flat).circles

-- ---- what isn't wide is trimmed
pub narrow_trimmed : (table : List (Option Value)) → map trimmed_seen (map narrow_value table) ≡ map narrow_value table
narrow_trimmed [] = refl
narrow_trimmed (o ∷ os) = ap (λ l. narrow_value o ∷ l) (narrow_trimmed os)

-- ---- a start that fails after the constants fitted
pub fails_start : (d : Description) (given : List Given) (e : StartFail) → misfit d.constants given ≡ None → FailsIn d.constants (d.scene (given_by given)) e → FailsToStart d given e
fails_start d given (Memory e) m h = tt
fails_start d given (Word i) m h = absurd h
fails_start d given Wide m h = (m, h)
fails_start d given (Faults fs) m h = (m, h)
