-- The process that a file describes keeps the laws of processes, where its instance has no fault and what begins with a value of
-- the right type. (jani-model specification, version 1: "Models" for type "mdp".)
use Rattle.std.specs.Prelude.{◌≡◌, ℕ, zero, suc, ◌+◌, List, [], ◌||◌, map, length, codes, true, false, Option, Some, None, is_none, is_some}
use Rattle.std.specs.List.{list_any}
use Rattle.std.proofs.Common.{refl, sym, ap, ap₂, ◌∙◌, length-append}
use Rattle.std.proofs.lemmas.List.Elements.{All-append, All-map, All-weaker}
use Rattle.basics.specs.Members.{none_passes}
use Rattle.basics.specs.Booleans.{first_false, second_false}
use Rattle.op_trees.specs.Seen.{Seen}
use Rattle.process_core.specs.Ready.{Name}
use Rattle.process_core.specs.Instance.{Valuation, instance_faults}
use Rattle.process_core.specs.Steps.{IsProcess}
use Rattle.jani_tree.specs.Syntax.{Expression, File, file_of, element_names}
use Rattle.jani_meaning.specs.Elements.{elements, has_several_starts, labels, structures, lasting}
use Rattle.jani_meaning.specs.Moment.{moment}
use Rattle.jani_meaning.specs.Scene.{scene, begins_anywhere, column, columns_of, constant_names, first_location, first_of, location_column}
use Rattle.jani_meaning.proofs.Columns.{no_condition_is_true, states_have_columns}
use Rattle.jani_meaning.proofs.Proper.{choices_are_proper}
use Rattle.instance_start.specs.Firsts.{BeginRight, HasFirst, HaveFirsts, initial_states, wide_states, condition_is, first_is}
use Rattle.instance_start.specs.Marks.{first_names, marks_length, mark_kinds}
use Rattle.instance_start.specs.Given.{given_by}
use Rattle.jani_instance.specs.Described.{described, texts_from, column_texts}
use Rattle.jani_instance.specs.Instance.{process_of}
use Rattle.jani_instance.specs.declared.instance.JaniInstance.{JaniInstance}

pub texts_length : (mark : List ℕ) (i n : ℕ) → length (texts_from mark i n) ≡ n
texts_length mark i zero = refl
texts_length mark i (suc n) = ap suc (texts_length mark (i + 1) n)

pub column_count : (file : File) → length (column_texts file) ≡ length (element_names file) + length (lasting file)
column_count file =
    length-append (texts_from (codes "@") 0 (length (element_names file))) (texts_from (codes "#") 0 (length (lasting file)))
    ∙ ap₂ (λ a b. a + b) (texts_length (codes "@") 0 (length (element_names file))) (texts_length (codes "#") 0 (length (lasting file)))

-- ---- first values
start_known : (names : Name → Seen) (e : Option Expression) → is_none e ≡ false → is_some (first_of names e) ≡ true
start_known names None h = absurd cc
start_known names (Some e) h = refl

-- without an initial condition each element begins in one location, and each variable with one value
have_firsts : (file : File) (v : Valuation) → HaveFirsts (scene file v)
have_firsts file v e =
    let several = list_any has_several_starts (elements file) in
    let anywhere = list_any begins_anywhere (lasting file) in
    let rest = second_false (is_some file.restrict) (several || anywhere) e in
    All-append HasFirst (map location_column (elements file)) (map (λ o. column (constant_names file v) o.var) (lasting file))
    (All-map HasFirst location_column (elements file)
    (All-weaker (λ a. has_several_starts a ≡ false) (λ a. HasFirst (location_column a)) (λ a h. ap (λ b. is_some (first_location a b)) h) (elements file)
    (none_passes has_several_starts (elements file) (first_false several anywhere rest))))
    (All-map HasFirst (λ o. column (constant_names file v) o.var) (lasting file)
    (All-weaker (λ o. begins_anywhere o ≡ false) (λ o. HasFirst (column (constant_names file v) o.var)) (λ o h. start_known (constant_names file v) o.var.start h) (lasting file)
    (none_passes begins_anywhere (lasting file) (second_false several anywhere rest))))

module _ (file : File) (v : Valuation) (t : BeginRight (columns_of file v)) (h : instance_faults (scene file v) ≡ []) where
  pub described_is : IsProcess (described file v)
  described_is = record {
    columns = λ s k. states_have_columns file v s k ∙ sym (column_count file);
    marks = λ s k. marks_length _ _ _ _ _ _ (labels file) (structures file);
    labels = first_names _ _ (labels file) (structures file);
    kinds = λ s i m k e. mark_kinds _ _ _ _ (λ l. refl) (λ l. refl) (labels file) (structures file) i m e;
    initial = λ s k. initial_states (columns_of file v) (moment file v s).condition s k;
    wide_initial = λ s k. wide_states (columns_of file v) (moment file v s).condition s k;
    condition = condition_is (scene file v) (have_firsts file v) h;
    first = first_is (scene file v) (λ s. (moment file v s).condition) t (λ e s. no_condition_is_true file v s e) h;
    proper = choices_are_proper file v;
  }

pub instance_is : (i : JaniInstance) → IsProcess (process_of i)
instance_is i = described_is (file_of i.checked.now) (given_by i.given.now) i.sound.begin i.sound.faultless
