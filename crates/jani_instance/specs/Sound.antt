-- What an instance keeps is what its file comes out as under the given constants, and the instance has no fault.
-- (What a JANI file has there is defined after the jani-model specification in jani_meaning; what an instance keeps of it is this project's own rule.)
use Rattle.std.specs.Prelude.{◌≡◌, ℕ, take, drop, List, [], map, length, Bool, Option, IsTrue}
use Rattle.op_trees.specs.Seen.{known_names}
use Rattle.op_trees.specs.declared.tree.Value.{Value}
use Rattle.name_rules.specs.declared.map.NameMap.{NameMap}
use Rattle.expr_store.specs.declared.node.ExprId.{ExprId}
use Rattle.expr_store.specs.declared.store.ExprStore.{ExprStore}
use Rattle.jani_table.specs.declared.operator.JaniOp.{JaniOp}
use Rattle.process_core.specs.Ready.{Values, Sum}
use Rattle.process_core.specs.Instance.{Valuation, instance_faults, is_state}
use Rattle.process_core.specs.declared.data.Given.{Given}
use Rattle.state_choices.specs.Groups.{Group, element_groups}
use Rattle.state_choices.specs.Trimmed.{computed, trimmed_group}
use Rattle.jani_tree.specs.Syntax.{File, element_names}
use Rattle.jani_meaning.specs.Elements.{labels}
use Rattle.jani_meaning.specs.Scene.{scene, columns_of, has_condition}
use Rattle.jani_meaning.specs.Moment.{moment, Moment}
use Rattle.jani_meaning.specs.Process.{no_reward}
use Rattle.instance_start.specs.Given.{given_by}
use Rattle.instance_start.specs.Columns.{column_of}
use Rattle.instance_start.specs.Firsts.{BeginRight}
use Rattle.instance_start.specs.declared.data.Column.{Column}
use Rattle.instance_start.specs.declared.data.Place.{Place}
use Rattle.state_choices.specs.Codes.{one_answers, one_columns, one_faults, one_groups, one_names, one_number, one_truth}
use Rattle.jani_instance.specs.Described.{mark_names}
use Rattle.jani_instance.specs.Initial.{condition_from, table_in, one_seen}
use Rattle.jani_instance.specs.Views.{Setting, members_seen, groups_of, transient_value, values_at}
use Rattle.jani_instance.specs.declared.data.Element.{Element}
use Rattle.jani_instance.specs.declared.data.InitialLocations.{InitialLocations}
use Rattle.jani_instance.specs.declared.data.Vector.{Vector}
use Rattle.jani_instance.specs.declared.data.Transient.{Transient}

-- the groups of elements and vectors, of which the choices are made
abbrev pub groups_at : Moment → List Group
groups_at k = element_groups (map (λ r. no_reward) k.rewards) k.vectors k.elements

abbrev pub no_rewards : List (Transient ExprId) → List Sum
no_rewards ts = map (λ t. no_reward) ts

-- What a state has, where the instance is this one.
module _ (file : File) (v : Valuation) (k : Setting) (vectors : List Vector) (n : ℕ) (transients : List (Transient ExprId)) where
  pub record IsRight : Type 0 where
    pub groups : groups_of (no_rewards (drop n transients)) (members_seen k) vectors ≡ map trimmed_group (groups_at (moment file v k.values))
    pub labels : map (transient_value k) (take n transients) ≡ map computed (moment file v k.values).labels
    pub rewards : map (transient_value k) (drop n transients) ≡ map computed (moment file v k.values).rewards

  pub IsRight-prop : IsProp IsRight
  IsRight-prop = hlevel (one_answers, one_groups)

-- No fault; the columns of the file; how many elements and labels, and the names of the marks; whether there is an initial condition;
-- and what each state has, the condition among it.
module _ (file : File) (given : List Given) (store : ExprStore JaniOp) (constants : List (Option Value)) (columns : List Column)
    (elements : List Element) (vectors : List Vector) (n : ℕ) (transients : List (Transient ExprId))
    (places : NameMap Place) (initial : List InitialLocations) (conditional : Bool) where
  abbrev pub setting_in : Values → Setting
  setting_in s = record { store = store; constants = constants; columns = columns; elements = elements; values = s }

  pub record IsSound : Type 0 where
    pub faultless : instance_faults (scene file (given_by given)) ≡ []
    pub begin : BeginRight (columns_of file (given_by given))
    pub columns_are : map column_of columns ≡ columns_of file (given_by given)
    pub elements_are : length elements ≡ length (element_names file)
    pub labels_are : n ≡ length (labels file)
    pub names_are : map (λ t. t.name.now) transients ≡ mark_names file
    pub condition_is : conditional ≡ has_condition file
    pub condition : (s : Values) → IsTrue (is_state (columns_of file (given_by given)) s) →
        condition_from file.restrict (map table_in initial) (known_names (values_at s places constants)) s ≡ (moment file (given_by given) s).condition
    pub right : (s : Values) → IsTrue (is_state (columns_of file (given_by given)) s) → IsRight file (given_by given) (setting_in s) vectors n transients

  -- it can be told in one way only
  pub IsSound-prop : IsProp IsSound
  IsSound-prop = hlevel (one_columns, one_faults, one_names, one_number, one_truth, one_seen, IsRight-prop)
