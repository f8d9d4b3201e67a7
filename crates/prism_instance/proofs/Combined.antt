-- A network that is built of a file is what the file is under the given constants.
use Rattle.std.proofs.Common.{◌≡◌, ◌∙◌, ℕ, List, [], ◌∷◌, ◌++◌, map, length, ◌||◌, Option, Some, None, refl, sym, ap, ap₂, append-nil}
use Rattle.std.specs.Prelude.{bytes_eq}
use Rattle.std.specs.List.{flat_map, list_any}
use Rattle.std.specs.Option.{option_map}
use Rattle.std.proofs.Math.Bool.{or-false}
use Rattle.std.proofs.lemmas.List.Folds.{flat_map-map}
use Rattle.basics.specs.Lists.{map_agree}
use Rattle.basics.specs.Members.{any-map}
use Rattle.basics.specs.Options.{if_some}
use Rattle.op_trees.specs.Seen.{Seen, known_names}
use Rattle.process_core.specs.Bounds.{summed}
use Rattle.process_core.specs.Choices.{number_of, truth_of}
use Rattle.process_core.specs.Instance.{Column, Valuation}
use Rattle.process_core.specs.Product.{map-map}
use Rattle.process_core.specs.Ready.{Name, Ready, Sum, Values, actions_of, firsts, of_modules}
use Rattle.process_core.specs.declared.data.Mark.TheVariants.{Truth, Number}
use Rattle.state_choices.specs.Groups.{Group, of_groups}
use Rattle.state_choices.specs.Trimmed.{trimmed_combination, trimmed_group}
use Rattle.state_choices.proofs.ComputedParts.{same_group}
use Rattle.instance_start.specs.Columns.{column_of, value_at}
use Rattle.instance_start.specs.Numbered.{by_number, with_value}
use Rattle.instance_start.specs.declared.data.Place.{Place}
use Rattle.instance_start.proofs.Numbered.{by_seen}
use Rattle.expr_store.specs.Alike.{alike_here}
use Rattle.expr_store.specs.declared.node.ExprId.{ExprId}
use Rattle.prism_tree.specs.Operators.{prism_meaning}
use Rattle.prism_tree.specs.Syntax.{Command, File, Rewards}
use Rattle.prism_tree.specs.declared.operator.PrismOp.{PrismOp}
use Rattle.prism_names.specs.Names.{see, unchanged}
use Rattle.prism_flat.specs.Scene.{columns_of, has_condition, scene}
use Rattle.prism_flat.specs.Moment.{action_of, condition_seen, item_at, moment, names_in}
use Rattle.prism_flat.specs.Process.{choice_rewards, combinations, has_wide_mark, is_for_choices, marks, state_reward}
use Rattle.prism_check.specs.Kept.{IsWrittenOut}
use Rattle.network.specs.Combined.{Site, member_by, module_links}
use Rattle.network.specs.Network.{condition_at, groups_at, has_wide_mark_at, marks_at, setting_in}
use Rattle.network.specs.Views.{Member, all_begin, component_at, condition_by, earned_at, guard_as, look_at, own_or, silent_group, sum_at, sums_at, value_by, vector_group}
use Rattle.network.specs.Views as views
use Rattle.network.specs.declared.network.Network.{Network}
use Rattle.network.specs.declared.data.Valued.{Valued}
use Rattle.network.proofs.Combined.{modules_combined}
use Rattle.prism_instance.specs.Shapes.{acting, bodies, command_under, earned, earned_in_states, earnings, item_under, sum_under}
use Rattle.prism_instance.proofs.Earned.{by_structure}
use Rattle.prism_instance.proofs.Rewards.{sums_are}
use Rattle.prism_instance.proofs.Whole.{as_long, marks_are, modules_are}
use Rattle.prism_instance.specs.Described.{mark_names}
use Rattle.network.specs.Sound.{IsSound}
use Rattle.prism_instance.specs.Outline.{outline}
use Rattle.prism_instance.specs.Built.{IsBuilt}
use Rattle.prism_instance.specs.Sites.{Linked, acts_of, linked_at, linked_under, links_among, member_under, site_under, sorted}
use Rattle.prism_instance.proofs.Sites.{all_cover, links_are, members_are}

-- ---- at a state whose names are seen so
module _ (cs : List Column) (names : Name → Seen) where
  abbrev at_state : List Command → List Ready
  at_state m = map (command_under cs names) m

  acting_are : (ms : List (List Command)) → acting ms ≡ actions_of (map at_state ms)
  acting_are ms = ap (firsts bytes_eq) (each ms)
    where
      each : (ms : List (List Command)) → flat_map (λ m. flat_map (λ c. if_some (action_of unchanged c)) m) ms ≡ flat_map (λ m. flat_map (λ r. if_some r.action) m) (map at_state ms)
      each [] = refl
      each (m ∷ ms) = ap₂ (λ x l. x ++ l) (sym (flat_map-map (λ (r : Ready). if_some r.action) (command_under cs names) m)) (each ms)

  sites_are : (ms : List (List Command)) → map (λ (x : Site). x.edges) (map (site_under cs names) ms) ≡ map at_state ms
  sites_are [] = refl
  sites_are (m ∷ ms) = ap (λ l. at_state m ∷ l) (sites_are ms)

  rewards_are : (rewards : List Rewards) (n : ℕ) → n ≡ length rewards → (label : Option Name) →
      map summed (by_number n (map (λ e. with_value (item_under names) e) (earnings rewards label))) ≡ choice_rewards (map (λ r. map (item_at names) r.items) rewards) label
  rewards_are rewards n e label =
      ap (map summed) (by_seen (item_under names) n (earnings rewards label) ∙ ap (map (map (item_under names))) (by_structure label rewards n (earnings rewards label) e refl))
      ∙ map-map summed (map (item_under names)) (earned rewards label)
      ∙ sums_are names (is_for_choices label) rewards

-- a group of what is linked
abbrev linked_group : List Member → Linked → Group
linked_group ms k = record { label = k.label; rewards = k.rewards; lists = map (views.part_at ms) k.links }

module _ (file : File) (v : Valuation) (n : Network PrismOp) (places : Name → Option Place) (built : IsBuilt file places n) (w : IsWrittenOut file)
    (columns : map column_of n.columns.items ≡ columns_of file v) (s : Values)
    (named : known_names (λ x. value_at s n.constants.items (places x)) ≡ names_in file v s unchanged) where
  abbrev look : ExprId → Seen
  look = look_at prism_meaning (setting_in n s)

  abbrev names : Name → Seen
  names = names_in file v s unchanged

  abbrev cs : List Column
  cs = map column_of n.columns.items

  abbrev ms : List (List Command)
  ms = bodies file.modules

  abbrev sites : List Site
  sites = map (site_under cs names) ms

  abbrev rewards : Option Name → List Sum
  rewards = choice_rewards (moment file v s).rewards

  abbrev shared : List Sum
  shared = sums_at look n.rewards n.silent.items

  abbrev members : List Member
  members = map (λ c. component_at cs look s c) n.components.items

  members_at : members ≡ map member_by sites
  members_at =
      alike_here (λ look. map (λ c. component_at cs look s c) n.components.items) (λ seen. map (λ k. member_under cs seen k) (map sorted ms)) (built.components s) (value_at s n.constants.items)
      ∙ ap (λ seen. map (λ k. member_under cs seen k) (map sorted ms)) named
      ∙ members_are cs names ms

  shared_is : shared ≡ rewards None
  shared_is =
      ap (λ l. map summed (by_number n.rewards l))
      (alike_here (λ look. map (λ e. earned_at look e) n.silent.items) (λ seen. map (λ e. with_value (item_under seen) e) (earnings file.rewards None)) built.silent (value_at s n.constants.items)
      ∙ ap (λ seen. map (λ e. with_value (item_under seen) e) (earnings file.rewards None)) named)
      ∙ rewards_are cs names file.rewards n.rewards built.counted None

  vectors_at : map (λ v. linked_at look n.rewards shared v) n.vectors.items ≡ map (λ a. linked_under names n.rewards file.rewards (λ x. links_among x (map acts_of ms)) a) (acting ms)
  vectors_at =
      alike_here (λ look'. map (λ v. linked_at look' n.rewards shared v) n.vectors.items)
      (λ seen. map (λ a. linked_under seen n.rewards file.rewards (λ x. links_among x (map acts_of ms)) a) (acting ms)) (built.vectors shared) (value_at s n.constants.items)
      ∙ ap (λ seen. map (λ a. linked_under seen n.rewards file.rewards (λ x. links_among x (map acts_of ms)) a) (acting ms)) named

  abbrev by_action : Name → Group
  by_action a = record { label = Some a; rewards = rewards (Some a); lists = map (views.part_at (map member_by sites)) (module_links a 0 sites) }

  action_at : (a : Name) → linked_group (map member_by sites) (linked_under names n.rewards file.rewards (λ x. links_among x (map acts_of ms)) a) ≡ by_action a
  action_at a =
      same_group (Some a) _ _ _ _ (rewards_are cs names file.rewards n.rewards built.counted (Some a)) (ap (map (views.part_at (map member_by sites))) (links_are cs names a 0 ms))

  groups_are : groups_at prism_meaning n s ≡ map (silent_group (rewards None)) (map member_by sites) ++ map by_action (actions_of (map (λ (x : Site). x.edges) sites))
  groups_are =
      ap₂ (λ l m. l ++ m) (ap₂ (λ r l. map (silent_group r) l) shared_is members_at)
      (sym (map-map (linked_group members) (λ v. linked_at look n.rewards shared v) n.vectors.items)
      ∙ ap₂ (λ l k. map (linked_group l) k) members_at vectors_at
      ∙ map-map (linked_group (map member_by sites)) (λ a. linked_under names n.rewards file.rewards (λ x. links_among x (map acts_of ms)) a) (acting ms)
      ∙ map_agree _ _ action_at (acting ms)
      ∙ ap (map by_action) (acting_are cs names ms ∙ ap actions_of (sym (sites_are cs names ms))))

  pub combined_is : of_groups (map trimmed_group (groups_at prism_meaning n s)) ≡ map trimmed_combination (combinations (moment file v s))
  combined_is =
      ap (λ gs. of_groups (map trimmed_group gs)) groups_are
      ∙ modules_combined sites (all_cover cs names ms) rewards
      ∙ ap (λ l. map trimmed_combination (of_modules rewards l))
      (sites_are cs names ms ∙ ap (λ k. map (map (command_under k names)) ms) columns ∙ modules_are file v s file.modules w.modules)

  -- ---- marks
  labels_at : map (λ l. value_by look s l) n.labels.items ≡ map (λ l. see l.body names) file.labels
  labels_at =
      alike_here (λ look. map (λ l. value_by look s l) n.labels.items) (λ seen. map (λ l. see l.body seen) file.labels) (built.labelled s) (value_at s n.constants.items)
      ∙ ap (λ seen. map (λ l. see l.body seen) file.labels) named

  sums_at_state : map (λ is. sum_at look is.items) n.sums.items ≡ map state_reward (moment file v s).rewards
  sums_at_state =
      alike_here (λ look. map (λ is. sum_at look is.items) n.sums.items) (λ seen. map (λ is. sum_under seen is) (earned_in_states file.rewards)) built.summed (value_at s n.constants.items)
      ∙ ap (λ seen. map (λ is. sum_under seen is) (earned_in_states file.rewards)) named
      ∙ marks_are file v s names refl

  pub marked_is : marks_at prism_meaning n s ≡ marks (moment file v s)
  marked_is =
      ap₂ (λ a b. a ++ b)
      (sym (map-map (λ (x : Seen). Truth (truth_of x.value)) (λ l. value_by look s l) n.labels.items) ∙ ap (map (λ (x : Seen). Truth (truth_of x.value))) labels_at)
      (ap (λ l. map (λ is. Number (sum_at look is.items).value) n.sums.items ++ map (λ (t : Valued). Number (number_of (value_by look s t).value)) l) built.structures
      ∙ append-nil _
      ∙ sym (map-map (λ (x : Sum). Number x.value) (λ is. sum_at look is.items) n.sums.items) ∙ ap (map (λ (x : Sum). Number x.value)) sums_at_state
      ∙ map-map (λ (x : Sum). Number x.value) state_reward (moment file v s).rewards)

  pub wide_is : has_wide_mark_at prism_meaning n s ≡ has_wide_mark (moment file v s)
  wide_is =
      ap₂ (λ a b. a || b)
      (sym (any-map (λ (x : Seen). x.wide) (λ l. value_by look s l) n.labels.items) ∙ ap (list_any (λ (x : Seen). x.wide)) labels_at)
      (ap (λ l. list_any (λ is. (sum_at look is.items).wide) n.sums.items || list_any (λ t. (value_by look s t).wide) l) built.structures
      ∙ or-false _
      ∙ sym (any-map (λ (x : Sum). x.wide) (λ is. sum_at look is.items) n.sums.items) ∙ ap (list_any (λ (x : Sum). x.wide)) sums_at_state
      ∙ any-map (λ (x : Sum). x.wide) state_reward (moment file v s).rewards)

  -- ---- the initial condition
  pub condition_is : condition_at prism_meaning n s ≡ (moment file v s).condition
  condition_is =
      ap (λ l. condition_by look s l n.condition) built.starts
      ∙ alike_here (λ look. guard_as (option_map look n.condition)) (λ seen. condition_seen seen file.init) built.condition (value_at s n.constants.items)
      ∙ ap (λ seen. condition_seen seen file.init) named

-- ---- the whole
pub sound_is : (file : File) (v : Valuation) (n : Network PrismOp) (places : Name → Option Place) → IsBuilt file places n → IsWrittenOut file → map column_of n.columns.items ≡ columns_of file v →
    ((s : Values) → length s ≡ length n.columns.items → known_names (λ x. value_at s n.constants.items (places x)) ≡ names_in file v s unchanged) →
    n.texts ≡ map (λ c. c.name) (scene file v).columns → map (λ x. x.now) n.marks.items ≡ mark_names file → n.has_condition ≡ has_condition file →
    IsSound prism_meaning (outline file v) n
sound_is file v n places built w columns named texts marked conditional = record {
  texts = texts;
  marks = marked;
  labels = built.labels;
  columns = columns;
  conditional = conditional;
  condition = λ s h. condition_is file v n places built w columns s (named s (as_long n.columns.items (columns_of file v) s columns h));
  combined = λ s h. combined_is file v n places built w columns s (named s (as_long n.columns.items (columns_of file v) s columns h));
  marked = λ s h. marked_is file v n places built w columns s (named s (as_long n.columns.items (columns_of file v) s columns h));
  wide = λ s h. wide_is file v n places built w columns s (named s (as_long n.columns.items (columns_of file v) s columns h));
}
