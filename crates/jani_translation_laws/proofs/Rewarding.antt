-- What labels and reward structures are given has their types.
use Rattle.std.specs.Prelude.{◌≡◌, List, [], ◌∷◌, map, Bool, true, not, Option, Some, None}
use Rattle.std.specs.List.{flat_map, filter, zip, AllByRecursion as Each}
use Rattle.std.proofs.Common.{refl, ap, ap₂, ◌∙◌}
use Rattle.basics.specs.Lists.{append_both}
use Rattle.basics.specs.Each.{each_join, each_filter}
use Rattle.bridge_io.specs.declared.reason.Reason.TheVariants.{ForeignWrite}
use Rattle.op_trees.specs.declared.tree.Ty.{Ty}
use Rattle.op_trees.specs.declared.tree.Ty.TheVariants as T
use Rattle.op_trees.specs.Tree.{Two}
use Rattle.op_trees.specs.Types.{type_in, sort_two, sort_three}
use Rattle.prism_tree.specs.declared.syntax.ItemOn.{ItemOn}
use Rattle.prism_tree.specs.Syntax as prism
use Rattle.prism_check.specs.Flattened.{IsFlat}
use Rattle.jani_table.specs.declared.operator.JaniOp.TheVariants.{Add, Ite}
use Rattle.jani_table.specs.Operators.{jani_meaning}
use Rattle.jani_tree.specs.Syntax.{Expression, Var, number, Write}
use Rattle.name_rules.specs.Least.{fault_if}
use Rattle.jani_check.specs.Things.{var_thing, global_thing, types_by, is_constant, is_transient}
use Rattle.jani_check.specs.Demands.{assigned, given}
use Rattle.op_trees.specs.Wanted.{is_wanted, wanted_by}
use Rattle.jani_check.specs.TypeFaults.{type_faults_of, wanted_at, demand_faults}
use Rattle.jani_translation.specs.Entry.{Entry}
use Rattle.jani_translation.specs.Asks.{new_names}
use Rattle.jani_translation.specs.Parts.{made, label, instead_if}
use Rattle.jani_translation.specs.Automata.{item_value, sum_behind, sum_to, reward_of, rewards_of, label_value}
use Rattle.jani_translation.specs.Translated.{translated}
use Rattle.jani_translation_laws.proofs.Alike.{structure_name}
use Rattle.jani_translation_laws.proofs.Expressions.{image_type, image_fits, no_faults_of}
use Rattle.jani_translation_laws.proofs.Sources.{IsFineLabel, IsFineItem, labels_fine, rewards_fine}
use Rattle.jani_translation_laws.proofs.Transients.{labels_stand, structures_stand}

-- a reward structure, as a thing
abbrev pub reward_var : Var
reward_var = record { name = made []; kind = number; kind_at = 0; transient = true; start = None; note = None }

-- ---- types of numbers
abbrev pub IsNumber : Ty → Type 0
IsNumber t = is_wanted (wanted_by T.Real) t ≡ true

record IteTyped (g v : Option Ty) : Type 0 where
  ty : Ty
  is : sort_three jani_meaning Ite g v (Some T.Int) ≡ Some ty
  number : IsNumber ty

ite_typed : (g v : Option Ty) (a b : Ty) → g ≡ Some a → v ≡ Some b → is_wanted (wanted_by T.Bool) a ≡ true → IsNumber b → IteTyped g v
ite_typed g v T.Bool T.Int p q h k = record { ty = T.Int; is = ap₂ (λ x y. sort_three jani_meaning Ite x y (Some T.Int)) p q; number = refl }
ite_typed g v T.Bool T.Real p q h k = record { ty = T.Real; is = ap₂ (λ x y. sort_three jani_meaning Ite x y (Some T.Int)) p q; number = refl }
ite_typed g v T.Bool T.Bool p q h k = absurd cc
ite_typed g v T.Int b p q h k = absurd cc
ite_typed g v T.Real b p q h k = absurd cc

record AddTyped (a b : Option Ty) : Type 0 where
  ty : Ty
  is : sort_two jani_meaning Add a b ≡ Some ty
  number : IsNumber ty

add_typed : (x y : Option Ty) (a b : Ty) → x ≡ Some a → y ≡ Some b → IsNumber a → IsNumber b → AddTyped x y
add_typed x y T.Int T.Int p q h k = record { ty = T.Int; is = ap₂ (sort_two jani_meaning Add) p q; number = refl }
add_typed x y T.Int T.Real p q h k = record { ty = T.Real; is = ap₂ (sort_two jani_meaning Add) p q; number = refl }
add_typed x y T.Real T.Int p q h k = record { ty = T.Real; is = ap₂ (sort_two jani_meaning Add) p q; number = refl }
add_typed x y T.Real T.Real p q h k = record { ty = T.Real; is = ap₂ (sort_two jani_meaning Add) p q; number = refl }
add_typed x y T.Bool b p q h k = absurd cc
add_typed x y T.Int T.Bool p q h k = absurd cc
add_typed x y T.Real T.Bool p q h k = absurd cc

module _ (file : prism.File) (flat : IsFlat file) where
  pub record Numeric (e : Expression) : Type 0 where
    pub ty : Ty
    pub is : type_in jani_meaning (types_by (global_thing (translated file))) e ≡ Some ty
    pub number : IsNumber ty

  item_numeric : (i : prism.Item) → IsFineItem file flat i → Numeric (item_value (new_names file) i)
  item_numeric i h =
      let r = ite_typed _ _ h.0.ty h.1.ty (image_type file flat i.guard h.0.ty h.0.is) (image_type file flat i.value h.1.ty h.1.is)
      h.0.wanted h.1.wanted in
      record { ty = r.ty; is = r.is; number = r.number }

  sum_numeric : (e : Expression) (is : List prism.Item) → Numeric e → Each (IsFineItem file flat) is → Numeric (sum_behind (new_names file) e is)
  sum_numeric e [] n h = n
  sum_numeric e (i ∷ is) n h =
      let m = item_numeric i h.0 in
      let r = add_typed _ _ n.ty m.ty n.is m.is n.number m.number in
      sum_numeric (Two 0 Add e (item_value (new_names file) i)) is (record { ty = r.ty; is = r.is; number = r.number }) h.1

  -- ---- what is given to reward structures
  abbrev pub IsReward : Write → Type 0
  IsReward w = (global_thing (translated file) w.target.name ≡ Some (var_thing reward_var)) × Numeric w.value

  sum_is : (r : prism.Rewards) (e : Entry) (is : List prism.Item) → global_thing (translated file) e.name ≡ Some (var_thing reward_var) → Each (IsFineItem file flat) is →
      Each IsReward (sum_to (new_names file) (instead_if r.name e.name) is)
  sum_is r e [] s h = tt
  sum_is r e (i ∷ is) s h = ((ap (global_thing (translated file)) (structure_name r e) ∙ s, sum_numeric (item_value (new_names file) i) is (item_numeric i h.0) h.1), tt)

  rewards_are : (wanted : ItemOn → Bool) (rs : List prism.Rewards) (es : List Entry) → Each (λ p. global_thing (translated file) p.1.name ≡ Some (var_thing reward_var)) (zip rs es) →
      Each (λ r. Each (IsFineItem file flat) r.items) rs → Each IsReward (flat_map (λ p. reward_of (new_names file) wanted p.0 p.1) (zip rs es))
  rewards_are wanted [] es s h = tt
  rewards_are wanted (r ∷ rs) [] s h = tt
  rewards_are wanted (r ∷ rs) (e ∷ es) s h =
      each_join IsReward (reward_of (new_names file) wanted r e) _
      (sum_is r e (filter (λ i. wanted i.on) r.items) s.0 (each_filter (IsFineItem file flat) (λ i. wanted i.on) r.items h.0))
      (rewards_are wanted rs es s.1 h.1)

  pub rewards_given : (wanted : ItemOn → Bool) → Each IsReward (rewards_of (new_names file) wanted file.rewards)
  rewards_given wanted = rewards_are wanted file.rewards (new_names file).rewards (structures_stand file) (rewards_fine file flat)

  -- ---- the demands that come of it
  given_by : (t : Ty) (w : Write) (k : Var) → global_thing (translated file) w.target.name ≡ Some (var_thing k) → is_transient (Some (var_thing k)) ≡ true →
      wanted_at (Some (var_thing k)) ≡ wanted_by t → type_faults_of (types_by (global_thing (translated file))) (wanted_by t) w.value ≡ [] →
      demand_faults (global_thing (translated file)) (given w) ≡ []
  given_by t w k s a b f =
      append_both (fault_if (not (is_transient (global_thing (translated file) w.target.name))) w.target.at ForeignWrite) _
      (ap (λ b. fault_if (not b) w.target.at ForeignWrite) (ap is_transient s ∙ a))
      (ap (λ u. type_faults_of (types_by (global_thing (translated file))) u w.value) (ap wanted_at s ∙ b) ∙ f)

  pub reward_given : (w : Write) → IsReward w → demand_faults (global_thing (translated file)) (given w) ≡ []
  reward_given w h = given_by T.Real w reward_var h.0 refl refl (no_faults_of file flat T.Real h.1.ty w.value h.1.is h.1.number)

  pub reward_assigned : (w : Write) → IsReward w → demand_faults (global_thing (translated file)) (assigned w) ≡ []
  reward_assigned w h =
      append_both (fault_if (is_constant (global_thing (translated file) w.target.name)) w.target.at ForeignWrite) _
      (ap (λ b. fault_if b w.target.at ForeignWrite) (ap is_constant h.0))
      (ap (λ u. type_faults_of (types_by (global_thing (translated file))) u w.value) (ap wanted_at h.0) ∙ no_faults_of file flat T.Real h.1.ty w.value h.1.is h.1.number)

  labels_clean : (ls : List prism.Label) (es : List Entry) → Each (λ p. global_thing (translated file) p.1.name ≡ Some (var_thing (label p.0 p.1))) (zip ls es) → Each (IsFineLabel file flat) ls →
      flat_map (demand_faults (global_thing (translated file))) (map given (map (λ p. label_value (new_names file) p.0 p.1) (zip ls es))) ≡ []
  labels_clean [] es s h = refl
  labels_clean (l ∷ ls) [] s h = refl
  labels_clean (l ∷ ls) (e ∷ es) s h =
      append_both (demand_faults (global_thing (translated file)) (given (label_value (new_names file) l e))) _
      (given_by T.Bool (label_value (new_names file) l e) (label l e) s.0 refl refl (image_fits file flat T.Bool l.body h.0)) (labels_clean ls es s.1 h.1)

  pub location_labels_clean : flat_map (demand_faults (global_thing (translated file))) (map given (map (λ p. label_value (new_names file) p.0 p.1) (zip file.labels (new_names file).labels))) ≡ []
  location_labels_clean = labels_clean file.labels (new_names file).labels (labels_stand file) (labels_fine file flat)
