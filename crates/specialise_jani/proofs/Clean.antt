-- A specialised file of the profile is of the profile.
use Rattle.std.specs.Prelude.{◌≡◌, List, [], ◌∷◌, ◌++◌, map, Bool, true, false, not, ◌||◌, Option, Some, None, IsTrue, is_some, if◌then◌else◌}
use Rattle.std.specs.List.{find, flat_map, list_any, AllByRecursion as Each}
use Rattle.std.specs.Option.{option_map, option_or as option_else}
use Rattle.std.proofs.Common.{refl, sym, subst, ap, ap₂, ◌∙◌}
use Rattle.std.proofs.lemmas.Bool.{not-false}
use Rattle.basics.specs.Options.{IfAny, has_some, if_some}
use Rattle.basics.specs.Booleans.{first_false, second_false}
use Rattle.basics.specs.Lists.{append_both, append_left, append_parts, append_right, empty_map, IsNotEmpty as HasItems}
use Rattle.basics.specs.Mapped.{found_mapped, kept_mapped, walked}
use Rattle.basics.specs.Each.{each_empty, each_found, each_join, each_map, each_none, each_of, each_parts, each_then, each_with, empty_each, map_each, none_each}
use Rattle.bridge_io.specs.declared.reason.Reason.TheVariants.{BranchReward, ForeignWrite, LabelOnEdge, NotConstant, TransientInitial, TransientRead, Unknown, WrongType}
use Rattle.op_trees.specs.declared.tree.Ty.{Ty}
use Rattle.op_trees.specs.declared.tree.Ty.TheVariants as T
use Rattle.op_trees.specs.declared.tree.Value.{Value}
use Rattle.op_trees.specs.declared.wanted.Wanted.{Wanted}
use Rattle.op_trees.specs.declared.wanted.Wanted.TheVariants as W
use Rattle.op_trees.specs.Tree.{Truth, Number, bare}
use Rattle.op_trees.specs.Names.{is_called, names_of, offset_of, some_name}
use Rattle.op_trees.specs.Operators.{fits_some}
use Rattle.op_trees.specs.Types.{fits, has_type, misfits, type_in, Types}
use Rattle.op_trees.specs.TypeLaws.{misfits_none}
use Rattle.op_trees.specs.Wanted.{is_unwanted, is_wanted, wanted_by}
use Rattle.name_rules.specs.Circles.{circles as circles_of}
use Rattle.name_rules.specs.Least.{fault, fault_if, or_else}
use Rattle.name_rules.specs.Names.{Name, is_among}
use Rattle.name_rules.specs.Unknown.{unless_known}
use Rattle.name_rules.proofs.Plain.{fault_none, no_fault}
use Rattle.process_core.specs.Product.{map-map}
use Rattle.process_core.specs.Instance.{Valuation}
use Rattle.jani_table.specs.declared.operator.JaniOp.{JaniOp}
use Rattle.jani_table.specs.Operators.{jani_meaning}
use Rattle.jani_table.specs.OperatorLaws.{jani_lawful}
use Rattle.jani_tree.specs.Syntax.{Expression, is_always, Const, Var, Write, Destination, Edge, Automaton, File, element_names}
use Rattle.jani_tree.specs.Form.{AutomatonRead, ExprForm, IsShortName}
use Rattle.jani_tree.proofs.Literals.{literals}
use Rattle.jani_check.specs.declared.things.Thing.{Thing}
use Rattle.jani_check.specs.Things.{beside, const_called, const_thing, global_thing, is_constant, is_label, is_reward, is_transient, kind_type, thing_type, types_by, var_called, var_thing}
use Rattle.jani_check.specs.Demands.{Demand, assigned, automaton_demands, const_demands, fixed, given, outer_demands, var_demands, varying}
use Rattle.jani_check.specs.NameFaults.{automaton_names, circles, composition_faults, doubled_names, global_names, name_faults, unknown_by, unknown_enabled, unknown_in, unknown_names, unknown_within, var_names, vector_actions}
use Rattle.jani_check.specs.TypeFaults.{automaton_faults, clashing_writes, demand_faults, has_variable, is_variable, repeated_writes, type_faults, type_faults_of, var_faults, wanted_at}
use Rattle.jani_check.specs.ProfileFaults.{automaton_profile, branch_rewards, demand_profile, differ, first_fault, given_after, is_first, lacks, profile_faults, reads, rewards_by, same_tree, some_differ, start_faults, two_writers, value_for}
use Rattle.jani_check.specs.Faults.{IsChecked, faults}
use Rattle.jani_check.proofs.SameRewards.{decided, same_forth}
use Rattle.constant_folding.specs.Constants.{AnyConst, called, declared}
use Rattle.constant_folding.specs.Known.{Known}
use Rattle.constant_folding.specs.Kept.{AreTyped, GivesTypes}
use Rattle.constant_folding.specs.Unfit.{AreFitting}
use Rattle.constant_folding.proofs.Fits.{fits_refl, fitting_wanted, own_wanted}
use Rattle.constant_folding.proofs.Kept.{fold_names_no_more}
use Rattle.constant_folding.proofs.KnownTypes as known_types
use Rattle.constant_folding.proofs.KnownTypes.{HasWanted}
use Rattle.constant_folding.proofs.Listed.{const_uses_less, folded_names, named_fine, nameless}
use Rattle.constant_folding.proofs.Places.{fold_keeps_places}
use Rattle.constant_folding.proofs.Typed.{fold_is_typed}
use Rattle.constant_folding.proofs.Uncircled.{circles_less}
use Rattle.specialise_jani.specs.Literal.{jani_literal}
use Rattle.specialise_jani.specs.LiteralLaws.{jani_literals, jani_monotone}
use Rattle.specialise_jani.specs.Specialised.{any_const, any_constants, folded, folded_automaton, folded_destination, folded_edge, folded_restriction, folded_var, folded_write, known_constants, specialised, specialised_const}
use Rattle.specialise_jani.specs.Clean.{SpecialisedIsClean, SpecialisedIsShort}
use Rattle.specialise_jani.proofs.ConstantLaws.{own_const}
use Rattle.specialise_jani.proofs.Demanding.{HasForm, automaton_form, consts_carried, folded_demand, in_automaton, in_vars, outer_form}
use Rattle.specialise_jani.proofs.Formed.{specialised_formed}
use Rattle.specialise_jani.proofs.Once.{any_own, any_uncircled, circles_same, composed, no_profile, no_types, none_unknown, once_here}
use Rattle.specialise_jani.proofs.Same.{automata_same, beside_same, clashes_same, doubled_same, given_after_same, globals_same, kind_same, repeats_same, things_same, var_faults_same, var_names_same, within_same, writers_same}

-- the type of an expression without a fault
typed_of : (ty : Types) (w : Wanted) (e : Expression) → type_faults_of ty w e ≡ [] → (t : Ty) × (type_in jani_meaning ty e ≡ Some t) × (is_unwanted w (Some t) ≡ false)
typed_of ty w e h =
    let t = type_in jani_meaning ty e in
    let r = append_parts (map (λ at. fault at WrongType) (misfits jani_meaning ty e)) (fault_if (is_unwanted w t) (offset_of e) WrongType) h in
    let s = has_some t ((misfits_none jani_meaning ty e).0 (empty_map (λ at. fault at WrongType) (misfits jani_meaning ty e) r.0)) in
    (s.0, s.1, sym (ap (is_unwanted w) s.1) ∙ no_fault (is_unwanted w t) (offset_of e) WrongType r.1)

typed_fine : (ty : Types) (w : Wanted) (e : Expression) (a u : Ty) → type_in jani_meaning ty e ≡ Some u → IsTrue (fits u a) → is_unwanted w (Some a) ≡ false → type_faults_of ty w e ≡ []
typed_fine ty w e a u is f h =
    append_both (map (λ at. fault at WrongType) (misfits jani_meaning ty e)) (fault_if (is_unwanted w (type_in jani_meaning ty e)) (offset_of e) WrongType)
    (ap (map (λ at. fault at WrongType)) ((misfits_none jani_meaning ty e).1 (subst (λ o. IsTrue (is_some o)) (sym is) refl)))
    (fault_none (is_unwanted w (type_in jani_meaning ty e)) (offset_of e) WrongType (ap (is_unwanted w) is ∙ fitting_wanted w u a f h))

-- ---- demands by what is known and what names stand for
record IsFine (known : Name → Bool) (things : Name → Option Thing) (d : Demand) : Type 0 where
  names : unknown_by known d ≡ []
  types : demand_faults things d ≡ []
  profile : demand_profile things d ≡ []

record IsSound (known : Name → Bool) (things : Name → Option Thing) (d : Demand) : Type 0 where
  fine : IsFine known things d
  form : HasForm d

module _ (known : Name → Bool) (things : Name → Option Thing) where
  all_fine : (ds : List Demand) → flat_map (unknown_by known) ds ≡ [] → flat_map (demand_faults things) ds ≡ [] → flat_map (demand_profile things) ds ≡ [] →
      Each (IsFine known things) ds
  all_fine ds u j p =
      each_with (λ d. (unknown_by known d ≡ []) × (demand_faults things d ≡ [])) (λ d. demand_profile things d ≡ []) (IsFine known things)
      (λ d h k. record { names = h.0; types = h.1; profile = k }) ds
      (each_with (λ d. unknown_by known d ≡ []) (λ d. demand_faults things d ≡ []) (λ d. (unknown_by known d ≡ []) × (demand_faults things d ≡ [])) (λ d h k. (h, k)) ds
      (empty_each (unknown_by known) ds u) (empty_each (demand_faults things) ds j)) (empty_each (demand_profile things) ds p)

  all_sound : (ds : List Demand) → Each (IsFine known things) ds → Each HasForm ds → Each (IsSound known things) ds
  all_sound = each_with (IsFine known things) HasForm (IsSound known things) (λ d h k. record { fine = h; form = k })

  no_unknown : (ds : List Demand) → Each (IsFine known things) ds → flat_map (unknown_by known) ds ≡ []
  no_unknown ds h = each_empty (unknown_by known) ds (each_then (IsFine known things) (λ d. unknown_by known d ≡ []) (λ d k. k.names) ds h)

  no_misfit : (ds : List Demand) → Each (IsFine known things) ds → flat_map (demand_faults things) ds ≡ []
  no_misfit ds h = each_empty (demand_faults things) ds (each_then (IsFine known things) (λ d. demand_faults things d ≡ []) (λ d k. k.types) ds h)

  no_other : (ds : List Demand) → Each (IsFine known things) ds → flat_map (demand_profile things) ds ≡ []
  no_other ds h = each_empty (demand_profile things) ds (each_then (IsFine known things) (λ d. demand_profile things d ≡ []) (λ d k. k.profile) ds h)

module _ (K : Known) (typed : AreTyped K) where
  -- ---- a demand, folded
  module _ (known : Name → Bool) (things : Name → Option Thing) (gives : GivesTypes K (types_by things)) where
    folded_types : (w : Wanted) (e : Expression) → ExprForm HasItems e → type_faults_of (types_by things) w e ≡ [] → type_faults_of (types_by things) w (folded K e) ≡ []
    folded_types w e p h =
        let t = typed_of (types_by things) w e h in
        by t.0 t.2 (type_in jani_meaning (types_by things) (folded K e)) refl
        (fold_is_typed jani_meaning jani_lawful jani_monotone jani_literal jani_literals K (types_by things) typed gives e (literals e p) t.0 t.1)
      where
        by : (a : Ty) → is_unwanted w (Some a) ≡ false → (o : Option Ty) → type_in jani_meaning (types_by things) (folded K e) ≡ o → IsTrue (fits_some o a) →
            type_faults_of (types_by things) w (folded K e) ≡ []
        by a wanted None is f = cc
        by a wanted (Some u) is f = typed_fine (types_by things) w (folded K e) a u is f wanted

    unknown_less : (e : Expression) → flat_map (unless_known known) (names_of e) ≡ [] → flat_map (unless_known known) (names_of (folded K e)) ≡ []
    unknown_less e h = folded_names jani_meaning jani_literal jani_literals K (λ x. not (known x)) Unknown e h

    reads_less : (e : Expression) → reads things e ≡ [] → reads things (folded K e) ≡ []
    reads_less e h = folded_names jani_meaning jani_literal jani_literals K (λ x. is_transient (things x)) TransientRead e h

    still_constant : (e : Expression) → has_variable things e ≡ false → has_variable things (folded K e) ≡ false
    still_constant e h = fold_names_no_more jani_meaning jani_literal jani_literals K (λ x. is_variable (things x)) e h

    carried : (d : Demand) → IsSound known things d → IsFine known things (folded_demand K d)
    carried (fixed w e) s =
        let r = append_parts (type_faults_of (types_by things) w e) (fault_if (has_variable things e) (offset_of e) NotConstant) s.fine.types in
        record {
          names = unknown_less e s.fine.names;
          types =
              append_both (type_faults_of (types_by things) w (folded K e)) (fault_if (has_variable things (folded K e)) (offset_of (folded K e)) NotConstant)
              (folded_types w e s.form r.0)
              (fault_none (has_variable things (folded K e)) (offset_of (folded K e)) NotConstant (still_constant e (no_fault (has_variable things e) (offset_of e) NotConstant r.1)));
          profile = reads_less e s.fine.profile;
        }
    carried (varying w e) s = record {
      names = unknown_less e s.fine.names;
      types = folded_types w e s.form s.fine.types;
      profile = reads_less e s.fine.profile;
    }
    carried (assigned w) s =
        let t = things w.target.name in
        let n = append_parts (unless_known known w.target) (flat_map (unless_known known) (names_of w.value)) s.fine.names in
        let r = append_parts (fault_if (is_constant t) w.target.at ForeignWrite) (type_faults_of (types_by things) (wanted_at t) w.value) s.fine.types in
        let p = append_parts (fault_if (is_label t) w.target.at LabelOnEdge) (reads things w.value) s.fine.profile in
        record {
          names = append_both (unless_known known w.target) (flat_map (unless_known known) (names_of (folded K w.value))) n.0 (unknown_less w.value n.1);
          types =
              append_both (fault_if (is_constant t) w.target.at ForeignWrite) (type_faults_of (types_by things) (wanted_at t) (folded K w.value)) r.0
              (folded_types (wanted_at t) w.value s.form r.1);
          profile = append_both (fault_if (is_label t) w.target.at LabelOnEdge) (reads things (folded K w.value)) p.0 (reads_less w.value p.1);
        }
    carried (given w) s =
        let t = things w.target.name in
        let n = append_parts (unless_known known w.target) (flat_map (unless_known known) (names_of w.value)) s.fine.names in
        let r = append_parts (fault_if (not (is_transient t)) w.target.at ForeignWrite) (type_faults_of (types_by things) (wanted_at t) w.value) s.fine.types in
        record {
          names = append_both (unless_known known w.target) (flat_map (unless_known known) (names_of (folded K w.value))) n.0 (unknown_less w.value n.1);
          types =
              append_both (fault_if (not (is_transient t)) w.target.at ForeignWrite) (type_faults_of (types_by things) (wanted_at t) (folded K w.value)) r.0
              (folded_types (wanted_at t) w.value s.form r.1);
          profile = reads_less w.value s.fine.profile;
        }

    literal_fine : (y : Value) (ty : Ty) → IsTrue (has_type ty y) → IsFine known things (fixed (wanted_by ty) (jani_literal y ty))
    literal_fine y ty h =
        let e = jani_literal y ty in
        let without : (p : Name → Bool) → some_name p e ≡ false = λ p. nameless jani_meaning jani_literal jani_literals K p y ty in
        record {
          names = named_fine (λ x. not (known x)) Unknown e (without (λ x. not (known x)));
          types =
              append_both (type_faults_of (types_by things) (wanted_by ty) e) (fault_if (has_variable things e) (offset_of e) NotConstant)
              (typed_fine (types_by things) (wanted_by ty) e ty ty (jani_literals.typed y ty (types_by things) h) (fits_refl ty) (own_wanted ty))
              (fault_none (has_variable things e) (offset_of e) NotConstant (without (λ x. is_variable (things x))));
          profile = named_fine (λ x. is_transient (things x)) TransientRead e (without (λ x. is_transient (things x)));
        }

  -- ---- first values of transient variables: literals stay
  first_kept : (t : Ty) (e : Expression) → is_first t e ≡ true → folded K e ≡ e
  first_kept T.Bool (Truth at b) h = refl
  first_kept T.Int (Number at d) h = refl
  first_kept T.Real (Number at d) h = refl
  first_kept t e h = absurd cc

  starts_fine : (x : Var) → start_faults x ≡ [] → start_faults (folded_var K x) ≡ []
  starts_fine x h =
      ap (λ t. if x.transient then flat_map (first_fault t) (if_some (option_map (folded K) x.start)) else []) (kind_same K x.kind) ∙ by x.transient x.start h
    where
      one : (e : Expression) → first_fault (kind_type x.kind) e ≡ [] → first_fault (kind_type x.kind) (folded K e) ≡ []
      one e k =
          ap (first_fault (kind_type x.kind)) (first_kept (kind_type x.kind) e (not-false (is_first (kind_type x.kind) e) (no_fault (not (is_first (kind_type x.kind) e)) (offset_of e) TransientInitial k))) ∙ k

      by : (b : Bool) (o : Option Expression) → (if b then flat_map (first_fault (kind_type x.kind)) (if_some o) else []) ≡ [] →
          (if b then flat_map (first_fault (kind_type x.kind)) (if_some (option_map (folded K) o)) else []) ≡ []
      by false o k = refl
      by true None k = refl
      by true (Some e) k =
          append_both (first_fault (kind_type x.kind) (folded K e)) [] (one e (append_left (first_fault (kind_type x.kind) e) [] k)) refl

  all_starts : (xs : List Var) → flat_map start_faults xs ≡ [] → flat_map start_faults (map (folded_var K) xs) ≡ []
  all_starts xs h =
      each_empty start_faults (map (folded_var K) xs)
      (each_map (λ x. start_faults x ≡ []) (λ x. start_faults x ≡ []) (folded_var K) starts_fine xs (empty_each start_faults xs h))

  -- ---- destinations of one edge: trees that are the same are folded to such
  same_folded : (a b : Expression) → same_tree a b ≡ true → same_tree (folded K a) (folded K b) ≡ true
  same_folded a b h =
      let alike : bare (folded K a) ≡ bare (folded K b) =
      fold_keeps_places jani_meaning jani_literal jani_literals K a ∙ ap (folded K) (same_forth a b h) ∙ sym (fold_keeps_places jani_meaning jani_literal jani_literals K b) in
      sym (decided (folded K a) (folded K b) true ((λ t. alike), (λ e. refl)))

  value_for_same : (us : List Write) (x : Name) → value_for (map (folded_write K) us) x ≡ option_map (folded K) (value_for us x)
  value_for_same us x =
      ap (option_map (λ w. w.value)) (found_mapped (folded_write K) (λ w. is_called x w.target) (λ w. is_called x w.target) (λ w. refl) us) ∙ by (find (λ w. is_called x w.target) us)
    where
      by : (o : Option Write) → option_map (λ w. w.value) (option_map (folded_write K) o) ≡ option_map (folded K) (option_map (λ w. w.value) o)
      by None = refl
      by (Some w) = refl

  still_there : (us : List Write) (w : Write) → lacks (value_for us) w ≡ false → lacks (value_for (map (folded_write K) us)) (folded_write K w) ≡ false
  still_there us w h =
      ap (λ o. not (list_any (same_tree (folded K w.value)) (if_some o))) (value_for_same us w.target.name) ∙ by (value_for us w.target.name) h
    where
      same_alone : (t s : Bool) → (t ≡ true → s ≡ true) → not (t || false) ≡ false → not (s || false) ≡ false
      same_alone true s k h = ap (λ b. not (b || false)) (k refl)
      same_alone false s k h = absurd cc

      by : (o : Option Expression) → not (list_any (same_tree w.value) (if_some o)) ≡ false → not (list_any (same_tree (folded K w.value)) (if_some (option_map (folded K) o))) ≡ false
      by None k = absurd cc
      by (Some e) k = same_alone (same_tree w.value e) (same_tree (folded K w.value) (folded K e)) (same_folded w.value e) k

  module _ (things : Name → Option Thing) where
    lacking : (us ws : List Write) → list_any (lacks (value_for us)) (rewards_by things ws) ≡ false →
        list_any (lacks (value_for (map (folded_write K) us))) (rewards_by things (map (folded_write K) ws)) ≡ false
    lacking us ws h =
        ap (list_any (lacks (value_for (map (folded_write K) us))))
        (kept_mapped (folded_write K) (λ w. is_reward (things w.target.name)) (λ w. is_reward (things w.target.name)) (λ w. refl) ws)
        ∙ each_none (lacks (value_for (map (folded_write K) us))) (map (folded_write K) (rewards_by things ws))
        (each_map (λ w. lacks (value_for us) w ≡ false) (λ w. lacks (value_for (map (folded_write K) us)) w ≡ false) (folded_write K) (still_there us) (rewards_by things ws)
        (none_each (lacks (value_for us)) (rewards_by things ws) h))

    differ_less : (d e : Destination) → differ things d e ≡ false → differ things (folded_destination K d) (folded_destination K e) ≡ false
    differ_less d e h =
        ap₂ (λ a b. a || b)
        (lacking e.writes d.writes (first_false (list_any (lacks (value_for e.writes)) (rewards_by things d.writes)) (list_any (lacks (value_for d.writes)) (rewards_by things e.writes)) h))
        (lacking d.writes e.writes (second_false (list_any (lacks (value_for e.writes)) (rewards_by things d.writes)) (list_any (lacks (value_for d.writes)) (rewards_by things e.writes)) h))

    some_differ_less : (ds : List Destination) → some_differ things ds ≡ false → some_differ things (map (folded_destination K) ds) ≡ false
    some_differ_less [] h = refl
    some_differ_less (d ∷ ds) h =
        ap₂ (λ a b. a || b)
        (each_none (differ things (folded_destination K d)) (map (folded_destination K) ds)
        (each_map (λ e. differ things d e ≡ false) (λ e. differ things (folded_destination K d) e ≡ false) (folded_destination K) (λ e k. differ_less d e k) ds
        (none_each (differ things d) ds (first_false (list_any (differ things d) ds) (some_differ things ds) h))))
        (some_differ_less ds (second_false (list_any (differ things d) ds) (some_differ things ds) h))

    branches_fine : (e : Edge) → branch_rewards things e ≡ [] → branch_rewards things (folded_edge K e) ≡ []
    branches_fine e h =
        fault_none (some_differ things (map (folded_destination K) e.destinations)) e.at BranchReward
        (some_differ_less e.destinations (no_fault (some_differ things e.destinations) e.at BranchReward h))

    all_branches : (es : List Edge) → flat_map (branch_rewards things) es ≡ [] → flat_map (branch_rewards things) (map (folded_edge K) es) ≡ []
    all_branches es h =
        each_empty (branch_rewards things) (map (folded_edge K) es)
        (each_map (λ e. branch_rewards things e ≡ []) (λ e. branch_rewards things e ≡ []) (folded_edge K) branches_fine es (empty_each (branch_rewards things) es h))

  -- ---- automata
  module _ (globals : Name → Bool) (actions : Name → Bool) (global : Name → Option Thing) (gives : GivesTypes K (types_by global)) where
    gives_beside : (own : List Var) → GivesTypes K (types_by (beside global own))
    gives_beside own = record { gives = λ x k h. by x (global x) k.ty (gives.gives x k h) }
      where
        by : (x : Name) (o : Option Thing) (t : Ty) → option_map thing_type o ≡ Some t → option_map thing_type (option_else o (option_map var_thing (var_called own x))) ≡ Some t
        by x None t h = absurd cc
        by x (Some y) t h = h

    record IsFineAutomaton (a : Automaton) : Type 0 where
      names : unknown_in globals actions a ≡ []
      types : automaton_faults global a ≡ []
      profile : automaton_profile global a ≡ []

    automaton_carried : (a : Automaton) → AutomatonRead HasItems a → IsFineAutomaton a → IsFineAutomaton (folded_automaton K a)
    automaton_carried a form h =
        let known = λ (x : Name). globals x || is_among (var_names a.variables) x in
        let things = beside global a.variables in
        let ds = automaton_demands a in
        let n = append_parts (flat_map (unknown_by known) ds) (unknown_within actions a) h.names in
        let t = append_parts (flat_map var_faults a.variables) (flat_map (demand_faults things) ds ++ repeated_writes a) h.types in
        let u = append_parts (flat_map (demand_faults things) ds) (repeated_writes a) t.1 in
        let p = append_parts (flat_map start_faults a.variables) (flat_map (demand_profile things) ds ++ flat_map (branch_rewards things) a.edges) h.profile in
        let q = append_parts (flat_map (demand_profile things) ds) (flat_map (branch_rewards things) a.edges) p.1 in
        let fine : Each (IsFine known things) (automaton_demands (folded_automaton K a)) =
        subst (Each (IsFine known things)) (sym (in_automaton K a))
        (each_map (IsSound known things) (IsFine known things) (folded_demand K) (carried known things (gives_beside a.variables)) ds
        (all_sound known things ds (all_fine known things ds n.0 u.0 q.0) (automaton_form a form))) in
        let new = automaton_demands (folded_automaton K a) in
        record {
          names =
              append_both (flat_map (unknown_by (λ x. globals x || is_among (var_names (map (folded_var K) a.variables)) x)) new) (unknown_within actions (folded_automaton K a))
              (ap (λ ns. flat_map (unknown_by (λ x. globals x || is_among ns x)) new) (var_names_same K a.variables) ∙ no_unknown known things new fine)
              (within_same K actions a ∙ n.1);
          types =
              append_both (flat_map var_faults (map (folded_var K) a.variables)) _ (walked (folded_var K) var_faults var_faults (var_faults_same K) a.variables ∙ t.0)
              (append_both (flat_map (demand_faults (beside global (map (folded_var K) a.variables))) new) (repeated_writes (folded_automaton K a))
              (ap (λ b. flat_map (demand_faults b) new) (beside_same K global a.variables) ∙ no_misfit known things new fine) (repeats_same K a ∙ u.1));
          profile =
              append_both (flat_map start_faults (map (folded_var K) a.variables)) _ (all_starts a.variables p.0)
              (append_both (flat_map (demand_profile (beside global (map (folded_var K) a.variables))) new) _
              (ap (λ b. flat_map (demand_profile b) new) (beside_same K global a.variables) ∙ no_other known things new fine)
              (ap (λ b. flat_map (branch_rewards b) (map (folded_edge K) a.edges)) (beside_same K global a.variables) ∙ all_branches things a.edges q.1));
        }

    all_automata : (as_ : List Automaton) → Each (AutomatonRead HasItems) as_ → flat_map (unknown_in globals actions) as_ ≡ [] → flat_map (automaton_faults global) as_ ≡ [] →
        flat_map (automaton_profile global) as_ ≡ [] → Each IsFineAutomaton (map (folded_automaton K) as_)
    all_automata [] f n t p = tt
    all_automata (a ∷ as_) f n t p =
        let x = append_parts (unknown_in globals actions a) (flat_map (unknown_in globals actions) as_) n in
        let y = append_parts (automaton_faults global a) (flat_map (automaton_faults global) as_) t in
        let z = append_parts (automaton_profile global a) (flat_map (automaton_profile global) as_) p in
        (automaton_carried a f.0 (record { names = x.0; types = y.0; profile = z.0 }), all_automata as_ f.1 x.1 y.1 z.1)

-- ---- the file
module _ (file : File) (checked : IsChecked file) (values : Valuation) (fitting : AreFitting (any_constants file) values) where
  abbrev K : Known
  K = known_constants file values

  abbrev new : File
  new = specialised file values

  abbrev global : Name → Option Thing
  global = global_thing file

  abbrev known : Name → Bool
  known = is_among (global_names file)

  abbrev actions : Name → Bool
  actions = is_among file.actions

  unknown_parts : (flat_map (unknown_by known) (outer_demands file) ≡ [])
      × ((flat_map (unknown_in known actions) file.automata
      ++ (flat_map (unless_known (is_among (automaton_names file))) (element_names file)
      ++ (flat_map (unless_known actions) (flat_map vector_actions file.vectors) ++ flat_map (unknown_enabled actions) file.elements))) ≡ [])
  unknown_parts = append_parts (flat_map (unknown_by known) (outer_demands file)) _ (none_unknown file checked)

  type_parts : (flat_map var_faults file.variables ≡ [])
      × ((flat_map (demand_faults global) (outer_demands file) ++ (flat_map (automaton_faults global) file.automata ++ flat_map (clashing_writes file) file.vectors)) ≡ [])
  type_parts = append_parts (flat_map var_faults file.variables) _ (no_types file checked)

  profile_parts : (flat_map start_faults file.variables ≡ [])
      × ((flat_map (demand_profile global) (outer_demands file)
      ++ (flat_map (automaton_profile global) file.automata ++ (given_after global (λ x. false) file.automata ++ flat_map (two_writers file) file.vectors))) ≡ [])
  profile_parts = append_parts (flat_map start_faults file.variables) _ (no_profile file checked)

  outer_sound : Each (IsSound known global) (outer_demands file)
  outer_sound =
      all_sound known global (outer_demands file)
      (all_fine known global (outer_demands file) unknown_parts.0 (append_left (flat_map (demand_faults global) (outer_demands file)) _ type_parts.1)
      (append_left (flat_map (demand_profile global) (outer_demands file)) _ profile_parts.1)) (outer_form file checked.form)

  outer_split : Each (IsSound known global) (flat_map const_demands file.constants) × Each (IsSound known global) (flat_map var_demands file.variables ++ map (varying W.Bool) (if_some file.restrict))
  outer_split = each_parts (IsSound known global) (flat_map const_demands file.constants) (flat_map var_demands file.variables ++ map (varying W.Bool) (if_some file.restrict)) outer_sound

  -- ---- known constants have values of their types
  const_sound : (x : Name) (c : Const) → const_called file x ≡ Some c → Each (IsSound known global) (const_demands c)
  const_sound x c h =
      subst (IfAny (λ d. Each (IsSound known global) (const_demands d))) h
      (each_found (λ d. Each (IsSound known global) (const_demands d)) (λ d. is_called x d.name) file.constants (each_of (IsSound known global) const_demands file.constants outer_split.0))

  const_type : (x : Name) (c : Const) → const_called file x ≡ Some c → types_by global x ≡ Some c.ty
  const_type x c h = ap (λ o. option_map thing_type (option_else (option_map const_thing o) (option_map var_thing (var_called file.variables x)))) h

  own_type : (x : Name) (c : AnyConst JaniOp) → called (any_constants file) x ≡ Some c → types_by global x ≡ Some c.ty
  own_type x c h =
      let d = own_const file x c h in
      const_type x d.0 d.1 ∙ ap (λ (k : AnyConst JaniOp). Some k.ty) d.2

  wanted_type : (c : Const) (e : Expression) → Each (IsSound known global) (const_demands c) → c.value ≡ Some e → HasWanted jani_meaning (types_by global) c.ty e
  wanted_type c e sound v =
      let own : IsSound known global (fixed (wanted_by c.ty) e) =
      (subst (λ (o : Option Expression). Each (IsSound known global) (map (fixed (wanted_by c.ty)) (elim o as (λ r. List Expression) [ None ↦ [] | Some t ↦ t ∷ [] ]))) v sound).0 in
      let t = typed_of (types_by global) (wanted_by c.ty) e (append_left (type_faults_of (types_by global) (wanted_by c.ty) e) _ own.fine.types) in
      record { own = t.0; is = t.1; wanted = not-false (is_wanted (wanted_by c.ty) t.0) t.2; normal = literals e own.form }

  wanted_of : (x : Name) (c : AnyConst JaniOp) (e : Expression) → called (any_constants file) x ≡ Some c → c.value ≡ Some e → HasWanted jani_meaning (types_by global) c.ty e
  wanted_of x c e h v =
      let d = own_const file x c h in
      subst (λ (t : Ty). HasWanted jani_meaning (types_by global) t e) (ap (λ (k : AnyConst JaniOp). k.ty) d.2)
      (wanted_type d.0 e (const_sound x d.0 d.1) (ap (λ (k : AnyConst JaniOp). k.value) d.2 ∙ v))

  known_typed : AreTyped K
  known_typed = known_types.known_typed jani_meaning jani_lawful jani_monotone jani_literal jani_literals (any_constants file) values (types_by global) fitting own_type wanted_of

  known_gives : GivesTypes K (types_by global)
  known_gives = known_types.known_types jani_meaning jani_lawful jani_monotone jani_literal jani_literals (any_constants file) values (types_by global) fitting own_type wanted_of

  -- ---- what stands outside of automata
  consts_fit : Each (λ c. (y : Value) → values c.name.name ≡ Some y → IsTrue (has_type c.ty y)) file.constants
  consts_fit =
      each_then (λ c. called (any_constants file) c.name.name ≡ Some (any_const c)) (λ c. (y : Value) → values c.name.name ≡ Some y → IsTrue (has_type c.ty y))
      (λ c h y g. fitting.fitting c.name.name (any_const c) y h g) file.constants
      (map_each (λ k. called (any_constants file) k.name.name ≡ Some k) any_const file.constants (any_own file checked))

  abbrev step : (d : Demand) → IsSound known global d → IsFine known global (folded_demand K d)
  step = carried K known_typed known global known_gives

  restriction_fine : (o : Option Expression) → Each (IsSound known global) (map (varying W.Bool) (if_some o)) →
      Each (IsFine known global) (map (varying W.Bool) (if_some (option_map (folded_restriction K) o)))
  restriction_fine None h = tt
  restriction_fine (Some e) h = by_always (is_always (folded K e))
    where
      by_always : (b : Bool) → Each (IsFine known global) (map (varying W.Bool) ((if b then e else folded K e) ∷ []))
      by_always true = (h.0.fine, tt)
      by_always false = (step (varying W.Bool e) h.0, tt)

  outer_fine : Each (IsFine known global) (outer_demands new)
  outer_fine =
      let rest = each_parts (IsSound known global) (flat_map var_demands file.variables) (map (varying W.Bool) (if_some file.restrict)) outer_split.1 in
      each_join (IsFine known global) (flat_map const_demands (map (specialised_const values K) file.constants)) _
      (consts_carried K (IsSound known global) (IsFine known global) step values (literal_fine K known_typed known global known_gives) file.constants consts_fit outer_split.0)
      (each_join (IsFine known global) (flat_map var_demands (map (folded_var K) file.variables)) _
      (subst (Each (IsFine known global)) (sym (in_vars K file.variables))
      (each_map (IsSound known global) (IsFine known global) (folded_demand K) step (flat_map var_demands file.variables) rest.0))
      (restriction_fine file.restrict rest.1))

  -- ---- automata
  type_rest : (flat_map (automaton_faults global) file.automata ++ flat_map (clashing_writes file) file.vectors) ≡ []
  type_rest = append_right (flat_map (demand_faults global) (outer_demands file)) _ type_parts.1

  profile_rest : (flat_map (automaton_profile global) file.automata ++ (given_after global (λ x. false) file.automata ++ flat_map (two_writers file) file.vectors)) ≡ []
  profile_rest = append_right (flat_map (demand_profile global) (outer_demands file)) _ profile_parts.1

  abbrev IsFineHere : Automaton → Type 0
  IsFineHere = IsFineAutomaton K known_typed known actions global known_gives

  automata_fine : Each IsFineHere (map (folded_automaton K) file.automata)
  automata_fine =
      all_automata K known_typed known actions global known_gives file.automata checked.form.automata
      (append_left (flat_map (unknown_in known actions) file.automata) _ unknown_parts.1)
      (append_left (flat_map (automaton_faults global) file.automata) _ type_rest)
      (append_left (flat_map (automaton_profile global) file.automata) _ profile_rest)

  -- ---- all faults
  uncircled : circles new ≡ []
  uncircled =
      sym (circles_same new)
      ∙ ap circles_of (map-map declared any_const (map (specialised_const values K) file.constants) ∙ map-map (λ c. declared (any_const c)) (specialised_const values K) file.constants)
      ∙ circles_less (λ c. declared (any_const (specialised_const values K c))) (λ c. declared (any_const c))
      (λ c. const_uses_less jani_meaning jani_literal jani_literals K values (any_const c)) file.constants
      (ap circles_of (sym (map-map declared any_const file.constants)) ∙ any_uncircled file checked)

  names_clean : name_faults new ≡ []
  names_clean =
      append_both (doubled_names new) _ (doubled_same K values file ∙ once_here file checked)
      (append_both (unknown_names new) _
      (append_both (flat_map (unknown_by (is_among (global_names new))) (outer_demands new)) _
      (ap (λ ns. flat_map (unknown_by (is_among ns)) (outer_demands new)) (globals_same K values file) ∙ no_unknown known global (outer_demands new) outer_fine)
      (append_both (flat_map (unknown_in (is_among (global_names new)) actions) (map (folded_automaton K) file.automata)) _
      (ap (λ ns. flat_map (unknown_in (is_among ns) actions) (map (folded_automaton K) file.automata)) (globals_same K values file)
      ∙ each_empty (unknown_in known actions) (map (folded_automaton K) file.automata)
      (each_then IsFineHere (λ a. unknown_in known actions a ≡ []) (λ a h. h.names) (map (folded_automaton K) file.automata) automata_fine))
      (ap (λ ns. flat_map (unless_known (is_among ns)) (element_names file) ++ (flat_map (unless_known actions) (flat_map vector_actions file.vectors) ++ flat_map (unknown_enabled actions) file.elements)) (automata_same K values file)
      ∙ append_right (flat_map (unknown_in known actions) file.automata) _ unknown_parts.1)))
      (append_both (circles new) (composition_faults new) uncircled (composed file checked)))

  types_clean : type_faults new ≡ []
  types_clean =
      append_both (flat_map var_faults (map (folded_var K) file.variables)) _ (walked (folded_var K) var_faults var_faults (var_faults_same K) file.variables ∙ type_parts.0)
      (append_both (flat_map (demand_faults (global_thing new)) (outer_demands new)) _
      (ap (λ t. flat_map (demand_faults t) (outer_demands new)) (things_same K values file) ∙ no_misfit known global (outer_demands new) outer_fine)
      (append_both (flat_map (automaton_faults (global_thing new)) (map (folded_automaton K) file.automata)) _
      (ap (λ t. flat_map (automaton_faults t) (map (folded_automaton K) file.automata)) (things_same K values file)
      ∙ each_empty (automaton_faults global) (map (folded_automaton K) file.automata)
      (each_then IsFineHere (λ a. automaton_faults global a ≡ []) (λ a h. h.types) (map (folded_automaton K) file.automata) automata_fine))
      (each_empty (clashing_writes new) file.vectors
      (each_then (λ v. clashing_writes file v ≡ []) (λ v. clashing_writes new v ≡ []) (λ v h. clashes_same K values file v ∙ h) file.vectors
      (empty_each (clashing_writes file) file.vectors (append_right (flat_map (automaton_faults global) file.automata) _ type_rest))))))

  after_rest : (given_after global (λ x. false) file.automata ++ flat_map (two_writers file) file.vectors) ≡ []
  after_rest = append_right (flat_map (automaton_profile global) file.automata) _ profile_rest

  profile_clean : profile_faults new ≡ []
  profile_clean =
      append_both (flat_map start_faults (map (folded_var K) file.variables)) _ (all_starts K known_typed file.variables profile_parts.0)
      (append_both (flat_map (demand_profile (global_thing new)) (outer_demands new)) _
      (ap (λ t. flat_map (demand_profile t) (outer_demands new)) (things_same K values file) ∙ no_other known global (outer_demands new) outer_fine)
      (append_both (flat_map (automaton_profile (global_thing new)) (map (folded_automaton K) file.automata)) _
      (ap (λ t. flat_map (automaton_profile t) (map (folded_automaton K) file.automata)) (things_same K values file)
      ∙ each_empty (automaton_profile global) (map (folded_automaton K) file.automata)
      (each_then IsFineHere (λ a. automaton_profile global a ≡ []) (λ a h. h.profile) (map (folded_automaton K) file.automata) automata_fine))
      (append_both (given_after (global_thing new) (λ x. false) (map (folded_automaton K) file.automata)) _
      (ap (λ t. given_after t (λ x. false) (map (folded_automaton K) file.automata)) (things_same K values file) ∙ given_after_same K global (λ x. false) file.automata
      ∙ append_left (given_after global (λ x. false) file.automata) _ after_rest)
      (each_empty (two_writers new) file.vectors
      (each_then (λ v. two_writers file v ≡ []) (λ v. two_writers new v ≡ []) (λ v h. writers_same K values file v ∙ h) file.vectors
      (empty_each (two_writers file) file.vectors (append_right (given_after global (λ x. false) file.automata) _ after_rest)))))))

  no_faults : faults new ≡ []
  no_faults = ap₂ or_else names_clean (ap₂ or_else types_clean profile_clean)

pub specialised_is_clean : SpecialisedIsClean
specialised_is_clean file values checked fitting = record {
  clean = no_faults file checked values fitting;
  form = specialised_formed HasItems (known_constants file values) values file checked.form;
  once = checked.once;
}

pub specialised_is_short : SpecialisedIsShort
specialised_is_short file values short = specialised_formed IsShortName (known_constants file values) values file short
