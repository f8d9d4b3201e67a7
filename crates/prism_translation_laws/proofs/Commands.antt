-- What stands in modules has no fault of types, and commands write what they may.
use Rattle.std.specs.Prelude.{◌≡◌, ◌⊎◌, ℕ, ◌-◌, ◌<◌, [], ◌++◌, map, length, Bool, true, false, ◌&&◌, Option, Some, None, is_none, is_some, get_or, if◌then◌else◌}
use Rattle.std.specs.List.{flat_map, filter, list_any, All, AllByRecursion as Each}
use Rattle.std.specs.Option.{option_map}
use Rattle.std.proofs.Common.{refl, sym, ap, ◌∙◌, subst, inl, inr}
use Rattle.std.proofs.lemmas.List.{map-append}
use Rattle.std.proofs.lemmas.List.Elements.{All-append, All-filter, All-map, filter_passes, All-from_recursion}
use Rattle.basics.specs.Lists.{append_parts, append_both, flat_map_both}
use Rattle.basics.specs.Each.{each_then, map_each, each_join, each_parts, each_of, empty_each}
use Rattle.basics.specs.Numbers.{nat_eq-self}
use Rattle.bridge_io.specs.declared.reason.Reason.TheVariants.{SyncGlobalWrite}
use Rattle.op_trees.specs.declared.tree.Ty.{Ty}
use Rattle.op_trees.specs.declared.tree.Ty.TheVariants as T
use Rattle.basics.specs.Options.{if_some, IfAny}
use Rattle.process_core.specs.Ready.{Name}
use Rattle.process_core.specs.Product.{map-flat_map}
use Rattle.choice_laws.proofs.Walks.{All-flat_map, has_any}
use Rattle.prism_tree.specs.Syntax as prism
use Rattle.process_core.specs.Instance.{only_if}
use Rattle.name_rules.specs.Least.{fault_if}
use Rattle.op_trees.specs.Wanted.{wanted_by}
use Rattle.prism_check.specs.Demands.{varying, written, var_type, var_demands, branch_demands, command_demands}
use Rattle.prism_check.specs.TypeFaults as prism_types
use Rattle.prism_check.specs.TypeFaults.{types, variable_called, type_faults_of, target_by, target_of, wanted_at, write_faults, demand_faults}
use Rattle.jani_tree.specs.Syntax.{Write, Destination, Expression, File}
use Rattle.jani_check.specs.Things.{kind_type}
use Rattle.jani_check.specs.Faults.{IsChecked}
use Rattle.jani_meaning.specs.Elements.{Owned, initial_number, is_lasting, is_owner, lasting, place_of, location_number}
use Rattle.prism_translation.specs.PrismAsks.{NewNames, name_at}
use Rattle.prism_translation.specs.Image.{image}
use Rattle.prism_translation.specs.Elements.{Element, elements, has_several, may_use, Placed, placed_edges, some_write, Lasting, lasting_variables, is_at, is_to, home, own, adopted, at_home}
use Rattle.prism_translation.specs.Targets.{serves, serves_silently, is_blocked}
use Rattle.prism_translation.specs.Names.{new_names}
use Rattle.jani_meaning.specs.Scene.{has_condition}
use Rattle.prism_translation.specs.Parts.{made, counted, location_name, location_variable, is_there, start_under, variable}
use Rattle.prism_translation.specs.Modules.{Action, actions, new, guard, write_by, write, location_write, weight, branch, is_single, command, commands_of, blocking, commands, module_of}
use Rattle.prism_translation.specs.Translated.{translated}
use Rattle.prism_translation.specs.Refused.{shared_faults}
use Rattle.prism_translation.proofs.Numbered.{at_element}
use Rattle.prism_translation_laws.specs.TypeLaws.{own_variables, WritesAllowed, CommandsMayWrite, ModuleTypesFit}
use Rattle.prism_translation.proofs.Clean.{has_element}
use Rattle.prism_translation_laws.proofs.TypedImages.{HasPrismType, no_type_faults}
use Rattle.prism_translation_laws.proofs.TypedScopes.{nobody, placed_at, variable_typed}
use Rattle.prism_translation_laws.proofs.Sources.{IsFine, IsFineWrite, IsFineDestination}
use Rattle.prism_translation_laws.proofs.Declared.{lasting_at, owned_of, of_location, variable_found, location_found}
use Rattle.prism_translation_laws.proofs.Expressions.{kind_is, fine_image, varying_clean, IsTruth, counted_number, has_truth, as_truth, there_truth, all_truth}
use Rattle.prism_translation_laws.proofs.Members.{only_all, edges_fine, MakerHas, makers_have, actions_have}
use Rattle.prism_translation_laws.proofs.Outer.{nothing_of, LastingFine, variable_clean, lasting_fine}
use Rattle.prism_translation_laws.proofs.Homes.{Binds, AtItsPlace, at_its_place, serving_binds, MayWrite, may_write_it}

module _ (file : File) (checked : IsChecked file) where
  abbrev names : NewNames
  names = new_names file

  -- ---- what is written
  -- a value of a variable's type, written in the module of this number, where the variable is
  own_clean : (k : ℕ) (acts : Bool) (at : ℕ) (t : Ty) (e : prism.Expression) → HasPrismType (types (translated file)) t e →
      write_faults (target_by (Some k) k t) acts at ++ type_faults_of (types (translated file)) (wanted_at (target_by (Some k) k t)) e ≡ []
  own_clean k acts at t e h =
      ap (λ b. write_faults (if b then prism_types.own t else prism_types.foreign (wanted_by t)) acts at
      ++ type_faults_of (types (translated file)) (wanted_at (if b then prism_types.own t else prism_types.foreign (wanted_by t))) e) (nat_eq-self k)
      ∙ no_type_faults (types (translated file)) t e h

  -- or where it may write it
  allowed_clean : (k : ℕ) (acts : Bool) (at : ℕ) (t : Ty) (e : prism.Expression) (h : Option ℕ) → (h ≡ Some k) ⊎ ((h ≡ None) × (acts ≡ true → ⊥)) → HasPrismType (types (translated file)) t e →
      write_faults (target_by h k t) acts at ++ type_faults_of (types (translated file)) (wanted_at (target_by h k t)) e ≡ []
  allowed_clean k acts at t e h (inl f) v =
      ap (λ h. write_faults (target_by h k t) acts at ++ type_faults_of (types (translated file)) (wanted_at (target_by h k t)) e) f ∙ own_clean k acts at t e v
  allowed_clean k acts at t e h (inr (f, n)) v =
      ap (λ h. write_faults (target_by h k t) acts at ++ type_faults_of (types (translated file)) (wanted_at (target_by h k t)) e) f
      ∙ ap (λ b. fault_if b at SyncGlobalWrite ++ type_faults_of (types (translated file)) (wanted_by t) e) (silent acts n)
      ∙ no_type_faults (types (translated file)) t e v
    where
      silent : (b : Bool) → (b ≡ true → ⊥) → b ≡ false
      silent true n = absurd (n refl)
      silent false n = refl

  location_clean : All (λ el. (acts : Bool) (d : Destination) → flat_map (demand_faults (translated file) el.number) (map (written acts) (location_write file names el d)) ≡ []) (elements file)
  location_clean i d l acts x = by_several (has_several el) (location_found file i d l)
    where
      el : Element
      el = get_or (elements file) i d

      by_several : (b : Bool) → (b ≡ true → variable_called (translated file) (name_at names.locations (get_or (elements file) i d).number) ≡ Some (of_location file (get_or (elements file) i d).number)) →
          flat_map (demand_faults (translated file) (get_or (elements file) i d).number)
          (map (written acts) (only_if b (record { name = made (location_name file names (get_or (elements file) i d).number); value = counted (location_number (get_or (elements file) i d).automaton x.location.name) }))) ≡ []
      by_several false f = refl
      by_several true f =
          let k = (get_or (elements file) i d).number in
          let n = location_number (get_or (elements file) i d).automaton x.location.name in
          append_both _ []
          (ap (λ o. write_faults (target_of k o) acts 0 ++ type_faults_of (types (translated file)) (wanted_at (target_of k o)) (counted n)) (f refl)
          ∙ own_clean k acts 0 T.Int (counted n) (record { type = T.Int; is = refl; wanted = refl })) refl

  -- what an edge assigns, as the commands with an action, or those without one, write it
  abbrev WritesClean : Element → Bool → Write → Type 0
  WritesClean el acts w = flat_map (demand_faults (translated file) el.number) (map (written acts) (write file names el w)) ≡ []

  module _ (shares : shared_faults file ≡ []) (i : ℕ) (a : Element) (l : i < length (elements file)) (k : ℕ) (b : Placed) (m : k < length (placed_edges (get_or (elements file) i a))) (acts : Bool) (bound : acts ≡ true → Binds file (get_or (placed_edges (get_or (elements file) i a)) k b)) where
    abbrev el : Element
    el = get_or (elements file) i a

    abbrev p : Placed
    p = get_or (placed_edges el) k b

    write_clean : (w : Write) → IsFineWrite file (own_variables file el.number) w → ((n : ℕ) → is_to file n el.number w ≡ true → some_write (is_to file n el.number) p.edge ≡ true) → WritesClean el acts w
    write_clean w fine there = by_place (place_of (lasting file) el.number w.target.name) refl
      where
        by_place : (o : Option ℕ) → place_of (lasting file) el.number w.target.name ≡ o → flat_map (demand_faults (translated file) el.number) (map (written acts) (write_by file names el o w)) ≡ []
        by_place None e = refl
        by_place (Some n) e =
            let at = placed_at (lasting file) el.number w.target.name n e in
            let may = ap (λ (o : Owned). may_use el.number o.owner) (owned_of file n at.within) ∙ at.may in
            let place = may_write_it file i a l k b m shares n at.within (there n (ap (is_at n) e ∙ nat_eq-self n)) may in
            let kind = get_or (lasting file) n nobody in
            let value = fine_image file checked el.number (kind_type kind.var.kind) w.value (fine (kind_type kind.var.kind) (variable_typed file checked is_lasting el.number w.target.name n e)) in
            append_both _ []
            (ap (λ o. write_faults (target_of el.number o) acts w.target.at ++ type_faults_of (types (translated file)) (wanted_at (target_of el.number o)) (image (new file names el) w.value))
            (variable_found file (has_element file checked) n at.within)
            ∙ allowed_clean el.number acts w.target.at (var_type (variable file names (lasting_at file n))) (image (new file names el) w.value) (home file (lasting_at file n)) (allowed place)
            (subst (λ t. HasPrismType (types (translated file)) t (image (new file names el) w.value)) (sym (kind_is file checked n at.within)) value)) refl
          where
            allowed : {h : Option ℕ} → MayWrite file p el.number h → (h ≡ Some el.number) ⊎ ((h ≡ None) × (acts ≡ true → ⊥))
            allowed (inl f) = inl f
            allowed (inr (f, n)) = inr (f, (λ t. n (bound t)))

    -- ---- destinations
    weight_clean : (single : Bool) (o : Option Expression) → IfAny (IsFine file (own_variables file el.number) T.Real) o →
        flat_map (demand_faults (translated file) el.number) (map (varying (wanted_by T.Real)) (if_some (weight file names el single o))) ≡ []
    weight_clean single (Some e) h =
        append_both (demand_faults (translated file) el.number (varying (wanted_by T.Real) (image (new file names el) e))) []
        (varying_clean file checked el.number T.Real (image (new file names el) e) (fine_image file checked el.number T.Real e h)) refl
    weight_clean true None h = refl
    weight_clean false None h =
        append_both (demand_faults (translated file) el.number (varying (wanted_by T.Real) (counted 1))) [] (varying_clean file checked el.number T.Real (counted 1) (counted_number file checked 1)) refl

    branch_clean : (single : Bool) (d : Destination) → IsFineDestination file (own_variables file el.number) d →
        ((n : ℕ) → list_any (is_to file n el.number) d.writes ≡ true → some_write (is_to file n el.number) p.edge ≡ true) →
        flat_map (demand_faults (translated file) el.number) (branch_demands acts (branch file names el single d)) ≡ []
    branch_clean single d fine there =
        let F = demand_faults (translated file) el.number in
        flat_map_both F (map (varying (wanted_by T.Real)) (if_some (weight file names el single d.weight))) _ (weight_clean single d.weight fine.0)
        (ap (flat_map F) (map-append (written acts) (location_write file names el d) (flat_map (write file names el) d.writes))
        ∙ flat_map_both F (map (written acts) (location_write file names el d)) _ (location_clean i a l acts d)
        (ap (flat_map F) (map-flat_map (written acts) (write file names el) d.writes)
        ∙ nothing_of F (λ w. map (written acts) (write file names el w)) d.writes
        (λ j c q. write_clean (get_or d.writes j c) (All-from_recursion (IsFineWrite file (own_variables file el.number)) d.writes fine.1 j c q)
        (λ n t. there n (has_any (is_to file n el.number) d.writes j c q t)))))

    -- ---- commands
    guard_truth : (o : Option Expression) → IfAny (IsFine file (own_variables file el.number) T.Bool) o → Each (IsTruth file checked) (map (image (new file names el)) (if_some o))
    guard_truth None h = tt
    guard_truth (Some e) h = (as_truth file checked (image (new file names el) e) (fine_image file checked el.number T.Bool e h), tt)

    there_alone : (b : Bool) → (b ≡ true → (n : ℕ) → IsTruth file checked (is_there file names el.number n)) → Each (IsTruth file checked) (only_if b (is_there file names el.number (location_number el.automaton p.edge.location.name)))
    there_alone true h = (h refl (location_number el.automaton p.edge.location.name), tt)
    there_alone false h = tt

    pub command_clean : (name : Option Name) → is_some (option_map made name) ≡ acts → flat_map (demand_faults (translated file) el.number) (command_demands (command file names el p.edge name)) ≡ []
    command_clean name e =
        let F = demand_faults (translated file) el.number in
        let fine = subst (λ (z : Element). Each (IsFineDestination file (own_variables file z.number)) p.edge.destinations × IfAny (IsFine file (own_variables file z.number) T.Bool) p.edge.guard)
        (at_element el 0 el.automaton.edges k b m) ((edges_fine file checked i a l k b m).1, (edges_fine file checked i a l k b m).0) in
        append_both (F (varying (wanted_by T.Bool) (guard file names el p.edge))) _
        (varying_clean file checked el.number T.Bool (guard file names el p.edge)
        (has_truth file checked (guard file names el p.edge)
        (all_truth file checked (only_if (has_several el) (is_there file names el.number (location_number el.automaton p.edge.location.name)) ++ map (image (new file names el)) (if_some p.edge.guard))
        (each_join (IsTruth file checked) (only_if (has_several el) (is_there file names el.number (location_number el.automaton p.edge.location.name))) (map (image (new file names el)) (if_some p.edge.guard))
        (there_alone (has_several el) (there_truth file checked i a l)) (guard_truth p.edge.guard fine.1)))))
        (ap (λ c. flat_map F (flat_map (branch_demands c) (map (branch file names el (is_single file names el p.edge.destinations)) p.edge.destinations))) e
        ∙ nothing_of F (branch_demands acts) (map (branch file names el (is_single file names el p.edge.destinations)) p.edge.destinations)
        (All-map (λ d. flat_map F (branch_demands acts d) ≡ []) (branch file names el (is_single file names el p.edge.destinations)) p.edge.destinations
        (λ j c q. branch_clean (is_single file names el p.edge.destinations) (get_or p.edge.destinations j c)
        (All-from_recursion (IsFineDestination file (own_variables file el.number)) p.edge.destinations fine.0 j c q)
        (λ n t. has_any (λ (d : Destination). list_any (is_to file n el.number) d.writes) p.edge.destinations j c q t))))

  -- ---- all commands of a module
  abbrev pub IsClean : ℕ → prism.Command → Type 0
  IsClean k c = flat_map (demand_faults (translated file) k) (command_demands c) ≡ []

  pub commands_clean : shared_faults file ≡ [] → All (λ el. All (IsClean el.number) (commands file names el)) (elements file)
  commands_clean shares i a l =
      All-append (IsClean (get_or (elements file) i a).number) (flat_map (commands_of file names (get_or (elements file) i a)) (placed_edges (get_or (elements file) i a)))
      (map (λ t. blocking file names (get_or (elements file) i a) t.name) (filter (λ t. is_blocked file (get_or (elements file) i a) t.target) (actions file names)))
      (All-flat_map (IsClean (get_or (elements file) i a).number) (commands_of file names (get_or (elements file) i a)) (placed_edges (get_or (elements file) i a))
      (λ k b m.
      let el = get_or (elements file) i a in
      let p = get_or (placed_edges el) k b in
      All-append (IsClean el.number) (map (λ t. command file names el p.edge (Some t.name)) (filter (λ t. serves file t.target p) (actions file names))) (only_if (serves_silently file p) (command file names el p.edge None))
      (All-map (IsClean el.number) (λ (t : Action). command file names el p.edge (Some t.name)) (filter (λ t. serves file t.target p) (actions file names))
      (λ j c q.
      let t = get_or (filter (λ (t : Action). serves file t.target p) (actions file names)) j c in
      let has = All-filter (λ (t : Action). serves file t.target p) (λ (t : Action). MakerHas file (AtItsPlace file) t.target.maker) (actions file names)
      (actions_have file (λ t. MakerHas file (AtItsPlace file) t.maker) (makers_have file (AtItsPlace file) (at_its_place file))) j c q in
      command_clean shares i a l k b m true (λ e. serving_binds file i a l k b m t.target has (filter_passes (λ (t : Action). serves file t.target p) (actions file names) j c q)) (Some t.name) refl))
      (only_all (IsClean el.number) (serves_silently file p) (command file names el p.edge None) (λ e. command_clean shares i a l k b m false (λ f. absurd cc) None refl))))
      (All-map (IsClean (get_or (elements file) i a).number) (λ (t : Action). blocking file names (get_or (elements file) i a) t.name) (filter (λ t. is_blocked file (get_or (elements file) i a) t.target) (actions file names))
      (λ j c q. refl))

  -- ---- what a command without faults writes it may write
  may_write : (k : ℕ) (c : prism.Command) → IsClean k c → All (λ b. All (WritesAllowed file c k) b.writes) c.branches
  may_write k c h =
      let F = demand_faults (translated file) k in
      let r = empty_each F (flat_map (branch_demands (is_some c.action)) c.branches) (append_parts (F (varying (wanted_by T.Bool) c.guard)) _ h).1 in
      All-from_recursion (λ b. All (WritesAllowed file c k) b.writes) c.branches
      (each_then (λ b. Each (λ d. F d ≡ []) (branch_demands (is_some c.action) b)) (λ b. All (WritesAllowed file c k) b.writes)
      (λ b e. All-from_recursion (WritesAllowed file c k) b.writes
      (each_then (λ w. F (written (is_some c.action) w) ≡ []) (WritesAllowed file c k) (λ w f. (append_parts (write_faults (prism_types.target (translated file) k w.name.name) (is_some c.action) w.name.at) _ f).0) b.writes
      (map_each (λ d. F d ≡ []) (written (is_some c.action)) b.writes (each_parts (λ d. F d ≡ []) (map (varying (wanted_by T.Real)) (if_some b.weight)) (map (written (is_some c.action)) b.writes) e).1)))
      c.branches (each_of (λ d. F d ≡ []) (branch_demands (is_some c.action)) c.branches r))

  -- ---- variables of a module
  home_fine : (k : ℕ) → All (LastingFine file checked) (at_home file k)
  home_fine k =
      All-append (LastingFine file checked) (own file k) (adopted file k)
      (All-filter (λ (x : Lasting). is_owner k x.owned.owner) (LastingFine file checked) (lasting_variables file) (lasting_fine file checked))
      (All-filter (λ x. is_none x.owned.owner && is_at k (home file x)) (LastingFine file checked) (lasting_variables file) (lasting_fine file checked))

  location_declared : (k : ℕ) (here : Element) (b : Bool) → flat_map (demand_faults (translated file) k)
      (var_demands (record {
        name = made (location_name file names here.number);
        range = Some (record { low = counted 0; high = counted (length here.automaton.locations - 1) });
        start = start_under file names b (Some (counted (initial_number here.automaton)));
      })) ≡ []
  location_declared k here true = refl
  location_declared k here false = refl

  vars_clean : (k : ℕ) (here : Element) → flat_map (demand_faults (translated file) k) (flat_map var_demands (only_if (has_several here) (location_variable file names here) ++ map (variable file names) (at_home file here.number))) ≡ []
  vars_clean k here =
      let F = demand_faults (translated file) k in
      nothing_of F var_demands (only_if (has_several here) (location_variable file names here) ++ map (variable file names) (at_home file here.number))
      (All-append (λ v. flat_map F (var_demands v) ≡ []) (only_if (has_several here) (location_variable file names here)) (map (variable file names) (at_home file here.number))
      (only_all (λ v. flat_map F (var_demands v) ≡ []) (has_several here) (location_variable file names here) (λ e. location_declared k here (has_condition file)))
      (All-map (λ v. flat_map F (var_demands v) ≡ []) (variable file names) (at_home file here.number) (λ i d l. variable_clean file checked k (get_or (at_home file here.number) i d) (home_fine here.number i d l))))

-- ---- the statements
pub commands_may_write : (file : File) → CommandsMayWrite file
commands_may_write file checked shares i a l j c q =
    may_write file checked (get_or (elements file) i a).number (get_or (commands file (new_names file) (get_or (elements file) i a)) j c) (commands_clean file checked shares i a l j c q)

pub module_types_fit : (file : File) → ModuleTypesFit file
module_types_fit file checked shares i a l =
    let el = get_or (elements file) i a in
    let F = demand_faults (translated file) el.number in
    flat_map_both F (flat_map var_demands (module_of file (new_names file) el).vars) (flat_map command_demands (commands file (new_names file) el)) (vars_clean file checked el.number el)
    (nothing_of F command_demands (commands file (new_names file) el) (commands_clean file checked shares i a l))
