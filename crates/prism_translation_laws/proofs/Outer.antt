-- What stands outside of modules and isn't the initial condition has no fault of types: constants, global variables, labels and reward structures.
use Rattle.std.specs.Prelude.{◌≡◌, ℕ, ◌<◌, List, [], ◌∷◌, ◌++◌, map, length, Bool, true, false, not, Option, Some, None, is_none, get_or, unwrap_or, if◌then◌else◌}
use Rattle.std.specs.List.{flat_map, filter, zip, All, AllByRecursion as Each}
use Rattle.std.specs.Option.{option_map}
use Rattle.std.proofs.Common.{refl, sym, ap, ap₂, ◌∙◌, subst}
use Rattle.std.proofs.lemmas.Bool.{eqb-true, and_parts}
use Rattle.std.proofs.lemmas.List.Elements.{All-nil, All-cons, All-head, All-tail, All-append, All-filter, All-map, filter_passes, All-from_recursion}
use Rattle.basics.specs.Texts.{bytes_eq-true}
use Rattle.basics.specs.Lists.{append_both, flat_map_both}
use Rattle.op_trees.specs.declared.tree.Ty.{Ty}
use Rattle.op_trees.specs.declared.tree.Ty.TheVariants as T
use Rattle.op_trees.specs.Tree.{Three}
use Rattle.op_trees.specs.Types as trees
use Rattle.op_trees.specs.Types.{Types}
use Rattle.basics.specs.Options.{if_some, IfAny}
use Rattle.process_core.specs.Ready.{Name}
use Rattle.process_core.specs.Product.{flat_map-flat_map}
use Rattle.choice_laws.proofs.Walks.{All-flat_map, flat_map_none}
use Rattle.prism_tree.specs.declared.operator.PrismOp.TheVariants.{Ite}
use Rattle.prism_tree.specs.Operators.{prism_meaning}
use Rattle.prism_tree.specs.Syntax as prism
use Rattle.process_core.specs.Instance.{numbered}
use Rattle.prism_check.specs.Demands.{Demand, fixed, varying, type_by, const_demands, range_demands, var_demands, label_demands, item_demands, rewards_demands, outer_demands}
use Rattle.prism_check.specs.TypeFaults.{types, demand_faults}
use Rattle.jani_tree.specs.Syntax.{Var, VarKind, boolean, integer, number, real_bounded, one_sided, bounded, Expression, Write, Location, Destination, File}
use Rattle.jani_check.specs.Things.{kind_type, thing_type}
use Rattle.jani_check.specs.Faults.{IsChecked}
use Rattle.op_trees.specs.Names.{is_called}
use Rattle.op_trees.specs.Wanted.{wanted_by}
use Rattle.jani_meaning.specs.Elements.{Owned, variables, is_boolean, is_lasting, lasting, is_label, labels, is_structure, structures, structure_number}
use Rattle.prism_translation.specs.PrismAsks.{NewNames, name_at, value_name, outside}
use Rattle.prism_translation.specs.Image.{image}
use Rattle.prism_translation.specs.Elements.{Element, elements, has_several, Placed, Lasting, lasting_variables, may_use, is_at, shared, home}
use Rattle.prism_translation.specs.Names.{new_names}
use Rattle.jani_meaning.specs.Scene.{has_condition}
use Rattle.prism_translation.specs.Parts.{range_of, scope_of, start_under, constant, variable, is_there}
use Rattle.prism_translation.specs.Modules.{truth, falsehood, actions}
use Rattle.prism_translation.specs.Marks.{Given, given_by, given_to, first_writes, assigned_to, given_image, given_where, label_body, first_value, label, state_item, target_item, target_items_by, target_items, or_nought, structure}
use Rattle.prism_translation.specs.Translated.{translated}
use Rattle.prism_translation.proofs.Numbered.{lasting_owned}
use Rattle.prism_translation_laws.specs.TypeLaws.{own_variables, types_in, OuterTypesFit}
use Rattle.prism_translation_laws.proofs.TypedImages.{HasType, HasPrismType, as_number}
use Rattle.prism_translation_laws.proofs.TypedScopes.{nobody, thing_typed, Stands, stands_all, placed_at, variable_typed}
use Rattle.prism_translation_laws.proofs.Sources.{IsFixed, IsFineWrite, IsFineKind, IsFineDestination, IsFineOwned, constants_fine, variables_fine}
use Rattle.prism_translation_laws.proofs.Expressions.{kind_kept, fine_image, fixed_image, varying_clean, fixed_clean, IsTruth, counted_number, has_truth, as_truth, there_truth}
use Rattle.prism_translation_laws.proofs.Members.{numbered_all, zipped_all, element_fine, FineEdge, edges_fine, MakerHas, makers_have, actions_have}

-- nor of those of the members of a list
pub nothing_of : {A B C : Type 0} (F : B → List C) (g : A → List B) (xs : List A) → All (λ x. flat_map F (g x) ≡ []) xs → flat_map F (flat_map g xs) ≡ []
nothing_of F g xs h = flat_map-flat_map F g xs ∙ flat_map_none (λ x. flat_map F (g x)) xs h

is_boolean_type : (k : VarKind) → is_boolean k ≡ true → kind_type k ≡ T.Bool
is_boolean_type boolean h = refl
is_boolean_type integer h = absurd cc
is_boolean_type number h = absurd cc
is_boolean_type real_bounded h = absurd cc
is_boolean_type one_sided h = absurd cc
is_boolean_type (bounded low high) h = absurd cc

is_number_type : (k : VarKind) → not (is_boolean k) ≡ true → kind_type k ≡ T.Bool → ⊥
is_number_type boolean h e = cc
is_number_type integer h e = cc
is_number_type number h e = cc
is_number_type real_bounded h e = cc
is_number_type one_sided h e = cc
is_number_type (bounded low high) h e = cc

module _ (file : File) (checked : IsChecked file) where
  abbrev names : NewNames
  names = new_names file

  -- ---- values
  value_clean : (i : ℕ) (vs : List Var) (k : ℕ) (t : Ty) (o : Option Expression) → IfAny (IsFixed file vs t) o →
      flat_map (demand_faults (translated file) i) (map (fixed (wanted_by t)) (if_some (option_map (image (value_name file names k)) o))) ≡ []
  value_clean i vs k t None h = refl
  value_clean i vs k t (Some e) h =
      append_both (demand_faults (translated file) i (fixed (wanted_by t) (image (value_name file names k) e))) [] (fixed_clean file checked i vs k t e h) refl

  pub consts_clean : flat_map (demand_faults (translated file) 0) (flat_map const_demands (translated file).constants) ≡ []
  consts_clean =
      nothing_of (demand_faults (translated file) 0) const_demands (translated file).constants
      (All-map (λ c. flat_map (demand_faults (translated file) 0) (const_demands c) ≡ []) (λ p. constant file names p.0 p.1.name) (zip file.constants names.constants)
      (λ i d l. let p = get_or (zip file.constants names.constants) i d in
      value_clean 0 [] (outside file) p.0.ty p.0.value
      (zipped_all (λ c. IfAny (IsFixed file [] c.ty) c.value) file.constants names.constants (All-from_recursion (λ c. IfAny (IsFixed file [] c.ty) c.value) file.constants (constants_fine file checked)) i d l)))

  -- ---- variables that last
  range_clean : (i : ℕ) (vs : List Var) (k : ℕ) (kind : VarKind) → IsFineKind file vs kind →
      flat_map (demand_faults (translated file) i) (range_demands (range_of file names (value_name file names k) kind)) ≡ []
  range_clean i vs k (bounded low high) h =
      append_both (demand_faults (translated file) i (fixed (wanted_by T.Int) (image (value_name file names k) low))) _ (fixed_clean file checked i vs k T.Int low h.0)
      (append_both (demand_faults (translated file) i (fixed (wanted_by T.Int) (image (value_name file names k) high))) [] (fixed_clean file checked i vs k T.Int high h.1) refl)
  range_clean i vs k boolean h = refl
  range_clean i vs k integer h = refl
  range_clean i vs k number h = refl
  range_clean i vs k real_bounded h = refl
  range_clean i vs k one_sided h = refl

  start_clean : (i : ℕ) (b : Bool) (t : Ty) (s : Option prism.Expression) → flat_map (demand_faults (translated file) i) (map (fixed (wanted_by t)) (if_some s)) ≡ [] →
      flat_map (demand_faults (translated file) i) (map (fixed (wanted_by t)) (if_some (start_under file names b s))) ≡ []
  start_clean i true t s h = refl
  start_clean i false t s h = h

  abbrev pub LastingFine : Lasting → Type 0
  LastingFine x = (x.owned.var.transient ≡ false) × IsFineOwned file checked x.owned

  pub variable_clean : (i : ℕ) (x : Lasting) → LastingFine x → flat_map (demand_faults (translated file) i) (var_demands (variable file names x)) ≡ []
  variable_clean i x h =
      let k = scope_of file names x.owned in
      let kind = x.owned.var.kind in
      let vs = own_variables file k in
      flat_map_both (demand_faults (translated file) i) (range_demands (range_of file names (value_name file names k) kind)) _ (range_clean i vs k kind h.1.1)
      (ap (λ t. flat_map (demand_faults (translated file) i) (map (fixed (wanted_by t)) (if_some (start_under file names (has_condition file) (option_map (image (value_name file names k)) x.owned.var.start)))))
      (kind_kept file names (value_name file names k) x.owned.var.transient kind h.0 h.1.0)
      ∙ start_clean i (has_condition file) (kind_type kind) (option_map (image (value_name file names k)) x.owned.var.start) (value_clean i vs k (kind_type kind) x.owned.var.start h.1.2))

  pub lasting_fine : All LastingFine (lasting_variables file)
  lasting_fine =
      lasting_owned (λ o. (o.var.transient ≡ false) × IsFineOwned file checked o) 0 (lasting file)
      (λ i d l. (not_true (get_or (lasting file) i d).var.transient (filter_passes is_lasting (variables file) i d l), All-filter is_lasting (IsFineOwned file checked) (variables file) (variables_fine file checked) i d l))
    where
      not_true : (b : Bool) → not b ≡ true → b ≡ false
      not_true true h = absurd cc
      not_true false h = refl

  pub globals_clean : flat_map (demand_faults (translated file) 0) (flat_map var_demands (translated file).globals) ≡ []
  globals_clean =
      nothing_of (demand_faults (translated file) 0) var_demands (translated file).globals
      (All-map (λ v. flat_map (demand_faults (translated file) 0) (var_demands v) ≡ []) (variable file names) (shared file)
      (λ i d l. variable_clean 0 (get_or (shared file) i d) (All-filter (λ x. is_none (home file x)) LastingFine (lasting_variables file) lasting_fine i d l)))

  -- ---- what locations give
  abbrev IsGoodGiven : Ty → Given → Type 0
  IsGoodGiven w g = (has_several g.element ≡ true → (i : ℕ) → IsTruth file checked (is_there file names g.element.number i)) × HasPrismType (types (translated file)) w (given_image file names g)

  -- of one element; what has the type of the variable has the type that is wanted
  module _ (o : Owned) (stands : Stands file checked o) (w : Ty) (wider : (ty : Types) (e : Expression) → HasType ty (kind_type o.var.kind) e → HasType ty w e) where
    of_locations : (el : Element) → may_use el.number o.owner ≡ true → (has_several el ≡ true → (i : ℕ) → IsTruth file checked (is_there file names el.number i)) →
        (i : ℕ) (ls : List Location) → Each (λ l. Each (IsFineWrite file (own_variables file el.number)) l.values) ls →
        All (IsGoodGiven w) (numbered (λ i l. map (λ y. record { element = el; location = i; value = y.value }) (filter (λ y. is_called o.var.name.name y.target) l.values)) i ls)
    of_locations el may there i ls h =
        numbered_all (λ (l : Location). Each (IsFineWrite file (own_variables file el.number)) l.values) (IsGoodGiven w) _
        (λ j l f. All-map (IsGoodGiven w) (λ y. record { element = el; location = j; value = y.value }) (filter (λ y. is_called o.var.name.name y.target) l.values)
        (λ n d m.
        let y = get_or (filter (λ (y : Write). is_called o.var.name.name y.target) l.values) n d in
        let named = bytes_eq-true y.target.name o.var.name.name (filter_passes (λ (y : Write). is_called o.var.name.name y.target) l.values n d m) in
        let fine = All-filter (λ (y : Write). is_called o.var.name.name y.target) (IsFineWrite file (own_variables file el.number)) l.values (All-from_recursion (IsFineWrite file (own_variables file el.number)) l.values f) n d m in
        let typed : types_in file el.number y.target.name ≡ Some (kind_type o.var.kind) = ap (types_in file el.number) named ∙ ap (option_map thing_type) (stands el.number may) ∙ ap Some (thing_typed o.var) in
        let value = fine (kind_type o.var.kind) typed in
        (there, fine_image file checked el.number w y.value (wider (types_in file el.number) y.value value.0, value.1)))) i ls (All-from_recursion _ ls h)

    givens_good : All (IsGoodGiven w) (given_to file o)
    givens_good =
        All-flat_map (IsGoodGiven w) (λ el. if may_use el.number o.owner then given_by o.var.name.name el else []) (elements file)
        (λ i d l. by_may (get_or (elements file) i d) (may_use (get_or (elements file) i d).number o.owner) refl (there_truth file checked i d l) (element_fine file checked i d l).locations)
      where
        by_may : (el : Element) (b : Bool) → may_use el.number o.owner ≡ b → (has_several el ≡ true → (i : ℕ) → IsTruth file checked (is_there file names el.number i)) →
            Each (λ l. Each (IsFineWrite file (own_variables file el.number)) l.values) el.automaton.locations → All (IsGoodGiven w) (if b then given_by o.var.name.name el else [])
        by_may el true e there h = of_locations el e there 0 el.automaton.locations h
        by_may el false e there h = All-nil (IsGoodGiven w)

  -- ---- labels
  body_truth : (other : prism.Expression) (gs : List Given) → IsTruth file checked other → All (IsGoodGiven T.Bool) gs → IsTruth file checked (label_body file names other gs)
  body_truth other [] t h = t
  body_truth other (g ∷ gs) t h =
      let good = All-head (IsGoodGiven T.Bool) g gs h in
      by_several (has_several g.element) good.0 (as_truth file checked (given_image file names g) good.1) (body_truth other gs t (All-tail (IsGoodGiven T.Bool) g gs h))
    where
      by_several : (b : Bool) → (b ≡ true → (i : ℕ) → IsTruth file checked (is_there file names g.element.number i)) → IsTruth file checked (given_image file names g) → IsTruth file checked (label_body file names other gs) →
          IsTruth file checked (if b then Three 0 Ite (is_there file names g.element.number g.location) (given_image file names g) (label_body file names other gs) else given_image file names g)
      by_several true there v r =
          ap₂ {B = Option Ty → Option Ty} (λ a f. f a) (there refl g.location) (ap₂ (λ b c a. trees.sort_three prism_meaning Ite a b c) v r)
      by_several false there v r = v

  first_truth : (o : Owned) → kind_type o.var.kind ≡ T.Bool → IsFineOwned file checked o → IsTruth file checked (first_value file names o)
  first_truth o b h = by_start o.var.start (subst (λ t. IfAny (IsFixed file (own_variables file (unwrap_or o.owner (outside file))) t) o.var.start) b h.2)
    where
      by_start : (s : Option Expression) → IfAny (IsFixed file (own_variables file (unwrap_or o.owner (outside file))) T.Bool) s →
          IsTruth file checked (unwrap_or (option_map (image (value_name file names (outside file))) s) falsehood)
      by_start None k = refl
      by_start (Some e) k = as_truth file checked (image (value_name file names (outside file)) e) (fixed_image file checked (own_variables file (unwrap_or o.owner (outside file))) (outside file) T.Bool e k)

  label_truth : All (λ o. IsTruth file checked (label_body file names (first_value file names o) (given_to file o))) (labels file)
  label_truth i d l =
      let o = get_or (labels file) i d in
      let bool = is_boolean_type o.var.kind (and_parts o.var.transient (is_boolean o.var.kind) (filter_passes is_label (variables file) i d l)).1 in
      body_truth (first_value file names o) (given_to file o) (first_truth o bool (All-filter is_label (IsFineOwned file checked) (variables file) (variables_fine file checked) i d l))
      (givens_good o (All-filter is_label (Stands file checked) (variables file) (stands_all file checked) i d l) T.Bool (λ ty e h. subst (λ t. HasType ty t e) bool h))

  pub labels_clean : flat_map (demand_faults (translated file) 0) (flat_map label_demands (translated file).labels) ≡ []
  labels_clean =
      nothing_of (demand_faults (translated file) 0) label_demands (translated file).labels
      (All-map (λ b. flat_map (demand_faults (translated file) 0) (label_demands b) ≡ []) (λ p. label file names p.0 p.1.name) (zip (labels file) names.labels)
      (λ i d l. let o = (get_or (zip (labels file) names.labels) i d).0 in
      let body = label_body file names (first_value file names o) (given_to file o) in
      append_both (demand_faults (translated file) 0 (varying (wanted_by T.Bool) body)) []
      (varying_clean file checked 0 T.Bool body (has_truth file checked body (zipped_all (λ o. IsTruth file checked (label_body file names (first_value file names o) (given_to file o))) (labels file) names.labels label_truth i d l))) refl))

  -- ---- reward structures
  abbrev IsGoodItem : prism.Item → Type 0
  IsGoodItem i = HasPrismType (types (translated file)) T.Bool i.guard × HasPrismType (types (translated file)) T.Real i.value

  where_truth : (g : Given) → (has_several g.element ≡ true → (i : ℕ) → IsTruth file checked (is_there file names g.element.number i)) → IsTruth file checked (given_where file names g)
  where_truth g h = by_several (has_several g.element) h
    where
      by_several : (b : Bool) → (b ≡ true → (i : ℕ) → IsTruth file checked (is_there file names g.element.number i)) → IsTruth file checked (if b then is_there file names g.element.number g.location else truth)
      by_several true k = k refl g.location
      by_several false k = refl

  number_kind : (i : ℕ) (d : Owned) → i < length (structures file) → kind_type (get_or (structures file) i d).var.kind ≡ T.Bool → ⊥
  number_kind i d l =
      let o = get_or (structures file) i d in
      is_number_type o.var.kind (and_parts o.var.transient (not (is_boolean o.var.kind)) (filter_passes is_structure (variables file) i d l)).1

  state_items_good : All (λ o. All IsGoodItem (map (state_item file names) (given_to file o))) (structures file)
  state_items_good i d l =
      let o = get_or (structures file) i d in
      All-map IsGoodItem (state_item file names) (given_to file o)
      (λ n a m.
      let g = get_or (given_to file o) n a in
      let good = givens_good o (All-filter is_structure (Stands file checked) (variables file) (stands_all file checked) i d l) T.Real (λ ty e h. as_number ty (kind_type o.var.kind) e (number_kind i d l) h) n a m in
      (has_truth file checked (given_where file names g) (where_truth g good.0), good.1))

  -- what an edge assigns to a structure
  first_fine : (vs : List Var) (ds : List Destination) → Each (IsFineDestination file vs) ds → Each (IsFineWrite file vs) (first_writes ds)
  first_fine vs [] h = tt
  first_fine vs (d ∷ ds) h = h.0.1

  at_number : (j : ℕ) (o : Option ℕ) → is_at j o ≡ true → o ≡ Some j
  at_number j None h = absurd cc
  at_number j (Some k) h = ap Some (sym (eqb-true j k h))

  assigned_good : (j : ℕ) (a : Name) (p : Placed) → FineEdge file checked p → All IsGoodItem (map (target_item file names a p) (assigned_to file j p))
  assigned_good j a p h =
      let k = p.element.number in
      let vs = own_variables file k in
      let ws = first_writes p.edge.destinations in
      let test = λ (y : Write). is_at j (structure_number file k y.target.name) in
      All-map IsGoodItem (target_item file names a p) (assigned_to file j p)
      (All-map (λ e. IsGoodItem (target_item file names a p e)) (λ (y : Write). y.value) (filter test ws)
      (λ n d l.
      let y = get_or (filter test ws) n d in
      let there = at_number j (structure_number file k y.target.name) (filter_passes test ws n d l) in
      let typed = variable_typed file checked is_structure k y.target.name j there in
      let within = (placed_at (structures file) k y.target.name j there).within in
      let fine = All-filter test (IsFineWrite file vs) ws (All-from_recursion (IsFineWrite file vs) ws (first_fine vs p.edge.destinations h.1)) n d l in
      let value = fine (kind_type (get_or (structures file) j nobody).var.kind) typed in (
        has_truth file checked truth refl,
        fine_image file checked k T.Real y.value (as_number (types_in file k) (kind_type (get_or (structures file) j nobody).var.kind) y.value (number_kind j nobody within) value.0, value.1),
      )))

  target_items_good : (j : ℕ) → All IsGoodItem (flat_map (target_items file names j) (actions file names))
  target_items_good j =
      All-flat_map IsGoodItem (target_items file names j) (actions file names)
      (λ i d l. by_maker (get_or (actions file names) i d).name (get_or (actions file names) i d).target.maker
      (actions_have file (λ t. MakerHas file (FineEdge file checked) t.maker) (makers_have file (FineEdge file checked) (edges_fine file checked)) i d l))
    where
      by_maker : (a : Name) (o : Option Placed) → MakerHas file (FineEdge file checked) o → All IsGoodItem (target_items_by file names j a o)
      by_maker a None h = All-nil IsGoodItem
      by_maker a (Some p) h = assigned_good j a p h.0

  nought_good : (is : List prism.Item) → All IsGoodItem is → All IsGoodItem (or_nought file names is)
  nought_good [] h = All-cons IsGoodItem _ [] (has_truth file checked truth refl, counted_number file checked 0) (All-nil IsGoodItem)
  nought_good (i ∷ is) h = h

  item_clean : (i : prism.Item) → IsGoodItem i → flat_map (demand_faults (translated file) 0) (item_demands i) ≡ []
  item_clean i h =
      append_both (demand_faults (translated file) 0 (varying (wanted_by T.Bool) i.guard)) _ (varying_clean file checked 0 T.Bool i.guard h.0)
      (append_both (demand_faults (translated file) 0 (varying (wanted_by T.Real) i.value)) [] (varying_clean file checked 0 T.Real i.value h.1) refl)

  abbrev IsClean : prism.Rewards → Type 0
  IsClean r = flat_map (demand_faults (translated file) 0) (rewards_demands r) ≡ []

  items_clean : (is : List prism.Item) → All IsGoodItem is → flat_map (demand_faults (translated file) 0) (flat_map item_demands is) ≡ []
  items_clean is h = nothing_of (demand_faults (translated file) 0) item_demands is (λ n d l. item_clean (get_or is n d) (h n d l))

  structure_clean : (j : ℕ) (o : Owned) → All IsGoodItem (map (state_item file names) (given_to file o)) → All IsClean (structure file names j o (name_at names.rewards j) ∷ [])
  structure_clean j o h =
      let is = map (state_item file names) (given_to file o) ++ flat_map (target_items file names j) (actions file names) in
      All-cons IsClean (structure file names j o (name_at names.rewards j)) []
      (items_clean (or_nought file names is)
      (nought_good is (All-append IsGoodItem (map (state_item file names) (given_to file o)) (flat_map (target_items file names j) (actions file names)) h (target_items_good j))))
      (All-nil IsClean)

  pub rewards_clean : flat_map (demand_faults (translated file) 0) (flat_map rewards_demands (translated file).rewards) ≡ []
  rewards_clean =
      nothing_of (demand_faults (translated file) 0) rewards_demands (translated file).rewards
      (numbered_all (λ o. All IsGoodItem (map (state_item file names) (given_to file o))) IsClean (λ j o. structure file names j o (name_at names.rewards j) ∷ []) structure_clean 0 (structures file) state_items_good)
