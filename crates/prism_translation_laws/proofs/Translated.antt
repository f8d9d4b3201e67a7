-- The parts of a translated file may be spelled, and their names are declared.
use Rattle.std.specs.List.{flat_map, filter, zip, list_any, fold, AllByRecursion as Each}
use Rattle.std.specs.Prelude.{◌≡◌, ◌<◌, ℕ, ◌+◌, ◌-◌, List, [], ◌∷◌, ◌++◌, map, length, Bool, true, false, not, ◌&&◌, Option, Some, None, is_none, unwrap_or, if◌then◌else◌, slice_get}
use Rattle.std.proofs.Common.{refl, sym, ap, subst, ◌∙◌, arith}
use Rattle.std.specs.Option.{option_map}
use Rattle.std.proofs.lemmas.Option.{slice_get_within}
use Rattle.std.proofs.lemmas.List.Elements.{recursion_from_All}
use Rattle.std.proofs.lemmas.Bool.{and_parts}
use Rattle.basics.specs.Lists.{append_parts, IsNotEmpty as HasItems}
use Rattle.basics.specs.Each.{each_with, each_map, each_join, each_any, each_flat, each_filter, each_zip, each_found, any_map, at_each}
use Rattle.bridge_io.specs.declared.reason.Named.{Named}
use Rattle.op_trees.specs.declared.tree.Ty.TheVariants as T
use Rattle.op_trees.specs.Tree.{Truth, Number, Name as At, One, Two, Three}
use Rattle.op_trees.specs.SeenLaws.{names_then}
use Rattle.op_trees.specs.Names.{offset_of, is_called}
use Rattle.basics.specs.Options.{if_some, if_some as if_there, IfAny}
use Rattle.process_core.specs.Ready.{Name}
use Rattle.prism_lex.specs.declared.token.TokenKind.TheVariants.{Ident}
use Rattle.prism_lex.specs.Tokens.{IsKind}
use Rattle.prism_tree.specs.declared.operator.PrismOp.TheVariants.{And, Equal, Ite, Or}
use Rattle.prism_tree.specs.Syntax as prism
use Rattle.process_core.specs.Instance.{only_if}
use Rattle.prism_print.specs.Printable.{HasWeight, AreBranches}
use Rattle.jani_tree.specs.Syntax.{Expression, VarKind, boolean, integer, number, real_bounded, one_sided, bounded, Const, Var, Write, Destination, Edge, Vector, File, element_names}
use Rattle.jani_check.specs.Things.{kind_type}
use Rattle.jani_check.specs.ProfileFaults.{is_first, first_fault, start_faults}
use Rattle.bridge_io.specs.declared.reason.Reason.TheVariants.{TransientInitial}
use Rattle.name_rules.proofs.Plain.{no_fault}
use Rattle.jani_check.specs.Faults.{IsChecked}
use Rattle.jani_meaning.specs.Elements as jani
use Rattle.jani_meaning.specs.Elements.{Owned, is_boolean, is_lasting, is_label, is_owner, lasting, labels, structures, structure_number, place_of, location_number, initial_number}
use Rattle.prism_translation.specs.Entry.{Entry}
use Rattle.prism_translation.specs.PrismAsks.{NewNames, name_at, value_name, outside}
use Rattle.prism_translation.specs.Image.{image}
use Rattle.prism_translation.specs.Elements.{Element, elements, has_several, Placed, placed_edges, rewards, Lasting, lasting_variables, home, own, adopted, at_home, is_at, may_use}
use Rattle.prism_translation.specs.Targets.{Target, targets, targets_by, vector_targets, silent_targets, reward_writer, edges_named, names as names_it, is_silent, serves, serves_silently, is_blocked}
use Rattle.prism_translation.specs.Names.{new_names}
use Rattle.prism_flat.specs.Joined.{joined}
use Rattle.jani_meaning.specs.Scene.{has_condition}
use Rattle.prism_translation.specs.Conditions.{condition_parts, location_part, places, restriction_part, some_of, start_part}
use Rattle.prism_translation.specs.Parts.{made, counted, constant, range_of, scope_of, start_under, variable, location_name, location_variable, is_there}
use Rattle.prism_translation.specs.Modules.{truth, falsehood, all_of, Action, actions, guard, write_by, write, location_write, weight, branch, is_single, command, commands_of, blocking, commands, module_of}
use Rattle.prism_translation.specs.Marks.{Given, given_by, given_to, first_writes, assigned_to, given_image, given_where, label_body, first_value, label, state_item, target_item, target_items_by, target_items, or_nought, structure}
use Rattle.prism_translation.specs.Translated.{translated}
use Rattle.prism_translation.specs.Sound.{IsKnown}
use Rattle.prism_translation.proofs.ColumnNames.{below}
use Rattle.prism_translation.proofs.Clean.{has_element}
use Rattle.prism_translation_laws.proofs.Lists.{each_only, each_numbered}
use Rattle.prism_translation_laws.proofs.Good.{Good, GoodConst, GoodRange, GoodVar, GoodLabel, GoodWrite, GoodBranch, GoodCommand, GoodBody, GoodModule, GoodItem, GoodRewards, is_value, IsGood}
use Rattle.prism_translation_laws.proofs.Images.{counted_good, name_good, two_good, three_good, image_good, GoodName}
use Rattle.prism_translation_laws.proofs.Entries.{IsValidName}
use Rattle.prism_translation_laws.proofs.Known.{Fine, FineKind, FineWrite, FineLocation, FineDestination, FineEdge, FineOwned, FineElement, IsFine, is_fine}
use Rattle.prism_translation_laws.proofs.Segments.{variable_spelled, valid_from, valid_actions, labels_spelled, location_spelled, module_spelled, reward_spelled}
use Rattle.prism_translation_laws.proofs.Values.{known_good, place_good, location_value, variable_value}

-- those that are kept pass the test
each_kept : {A : Type 0} (P : A → Type 0) (p : A → Bool) (xs : List A) → Each P xs → Each (λ x. P x × (p x ≡ true)) (filter p xs)
each_kept P p [] h = tt
each_kept {A = A} P p (x ∷ xs) h = by_test (p x) refl (each_kept P p xs h.1)
  where
    by_test : (b : Bool) → p x ≡ b → Each (λ x. P x × (p x ≡ true)) (filter p xs) → Each (λ x. P x × (p x ≡ true)) (if b then x ∷ filter p xs else filter p xs)
    by_test true e r = ((h.0, e), r)
    by_test false e r = r

module _ (file : File) (all : IsFine file) (some : 0 < length (element_names file)) where
  abbrev n : ℕ
  n = length (element_names file)

  abbrev names : NewNames
  names = new_names file

  abbrev known : Name → Bool
  known = is_value (translated file)

  truth_good : (b : Bool) → Good known (Truth 0 b)
  truth_good b = (tt, refl)

  -- ---- expressions
  new_good : (k : ℕ) (e : Expression) → Fine (IsKnown file k) e → Good known (image (value_name file names k) e)
  new_good k e f = image_good known (value_name file names k) e f.0 (names_then (IsKnown file k) (GoodName known (value_name file names k)) (known_good file some k) e f.1)

  new_any : (k : ℕ) (o : Option Expression) → IfAny (Fine (IsKnown file k)) o → IfAny (Good known) (option_map (image (value_name file names k)) o)
  new_any k o f = any_map (Fine (IsKnown file k)) (Good known) (image (value_name file names k)) (new_good k) o f

  -- ---- constants and variables
  constant_good : (c : Const) (e : Entry) → IfAny (Fine (IsKnown file (outside file))) c.value → IsValidName e → GoodConst known (constant file names c e.name)
  constant_good c e f w = (w.spelled, new_any (outside file) c.value f)

  range_good : (k : ℕ) (kind : VarKind) → FineKind (IsKnown file k) kind → IfAny (GoodRange known) (range_of file names (value_name file names k) kind)
  range_good k boolean f = tt
  range_good k integer f = tt
  range_good k number f = tt
  range_good k real_bounded f = tt
  range_good k one_sided f = tt
  range_good k (bounded low high) f = (new_good k low f.0, new_good k high f.1)

  started_good : (b : Bool) (s : Option prism.Expression) → IfAny (Good known) s → IfAny (Good known) (start_under file names b s)
  started_good true s g = tt
  started_good false s g = g

  abbrev GoodLasting : Lasting → Type 0
  GoodLasting x = GoodVar known (variable file names x)

  variables_good : Each GoodLasting (lasting_variables file)
  variables_good =
      each_numbered GoodLasting (λ i o. record { number = i; owned = o } ∷ []) 0 (lasting file)
      (λ i o e.
      let z : i ≡ 0 + i = omega arith in
      let f = at_each (FineOwned file) (lasting file) i o (each_filter (FineOwned file) is_lasting (jani.variables file) all.variables) e in
      let k = scope_of file names o in
      subst (λ j. Each GoodLasting (record { number = j; owned = o } ∷ [])) z
      ((variable_spelled file i (slice_get_within (lasting file) i o e), range_good k o.var.kind f.var.0, started_good (has_condition file) (option_map (image (value_name file names k)) o.var.start) (new_any k o.var.start f.var.1)), tt))

  some_good : (p : Lasting → Bool) → Each (GoodVar known) (map (variable file names) (filter p (lasting_variables file)))
  some_good p = each_map GoodLasting (GoodVar known) (variable file names) (λ x g. g) (filter p (lasting_variables file)) (each_filter GoodLasting p (lasting_variables file) variables_good)

  -- ---- elements
  record GoodElement (el : Element) : Type 0 where
    fine : FineElement file el
    within : el.number < n
    located : has_several el ≡ true → known (location_name file names el.number) ≡ true

  elements_good : Each GoodElement (elements file)
  elements_good =
      each_with (FineElement file) (λ el. (el.number < n) × (has_several el ≡ true → known (location_name file names el.number) ≡ true)) GoodElement
      (λ el f h. record { fine = f; within = h.0; located = h.1 }) (elements file) all.elements
      (each_with (λ el. el.number < n) (λ el. has_several el ≡ true → known (location_name file names el.number) ≡ true) _ (λ el p q. (p, q)) (elements file)
      (recursion_from_All (λ el. el.number < n) (elements file) (below file))
      (recursion_from_All (λ el. has_several el ≡ true → known (location_name file names el.number) ≡ true) (elements file) (location_value file)))

  there_good : (el : Element) → GoodElement el → has_several el ≡ true → (i : ℕ) → Good known (is_there file names el.number i)
  there_good el g h i =
      two_good known 0 Equal (At 0 (location_name file names el.number)) (counted i) refl (name_good known 0 (location_name file names el.number) (location_spelled file el.number g.within) (g.located h))
      (counted_good known i)

  abbrev FinePlaced : Placed → Type 0
  FinePlaced p = FineEdge (IsKnown file p.element.number) p.edge

  placed_good : (el : Element) → GoodElement el → Each FinePlaced (placed_edges el)
  placed_good el g =
      each_numbered FinePlaced (λ i e. record { element = el; number = i; edge = e } ∷ []) 0 el.automaton.edges
      (λ i e h. (at_each (FineEdge (IsKnown file el.number)) el.automaton.edges i e g.fine.2 h, tt))

  -- ---- targets and actions
  abbrev GoodTarget : Target → Type 0
  GoodTarget t = IfAny FinePlaced t.maker

  vector_good : (v : Vector) (o : Option Element) → IfAny GoodElement o → Each GoodTarget (targets_by file v o)
  vector_good v None g = (tt, tt)
  vector_good v (Some el) g =
      each_join GoodTarget (map (λ p. record { vector = Some v; writer = Some el.number; maker = Some p }) (filter (rewards file) (edges_named v el)))
      (only_if (list_any (λ p. not (rewards file p)) (edges_named v el)) (record { vector = Some v; writer = Some el.number; maker = None }))
      (each_map FinePlaced GoodTarget (λ p. record { vector = Some v; writer = Some el.number; maker = Some p }) (λ p h. h) (filter (rewards file) (edges_named v el))
      (each_filter FinePlaced (rewards file) (edges_named v el) (each_filter FinePlaced (names_it v) (placed_edges el) (placed_good el g))))
      (each_only GoodTarget (list_any (λ p. not (rewards file p)) (edges_named v el)) (record { vector = Some v; writer = Some el.number; maker = None }) (λ e. tt))

  vectors_good : (vs : List Vector) → Each GoodTarget (flat_map (vector_targets file) vs)
  vectors_good [] = tt
  vectors_good (v ∷ vs) =
      each_join GoodTarget (vector_targets file v) (flat_map (vector_targets file) vs)
      (vector_good v (reward_writer file v) (each_found GoodElement (λ el. list_any (rewards file) (edges_named v el)) (elements file) elements_good)) (vectors_good vs)

  silent_good : Each GoodTarget (silent_targets file)
  silent_good =
      each_flat GoodElement GoodTarget (λ el. map (λ p. record { vector = None; writer = None; maker = Some p }) (filter (λ p. is_silent p && rewards file p) (placed_edges el)))
      (λ el g.
      each_map FinePlaced GoodTarget (λ p. record { vector = None; writer = None; maker = Some p }) (λ p h. h) (filter (λ p. is_silent p && rewards file p) (placed_edges el))
      (each_filter FinePlaced (λ p. is_silent p && rewards file p) (placed_edges el) (placed_good el g))) (elements file) elements_good

  abbrev GoodAction : Action → Type 0
  GoodAction t = GoodTarget t.target × IsKind t.name Ident

  actions_good : Each GoodAction (actions file names)
  actions_good =
      each_map (λ p. GoodTarget p.0 × IsValidName p.1) GoodAction (λ p. record { target = p.0; name = p.1.name }) (λ p h. (h.0, h.1.spelled)) _
      (each_zip GoodTarget IsValidName (targets file) names.actions (each_join GoodTarget (flat_map (vector_targets file) file.vectors) (silent_targets file) (vectors_good file.vectors) silent_good)
      (valid_actions file))

  -- ---- commands
  all_good : (e : prism.Expression) (es : List prism.Expression) → Good known e → Each (Good known) es → Good known (fold (λ a b. Two 0 And a b) e es)
  all_good e [] g h = g
  all_good e (f ∷ fs) g h = all_good (Two 0 And e f) fs (two_good known 0 And e f refl g h.0) h.1

  all_of_good : (es : List prism.Expression) → Each (Good known) es → Good known (all_of es)
  all_of_good [] h = truth_good true
  all_of_good (e ∷ es) h = all_good e es h.0 h.1

  module _ (el : Element) (g : GoodElement el) where
    some_image : (o : Option Expression) → IfAny (Fine (IsKnown file el.number)) o → Each (Good known) (map (image (value_name file names el.number)) (if_some o))
    some_image None f = tt
    some_image (Some e) f = (new_good el.number e f, tt)

    guard_good : (e : Edge) → IfAny (Fine (IsKnown file el.number)) e.guard → Good known (guard file names el e)
    guard_good e f =
        all_of_good (only_if (has_several el) (is_there file names el.number (location_number el.automaton e.location.name)) ++ map (image (value_name file names el.number)) (if_some e.guard))
        (each_join (Good known) (only_if (has_several el) (is_there file names el.number (location_number el.automaton e.location.name))) (map (image (value_name file names el.number)) (if_some e.guard))
        (each_only (Good known) (has_several el) (is_there file names el.number (location_number el.automaton e.location.name))
        (λ h. there_good el g h (location_number el.automaton e.location.name))) (some_image e.guard f))

    write_good : (w : Write) → Fine (IsKnown file el.number) w.value → Each (GoodWrite known) (write file names el w)
    write_good w f = by_place (place_of (lasting file) el.number w.target.name) refl
      where
        by_place : (o : Option ℕ) → place_of (lasting file) el.number w.target.name ≡ o → Each (GoodWrite known) (write_by file names el o w)
        by_place None e = tt
        by_place (Some i) e = let p = place_good file some el.number w.target.name i e in ((p.0, p.1, new_good el.number w.value f), tt)

    weight_good : (single : Bool) (o : Option Expression) → IfAny (Fine (IsKnown file el.number)) o → IfAny (Good known) (weight file names el single o)
    weight_good single (Some e) f = new_good el.number e f
    weight_good true None f = tt
    weight_good false None f = counted_good known 1

    branch_good : (single : Bool) (d : Destination) → FineDestination (IsKnown file el.number) d → GoodBranch known (branch file names el single d)
    branch_good single d f = (
      weight_good single d.weight f.0,
      each_join (GoodWrite known) (location_write file names el d) (flat_map (write file names el) d.writes)
          (each_only (GoodWrite known) (has_several el) (record { name = made (location_name file names el.number); value = counted (location_number el.automaton d.location.name) })
          (λ h. (location_spelled file el.number g.within, g.located h, counted_good known (location_number el.automaton d.location.name))))
          (each_flat (FineWrite (IsKnown file el.number)) (GoodWrite known) (write file names el) write_good d.writes f.1),
    )

    has_weight : (d : Destination) → HasWeight (branch file names el false d)
    has_weight d = by_weight d.weight
      where
        by_weight : (o : Option Expression) → (e : prism.Expression) × (weight file names el false o ≡ Some e)
        by_weight None = (counted 1, refl)
        by_weight (Some e) = (image (value_name file names el.number) e, refl)

    are_branches : (ds : List Destination) → HasItems ds → AreBranches (map (branch file names el (is_single file names el ds)) ds)
    are_branches [] h = h
    are_branches (d ∷ []) h = tt
    are_branches (d ∷ e ∷ ds) h = each_any HasWeight (branch file names el false) has_weight (d ∷ e ∷ ds)

    command_good : (e : Edge) (a : Option Name) → FineEdge (IsKnown file el.number) e → IfAny (λ x. IsKind x Ident) a → GoodCommand known (command file names el e a)
    command_good e a f h = (
      any_map (λ x. IsKind x Ident) (λ (x : Named). IsKind x.name Ident) made (λ x i. i) a h,
      guard_good e f.0,
      are_branches e.destinations f.1,
      each_map (FineDestination (IsKnown file el.number)) (GoodBranch known) (branch file names el (is_single file names el e.destinations)) (branch_good (is_single file names el e.destinations)) e.destinations f.2,
    )

    commands_of_good : (p : Placed) → FineEdge (IsKnown file el.number) p.edge → Each (GoodCommand known) (commands_of file names el p)
    commands_of_good p f =
        each_join (GoodCommand known) (map (λ t. command file names el p.edge (Some t.name)) (filter (λ t. serves file t.target p) (actions file names)))
        (only_if (serves_silently file p) (command file names el p.edge None))
        (each_map GoodAction (GoodCommand known) (λ t. command file names el p.edge (Some t.name)) (λ t h. command_good p.edge (Some t.name) f h.1)
        (filter (λ t. serves file t.target p) (actions file names)) (each_filter GoodAction (λ t. serves file t.target p) (actions file names) actions_good))
        (each_only (GoodCommand known) (serves_silently file p) (command file names el p.edge None) (λ e. command_good p.edge None f tt))

    edges_good : Each (λ p. FineEdge (IsKnown file el.number) p.edge) (placed_edges el)
    edges_good =
        each_numbered (λ p. FineEdge (IsKnown file el.number) p.edge) (λ i e. record { element = el; number = i; edge = e } ∷ []) 0 el.automaton.edges
        (λ i e h. (at_each (FineEdge (IsKnown file el.number)) el.automaton.edges i e g.fine.2 h, tt))

    commands_good : Each (GoodCommand known) (commands file names el)
    commands_good =
        each_join (GoodCommand known) (flat_map (commands_of file names el) (placed_edges el)) (map (λ t. blocking file names el t.name) (filter (λ t. is_blocked file el t.target) (actions file names)))
        (each_flat (λ p. FineEdge (IsKnown file el.number) p.edge) (GoodCommand known) (commands_of file names el) commands_of_good (placed_edges el) edges_good)
        (each_map GoodAction (GoodCommand known) (λ t. blocking file names el t.name) (λ t h. (h.1, truth_good false, tt, ((tt, tt), tt)))
        (filter (λ t. is_blocked file el t.target) (actions file names)) (each_filter GoodAction (λ t. is_blocked file el t.target) (actions file names) actions_good))

    module_good : GoodBody known (module_of file names el)
    module_good = (
      module_spelled file el.number g.within,
      each_join (GoodVar known) (only_if (has_several el) (location_variable file names el)) (map (variable file names) (at_home file el.number))
          (each_only (GoodVar known) (has_several el) (location_variable file names el)
          (λ h. (location_spelled file el.number g.within, (counted_good known 0, counted_good known (length el.automaton.locations - 1)), started_good (has_condition file) (Some (counted (initial_number el.automaton))) (counted_good known (initial_number el.automaton)))))
          (each_map GoodLasting (GoodVar known) (variable file names) (λ x v. v) (at_home file el.number)
          (each_join GoodLasting (own file el.number) (adopted file el.number)
          (each_filter GoodLasting (λ x. is_owner el.number x.owned.owner) (lasting_variables file) variables_good)
          (each_filter GoodLasting (λ x. is_none x.owned.owner && is_at el.number (home file x)) (lasting_variables file) variables_good))),
      commands_good,
    )

  -- ---- what locations give
  abbrev GoodGiven : Given → Type 0
  GoodGiven x = GoodElement x.element × Fine (IsKnown file x.element.number) x.value

  given_by_good : (x : Name) (el : Element) → GoodElement el → Each GoodGiven (given_by x el)
  given_by_good x el g =
      each_numbered GoodGiven (λ i l. map (λ w. record { element = el; location = i; value = w.value }) (filter (λ w. is_called x w.target) l.values)) 0 el.automaton.locations
      (λ i l e.
      let f = at_each (FineLocation (IsKnown file el.number)) el.automaton.locations i l g.fine.1 e in
      each_map (FineWrite (IsKnown file el.number)) GoodGiven (λ w. record { element = el; location = 0 + i; value = w.value }) (λ w h. (g, h)) (filter (λ w. is_called x w.target) l.values)
      (each_filter (FineWrite (IsKnown file el.number)) (λ w. is_called x w.target) l.values f))

  given_good : (o : Owned) → Each GoodGiven (given_to file o)
  given_good o = each_flat GoodElement GoodGiven (λ el. if may_use el.number o.owner then given_by o.var.name.name el else []) each_element (elements file) elements_good
    where
      each_element : (el : Element) → GoodElement el → Each GoodGiven (if may_use el.number o.owner then given_by o.var.name.name el else [])
      each_element el g = by_use (may_use el.number o.owner)
        where
          by_use : (b : Bool) → Each GoodGiven (if b then given_by o.var.name.name el else [])
          by_use true = given_by_good o.var.name.name el g
          by_use false = tt

  image_is_good : (x : Given) → GoodGiven x → Good known (given_image file names x)
  image_is_good x g = new_good x.element.number x.value g.1

  where_good : (x : Given) → GoodGiven x → Good known (given_where file names x)
  where_good x g = by_several (has_several x.element) refl
    where
      by_several : (b : Bool) → has_several x.element ≡ b → Good known (if b then is_there file names x.element.number x.location else truth)
      by_several true e = there_good x.element g.0 e x.location
      by_several false e = truth_good true

  -- ---- labels
  body_good : (other : prism.Expression) (xs : List Given) → Good known other → Each GoodGiven xs → Good known (label_body file names other xs)
  body_good other [] h g = h
  body_good other (x ∷ xs) h g = by_several (has_several x.element) refl (body_good other xs h g.1)
    where
      by_several : (b : Bool) → has_several x.element ≡ b → Good known (label_body file names other xs) →
          Good known (if b then Three 0 Ite (is_there file names x.element.number x.location) (given_image file names x) (label_body file names other xs) else given_image file names x)
      by_several true e r =
          three_good known 0 Ite (is_there file names x.element.number x.location) (given_image file names x) (label_body file names other xs) refl (there_good x.element g.0.0 e x.location) (image_is_good x g.0) r
      by_several false e r = image_is_good x g.0

  not_not : (b : Bool) → not b ≡ false → b ≡ true
  not_not true e = refl
  not_not false e = absurd cc

  truth_kept : (f : Name → Name) (e : Expression) → is_first T.Bool e ≡ true → Good known (image f e)
  truth_kept f (Truth at b) h = (tt, refl)
  truth_kept f (Number at d) h = absurd cc
  truth_kept f (At at x) h = absurd cc
  truth_kept f (One at o a) h = absurd cc
  truth_kept f (Two at o a b) h = absurd cc
  truth_kept f (Three at o a b c) h = absurd cc

  first_good : (f : Name → Name) (kind : VarKind) (s : Option Expression) → is_boolean kind ≡ true → flat_map (first_fault (kind_type kind)) (if_there s) ≡ [] →
      Good known (unwrap_or (option_map (image f) s) falsehood)
  first_good f kind None b h = truth_good false
  first_good f boolean (Some e) b h =
      let i = is_first T.Bool e in
      truth_kept f e (not_not i (no_fault (not i) (offset_of e) TransientInitial (append_parts (first_fault T.Bool e) [] h).0))
  first_good f integer (Some e) b h = absurd cc
  first_good f number (Some e) b h = absurd cc
  first_good f real_bounded (Some e) b h = absurd cc
  first_good f one_sided (Some e) b h = absurd cc
  first_good f (bounded low high) (Some e) b h = absurd cc

  starts_as : (x : Var) → x.transient ≡ true → start_faults x ≡ [] → flat_map (first_fault (kind_type x.kind)) (if_there x.start) ≡ []
  starts_as x t h = sym (ap (λ b. if b then flat_map (first_fault (kind_type x.kind)) (if_there x.start) else []) t) ∙ h

  label_good : (o : Owned) (e : Entry) → FineOwned file o × (is_label o ≡ true) → IsValidName e → GoodLabel known (label file names o e.name)
  label_good o e f w =
      let b = and_parts o.var.transient (is_boolean o.var.kind) f.1 in (
        w.spelled.0,
        body_good (first_value file names o) (given_to file o) (first_good (value_name file names (outside file)) o.var.kind o.var.start b.1 (starts_as o.var b.0 f.0.start)) (given_good o),
      )

  -- ---- reward structures
  state_good : (x : Given) → GoodGiven x → GoodItem known (state_item file names x)
  state_good x g = (tt, where_good x g, image_is_good x g)

  assigned_good : (j : ℕ) (p : Placed) → FinePlaced p → Each (Fine (IsKnown file p.element.number)) (assigned_to file j p)
  assigned_good j p f =
      let P = IsKnown file p.element.number in
      each_map (FineWrite P) (Fine P) (λ w. w.value) (λ w h. h) (filter (λ w. is_at j (structure_number file p.element.number w.target.name)) (first_writes p.edge.destinations))
      (each_filter (FineWrite P) (λ w. is_at j (structure_number file p.element.number w.target.name)) (first_writes p.edge.destinations) (first_of p.edge.destinations f.2))
    where
      first_of : (ds : List Destination) → Each (FineDestination (IsKnown file p.element.number)) ds → Each (FineWrite (IsKnown file p.element.number)) (first_writes ds)
      first_of [] h = tt
      first_of (d ∷ ds) h = h.0.1

  target_good : (j : ℕ) (a : Name) (o : Option Placed) → IsKind a Ident → IfAny FinePlaced o → Each (GoodItem known) (target_items_by file names j a o)
  target_good j a None i f = tt
  target_good j a (Some p) i f =
      each_map (Fine (IsKnown file p.element.number)) (GoodItem known) (target_item file names a p) (λ e h. (i, truth_good true, new_good p.element.number e h)) (assigned_to file j p) (assigned_good j p f)

  or_nought_good : (is : List prism.Item) → Each (GoodItem known) is → Each (GoodItem known) (or_nought file names is)
  or_nought_good [] h = ((tt, truth_good true, counted_good known 0), tt)
  or_nought_good (i ∷ is) h = h

  structure_good : (j : ℕ) (o : Owned) → j < length (structures file) → GoodRewards known (structure file names j o (name_at names.rewards j))
  structure_good j o l = (
    (reward_spelled file j l).0,
    or_nought_good (map (state_item file names) (given_to file o) ++ flat_map (target_items file names j) (actions file names))
        (each_join (GoodItem known) (map (state_item file names) (given_to file o)) (flat_map (target_items file names j) (actions file names))
        (each_map GoodGiven (GoodItem known) (state_item file names) state_good (given_to file o) (given_good o))
        (each_flat GoodAction (GoodItem known) (target_items file names j) (λ t h. target_good j t.name t.target.maker h.1 h.0) (actions file names) actions_good)),
  )

  -- ---- the initial condition
  some_joined : (e : prism.Expression) (es : List prism.Expression) → Good known e → Each (Good known) es → Good known (joined Or e es)
  some_joined e [] g h = g
  some_joined e (x ∷ xs) g h = some_joined (Two 0 Or e x) xs (two_good known 0 Or e x refl g h.0) h.1

  some_of_good : (es : List prism.Expression) → Each (Good known) es → Good known (some_of es)
  some_of_good [] h = truth_good true
  some_of_good (e ∷ es) h = some_joined e es h.0 h.1

  places_good : (el : Element) → GoodElement el → Each (Good known) (location_part file names el)
  places_good el g =
      each_only (Good known) (has_several el) (some_of (places file names el))
      (λ h. some_of_good (places file names el) (each_any (Good known) (λ (n : Named). is_there file names el.number (location_number el.automaton n.name)) (λ n. there_good el g h (location_number el.automaton n.name)) el.automaton.initial))

  start_part_good : (i : ℕ) (o : Owned) → slice_get (lasting file) i ≡ Some o → Each (Good known) (start_part file names (record { number = i; owned = o }))
  start_part_good i o e = by_start o.var.start f.var.1
    where
      f : FineOwned file o
      f = at_each (FineOwned file) (lasting file) i o (each_filter (FineOwned file) is_lasting (jani.variables file) all.variables) e

      k : ℕ
      k = scope_of file names o

      within : i < length (lasting file)
      within = slice_get_within (lasting file) i o e

      by_start : (s : Option Expression) → IfAny (Fine (IsKnown file k)) s →
          Each (Good known) (map (λ e. Two 0 Equal (At 0 (name_at names.variables i)) (image (value_name file names k) e)) (if_some s))
      by_start None h = tt
      by_start (Some e) h =
          (two_good known 0 Equal (At 0 (name_at names.variables i)) (image (value_name file names k) e) refl (name_good known 0 (name_at names.variables i) (variable_spelled file i within) (variable_value file some i within)) (new_good k e h), tt)

  starts_good : Each (Good known) (flat_map (start_part file names) (lasting_variables file))
  starts_good =
      each_flat (λ x. Each (Good known) (start_part file names x)) (Good known) (start_part file names) (λ x g. g) (lasting_variables file)
      (each_numbered (λ x. Each (Good known) (start_part file names x)) (λ i o. record { number = i; owned = o } ∷ []) 0 (lasting file)
      (λ i o e. let z : i ≡ 0 + i = omega arith in subst (λ j. Each (λ x. Each (Good known) (start_part file names x)) (record { number = j; owned = o } ∷ [])) z (start_part_good i o e, tt)))

  restriction_good : (o : Option Expression) → IfAny (Fine (IsKnown file (outside file))) o → Each (Good known) (map (image (value_name file names (outside file))) (if_some o))
  restriction_good None h = tt
  restriction_good (Some e) h = (new_good (outside file) e h, tt)

  condition_good : (b : Bool) → IfAny (Good known) (if b then Some (all_of (condition_parts file names)) else None)
  condition_good false = tt
  condition_good true =
      all_of_good (condition_parts file names)
      (each_join (Good known) (flat_map (location_part file names) (elements file)) (flat_map (start_part file names) (lasting_variables file) ++ restriction_part file names)
      (each_flat GoodElement (Good known) (location_part file names) places_good (elements file) elements_good)
      (each_join (Good known) (flat_map (start_part file names) (lasting_variables file)) (restriction_part file names) starts_good (restriction_good file.restrict all.restrict)))

  -- ---- the file
  is_good : IsGood (translated file)
  is_good = record {
    constants =
        each_map (λ p. IfAny (Fine (IsKnown file (outside file))) (p.0).value × IsValidName p.1) (GoodConst known) (λ p. constant file names p.0 p.1.name) (λ p h. constant_good p.0 p.1 h.0 h.1) (zip file.constants names.constants)
        (each_zip (λ c. IfAny (Fine (IsKnown file (outside file))) c.value) IsValidName file.constants names.constants all.constants (valid_from file 0 (length file.constants)));
    globals = some_good (λ x. is_none (home file x));
    formulas = refl;
    modules = each_map GoodElement (GoodModule known) (λ el. prism.plain (module_of file names el)) (λ el g. module_good el g) (elements file) elements_good;
    labels =
        each_map (λ p. (FineOwned file p.0 × (is_label p.0 ≡ true)) × IsValidName p.1) (GoodLabel known) (λ p. label file names p.0 p.1.name) (λ p h. label_good p.0 p.1 h.0 h.1) (zip (labels file) names.labels)
        (each_zip (λ o. FineOwned file o × (is_label o ≡ true)) IsValidName (labels file) names.labels (each_kept (FineOwned file) is_label (jani.variables file) all.variables) (labels_spelled file));
    rewards =
        each_numbered (GoodRewards known) (λ j o. structure file names j o (name_at names.rewards j) ∷ []) 0 (structures file)
        (λ j o e. let z : j ≡ 0 + j = omega arith in subst (λ i. Each (GoodRewards known) (structure file names i o (name_at names.rewards i) ∷ [])) z (structure_good j o (slice_get_within (structures file) j o e), tt));
    init = condition_good (has_condition file);
  }

pub translated_good : (file : File) → IsChecked file → IsGood (translated file)
translated_good file checked = is_good file (is_fine file checked) (has_element file checked)
