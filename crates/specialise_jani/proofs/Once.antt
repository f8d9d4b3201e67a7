-- In a file of the profile each constant is the first of its name, no constants lead round in a circle, and no variable has the name of a constant.
use Rattle.std.specs.Prelude.{◌≡◌, ℕ, suc, ◌+◌, cond, List, [], ◌∷◌, ◌++◌, map, Bool, true, false, ◌&&◌, ◌||◌, Option, Some, None, bytes_eq, is_none, length, unwrap_or}
use Rattle.std.specs.List.{find, flat_map, list_any, position, AllByRecursion as Each}
use Rattle.std.specs.Option.{option_map, option_or}
use Rattle.std.proofs.Common.{refl, sym, ap, ap₂, ◌∙◌, append-nil}
use Rattle.std.proofs.lemmas.List.Folds.{list_any-append}
use Rattle.basics.specs.Booleans.{first_false, second_false}
use Rattle.basics.specs.Members.{position_cons}
use Rattle.basics.specs.Each.{each_filter, each_found, each_join, each_map, each_none, each_then, empty_each, map_each}
use Rattle.basics.specs.Lists.{append_left, append_right}
use Rattle.basics.specs.Options.{IfAny}
use Rattle.bridge_io.specs.declared.reason.Named.{Named}
use Rattle.bridge_io.specs.declared.reason.Reason.TheVariants.{TwiceNamed}
use Rattle.op_trees.specs.Names.{is_called, names_of}
use Rattle.name_rules.specs.Circles.{circles as circles_of}
use Rattle.name_rules.specs.Doubled.{doubled, doubled_after}
use Rattle.name_rules.specs.Least.{or_else}
use Rattle.name_rules.specs.Uses.{used}
use Rattle.process_core.specs.Ready.{Name}
use Rattle.process_core.specs.Product.{map-map}
use Rattle.process_core.specs.Instance.{numbered}
use Rattle.jani_tree.specs.Syntax.{Expression, Const, Var, Automaton, File, element_names, Element}
use Rattle.jani_check.specs.Circles.{const_declared}
use Rattle.jani_check.specs.Faults.{IsChecked}
use Rattle.jani_check.specs.NameFaults.{automaton_names, circles, composition_faults, doubled_in, doubled_names, global_names, location_names, name_faults, unknown_names, var_names}
use Rattle.jani_check.specs.ProfileFaults.{profile_faults}
use Rattle.jani_check.specs.TypeFaults.{type_faults}
use Rattle.jani_check.proofs.Profiled.{first_none, rest_none}
use Rattle.jani_check.proofs.SameCircles.{same_circles}
use Rattle.jani_meaning.specs.Loops.{with_loops}
use Rattle.jani_meaning.specs.Elements.{Owned, automaton_called, elements, is_global, is_lasting, is_own, is_owner, lasting, nothing_called, owned_by, place_of, variables, element_automaton}
use Rattle.constant_folding.specs.Constants.{called, declared}
use Rattle.constant_folding.proofs.Once.{apart_from, called_there, flipped, others_apart, own_constants}
use Rattle.specialise_jani.specs.Specialised.{any_const, any_constants}
use Rattle.specialise_jani.specs.SameMeaning.{AreApart}
use Rattle.specialise_jani.proofs.ConstantLaws.{any_called}

-- the constants as declarations that use names
uses_same : (o : Option Expression) → used o ≡ map (λ n. n.name) (flat_map names_of (elim o as (λ r. List Expression) [ None ↦ [] | Some e ↦ e ∷ [] ]))
uses_same None = refl
uses_same (Some e) = ap (map (λ n. n.name)) (sym (append-nil (names_of e)))

declared_same : (c : Const) → declared (any_const c) ≡ const_declared c
declared_same c = ap (λ us. record { name = c.name; uses = us }) (uses_same c.value)

declared_all : (cs : List Const) → map declared (map any_const cs) ≡ map const_declared cs
declared_all [] = refl
declared_all (c ∷ cs) = ap₂ (λ d ds. d ∷ ds) (declared_same c) (declared_all cs)

pub circles_same : (file : File) → circles_of (map declared (any_constants file)) ≡ circles file
circles_same file = ap circles_of (declared_all file.constants) ∙ same_circles file.constants

position_none : {A : Type 0} (p : A → Bool) (xs : List A) → list_any p xs ≡ false → position p xs ≡ None
position_none p [] h = refl
position_none p (x ∷ xs) h =
    position_cons p x xs ∙ ap (λ b. cond b (Some 0) (option_map suc (position p xs))) (first_false (p x) (list_any p xs) h)
    ∙ ap (option_map suc) (position_none p xs (second_false (p x) (list_any p xs) h))

and_none : (a b : Bool) → b ≡ false → (a && b) ≡ false
and_none true b h = h
and_none false b h = refl

-- ---- a name that no variable has
module _ (x : Name) where
  abbrev HasOther : Owned → Type 0
  HasOther o = is_called x o.var.name ≡ false

  owned_others : (owner : Option ℕ) (xs : List Var) → Each (λ m. bytes_eq x m.name ≡ false) (var_names xs) → Each HasOther (owned_by owner xs)
  owned_others owner xs h =
      each_map (λ v. bytes_eq x v.name.name ≡ false) HasOther (λ v. record { owner = owner; var = v }) (λ v k. flipped x v.name.name k) xs
      (map_each (λ m. bytes_eq x m.name ≡ false) (λ v. v.name) xs h)

  elements_others : (i : ℕ) (as_ : List Automaton) → Each (λ a. Each (λ m. bytes_eq x m.name ≡ false) (var_names a.variables)) as_ →
      Each HasOther (numbered (λ j a. owned_by (Some j) a.variables) i as_)
  elements_others i [] h = tt
  elements_others i (a ∷ as_) h =
      each_join HasOther (owned_by (Some i) a.variables) (numbered (λ j b. owned_by (Some j) b.variables) (i + 1) as_) (owned_others (Some i) a.variables h.0) (elements_others (i + 1) as_ h.1)

  no_place : (i : ℕ) (vars : List Owned) → Each HasOther vars → place_of vars i x ≡ None
  no_place i vars h =
      ap₂ option_or
      (position_none (is_own i x) vars (each_none (is_own i x) vars (each_then HasOther (λ o. is_own i x o ≡ false) (λ o k. and_none (is_owner i o.owner) (is_called x o.var.name) k) vars h)))
      (position_none (is_global x) vars (each_none (is_global x) vars (each_then HasOther (λ o. is_global x o ≡ false) (λ o k. and_none (is_none o.owner) (is_called x o.var.name) k) vars h)))

module _ (file : File) (checked : IsChecked file) where
  pub no_names : name_faults file ≡ []
  no_names = first_none (name_faults file) (or_else (type_faults file) (profile_faults file)) checked.clean

  later_none : or_else (type_faults file) (profile_faults file) ≡ []
  later_none = rest_none (name_faults file) (or_else (type_faults file) (profile_faults file)) checked.clean

  pub no_types : type_faults file ≡ []
  no_types = first_none (type_faults file) (profile_faults file) later_none

  pub no_profile : profile_faults file ≡ []
  no_profile = rest_none (type_faults file) (profile_faults file) later_none

  pub once_here : doubled_names file ≡ []
  once_here = append_left (doubled_names file) (unknown_names file ++ (circles file ++ composition_faults file)) no_names

  pub none_unknown : unknown_names file ≡ []
  none_unknown =
      append_left (unknown_names file) (circles file ++ composition_faults file)
      (append_right (doubled_names file) (unknown_names file ++ (circles file ++ composition_faults file)) no_names)

  two_rest : (circles file ++ composition_faults file) ≡ []
  two_rest =
      append_right (unknown_names file) (circles file ++ composition_faults file)
      (append_right (doubled_names file) (unknown_names file ++ (circles file ++ composition_faults file)) no_names)

  pub no_circles : circles file ≡ []
  no_circles = append_left (circles file) (composition_faults file) two_rest

  pub composed : composition_faults file ≡ []
  composed = append_right (circles file) (composition_faults file) two_rest

  pub any_uncircled : circles_of (map declared (any_constants file)) ≡ []
  any_uncircled = circles_same file ∙ no_circles

  -- ---- names that stand once
  abbrev names_after : List Named
  names_after = var_names file.variables

  globals_once : doubled TwiceNamed (map (λ c. c.name) (any_constants file) ++ names_after) ≡ []
  globals_once =
      ap (λ ns. doubled TwiceNamed (ns ++ names_after)) (map-map (λ c. c.name) any_const file.constants)
      ∙ append_left (doubled TwiceNamed (global_names file)) _ once_here

  pub any_own : Each (λ c. called (any_constants file) c.name.name ≡ Some c) (any_constants file)
  any_own = own_constants TwiceNamed (any_constants file) names_after globals_once

  automata_once : Each (λ a. doubled_in (global_names file) a ≡ []) file.automata
  automata_once =
      empty_each (doubled_in (global_names file)) file.automata
      (append_left (flat_map (doubled_in (global_names file)) file.automata) _
      (append_right (doubled TwiceNamed (automaton_names file)) _ (append_right (doubled TwiceNamed file.actions) _ (append_right (doubled TwiceNamed (global_names file)) _ once_here))))

  module _ (x : Name) (there : list_any (is_called x) (map (λ c. c.name) (any_constants file)) ≡ true) where
    among_globals : list_any (is_called x) (global_names file) ≡ true
    among_globals =
        list_any-append (is_called x) (map (λ c. c.name) file.constants) names_after
        ∙ ap (λ b. b || list_any (is_called x) names_after) (ap (list_any (is_called x)) (sym (map-map (λ c. c.name) any_const file.constants)) ∙ there)

    abbrev OwnApart : Automaton → Type 0
    OwnApart a = Each (λ m. bytes_eq x m.name ≡ false) (var_names a.variables)

    automata_apart : Each OwnApart file.automata
    automata_apart =
        each_then (λ a. doubled_in (global_names file) a ≡ []) OwnApart
        (λ a h. apart_from TwiceNamed (global_names file) (var_names a.variables)
        (append_left (doubled_after TwiceNamed (global_names file) (var_names a.variables)) (doubled TwiceNamed (location_names a) ++ doubled TwiceNamed a.initial) h) x among_globals)
        file.automata automata_once

    of_found : (n : Named) (o : Option Automaton) → IfAny OwnApart o → OwnApart (unwrap_or o (nothing_called n))
    of_found n None h = tt
    of_found n (Some a) h = h

    looped_apart : (xs : List Named) (a : Automaton) → OwnApart a → OwnApart (with_loops xs a)
    looped_apart [] a h = h
    looped_apart (y ∷ ys) a h = h

    elements_apart : (es : List Element) → Each OwnApart (map (element_automaton file) es)
    elements_apart [] = tt
    elements_apart (e ∷ es) = (
      looped_apart e.enable (automaton_called file e.name)
          (of_found e.name (find (λ a. is_called e.name.name a.name) file.automata) (each_found OwnApart (λ a. is_called e.name.name a.name) file.automata automata_apart)),
      elements_apart es,
    )

    lasting_apart : Each (HasOther x) (lasting file)
    lasting_apart =
        each_filter (HasOther x) is_lasting (variables file)
        (each_join (HasOther x) (owned_by None file.variables) (numbered (λ j a. owned_by (Some j) a.variables) 0 (elements file))
        (owned_others x None file.variables (others_apart TwiceNamed (any_constants file) names_after globals_once x there))
        (elements_others x 0 (elements file) (elements_apart file.elements)))

  -- no variable has the name of a constant
  pub constants_apart : AreApart file
  constants_apart = record {
    apart =
        λ i x c h.
        let there = called_there (any_constants file) x (any_const c) (any_called file x ∙ ap (option_map any_const) h) in
        ap (option_map (λ k. length (element_names file) + k)) (no_place x i (lasting file) (lasting_apart x there));
  }
