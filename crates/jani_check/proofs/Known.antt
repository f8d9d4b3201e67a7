-- Names that are known, by what names stand for.
use Rattle.std.specs.Prelude.{List, [], ◌∷◌, ◌++◌, map, Bool, true, false, ◌||◌, Option, Some, None, is_some, if◌then◌else◌}
use Rattle.std.specs.List.{find, flat_map, list_any}
use Rattle.std.specs.Option.{option_map, option_or as or_else}
use Rattle.std.proofs.Common.{◌≡◌, refl, sym, ap, ap₂, ◌∙◌}
use Rattle.std.proofs.Math.Path.{fun_ext}
use Rattle.std.proofs.lemmas.List.Folds.{list_any-append}
use Rattle.basics.specs.Options.{is_some-map}
use Rattle.jani_tree.specs.Syntax.{Var, Automaton, File}
use Rattle.basics.specs.Mapped.{any_mapped}
use Rattle.jani_check.specs.Demands.{automaton_demands, outer_demands}
use Rattle.jani_check.specs.Things.{const_thing, var_thing, var_called, const_called, global_thing}
use Rattle.op_trees.specs.Names.{is_called}
use Rattle.name_rules.specs.Names.{Name, is_among}
use Rattle.jani_check.specs.NameFaults.{var_names, global_names, unknown_by, unknown_in, unknown_within}
use Rattle.jani_check.specs.Phases.{automaton_by, file_by}
use Rattle.jani_check.specs.Scopes.{is_known}

pub found : {A : Type 0} (p : A → Bool) (xs : List A) → is_some (find p xs) ≡ list_any p xs
found p [] = refl
found p (x ∷ xs) = by_test (p x) (found p xs)
  where
    by_test : (b : Bool) → is_some (find p xs) ≡ list_any p xs → is_some (if b then Some x else find p xs) ≡ (b || list_any p xs)
    by_test true h = refl
    by_test false h = h

either : {A : Type 0} (o p : Option A) → is_some (or_else o p) ≡ (is_some o || is_some p)
either None p = refl
either (Some x) p = refl

vars_known : (xs : List Var) (x : Name) → is_some (option_map var_thing (var_called xs x)) ≡ is_among (var_names xs) x
vars_known xs x =
    is_some-map var_thing (var_called xs x)
    ∙ found (λ v. is_called x v.name) xs
    ∙ sym (any_mapped (λ v. v.name) (is_called x) (λ v. is_called x v.name) (λ v. refl) xs)

global_known : (file : File) (x : Name) → is_known (global_thing file) x ≡ is_among (global_names file) x
global_known file x =
    either (option_map const_thing (const_called file x)) (option_map var_thing (var_called file.variables x))
    ∙ ap₂ (λ a b. a || b)
    (is_some-map const_thing (const_called file x)
    ∙ found (λ c. is_called x c.name) file.constants
    ∙ sym (any_mapped (λ c. c.name) (is_called x) (λ c. is_called x c.name) (λ c. refl) file.constants))
    (vars_known file.variables x)
    ∙ sym (list_any-append (is_called x) (map (λ c. c.name) file.constants) (var_names file.variables))

nothing_each : {A B : Type 0} (xs : List A) (rest : List B) → flat_map (λ x. []) xs ++ rest ≡ rest
nothing_each [] rest = refl
nothing_each (x ∷ xs) rest = nothing_each xs rest

module _ (file : File) (actions : Name → Bool) where
  automaton_known : (a : Automaton) →
      automaton_by (λ x. []) (λ things. unknown_by (is_known things)) (λ things. unknown_within actions) (global_thing file) a ≡ unknown_in (is_among (global_names file)) actions a
  automaton_known a =
      nothing_each a.variables _
      ∙ ap (λ k. flat_map (unknown_by k) (automaton_demands a) ++ unknown_within actions a)
      (fun_ext (λ x. either (global_thing file x) (option_map var_thing (var_called a.variables x)) ∙ ap₂ (λ b c. b || c) (global_known file x) (vars_known a.variables x)))

  -- what is not known outside of automata, and in each of them
  pub file_known : file_by (λ x. []) (λ things. unknown_by (is_known things)) (λ things. unknown_within actions) file
      ≡ flat_map (unknown_by (is_among (global_names file))) (outer_demands file) ++ flat_map (unknown_in (is_among (global_names file)) actions) file.automata
  file_known =
      nothing_each file.variables _
      ∙ ap₂ (λ k f. flat_map (unknown_by k) (outer_demands file) ++ flat_map f file.automata) (fun_ext (global_known file)) (fun_ext automaton_known)
