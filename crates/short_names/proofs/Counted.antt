-- How many names a translated file was asked for: no more than it has actions, constants, variables and automata.
use Rattle.std.proofs.Common.{◌≡◌, suc, ◌+◌, ◌≤◌, ◌<◌, ◌^◌, refl, sym, ap, ◌∙◌, arith, Bool, List, [], ◌∷◌, ◌++◌, map, length, length-append}
use Rattle.std.specs.List.{zip}
use Rattle.std.proofs.lemmas.List.{length-map}
use Rattle.prism_tree.specs.Syntax as prism
use Rattle.prism_flat.specs.Scene.{has_condition}
use Rattle.process_core.specs.Instance.{only_if}
use Rattle.jani_tree.specs.Syntax.{Write, File}
use Rattle.jani_tree.specs.Places.{bare_const, bare_var, bare_automaton, bare_file}
use Rattle.op_trees.specs.Names.{bare_name}
use Rattle.name_table.specs.declared.class.Target.TheVariants.{Jani}
use Rattle.name_table.specs.declared.entry.Entry.{Entry}
use Rattle.name_table.specs.Asks.{asks, bodies, variables, actions, NewNames, new_names}
use Rattle.name_table.proofs.EntryLemmas.{one_each}
use Rattle.jani_translation.specs.Parts.{made, constant, variable, label, structure}
use Rattle.jani_translation.specs.Automata.{zz_silent, earns_silently, location_values, module_automata, monitor}
use Rattle.jani_translation.specs.Translated.{translated}
use Rattle.jani_translation.proofs.Each.{length-zip, n_entries, n_bodies, for_constants, for_variables, for_labels, for_rewards, for_modules}
use Rattle.short_names.specs.TranslationLaws.{IsHeld}

-- lists of pairs that are gone through together
paired : {X Y Z : Type 0} (f : X × Y → Z) (xs : List X) (ys : List Y) → length xs ≡ length ys → length (map f (zip xs ys)) ≡ length xs
paired f xs ys l = length-map (zip xs ys) f ∙ length-zip xs ys l

modules_many : (names : NewNames) (silently : Bool) (ws : List Write) (ms : List prism.Body) (es : List Entry) → length ms ≡ length es → length (module_automata names silently ws ms es) ≡ length ms
modules_many names silently ws [] es l = refl
modules_many names silently ws (m ∷ ms) [] l = absurd cc
modules_many names silently ws (m ∷ ms) (e ∷ es) l = ap suc (modules_many names silently [] ms es (omega (arith, l)))

same_many : {A : Type 0} (f : A → A) (xs ys : List A) → map f xs ≡ map f ys → length xs ≡ length ys
same_many f xs ys e = sym (length-map xs f) ∙ ap length e ∙ length-map ys f

module _ (file : prism.File) where
  abbrev names : NewNames
  names = new_names file

  constants_many : length (translated file).constants ≡ length file.constants
  constants_many = paired (λ p. constant names.value p.0 p.1) file.constants names.constants (for_constants file)

  variables_many : length (translated file).variables ≡ length (variables file) + (length file.labels + length file.rewards)
  variables_many =
      let vs = map (λ p. variable names.value (has_condition file) p.0 p.1) (zip (variables file) names.variables) in
      let ls = map (λ p. label p.0 p.1) (zip file.labels names.labels) in
      let rs = map (λ p. structure p.0 p.1) (zip file.rewards names.rewards) in
      let v : length vs ≡ length (variables file) = paired (λ p. variable names.value (has_condition file) p.0 p.1) (variables file) names.variables (for_variables file) in
      let l : length ls ≡ length file.labels = paired (λ p. label p.0 p.1) file.labels names.labels (for_labels file) in
      let r : length rs ≡ length file.rewards = paired (λ p. structure p.0 p.1) file.rewards names.rewards (for_rewards file) in
      let a = length-append vs (ls ++ rs) in
      let b = length-append ls rs in
      omega (arith, v, l, r, a, b)

  automata_many : length file.modules ≤ length (translated file).automata
  automata_many =
      let ms = module_automata names (earns_silently file) (location_values names file) (bodies file) names.modules in
      let m : length ms ≡ length (bodies file) = modules_many names (earns_silently file) (location_values names file) (bodies file) names.modules (for_modules file) in
      let n = n_bodies file in
      let a = length-append ms (monitor names file) in
      omega (arith, m, n, a)

  actions_many : length (actions file) ≤ length (translated file).actions
  actions_many =
      let xs = map (λ a. made (names.action a)) (actions file) in
      let n : length xs ≡ length (actions file) = length-map (actions file) (λ a. made (names.action a)) in
      let a = length-append xs (only_if (earns_silently file) zz_silent) in
      omega (arith, n, a)

  pub few_asks : (model : File) → bare_file model ≡ bare_file (translated file) → IsHeld model → length (asks file) < 2 ^ 66
  few_asks model same held =
      let c = same_many bare_const model.constants (translated file).constants (ap (λ (f : File). f.constants) same) in
      let v = same_many bare_var model.variables (translated file).variables (ap (λ (f : File). f.variables) same) in
      let u = same_many bare_automaton model.automata (translated file).automata (ap (λ (f : File). f.automata) same) in
      let a = same_many bare_name model.actions (translated file).actions (ap (λ (f : File). f.actions) same) in
      let cs = constants_many in
      let vs = variables_many in
      let us = automata_many in
      let as_ = actions_many in
      let n = n_entries file in
      let o = one_each Jani (asks file) in
      let hc = held.constants in
      let hv = held.variables in
      let hu = held.automata in
      let ha = held.actions in
      omega (arith, c, v, u, a, cs, vs, us, as_, n, o, hc, hv, hu, ha)
