-- The names in a translated file.
use Rattle.std.specs.Prelude.{◌≡◌, ◌++◌, List, map, Option, Some, None, get_or}
use Rattle.std.specs.List.{flat_map}
use Rattle.std.specs.Option.{option_map}
use Rattle.std.proofs.Common.{refl, sym, ap, ap₂, ◌∙◌}
use Rattle.std.proofs.lemmas.List.{map-append}
use Rattle.std.proofs.lemmas.List.Folds.{flat_map-map}
use Rattle.basics.specs.Mapped.{gathered, mapped}
use Rattle.basics.specs.Options.{if_some}
use Rattle.bridge_io.specs.declared.reason.Named.{Named}
use Rattle.op_trees.specs.Names.{bare_name}
use Rattle.process_core.specs.Product.{map-flat_map, map-map}
use Rattle.process_core.specs.Ready.{Name}
use Rattle.choice_laws.proofs.Walks.{flat_map_agree_in}
use Rattle.prism_tree.specs.Syntax as prism
use Rattle.prism_tree.specs.Syntax.{copied, File, Module, plain}
use Rattle.prism_names.specs.Names.{module_name}
use Rattle.prism_print.specs.Same.{bare_const, bare_file, bare_label, bare_module, bare_rewards, bare_var}
use Rattle.jani_tree.specs.Syntax as jani
use Rattle.name_table.specs.declared.class.Target.TheVariants.{Prism}
use Rattle.name_table.specs.Asks.{contents, variables}
use Rattle.name_table.specs.PrismAsks.{NewNames}
use Rattle.name_table.proofs.Bare.{variables-bare}
use Rattle.renaming.proofs.Renaming.{one_to_one}
use Rattle.prism_translation.specs.Elements.{elements, shared}
use Rattle.prism_translation.specs.Modules.{actions, module_of}
use Rattle.prism_translation.specs.Names.{all_asks, new_names}
use Rattle.prism_translation.specs.Parts.{constant}
use Rattle.prism_translation.specs.StateLaws.{column_of, columns, module_columns}
use Rattle.prism_translation.specs.Translated.{translated}
use Rattle.prism_translation.proofs.Actions.{old_labels}
use Rattle.prism_translation.proofs.Apart.{actions_differ, made_for}
use Rattle.prism_translation.proofs.ColumnNames.{below}
use Rattle.prism_translation_laws.proofs.Doubled.{labels_named, modules_named, rewards_named}
use Rattle.prism_translation_laws.proofs.Segments.{constants_part}
use Rattle.prism_translation_laws.proofs.Values.{column_named, module_named, variables_named, zip_named}
use Rattle.jani_to_prism.specs.Names.{ArePrismNames}

-- a name that is taken in two steps
abbrev twice : {X : Type 0} → (X → Named) → List X → List Name
twice f xs = map (λ y. y.name) (map f xs)

once : {X : Type 0} (f : X → Named) (xs : List X) → map (λ x. (f x).name) xs ≡ twice f xs
once f xs = sym (map-map (λ (y : Named). y.name) f xs)

module _ (file : jani.File) where
  abbrev n : NewNames
  n = new_names file

  abbrev new : File
  new = translated file

  globals_called : map (λ x. x.name.name) new.globals ≡ map (column_named file) (map (column_of file) (shared file))
  globals_called = once (λ x. x.name) new.globals ∙ variables_named file (shared file)

  modules_called : map (λ x. x.name.name) (flat_map (λ m. m.vars) (map contents new.modules)) ≡ map (column_named file) (flat_map (module_columns file) (elements file))
  modules_called =
      ap (λ ms. map (λ x. x.name.name) (flat_map (λ m. m.vars) ms)) (map-map contents (λ el. plain (module_of file n el)) (elements file))
      ∙ ap (map (λ x. x.name.name)) (flat_map-map (λ m. m.vars) (module_of file n) (elements file))
      ∙ map-flat_map (λ x. x.name.name) (λ el. (module_of file n el).vars) (elements file)
      ∙ flat_map_agree_in _ (λ el. map (column_named file) (module_columns file el)) (elements file)
      (λ k d l. once (λ x. x.name) (module_of file n (get_or (elements file) k d)).vars ∙ module_named file (get_or (elements file) k d) (below file k d l))
      ∙ sym (map-flat_map (column_named file) (module_columns file) (elements file))

  variables_called : map (λ x. x.name.name) (variables new) ≡ map (column_named file) (columns file)
  variables_called =
      map-append (λ x. x.name.name) new.globals (flat_map (λ m. m.vars) (map contents new.modules))
      ∙ ap₂ (λ a b. a ++ b) globals_called modules_called
      ∙ sym (map-append (column_named file) (map (column_of file) (shared file)) (flat_map (module_columns file) (elements file)))

  pub are_named : ArePrismNames file new
  are_named = record {
    constants = zip_named (λ (d : prism.Const). d.name.name) (λ d e. constant file n d e.name) (λ d e. refl) file.constants n.constants (constants_part file).long;
    variables = variables_called;
    modules = once module_name new.modules ∙ modules_named file;
    labels = once (λ (l : prism.Label). l.name) new.labels ∙ labels_named file;
    rewards = rewards_named file;
    one_action = made_for file;
    back = old_labels (actions file n) (actions_differ file);
    one_to_one = one_to_one Prism (all_asks file);
  }

-- ---- names don't depend on places
module_name-bare : (m : Module) → (module_name (bare_module m)).name ≡ (module_name m).name
module_name-bare (plain m) = refl
module_name-bare (copied m) = refl

rewards-bare : (r : prism.Rewards) → if_some (bare_rewards r).name ≡ map bare_name (if_some r.name)
rewards-bare r = by_name r.name
  where
    by_name : (o : Option Named) → if_some (option_map bare_name o) ≡ map bare_name (if_some o)
    by_name None = refl
    by_name (Some x) = refl

module _ (file : File) where
  modules_kept : map (λ m. (module_name m).name) (bare_file file).modules ≡ map (λ m. (module_name m).name) file.modules
  modules_kept = mapped bare_module (λ m. (module_name m).name) (λ m. (module_name m).name) module_name-bare file.modules

  rewards_kept : map (λ n. n.name) (flat_map (λ r. if_some r.name) (bare_file file).rewards) ≡ map (λ n. n.name) (flat_map (λ r. if_some r.name) file.rewards)
  rewards_kept =
      ap (map (λ (n : Named). n.name)) (gathered bare_name bare_rewards (λ r. if_some r.name) (λ r. if_some r.name) rewards-bare file.rewards)
      ∙ map-map (λ (n : Named). n.name) bare_name (flat_map (λ r. if_some r.name) file.rewards)

  variables_kept : map (λ x. x.name.name) (variables (bare_file file)) ≡ map (λ x. x.name.name) (variables file)
  variables_kept = ap (map (λ x. x.name.name)) (variables-bare file) ∙ map-map (λ x. x.name.name) bare_var (variables file)

pub named_aside : (old : jani.File) (f g : File) → bare_file f ≡ bare_file g → ArePrismNames old f → ArePrismNames old g
named_aside old f g e h = record {
  constants = sym (map-map (λ c. c.name.name) bare_const g.constants) ∙ ap (λ (t : File). map (λ c. c.name.name) t.constants) (sym e) ∙ map-map (λ c. c.name.name) bare_const f.constants ∙ h.constants;
  variables = sym (variables_kept g) ∙ ap (λ (t : File). map (λ x. x.name.name) (variables t)) (sym e) ∙ variables_kept f ∙ h.variables;
  modules = sym (modules_kept g) ∙ ap (λ (t : File). map (λ m. (module_name m).name) t.modules) (sym e) ∙ modules_kept f ∙ h.modules;
  labels = sym (map-map (λ l. l.name.name) bare_label g.labels) ∙ ap (λ (t : File). map (λ l. l.name.name) t.labels) (sym e) ∙ map-map (λ l. l.name.name) bare_label f.labels ∙ h.labels;
  rewards = sym (rewards_kept g) ∙ ap (λ (t : File). map (λ n. n.name) (flat_map (λ r. if_some r.name) t.rewards)) (sym e) ∙ rewards_kept f ∙ h.rewards;
  one_action = h.one_action;
  back = h.back;
  one_to_one = h.one_to_one;
}
