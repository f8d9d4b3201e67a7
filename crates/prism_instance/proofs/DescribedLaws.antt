-- A file that is another one written out is described as that one.
use Rattle.std.proofs.Common.{◌≡◌, ℕ, List, ◌++◌, map, length, Option, Some, None, refl, sym, ap, ap₂, ◌∙◌}
use Rattle.std.proofs.lemmas.List.{length-map}
use Rattle.std.specs.Option.{option_map}
use Rattle.std.proofs.Math.Path.{fun_ext}
use Rattle.basics.specs.Lists.{map_agree}
use Rattle.bridge_io.specs.declared.reason.Named.{Named}
use Rattle.process_core.specs.Product.{map-map}
use Rattle.process_core.specs.Ready.{Name, Values}
use Rattle.process_core.specs.Instance.{Scene, Valuation, is_state, is_initial, first_values, is_wide_initial}
use Rattle.process_core.specs.Steps.{Process}
use Rattle.prism_tree.specs.Syntax.{Const, Label, Rewards, File}
use Rattle.prism_names.specs.Flat.{flat, flat_constant, flat_label, flat_rewards}
use Rattle.op_trees.specs.Names.{bare_name}
use Rattle.prism_print.specs.Same.{bare_file, bare_const, bare_label, bare_rewards}
use Rattle.prism_check.specs.Scene.{scene}
use Rattle.prism_check.specs.Moment.{Moment, moment}
use Rattle.prism_check.specs.Process.{choices, excess, marks, has_wide_mark}
use Rattle.prism_check.specs.FlatLaws.{scene-flat, moment-flat}
use Rattle.prism_check.specs.PlacesLaws.{PlacesKeepScenes, PlacesKeepMoments}
use Rattle.instance_start.specs.Description.{Constant, Description}
use Rattle.prism_instance.specs.Described.{described, mark_names, opened, prism_description, structure_name}
use Rattle.basics.specs.Options.{is_none-map}

-- ---- what files that are the same have in common, by parts
name_bare : (o : Option Named) → structure_name (option_map bare_name o) ≡ structure_name o
name_bare None = refl
name_bare (Some n) = refl

opened_bare : (c : Const) → opened (bare_const c) ≡ opened c
opened_bare c = ap {B = Constant} (λ b. record { name = c.name.name; ty = c.ty; is_open = b }) (is_none-map _ c.value)

opened_flat : (file : File) (c : Const) → opened (flat_constant file c) ≡ opened c
opened_flat file c = ap {B = Constant} (λ b. record { name = c.name.name; ty = c.ty; is_open = b }) (is_none-map _ c.value)

mapped_same : {A B : Type 0} (f : A → B) (g : A → A) → ((x : A) → f (g x) ≡ f x) → (xs : List A) → map f (map g xs) ≡ map f xs
mapped_same f g h xs = map-map f g xs ∙ map_agree (λ x. f (g x)) f h xs

constants_bare : (file : File) → map opened (bare_file file).constants ≡ map opened file.constants
constants_bare file = mapped_same opened bare_const opened_bare file.constants

marks_bare : (file : File) → mark_names (bare_file file) ≡ mark_names file
marks_bare file =
    ap₂ (λ (a b : List Name). a ++ b) (mapped_same (λ (l : Label). l.name.name) bare_label (λ l. refl) file.labels)
    (mapped_same (λ (r : Rewards). structure_name r.name) bare_rewards (λ r. name_bare r.name) file.rewards)

labels_bare : (file : File) → length (bare_file file).labels ≡ length file.labels
labels_bare file = length-map file.labels bare_label

constants_flat : (file : File) → map opened (flat file).constants ≡ map opened file.constants
constants_flat file = mapped_same opened (flat_constant file) (opened_flat file) file.constants

marks_flat : (file : File) → mark_names (flat file) ≡ mark_names file
marks_flat file =
    ap₂ (λ (a b : List Name). a ++ b) (mapped_same (λ (l : Label). l.name.name) (flat_label file) (λ l. refl) file.labels)
    (mapped_same (λ (r : Rewards). structure_name r.name) (flat_rewards file) (λ r. refl) file.rewards)

labels_flat : (file : File) → length (flat file).labels ≡ length file.labels
labels_flat file = length-map file.labels (flat_label file)

-- the process by its parts
abbrev process_by : Scene → List Name → ℕ → (Values → Moment) → Process
process_by k names n at = record {
  columns = map (λ c. c.name) k.columns;
  mark_names = names;
  labels = n;
  is_state = is_state k.columns;
  is_initial = λ s. is_initial k.columns (at s).condition s;
  has_wide_initial = λ s. is_wide_initial k.columns (at s).condition s;
  has_condition = k.has_condition;
  first = first_values k;
  choices = λ s. choices (at s) s;
  excess = λ s. excess (at s);
  marks = λ s. marks (at s);
  has_wide_mark = λ s. has_wide_mark (at s);
}

abbrev description_by : List Constant → (Valuation → Scene) → (Valuation → Process) → Description
description_by cs k p = record { constants = cs; scene = k; process = p }

module _ (scenes : PlacesKeepScenes) (moments : PlacesKeepMoments) (f g : File) (h : bare_file f ≡ bare_file (flat g)) where
  same_scene : (v : Valuation) → scene f v ≡ scene g v
  same_scene v = scenes f (flat g) h v ∙ scene-flat g v

  same_moment : (v : Valuation) (s : Values) → moment f v s ≡ moment g v s
  same_moment v s = moments f (flat g) h v s ∙ moment-flat g v s

  same_constants : map opened f.constants ≡ map opened g.constants
  same_constants = sym (constants_bare f) ∙ ap (λ k. map opened k.constants) h ∙ constants_bare (flat g) ∙ constants_flat g

  same_marks : mark_names f ≡ mark_names g
  same_marks = sym (marks_bare f) ∙ ap mark_names h ∙ marks_bare (flat g) ∙ marks_flat g

  same_labels : length f.labels ≡ length g.labels
  same_labels = sym (labels_bare f) ∙ ap (λ k. length k.labels) h ∙ labels_bare (flat g) ∙ labels_flat g

  same_process : (v : Valuation) → described f v ≡ described g v
  same_process v =
      ap₂ (λ k at. process_by k (mark_names f) (length f.labels) at) (same_scene v) (fun_ext (same_moment v))
      ∙ ap₂ (λ names n. process_by (scene g v) names n (moment g v)) same_marks same_labels

  pub described_alike : prism_description f ≡ prism_description g
  described_alike =
      ap₂ (λ k p. description_by (map opened f.constants) k p) (fun_ext same_scene) (fun_ext same_process)
      ∙ ap (λ cs. description_by cs (scene g) (described g)) same_constants
