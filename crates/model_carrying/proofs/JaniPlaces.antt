-- What a JANI file describes does not depend on the places that its tree keeps.
use Rattle.std.specs.Prelude.{◌≡◌, ℕ, List, ◌++◌, map, length, is_none, codes}
use Rattle.std.proofs.Common.{sym, ap, ap₂, ◌∙◌}
use Rattle.std.proofs.lemmas.List.{length-map}
use Rattle.std.proofs.Math.Path.{fun_ext}
use Rattle.basics.specs.Lists.{map_agree}
use Rattle.op_trees.specs.Names.{bare_name}
use Rattle.op_trees.specs.Tree.{bare}
use Rattle.process_core.specs.Instance.{Scene, Valuation, first_values, is_initial, is_state, is_wide_initial}
use Rattle.process_core.specs.Product.{map-map}
use Rattle.process_core.specs.Ready.{Name, Values}
use Rattle.process_core.specs.Steps.{Process}
use Rattle.instance_start.specs.Description.{Constant, Description}
use Rattle.jani_tree.specs.Places.{bare_const, bare_file}
use Rattle.jani_tree.specs.Syntax.{Const, File, element_names}
use Rattle.jani_meaning.specs.Elements.{Owned, labels, lasting, structures}
use Rattle.jani_meaning.specs.Moment.{Moment, moment}
use Rattle.jani_meaning.specs.Process.{choices, excess, has_wide_mark, marks}
use Rattle.jani_meaning.specs.Scene.{scene}
use Rattle.jani_meaning.proofs.Bare.{bare_owned, labels-bare, lasting-bare, moment-bare, scene-bare, structures-bare}
use Rattle.jani_instance.specs.Described.{column_texts, described, jani_description, mark_names, texts_from}
use Rattle.jani_tree.specs.Laws.{element_names-bare}
use Rattle.basics.specs.Options.{is_none-map}

-- ---- what is described
abbrev opened : Const → Constant
opened c = record { name = c.name.name; ty = c.ty; is_open = is_none c.value }

opened-bare : (c : Const) → opened (bare_const c) ≡ opened c
opened-bare c = ap {B = Constant} (λ b. record { name = c.name.name; ty = c.ty; is_open = b }) (is_none-map bare c.value)

owner_names : (os ps : List Owned) → os ≡ map bare_owned ps → map (λ o. o.var.name.name) os ≡ map (λ o. o.var.name.name) ps
owner_names os ps e = ap (map (λ o. o.var.name.name)) e ∙ map-map (λ o. o.var.name.name) bare_owned ps

-- the process by its parts
abbrev process_by : List Name → List Name → ℕ → Scene → (Values → Moment) → Process
process_by columns names n k at = record {
  columns = columns;
  mark_names = names;
  labels = n;
  is_state = is_state k.columns;
  is_initial = λ s. is_initial k.columns (at s).condition s;
  has_wide_initial = λ s. is_wide_initial k.columns (at s).condition s;
  has_condition = k.has_condition;
  first = first_values k;
  choices = λ s. choices (at s) s;
  excess = λ s. excess (at s);
  marks = λ s. marks (at s);
  has_wide_mark = λ s. has_wide_mark (at s);
}

abbrev description_by : List Constant → (Valuation → Scene) → (Valuation → Process) → Description
description_by cs k p = record { constants = cs; scene = k; process = p }

module _ (file : File) where
  columns-same : column_texts (bare_file file) ≡ column_texts file
  columns-same =
      ap₂ (λ n m. texts_from (codes "@") 0 n ++ texts_from (codes "#") 0 m) (ap length (element_names-bare file) ∙ length-map (element_names file) bare_name)
      (ap length (lasting-bare file) ∙ length-map (lasting file) bare_owned)

  marks-same : mark_names (bare_file file) ≡ mark_names file
  marks-same =
      ap₂ (λ (a b : List Name). a ++ b) (owner_names (labels (bare_file file)) (labels file) (labels-bare file))
      (owner_names (structures (bare_file file)) (structures file) (structures-bare file))

  count-same : length (labels (bare_file file)) ≡ length (labels file)
  count-same = ap length (labels-bare file) ∙ length-map (labels file) bare_owned

  process-same : (v : Valuation) → described (bare_file file) v ≡ described file v
  process-same v =
      ap₂ (λ k at. process_by (column_texts (bare_file file)) (mark_names (bare_file file)) (length (labels (bare_file file))) k at) (scene-bare file v) (fun_ext (moment-bare file v))
      ∙ ap₂ (λ columns names. process_by columns names (length (labels (bare_file file))) (scene file v) (moment file v)) columns-same marks-same
      ∙ ap (λ n. process_by (column_texts file) (mark_names file) n (scene file v) (moment file v)) count-same

  description-bare : jani_description (bare_file file) ≡ jani_description file
  description-bare =
      ap₂ (λ k p. description_by (map opened (bare_file file).constants) k p) (fun_ext (scene-bare file)) (fun_ext process-same)
      ∙ ap (λ cs. description_by cs (scene file) (described file)) (map-map opened bare_const file.constants ∙ map_agree (λ x. opened (bare_const x)) opened opened-bare file.constants)

-- files that are the same but for their places describe the same
pub jani_alike : (f g : File) → bare_file f ≡ bare_file g → jani_description f ≡ jani_description g
jani_alike f g e = sym (description-bare f) ∙ ap jani_description e ∙ description-bare g
