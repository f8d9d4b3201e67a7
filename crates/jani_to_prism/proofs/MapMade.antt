-- The map that the code makes is that of the file.
use Rattle.std.specs.Prelude.{◌≡◌, ◌+◌, ◌-◌, ◌<◌, ◌++◌, ℕ, List, [], ◌∷◌, get_or, length, map, if◌then◌else◌}
use Rattle.std.specs.List.{flat_map, zip}
use Rattle.std.proofs.Common.{refl, sym, ap, ap₂, ◌∙◌, arith, lt-ltb}
use Rattle.std.proofs.lemmas.List.{map-append}
use Rattle.basics.specs.Lists.{map_agree}
use Rattle.process_core.specs.Instance.{only_if}
use Rattle.process_core.specs.Product.{map-flat_map, map-map}
use Rattle.choice_laws.proofs.Walks.{flat_map_agree_in}
use Rattle.carry_maps.specs.declared.map.CarryMap.{CarryMap}
use Rattle.carry_maps.specs.declared.map.Column.TheVariants as at
use Rattle.jani_tree.specs.Syntax.{File, element_names}
use Rattle.jani_meaning.specs.Elements as jani
use Rattle.name_table.specs.declared.entry.Entry.{Entry}
use Rattle.name_table.specs.PrismAsks.{NewNames}
use Rattle.prism_translation.specs.Elements.{Element, Lasting, at_home, elements, has_several, shared}
use Rattle.prism_translation.specs.Modules.{Action, actions}
use Rattle.prism_translation.specs.Names.{new_names}
use Rattle.prism_translation.specs.StateLaws.{column_of, columns, module_columns}
use Rattle.prism_translation.specs.Targets.{Target, targets}
use Rattle.prism_translation.proofs.ColumnNames.{below}
use Rattle.prism_translation.proofs.Follows.{not_less}
use Rattle.prism_translation.proofs.OnlyIf.{map-only_if}
use Rattle.prism_targets.specs.declared.targets.Target.{Target as Made}
use Rattle.prism_targets.specs.Serving.{target_in}
use Rattle.jani_to_prism.specs.Maps.{IsMapToPrism, column_at, pair_of}
use Rattle.jani_to_prism.specs.MapParts.{IsMapBy, element_columns, file_columns, pair_with, pairs_with, variable_columns}

-- ---- columns by their numbers
at_location : (n k : ℕ) → k < n → column_at n k ≡ at.Location k
at_location n k l = ap (λ b. if b then at.Location k else at.Variable (k - n)) (lt-ltb k n l)

at_variable : (n i : ℕ) → column_at n (n + i) ≡ at.Variable i
at_variable n i =
    let e : (n + i) - n ≡ i = omega arith in
    ap (λ b. if b then at.Location (n + i) else at.Variable ((n + i) - n)) (not_less n i) ∙ ap at.Variable e

module _ (file : File) where
  abbrev n : ℕ
  n = length (element_names file)

  variables_at : (xs : List Lasting) → map (column_at n) (map (column_of file) xs) ≡ variable_columns xs
  variables_at xs = map-map (column_at n) (column_of file) xs ∙ map_agree (λ x. column_at n (column_of file x)) (λ x. at.Variable x.number) (λ x. at_variable n x.number) xs

  element_at : (el : Element) → el.number < n → map (column_at n) (module_columns file el) ≡ element_columns file el
  element_at el l =
      map-append (column_at n) (only_if (has_several el) el.number) (map (column_of file) (at_home file el.number))
      ∙ ap₂ (λ a b. a ++ b) (map-only_if (column_at n) (has_several el) el.number ∙ ap (only_if (has_several el)) (at_location n el.number l)) (variables_at (at_home file el.number))

  columns_are : map (column_at n) (columns file) ≡ file_columns file
  columns_are =
      map-append (column_at n) (map (column_of file) (shared file)) (flat_map (module_columns file) (elements file))
      ∙ ap₂ (λ a b. a ++ b) (variables_at (shared file))
      (map-flat_map (column_at n) (module_columns file) (elements file)
      ∙ flat_map_agree_in (λ el. map (column_at n) (module_columns file el)) (element_columns file) (elements file) (λ k d l. element_at (get_or (elements file) k d) (below file k d l)))

-- ---- actions with their labels
abbrev action_by : Target × Entry → Action
action_by p = record { target = p.0; name = p.1.name }

paired : (file : File) (es : List Entry) (ts : List Made) → pairs_with es ts ≡ map pair_of (map action_by (zip (map (target_in file) ts) es))
paired file [] [] = refl
paired file [] (t ∷ ts) = refl
paired file (e ∷ es) [] = refl
paired file (e ∷ es) (t ∷ ts) = ap (λ ps. pair_with e t ∷ ps) (paired file es ts)

pub actions_paired : (file : File) (names : NewNames) (ts : List Made) → map (target_in file) ts ≡ targets file → pairs_with names.actions ts ≡ map pair_of (actions file names)
actions_paired file names ts e = paired file names.actions ts ∙ ap (λ us. map pair_of (map action_by (zip us names.actions))) e

-- ---- the whole
pub is_map_to_prism : (f g : File) (names : NewNames) (m : CarryMap) → g ≡ f → names ≡ new_names f → IsMapBy names g m → IsMapToPrism f m
is_map_to_prism f g names m file named h = record {
  locations = h.locations ∙ ap (λ x. map (λ a. length a.locations) (jani.elements x)) file;
  columns = h.columns ∙ sym (columns_are g) ∙ ap (λ x. map (column_at (length (element_names x))) (columns x)) file;
  labels = h.labels ∙ ap₂ (λ x n. map pair_of (actions x n)) file named;
}
