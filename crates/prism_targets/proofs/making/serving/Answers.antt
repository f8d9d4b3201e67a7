use Rattle.std.specs.Prelude.{◌≡◌, ◌≤◌, ◌-◌, ◌^◌, List, map, length, Ok, Err, IfOk, Result}
use Rattle.std.specs.declared.alloc.AllocError.{AllocError}
use Rattle.std.proofs.Common.{◌∙◌, ap, ap₂, sym, arith}
use Rattle.std.proofs.lemmas.List.{length-map}
use Rattle.process_core.specs.Product.{map-map}
use Rattle.jani_tree.specs.Syntax.{File, file_of, vector_of}
use Rattle.jani_tree.specs.declared.syntax.JaniVector.{JaniVector}
use Rattle.prism_translation.specs.Elements.{elements}
use Rattle.prism_translation.specs.Targets.{targets}
use Rattle.prism_targets.specs.declared.served.Serving.{Serving}
use Rattle.edge_tables.specs.Tables.{EdgeTable, Split, table_in, split_in, split_from}
use Rattle.prism_targets.specs.Made.{stands_for}
use Rattle.prism_targets.specs.Serving.{IsServing, target_in}
use Rattle.edge_tables.specs.Code.{table_view, split_view}
use Rattle.prism_targets.specs.Code.{target_view, element_served, served_targets, served_elements}
use Rattle.prism_targets.proofs.Standing.{targets_stand, elements_stand}
use Rattle.edge_tables.proofs.FileTables.{splits_alike}
use Rattle.prism_targets.proofs.making.serving.Goals as goal

module _ (file : File) (splits : List Split) (acts : List EdgeTable) (s : splits ≡ map (split_in file) file.vectors) (a : acts ≡ map (table_in file) (elements file)) where
  told : (r : Serving) → map target_view r.targets.items ≡ served_targets splits acts → map element_served r.elements.items ≡ served_elements splits acts → length r.targets.items ≤ 2 ^ 64 - 1 → IsServing file r
  told r t e few =
      let whole : map (target_in file) r.targets.items ≡ targets file =
      sym (map-map (stands_for file) target_view r.targets.items) ∙ ap (map (stands_for file)) (t ∙ ap₂ served_targets s a) ∙ targets_stand file in
      let n = length-map r.targets.items (target_in file) in
      let m = ap length whole in
      record { targets_are = whole; elements_are = e ∙ ap₂ served_elements s a ∙ elements_stand file (omega (arith, few, n, m)) }

  told_if : (r : Result Serving AllocError) → IfOk r (λ x. map target_view x.targets.items ≡ served_targets splits acts) → IfOk r (λ x. map element_served x.elements.items ≡ served_elements splits acts) →
      IfOk r (λ x. length x.targets.items ≤ 2 ^ 64 - 1) → IfOk r (IsServing file)
  told_if (Ok r) t e few = told r t e few
  told_if (Err r) t e few = tt

pub returns-clause-serving : goal.returns-clause-serving
returns-clause-serving c =
    let file = file_of c.args.file.now in
    let acts : map table_view c.in_ok-edges.edges.items ≡ map (table_in file) (elements file) =
    c.in_ok-edges.ensures.edges file c.requires.structures c.requires.automata in
    let splits : map split_view c.in_ok-splits.splits.items ≡ map (split_in file) file.vectors =
    c.in_ok-splits.ensures
    ∙ ap₂ (λ (l : List EdgeTable) (vs : List JaniVector). map (λ v. split_from v 0 l) (map vector_of vs)) (ap (map table_view) c.as_slice.ensures.value ∙ acts) c.as_slice-2.ensures
    ∙ splits_alike file file.vectors in
    told_if file _ _ (ap (map split_view) c.as_slice-4.ensures.value ∙ splits) (ap (map table_view) c.as_slice-3.ensures.value ∙ acts) c.serving_by.result c.serving_by.ensures.targets c.serving_by.ensures.elements c.serving_by.ensures.few
