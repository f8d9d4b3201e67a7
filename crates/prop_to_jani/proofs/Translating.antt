-- The value that a translator writes is that of the translation.
use Rattle.std.proofs.Common.{◌≡◌, ℕ, sym, ap, ap₂, ◌∙◌, List, map}
use Rattle.std.specs.Prelude.{Result, Ok, Err, IfOk}
use Rattle.std.specs.List.{zip}
use Rattle.std.proofs.Math.Path.{fun_ext}
use Rattle.process_core.specs.Product.{map-map}
use Rattle.prism_tree.specs.Syntax.{Expression, File}
use Rattle.prism_names.specs.Flat.{flat}
use Rattle.prism_names.specs.Places.{at_places, IsPlaceOrder}
use Rattle.prism_rewriter.specs.Filling.{bodies_after}
use Rattle.prism_rewriter.specs.Tables.{body_in}
use Rattle.jani_table.specs.Node.{array, nodes_of}
use Rattle.jani_tree.specs.Syntax as jani
use Rattle.jani_tree.specs.Canonical.{list_node}
use Rattle.name_table.specs.declared.entry.Entry.{Entry}
use Rattle.prism_images.specs.Image.{image}
use Rattle.prop_trees.specs.Trees.{Name, PrismProperty}
use Rattle.prop_trees.specs.JaniText.{property_node}
use Rattle.prop_to_jani.specs.declared.expressions.Translator.{Translator}
use Rattle.prop_to_jani.specs.ToJani.{new_property_name, translated_expression, translated_property, reward_names, property_entries, to_jani_node}
use Rattle.prop_to_jani.specs.Code.{name_in, translated_by, property_by, reward_names_in, entry_node}
use Rattle.prop_to_jani.proofs.Wholes.{whole_by_table}

module _ (file : File) (places : List ℕ) (placed : IsPlaceOrder file places) (t : Translator)
    (names : (x : Name) → name_in t.names.now x ≡ new_property_name (flat file) x)
    (filled : (x : Name) → body_in t.bodies.now x ≡ bodies_after (at_places file.formulas places) x)
    (rewards : reward_names_in t ≡ reward_names (flat file)) where
  translates : (e : Expression) → translated_by t e ≡ translated_expression file e
  translates e = ap₂ (λ (new : Name → Name) (u : Expression). image new u) (fun_ext names) (whole_by_table file places placed t.bodies.now filled e)

  pub written_node : (ps : List PrismProperty) (es : List Entry) → es ≡ property_entries (flat file) ps →
      list_node (λ (p : PrismProperty × Entry). entry_node t p.0 p.1) 0 (zip ps es) ≡ to_jani_node file ps
  written_node ps es e =
      ap (λ (f : Expression → jani.Expression). array 0 (nodes_of (map (λ (q : PrismProperty × Entry). property_node (reward_names_in t) (property_by f q.0 q.1.name)) (zip ps es)))) (fun_ext translates)
      ∙ ap₂ (λ (r : List Name) (l : List Entry). array 0 (nodes_of (map (λ (q : PrismProperty × Entry). property_node r (property_by (translated_expression file) q.0 q.1.name)) (zip ps l)))) rewards e
      ∙ ap (λ l. array 0 (nodes_of l))
      (sym (map-map (property_node (reward_names (flat file))) (λ (q : PrismProperty × Entry). translated_property file q.0 q.1) (zip ps (property_entries (flat file) ps))))

pub ok_then : {A E : Type 0} (P Q : A → Type 0) → ((v : A) → P v → Q v) → (r : Result A E) → IfOk r P → IfOk r Q
ok_then P Q h (Ok v) k = h v k
ok_then P Q h (Err e) k = tt
