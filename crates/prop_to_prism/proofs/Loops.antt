-- Texts, one property after another.
use Rattle.std.proofs.Common.{arith, ◌≡◌, ◌∙◌, refl, sym, ap, ℕ, ◌+◌, ◌<◌, List, [], ◌∷◌, ◌++◌, length, take, map, get_or, append_assoc, append-nil, Option}
use Rattle.std.specs.Prelude.{slice_get}
use Rattle.std.proofs.lemmas.List.{length-map, length-take, map-append}
use Rattle.gathering.proofs.Loops.{taken}
use Rattle.name_table.specs.declared.entry.Entry.{Entry}
use Rattle.prop_trees.specs.declared.jani.JaniProperty as code
use Rattle.prop_trees.specs.Syntax.{jani_property_of}
use Rattle.prop_trees.specs.Trees.{Name, JaniProperty}
use Rattle.prop_to_prism.specs.Code.{all_written, at_entry, written_property}

module _ (new : Name → Name) (rewards : List Name) where
  one_more : (ps : List JaniProperty) (p : JaniProperty) (es : List Entry) → all_written new rewards (ps ++ p ∷ []) es ≡ all_written new rewards ps es ++ at_entry new rewards (slice_get es (length ps)) p
  one_more [] p [] = refl
  one_more [] p (e ∷ es) = append-nil (written_property new rewards e.name p)
  one_more (q ∷ ps) p [] = refl
  one_more (q ∷ ps) p (e ∷ es) =
      ap (λ l. written_property new rewards e.name q ++ l) (one_more ps p es)
      ∙ sym (append_assoc (written_property new rewards e.name q) (all_written new rewards ps es) (at_entry new rewards (slice_get es (length ps)) p))

  -- what a loop has written, and one property more
  pub written_more : (props : List code.JaniProperty) (es : List Entry) (i : ℕ) (p : code.JaniProperty) (o : Option Entry) (start old next : List ℕ) → i < length props → p ≡ get_or props i p →
      o ≡ slice_get es i → old ≡ start ++ all_written new rewards (map jani_property_of (take i props)) es → next ≡ old ++ at_entry new rewards o (jani_property_of p) →
      next ≡ start ++ all_written new rewards (map jani_property_of (take (i + 1) props)) es
  written_more props es i p o start old next h e at so_far added =
      let ps : List JaniProperty = map jani_property_of (take i props) in
      let q : JaniProperty = jani_property_of p in
      let many : length ps ≡ i = length-map (take i props) jani_property_of ∙ (let m = length-take i props in omega (arith, h, m)) in
      added
      ∙ ap (λ (l : List ℕ). l ++ at_entry new rewards o q) so_far
      ∙ append_assoc start (all_written new rewards ps es) (at_entry new rewards o q)
      ∙ ap (λ (l : List ℕ). start ++ l)
      (ap (λ (u : Option Entry). all_written new rewards ps es ++ at_entry new rewards u q) (at ∙ ap (slice_get es) (sym many))
      ∙ sym (one_more ps q es)
      ∙ ap (λ (l : List JaniProperty). all_written new rewards l es) (sym (ap (map jani_property_of) (taken props i p h e) ∙ map-append jani_property_of (take i props) (p ∷ []))))
