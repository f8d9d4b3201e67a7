-- No constant of a translated file depends on itself.
use Rattle.std.specs.Prelude.{◌≡◌, ℕ, zero, suc, List, [], ◌∷◌, ◌++◌, map, length, take, Bool, true, false, ◌||◌, Option, Some, None, bytes_eq, Contains, if◌then◌else◌}
use Rattle.std.specs.List.{flat_map, filter, list_any, zip, AllByRecursion as Each}
use Rattle.std.specs.Option.{option_map}
use Rattle.std.proofs.Common.{refl, sym, ap, ap₂, subst, ◌∙◌, append-nil}
use Rattle.std.proofs.Math.Path.{fun_ext}
use Rattle.std.proofs.lemmas.List.{map-append}
use Rattle.std.proofs.lemmas.Slice.Eq.{bytes_eq-Decides}
use Rattle.basics.specs.Members.{any-map}
use Rattle.basics.specs.Texts.{bytes_ne, bytes_eq-true}
use Rattle.basics.specs.Lists.{append_both}
use Rattle.basics.specs.Each.{map_each, each_parts, empty_each}
use Rattle.bridge_io.specs.declared.reason.Named.{Named}
use Rattle.bridge_io.specs.declared.reason.Reason.TheVariants.{Cycle}
use Rattle.op_trees.specs.Names.{names_of as names_in}
use Rattle.process_core.specs.Ready.{Name}
use Rattle.prism_tree.specs.Syntax as prism
use Rattle.prism_flat.specs.Kept.{IsWrittenOut}
use Rattle.name_rules.specs.Uses.{used}
use Rattle.name_rules.proofs.Plain.{no_fault, fault_none}
use Rattle.prism_check.specs.NameFaults as pc
use Rattle.prism_check.specs.NameFaults.{Declared, declarations}
use Rattle.jani_tree.specs.Syntax.{Const}
use Rattle.jani_check.specs.NameFaults.{uses, uses_of, leads_to, is_circular, circular}
use Rattle.jani_translation.specs.Entry.{Entry}
use Rattle.prism_images.specs.Image.{image}
use Rattle.prism_images.proofs.Form.{names_kept}
use Rattle.jani_translation.specs.Asks.{variables, value_names, entries, new_names}
use Rattle.jani_translation.specs.Parts.{constant}
use Rattle.jani_translation.proofs.Clean.{values_distinct}
use Rattle.prism_check.proofs.Typed.{no_name_fault}
use Rattle.jani_translation.proofs.Fresh.{values_agree, agrees_front, Takes, takes_from}
use Rattle.jani_translation.proofs.Differ.{values_differ}
use Rattle.jani_translation_laws.specs.NameLaws.{NoCircles}
use Rattle.jani_translation_laws.proofs.Doubled.{each_contained}

-- ---- names of images
abbrev bytes_of : List Named → List Name
bytes_of ns = map (λ n. n.name) ns

abbrev declared : prism.Const → Declared
declared c = pc.declared_const c

uses_alike : (new : Name → Name) (c : prism.Const) (e : Entry) → uses (constant new c e) ≡ map new (declared c).uses
uses_alike new c e = by_value c.value
  where
    by_value : (o : Option prism.Expression) → uses (record { name = c.name; ty = c.ty; value = option_map (image new) o; note = None }) ≡ map new (used o)
    by_value None = refl
    by_value (Some t) = map-append (λ n. n.name) (names_in (image new t)) [] ∙ append-nil (bytes_of (names_in (image new t))) ∙ names_kept new t

-- ---- constants that lead to constants
module _ (new : Name → Name) (IsOld : Name → Type 0) (alike : (x y : Name) → IsOld y → bytes_eq (new y) (new x) ≡ bytes_eq y x)
    (turned : (x y : Name) → IsOld y → bytes_eq (new x) (new y) ≡ bytes_eq x y) where
  -- the constants, with entries that have their new names
  abbrev Goes : List prism.Const → List Entry → Type 0
  Goes [] es = Unit {0}
  Goes (c ∷ cs) [] = ⊥
  Goes (c ∷ cs) (e ∷ es) = (e.name ≡ new c.name.name) × IsOld c.name.name × Goes cs es

  abbrev images : List prism.Const → List Entry → List Const
  images cs es = map (λ p. constant new p.0 p.1) (zip cs es)

  used_alike : (cs : List prism.Const) (es : List Entry) → Goes cs es → (x : Name) → uses_of (images cs es) (new x) ≡ map new (pc.uses_of (map declared cs) x)
  used_alike [] es g x = refl
  used_alike (c ∷ cs) [] g x = absurd g
  used_alike (c ∷ cs) (e ∷ es) g x =
      ap (λ b. flat_map uses (if b then constant new c e ∷ rest else rest)) (ap (λ n. bytes_eq n (new x)) g.0 ∙ alike x c.name.name g.1)
      ∙ by_test (bytes_eq c.name.name x) (used_alike cs es g.2 x)
    where
      rest : List Const
      rest = filter (λ d. bytes_eq d.name.name (new x)) (images cs es)

      old_rest : List Declared
      old_rest = filter (λ d. bytes_eq d.name.name x) (map declared cs)

      by_test : (b : Bool) → flat_map uses rest ≡ map new (flat_map (λ (d : Declared). d.uses) old_rest) →
          flat_map uses (if b then constant new c e ∷ rest else rest) ≡ map new (flat_map (λ (d : Declared). d.uses) (if b then declared c ∷ old_rest else old_rest))
      by_test true h = ap₂ (λ xs ys. xs ++ ys) (uses_alike new c e) h ∙ sym (map-append new (declared c).uses (flat_map (λ (d : Declared). d.uses) old_rest))
      by_test false h = h

  n_images : (cs : List prism.Const) (es : List Entry) → Goes cs es → length (images cs es) ≡ length (map declared cs)
  n_images [] es g = refl
  n_images (c ∷ cs) [] g = absurd g
  n_images (c ∷ cs) (e ∷ es) g = ap suc (n_images cs es g.2)

  module _ (cs : List prism.Const) (es : List Entry) (g : Goes cs es) where
    lead_alike : (n : ℕ) (x y : Name) → IsOld y → leads_to (images cs es) n (new x) (new y) ≡ pc.leads_to (map declared cs) n x y
    lead_alike zero x y o = turned x y o
    lead_alike (suc n) x y o =
        ap₂ (λ a b. a || b) (turned x y o)
        (ap (λ zs. list_any (λ z. leads_to (images cs es) n z (new y)) zs) (used_alike cs es g x)
        ∙ any-map (λ z. leads_to (images cs es) n z (new y)) new (pc.uses_of (map declared cs) x)
        ∙ ap (λ f. list_any f (pc.uses_of (map declared cs) x)) (fun_ext (λ z. lead_alike n z y o)))

    circular_alike : (c : prism.Const) (e : Entry) → e.name ≡ new c.name.name → IsOld c.name.name →
        is_circular (images cs es) (constant new c e) ≡ pc.is_circular (map declared cs) (declared c)
    circular_alike c e h o =
        let n = length (images cs es) in
        let us = (declared c).uses in
        ap (λ m. list_any (λ x. leads_to (images cs es) n x m) (uses (constant new c e))) h
        ∙ ap (λ zs. list_any (λ x. leads_to (images cs es) n x (new c.name.name)) zs) (uses_alike new c e)
        ∙ any-map (λ x. leads_to (images cs es) n x (new c.name.name)) new us
        ∙ ap (λ k. list_any (λ x. leads_to (images cs es) k (new x) (new c.name.name)) us) (n_images cs es g)
        ∙ ap (λ f. list_any f us) (fun_ext (λ x. lead_alike (length (map declared cs)) x c.name.name o))

    none_circular : (ds : List prism.Const) (us : List Entry) → Goes ds us → Each (λ d. pc.circular (map declared cs) d ≡ []) (map declared ds) →
        flat_map (circular (images cs es)) (images ds us) ≡ []
    none_circular [] us h k = refl
    none_circular (d ∷ ds) [] h k = absurd h
    none_circular (d ∷ ds) (u ∷ us) h k =
        append_both (circular (images cs es) (constant new d u)) (flat_map (circular (images cs es)) (images ds us))
        (fault_none (is_circular (images cs es) (constant new d u)) d.name.at Cycle
        (circular_alike d u h.0 h.1 ∙ no_fault (pc.is_circular (map declared cs) (declared d)) d.name.at Cycle k.0))
        (none_circular ds us h.2 k.1)

  goes_from : (cs : List prism.Const) (es : List Entry) → Takes new (map (λ c. c.name.name) cs) es → Each (λ c. IsOld c.name.name) cs → Goes cs (take (length cs) es)
  goes_from [] es t o = tt
  goes_from (c ∷ cs) [] t o = absurd t
  goes_from (c ∷ cs) (e ∷ es) t o = (t.0, o.0, goes_from cs es t.1 o.1)

-- ---- a file
same_tests : (a b c d : Name) → (a ≡ b → c ≡ d) → (c ≡ d → a ≡ b) → bytes_eq a b ≡ bytes_eq c d
same_tests a b c d f g = by_test (bytes_eq c d) refl
  where
    by_test : (t : Bool) → bytes_eq c d ≡ t → bytes_eq a b ≡ t
    by_test true e = (bytes_eq-Decides a b).1 (g (bytes_eq-true c d e))
    by_test false e = bytes_ne a b (λ q. let r : true ≡ false = sym ((bytes_eq-Decides c d).1 (f q)) ∙ e in absurd cc)

declarations_are : (file : prism.File) → IsWrittenOut file → declarations file ≡ map declared file.constants
declarations_are file w = ap (λ fs. map declared file.constants ++ map pc.declared_formula fs) w.formulas ∙ append-nil (map declared file.constants)

pub no_circles : (file : prism.File) → NoCircles file
no_circles file flat =
    let new = (new_names file).value in
    let d = values_distinct file flat in
    let IsOld : Name → Type 0 = Contains (value_names file) in
    let old = map (λ c. c.name.name) file.constants in
    let alike : (x y : Name) → IsOld y → bytes_eq (new y) (new x) ≡ bytes_eq y x =
    λ x y o. same_tests (new y) (new x) y x (λ q. sym (values_differ file d y x o (sym q))) (λ q. ap new q) in
    let turned : (x y : Name) → IsOld y → bytes_eq (new x) (new y) ≡ bytes_eq x y =
    λ x y o. same_tests (new x) (new y) x y (λ q. values_differ file d y x o q) (λ q. ap new q) in
    let takes = takes_from new old (entries file) (λ x. agrees_front x (new x) old (map (λ y. y.name.name) (variables file)) (entries file) (values_agree file d x)) in
    let olds = map_each IsOld (λ c. c.name.name) file.constants (each_parts IsOld old (map (λ y. y.name.name) (variables file)) (each_contained file (value_names file))).0 in
    let goes = goes_from new IsOld alike turned file.constants (entries file) takes olds in
    let k = subst (λ ds. flat_map (pc.circular ds) ds ≡ []) (declarations_are file flat.form) (no_name_fault file flat).circles in
    none_circular new IsOld alike turned file.constants (new_names file).constants goes file.constants (new_names file).constants goes
    (empty_each (pc.circular (map declared file.constants)) (map declared file.constants) k)
