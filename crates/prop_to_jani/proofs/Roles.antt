-- The parts of properties, each with what it stands for: of a property that is made part by part, and what holds of each.
use Rattle.std.proofs.Common.{◌≡◌, refl, sym, ap₂, subst, ◌∙◌, List, [], ◌∷◌, ◌++◌, map}
use Rattle.std.specs.List.{AllByRecursion as Each, AllZip}
use Rattle.std.proofs.lemmas.List.{map-append}
use Rattle.basics.specs.Each.{each_map, map_each}
use Rattle.bridge_io.specs.declared.reason.Named.{Named}
use Rattle.op_trees.specs.Tree.{bare}
use Rattle.jani_tree.specs.Syntax.{Expression}
use Rattle.prop_grammar.specs.Property.{Ask, greatest, least, bounded, greatest_reward, least_reward, Path, finally, globally, until, weak_until, finally_within, until_within}
use Rattle.prop_trees.specs.Trees.{Name, JaniProperty, Role, parts, ask_parts, path_parts, ask_with, path_with}
use Rattle.prop_trees.specs.JaniText.{structure_name}
use Rattle.jani_props.specs.Syntax.{Written}
use Rattle.prop_to_jani.proofs.Lifted.{IsSame}

-- the same part with another expression
abbrev pub part_with : {E F : Type 0} → (E → F) → Role × E → Role × F
part_with f x = (x.0, f x.1)

module _ {E F : Type 0} (f : E → F) where
  ask_mapped : {R S : Type 0} (g : R → S) (a : Ask E R) → ask_parts (ask_with f g a) ≡ map (part_with f) (ask_parts a)
  ask_mapped g greatest = refl
  ask_mapped g least = refl
  ask_mapped g (bounded c e) = refl
  ask_mapped g (greatest_reward r) = refl
  ask_mapped g (least_reward r) = refl

  path_mapped : (p : Path E) → path_parts (path_with f p) ≡ map (part_with f) (path_parts p)
  path_mapped (finally e) = refl
  path_mapped (globally e) = refl
  path_mapped (until a b) = refl
  path_mapped (weak_until a b) = refl
  path_mapped (finally_within k e) = refl
  path_mapped (until_within k a b) = refl

  pub parts_mapped : {R S : Type 0} (g : R → S) (a : Ask E R) (p : Path E) → ask_parts (ask_with f g a) ++ path_parts (path_with f p) ≡ map (part_with f) (ask_parts a ++ path_parts p)
  parts_mapped g a p = ap₂ (λ x y. x ++ y) (ask_mapped g a) (path_mapped p) ∙ sym (map-append (part_with f) (ask_parts a) (path_parts p))

  -- what holds of the parts that are made
  pub parts_have : {R S : Type 0} (P : Role × F → Type 0) (g : R → S) (a : Ask E R) (p : Path E) → Each (λ x. P (part_with f x)) (ask_parts a ++ path_parts p) →
      Each P (ask_parts (ask_with f g a) ++ path_parts (path_with f p))
  parts_have P g a p h = subst (Each P) (sym (parts_mapped g a p)) (each_map (λ x. P (part_with f x)) P (part_with f) (λ x k. k) (ask_parts a ++ path_parts p) h)

-- what holds of the parts of a property, whatever the places, holds of those of the written property that is the same
module _ (rewards : List Name) (P : Role × Expression → Type 0) (placeless : (x : Role × Expression) → P x → P (part_with bare x)) (placed : (x : Role × Expression) → P (part_with bare x) → P x) where
  pub same_parts : (q : JaniProperty) (w : Written) → IsSame rewards q w → Each P (parts q) → Each P (parts w)
  same_parts q w s h =
      let asks : ask_parts (ask_with bare (λ (n : Named). n.name) w.ask) ++ path_parts (path_with bare w.path) ≡ ask_parts (ask_with bare (structure_name rewards) q.ask) ++ path_parts (path_with bare q.path) =
      ap₂ (λ a p. ask_parts a ++ path_parts p) s.asks.ask s.asks.path in
      let same : map (part_with bare) (parts q) ≡ map (part_with bare) (parts w) =
      sym (parts_mapped bare (structure_name rewards) q.ask q.path) ∙ sym asks ∙ parts_mapped bare (λ (n : Named). n.name) w.ask w.path in
      let bared : Each P (map (part_with bare) (parts q)) = each_map P P (part_with bare) placeless (parts q) h in
      placed_each (parts w) (map_each P (part_with bare) (parts w) (subst (Each P) same bared))
    where
      placed_each : (xs : List (Role × Expression)) → Each (λ x. P (part_with bare x)) xs → Each P xs
      placed_each [] k = tt
      placed_each (x ∷ xs) k = (placed x k.0, placed_each xs k.1)

-- one by one
pub same_each : (rewards : List Name) (P : JaniProperty → Type 0) (Q : Written → Type 0) → ((q : JaniProperty) (w : Written) → IsSame rewards q w → P q → Q w) →
    (qs : List JaniProperty) (ws : List Written) → AllZip (IsSame rewards) qs ws → Each P qs → Each Q ws
same_each rewards P Q h [] [] s k = tt
same_each rewards P Q h [] (w ∷ ws) s k = absurd s
same_each rewards P Q h (q ∷ qs) [] s k = absurd s
same_each rewards P Q h (q ∷ qs) (w ∷ ws) s k = (h q w s.0 k.0, same_each rewards P Q h qs ws s.1 k.1)
