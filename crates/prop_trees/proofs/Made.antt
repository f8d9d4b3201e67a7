-- The parts of a property that is made part by part.
use Rattle.std.specs.Prelude.{◌++◌}
use Rattle.std.specs.List.{AllByRecursion as Each}
use Rattle.basics.specs.Each.{each_join, each_parts}
use Rattle.prop_grammar.specs.Property.{Ask, greatest, least, bounded, greatest_reward, least_reward, Path, finally, globally, until, weak_until, finally_within, until_within}
use Rattle.prop_trees.specs.Trees.{Role, ask_parts, path_parts, ask_with, path_with}

module _ {E F : Type 0} (P : F → Type 0) (f : E → F) where
  ask_parts_with : {R S : Type 0} (g : R → S) (a : Ask E R) → Each (λ (x : Role × E). P (f x.1)) (ask_parts a) → Each (λ (x : Role × F). P x.1) (ask_parts (ask_with f g a))
  ask_parts_with g greatest h = tt
  ask_parts_with g least h = tt
  ask_parts_with g (bounded c e) h = h
  ask_parts_with g (greatest_reward r) h = tt
  ask_parts_with g (least_reward r) h = tt

  path_parts_with : (p : Path E) → Each (λ (x : Role × E). P (f x.1)) (path_parts p) → Each (λ (x : Role × F). P x.1) (path_parts (path_with f p))
  path_parts_with (finally e) h = h
  path_parts_with (globally e) h = h
  path_parts_with (until a b) h = h
  path_parts_with (weak_until a b) h = h
  path_parts_with (finally_within k e) h = h
  path_parts_with (until_within k a b) h = h

  pub parts_with : {R S : Type 0} (g : R → S) (a : Ask E R) (p : Path E) → Each (λ (x : Role × E). P (f x.1)) (ask_parts a ++ path_parts p) →
      Each (λ (x : Role × F). P x.1) (ask_parts (ask_with f g a) ++ path_parts (path_with f p))
  parts_with g a p h =
      let r = each_parts (λ (x : Role × E). P (f x.1)) (ask_parts a) (path_parts p) h in
      each_join (λ (x : Role × F). P x.1) (ask_parts (ask_with f g a)) (path_parts (path_with f p)) (ask_parts_with g a r.0) (path_parts_with p r.1)
