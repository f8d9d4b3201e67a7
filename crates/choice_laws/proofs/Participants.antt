-- The participants of an action of modules, as a walk over the modules.
use Rattle.std.specs.Prelude.{◌≡◌, List, [], ◌∷◌, ◌++◌, map, Bool, true, false, cond, Some, if◌then◌else◌}
use Rattle.std.specs.List.{flat_map, filter, list_any}
use Rattle.std.proofs.Common.{refl, ap, ◌∙◌}
use Rattle.process_core.specs.Ready.{Name, Ready, has_action, sharing}

-- those of the modules that have the action, and there the commands with it
pub sharing_walk : {E : Type 0} (x : Name) (g : E → List Ready) (els : List E) →
    sharing x (map g els) ≡ flat_map (λ el. (if list_any (has_action (Some x)) (g el) then (filter (has_action (Some x)) (g el)) ∷ [] else [])) els
sharing_walk x g [] = refl
sharing_walk x g (el ∷ els) = by_test (list_any (has_action (Some x)) (g el)) ∙ ap (λ l. (if list_any (has_action (Some x)) (g el) then (filter (has_action (Some x)) (g el)) ∷ [] else []) ++ l) (sharing_walk x g els)
  where
    by_test : (b : Bool) →
        map (filter (has_action (Some x))) (cond b (g el ∷ filter (list_any (has_action (Some x))) (map g els)) (filter (list_any (has_action (Some x))) (map g els)))
        ≡ (if b then filter (has_action (Some x)) (g el) ∷ [] else []) ++ sharing x (map g els)
    by_test true = refl
    by_test false = refl
