-- The new names of a file: of each entry, of the names that are known and of the actions.
use Rattle.std.specs.Prelude.{◌≡◌, ℕ, ◌≤◌, List, [], ◌∷◌, length, drop, Bool, true, false, ◌||◌, Some, slice_get, bytes_eq, if◌then◌else◌}
use Rattle.std.specs.List.{list_any, AllByRecursion as Each}
use Rattle.std.proofs.Common.{refl, arith, length-drop}
use Rattle.basics.specs.Each.{each_at, each_take, each_drop}
use Rattle.process_core.specs.Ready.{Name}
use Rattle.prism_tree.specs.Syntax as prism
use Rattle.basics.specs.Lists.{IsNotEmpty as HasItems}
use Rattle.jani_translation.specs.Entry.{Entry}
use Rattle.jani_translation.specs.Asks.{entries, some_from, new_name, value_names, new_names, actions, actions_at}
use Rattle.jani_translation.proofs.Each.{n_entries}
use Rattle.jani_translation.proofs.Fresh.{no_empty, enough}

-- ---- names that are made
some_items : (x : Name) → (x ≡ [] → ⊥) → HasItems x
some_items [] h = absurd (h refl)
some_items (b ∷ x) h = tt

-- ---- the names of a file
module _ (file : prism.File) where
  pub entry_name : (i : ℕ) (e : Entry) → slice_get (entries file) i ≡ Some e → HasItems e.name
  entry_name i e h = some_items e.name (no_empty file i e h)

  pub entry_names : Each (λ e. HasItems e.name) (entries file)
  entry_names = each_at (λ e. HasItems e.name) (entries file) entry_name

  pub names_from : (at n : ℕ) → Each (λ e. HasItems e.name) (some_from at n (entries file))
  names_from at n = each_take (λ e. HasItems e.name) n (drop at (entries file)) (each_drop (λ e. HasItems e.name) at (entries file) entry_names)

-- the new name of an old one is that of an entry
pub new_has : (P : Name → Type 0) (ys : List Name) (es : List Entry) (x : Name) → length ys ≤ length es → list_any (λ y. bytes_eq y x) ys ≡ true →
    Each (λ e. P e.name) es → P (new_name ys es x)
new_has P [] es x l k h = absurd cc
new_has P (y ∷ ys) [] x l k h = absurd (omega arith)
new_has P (y ∷ ys) (e ∷ es) x l k h = by_test (bytes_eq y x) k (λ q. new_has P ys es x (omega arith) q h.1)
  where
    by_test : (b : Bool) → (b || list_any (λ u. bytes_eq u x) ys) ≡ true → (list_any (λ u. bytes_eq u x) ys ≡ true → P (new_name ys es x)) → P (if b then e.name else new_name ys es x)
    by_test true q r = h.0
    by_test false q r = r q

module _ (file : prism.File) where
  pub known_name : (x : Name) → list_any (λ y. bytes_eq y x) (value_names file) ≡ true → HasItems ((new_names file).value x)
  known_name x k = new_has HasItems (value_names file) (entries file) x (enough file) k (entry_names file)

  pub action_name : (x : Name) → list_any (λ y. bytes_eq y x) (actions file) ≡ true → HasItems ((new_names file).action x)
  action_name x k =
      let n = n_entries file in
      let d = length-drop (actions_at file (entries file)) (entries file) in
      new_has HasItems (actions file) (drop (actions_at file (entries file)) (entries file)) x (omega arith) k
      (each_drop (λ e. HasItems e.name) (actions_at file (entries file)) (entries file) (entry_names file))
