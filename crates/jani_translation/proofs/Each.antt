-- Lists that are gone through together: there are as many entries as what asked for them.
use Rattle.std.specs.Prelude.{◌≡◌, ℕ, suc, ◌+◌, ◌≤◌, List, [], ◌∷◌, ◌++◌, map, length, drop}
use Rattle.std.specs.List.{zip}
use Rattle.std.proofs.Common.{refl, sym, ap, ap₂, ◌∙◌, arith, length-append, length-drop}
use Rattle.std.proofs.lemmas.List.{length-map, length-take-le}
use Rattle.prism_tree.specs.Syntax as prism
use Rattle.name_table.specs.declared.class.Target.TheVariants.{Jani}
use Rattle.name_table.specs.declared.entry.Entry.{Entry}
use Rattle.name_table.proofs.EntryLemmas.{one_each}
use Rattle.name_table.specs.Asks.{contents, bodies, variables, actions, constant_asks, variable_asks, label_asks, reward_asks, module_asks, action_asks, asks, entries, some_from, new_names, labels_at, rewards_at, modules_at}

-- what is seen of each pair alone on the left side
pub map-zip : {X Y Z W : Type 0} (h : Z → W) (g : X → Y → Z) (f : X → W) → ((x : X) (y : Y) → h (g x y) ≡ f x) →
    (xs : List X) (ys : List Y) → length xs ≡ length ys → map h (map (λ p. g p.0 p.1) (zip xs ys)) ≡ map f xs
map-zip h g f e [] ys l = refl
map-zip h g f e (x ∷ xs) [] l = absurd cc
map-zip h g f e (x ∷ xs) (y ∷ ys) l = ap₂ (λ a b. a ∷ b) (e x y) (map-zip h g f e xs ys (omega arith))

-- and on the right side
pub map-zip-right : {X Y Z W : Type 0} (h : Z → W) (g : X → Y → Z) (f : Y → W) → ((x : X) (y : Y) → h (g x y) ≡ f y) →
    (xs : List X) (ys : List Y) → length xs ≡ length ys → map h (map (λ p. g p.0 p.1) (zip xs ys)) ≡ map f ys
map-zip-right h g f e [] [] l = refl
map-zip-right h g f e [] (y ∷ ys) l = absurd cc
map-zip-right h g f e (x ∷ xs) [] l = absurd cc
map-zip-right h g f e (x ∷ xs) (y ∷ ys) l = ap₂ (λ a b. a ∷ b) (e x y) (map-zip-right h g f e xs ys (omega arith))

pub length-zip : {X Y : Type 0} (xs : List X) (ys : List Y) → length xs ≡ length ys → length (zip xs ys) ≡ length xs
length-zip [] ys l = refl
length-zip (x ∷ xs) [] l = absurd cc
length-zip (x ∷ xs) (y ∷ ys) l = ap suc (length-zip xs ys (omega arith))

-- ---- how many entries there are
pub length-some : (at n : ℕ) (es : List Entry) → at + n ≤ length es → n ≡ length (some_from at n es)
length-some at n es h =
    let d = length-drop at es in
    let t = length-take-le n (drop at es) (omega arith) in
    sym t

module _ (file : prism.File) where
  n_constants : length (constant_asks file) ≡ length file.constants
  n_constants = length-map file.constants _

  n_variables : length (variable_asks file) ≡ length (variables file)
  n_variables = length-map (variables file) _

  n_labels : length (label_asks file) ≡ length file.labels
  n_labels = length-map file.labels _

  n_rewards : length (reward_asks file) ≡ length file.rewards
  n_rewards = length-map file.rewards _

  pub n_bodies : length (bodies file) ≡ length file.modules
  n_bodies = length-map file.modules contents

  n_modules : length (module_asks file) ≡ length file.modules
  n_modules = length-map (bodies file) _ ∙ n_bodies

  n_actions : length (action_asks file) ≡ length (actions file)
  n_actions = length-map (actions file) _

  pub n_entries : length (entries file) ≡ modules_at file (entries file) + length file.modules + length (actions file)
  n_entries =
      let a = length-append (constant_asks file) (variable_asks file ++ (label_asks file ++ (reward_asks file ++ (module_asks file ++ action_asks file)))) in
      let b = length-append (variable_asks file) (label_asks file ++ (reward_asks file ++ (module_asks file ++ action_asks file))) in
      let c = length-append (label_asks file) (reward_asks file ++ (module_asks file ++ action_asks file)) in
      let d = length-append (reward_asks file) (module_asks file ++ action_asks file) in
      let e = length-append (module_asks file) (action_asks file) in
      let f = n_constants in
      let g = n_variables in
      let h = n_labels in
      let i = n_rewards in
      let j = n_modules in
      let k = n_actions in
      let l = one_each Jani (asks file) in
      omega arith

  pub for_constants : length file.constants ≡ length (new_names file).constants
  for_constants = let h = n_entries in length-some 0 (length file.constants) (entries file) (omega arith)

  pub for_variables : length (variables file) ≡ length (new_names file).variables
  for_variables = let h = n_entries in length-some (length file.constants) (length (variables file)) (entries file) (omega arith)

  pub for_labels : length file.labels ≡ length (new_names file).labels
  for_labels = let h = n_entries in length-some (labels_at file (entries file)) (length file.labels) (entries file) (omega arith)

  pub for_rewards : length file.rewards ≡ length (new_names file).rewards
  for_rewards = let h = n_entries in length-some (rewards_at file (entries file)) (length file.rewards) (entries file) (omega arith)

  pub for_modules : length (bodies file) ≡ length (new_names file).modules
  for_modules = let h = n_entries in n_bodies ∙ length-some (modules_at file (entries file)) (length file.modules) (entries file) (omega arith)
