-- The new names of a file do not depend on the places that its tree keeps.
use Rattle.std.specs.Prelude.{◌≡◌, ℕ, ◌+◌, List, ◌++◌, map, length, drop, Option, bytes_eq}
use Rattle.std.specs.List.{flat_map}
use Rattle.std.specs.Option.{option_map}
use Rattle.std.proofs.Common.{refl, sym, ap, ap₂, ◌∙◌}
use Rattle.std.proofs.lemmas.List.{length-map}
use Rattle.bridge_io.specs.declared.reason.Named.{Named}
use Rattle.basics.specs.Options.{if_some}
use Rattle.process_core.specs.Ready.{Name, firsts}
use Rattle.prism_tree.specs.Syntax.{Command, Module, plain, copied, File}
use Rattle.op_trees.specs.Names.{bare_name}
use Rattle.prism_check.specs.Same.{bare_const, bare_var, bare_command, bare_body, bare_module, bare_label, bare_rewards, bare_file}
use Rattle.basics.specs.Mapped.{some_mapped, joined, turned, gathered, mapped, walked}
use Rattle.name_table.specs.declared.class.NameClass.TheVariants.{Reward}
use Rattle.name_table.specs.declared.class.Target.TheVariants.{Jani}
use Rattle.name_table.specs.declared.entry.Entry.{Entry}
use Rattle.name_table.specs.Entries.{entries_of}
use Rattle.name_table.specs.Asks.{contents, bodies, variables, action_of, actions, called, asks, entries, some_from, new_name, NewNames, names_by, new_names}

-- ---- what has a name
pub action-bare : (c : Command) → action_of (bare_command c) ≡ action_of c
action-bare c = some_mapped bare_name _ (λ a. a.name) (λ a. refl) c.action

pub called-bare : (n : Option Named) → called (option_map bare_name n) ≡ called n
called-bare n = some_mapped bare_name _ (λ x. x.name) (λ x. refl) n

contents-bare : (m : Module) → contents (bare_module m) ≡ bare_body (contents m)
contents-bare (plain m) = refl
contents-bare (copied m) = refl

-- the new names, by how many things of each kind there are, the names of values and the actions
same_names : (es : List Entry) (c d v w l k r q m n : ℕ) (xs ys us vs : List Name) → c ≡ d → v ≡ w → l ≡ k → r ≡ q → m ≡ n → xs ≡ ys → us ≡ vs →
    ◌≡◌ {A = NewNames}
    (record { constants = some_from 0 c es; variables = some_from c v es; labels = some_from (c + v) l es; rewards = some_from (c + v + l) r es; modules = some_from (c + v + l + r) m es; value = new_name xs es; action = new_name us (drop (c + v + l + r + m) es) })
    (record { constants = some_from 0 d es; variables = some_from d w es; labels = some_from (d + w) k es; rewards = some_from (d + w + k) q es; modules = some_from (d + w + k + q) n es; value = new_name ys es; action = new_name vs (drop (d + w + k + q + n) es) })
same_names es c d v w l k r q m n xs ys us vs e1 e2 e3 e4 e5 e6 e7 = cc

module _ (file : File) where
  pub bodies-bare : bodies (bare_file file) ≡ map bare_body (bodies file)
  bodies-bare = turned bare_body bare_module contents contents contents-bare file.modules

  pub variables-bare : variables (bare_file file) ≡ map bare_var (variables file)
  variables-bare =
      joined bare_var _ _ _ _ refl (ap (flat_map (λ m. m.vars)) bodies-bare ∙ gathered bare_var bare_body (λ m. m.vars) (λ m. m.vars) (λ m. refl) (bodies file))

  pub actions-bare : actions (bare_file file) ≡ actions file
  actions-bare =
      ap (λ ms. firsts bytes_eq (flat_map (λ m. flat_map (λ c. if_some (action_of c)) m.commands) ms)) bodies-bare
      ∙ ap (firsts bytes_eq) (walked bare_body _ (λ m. flat_map (λ c. if_some (action_of c)) m.commands)
      (λ m. walked bare_command _ (λ c. if_some (action_of c)) (λ c. ap if_some (action-bare c)) m.commands) (bodies file))

  variable_names-bare : {B : Type 0} (f : Name → B) → map (λ x. f x.name.name) (variables (bare_file file)) ≡ map (λ x. f x.name.name) (variables file)
  variable_names-bare f = ap (map (λ x. f x.name.name)) variables-bare ∙ mapped bare_var _ (λ x. f x.name.name) (λ x. refl) (variables file)

  -- ---- asks and entries
  asks-bare : asks (bare_file file) ≡ asks file
  asks-bare =
      ap₂ (λ a b. a ++ b) (mapped bare_const _ _ (λ c. refl) file.constants)
      (ap₂ (λ a b. a ++ b) (variable_names-bare _)
      (ap₂ (λ a b. a ++ b) (mapped bare_label _ _ (λ l. refl) file.labels)
      (ap₂ (λ a b. a ++ b) (mapped bare_rewards _ _ (λ r. ap (λ n. (Reward, n)) (called-bare r.name)) file.rewards)
      (ap₂ (λ a b. a ++ b) (ap (map _) bodies-bare ∙ mapped bare_body _ _ (λ m. refl) (bodies file)) (ap (map _) actions-bare)))))

  entries-bare : entries (bare_file file) ≡ entries file
  entries-bare = ap (entries_of Jani) asks-bare

  -- ---- new names, by how many things of each kind there are
  pub new_names-bare : new_names (bare_file file) ≡ new_names file
  new_names-bare =
      ap (names_by (bare_file file)) entries-bare
      ∙ same_names (entries file) _ _ _ _ _ _ _ _ _ _ _ _ _ _ (length-map file.constants bare_const) (ap length variables-bare ∙ length-map (variables file) bare_var)
      (length-map file.labels bare_label) (length-map file.rewards bare_rewards) (length-map file.modules bare_module)
      (ap₂ (λ a b. a ++ b) (mapped bare_const _ _ (λ c. refl) file.constants) (variable_names-bare (λ x. x))) actions-bare

-- files that are the same but for places have the same entries
pub entries_alike : (f g : File) → bare_file f ≡ bare_file g → entries f ≡ entries g
entries_alike f g e = sym (entries-bare f) ∙ ap entries e ∙ entries-bare g
