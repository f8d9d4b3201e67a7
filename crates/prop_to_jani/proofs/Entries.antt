-- The entries of a model and of its properties, and their parts.
use Rattle.std.proofs.Common.{◌≡◌, ℕ, ◌+◌, ◌-◌, refl, sym, ap, ap₂, ◌∙◌, arith, length-append, List, [], ◌++◌, map, length, take, drop}
use Rattle.std.proofs.lemmas.List.{drop-drop, length-map}
use Rattle.prism_tree.specs.Syntax.{Label, File}
use Rattle.prism_print.specs.Same.{bare_file, bare_label}
use Rattle.name_table.specs.declared.class.NameClass.TheVariants.{Property as OfProperty}
use Rattle.name_table.specs.declared.class.Target.TheVariants.{Jani}
use Rattle.name_table.specs.declared.entry.Entry.{Entry}
use Rattle.name_table.specs.Entries.{Ask, Table, entries_after}
use Rattle.name_table.specs.Asks.{variables, asks, entries, new_name, NewNames, new_names}
use Rattle.name_table.specs.Gathered.{told}
use Rattle.name_table.proofs.Bare.{new_names-bare, entries_alike}
use Rattle.name_table.proofs.EntryLemmas.{after_append, one_each, first_alone}
use Rattle.prop_trees.specs.Trees.{Name, PrismProperty}
use Rattle.prop_grammar.specs.Grammar.{has_quotes}
use Rattle.prism_tree.specs.Grammar.{unquoted}
use Rattle.std.specs.Prelude.{if◌then◌else◌}
use Rattle.basics.specs.Mapped.{mapped}
use Rattle.prop_trees.specs.Names.{marked, Meant, of_model, is_initial, is_deadlock, nothing, meant}
use Rattle.prop_to_jani.specs.ToJani.{label_names, new_meant, new_property_name, reward_names, property_asks, all_entries, property_entries}

-- ---- all entries
module _ (file : File) (ps : List PrismProperty) where
  -- those of properties come behind the model's
  pub behind_model : all_entries file ps ≡ entries_after Jani (entries file) (property_asks ps)
  behind_model = after_append Jani [] (asks file) (property_asks ps)

  pub model_many : length (entries file) ≡ length (asks file)
  model_many = one_each Jani (asks file)

  pub all_many : length (all_entries file ps) ≡ length (asks file) + length ps
  all_many =
      let of : PrismProperty → Ask = λ p. (OfProperty, p.name) in
      one_each Jani (asks file ++ property_asks ps) ∙ length-append (asks file) (property_asks ps) ∙ ap (λ n. length (asks file) + n) (length-map ps of)

  pub model_front : take (length (asks file)) (all_entries file ps) ≡ entries file
  model_front = first_alone Jani (asks file) (property_asks ps)

  -- ---- their parts, where the lists are as long as these
  module _ (all : List Entry) (props behind : ℕ) (are : all ≡ all_entries file ps) (many : props ≡ length ps) (at : behind ≡ length all - props) where
    pub behind_is : behind ≡ length (asks file)
    behind_is = let n = ap length are ∙ all_many in omega (arith, n, many, at)

    pub model_part : (model : List Entry) → model ≡ take behind all → model ≡ entries file
    model_part model e = e ∙ ap₂ (λ (n : ℕ) (l : List Entry). take n l) behind_is are ∙ model_front

    pub properties_part : (properties : List Entry) → properties ≡ drop behind all → properties ≡ property_entries file ps
    properties_part properties e = e ∙ ap₂ (λ (n : ℕ) (l : List Entry). drop n l) behind_is are

    pub rewards_part : (model named rewards first second : List Entry) (constants vars labels count : ℕ) → model ≡ take behind all →
        first ≡ drop constants model → named ≡ drop vars first → second ≡ drop labels named → rewards ≡ take count second →
        constants ≡ length file.constants → vars ≡ length (variables file) → labels ≡ length file.labels → count ≡ length file.rewards →
        rewards ≡ (new_names file).rewards
    rewards_part model named rewards first second constants vars labels count m f n s r c v l k =
        r
        ∙ ap₂ (λ (i : ℕ) (es : List Entry). take i es) k
        (s ∙ ap (drop labels) (n ∙ ap (drop vars) (f ∙ ap (drop constants) (model_part model m)))
        ∙ ap (drop labels) (drop-drop vars constants (entries file))
        ∙ drop-drop labels (constants + vars) (entries file)
        ∙ ap (λ (i : ℕ). drop i (entries file)) (ap₂ (λ (i j : ℕ). i + j) (ap₂ (λ (i j : ℕ). i + j) c v) l))

-- a table that was told the model's asks, and then those of its properties
pub told_all : (file : File) (ps : List PrismProperty) (old new : Table) → old.target ≡ Jani → old.entries ≡ entries file → new ≡ told old (property_asks ps) →
    new.entries ≡ all_entries file ps
told_all file ps old new t e n =
    ap (λ (u : Table). u.entries) n ∙ ap₂ (λ x es. entries_after x es (property_asks ps)) t e ∙ sym (behind_model file ps)

-- ---- files that are the same but for places
module _ (f g : File) (same : bare_file f ≡ bare_file g) where
  names_alike : new_names f ≡ new_names g
  names_alike = sym (new_names-bare f) ∙ ap new_names same ∙ new_names-bare g

  pub rewards_alike : reward_names f ≡ reward_names g
  rewards_alike = ap (λ n. map (λ e. e.name) n.rewards) names_alike

  pub properties_alike : (ps : List PrismProperty) → property_entries f ps ≡ property_entries g ps
  properties_alike ps =
      ap₂ (λ (n : ℕ) (l : List Entry). drop n l)
      (sym (model_many f ps) ∙ ap length (entries_alike f g same) ∙ model_many g ps)
      (behind_model f ps ∙ ap (λ es. entries_after Jani es (property_asks ps)) (entries_alike f g same) ∙ sym (behind_model g ps))

  label_names-bare : (h : File) → label_names (bare_file h) ≡ label_names h
  label_names-bare h = mapped bare_label (λ (l : Label). l.name.name) (λ (l : Label). l.name.name) (λ l. refl) h.labels

  labels_alike : label_names f ≡ label_names g
  labels_alike = sym (label_names-bare f) ∙ ap label_names same ∙ label_names-bare g

  pub name_alike : (x : Name) → new_property_name f x ≡ new_property_name g x
  name_alike x = meant_alike x (meant x)
    where
      meant_alike : (y : Name) (m : Meant) → new_meant f y m ≡ new_meant g y m
      meant_alike y (of_model z) =
          ap₂ (λ (n : NewNames) (ls : List Name). marked (if has_quotes z then new_name ls n.labels (unquoted z) else n.value z)) names_alike labels_alike
      meant_alike y is_initial = refl
      meant_alike y is_deadlock = refl
      meant_alike y nothing = refl
