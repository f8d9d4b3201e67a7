-- The two labels that every model has, in a property.
use Rattle.std.specs.Prelude.{◌||◌, Bool, true, false, bytes_eq, if◌then◌else◌}
use Rattle.std.proofs.Common.{◌≡◌, sym, ap, ap₂, ◌∙◌}
use Rattle.std.proofs.lemmas.Slice.Eq.{bytes_eq-Decides}
use Rattle.prism_tree.specs.Grammar.{unquoted}
use Rattle.prop_grammar.specs.Grammar.{has_quotes}
use Rattle.prop_trees.specs.Trees.{Name}
use Rattle.prop_trees.specs.Names.{deadlock_name, filed_label, filed_name, initial_name, marked}

module _ (x label : Name) where
  abbrev by_tests : Bool → Bool → Name
  by_tests a b = if a || b then label else marked x

  pub filed_initial : (a : Bool) → a ≡ bytes_eq label initial_name → a ≡ true → initial_name ≡ filed_label x label
  filed_initial a e h = sym ((bytes_eq-Decides label initial_name).0 (sym e ∙ h)) ∙ ap (λ t. by_tests t (bytes_eq label deadlock_name)) (sym (sym e ∙ h))

  pub filed_deadlock : (a b : Bool) → a ≡ bytes_eq label initial_name → a ≡ false → b ≡ bytes_eq label deadlock_name → b ≡ true → deadlock_name ≡ filed_label x label
  filed_deadlock a b e h f k = sym ((bytes_eq-Decides label deadlock_name).0 (sym f ∙ k)) ∙ ap₂ by_tests (sym (sym e ∙ h)) (sym (sym f ∙ k))

  pub filed_other : (a b : Bool) → a ≡ bytes_eq label initial_name → a ≡ false → b ≡ bytes_eq label deadlock_name → b ≡ false → marked x ≡ filed_label x label
  filed_other a b e h f k = ap₂ by_tests (sym (sym e ∙ h)) (sym (sym f ∙ k))

  pub with_quotes : has_quotes x ≡ true → label ≡ unquoted x → filed_label x label ≡ filed_name x
  with_quotes q u = ap (filed_label x) u ∙ ap (λ t. if t then filed_label x (unquoted x) else marked x) (sym q)

pub without_quotes : (x : Name) → has_quotes x ≡ false → marked x ≡ filed_name x
without_quotes x q = ap (λ t. if t then filed_label x (unquoted x) else marked x) (sym q)
