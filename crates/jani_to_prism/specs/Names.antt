-- The names in the PRISM file that a JANI file is translated to (this project's own rule; in words: docs/TRANSLATION.md, "Names").
use Rattle.std.specs.Prelude.{◌≡◌, ◌-◌, ℕ, length, map, nat_lt, Some, if◌then◌else◌}
use Rattle.std.specs.List.{All, flat_map}
use Rattle.basics.specs.Options.{if_some}
use Rattle.process_core.specs.Ready.{Name}
use Rattle.prism_tree.specs.Syntax as prism
use Rattle.prism_names.specs.Names.{module_name}
use Rattle.jani_tree.specs.Syntax as jani
use Rattle.name_table.specs.declared.class.Target.TheVariants.{Prism}
use Rattle.name_table.specs.Asks.{variables}
use Rattle.name_table.specs.PrismAsks.{name_at}
use Rattle.renaming.specs.Renaming.{IsOneToOne, names_of}
use Rattle.prism_translation.specs.Modules.{actions}
use Rattle.prism_translation.specs.Names.{all_asks, entries, new_names}
use Rattle.prism_translation.specs.StateLaws.{columns, old_label}
use Rattle.prism_translation.specs.Targets.{old_name, targets}
use Rattle.jani_tree.specs.Syntax.{element_names}

-- the new name of a column of the JANI file: that of the location of an element, or of a variable that is not transient
abbrev pub column_name : jani.File → ℕ → Name
column_name old j =
    if nat_lt j (length (element_names old)) then name_at (new_names old).locations j else name_at (new_names old).variables (j - length (element_names old))

-- Each constant, element, label and reward structure of the JANI file has its entry's name in the PRISM file, in order, where elements are modules,
-- and labels and reward structures were transient variables. The variables of the PRISM file, in the order of its columns, are called as the
-- columns of the JANI file that they stand for: so the map of states and names go together. There is an action for each target, whose old name
-- is the label that the map of labels gives for its new one. The entries go one to one with all that has a name: it is kept wherever it may be, and
-- what shares a space gets different names.
pub record ArePrismNames (old : jani.File) (new : prism.File) : Type 0 where
  pub constants : map (λ c. c.name.name) new.constants ≡ names_of (new_names old).constants
  pub variables : map (λ x. x.name.name) (variables new) ≡ map (column_name old) (columns old)
  pub modules : map (λ m. (module_name m).name) new.modules ≡ names_of (new_names old).modules
  pub labels : map (λ l. l.name.name) new.labels ≡ names_of (new_names old).labels
  pub rewards : map (λ n. n.name) (flat_map (λ r. if_some r.name) new.rewards) ≡ names_of (new_names old).rewards
  pub one_action : map (λ t. t.target) (actions old (new_names old)) ≡ targets old
  pub back : All (λ t. old_label old (Some t.name) ≡ old_name t.target) (actions old (new_names old))
  pub one_to_one : IsOneToOne Prism (all_asks old) (entries old)
