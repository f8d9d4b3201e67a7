-- The names in the JANI file that a PRISM file is translated to (this project's own rule; in words: docs/TRANSLATION.md, "Names").
use Rattle.std.specs.Prelude.{◌≡◌, ◌++◌, map}
use Rattle.process_core.specs.Instance.{only_if}
use Rattle.prism_tree.specs.Syntax as prism
use Rattle.prism_names.specs.Flat.{flat}
use Rattle.jani_tree.specs.Syntax as jani
use Rattle.name_table.specs.declared.class.Target.TheVariants.{Jani}
use Rattle.name_table.specs.Asks.{actions, asks, entries, NewNames, new_names}
use Rattle.renaming.specs.Renaming.{IsOneToOne, names_of}
use Rattle.jani_translation.specs.Automata.{earns_silently, has_monitor, zz_monitor, zz_silent}
use Rattle.jani_translation.specs.NameLaws.{ActionsDiffer}

-- the new names of the file, whose formulas and copies of modules are written out: the entries of its constants, variables, labels, reward
-- structures and modules, and what its actions become
abbrev pub names : prism.File → NewNames
names old = new_names (flat old)

-- Each constant, variable, label, reward structure, module and action of the PRISM file has its entry's name in the JANI file, in order. There
-- labels and reward structures are variables, modules are automata, and an automaton or an action more may stand behind: the monitor, and
-- zz_silent. The entries go one to one with all that has a name: it is kept wherever it may be, and what shares a space gets different names. So
-- the map of labels, which is that of actions, is one to one too.
pub record AreJaniNames (old : prism.File) (new : jani.File) : Type 0 where
  pub constants : map (λ c. c.name.name) new.constants ≡ names_of (names old).constants
  pub variables : map (λ x. x.name.name) new.variables ≡ names_of (names old).variables ++ (names_of (names old).labels ++ names_of (names old).rewards)
  pub automata : map (λ a. a.name.name) new.automata ≡ names_of (names old).modules ++ only_if (has_monitor (flat old)) zz_monitor.name
  pub actions : map (λ a. a.name) new.actions ≡ map (names old).action (actions (flat old)) ++ only_if (earns_silently (flat old)) zz_silent.name
  pub one_to_one : IsOneToOne Jani (asks (flat old)) (entries (flat old))
  pub labels : ActionsDiffer (flat old)
