-- All faults of a JANI file of the first kind that it has any of: those of names, then those of types, then those of the
-- profile.
use Rattle.std.specs.Prelude.{◌≡◌, ℕ, List, [], length}
use Rattle.std.specs.List.{sum_by}
use Rattle.bridge_io.specs.declared.reason.Named.{Named}
use Rattle.bridge_io.specs.declared.reason.Fault.{Fault}
use Rattle.name_rules.specs.Least.{or_else}
use Rattle.jani_tree.specs.Syntax.{Edge, File, element_names}
use Rattle.jani_tree.specs.Form.{FileRead, KeysOnce}
use Rattle.jani_check.specs.Things.{automaton_called}
use Rattle.jani_check.specs.NameFaults.{name_faults}
use Rattle.jani_check.specs.TypeFaults.{with_automaton, type_faults}
use Rattle.jani_check.specs.ProfileFaults.{profile_faults}

abbrev pub faults : File → List Fault
faults file = or_else (name_faults file) (or_else (type_faults file) (profile_faults file))

-- A file of the profile: it has no fault, the form of trees, and no object of its properties has a key twice.
pub record IsChecked (file : File) : Type 0 where
  pub clean : faults file ≡ []
  pub form : FileRead file
  pub once : KeysOnce file.properties

-- the edges of the automata that take part
abbrev pub element_edges : File → Named → List Edge
element_edges file e = with_automaton (λ a. a.edges) [] (automaton_called file e.name)

abbrev pub edge_count : File → ℕ
edge_count file = sum_by (λ e. length (element_edges file e)) (element_names file)

-- a file of the profile, and how many edges take part
pub record IsReady (file : File) (edges : ℕ) : Type 0 where
  pub checked : IsChecked file
  pub edges_are : edges ≡ edge_count file
