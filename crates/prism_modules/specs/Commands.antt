-- The commands of edges and of loops, by the numbers of the targets that they serve.
use Rattle.std.specs.Prelude.{ℕ, List, [], ◌∷◌, ◌++◌, map, Bool, Option, Some, None, Vec}
use Rattle.std.specs.Global.{Global}
use Rattle.std.specs.List.{flat_map, zip}
use Rattle.process_core.specs.Ready.{Name}
use Rattle.process_core.specs.Instance.{only_if}
use Rattle.bridge_io.specs.declared.reason.Named.{Named}
use Rattle.prism_tree.specs.Syntax as prism
use Rattle.jani_tree.specs.Syntax.{File, Edge, Automaton}
use Rattle.jani_meaning.specs.Loops.{loop_at}
use Rattle.name_table.specs.PrismAsks.{NewNames, name_at}
use Rattle.prism_targets.specs.Elements.{Element}
use Rattle.prism_targets.specs.Parts.{made}
use Rattle.prism_targets.specs.Modules.{falsehood, guard, branch, is_single, command}
use Rattle.module_parts.specs.declared.entries.Names.{Names}
use Rattle.module_parts.specs.Code.{file_in, names_in}

module _ (file : File) (names : NewNames) (el : Element) where
  -- an edge as a command with this action, or with none
  abbrev pub command_with : Edge → Option Named → prism.Command
  command_with e a = record {
    action = a;
    guard = guard file names el e;
    branches = map (branch file names el (is_single file names el e.destinations)) e.destinations;
  }

-- those of an edge for the targets of these numbers
abbrev pub target_commands : Names → Element → Edge → List ℕ → List prism.Command
target_commands n el e ts = map (λ i. command (file_in n) (names_in n) el e (Some (name_at (names_in n).actions i))) ts

-- and one without action, if it serves the empty action
abbrev pub commands_by : Names → Element → Edge → List ℕ → Bool → List prism.Command
commands_by n el e ts silent = target_commands n el e ts ++ only_if silent (command (file_in n) (names_in n) el e None)

-- those of edges in order, by what each serves
abbrev pub edge_commands : Names → Element → List Edge → List (List ℕ × Bool) → List prism.Command
edge_commands n el es served = flat_map (λ p. commands_by n el p.0 p.1.0 p.1.1) (zip es served)

-- those of the loops of an automaton with an action, each of which serves the targets of these numbers
abbrev pub loop_commands : Names → Element → Automaton → Named → List ℕ → List prism.Command
loop_commands n el a x ts = flat_map (λ l. target_commands n el (loop_at a x l) ts) a.locations

-- those of all its loops, by what the loops with each action serve
abbrev pub loops_commands : Names → Element → Automaton → List Named → List (Vec ℕ Global) → List prism.Command
loops_commands n el a xs lists = flat_map (λ p. loop_commands n el a p.0 p.1.items) (zip xs lists)

-- a command that is never enabled
abbrev pub never : Name → prism.Command
never a = record { action = Some (made a); guard = falsehood; branches = record { weight = None; writes = [] } ∷ [] }
