-- The process that a file describes keeps the laws of processes, where the instance has no fault.
-- (The laws are those of Markov decision processes, as the PRISM manual has them in "The PRISM Language".)
use Rattle.std.specs.Prelude.{◌≡◌, List, [], map, false}
use Rattle.std.specs.List.{All, flat_map}
use Rattle.std.proofs.Common.{refl, sym, subst}
use Rattle.std.proofs.lemmas.List.Elements.{All-append, All-map}
use Rattle.process_core.specs.States.{keeps_write_to}
use Rattle.basics.specs.Members.{all_each}
use Rattle.op_trees.specs.Seen.{Seen}
use Rattle.process_core.specs.Ready.{Values, Name, Update}
use Rattle.process_core.specs.Distribution.{KeepsStates, KeepsAll, choices_proper}
use Rattle.process_core.specs.Instance.{Valuation, Column, is_state, instance_faults}
use Rattle.process_core.specs.Steps.{IsProcess}
use Rattle.instance_start.specs.States.{state_length}
use Rattle.instance_start.specs.Participants.{each_flat, of_all}
use Rattle.instance_start.specs.Marks.{marks_length, first_names, mark_kinds}
use Rattle.instance_start.specs.Firsts.{BeginRight, HasFirst, HaveFirsts, initial_states, wide_states, condition_is, first_is}
use Rattle.prism_tree.specs.Syntax.{Branch, Command, File}
use Rattle.prism_names.specs.Names.{unchanged, Part, parts, see, written_name}
use Rattle.prism_flat.specs.Scene.{scene, column, columns_under, columns_of, constant_names, part_columns}
use Rattle.prism_flat.specs.FlatLaws.{none_seen}
use Rattle.prism_flat.specs.Moment.{place_of, write_at, update_at, command_at, names_in, part_at, moment}
use Rattle.prism_flat.specs.Process.{combinations, choice_rewards}
use Rattle.prism_instance.specs.Described.{described}

module _ (file : File) (cs : List Column) (rename : Name → Name) (names : Name → Seen) where
  update_keeps : (b : Branch) → All (KeepsStates (is_state cs)) (update_at file cs rename names b).writes
  update_keeps b =
      All-map (KeepsStates (is_state cs)) (write_at file cs rename names) b.writes
      (all_each (λ w. KeepsStates (is_state cs) (write_at file cs rename names w))
      (λ w. keeps_write_to cs (place_of cs (written_name file rename w.name.name)) (see w.value names)) b.writes)

  command_keeps : (c : Command) → KeepsAll (is_state cs) (command_at file cs rename names c)
  command_keeps c =
      All-map (λ (u : Update). All (KeepsStates (is_state cs)) u.writes) (update_at file cs rename names) c.branches
      (all_each (λ b. All (KeepsStates (is_state cs)) (update_at file cs rename names b).writes) update_keeps c.branches)

module _ (file : File) (v : Valuation) (s : Values) where
  part_keeps : (p : Part) → All (KeepsAll (is_state (columns_of file v))) (part_at file v s p)
  part_keeps p =
      All-map (KeepsAll (is_state (columns_of file v))) (command_at file (columns_of file v) p.rename (names_in file v s p.rename)) p.commands
      (all_each (λ c. KeepsAll (is_state (columns_of file v)) (command_at file (columns_of file v) p.rename (names_in file v s p.rename) c))
      (command_keeps file (columns_of file v) p.rename (names_in file v s p.rename)) p.commands)

  all_keep : All (All (KeepsAll (is_state (columns_of file v)))) (moment file v s).modules
  all_keep =
      All-map (All (KeepsAll (is_state (columns_of file v)))) (part_at file v s) (parts file)
      (all_each (λ p. All (KeepsAll (is_state (columns_of file v))) (part_at file v s p)) part_keeps (parts file))

-- ---- first values
module _ (file : File) (v : Valuation) where
  own_firsts : (p : Part) → All HasFirst (part_columns file false v p)
  own_firsts p =
      All-map HasFirst (column false p.rename (constant_names file v p.rename)) p.vars
      (all_each (λ x. HasFirst (column false p.rename (constant_names file v p.rename) x)) (λ x. refl) p.vars)

  all_firsts : All HasFirst (columns_under file false v)
  all_firsts =
      All-append HasFirst (map (column false unchanged (constant_names file v unchanged)) file.globals) (flat_map (part_columns file false v) (parts file))
      (All-map HasFirst (column false unchanged (constant_names file v unchanged)) file.globals
      (all_each (λ x. HasFirst (column false unchanged (constant_names file v unchanged) x)) (λ x. refl) file.globals))
      (each_flat HasFirst (part_columns file false v) own_firsts (parts file))

  have_firsts : HaveFirsts (scene file v)
  have_firsts e = subst (λ c. All HasFirst (columns_under file c v)) (sym e) all_firsts

module _ (file : File) (v : Valuation) (t : BeginRight (columns_of file v)) (h : instance_faults (scene file v) ≡ []) where
  pub described_is : IsProcess (described file v)
  described_is = record {
    columns = state_length (columns_of file v);
    marks = λ s k. marks_length _ _ _ _ _ _ file.labels file.rewards;
    labels = first_names _ _ file.labels file.rewards;
    kinds = λ s i m k e. mark_kinds _ _ _ _ (λ l. refl) (λ l. refl) file.labels file.rewards i m e;
    initial = λ s k. initial_states (columns_of file v) (moment file v s).condition s k;
    wide_initial = λ s k. wide_states (columns_of file v) (moment file v s).condition s k;
    condition = condition_is (scene file v) (have_firsts file v) h;
    first = first_is (scene file v) (λ s. (moment file v s).condition) t (λ e s. none_seen file v s e) h;
    proper = λ s k. choices_proper (is_state (columns_of file v)) s (combinations (moment file v s)) k
        (of_all (KeepsAll (is_state (columns_of file v))) (choice_rewards (moment file v s).rewards) (moment file v s).modules (all_keep file v s));
  }
