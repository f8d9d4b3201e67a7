-- Names, commands and marks at a state are those that the file has there.
use Rattle.std.proofs.Common.{◌≡◌, List, [], ◌∷◌, map, true, Option, length, IsTrue, refl, sym, ap, ap₂, ◌∙◌}
use Rattle.std.proofs.lemmas.List.{length-map}
use Rattle.std.specs.List.{list_all}
use Rattle.basics.specs.Lists.{map_agree}
use Rattle.op_trees.specs.Seen.{Seen, known, looked_up}
use Rattle.process_core.specs.Ready.{Name, Values, Update, Ready}
use Rattle.process_core.specs.Instance.{Valuation, Column, is_state, write_to}
use Rattle.prism_tree.specs.Operators.{prism_meaning}
use Rattle.prism_tree.specs.Syntax.{Branch, Command, Module, plain, copied, File}
use Rattle.prism_tree.specs.Syntax as syntax
use Rattle.prism_names.specs.Names.{formula_body, unchanged, part_of, reading, see}
use Rattle.prism_check.specs.Scene.{columns_of, constant}
use Rattle.prism_check.specs.Moment.{value_in, names_in, place_of, weight_seen, write_at, update_at, command_at, part_at, item_at, moment}
use Rattle.prism_check.specs.Kept.{is_plain, IsWrittenOut}
use Rattle.prism_check.proofs.CleanTypes.{same_written}
use Rattle.prism_instance.specs.Shapes.{bodies, write_under, update_under, command_under}
use Rattle.std.proofs.Math.Path.{fun_ext}
use Rattle.op_trees.specs.Seen.{known_names}
use Rattle.op_trees.specs.declared.tree.Value.{Value}
use Rattle.prism_check.specs.Process.{is_for_states, state_reward}
use Rattle.prism_instance.specs.Shapes.{sum_under, earned_in_states}
use Rattle.instance_start.specs.Columns.{column_of}
use Rattle.instance_start.specs.States.{state_length}
use Rattle.instance_start.specs.declared.data.Column as code
use Rattle.prism_instance.proofs.Rewards.{sums_are}

pub reads_plainly : (file : File) → file.formulas ≡ [] → (names : Name → Seen) → reading file names ≡ names
unfolding reading
reads_plainly file e names = ap (λ n. looked_up prism_meaning (formula_body file) n names) (ap length e)

module _ (file : File) (cs : List Column) (names : Name → Seen) where
  write_is : (w : syntax.Write) → write_under cs names w ≡ write_at file cs unchanged names w
  write_is w = ap (λ x. write_to cs (place_of cs x) (see w.value names)) (sym (same_written file w.name.name))

  update_is : (b : Branch) → update_under cs names b ≡ update_at file cs unchanged names b
  update_is b = ap {B = Update} (λ ws. record { weight = weight_seen names b.weight; writes = ws; rewards = [] }) (map_agree _ _ write_is b.writes)

  command_is : (c : Command) → command_under cs names c ≡ command_at file cs unchanged names c
  command_is c =
      ap {B = Ready} (λ us. record { action = (command_under cs names c).action; guard = see c.guard names; updates = us })
      (map_agree _ _ update_is c.branches)

pub modules_are : (file : File) (v : Valuation) (s : Values) (ms : List Module) → list_all is_plain ms ≡ true →
    map (map (command_under (columns_of file v) (names_in file v s unchanged))) (bodies ms) ≡ map (part_at file v s) (map (part_of file) ms)
modules_are file v s [] h = refl
modules_are file v s (plain m ∷ ms) h =
    ap₂ (λ c l. c ∷ l) (map_agree _ _ (command_is file (columns_of file v) (names_in file v s unchanged)) m.commands) (modules_are file v s ms h)
modules_are file v s (copied m ∷ ms) h = absurd cc

-- ---- columns
pub column_count : (cols : List code.Column) (cs : List Column) → map column_of cols ≡ cs → length (map (λ (c : Column). c.name) cs) ≡ length cols
column_count cols cs e =
    ap (λ l. length (map (λ (c : Column). c.name) l)) (sym e) ∙ length-map (map column_of cols) (λ (c : Column). c.name) ∙ length-map cols column_of

-- a state has a value for each column that the code keeps
pub as_long : (cols : List code.Column) (cs : List Column) (s : Values) → map column_of cols ≡ cs → IsTrue (is_state cs s) → length s ≡ length cols
as_long cols cs s e h = state_length cs s h ∙ column_count cols cs e

-- ---- names
pub names_are : (file : File) (v : Valuation) (s : Values) → IsWrittenOut file → (env : Name → Option Value) →
    ((x : Name) → env x ≡ value_in (columns_of file v) s (constant file v) x) → known_names env ≡ names_in file v s unchanged
names_are file v s w env h = fun_ext (λ x. ap known (h x)) ∙ sym (reads_plainly file w.formulas (λ x. known (value_in (columns_of file v) s (constant file v) x)))

-- ---- marks
pub marks_are : (file : File) (v : Valuation) (s : Values) (names : Name → Seen) → names ≡ names_in file v s unchanged →
    map (sum_under names) (earned_in_states file.rewards) ≡ map state_reward (moment file v s).rewards
marks_are file v s names e = sums_are names is_for_states file.rewards ∙ ap (λ n. map state_reward (map (λ r. map (item_at n) r.items) file.rewards)) e
