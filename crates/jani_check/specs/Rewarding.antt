-- What the code's tables say of the participants of vectors that assign rewards.
use Rattle.std.specs.Prelude.{List, Bool, false, ◌&&◌, ◌||◌, Option}
use Rattle.std.specs.List.{list_any}
use Rattle.bridge_io.specs.declared.reason.Named.{Named}
use Rattle.bridge_io.specs.declared.reason.Reason.TheVariants.{TwoRewardWriters}
use Rattle.bridge_io.specs.declared.reason.Fault.{Fault}
use Rattle.jani_tree.specs.Syntax.{Edge, Vector, File}
use Rattle.name_rules.specs.Least.{fault_if}
use Rattle.name_rules.specs.Names.{has_name}
use Rattle.jani_check.specs.Things.{automaton_called, global_thing}
use Rattle.name_rules.specs.Names.{Name}
use Rattle.jani_check.specs.declared.things.Thing.{Thing}
use Rattle.jani_check.specs.declared.writers.Rewarding.{Rewarding}
use Rattle.jani_check.specs.TypeFaults.{has_action, with_automaton}
use Rattle.jani_check.specs.ProfileFaults.{assigns_reward, rewards_with, two_hold}
use Rattle.jani_check.specs.Participants.{parts_taken}

abbrev pub rewarded_in : Rewarding → Name → Bool
rewarded_in r x = has_name r.actions x

-- an edge has the action and assigns a reward
abbrev pub edge_rewards : (Name → Option Thing) → Name → Edge → Bool
edge_rewards things x e = has_action x e && assigns_reward things e

-- what an element does with an action, by its automaton
abbrev pub element_rewards : File → Named → Name → Bool
element_rewards file e x = with_automaton (λ a. rewards_with (global_thing file) a x) false (automaton_called file e.name)

-- by the actions with which the elements assign rewards
abbrev pub writers_by : List (Name → Bool) → Vector → List Fault
writers_by elements v = fault_if (two_hold (parts_taken false elements v.parts)) v.at TwoRewardWriters

-- some two of these hold, or one besides one that was found
abbrev pub holds_with : Bool → List Bool → Bool
holds_with one bs = (one && list_any (λ c. c) bs) || two_hold bs
