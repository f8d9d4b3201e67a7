-- The modules of a PRISM file as automata, and the monitor that earns the rewards of choices (this project's own rule; the
-- members are those of the jani-model specification, version 1: "Automata", "Edges", "Transient variables"). The
-- places that the trees keep are of no account.
use Rattle.std.specs.Prelude.{List, [], ◌∷◌, ◌++◌, map, codes, Bool, true, false, ◌&&◌, ◌||◌, Option, Some, None, is_none, if◌then◌else◌, bytes_eq}
use Rattle.std.specs.List.{flat_map, filter, list_any, zip}
use Rattle.std.specs.Option.{option_map}
use Rattle.bridge_io.specs.declared.reason.Named.{Named}
use Rattle.op_trees.specs.Tree.{Two, Three}
use Rattle.process_core.specs.Ready.{Name}
use Rattle.prism_tree.specs.declared.syntax.ItemOn.{ItemOn}
use Rattle.prism_tree.specs.declared.syntax.ItemOn.TheVariants as On
use Rattle.prism_tree.specs.Syntax as prism
use Rattle.prism_tree.specs.Syntax.{Body, Command, Branch, Label, Item, Rewards}
use Rattle.process_core.specs.Instance.{only_if}
use Rattle.jani_table.specs.declared.operator.JaniOp.TheVariants.{Add, Ite}
use Rattle.jani_tree.specs.Syntax.{Expression, Write, Destination, Edge, Automaton}
use Rattle.name_table.specs.declared.entry.Entry.{Entry}
use Rattle.prism_images.specs.Image.{image}
use Rattle.name_table.specs.Asks.{bodies, actions, NewNames}
use Rattle.jani_translation.specs.Parts.{made, instead, instead_if, nought}

-- ---- names of their own
-- the one location of each automaton
abbrev pub loc : Named
loc = made (codes "loc")

-- the action of commands without action, where the monitor earns rewards for them
abbrev pub zz_silent : Named
zz_silent = made (codes "zz_silent")

abbrev pub zz_monitor : Named
zz_monitor = made (codes "zz_monitor")

-- ---- items
abbrev pub for_states : ItemOn → Bool
for_states On.InState = true
for_states On.Silent = false
for_states (On.Action a) = false

-- for commands without action
abbrev pub for_silent : ItemOn → Bool
for_silent On.InState = false
for_silent On.Silent = true
for_silent (On.Action a) = false

abbrev pub for_action : Name → ItemOn → Bool
for_action x On.InState = false
for_action x On.Silent = false
for_action x (On.Action a) = bytes_eq a.name x

-- some structure has items of this kind
abbrev pub has_items : (ItemOn → Bool) → prism.File → Bool
has_items wanted file = list_any (λ r. list_any (λ i. wanted i.on) r.items) file.rewards

-- ---- what needs a monitor
abbrev pub has_silent : Body → Bool
has_silent m = list_any (λ c. is_none c.action) m.commands

-- the actions of commands that have items, in the order of the actions; items for an action that no command has give nothing
abbrev pub earning_actions : prism.File → List Name
earning_actions file = filter (λ a. has_items (for_action a) file) (actions file)

-- there are items for commands without action, and such a command
abbrev pub earns_silently : prism.File → Bool
earns_silently file = has_items for_silent file && list_any has_silent (bodies file)

abbrev pub is_some_name : List Name → Bool
is_some_name [] = false
is_some_name (x ∷ xs) = true

abbrev pub has_monitor : prism.File → Bool
has_monitor file = is_some_name (earning_actions file) || earns_silently file

module _ (names : NewNames) where
  -- ---- rewards
  -- an item gives its value where its guard holds, else 0
  abbrev pub item_value : Item → Expression
  item_value i = Three 0 Ite (image names.value i.guard) (image names.value i.value) nought

  -- a sum from the left, behind a first member
  abbrev pub sum_behind : Expression → List Item → Expression
  sum_behind e [] = e
  sum_behind e (i ∷ is) = sum_behind (Two 0 Add e (item_value i)) is

  -- what gives a structure the sum of some items; without an item there is nothing
  abbrev pub sum_to : Named → List Item → List Write
  sum_to x [] = []
  sum_to x (i ∷ is) = record { target = x; value = sum_behind (item_value i) is } ∷ []

  -- what gives a structure the sum of its items of this kind
  abbrev pub reward_of : (ItemOn → Bool) → Rewards → Entry → List Write
  reward_of wanted r e = sum_to (instead_if r.name e.name) (filter (λ i. wanted i.on) r.items)

  -- each structure that has items of this kind, in order
  abbrev pub rewards_of : (ItemOn → Bool) → List Rewards → List Write
  rewards_of wanted rs = flat_map (λ p. reward_of wanted p.0 p.1) (zip rs names.rewards)

  -- ---- what the first location gives: each label its expression, and each structure its state reward
  abbrev pub label_value : Label → Entry → Write
  label_value l e = record { target = instead l.name e.name; value = image names.value l.body }

  abbrev pub location_values : prism.File → List Write
  location_values file = map (λ p. label_value p.0 p.1) (zip file.labels names.labels) ++ rewards_of for_states file.rewards

  -- ---- commands
  abbrev pub write : prism.Write → Write
  write w = record { target = instead w.name (names.value w.name.name); value = image names.value w.value }

  -- a branch without probability gives a destination without one
  abbrev pub destination : Branch → Destination
  destination b = record { location = loc; weight = option_map (image names.value) b.weight; writes = map write b.writes }

  -- the action of a command without one is zz_silent, where the monitor earns rewards for it
  abbrev pub edge_action : Bool → Option Named → Option Named
  edge_action silently None = if silently then Some zz_silent else None
  edge_action silently (Some a) = Some (instead a (names.action a.name))

  -- a command gives an edge, always with its guard
  abbrev pub edge : Bool → Command → Edge
  edge silently c = record {
    location = loc;
    action = edge_action silently c.action;
    guard = Some (image names.value c.guard);
    destinations = map destination c.branches;
    at = 0;
  }

  -- ---- automata
  -- one with the one location, and no variables of its own
  abbrev pub automaton : Named → List Write → List Edge → Automaton
  automaton x values edges = record {
    name = x;
    variables = [];
    locations = record { name = loc; values = values } ∷ [];
    initial = loc ∷ [];
    edges = edges;
  }

  abbrev pub module_automaton : Bool → List Write → Body → Entry → Automaton
  module_automaton silently values m e = automaton (instead m.name e.name) values (map (edge silently) m.commands)

  -- the automata of modules; the first one's location gives some values
  abbrev pub module_automata : Bool → List Write → List Body → List Entry → List Automaton
  module_automata silently values [] es = []
  module_automata silently values (m ∷ ms) [] = []
  module_automata silently values (m ∷ ms) (e ∷ es) = module_automaton silently values m e ∷ module_automata silently [] ms es

  -- ---- the monitor
  -- an edge without guard and probability, that gives each structure its sum for the action
  abbrev pub monitor_edge : prism.File → Named → (ItemOn → Bool) → Edge
  monitor_edge file a wanted = record {
    location = loc;
    action = Some a;
    guard = None;
    destinations = record { location = loc; weight = None; writes = rewards_of wanted file.rewards } ∷ [];
    at = 0;
  }

  -- one for each action that has items, then one for the commands without action
  abbrev pub monitor_edges : prism.File → List Edge
  monitor_edges file =
      map (λ a. monitor_edge file (made (names.action a)) (for_action a)) (earning_actions file)
      ++ only_if (earns_silently file) (monitor_edge file zz_silent for_silent)

  abbrev pub monitor : prism.File → List Automaton
  monitor file = only_if (has_monitor file) (automaton zz_monitor [] (monitor_edges file))

  -- the automata of the modules in order, then the monitor, if there is one
  abbrev pub automata : prism.File → List Automaton
  automata file = module_automata (earns_silently file) (location_values file) (bodies file) names.modules ++ monitor file
