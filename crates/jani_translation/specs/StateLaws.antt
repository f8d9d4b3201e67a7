-- What a translated file is at a state: statements, which are proved of the functions of this crate.
use Rattle.std.specs.Prelude.{◌≡◌, ℕ, ◌+◌, ◌<◌, pos, List, [], ◌∷◌, ◌++◌, length, map, Bool, false, not, Option, Some, None, if◌then◌else◌, IfSome, IsTrue, Contains, true}
use Rattle.std.specs.List.{All, filter}
use Rattle.std.specs.Option.{option_map}
use Rattle.frac_core.specs.Fraction.{whole}
use Rattle.op_trees.specs.declared.tree.Value.{Value}
use Rattle.op_trees.specs.declared.tree.Value.TheVariants as V
use Rattle.process_core.specs.Process.{EquallyOften, choice_image}
use Rattle.process_core.specs.Ready.{Values, Name, Write, Update, Ready}
use Rattle.prism_tree.specs.Syntax as prism
use Rattle.prism_names.specs.Names.{unchanged, see}
use Rattle.process_core.specs.Instance.{Valuation, numbered}
use Rattle.prism_flat.specs.Moment as prism_moment
use Rattle.prism_flat.specs.Process as prism_process
use Rattle.jani_meaning.specs.Elements.{elements}
use Rattle.jani_meaning.specs.Moment as jani_moment
use Rattle.jani_meaning.specs.Moment.{location_write}
use Rattle.jani_meaning.specs.Process as jani_process
use Rattle.prism_images.specs.Laws.{IsNoNumber}
use Rattle.name_table.specs.Asks.{bodies, variables, new_names}
use Rattle.jani_translation.specs.Automata.{for_states, zz_silent, earns_silently, has_monitor, monitor}
use Rattle.jani_translation.specs.Translated.{translated}
use Rattle.jani_translation.specs.SeenLaws.{IsSound, IsSoundUnder, GivesAlike}
use Rattle.jani_tree.specs.Syntax.{element_names}

-- ---- elements
-- each automaton is found by its name, so the elements are the automata, in order
abbrev pub ElementsAreAutomata : prism.File → Type 0
ElementsAreAutomata file = elements (translated file) ≡ (translated file).automata

-- ---- states
-- the number of the one location that each automaton has
abbrev pub at_home : Value
at_home = V.Number (whole (pos 0))

-- a state of the file: each element at its location, and then the variables
abbrev pub state_of : prism.File → Values → Values
state_of file s = map (λ a. at_home) (element_names (translated file)) ++ s

-- At this state, each name of the file, under its new name, is seen as in the file, in whatever element.
abbrev pub NamesSeenAlike : prism.File → Type 0
NamesSeenAlike file = (v w : Valuation) → IsSoundUnder file v → GivesAlike file v w → (s : Values) → length s ≡ length (variables file) → (i : ℕ) (x : Name) →
    jani_moment.names_in (translated file) w (state_of file s) i ((new_names file).value x) ≡ prism_moment.names_in file v s unchanged x

-- The same are states.
abbrev pub StatesAlike : prism.File → Type 0
StatesAlike file = (v w : Valuation) → IsSoundUnder file v → GivesAlike file v w → (s : Values) →
    (jani_process.model (translated file)).is_state w (state_of file s) ≡ (prism_process.model file).is_state v s

-- Each state of the translated file goes with a state of the file, and with one alone.
abbrev pub StatesAreThese : prism.File → Type 0
StatesAreThese file = (v w : Valuation) → IsSoundUnder file v → GivesAlike file v w → (u : Values) → IsTrue ((jani_process.model (translated file)).is_state w u) →
    (s : Values) × IsTrue ((prism_process.model file).is_state v s) × (state_of file s ≡ u)

abbrev pub StatesDiffer : prism.File → Type 0
StatesDiffer file = (s t : Values) → state_of file s ≡ state_of file t → s ≡ t

-- ---- what is asked of a file at a state
module _ (file : prism.File) (v : Valuation) (s : Values) where
  -- an expression is sound at the state
  abbrev pub IsSoundHere : prism.Expression → Type 0
  IsSoundHere e = IsSound (prism_moment.names_in file v s unchanged) e

  -- what is written to is a variable
  abbrev pub SoundWrite : prism.Write → Type 0
  SoundWrite y = Contains (map (λ x. x.name.name) (variables file)) y.name.name × IsSoundHere y.value

  abbrev pub SoundBranch : prism.Branch → Type 0
  SoundBranch b = IfSome b.weight IsSoundHere × All SoundWrite b.writes

  abbrev pub SoundCommand : prism.Command → Type 0
  SoundCommand c = IsSoundHere c.guard × All SoundBranch c.branches

  -- The state has a value for each variable, and the expressions of commands are sound at it.
  pub record CommandsAreSound : Type 0 where
    pub values : length s ≡ length (variables file)
    pub commands : All (λ m. All SoundCommand m.commands) (bodies file)

  -- The guard of an item is no number: `ite` would take one for false.
  abbrev pub SoundItem : prism.Item → Type 0
  SoundItem i = IsSoundHere i.guard × IsNoNumber (see i.guard (prism_moment.names_in file v s unchanged)).value × IsSoundHere i.value

  -- The state has a value for each variable, the expressions of labels and of items for states are sound at it, and there
  -- is a module, whose location gives labels and structures their values.
  pub record MarksAreSound : Type 0 where
    pub values : length s ≡ length (variables file)
    pub some_module : 0 < length file.modules
    pub labels : All (λ l. IsSoundHere l.body) file.labels
    pub items : All (λ r. All SoundItem (filter (λ i. for_states i.on) r.items)) file.rewards

  -- Where there is a monitor, the expressions of the items for choices are sound at the state.
  pub record ItemsAreSound : Type 0 where
    pub items : has_monitor file ≡ true → All (λ r. All SoundItem (filter (λ i. not (for_states i.on)) r.items)) file.rewards

-- ---- initial states
-- the initial condition, if there is one, is sound at the state
abbrev pub ConditionIsSound : prism.File → Valuation → Values → Type 0
ConditionIsSound file v s = IfSome file.init (IsSoundHere file v s)

-- It comes out the same, the locations of the elements, of which there is one each, being as good as any.
abbrev pub ConditionSeenAlike : prism.File → Type 0
ConditionSeenAlike file = (v w : Valuation) → IsSoundUnder file v → GivesAlike file v w → (s : Values) → length s ≡ length (variables file) → ConditionIsSound file v s →
    (jani_moment.moment (translated file) w (state_of file s)).condition ≡ (prism_moment.moment file v s).condition

-- The same states are initial.
abbrev pub InitialAlike : prism.File → Type 0
InitialAlike file = (v w : Valuation) → IsSoundUnder file v → GivesAlike file v w → (s : Values) → IsTrue ((prism_process.model file).is_state v s) → ConditionIsSound file v s →
    (jani_process.model (translated file)).is_initial w (state_of file s) ≡ (prism_process.model file).is_initial v s

-- ---- commands
-- a write of the same value, behind so many columns
abbrev pub shifted_write : ℕ → Write → Write
shifted_write n w = record { column = n + w.column; value = w.value; fits = w.fits }

-- an update of the element with this number: its one location is written first
abbrev pub shifted_update : ℕ → ℕ → Update → Update
shifted_update n i u = record { weight = u.weight; writes = location_write i 0 ∷ map (shifted_write n) u.writes; rewards = u.rewards }

-- the action of an edge: the new name of that of the command, and zz_silent for none where the monitor earns rewards for it
abbrev pub edge_label : Bool → (Name → Name) → Option Name → Option Name
edge_label silently new None = if silently then Some zz_silent.name else None
edge_label silently new (Some a) = Some (new a)

abbrev pub shifted_ready : (Option Name → Option Name) → ℕ → ℕ → Ready → Ready
shifted_ready label n i r = record { action = label r.action; guard = r.guard; updates = map (shifted_update n i) r.updates }

-- the commands of modules as the edges of elements, of which there are so many
abbrev pub shifted : (Option Name → Option Name) → ℕ → List (List Ready) → List (List Ready)
shifted label n ms = numbered (λ i m. map (shifted_ready label n i) m ∷ []) 0 ms

-- The edges of the elements are the commands of the modules; behind them stand the edges of the monitor, if there is one.
abbrev pub EdgesWatched : prism.File → Type 0
EdgesWatched file = (v w : Valuation) → IsSoundUnder file v → GivesAlike file v w → (s : Values) → CommandsAreSound file v s →
    (jani_moment.moment (translated file) w (state_of file s)).elements
    ≡ shifted (edge_label (earns_silently file) (new_names file).action) (length (element_names (translated file))) (prism_moment.moment file v s).modules
    ++ map (jani_moment.element_at (translated file) w (state_of file s) (length file.modules)) (monitor (new_names file) file)

-- ---- marks
-- Labels are seen the same, in order.
abbrev pub LabelsSeenAlike : prism.File → Type 0
LabelsSeenAlike file = (v w : Valuation) → IsSoundUnder file v → GivesAlike file v w → (s : Values) → MarksAreSound file v s →
    (jani_moment.moment (translated file) w (state_of file s)).labels ≡ (prism_moment.moment file v s).labels

-- The marks are the same: the labels, and the values of state rewards. Nothing is said of whether a state reward is wide: that
-- can differ, where an item has no value and the sum of the items before it is wide, which an expression needs all the same.
abbrev pub MarksAlike : prism.File → Type 0
MarksAlike file = (v w : Valuation) → IsSoundUnder file v → GivesAlike file v w → (s : Values) → MarksAreSound file v s →
    (jani_process.model (translated file)).marks w (state_of file s) ≡ (prism_process.model file).marks v s

-- ---- choices
-- Where the monitor, if there is one, earns nothing for commands without action, the choices are those of the file, in order:
-- their labels have new names, and they lead to the states that go with those of the file.
abbrev pub ChoicesInOrder : prism.File → Type 0
ChoicesInOrder file = (v w : Valuation) → IsSoundUnder file v → GivesAlike file v w → earns_silently file ≡ false → (s : Values) → CommandsAreSound file v s → ItemsAreSound file v s →
    (jani_process.model (translated file)).choices w (state_of file s)
    ≡ map (choice_image (option_map (new_names file).action) (state_of file)) ((prism_process.model file).choices v s)

-- Whatever the monitor earns, each choice occurs equally often. Where it earns rewards for commands without action, their
-- choices, which come first in the file, come last.
abbrev pub ChoicesWatched : prism.File → Type 0
ChoicesWatched file = (v w : Valuation) → IsSoundUnder file v → GivesAlike file v w → (s : Values) → CommandsAreSound file v s → ItemsAreSound file v s →
    EquallyOften (map (choice_image (option_map (new_names file).action) (state_of file)) ((prism_process.model file).choices v s))
    ((jani_process.model (translated file)).choices w (state_of file s))
