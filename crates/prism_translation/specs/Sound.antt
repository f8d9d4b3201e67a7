-- What is asked of a JANI file, so that it means the same as the PRISM file that it is translated to (this project's own rule;
-- jani-model specification, version 1). Files without fault meet it; beside each condition stands the reason of the fault that
-- a file without it has.
use Rattle.std.specs.Prelude.{◌≡◌, ◌⊎◌, ◌<◌, ℕ, List, [], ◌∷◌, length, Bool, true, false, Option, Some, None, is_none, is_some, IfSome, slice_get, if◌then◌else◌}
use Rattle.std.specs.List.{filter, flat_map, list_any, position, All}
use Rattle.frac_core.specs.Fraction.{Fraction, nought}
use Rattle.frac_core.specs.Decimal.{decimal_value}
use Rattle.frac_core.specs.declared.decimal.Decimal.{Decimal}
use Rattle.basics.specs.Lists.{IsNotEmpty}
use Rattle.op_trees.specs.Tree.{Truth, Number, AllNames}
use Rattle.process_core.specs.Ready.{Values, Name, Reward}
use Rattle.process_core.specs.Choices.{number_of, assigned}
use Rattle.process_core.specs.Instance.{Valuation}
use Rattle.jani_tree.specs.Syntax.{Const, Expression, VarKind, boolean, integer, number, real_bounded, one_sided, bounded, Location, Destination, Edge, Vector, File, element_names}
use Rattle.jani_tree.specs.Canonical.{HasOperands}
use Rattle.op_trees.specs.Names.{is_called}
use Rattle.jani_meaning.specs.Elements.{Owned, location_number, lasting, place_of, labels, structures}
use Rattle.jani_meaning.specs.Moment.{reward_at}
use Rattle.jani_meaning.specs.Scene.{has_condition}
use Rattle.name_table.specs.PrismAsks.{name_at, outside}
use Rattle.prism_translation.specs.Elements.{Element, elements, Placed, placed_edges, rewards, may_use}
use Rattle.prism_translation.specs.Targets.{part_of, edges_named, reward_writer}
use Rattle.prism_translation.specs.Names.{new_names}
use Rattle.prism_translation.specs.Parts.{scope_of}
use Rattle.prism_translation.specs.Marks.{Given, given_by, first_writes, assigned_to}

-- ---- names
module _ (file : File) where
  -- a name of an element that is a constant's, and not a variable's
  pub record IsConstant (k : ℕ) (x : Name) : Type 0 where
    pub no_variable : place_of (lasting file) k x ≡ None
    pub number : ℕ
    pub stands_there : position (λ d. is_called x d.name) file.constants ≡ Some number

  -- one that is a variable's, which isn't transient
  pub record IsVariable (k : ℕ) (x : Name) : Type 0 where
    pub number : ℕ
    pub stands_there : place_of (lasting file) k x ≡ Some number

  abbrev pub IsKnown : ℕ → Name → Type 0
  IsKnown k x = IsConstant k x ⊎ IsVariable k x

  -- ---- expressions
  -- of this element, naming constants alone
  abbrev pub NamesConstants : ℕ → Expression → Type 0
  NamesConstants k e = HasOperands e × AllNames (IsConstant k) e

  abbrev pub IsConstantExpression : Expression → Type 0
  IsConstantExpression e = NamesConstants (outside file) e

  -- naming constants and variables
  abbrev pub KnownExpression : ℕ → Expression → Type 0
  KnownExpression k e = HasOperands e × AllNames (IsKnown k) e

  abbrev pub SoundKind : ℕ → VarKind → Type 0
  SoundKind k (bounded low high) = NamesConstants k low × NamesConstants k high
  SoundKind k boolean = Unit {0}
  SoundKind k integer = Unit {0}
  SoundKind k number = Unit {0}
  SoundKind k real_bounded = Unit {0}
  SoundKind k one_sided = Unit {0}

  -- there is an "initial-value", or the file has an initial condition
  abbrev pub SoundStart : ℕ → Option Expression → Type 0
  SoundStart k None = has_condition file ≡ true
  SoundStart k (Some e) = NamesConstants k e

  abbrev pub KnownDestination : ℕ → Destination → Type 0
  KnownDestination k d = IfSome d.weight (KnownExpression k) × All (λ x. KnownExpression k x.value) d.writes

  abbrev pub KnownEdge : ℕ → Edge → Type 0
  KnownEdge k e = IfSome e.guard (KnownExpression k) × All (KnownDestination k) e.destinations

  -- ---- vectors
  -- some element takes part (reason 35: a vector of another length, or all null)
  abbrev pub HasPart : Vector → Type 0
  HasPart v = list_any (λ el. is_some (part_of v el.number)) (elements file) ≡ true

  -- no element but the reward writer has edges with the named action that assign rewards (33)
  abbrev pub HasOneWriter : Vector → Type 0
  HasOneWriter v = (w : Element) → reward_writer file v ≡ Some w → All (λ el. (el.number ≡ w.number → ⊥) → list_any (rewards file) (edges_named v el) ≡ false) (elements file)

-- ---- valuations: the one of the translated file gives each constant without an expression under its new name the value that
-- the other gives it
abbrev pub GivesAlike : File → Valuation → Valuation → Type 0
GivesAlike file v w =
    (i : ℕ) (c : Const) → slice_get file.constants i ≡ Some c → c.value ≡ None → v (name_at (new_names file).constants i) ≡ w c.name.name

abbrev pub AtMostOne : {X : Type 0} → List X → Type 0
AtMostOne [] = Unit {0}
AtMostOne (x ∷ []) = Unit {0}
AtMostOne (x ∷ y ∷ ys) = ⊥

-- ---- what locations give
abbrev pub is_some_given : List Given → Bool
is_some_given [] = false
is_some_given (g ∷ gs) = true

module _ (file : File) where
  -- a location is found by its name (8); its expressions name constants and variables (9, 28); it gives a transient variable at
  -- most one value (17)
  pub record SoundLocations (el : Element) : Type 0 where
    pub named : (i : ℕ) (l : Location) → slice_get el.automaton.locations i ≡ Some l → location_number el.automaton l.name.name ≡ i
    pub known : All (λ l. All (λ x. KnownExpression file el.number x.value) l.values) el.automaton.locations
    pub once : All (λ l. (x : Name) → AtMostOne (filter (λ y. is_called x y.target) l.values)) el.automaton.locations

  -- what an element's locations give to a transient variable
  abbrev pub given_there : Owned → Element → List Given
  given_there o el = if may_use el.number o.owner then given_by o.var.name.name el else []

  -- one element alone gives it values (30)
  abbrev pub HasOneGiver : Owned → Type 0
  HasOneGiver o = AtMostOne (filter (λ el. is_some_given (given_there o el)) (elements file))

-- a label is first true or false, and a structure a literal of value 0 (29)
pub record StartsWithTruth (o : Owned) : Type 0 where
  pub at : ℕ
  pub truth : Bool
  pub is : o.var.start ≡ Some (Truth at truth)

pub record StartsWithNought (o : Owned) : Type 0 where
  pub at : ℕ
  pub literal : Decimal
  pub nought_is : decimal_value literal ≡ nought
  pub is : o.var.start ≡ Some (Number at literal)

-- ---- a file
pub record FileIsSound (file : File) : Type 0 where
  -- no two constants have one name: the first of a constant's name is that constant (8)
  pub named : (i : ℕ) (d : Const) → slice_get file.constants i ≡ Some d → position (λ e. is_called d.name.name e.name) file.constants ≡ Some i
  -- there is an element (18)
  pub some_element : 0 < length (element_names file)
  -- the expressions of constants, and the bounds of variables, name constants alone (9, 14), and operators have their operands
  pub constants : All (λ d. IfSome d.value (IsConstantExpression file)) file.constants
  pub kinds : All (λ o. SoundKind file (scope_of file (new_names file) o) o.var.kind) (lasting file)
  -- and so do first values, which are there, or there is an initial condition
  pub starts : All (λ o. SoundStart file (scope_of file (new_names file) o) o.var.start) (lasting file)
  -- "restrict-initial" names constants and global variables that are not transient (9, 28), and each automaton has an initial
  -- location (25)
  pub restrict : IfSome file.restrict (KnownExpression file (outside file))
  pub begins : All (λ el. IsNotEmpty el.automaton.initial) (elements file)
  -- the expressions of edges name constants and variables that are not transient (9, 28)
  pub edges : All (λ el. All (λ p. KnownEdge file el.number p.edge) (placed_edges el)) (elements file)
  pub vectors : All (HasPart file) file.vectors
  pub one_writer : All (HasOneWriter file) file.vectors
  -- a destination assigns to a structure at most once (17)
  pub once : All (λ el. All (λ p. (j : ℕ) → AtMostOne (assigned_to file j p)) (placed_edges el)) (elements file)

-- and of what it gives to transient variables
pub record MarksAreSound (file : File) : Type 0 where
  pub locations : All (SoundLocations file) (elements file)
  pub truths : All StartsWithTruth (labels file)
  pub noughts : All StartsWithNought (structures file)
  pub one_giver : All (HasOneGiver file) (structures file)

-- ---- rewards at a state
module _ (file : File) (w : Valuation) (u : Values) where
  abbrev pub rewards_of : ℕ → Destination → List Reward
  rewards_of k d = flat_map (reward_at file w u k) d.writes

  abbrev pub first_rewards : Placed → List Reward
  first_rewards p = flat_map (reward_at file w u p.element.number) (first_writes p.edge.destinations)

  abbrev pub any_undef : List Reward → Bool
  any_undef rs = list_any (λ r. is_none (number_of r.value.value)) rs

  -- all destinations of the edge assign the same as the first one, in whatever order, and there is one where a reward is
  -- undefined (32 and 17: the same structures with the same trees, each once; 38: there is a destination)
  pub record PaysAlike (p : Placed) : Type 0 where
    pub each : All (λ d. (own : List Fraction) → assigned own (rewards_of p.element.number d) ≡ assigned own (first_rewards p)) p.edge.destinations
    pub undef : list_any (λ d. any_undef (rewards_of p.element.number d)) p.edge.destinations ≡ any_undef (first_rewards p)

  abbrev pub EdgesPayAlike : Type 0
  EdgesPayAlike = All (λ el. All PaysAlike (placed_edges el)) (elements file)
