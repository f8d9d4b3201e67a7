-- How the states and labels of a PRISM model go with those of a JANI model, read from data; and when two processes are the
-- same by such data. (This project's own rule.)
use Rattle.std.specs.Prelude.{◌≡◌, ℕ, ◌+◌, ◌<◌, ◌≤◌, List, ◌++◌, map, length, Bool, true, false, IsTrue, Option, Some, None, is_none, bytes_eq, nat_eq, get_or}
use Rattle.std.specs.List.{find, filter, list_any, count_by, All, AllByRecursion as Each, IsDistinct}
use Rattle.process_core.specs.Process.{SameAt}
use Rattle.process_core.specs.Ready.{Values, Name, same_label}
use Rattle.process_core.specs.Instance.{only_if}
use Rattle.process_core.specs.Steps.{Process, seen_by}
use Rattle.choice_laws.specs.Columns.{at_start, state_by}
use Rattle.carry_maps.specs.declared.map.Column.{Column}
use Rattle.carry_maps.specs.declared.map.Column.TheVariants.{Location, Variable}
use Rattle.carry_maps.specs.declared.map.LabelPair.{LabelPair}
use Rattle.carry_maps.specs.declared.map.CarryMap.{CarryMap}

-- ---- columns: in JANI the locations of the elements come first, then the variables
abbrev pub column_number : ℕ → Column → ℕ
column_number elements (Location k) = k
column_number elements (Variable i) = elements + i

-- for each PRISM column its number among the JANI columns
abbrev pub column_numbers : CarryMap → List ℕ
column_numbers m = map (column_number (length m.locations)) m.columns

-- ---- states
-- the JANI state, of n columns, that goes with a PRISM state; a column that is none there is 0
abbrev pub jani_state : CarryMap → ℕ → Values → Values
jani_state m n s = state_by (column_numbers m) n s

-- and the other way
abbrev pub prism_state : CarryMap → Values → Values
prism_state m u = map (λ i. get_or u i at_start) (column_numbers m)

-- ---- labels
abbrev pub label_in : Option LabelPair → Option Name
label_in None = None
label_in (Some p) = p.jani

-- the label of the pair of an action; none for none
abbrev pub jani_label : List LabelPair → Option Name → Option Name
jani_label ps None = None
jani_label ps (Some a) = label_in (find (λ p. bytes_eq a p.prism) ps)

abbrev pub has_pair : List LabelPair → Option Name → Bool
has_pair ps None = true
has_pair ps (Some a) = list_any (λ p. bytes_eq a p.prism) ps

-- the actions whose pair has this label, in order; before them none, where the label is none
abbrev pub candidates : List LabelPair → Option Name → List (Option Name)
candidates ps l = only_if (is_none l) None ++ map (λ p. Some p.prism) (filter (λ p. same_label l p.jani) ps)

abbrev pub has_candidate : List LabelPair → Option Name → Bool
has_candidate ps None = true
has_candidate ps (Some x) = list_any (λ p. same_label (Some x) p.jani) ps

-- ---- the condition
-- The map has a column for each PRISM column, no two the same, and each an own one of n JANI columns; and each action once.
pub record IsMap (m : CarryMap) (columns n : ℕ) : Type 0 where
  pub each : length m.columns ≡ columns
  pub below : All (λ i. i < n) (column_numbers m)
  pub differ : All (λ i. count_by (λ c. nat_eq c i) (column_numbers m) ≤ 1) (column_numbers m)
  pub actions : IsDistinct bytes_eq (map (λ p. p.prism) m.labels)

-- A PRISM process and a JANI process are the same by the map: its states and labels carry the one onto the other, and each
-- label of a PRISM choice has a pair.
pub record AreSameBy (m : CarryMap) (prism jani : Process) : Type 0 where
  pub columns : IsMap m (length prism.columns) (length jani.columns)
  pub same : SameAt (seen_by prism) (seen_by jani) (jani_label m.labels) (jani_state m (length jani.columns))
  pub labels : (s : Values) → IsTrue (prism.is_state s) → All (λ c. has_pair m.labels c.label ≡ true) (prism.choices s)

-- each action has a label, and no two have the same one
pub record HasLabels (ps : List LabelPair) : Type 0 where
  pub each : Each (λ p. is_none p.jani ≡ false) ps
  pub differ : IsDistinct same_label (map (λ p. p.jani) ps)
