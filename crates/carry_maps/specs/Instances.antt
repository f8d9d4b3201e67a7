-- A model and its translation are the same by the map that the translation gives: the laws, as statements. (This project's own rule.)
use Rattle.std.specs.Prelude.{◌≡◌, length, true, IsTrue, Option}
use Rattle.std.specs.List.{All}
use Rattle.process_core.specs.Process.{SameAt}
use Rattle.process_core.specs.Ready.{Values, Name}
use Rattle.process_core.specs.Steps.{Process, IsProcess, seen_by}
use Rattle.carry_maps.specs.declared.map.CarryMap.{CarryMap}
use Rattle.carry_maps.specs.Maps.{jani_state, jani_label, has_pair, IsMap, AreSameBy}

-- these maps agree with the first at the states of the process, and at the labels of their choices
pub record MapsAgree (p : Process) (label other : Option Name → Option Name) (state to : Values → Values) : Type 0 where
  pub states : (s : Values) → IsTrue (p.is_state s) → to s ≡ state s
  pub labels : (s : Values) → IsTrue (p.is_state s) → All (λ c. other c.label ≡ label c.label) (p.choices s)

abbrev pub SameByOthers : Type 0
SameByOthers = (p q : Process) (label other : Option Name → Option Name) (state to : Values → Values) →
    IsProcess p → MapsAgree p label other state to → SameAt (seen_by p) (seen_by q) label state → SameAt (seen_by p) (seen_by q) other to

-- What a translation owes of its map, for a PRISM process and a JANI process that are the same by its own maps of labels and states.
pub record IsMapOf (m : CarryMap) (d e : Process) (label : Option Name → Option Name) (state : Values → Values) : Type 0 where
  pub columns : IsMap m (length d.columns) (length e.columns)
  pub agree : MapsAgree d label (jani_label m.labels) state (jani_state m (length e.columns))
  pub labels : (s : Values) → IsTrue (d.is_state s) → All (λ c. has_pair m.labels c.label ≡ true) (d.choices s)

-- Then the two are the same by the map.
abbrev pub SameByItsMap : Type 0
SameByItsMap = (m : CarryMap) (d e : Process) (label : Option Name → Option Name) (state : Values → Values) →
    SameAt (seen_by d) (seen_by e) label state → IsMapOf m d e label state → IsProcess d → AreSameBy m d e
