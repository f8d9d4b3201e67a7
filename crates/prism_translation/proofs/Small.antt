-- A small file that is sound, so the conditions of the laws can be met: it has a variable, a reward structure, and a silent edge
-- that assigns both.
use Rattle.std.specs.Prelude.{◌≡◌, ℕ, zero, suc, List, [], ◌∷◌, map, Bool, true, false, cond, Some, None, slice_get, nat_eq, codes}
use Rattle.std.specs.List.{All, filter}
use Rattle.std.proofs.Common.{refl, sym, ap, inr, arith}
use Rattle.std.proofs.lemmas.List.Elements.{All-nil, All-cons}
use Rattle.std.proofs.Math.Bool.{or-false}
use Rattle.std.proofs.lemmas.Option.{same_Some}
use Rattle.basics.specs.Lists.{IsNotEmpty}
use Rattle.bridge_io.specs.declared.reason.Named.{Named}
use Rattle.frac_core.specs.Fraction.{Fraction}
use Rattle.frac_core.specs.Decimal.{decimal_value-whole}
use Rattle.op_trees.specs.Tree.{Truth, Number, Name as At}
use Rattle.process_core.specs.Ready.{Values, Name}
use Rattle.process_core.specs.Choices.{assigned}
use Rattle.process_core.specs.Instance.{Valuation}
use Rattle.jani_table.specs.Node.{array, no_nodes}
use Rattle.jani_tree.specs.Syntax.{boolean, number, Var, Write, Location, Destination, Edge, Automaton, File}
use Rattle.op_trees.specs.Names.{is_called}
use Rattle.jani_meaning.specs.Elements.{location_number}
use Rattle.prism_translation.specs.Elements.{Element, Placed, placed_edges}
use Rattle.prism_translation.specs.Names.{new_names}
use Rattle.prism_translation.specs.Parts.{scope_of, whole_literal}
use Rattle.prism_translation.specs.Marks.{assigned_to}
use Rattle.prism_translation.specs.Sound.{FileIsSound, MarksAreSound, SoundKind, SoundStart, KnownEdge, KnownDestination, KnownExpression, SoundLocations, StartsWithTruth, StartsWithNought, HasOneGiver, HasPart, HasOneWriter, AtMostOne, EdgesPayAlike, PaysAlike, rewards_of, first_rewards, any_undef}

abbrev name : Name → Named
name x = record { name = x; at = 0 }

abbrev x_var : Var
x_var = record { name = name (codes "x"); kind = boolean; kind_at = 0; transient = false; start = Some (Truth 0 false); note = None }

abbrev r_var : Var
r_var = record { name = name (codes "r"); kind = number; kind_at = 0; transient = true; start = Some (Number 0 (whole_literal 0)); note = None }

abbrev spot : Location
spot = record { name = name (codes "l"); values = [] }

abbrev way : Destination
way = record { location = name (codes "l"); weight = None; writes = record { target = name (codes "x"); value = Truth 0 true } ∷ record { target = name (codes "r"); value = Number 0 (whole_literal 1) } ∷ [] }

abbrev move : Edge
move = record { location = name (codes "l"); action = None; guard = Some (At 0 (codes "x")); destinations = way ∷ []; at = 0 }

abbrev machine : Automaton
machine = record { name = name (codes "A"); variables = []; locations = spot ∷ []; initial = name (codes "l") ∷ []; edges = move ∷ [] }

abbrev pub small : File
small = record { actions = []; constants = []; variables = x_var ∷ r_var ∷ []; restrict = None; automata = machine ∷ []; elements = record { name = name (codes "A"); enable = [] } ∷ []; elements_at = 0; vectors = []; properties = array 0 no_nodes }

abbrev el : Element
el = record { number = 0; automaton = machine }

abbrev p : Placed
p = record { element = el; number = 0; edge = move }

one : {X : Type 0} (P : X → Type 0) (x : X) → P x → All P (x ∷ [])
one P x h = All-cons P x [] h (All-nil P)

once_at : (j : ℕ) → AtMostOne (assigned_to small j p)
once_at j = by_test (nat_eq j 0)
  where
    by_test : (b : Bool) → AtMostOne (map (λ (y : Write). y.value) (cond b (record { target = name (codes "r"); value = Number 0 (whole_literal 1) } ∷ []) []))
    by_test true = tt
    by_test false = tt

known_way : KnownDestination small 0 way
known_way = (tt, All-cons (λ y. KnownExpression small 0 y.value) (record { target = name (codes "x"); value = Truth 0 true }) (record { target = name (codes "r"); value = Number 0 (whole_literal 1) } ∷ []) (tt, tt) (one (λ y. KnownExpression small 0 y.value) (record { target = name (codes "r"); value = Number 0 (whole_literal 1) }) (tt, tt)))

pub small_sound : FileIsSound small
small_sound = record {
  named = λ i d e. absurd cc;
  some_element = omega arith;
  constants = λ i d l. absurd (let no : ⊥ = omega arith in no);
  kinds = one (λ o. SoundKind small (scope_of small (new_names small) o) o.var.kind) (record { owner = None; var = x_var }) tt;
  starts = one (λ o. SoundStart small (scope_of small (new_names small) o) o.var.start) (record { owner = None; var = x_var }) (tt, tt);
  restrict = tt;
  begins = one (λ e. IsNotEmpty e.automaton.initial) el tt;
  edges = one (λ e. All (λ q. KnownEdge small e.number q.edge) (placed_edges e)) el
      (one (λ q. KnownEdge small 0 q.edge) p ((tt, inr (record { number = 0; stands_there = refl })), one (KnownDestination small 0) way known_way));
  vectors = All-nil (HasPart small);
  one_writer = All-nil (HasOneWriter small);
  once = one (λ e. All (λ q. (j : ℕ) → AtMostOne (assigned_to small j q)) (placed_edges e)) el (one (λ q. (j : ℕ) → AtMostOne (assigned_to small j q)) p once_at);
}

found : (i : ℕ) (l : Location) → slice_get (spot ∷ []) i ≡ Some l → location_number machine l.name.name ≡ i
found zero l e = ap (λ (k : Location). location_number machine k.name.name) (sym (same_Some spot l e))
found (suc i) l e = absurd cc

pub small_marks : MarksAreSound small
small_marks = record {
  locations = one (SoundLocations small) el (record {
    named = found;
    known = one (λ l. All (λ y. KnownExpression small 0 y.value) l.values) spot (All-nil (λ (y : Write). KnownExpression small 0 y.value));
    once = one (λ l. (x : Name) → AtMostOne (filter (λ y. is_called x y.target) l.values)) spot (λ x. tt);
  });
  truths = All-nil StartsWithTruth;
  noughts = one StartsWithNought (record { owner = None; var = r_var }) (record { at = 0; literal = whole_literal 0; nought_is = decimal_value-whole (whole_literal 0) refl; is = refl });
  one_giver = one (HasOneGiver small) (record { owner = None; var = r_var }) tt;
}

pub small_pays : (w : Valuation) (u : Values) → EdgesPayAlike small w u
small_pays w u =
    one (λ e. All (PaysAlike small w u) (placed_edges e)) el (one (PaysAlike small w u) p (record {
      each = one (λ d. (own : List Fraction) → assigned own (rewards_of small w u 0 d) ≡ assigned own (first_rewards small w u p)) way (λ own. refl);
      undef = or-false (any_undef small w u (first_rewards small w u p));
    }))
