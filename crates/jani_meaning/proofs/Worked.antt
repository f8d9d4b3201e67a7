-- The definitions, computed on small files: each equation holds by computing both sides.
use Rattle.std.specs.Prelude.{◌≡◌, ℕ, pos, List, [], ◌∷◌, map, Bool, true, false, Option, Some, None, codes}
use Rattle.std.proofs.Common.{refl}
use Rattle.bridge_io.specs.declared.reason.Named.{Named}
use Rattle.frac_core.specs.Fraction.{fraction, plus, times, over, difference, negated}
use Rattle.frac_core.specs.Gcd.{gcd, gcd_within}
use Rattle.frac_core.specs.Decimal.{decimal_value, ten_to}
use Rattle.op_trees.specs.Tree.{Truth, Number, Name, One, Two}
use Rattle.op_trees.specs.declared.tree.Ty.{Ty}
use Rattle.op_trees.specs.declared.tree.Ty.TheVariants as T
use Rattle.op_trees.specs.declared.tree.Value.TheVariants as V
use Rattle.process_core.specs.Ready.{Values}
use Rattle.process_core.specs.Bounds.{IsWide}
use Rattle.process_core.specs.Instance.{Valuation, fault_of, is_wide_initial, is_wide_instance}
use Rattle.process_core.specs.declared.data.FaultKind.TheVariants.{ConstUndef, BoundUndef, EmptyRange, InitUndef, InitOutside}
use Rattle.process_core.proofs.Shown.{Ratio, ratio, count, shown_truth, to, Shown, good, bad, shown, shown_mark, none, with, state}
use Rattle.jani_tree.specs.Node.{null}
use Rattle.jani_tree.specs.JaniOp.{JaniOp}
use Rattle.jani_tree.specs.JaniOp.TheVariants as O
use Rattle.jani_tree.specs.Syntax.{Expression, Const, VarKind, boolean, number, bounded, Var, Write, Location, Destination, Edge, Automaton, Element, Vector, File}
use Rattle.jani_meaning.specs.Scene.{see, scene}
use Rattle.jani_meaning.specs.Moment.{moment}
use Rattle.jani_meaning.specs.Process.{model, excess, has_wide_mark}

-- ---- trees in short
abbrev at : List ℕ → Named
at x = record { name = x; at = 0 }

abbrev int : ℕ → Expression
int n = Number 0 (record { real = false; negative = false; digits = n; exponent = pos 0 })

abbrev ref : List ℕ → Expression
ref x = Name 0 x

abbrev two : JaniOp → Expression → Expression → Expression
two o a b = Two 0 o a b

abbrev over_zero : Expression
over_zero = two O.Div (int 1) (int 0)

-- a part of 2^62 or more passes a bound where it is needed
abbrev great : Expression
great = int 4611686018427387904

abbrev half : Expression
half = two O.Div (int 1) (int 2)

abbrev const : List ℕ → Ty → Option Expression → Const
const x ty e = record { name = at x; ty = ty; value = e; note = None }

abbrev from_to : ℕ → ℕ → VarKind
from_to low high = bounded (int low) (int high)

abbrev variable : Bool → List ℕ → VarKind → Expression → Var
variable transient x kind e = record { name = at x; kind = kind; kind_at = 0; transient = transient; start = Some e; note = None }

abbrev var : List ℕ → VarKind → Expression → Var
var = variable false

abbrev transient : List ℕ → VarKind → Expression → Var
transient = variable true

abbrev write : List ℕ → Expression → Write
write x e = record { target = at x; value = e }

abbrev location : List ℕ → List Write → Location
location l ws = record { name = at l; values = ws }

abbrev chance : Option Expression → List ℕ → List Write → Destination
chance p l ws = record { location = at l; weight = p; writes = ws }

abbrev sure : List ℕ → List Write → List Destination
sure l ws = chance None l ws ∷ []

abbrev edge : List ℕ → Option Named → Option Expression → List Destination → Edge
edge l a g ds = record { location = at l; action = a; guard = g; destinations = ds; at = 0 }

abbrev automaton : List ℕ → List Var → List Location → List ℕ → List Edge → Automaton
automaton x vs ls first es = record { name = at x; variables = vs; locations = ls; initial = at first ∷ []; edges = es }

abbrev vector : List (Option Named) → Option Named → Vector
vector parts result = record { parts = parts; result = result; at = 0 }

abbrev plain : Named → Element
plain n = record { name = n; enable = [] }

abbrev file : List Const → List Var → List Automaton → List Named → List Vector → File
file cs vs as_ es ss =
    record { actions = []; constants = cs; variables = vs; restrict = None; automata = as_; elements = map plain es; elements_at = 0; vectors = ss; properties = null 0 }

-- ---- what is seen
abbrev marks_in : File → Valuation → Values → List (Option Ratio)
marks_in f v s = map shown_mark ((model f).marks v s)

abbrev choices_in : File → Valuation → Values → List Shown
choices_in f v s = shown ((model f).choices v s)

abbrev columns_in : File → Valuation → List (List ℕ)
columns_in f v = map (λ c. c.name) (scene f v).columns

-- ---- names of the examples
abbrev D : List ℕ
D = codes "D"

abbrev B : List ℕ
B = codes "B"

abbrev x : List ℕ
x = codes "x"

abbrev y : List ℕ
y = codes "y"

abbrev idle : List ℕ
idle = codes "idle"

abbrev busy : List ℕ
busy = codes "busy"

abbrev l : List ℕ
l = codes "l"

abbrev r : List ℕ
r = codes "r"

abbrev q : List ℕ
q = codes "q"

abbrev b : List ℕ
b = codes "b"

abbrev p : List ℕ
p = codes "p"

abbrev i : List ℕ
i = codes "i"

abbrev go : Option Named
go = Some (at (codes "go"))

abbrev ok : Option Named
ok = Some (at (codes "ok"))

abbrev step : List ℕ
step = codes "step"

-- ---- two elements and three vectors: an edge with its guard, one without, and a silent one; the last vector names an action
-- that no edge has
abbrev coupled : File
coupled =
    file []
    (var x (from_to 0 2) (int 0) ∷ transient r number (int 0) ∷ [])
    (automaton D [] (location idle [] ∷ location busy [] ∷ []) idle
    (edge idle go (Some (two O.Less (ref x) (int 2))) (sure busy (write x (two O.Add (ref x) (int 1)) ∷ write r (int 1) ∷ []))
    ∷ edge idle go None (sure busy (write r (int 2) ∷ []))
    ∷ edge busy None None (sure idle []) ∷ [])
    ∷ automaton B [] (location l [] ∷ []) l (edge l ok None (sure l []) ∷ [])
    ∷ [])
    (at D ∷ at B ∷ [])
    (vector (go ∷ ok ∷ []) (Some (at step)) ∷ vector (go ∷ None ∷ []) (Some (at step)) ∷ vector (go ∷ Some (at (codes "never")) ∷ []) None ∷ [])

-- a state is the locations of D and B, and x
coupled_states : (columns_in coupled none ≡ D ∷ B ∷ x ∷ [])
    × ((model coupled).is_initial none (state (0 ∷ 0 ∷ 0 ∷ [])) ≡ true)
    × ((model coupled).is_initial none (state (1 ∷ 0 ∷ 0 ∷ [])) ≡ false)
    × ((model coupled).is_state none (state (1 ∷ 0 ∷ 2 ∷ [])) ≡ true)
    × ((model coupled).is_state none (state (2 ∷ 0 ∷ 0 ∷ [])) ≡ false)
    × ((model coupled).is_state none (state (0 ∷ 0 ∷ [])) ≡ false)
unfolding see decimal_value ten_to fraction gcd gcd_within plus times over difference negated
coupled_states = (refl, refl, refl, refl, refl, refl)

coupled_choices : choices_in coupled none (state (0 ∷ 0 ∷ 0 ∷ []))
    ≡ good (Some step) (to (count 1) (1 ∷ 0 ∷ 1 ∷ []) (count 1 ∷ []) ∷ [])
    ∷ good (Some step) (to (count 1) (1 ∷ 0 ∷ 0 ∷ []) (count 2 ∷ []) ∷ [])
    ∷ good (Some step) (to (count 1) (1 ∷ 0 ∷ 1 ∷ []) (count 1 ∷ []) ∷ [])
    ∷ good (Some step) (to (count 1) (1 ∷ 0 ∷ 0 ∷ []) (count 2 ∷ []) ∷ [])
    ∷ []
unfolding see decimal_value ten_to fraction gcd gcd_within plus times over difference negated
coupled_choices = refl

-- The element B accepts an action in its one location: with the action that no edge has, the last vector gives two choices more.
-- With the action of its edge, whose guard is true, it has a loop that is disabled. Where a guard of such edges has no value, the
-- loop has none either, and the choice is bad.
abbrev accepting : Option Expression → List ℕ → File
accepting g a = record coupled {
  automata =
      automaton D [] (location idle [] ∷ location busy [] ∷ []) idle
      (edge idle go (Some (two O.Less (ref x) (int 2))) (sure busy (write x (two O.Add (ref x) (int 1)) ∷ write r (int 1) ∷ []))
      ∷ edge idle go None (sure busy (write r (int 2) ∷ []))
      ∷ edge busy None None (sure idle []) ∷ [])
      ∷ automaton B [] (location l [] ∷ []) l (edge l ok g (sure l []) ∷ [])
      ∷ [];
  elements = plain (at D) ∷ record { name = at B; enable = at a ∷ [] } ∷ [];
}

accepted_choices : (choices_in (accepting None (codes "never")) none (state (0 ∷ 0 ∷ 0 ∷ []))
    ≡ good (Some step) (to (count 1) (1 ∷ 0 ∷ 1 ∷ []) (count 1 ∷ []) ∷ [])
    ∷ good (Some step) (to (count 1) (1 ∷ 0 ∷ 0 ∷ []) (count 2 ∷ []) ∷ [])
    ∷ good (Some step) (to (count 1) (1 ∷ 0 ∷ 1 ∷ []) (count 1 ∷ []) ∷ [])
    ∷ good (Some step) (to (count 1) (1 ∷ 0 ∷ 0 ∷ []) (count 2 ∷ []) ∷ [])
    ∷ good None (to (count 1) (1 ∷ 0 ∷ 1 ∷ []) (count 1 ∷ []) ∷ [])
    ∷ good None (to (count 1) (1 ∷ 0 ∷ 0 ∷ []) (count 2 ∷ []) ∷ [])
    ∷ [])
    × (choices_in (accepting None (codes "ok")) none (state (0 ∷ 0 ∷ 2 ∷ [])) ≡ choices_in coupled none (state (0 ∷ 0 ∷ 2 ∷ [])))
    × (choices_in (accepting (Some (two O.Equal (ref x) (int 1))) (codes "ok")) none (state (0 ∷ 0 ∷ 2 ∷ []))
    ≡ good (Some step) (to (count 1) (1 ∷ 0 ∷ 2 ∷ []) (count 2 ∷ []) ∷ []) ∷ good (Some step) (to (count 1) (1 ∷ 0 ∷ 2 ∷ []) (count 2 ∷ []) ∷ []) ∷ [])
    × (choices_in (accepting (Some (two O.Equal over_zero (int 1))) (codes "ok")) none (state (0 ∷ 0 ∷ 2 ∷ []))
    ≡ bad (Some step) true false false ∷ bad (Some step) true false false ∷ good (Some step) (to (count 1) (1 ∷ 0 ∷ 2 ∷ []) (count 2 ∷ []) ∷ []) ∷ [])
unfolding see decimal_value ten_to fraction gcd gcd_within plus times over difference negated
accepted_choices = (refl, refl, refl, refl)

-- with x = 2 the guard is false; at busy there is the silent edge alone, and it earns nothing
coupled_elsewhere : (choices_in coupled none (state (0 ∷ 0 ∷ 2 ∷ []))
    ≡ good (Some step) (to (count 1) (1 ∷ 0 ∷ 2 ∷ []) (count 2 ∷ []) ∷ []) ∷ good (Some step) (to (count 1) (1 ∷ 0 ∷ 2 ∷ []) (count 2 ∷ []) ∷ []) ∷ [])
    × (choices_in coupled none (state (1 ∷ 0 ∷ 1 ∷ [])) ≡ good None (to (count 1) (0 ∷ 0 ∷ 1 ∷ []) (count 0 ∷ []) ∷ []) ∷ [])
unfolding see decimal_value ten_to fraction gcd gcd_within plus times over difference negated
coupled_elsewhere = (refl, refl)

-- all expressions read the state as it is before the choice: x and y change places
abbrev exchanged : File
exchanged =
    file []
    (var x (from_to 0 2) (int 2) ∷ var y (from_to 0 2) (int 0) ∷ [])
    (automaton D [] (location l [] ∷ []) l (edge l go None (sure l (write x (ref y) ∷ [])) ∷ [])
    ∷ automaton B [] (location l [] ∷ []) l (edge l ok None (sure l (write y (ref x) ∷ [])) ∷ [])
    ∷ [])
    (at D ∷ at B ∷ []) (vector (go ∷ ok ∷ []) (Some (at step)) ∷ [])

exchanged_choices : choices_in exchanged none (state (0 ∷ 0 ∷ 2 ∷ 0 ∷ [])) ≡ good (Some step) (to (count 1) (0 ∷ 0 ∷ 0 ∷ 2 ∷ []) [] ∷ []) ∷ []
unfolding see decimal_value ten_to fraction gcd gcd_within plus times over difference negated
exchanged_choices = refl

-- ---- transient variables: b is given a value at busy alone; r is given one there too, and by B at l
abbrev marked : File
marked =
    file []
    (var x (from_to 0 2) (int 0) ∷ transient r number (int 0) ∷ transient b boolean (Truth 0 false) ∷ [])
    (automaton D [] (location idle [] ∷ location busy (write b (two O.Greater (two O.Div (int 1) (ref x)) (int 0)) ∷ write r (ref x) ∷ []) ∷ []) idle []
    ∷ automaton B [] (location l (write r (int 7) ∷ []) ∷ []) l []
    ∷ [])
    (at D ∷ at B ∷ []) []

-- labels come before rewards, and r is what the first element gives that gives one; 1/0 is undefined, and so is the label
marked_marks : (marks_in marked none (state (1 ∷ 0 ∷ 2 ∷ [])) ≡ Some (shown_truth true) ∷ Some (count 2) ∷ [])
    × (marks_in marked none (state (0 ∷ 0 ∷ 2 ∷ [])) ≡ Some (shown_truth false) ∷ Some (count 7) ∷ [])
    × (marks_in marked none (state (1 ∷ 0 ∷ 0 ∷ [])) ≡ None ∷ Some (count 0) ∷ [])
unfolding see decimal_value ten_to fraction gcd gcd_within plus times over difference negated
marked_marks = (refl, refl, refl)

-- two elements, each with variables of its own of the same names; each is read and written by its own element
abbrev twice_own : File
twice_own =
    file [] (transient q number (int 0) ∷ [])
    (automaton D (transient r number (int 0) ∷ var x (from_to 0 2) (int 1) ∷ []) (location l (write r half ∷ []) ∷ []) l
    (edge l None None (sure l (write r (int 5) ∷ [])) ∷ [])
    ∷ automaton B (transient r number (int 0) ∷ var x (from_to 0 2) (int 2) ∷ []) (location l (write r (ref x) ∷ []) ∷ []) l
    (edge l None None (sure l (write r (int 6) ∷ write x (two O.Sub (ref x) (int 1)) ∷ write q (int 8) ∷ [])) ∷ [])
    ∷ [])
    (at D ∷ at B ∷ []) []

twice_own_seen : (columns_in twice_own none ≡ D ∷ B ∷ x ∷ x ∷ [])
    × (marks_in twice_own none (state (0 ∷ 0 ∷ 1 ∷ 2 ∷ [])) ≡ Some (count 0) ∷ Some (ratio 1 2) ∷ Some (count 2) ∷ [])
    × (choices_in twice_own none (state (0 ∷ 0 ∷ 1 ∷ 2 ∷ []))
    ≡ good None (to (count 1) (0 ∷ 0 ∷ 1 ∷ 2 ∷ []) (count 0 ∷ count 5 ∷ count 0 ∷ []) ∷ [])
    ∷ good None (to (count 1) (0 ∷ 0 ∷ 1 ∷ 1 ∷ []) (count 8 ∷ count 0 ∷ count 6 ∷ []) ∷ [])
    ∷ [])
unfolding see decimal_value ten_to fraction gcd gcd_within plus times over difference negated
twice_own_seen = (refl, refl, refl)

-- ---- faulty choices: a reward of 1/0; a transient variable that is read has no value; a half as the only probability, and x := 5
abbrev with_edge : Option Expression → List Destination → File
with_edge g ds = file [] (var x (from_to 0 2) (int 0) ∷ transient r number (int 0) ∷ []) (automaton D [] (location l [] ∷ []) l (edge l None g ds ∷ []) ∷ []) (at D ∷ []) []

faulty_choices : (choices_in (with_edge None (sure l (write r over_zero ∷ []))) none (state (0 ∷ 0 ∷ [])) ≡ bad None true false false ∷ [])
    × (choices_in (with_edge None (sure l (write x (ref r) ∷ []))) none (state (0 ∷ 0 ∷ [])) ≡ bad None true false false ∷ [])
    × (choices_in (with_edge None (chance (Some half) l (write x (int 5) ∷ []) ∷ [])) none (state (0 ∷ 0 ∷ [])) ≡ bad None false true true ∷ [])
unfolding see decimal_value ten_to fraction gcd gcd_within plus times over difference negated
faulty_choices = (refl, refl, refl)

-- ---- constants: a parameter p, and constants that stand before those they name
abbrev parameter : File
parameter =
    file (const q T.Real (Some (two O.Sub (int 1) (ref p))) ∷ const p T.Real None ∷ const i T.Int (Some (One 0 O.Ceil (ref q))) ∷ [])
    (var x (bounded (int 0) (two O.Add (ref i) (int 1))) (ref i) ∷ [])
    (automaton D [] (location l [] ∷ []) l (edge l None None (chance (Some (ref p)) l (write x (int 0) ∷ []) ∷ chance (Some (ref q)) l [] ∷ []) ∷ []) ∷ [])
    (at D ∷ []) []

abbrev given : Valuation
given = with p (V.Number (fraction (pos 1) 4)) none

parameter_given : ((model parameter).faults given ≡ [])
    × ((model parameter).is_initial given (state (0 ∷ 1 ∷ [])) ≡ true)
    × (choices_in parameter given (state (0 ∷ 1 ∷ [])) ≡ good None (to (ratio 1 4) (0 ∷ 0 ∷ []) [] ∷ to (ratio 3 4) (0 ∷ 1 ∷ []) [] ∷ []) ∷ [])
unfolding see decimal_value ten_to fraction gcd gcd_within plus times over difference negated
parameter_given = (refl, refl, refl)

-- p := q and q := p lead round in a circle, and have no value, whatever is given for them
abbrev circle : File
circle = file (const p T.Int (Some (ref q)) ∷ const q T.Int (Some (ref p)) ∷ []) [] (automaton D [] (location l [] ∷ []) l [] ∷ []) (at D ∷ []) []

circle_faults : (model circle).faults given ≡ fault_of ConstUndef 0 ∷ fault_of ConstUndef 1 ∷ []
unfolding see decimal_value ten_to fraction gcd gcd_within plus times over difference negated
circle_faults = refl

-- ---- instance faults: constants by their number, variables by that of their column; the first column is D's location
abbrev faulty : File
faulty =
    file (const q T.Real (Some over_zero) ∷ [])
    (var x (bounded (int 0) (One 0 O.Floor (ref q))) (int 0)
    ∷ var y (from_to 3 1) (int 1)
    ∷ transient b boolean (Truth 0 false)
    ∷ var p (from_to 0 2) (One 0 O.Floor (ref q))
    ∷ [])
    (automaton D (var i (from_to 0 2) (int 5) ∷ []) (location idle [] ∷ location busy [] ∷ []) busy [] ∷ [])
    (at D ∷ []) []

faulty_faults : (model faulty).faults none
    ≡ fault_of ConstUndef 0 ∷ fault_of BoundUndef 1 ∷ fault_of EmptyRange 2 ∷ fault_of InitUndef 3 ∷ fault_of InitOutside 4 ∷ []
unfolding see decimal_value ten_to fraction gcd gcd_within plus times over difference negated
faulty_faults = refl

-- ---- two initial locations, and a variable without first value: it begins with any value of its range
abbrev begun_in_two : File
begun_in_two =
    file [] (record (var x (from_to 0 2) (int 0)) { start = None } ∷ [])
    (record (automaton D [] (location idle [] ∷ location busy [] ∷ location l [] ∷ []) idle []) { initial = at idle ∷ at l ∷ [] } ∷ [])
    (at D ∷ []) []

two_starts : ((model begun_in_two).faults none ≡ [])
    × ((model begun_in_two).is_initial none (state (0 ∷ 2 ∷ [])) ≡ true)
    × ((model begun_in_two).is_initial none (state (1 ∷ 2 ∷ [])) ≡ false)
    × ((model begun_in_two).is_initial none (state (2 ∷ 1 ∷ [])) ≡ true)
    × ((model begun_in_two).is_initial none (state (2 ∷ 3 ∷ [])) ≡ false)
unfolding see decimal_value ten_to fraction gcd gcd_within plus times over difference negated
two_starts = (refl, refl, refl, refl, refl)

-- the same, restricted to small values of x: where the value that x is compared with is wide, so is the test, but not where the
-- element is at another location, and nothing is compared
abbrev restricted : Expression → File
restricted e = record begun_in_two { restrict = Some (two O.Less (ref x) e) }

abbrev is_wide_start : File → Values → Bool
is_wide_start f s = is_wide_initial (scene f none).columns (moment f none s).condition s

restricted_starts : ((model (restricted (int 1))).is_initial none (state (0 ∷ 0 ∷ [])) ≡ true)
    × ((model (restricted (int 1))).is_initial none (state (0 ∷ 1 ∷ [])) ≡ false)
    × ((model (restricted (int 1))).is_initial none (state (1 ∷ 0 ∷ [])) ≡ false)
    × (is_wide_start (restricted great) (state (2 ∷ 0 ∷ [])) ≡ true)
    × (is_wide_start (restricted great) (state (1 ∷ 0 ∷ [])) ≡ false)
unfolding see decimal_value ten_to fraction gcd gcd_within plus times over difference negated
restricted_starts = (refl, refl, refl, refl, refl)

-- ---- what passes a bound
wide_choices : (excess (moment (with_edge None (sure l (write r great ∷ []))) none (state (0 ∷ 0 ∷ []))) ≡ Some IsWide)
    × (excess (moment (with_edge (Some (two O.Equal (ref x) (int 1))) (sure l (write r great ∷ []))) none (state (0 ∷ 0 ∷ []))) ≡ None)
unfolding see decimal_value ten_to fraction gcd gcd_within plus times over difference negated
wide_choices = (refl, refl)

-- a wide mark, and a wide constant
abbrev wide : File
wide =
    file (const p T.Int (Some great) ∷ []) (var x (from_to 0 1) (int 0) ∷ transient r number (int 0) ∷ [])
    (automaton D [] (location idle (write r (two O.Mul (ref x) great) ∷ []) ∷ location busy [] ∷ []) idle [] ∷ [])
    (at D ∷ []) []

wide_marks : (has_wide_mark (moment wide none (state (0 ∷ 1 ∷ []))) ≡ true)
    × (has_wide_mark (moment wide none (state (1 ∷ 1 ∷ []))) ≡ false)
    × (is_wide_instance (scene wide none) ≡ true)
unfolding see decimal_value ten_to fraction gcd gcd_within plus times over difference negated
wide_marks = (refl, refl, refl)
