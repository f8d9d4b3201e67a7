-- JANI trees of the worked cases. Each offset is 0, and a comment is a text.
use Rattle.std.specs.Prelude.{ℕ, pos, List, [], ◌∷◌, Bool, true, false, Option, Some, None, map}
use Rattle.bridge_io.specs.declared.reason.Named.{Named}
use Rattle.op_trees.specs.Tree.{Truth, Number, Name, One, Two, Three}
use Rattle.op_trees.specs.declared.tree.Ty.{Ty}
use Rattle.jani_table.specs.Node.{array, no_nodes}
use Rattle.jani_table.specs.declared.operator.JaniOp.{JaniOp}
use Rattle.jani_table.specs.declared.operator.JaniOp.TheVariants as O
use Rattle.jani_tree.specs.Syntax.{Expression, Const, VarKind, boolean, number, bounded, Var, Write, Destination, Edge, Automaton, Vector, File, plain_element}

abbrev pub at : List ℕ → Named
at x = record { name = x; at = 0 }

abbrev pub int : ℕ → Expression
int n = Number 0 (record { real = false; negative = false; digits = n; exponent = pos 0 })

abbrev pub truth : Bool → Expression
truth b = Truth 0 b

abbrev pub ref : List ℕ → Expression
ref x = Name 0 x

abbrev pub one : JaniOp → Expression → Expression
one o a = One 0 o a

abbrev pub two : JaniOp → Expression → Expression → Expression
two o a b = Two 0 o a b

abbrev pub ite : Expression → Expression → Expression → Expression
ite a b c = Three 0 O.Ite a b c

abbrev pub is : List ℕ → ℕ → Expression
is x n = two O.Equal (ref x) (int n)

abbrev pub const : List ℕ → Ty → Option Expression → Option (List ℕ) → Const
const x ty e note = record { name = at x; ty = ty; value = e; note = note }

abbrev pub from_to : ℕ → ℕ → VarKind
from_to low high = bounded (int low) (int high)

abbrev pub var : List ℕ → VarKind → Expression → Option (List ℕ) → Var
var x kind e note = record { name = at x; kind = kind; kind_at = 0; transient = false; start = Some e; note = note }

abbrev pub label : List ℕ → Option (List ℕ) → Var
label x note = record { name = at x; kind = boolean; kind_at = 0; transient = true; start = Some (truth false); note = note }

abbrev pub structure : List ℕ → Option (List ℕ) → Var
structure x note = record { name = at x; kind = number; kind_at = 0; transient = true; start = Some (int 0); note = note }

abbrev pub write : List ℕ → Expression → Write
write x e = record { target = at x; value = e }

abbrev pub loc : Named
loc = at (0x6c ∷ 0x6f ∷ 0x63 ∷ [])

abbrev pub goes : Option Expression → List Write → Destination
goes p ws = record { location = loc; weight = p; writes = ws }

abbrev pub edge : Option Named → Option Expression → List Destination → Edge
edge a g ds = record { location = loc; action = a; guard = g; destinations = ds; at = 0 }

-- an edge with one destination, without a probability
abbrev pub sure : Option Named → Option Expression → List Write → Edge
sure a g ws = edge a g (goes None ws ∷ [])

abbrev pub automaton : List ℕ → List Write → List Edge → Automaton
automaton x ws es = record { name = at x; variables = []; locations = record { name = loc; values = ws } ∷ []; initial = loc ∷ []; edges = es }

abbrev pub vector : List (Option Named) → Option Named → Vector
vector parts result = record { parts = parts; result = result; at = 0 }

-- the elements are the automata
abbrev pub file : List Named → List Const → List Var → List Automaton → List Named → List Vector → File
file acts cs vs as_ es ss =
    record { actions = acts; constants = cs; variables = vs; restrict = None; automata = as_; elements = map plain_element es; elements_at = 0; vectors = ss; properties = array 0 no_nodes }
