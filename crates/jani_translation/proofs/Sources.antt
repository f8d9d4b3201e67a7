-- PRISM trees of the worked cases. Each offset is 0.
use Rattle.std.specs.Prelude.{ℕ, pos, List, [], ◌∷◌, Bool, false, Option, Some, None}
use Rattle.bridge_io.specs.declared.reason.Named.{Named}
use Rattle.op_trees.specs.Tree.{Truth, Number, Name, One, Two, Three}
use Rattle.op_trees.specs.declared.tree.Ty.{Ty}
use Rattle.prism_tree.specs.declared.operator.PrismOp.{PrismOp}
use Rattle.prism_tree.specs.declared.operator.PrismOp.TheVariants as O
use Rattle.prism_tree.specs.declared.syntax.ItemOn.TheVariants as On
use Rattle.prism_tree.specs.Syntax.{Expression, Const, Range, Var, Write, Branch, Command, Module, plain, copied, Label, Item, Rewards, File}

abbrev pub at : List ℕ → Named
at x = record { name = x; at = 0 }

abbrev pub int : ℕ → Expression
int n = Number 0 (record { real = false; negative = false; digits = n; exponent = pos 0 })

abbrev pub truth : Bool → Expression
truth b = Truth 0 b

abbrev pub ref : List ℕ → Expression
ref x = Name 0 x

abbrev pub one : PrismOp → Expression → Expression
one o a = One 0 o a

abbrev pub two : PrismOp → Expression → Expression → Expression
two o a b = Two 0 o a b

abbrev pub three : PrismOp → Expression → Expression → Expression → Expression
three o a b c = Three 0 o a b c

abbrev pub is : List ℕ → ℕ → Expression
is x n = two O.Equal (ref x) (int n)

abbrev pub const : List ℕ → Ty → Option Expression → Const
const x ty e = record { name = at x; ty = ty; value = e }

abbrev pub range : Expression → Expression → Option Range
range low high = Some (record { low = low; high = high })

abbrev pub from_to : ℕ → ℕ → Option Range
from_to low high = range (int low) (int high)

abbrev pub var : List ℕ → Option Range → Option Expression → Var
var x r e = record { name = at x; range = r; start = e }

abbrev pub write : List ℕ → Expression → Write
write x e = record { name = at x; value = e }

abbrev pub branch : Option Expression → List Write → Branch
branch p ws = record { weight = p; writes = ws }

abbrev pub command : Option Named → Expression → List Branch → Command
command a g bs = record { action = a; guard = g; branches = bs }

-- a command that does one thing for sure
abbrev pub sure : Option Named → Expression → List Write → Command
sure a g ws = command a g (branch None ws ∷ [])

abbrev pub module_of : List ℕ → List Var → List Command → Module
module_of x vs cs = plain (record { name = at x; vars = vs; commands = cs })

-- a copy of a module in which two names change places
abbrev pub copy_of : List ℕ → List ℕ → List ℕ → List ℕ → Module
copy_of x from a b =
    copied (record { name = at x; from = at from; pairs = record { old = at a; new = at b } ∷ record { old = at b; new = at a } ∷ [] })

abbrev pub label : List ℕ → Expression → Label
label x e = record { name = at x; body = e }

abbrev pub in_state : Expression → Expression → Item
in_state g v = record { on = On.InState; guard = g; value = v }

abbrev pub silent : Expression → Expression → Item
silent g v = record { on = On.Silent; guard = g; value = v }

abbrev pub on : List ℕ → Expression → Expression → Item
on a g v = record { on = On.Action (at a); guard = g; value = v }

abbrev pub rewards : List ℕ → List Item → Rewards
rewards x is = record { name = Some (at x); items = is }

abbrev pub nameless : List Item → Rewards
nameless is = record { name = None; items = is }

abbrev pub file : List Const → List Var → List Module → List Label → List Rewards → File
file cs gs ms ls rs = record { constants = cs; globals = gs; formulas = []; modules = ms; labels = ls; rewards = rs; init = None; end = 0 }
