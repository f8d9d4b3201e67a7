-- The canonical text of a PRISM file (PRISM manual, "The PRISM Language").
use Rattle.std.specs.Prelude.{ℕ, Bool, true, false, not, List, [], ◌∷◌, ◌++◌, codes, Option, Some, None, if◌then◌else◌}
use Rattle.bridge_io.specs.declared.reason.Named.{Named}
use Rattle.op_trees.specs.declared.tree.Ty.{Ty}
use Rattle.op_trees.specs.declared.tree.Ty.TheVariants as T
use Rattle.op_trees.specs.Tree.{Truth, Number, Name, One, Two, Three}
use Rattle.prism_tree.specs.declared.operator.PrismOp.{PrismOp}
use Rattle.prism_tree.specs.declared.operator.PrismOp.TheVariants.{Neg, Mul, Div, Add, Sub, Less, AtMost, AtLeast, Greater, Equal, Unequal, Not, And, Or, Iff, Implies, Ite, Min, Max, Floor, Ceil, Mod}
use Rattle.prism_tree.specs.declared.syntax.CopiedModule.{CopiedModule}
use Rattle.prism_tree.specs.declared.syntax.NamePair.{NamePair}
use Rattle.prism_tree.specs.declared.syntax.ItemOn.{ItemOn}
use Rattle.prism_tree.specs.declared.syntax.ItemOn.TheVariants.{InState, Silent, Action}
use Rattle.prism_tree.specs.Syntax.{Expression, Const, Range, Var, Formula, Label, Write, Branch, Command, Body, Module, plain, copied, Item, Rewards, File}
use Rattle.frac_core.specs.Text.{number_text}

-- ---- expressions (manual, "Expressions")

abbrev pub operator_text : PrismOp → List ℕ
operator_text Neg = codes "-"
operator_text Mul = codes "*"
operator_text Div = codes "/"
operator_text Add = codes "+"
operator_text Sub = codes "-"
operator_text Less = codes "<"
operator_text AtMost = codes "<="
operator_text AtLeast = codes ">="
operator_text Greater = codes ">"
operator_text Equal = codes "="
operator_text Unequal = codes "!="
operator_text Not = codes "!"
operator_text And = codes "&"
operator_text Or = codes "|"
operator_text Iff = codes "<=>"
operator_text Implies = codes "=>"
operator_text Ite = codes "?"
operator_text Min = codes "min"
operator_text Max = codes "max"
operator_text Floor = codes "floor"
operator_text Ceil = codes "ceil"
operator_text Mod = codes "mod"

-- whether it is written as a function, with its operands as arguments
abbrev pub is_function : PrismOp → Bool
is_function Min = true
is_function Max = true
is_function Floor = true
is_function Ceil = true
is_function Mod = true
is_function o = false

-- whether an expression stands in parentheses where it is an operand: names, literals and calls stand bare
abbrev pub is_node : Expression → Bool
is_node (One at o a) = not (is_function o)
is_node (Two at o a b) = not (is_function o)
is_node (Three at o a b c) = true
is_node (Truth _ _) = false
is_node (Number _ _) = false
is_node (Name _ _) = false

abbrev pub enclosed : Bool → List ℕ → List ℕ
enclosed true t = codes "(" ++ (t ++ codes ")")
enclosed false t = t

-- Arguments stand in parentheses, separated by a comma and a space. An operator before its operand stands directly before
-- it, one between two has a space on each side, as have ? and :.
abbrev pub expression_text : Expression → List ℕ
expression_text (Truth at true) = codes "true"
expression_text (Truth at false) = codes "false"
expression_text (Number at d) = number_text d
expression_text (Name at x) = x
expression_text (One at o a) =
    if is_function o then operator_text o ++ enclosed true (expression_text a) else operator_text o ++ enclosed (is_node a) (expression_text a)
expression_text (Two at o a b) =
    if is_function o then operator_text o ++ enclosed true (expression_text a ++ (codes ", " ++ expression_text b))
    else enclosed (is_node a) (expression_text a) ++ (codes " " ++ (operator_text o ++ (codes " " ++ enclosed (is_node b) (expression_text b))))
expression_text (Three at o a b c) =
    enclosed (is_node a) (expression_text a) ++ (codes " ? " ++ (enclosed (is_node b) (expression_text b) ++ (codes " : " ++ enclosed (is_node c) (expression_text c))))

-- an operand
abbrev pub operand_text : Expression → List ℕ
operand_text e = enclosed (is_node e) (expression_text e)

-- an expression behind a text, where there is one
abbrev pub behind : List ℕ → Option Expression → List ℕ
behind before None = []
behind before (Some e) = before ++ expression_text e

-- ---- lists

-- the texts of a list, the first behind a text, and each further one behind another
abbrev pub listed : {A B : Type 0} → List B → List B → (A → List B) → List A → List B
listed before between f [] = []
listed before between f (x ∷ xs) = before ++ (f x ++ listed between between f xs)

-- ---- declarations

abbrev pub type_text : Ty → List ℕ
type_text T.Bool = codes "bool"
type_text T.Int = codes "int"
type_text T.Real = codes "double"

-- const int N = 3; (manual, "Constants")
abbrev pub const_text : Const → List ℕ
const_text c = codes "const " ++ (type_text c.ty ++ (codes " " ++ (c.name.name ++ (behind (codes " = ") c.value ++ codes ";\n"))))

abbrev pub range_text : Option Range → List ℕ
range_text None = codes "bool"
range_text (Some r) = codes "[" ++ (expression_text r.low ++ (codes ".." ++ (expression_text r.high ++ codes "]")))

-- x : [0..3] init 0; (manual, "Modules and Variables")
abbrev pub var_text : Var → List ℕ
var_text v = v.name.name ++ (codes " : " ++ (range_text v.range ++ (behind (codes " init ") v.start ++ codes ";\n")))

-- formula f = e; (manual, "Formulas and Labels")
abbrev pub formula_text : Formula → List ℕ
formula_text f = codes "formula " ++ (f.name.name ++ (codes " = " ++ (expression_text f.body ++ codes ";\n")))

-- label "x" = e;
abbrev pub label_text : Label → List ℕ
label_text l = codes "label \"" ++ (l.name.name ++ (codes "\" = " ++ (expression_text l.body ++ codes ";\n")))

-- ---- commands (manual, "Commands")

-- (x'=e)
abbrev pub write_text : Write → List ℕ
write_text w = codes "(" ++ (w.name.name ++ (codes "'=" ++ (expression_text w.value ++ codes ")")))

-- (x'=e) & (y'=f), or true
abbrev pub update_text : List Write → List ℕ
update_text [] = codes "true"
update_text (w ∷ ws) = listed [] (codes " & ") write_text (w ∷ ws)

abbrev pub weight_text : Option Expression → List ℕ
weight_text None = []
weight_text (Some e) = expression_text e ++ codes " : "

-- p : (x'=e), or without the probability
abbrev pub branch_text : Branch → List ℕ
branch_text b = weight_text b.weight ++ update_text b.writes

abbrev pub action_text : Option Named → List ℕ
action_text None = []
action_text (Some a) = a.name

-- [a] guard -> p : (x'=e) + q : true;
abbrev pub command_text : Command → List ℕ
command_text c =
    codes "[" ++ (action_text c.action ++ (codes "] " ++ (expression_text c.guard ++ (codes " -> " ++ (listed [] (codes " + ") branch_text c.branches
    ++ codes ";\n")))))

-- ---- modules (manual, "Modules and Variables", "Module Renaming")

-- what stands before the first command: an empty line where there are variables, and two spaces
abbrev pub before_commands : List Var → List ℕ
before_commands [] = codes "  "
before_commands (v ∷ vs) = codes "\n  "

-- the variables and the commands, each on a line of its own
abbrev pub body_text : Body → List ℕ
body_text m =
    codes "module " ++ (m.name.name ++ (codes "\n" ++ (listed (codes "  ") (codes "  ") var_text m.vars
    ++ (listed (before_commands m.vars) (codes "  ") command_text m.commands ++ codes "endmodule\n"))))

-- a=b
abbrev pub pair_text : NamePair → List ℕ
pair_text p = p.old.name ++ (codes "=" ++ p.new.name)

-- module N = M [a=b, c=d] endmodule
abbrev pub copy_text : CopiedModule → List ℕ
copy_text m =
    codes "module " ++ (m.name.name ++ (codes " = " ++ (m.from.name ++ (codes " [" ++ (listed [] (codes ", ") pair_text m.pairs ++ codes "] endmodule\n")))))

abbrev pub module_text : Module → List ℕ
module_text (plain m) = body_text m
module_text (copied m) = copy_text m

-- ---- rewards (manual, "Costs and Rewards")

abbrev pub on_text : ItemOn → List ℕ
on_text InState = []
on_text Silent = codes "[] "
on_text (Action a) = codes "[" ++ (a.name ++ codes "] ")

-- [a] guard : value;
abbrev pub item_text : Item → List ℕ
item_text i = on_text i.on ++ (expression_text i.guard ++ (codes " : " ++ (expression_text i.value ++ codes ";\n")))

abbrev pub title_text : Option Named → List ℕ
title_text None = []
title_text (Some x) = codes " \"" ++ (x.name ++ codes "\"")

abbrev pub rewards_text : Rewards → List ℕ
rewards_text r = codes "rewards" ++ (title_text r.name ++ (codes "\n" ++ (listed (codes "  ") (codes "  ") item_text r.items ++ codes "endrewards\n")))

-- ---- files

-- init e endinit (manual, "Multiple Initial States")
abbrev pub init_text : Option Expression → List ℕ
init_text None = []
init_text (Some e) = codes "\ninit " ++ (expression_text e ++ codes " endinit\n")

-- The kind, and then the constants, the global variables, the formulas, each module, the labels, each reward structure and
-- the initial condition, with an empty line before each group that there is.
abbrev pub file_text : File → List ℕ
file_text f =
    codes "mdp\n" ++ (listed (codes "\n") [] const_text f.constants ++ (listed (codes "\nglobal ") (codes "global ") var_text f.globals
    ++ (listed (codes "\n") [] formula_text f.formulas ++ (listed (codes "\n") (codes "\n") module_text f.modules
    ++ (listed (codes "\n") [] label_text f.labels ++ (listed (codes "\n") (codes "\n") rewards_text f.rewards ++ init_text f.init))))))
