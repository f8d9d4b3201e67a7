-- The canonical text of a properties file of PRISM (PRISM manual, "Property Specification"): one property a line. A bound stands in
-- parentheses where it is an operator node, and a bound of steps also where it is the name of a function, since a parenthesis could
-- follow. An operand of F, G, U and W stands in parentheses where it is a choice. (Where parentheses stand is this project's own rule.)
use Rattle.std.specs.Prelude.{ℕ, zero, suc, List, [], ◌∷◌, ◌++◌, Option, Some, None, Bool, true, false, ◌||◌, is_some, codes}
use Rattle.std.specs.List.{flat_map}
use Rattle.op_trees.specs.Tree.{renamed, Truth, Number, Name as At, One, Two, Three}
use Rattle.prism_tree.specs.Syntax.{Expression}
use Rattle.prism_tree.specs.Grammar.{function_of}
use Rattle.prism_print.specs.Text.{is_node, enclosed, expression_text}
use Rattle.prop_grammar.specs.declared.syntax.Compare.{Compare}
use Rattle.prop_grammar.specs.declared.syntax.Compare.TheVariants as C
use Rattle.prop_grammar.specs.Property.{Ask, greatest, least, bounded, greatest_reward, least_reward, Path, finally, globally, until, weak_until, finally_within, until_within}
use Rattle.prop_trees.specs.Trees.{Name, PrismProperty, ask_with, path_with}
use Rattle.prop_trees.specs.Names.{quoted, Meant, of_model, is_initial, is_deadlock, nothing, meant, initial_name, deadlock_name}

-- a name of a property as it is written in a file
abbrev pub plain_meant : Meant → Name
plain_meant (of_model x) = x
plain_meant is_initial = quoted initial_name
plain_meant is_deadlock = quoted deadlock_name
plain_meant nothing = []

abbrev pub plain_name : Name → Name
plain_name x = plain_meant (meant x)

abbrev pub plain : Expression → Expression
plain e = renamed plain_name e

-- ---- expressions in a property
abbrev pub is_choice : Expression → Bool
is_choice (Three at o a b c) = true
is_choice (Truth _ _) = false
is_choice (Number _ _) = false
is_choice (At _ _) = false
is_choice (One _ _ _) = false
is_choice (Two _ _ _ _) = false

abbrev pub is_function_name : Expression → Bool
is_function_name (At at x) = is_some (function_of x)
is_function_name (Truth _ _) = false
is_function_name (Number _ _) = false
is_function_name (One _ _ _) = false
is_function_name (Two _ _ _ _) = false
is_function_name (Three _ _ _ _ _) = false

abbrev pub operand_text : Expression → List ℕ
operand_text e = enclosed (is_choice e) (expression_text e)

abbrev pub probability_text : Expression → List ℕ
probability_text e = enclosed (is_node e) (expression_text e)

abbrev pub steps_text : Expression → List ℕ
steps_text e = enclosed (is_node e || is_function_name e) (expression_text e)

-- ---- paths
abbrev pub path_text : Path Expression → List ℕ
path_text (finally e) = codes "F " ++ operand_text e
path_text (globally e) = codes "G " ++ operand_text e
path_text (until a b) = operand_text a ++ (codes " U " ++ operand_text b)
path_text (weak_until a b) = operand_text a ++ (codes " W " ++ operand_text b)
path_text (finally_within k e) = codes "F<=" ++ (steps_text k ++ (codes " " ++ operand_text e))
path_text (until_within k a b) = operand_text a ++ (codes " U<=" ++ (steps_text k ++ (codes " " ++ operand_text b)))

-- ---- queries
abbrev pub compare_text : Compare → List ℕ
compare_text C.Less = codes "<"
compare_text C.AtMost = codes "<="
compare_text C.AtLeast = codes ">="
compare_text C.Greater = codes ">"

-- the name of the reward structure of a number, by the names of all
abbrev pub structure_name : List Name → ℕ → Name
structure_name [] i = []
structure_name (x ∷ xs) zero = x
structure_name (x ∷ xs) (suc i) = structure_name xs i

abbrev pub reward_text : Name → List ℕ → List ℕ
reward_text r which = codes "R{" ++ (quoted r ++ (codes "}" ++ (which ++ codes "=?")))

abbrev pub ask_text : List Name → Ask Expression ℕ → List ℕ
ask_text rewards greatest = codes "Pmax=?"
ask_text rewards least = codes "Pmin=?"
ask_text rewards (bounded c e) = codes "P" ++ (compare_text c ++ probability_text e)
ask_text rewards (greatest_reward r) = reward_text (structure_name rewards r) (codes "max")
ask_text rewards (least_reward r) = reward_text (structure_name rewards r) (codes "min")

-- a property, its names as they are written
abbrev pub or_empty : Option Name → Name
or_empty None = []
or_empty (Some x) = x

abbrev pub line : Option Name → List ℕ → List ℕ → List ℕ
line x ask path = quoted (or_empty x) ++ (codes ": " ++ (ask ++ (codes " [ " ++ (path ++ codes " ];\n"))))

-- of a model whose reward structures have these names
abbrev pub property_text : List Name → PrismProperty → List ℕ
property_text rewards p = line p.name (ask_text rewards (ask_with plain (λ i. i) p.ask)) (path_text (path_with plain p.path))

abbrev pub properties_text : List Name → List PrismProperty → List ℕ
properties_text rewards ps = flat_map (property_text rewards) ps
