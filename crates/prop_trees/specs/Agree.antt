-- When two properties of corresponding models agree: they ask the same, of paths of the same form, their reward structures
-- correspond, and their state formulas and bounds have the same values in all environments that correspond. An environment gives
-- values to constants, variables and labels, and says whether a state is initial, and whether it is a deadlock. (What is asked, and
-- what the built-in labels are: PRISM manual, "Property Specification"; jani-model specification, version 1, property expressions.
-- What it is to agree is this project's own rule.)
use Rattle.std.specs.Prelude.{◌≡◌, List, Option, Some, None, Bool, if◌then◌else◌}
use Rattle.std.specs.List.{AllByRecursion as Each, AllZip}
use Rattle.op_trees.specs.declared.tree.Value.{Value}
use Rattle.op_trees.specs.declared.tree.Value.TheVariants as V
use Rattle.op_trees.specs.Seen.{Seen, seen, known, known_names}
use Rattle.op_trees.specs.Types.{AgreesWith}
use Rattle.prism_tree.specs.Operators.{prism_meaning}
use Rattle.prism_tree.specs.Syntax as prism
use Rattle.prism_tree.specs.Grammar.{unquoted}
use Rattle.prism_names.specs.Names.{reading}
use Rattle.prism_check.specs.TypeFaults.{declared_types}
use Rattle.jani_table.specs.Operators.{jani_meaning}
use Rattle.jani_tree.specs.Syntax as jani
use Rattle.prop_grammar.specs.Grammar.{has_quotes}
use Rattle.prop_trees.specs.Trees.{Name, PrismProperty, JaniProperty, SameAsk, SamePath}
use Rattle.prop_trees.specs.Names.{Meant, of_model, is_initial, is_deadlock, nothing, meant}

-- ---- environments

abbrev pub truth : Bool → Option Value
truth b = Some (V.Truth b)

-- a label has a value as a variable has
pub record PrismEnvironment : Type 0 where
  pub value : Name → Option Value
  pub label : Name → Option Value
  pub initial : Bool
  pub deadlock : Bool

-- a label of PRISM is a variable of JANI
pub record JaniEnvironment : Type 0 where
  pub value : Name → Option Value
  pub initial : Bool
  pub deadlock : Bool

-- ---- the values of expressions

-- a name of the model: a label between quotes, else a constant, a variable or a formula, whose name is seen as its body
abbrev pub prism_model_name : prism.File → PrismEnvironment → Name → Seen
prism_model_name file env x = if has_quotes x then known (env.label (unquoted x)) else reading file (known_names env.value) x

abbrev pub prism_seen : prism.File → PrismEnvironment → Meant → Seen
prism_seen file env (of_model x) = prism_model_name file env x
prism_seen file env is_initial = known (truth env.initial)
prism_seen file env is_deadlock = known (truth env.deadlock)
prism_seen file env nothing = known None

abbrev pub jani_seen : JaniEnvironment → Meant → Seen
jani_seen env (of_model x) = known (env.value x)
jani_seen env is_initial = known (truth env.initial)
jani_seen env is_deadlock = known (truth env.deadlock)
jani_seen env nothing = known None

abbrev pub prism_value : prism.File → PrismEnvironment → prism.Expression → Option Value
prism_value file env e = (seen prism_meaning e (λ x. prism_seen file env (meant x))).value

abbrev pub jani_value : JaniEnvironment → jani.Expression → Option Value
jani_value env e = (seen jani_meaning e (λ x. jani_seen env (meant x))).value

-- ---- corresponding environments

-- What a PRISM model's constants and variables, and its labels, are called in a JANI model: pairs of the old name and the new one.
pub record Naming : Type 0 where
  pub values : List (Name × Name)
  pub labels : List (Name × Name)

pub record Correspond (naming : Naming) (p : PrismEnvironment) (j : JaniEnvironment) : Type 0 where
  pub values : Each (λ n. j.value n.1 ≡ p.value n.0) naming.values
  pub labels : Each (λ n. j.value n.1 ≡ p.label n.0) naming.labels
  pub initial : j.initial ≡ p.initial
  pub deadlock : j.deadlock ≡ p.deadlock

-- a truth value, if there is a value
abbrev pub IsTruthValue : Option Value → Type 0
IsTruthValue None = Unit {0}
IsTruthValue (Some (V.Truth b)) = Unit {0}
IsTruthValue (Some (V.Number x)) = ⊥

-- Each constant and variable has a value of its type or none, and each label a truth value or none.
pub record IsTyped (file : prism.File) (p : PrismEnvironment) : Type 0 where
  pub values : (x : Name) → AgreesWith (declared_types file x) (p.value x)
  pub labels : (x : Name) → IsTruthValue (p.label x)

-- ---- agreement

-- the same value in all corresponding environments
abbrev pub SameValue : prism.File → Naming → prism.Expression → jani.Expression → Type 0
SameValue file naming e f =
    (p : PrismEnvironment) (j : JaniEnvironment) → IsTyped file p → Correspond naming p j → prism_value file p e ≡ jani_value j f

-- Reward structures correspond where they have the same number: that of the global numeric transient variables, in order.
pub record Agree (file : prism.File) (naming : Naming) (p : PrismProperty) (q : JaniProperty) : Type 0 where
  pub ask : SameAsk (SameValue file naming) p.ask q.ask
  pub path : SamePath (SameValue file naming) p.path q.path

-- one by one, in order
abbrev pub AllAgree : prism.File → Naming → List PrismProperty → List JaniProperty → Type 0
AllAgree file naming ps qs = AllZip (Agree file naming) ps qs
