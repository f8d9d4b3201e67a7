-- What the names of a JANI file stand for (jani-model specification, version 1: "Constants", "Variables", "Types",
-- "Automata").
use Rattle.std.specs.Prelude.{List, Bool, true, false, Option, Some, None, if◌then◌else◌}
use Rattle.std.specs.List.{find}
use Rattle.std.specs.Option.{option_map, option_or as or_else}
pub use Rattle.op_trees.specs.Names.{is_called}
pub use Rattle.name_rules.specs.Names.{Name}
use Rattle.op_trees.specs.declared.tree.Ty.{Ty}
use Rattle.op_trees.specs.declared.tree.Ty.TheVariants as T
use Rattle.op_trees.specs.Types.{Types}
use Rattle.jani_tree.specs.Syntax.{Const, VarKind, boolean, integer, number, real_bounded, one_sided, bounded, Var, Automaton, File}
use Rattle.jani_check.specs.declared.things.Thing.{Thing}
use Rattle.jani_check.specs.declared.things.Thing.TheVariants.{Constant, Variable, Transient}

-- the type of a variable's values
abbrev pub kind_type : VarKind → Ty
kind_type boolean = T.Bool
kind_type integer = T.Int
kind_type number = T.Real
kind_type real_bounded = T.Real
kind_type one_sided = T.Int
kind_type (bounded low high) = T.Int

abbrev pub const_thing : Const → Thing
const_thing c = Constant c.ty

abbrev pub var_thing : Var → Thing
var_thing x = if x.transient then Transient (kind_type x.kind) else Variable (kind_type x.kind)

abbrev pub const_called : File → Name → Option Const
const_called file x = find (λ c. is_called x c.name) file.constants

abbrev pub var_called : List Var → Name → Option Var
var_called vars x = find (λ v. is_called x v.name) vars

abbrev pub automaton_called : File → Name → Option Automaton
automaton_called file x = find (λ a. is_called x a.name) file.automata

-- what a name stands for outside of automata: a constant or a global variable
abbrev pub global_thing : File → Name → Option Thing
global_thing file x = or_else (option_map const_thing (const_called file x)) (option_map var_thing (var_called file.variables x))

-- what it stands for where these variables are known besides
abbrev pub beside : (Name → Option Thing) → List Var → Name → Option Thing
beside global own x = or_else (global x) (option_map var_thing (var_called own x))

abbrev pub thing_type : Thing → Ty
thing_type (Constant t) = t
thing_type (Variable t) = t
thing_type (Transient t) = t

-- the types of names, by what they stand for
abbrev pub types_by : (Name → Option Thing) → Types
types_by things x = option_map thing_type (things x)

-- ---- which things they are
abbrev pub is_constant : Option Thing → Bool
is_constant (Some (Constant t)) = true
is_constant (Some (Variable _)) = false
is_constant (Some (Transient _)) = false
is_constant None = false

-- a variable that is not transient
abbrev pub is_lasting : Option Thing → Bool
is_lasting (Some (Variable t)) = true
is_lasting (Some (Constant _)) = false
is_lasting (Some (Transient _)) = false
is_lasting None = false

abbrev pub is_transient : Option Thing → Bool
is_transient (Some (Transient t)) = true
is_transient (Some (Constant _)) = false
is_transient (Some (Variable _)) = false
is_transient None = false

-- a transient variable that is a truth value: a label
abbrev pub is_label : Option Thing → Bool
is_label (Some (Transient T.Bool)) = true
is_label (Some (Constant _)) = false
is_label (Some (Variable _)) = false
is_label (Some (Transient T.Int)) = false
is_label (Some (Transient T.Real)) = false
is_label None = false

-- a transient variable that is a number: a reward
abbrev pub is_reward : Option Thing → Bool
is_reward (Some (Transient T.Int)) = true
is_reward (Some (Transient T.Real)) = true
is_reward (Some (Constant _)) = false
is_reward (Some (Variable _)) = false
is_reward (Some (Transient T.Bool)) = false
is_reward None = false
