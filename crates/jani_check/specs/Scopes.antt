-- What the code's tables say that names stand for.
use Rattle.std.specs.Prelude.{ℕ, List, Bool, Option, None, is_some}
use Rattle.std.specs.List.{find}
use Rattle.op_trees.specs.declared.tree.Ty.{Ty}
use Rattle.op_trees.specs.Types.{AgreesWith}
use Rattle.jani_tree.specs.Syntax.{Const}
use Rattle.std.specs.Option.{option_or as or_else}
use Rattle.op_trees.specs.Names.{is_called}
use Rattle.name_rules.specs.Names.{Name, under}
use Rattle.jani_check.specs.declared.things.Thing.{Thing}
use Rattle.jani_check.specs.declared.things.Things.{Things}
use Rattle.jani_check.specs.declared.things.Scope.{Scope}

abbrev pub thing_under : Things → List ℕ → Option Thing
thing_under t x = under t.first x

-- the first constant of a name
abbrev pub const_in : List Const → Name → Option Const
const_in cs x = find (λ c. is_called x c.name) cs

abbrev pub scope_thing : Scope → List ℕ → Option Thing
scope_thing s x = or_else (thing_under s.global.now x) (thing_under s.own x)

-- it stands for something
abbrev pub is_known : (Name → Option Thing) → Name → Bool
is_known things x = is_some (things x)

-- a name that has no value has none of a wrong type
pub no_value : {t : Option Ty} → AgreesWith t None
no_value = record { agrees = λ t v e f. absurd cc }
