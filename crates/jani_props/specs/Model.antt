-- What the code's tables say that names of a model are.
use Rattle.std.specs.Prelude.{ℕ, List, Option}
use Rattle.name_rules.specs.Names.{under}
use Rattle.jani_check.specs.declared.things.Thing.{Thing}
use Rattle.jani_check.specs.Scopes.{thing_under}
use Rattle.jani_props.specs.declared.model.ModelNames.{ModelNames}

abbrev pub things_of : ModelNames → List ℕ → Option Thing
things_of m = thing_under m.things

abbrev pub numbers_of : ModelNames → List ℕ → Option ℕ
numbers_of m = under m.structures
