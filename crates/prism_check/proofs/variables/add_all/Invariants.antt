use Rattle.std.specs.Prelude.{◌≡◌, ℕ, List, map, drop}
use Rattle.std.specs.Option.{option_or}
use Rattle.prism_tree.specs.Syntax.{module_of}
use Rattle.name_rules.specs.Names.{under}
use Rattle.prism_check.specs.Tables.{module_under}
use Rattle.prism_check.specs.Typing.{owned_in, numbered_by}
use Rattle.prism_check.proofs.variables.add_all.Given as goal

abbrev pub invariant-loop-number : goal.invariant-loop-number
invariant-loop-number l = (x : List ℕ) →
    option_or (under l.table x) (owned_in (numbered_by (module_under l.modules) l.number (map module_of (drop l.number l.all))) x)
    ≡ option_or (under l.initial.table x) (owned_in (numbered_by (module_under l.modules) 0 (map module_of l.all)) x)
