use Rattle.std.specs.Prelude.{◌≡◌, ℕ, List, map, drop}
use Rattle.std.specs.List.{find}
use Rattle.std.specs.Option.{option_map, option_or}
use Rattle.prism_tree.specs.Syntax.{const_of}
use Rattle.op_trees.specs.Names.{is_called}
use Rattle.name_rules.specs.Names.{under}
use Rattle.prism_check.proofs.variables.constant_types.Given as goal

abbrev pub invariant-loop-constant : goal.invariant-loop-constant
invariant-loop-constant l = (x : List ℕ) →
    option_or (under l.table x) (option_map (λ c. c.ty) (find (λ c. is_called x c.name) (map const_of (drop l.constant-index l.constants))))
    ≡ option_map (λ c. c.ty) (find (λ c. is_called x c.name) (map const_of l.constants))
