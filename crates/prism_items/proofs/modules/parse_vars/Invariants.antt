use Rattle.std.proofs.Common.{map, length}
use Rattle.prism_tree.specs.Lang.{many, front}
use Rattle.prism_tree.specs.Grammar.{var}
use Rattle.prism_tree.specs.Syntax.{var_of}
use Rattle.prism_exprs.specs.Kept.{seen}
use Rattle.prism_exprs.specs.Scope.{Scope}
use Rattle.prism_items.specs.Parts.{in_scope, vars_on}
use Rattle.prism_items.proofs.Leading.{Leads}
use Rattle.prism_items.proofs.modules.parse_vars.Given as goal

abbrev pub invariant-each : goal.invariant-each
invariant-each l = (s : Scope) → Leads vars_on (many (in_scope var s)) (seen l.tokens) (front (in_scope var s) (map var_of l.vars)) (seen l.rest)

abbrev pub decreases-each : goal.decreases-each
decreases-each l = length (seen l.rest)
