use Rattle.std.proofs.Common.{map, length}
use Rattle.prism_tree.specs.Lang.{front}
use Rattle.prism_tree.specs.Syntax.{write_of}
use Rattle.prism_exprs.specs.Kept.{seen}
use Rattle.prism_exprs.specs.Scope.{Scope}
use Rattle.prism_items.specs.Parts.{in_scope, further_write, several_writes, writes_on}
use Rattle.prism_items.proofs.Leading.{Leads}
use Rattle.prism_items.proofs.updates.parse_writes.Given as goal

abbrev pub invariant-each : goal.invariant-each
invariant-each l = (s : Scope) → Leads writes_on (in_scope several_writes s) (seen l.tokens) (front (in_scope further_write s) (map write_of l.writes)) (seen l.rest)

abbrev pub decreases-each : goal.decreases-each
decreases-each l = length (seen l.rest)
