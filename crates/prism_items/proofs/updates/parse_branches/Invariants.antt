use Rattle.prism_exprs.specs.Reading.{Ends}
use Rattle.std.proofs.Common.{map, length}
use Rattle.prism_tree.specs.Lang.{front}
use Rattle.prism_tree.specs.Syntax.{branch_of}
use Rattle.prism_exprs.specs.Scope.{Scope}
use Rattle.prism_items.specs.Parts.{in_scope, further_branch, several_branches, writes_on, branches_on}
use Rattle.prism_items.proofs.Leading.{Leads}
use Rattle.prism_exprs.specs.Kept.{seen}
use Rattle.prism_items.proofs.updates.parse_branches.Given as goal

abbrev pub invariant-each : goal.invariant-each
invariant-each l = record {
  leads : (s : Scope) → Leads branches_on (in_scope several_branches s) (seen l.tokens) (front (in_scope further_branch s) (map branch_of l.branches)) (seen l.rest);
  ends : Ends writes_on (seen l.rest);
}

abbrev pub decreases-each : goal.decreases-each
decreases-each l = length (seen l.rest)
