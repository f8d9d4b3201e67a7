use Rattle.std.proofs.Common.{length}
use Rattle.prism_tree.specs.Syntax.{file_of}
use Rattle.prism_exprs.specs.Kept.{seen}
use Rattle.prism_exprs.specs.Scope.{Scope}
use Rattle.prism_items.specs.Sections.{sections_from, is_item}
use Rattle.prism_items.proofs.Leading.{Leads}
use Rattle.prism_items.proofs.sections.parse_list.Given as goal

abbrev pub invariant-each : goal.invariant-each
invariant-each l = (s : Scope) → Leads is_item (sections_from (file_of l.fn.file) s) (seen l.tokens) (sections_from (file_of l.whole) s) (seen l.rest)

abbrev pub decreases-each : goal.decreases-each
decreases-each l = length (seen l.rest)
