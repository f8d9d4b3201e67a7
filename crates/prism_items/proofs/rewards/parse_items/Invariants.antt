use Rattle.std.proofs.Common.{map, length}
use Rattle.prism_lex.specs.declared.token.TokenKind.TheVariants as K
use Rattle.prism_lex.specs.declared.words.Reserved.TheVariants as W
use Rattle.prism_tree.specs.Lang.{many, front}
use Rattle.prism_tree.specs.Grammar.{reward}
use Rattle.prism_tree.specs.Syntax.{item_of}
use Rattle.prism_exprs.specs.Kept.{seen}
use Rattle.prism_exprs.specs.Scope.{Scope}
use Rattle.prism_items.specs.Parts.{in_scope, all_but}
use Rattle.prism_items.proofs.Leading.{Leads}
use Rattle.prism_items.proofs.rewards.parse_items.Given as goal

abbrev pub invariant-each : goal.invariant-each
invariant-each l = (s : Scope) → Leads (all_but (K.Word W.Endrewards)) (many (in_scope reward s)) (seen l.tokens) (front (in_scope reward s) (map item_of l.items)) (seen l.rest)

abbrev pub decreases-each : goal.decreases-each
decreases-each l = length (seen l.rest)
