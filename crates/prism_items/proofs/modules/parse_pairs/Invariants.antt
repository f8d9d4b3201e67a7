use Rattle.std.proofs.Common.{map, length}
use Rattle.prism_lex.specs.declared.token.TokenKind.TheVariants as K
use Rattle.prism_lex.specs.declared.symbols.Symbol.TheVariants as S
use Rattle.prism_tree.specs.Lang.{front}
use Rattle.prism_exprs.specs.Reading.{is_kind}
use Rattle.prism_exprs.specs.Kept.{seen}
use Rattle.prism_exprs.specs.Scope.{Scope}
use Rattle.prism_items.specs.Parts.{further_pair, several_pairs, in_scope}
use Rattle.prism_items.proofs.Leading.{Leads}
use Rattle.prism_items.proofs.modules.parse_pairs.Given as goal

abbrev pub invariant-each : goal.invariant-each
invariant-each l = (s : Scope) → Leads (is_kind (K.Symbol S.Comma)) (in_scope several_pairs s) (seen l.tokens) (front (in_scope further_pair s) (map (λ x. x) l.pairs)) (seen l.rest)

abbrev pub decreases-each : goal.decreases-each
decreases-each l = length (seen l.rest)
