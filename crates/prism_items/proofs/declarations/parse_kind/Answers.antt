use Rattle.std.specs.Option.{option_map}
use Rattle.prism_tree.specs.Syntax.{range_of}
use Rattle.prism_exprs.specs.Reading.{none}
use Rattle.prism_exprs.proofs.Laws.{token_one}
use Rattle.prism_exprs.proofs.Outer.{leaves_in}
use Rattle.prism_items.specs.Parts.{in_scope, domain, domain_part}
use Rattle.prism_items.proofs.Leading.{begin, step, halt, parses_by}
use Rattle.prism_items.proofs.Declaring.{domain_word}
use Rattle.prism_items.proofs.declarations.parse_kind.Goals as goal

pub returns-in_err-_colon : goal.returns-in_err-_colon
returns-in_err-_colon c = leaves_in _ _ _ _ _ _ c.from_residual.ensures (λ s. halt _ _ s (begin (in_scope domain_part s) none _) (λ _. domain_word s) _ (c.in_err-_colon.ensures s))

pub returns : goal.returns
returns c = parses_by (option_map range_of) (in_scope domain_part) (in_scope domain) none _ _ c.parse_domain.result (λ s. step _ _ (begin (in_scope domain_part s) none _) (token_one _) (c.in_ok-_colon.ensures s)) c.parse_domain.ensures
