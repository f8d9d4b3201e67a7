use Rattle.prism_exprs.specs.Reading.{none}
use Rattle.prism_exprs.proofs.Laws.{token_one}
use Rattle.prism_exprs.proofs.Outer.{leaves_in}
use Rattle.prism_items.proofs.Leading.{begin, step, halt, parses_by}
use Rattle.prop_grammar.specs.Grammar
use Rattle.prop_grammar.specs.Syntax.{path_of}
use Rattle.prop_reader.specs.Parts
use Rattle.prop_reader.specs.Parts.{in_scope, bracket_behind, asked_as, asked_of}
use Rattle.prop_reader.proofs.Pieces
use Rattle.prop_reader.proofs.queries.parse_bracketed_path.Goals as goal

pub returns-in_err-_left : goal.returns-in_err-_left
returns-in_err-_left c = leaves_in _ _ _ _ _ _ c.from_residual.ensures (λ s. halt _ _ s (begin (in_scope Parts.bracketed_path s) none _) (λ _. Pieces.closed_path_word s) _ (c.in_err-_left.ensures s))

pub returns : goal.returns
returns c = parses_by path_of (in_scope Parts.bracketed_path) (in_scope (λ E B. bracket_behind (Grammar.path E B))) none _ _ c.parse_path.result (λ s. step _ _ (begin (in_scope Parts.bracketed_path s) none _) (token_one _) (c.in_ok-_left.ensures s)) c.parse_path.ensures
