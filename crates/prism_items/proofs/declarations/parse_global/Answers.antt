use Rattle.prism_tree.specs.Grammar.{var, global_item}
use Rattle.prism_tree.specs.Syntax.{var_of}
use Rattle.prism_exprs.specs.Reading.{none}
use Rattle.prism_exprs.proofs.Laws.{token_one}
use Rattle.prism_exprs.proofs.Outer.{leaves_in}
use Rattle.prism_items.specs.Parts.{in_scope}
use Rattle.prism_items.proofs.Leading.{begin, step, halt, parses_by}
use Rattle.prism_items.proofs.Declaring.{var_word}
use Rattle.prism_items.proofs.declarations.parse_global.Goals as goal

pub returns-in_err-_global : goal.returns-in_err-_global
unfolding global_item
returns-in_err-_global c = leaves_in _ _ _ _ _ _ c.from_residual.ensures (λ s. halt _ _ s (begin (in_scope global_item s) none _) (λ _. var_word s) _ (c.in_err-_global.ensures s))

pub returns : goal.returns
unfolding global_item
returns c = parses_by var_of (in_scope global_item) (in_scope var) none _ _ c.parse_var.result (λ s. step _ _ (begin (in_scope global_item s) none _) (token_one _) (c.in_ok-_global.ensures s)) c.parse_var.ensures
