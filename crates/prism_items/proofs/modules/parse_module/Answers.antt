use Rattle.prism_tree.specs.Grammar.{module_item}
use Rattle.prism_tree.specs.Syntax.{module_of}
use Rattle.prism_exprs.specs.Reading.{none}
use Rattle.prism_exprs.proofs.Laws.{token_one, then_word}
use Rattle.prism_exprs.proofs.Outer.{leaves_in}
use Rattle.prism_items.specs.Parts.{in_scope, closed_by, module_rest}
use Rattle.prism_items.proofs.Leading.{begin, step, halt, parses_by}
use Rattle.prism_items.proofs.Declaring.{name_one, name_word}
use Rattle.prism_items.proofs.Building.{rest_word}
use Rattle.prism_items.proofs.modules.parse_module.Goals as goal

pub returns-in_err-_module : goal.returns-in_err-_module
unfolding module_item closed_by
returns-in_err-_module c = leaves_in _ _ _ _ _ _ c.from_residual.ensures (λ s. halt _ _ s (begin (in_scope module_item s) none _) (λ _. then_word (name_word) (λ _. rest_word s _)) _ (c.in_err-_module.ensures s))

pub returns-in_err-name : goal.returns-in_err-name
unfolding module_item closed_by
returns-in_err-name c = leaves_in _ _ _ _ _ _ c.from_residual-in_err-name.ensures (λ s. halt _ _ s (step _ _ (begin (in_scope module_item s) none _) (token_one _) (c.in_ok-_module.ensures s)) (λ _. rest_word s _) _ (c.in_err-name.ensures s))

pub returns : goal.returns
unfolding module_item closed_by
returns c = parses_by module_of (in_scope module_item) (in_scope (module_rest c.in_ok-name.name)) none _ _ c.parse_rest.result (λ s. step _ _ (step _ _ (begin (in_scope module_item s) none _) (token_one _) (c.in_ok-_module.ensures s)) name_one (c.in_ok-name.ensures s)) c.parse_rest.ensures
