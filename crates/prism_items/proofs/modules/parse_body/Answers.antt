use Rattle.prism_lex.specs.declared.token.TokenKind.TheVariants as K
use Rattle.prism_lex.specs.declared.words.Reserved.TheVariants as W
use Rattle.prism_tree.specs.Grammar.{body}
use Rattle.prism_exprs.proofs.Laws.{then_word, gives_word}
use Rattle.prism_exprs.proofs.Choice.{many_word}
use Rattle.prism_exprs.proofs.Exprs.{gives_follows}
use Rattle.prism_exprs.proofs.Outer.{leaves_in}
use Rattle.prism_items.specs.Parts.{in_scope, all_but}
use Rattle.prism_items.proofs.Leading.{begin, step_to, halt_at}
use Rattle.prism_items.proofs.Building.{vars_one, commands_one, commands_follow}
use Rattle.prism_items.proofs.Choosing.{gives_here}
use Rattle.prism_items.proofs.modules.parse_body.Goals as goal

pub returns-in_err-vars : goal.returns-in_err-vars
unfolding body
returns-in_err-vars c = leaves_in _ _ _ _ _ _ c.from_residual.ensures (λ s. halt_at _ _ s (begin (in_scope (λ E V. body E V c.args.name) s) (all_but (K.Word W.Endmodule)) _) (λ _. then_word (many_word _) (λ _. gives_word _)) (commands_follow s _) _ (c.in_err-vars.ensures s))

pub returns-in_err-commands : goal.returns-in_err-commands
unfolding body
returns-in_err-commands c = leaves_in _ _ _ _ _ _ c.from_residual-in_err-commands.ensures (λ s. halt_at _ _ s (step_to _ _ (begin (in_scope (λ E V. body E V c.args.name) s) (all_but (K.Word W.Endmodule)) _) (vars_one s) (commands_follow s _) (c.in_ok-vars.ensures s)) (λ _. gives_word _) (gives_follows _ (all_but (K.Word W.Endmodule))) _ (c.in_err-commands.ensures s))

pub returns : goal.returns
unfolding body
returns c = λ s. ((step_to _ _ (step_to _ _ (begin (in_scope (λ E V. body E V c.args.name) s) (all_but (K.Word W.Endmodule)) _) (vars_one s) (commands_follow s _) (c.in_ok-vars.ensures s)) (commands_one s) (gives_follows _ (all_but (K.Word W.Endmodule))) (c.in_ok-commands.ensures s)).reads _ _ (gives_here _ (all_but (K.Word W.Endmodule)) _ (c.in_ok-commands.ensures s).ends))
