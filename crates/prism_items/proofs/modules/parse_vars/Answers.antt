use Rattle.std.proofs.Common.{◌∙◌, sym, []}
use Rattle.prism_tree.specs.Lang.{with_last}
use Rattle.prism_tree.specs.Grammar.{var}
use Rattle.prism_tree.specs.Syntax.{var_of}
use Rattle.prism_items.specs.Parts.{in_scope, vars_on}
use Rattle.prism_items.proofs.Declaring.{var_one}
use Rattle.prism_items.proofs.Building.{vars_begun}
use Rattle.prism_exprs.proofs.Loops.{reads_shorter}
use Rattle.prism_exprs.proofs.Outer.{leaves_in}
use Rattle.prism_items.specs.Files.{plain}
use Rattle.prism_exprs.specs.Reading.{none}
use Rattle.prism_items.proofs.Leading.{listed, pushed, taken_reads, taken_stops, many_begin, loop_next, loop_stops, loop_done}
use Rattle.prism_items.proofs.modules.parse_vars.Goals as goal

pub each-init : goal.each-init
each-init c = λ s. listed var_of (in_scope var s) [] _ c.new-vars.ensures (many_begin (in_scope var s) vars_on _)

pub each-smaller : goal.each-smaller
each-smaller c = let s = plain in reads_shorter _ (vars_begun s) (taken_reads var_of (in_scope var) none _ _ c.in_ok-rest.ensures.ok.0 _ c.in_ok-rest.ensures.ok.1 c.parse_var.ensures s)

pub each-preserved : goal.each-preserved
each-preserved c = λ s. pushed var_of (in_scope var s) c.each.vars _ c.in_ok-rest.ensures.ok.0 c.in_ok-rest.ensures.ok.2 (loop_next with_last (in_scope var s) _ _ (vars_begun s) (var_one s) (c.each.invariant s) (sym c.var_next.ensures ∙ c.each-test.true) (taken_reads var_of (in_scope var) none _ _ c.in_ok-rest.ensures.ok.0 _ c.in_ok-rest.ensures.ok.1 c.parse_var.ensures s))

pub returns-in_err-rest : goal.returns-in_err-rest
returns-in_err-rest c = leaves_in _ _ _ _ _ _ c.from_residual.ensures (λ s. loop_stops with_last (in_scope var s) _ s _ (c.each.invariant s) (sym c.var_next.ensures ∙ c.each-test.true) (taken_stops var_of (in_scope var) none _ _ _ c.in_err-rest.ensures.err c.parse_var.ensures s))

pub returns : goal.returns
returns c = λ s. (loop_done with_last (in_scope var s) _ (c.each.invariant s) (sym c.var_next.ensures ∙ c.each-test.false))
