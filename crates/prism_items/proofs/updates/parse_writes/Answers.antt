use Rattle.std.proofs.Common.{◌∙◌, sym, ap, List, [], ◌∷◌, ◌++◌}
use Rattle.prism_tree.specs.Lang.{with_last}
use Rattle.prism_tree.specs.Grammar.{write}
use Rattle.prism_tree.specs.Syntax.{write_of}
use Rattle.prism_exprs.specs.Reading.{none}
use Rattle.prism_exprs.proofs.Choice.{folding_word}
use Rattle.prism_items.specs.Parts.{in_scope, further_write, several_writes, writes_on}
use Rattle.prism_items.proofs.Leading.{begin, step, halt}
use Rattle.prism_items.proofs.Updating.{write_one, further_write_one, further_write_begun}
use Rattle.prism_exprs.proofs.Loops.{reads_shorter}
use Rattle.prism_exprs.proofs.Outer.{leaves_in}
use Rattle.prism_items.specs.Files.{plain}
use Rattle.prism_items.proofs.Leading.{listed, pushed, taken_reads, taken_stops, loop_next, loop_stops, loop_done}
use Rattle.prism_items.proofs.updates.parse_writes.Goals as goal

pub returns-in_err-rest : goal.returns-in_err-rest
returns-in_err-rest c = leaves_in _ _ _ _ _ _ c.from_residual.ensures (λ s. halt _ _ s (begin (in_scope several_writes s) writes_on _) (λ _. folding_word with_last _ _) _ (taken_stops write_of (in_scope write) none _ _ _ c.in_err-rest.ensures.err c.parse_write.ensures s))

pub each-init : goal.each-init
each-init c = λ s. listed write_of (in_scope further_write s) (c.in_ok-rest.ensures.ok.0 ∷ []) _ (c.in_ok-rest.ensures.ok.2 ∙ ap (λ (u : List _). u ++ c.in_ok-rest.ensures.ok.0 ∷ []) c.new-writes.ensures) (step _ _ (begin (in_scope several_writes s) writes_on _) (write_one s) (taken_reads write_of (in_scope write) none _ _ c.in_ok-rest.ensures.ok.0 _ c.in_ok-rest.ensures.ok.1 c.parse_write.ensures s))

pub each-smaller : goal.each-smaller
each-smaller c = let s = plain in reads_shorter _ (further_write_begun s) (taken_reads write_of (in_scope further_write) none _ _ c.in_ok-rest-2.ensures.ok.0 _ c.in_ok-rest-2.ensures.ok.1 c.parse_further_write.ensures s)

pub each-preserved : goal.each-preserved
each-preserved c = λ s. pushed write_of (in_scope further_write s) c.each.writes _ c.in_ok-rest-2.ensures.ok.0 c.in_ok-rest-2.ensures.ok.2 (loop_next with_last (in_scope further_write s) _ _ (further_write_begun s) (further_write_one s) (c.each.invariant s) (sym c.symbol_next.ensures ∙ c.each-test.true) (taken_reads write_of (in_scope further_write) none _ _ c.in_ok-rest-2.ensures.ok.0 _ c.in_ok-rest-2.ensures.ok.1 c.parse_further_write.ensures s))

pub returns-in_err-rest-2 : goal.returns-in_err-rest-2
returns-in_err-rest-2 c = leaves_in _ _ _ _ _ _ c.from_residual-in_err-rest-2.ensures (λ s. loop_stops with_last (in_scope further_write s) _ s _ (c.each.invariant s) (sym c.symbol_next.ensures ∙ c.each-test.true) (taken_stops write_of (in_scope further_write) none _ _ _ c.in_err-rest-2.ensures.err c.parse_further_write.ensures s))

pub returns : goal.returns
returns c = λ s. loop_done with_last (in_scope further_write s) _ (c.each.invariant s) (sym c.symbol_next.ensures ∙ c.each-test.false)
