use Rattle.std.proofs.Common.{◌∙◌, sym, []}
use Rattle.prism_lex.specs.declared.token.TokenKind.TheVariants as K
use Rattle.prism_lex.specs.declared.words.Reserved.TheVariants as W
use Rattle.prism_tree.specs.Lang.{with_last}
use Rattle.prism_tree.specs.Grammar.{command}
use Rattle.prism_tree.specs.Syntax.{command_of}
use Rattle.prism_items.specs.Parts.{in_scope, all_but}
use Rattle.prism_items.proofs.Building.{command_one, commands_begun}
use Rattle.prism_exprs.proofs.Loops.{reads_shorter}
use Rattle.prism_exprs.proofs.Outer.{leaves_in}
use Rattle.prism_items.specs.Files.{plain}
use Rattle.prism_exprs.specs.Reading.{none}
use Rattle.prism_items.proofs.Leading.{listed, pushed, taken_reads, taken_stops, many_begin, loop_next, loop_stops, loop_done}
use Rattle.prism_items.proofs.modules.parse_commands.Goals as goal

pub each-init : goal.each-init
each-init c = λ s. listed command_of (in_scope command s) [] _ c.new-commands.ensures (many_begin (in_scope command s) (all_but (K.Word W.Endmodule)) _)

pub each-smaller : goal.each-smaller
each-smaller c = let s = plain in reads_shorter _ (commands_begun s) (taken_reads command_of (in_scope command) none _ _ c.in_ok-rest.ensures.ok.0 _ c.in_ok-rest.ensures.ok.1 c.parse_command.ensures s)

pub each-preserved : goal.each-preserved
each-preserved c = λ s. pushed command_of (in_scope command s) c.each.commands _ c.in_ok-rest.ensures.ok.0 c.in_ok-rest.ensures.ok.2 (loop_next with_last (in_scope command s) _ _ (commands_begun s) (command_one s) (c.each.invariant s) (sym c.other_next.ensures ∙ c.each-test.true) (taken_reads command_of (in_scope command) none _ _ c.in_ok-rest.ensures.ok.0 _ c.in_ok-rest.ensures.ok.1 c.parse_command.ensures s))

pub returns-in_err-rest : goal.returns-in_err-rest
returns-in_err-rest c = leaves_in _ _ _ _ _ _ c.from_residual.ensures (λ s. loop_stops with_last (in_scope command s) _ s _ (c.each.invariant s) (sym c.other_next.ensures ∙ c.each-test.true) (taken_stops command_of (in_scope command) none _ _ _ c.in_err-rest.ensures.err c.parse_command.ensures s))

pub returns : goal.returns
returns c = λ s. (loop_done with_last (in_scope command s) _ (c.each.invariant s) (sym c.other_next.ensures ∙ c.each-test.false))
