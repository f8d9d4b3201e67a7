use Rattle.std.proofs.Common.{◌∙◌, sym, []}
use Rattle.prism_lex.specs.declared.token.TokenKind.TheVariants as K
use Rattle.prism_lex.specs.declared.words.Reserved.TheVariants as W
use Rattle.prism_tree.specs.Lang.{with_last}
use Rattle.prism_tree.specs.Grammar.{reward}
use Rattle.prism_tree.specs.Syntax.{item_of}
use Rattle.prism_items.specs.Parts.{in_scope, all_but}
use Rattle.prism_items.proofs.Rewarding.{reward_one, reward_begun}
use Rattle.prism_exprs.proofs.Loops.{reads_shorter}
use Rattle.prism_exprs.proofs.Outer.{leaves_in}
use Rattle.prism_items.specs.Files.{plain}
use Rattle.prism_exprs.specs.Reading.{none}
use Rattle.prism_items.proofs.Leading.{listed, pushed, taken_reads, taken_stops, many_begin, loop_next, loop_stops, loop_done}
use Rattle.prism_items.proofs.rewards.parse_items.Goals as goal

pub each-init : goal.each-init
each-init c = λ s. listed item_of (in_scope reward s) [] _ c.new-items.ensures (many_begin (in_scope reward s) (all_but (K.Word W.Endrewards)) _)

pub each-smaller : goal.each-smaller
each-smaller c = let s = plain in reads_shorter _ (reward_begun s) (taken_reads item_of (in_scope reward) none _ _ c.in_ok-rest.ensures.ok.0 _ c.in_ok-rest.ensures.ok.1 c.parse_reward.ensures s)

pub each-preserved : goal.each-preserved
each-preserved c = λ s. pushed item_of (in_scope reward s) c.each.items _ c.in_ok-rest.ensures.ok.0 c.in_ok-rest.ensures.ok.2 (loop_next with_last (in_scope reward s) _ _ (reward_begun s) (reward_one s) (c.each.invariant s) (sym c.other_next.ensures ∙ c.each-test.true) (taken_reads item_of (in_scope reward) none _ _ c.in_ok-rest.ensures.ok.0 _ c.in_ok-rest.ensures.ok.1 c.parse_reward.ensures s))

pub returns-in_err-rest : goal.returns-in_err-rest
returns-in_err-rest c = leaves_in _ _ _ _ _ _ c.from_residual.ensures (λ s. loop_stops with_last (in_scope reward s) _ s _ (c.each.invariant s) (sym c.other_next.ensures ∙ c.each-test.true) (taken_stops item_of (in_scope reward) none _ _ _ c.in_err-rest.ensures.err c.parse_reward.ensures s))

pub returns : goal.returns
returns c = λ s. (loop_done with_last (in_scope reward s) _ (c.each.invariant s) (sym c.other_next.ensures ∙ c.each-test.false))
