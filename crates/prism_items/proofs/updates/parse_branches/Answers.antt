use Rattle.std.proofs.Common.{◌∙◌, sym, ap, List, [], ◌∷◌, ◌++◌}
use Rattle.prism_tree.specs.Lang.{with_last}
use Rattle.prism_tree.specs.Grammar.{weighted}
use Rattle.prism_tree.specs.Syntax.{branch_of}
use Rattle.prism_exprs.proofs.Choice.{folding_word}
use Rattle.prism_items.specs.Parts.{in_scope, writes_on, further_branch, several_branches, branches_on}
use Rattle.prism_items.proofs.Leading.{begin, step_to, halt_at}
use Rattle.prism_items.proofs.Updating.{weighted_one}
use Rattle.prism_exprs.proofs.Loops.{reads_shorter}
use Rattle.prism_exprs.proofs.Outer.{leaves_in}
use Rattle.prism_items.specs.Files.{plain}
use Rattle.prism_items.proofs.Updating.{further_branch_opens, branches_follow, branch_next, branch_stops, branches_done}
use Rattle.prism_items.proofs.Leading.{listed, pushed, taken_reads, taken_stops}
use Rattle.prism_items.proofs.updates.parse_branches.Goals as goal

pub returns-in_err-rest : goal.returns-in_err-rest
returns-in_err-rest c = leaves_in _ _ _ _ _ _ c.from_residual.ensures (λ s. halt_at _ _ s (begin (in_scope several_branches s) branches_on _) (λ _. folding_word with_last _ _) (branches_follow s) _ (taken_stops branch_of (in_scope weighted) writes_on _ _ _ c.in_err-rest.ensures.err c.parse_weighted.ensures s))

pub each-init : goal.each-init
each-init c = record { leads = λ s. listed branch_of (in_scope further_branch s) (c.in_ok-rest.ensures.ok.0 ∷ []) _ (c.in_ok-rest.ensures.ok.2 ∙ ap (λ (u : List _). u ++ c.in_ok-rest.ensures.ok.0 ∷ []) c.new-branches.ensures) (step_to _ _ (begin (in_scope several_branches s) branches_on _) (weighted_one s) (branches_follow s) (taken_reads branch_of (in_scope weighted) writes_on _ _ c.in_ok-rest.ensures.ok.0 _ c.in_ok-rest.ensures.ok.1 c.parse_weighted.ensures s)); ends = (taken_reads branch_of (in_scope weighted) writes_on _ _ c.in_ok-rest.ensures.ok.0 _ c.in_ok-rest.ensures.ok.1 c.parse_weighted.ensures plain).ends }

pub each-smaller : goal.each-smaller
each-smaller c = let s = plain in reads_shorter _ (further_branch_opens s) (taken_reads branch_of (in_scope further_branch) writes_on _ _ c.in_ok-rest-2.ensures.ok.0 _ c.in_ok-rest-2.ensures.ok.1 c.parse_further_branch.ensures s)

pub each-preserved : goal.each-preserved
each-preserved c = record { leads = λ s. pushed branch_of (in_scope further_branch s) c.each.branches _ c.in_ok-rest-2.ensures.ok.0 c.in_ok-rest-2.ensures.ok.2 (branch_next s _ _ (c.each.invariant.leads s) (sym c.symbol_next.ensures ∙ c.each-test.true) (taken_reads branch_of (in_scope further_branch) writes_on _ _ c.in_ok-rest-2.ensures.ok.0 _ c.in_ok-rest-2.ensures.ok.1 c.parse_further_branch.ensures s)); ends = (taken_reads branch_of (in_scope further_branch) writes_on _ _ c.in_ok-rest-2.ensures.ok.0 _ c.in_ok-rest-2.ensures.ok.1 c.parse_further_branch.ensures plain).ends }

pub returns-in_err-rest-2 : goal.returns-in_err-rest-2
returns-in_err-rest-2 c = leaves_in _ _ _ _ _ _ c.from_residual-in_err-rest-2.ensures (λ s. branch_stops s _ _ (c.each.invariant.leads s) (sym c.symbol_next.ensures ∙ c.each-test.true) (taken_stops branch_of (in_scope further_branch) writes_on _ _ _ c.in_err-rest-2.ensures.err c.parse_further_branch.ensures s))

pub returns : goal.returns
returns c = λ s. branches_done s _ (c.each.invariant.leads s) (sym c.symbol_next.ensures ∙ c.each-test.false) c.each.invariant.ends
