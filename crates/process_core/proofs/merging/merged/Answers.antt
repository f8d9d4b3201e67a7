use Rattle.std.proofs.Common.{◌≡◌, sym, ap, ◌∙◌, map, take, drop, ◌+◌, rules, take_all, not, subst, List}
use Rattle.std.proofs.lemmas.Fn.{filter_same}
use Rattle.frac_core.specs.Fraction.{same_number, nought}
use Rattle.process_core.specs.declared.data.Branch.{Branch}
use Rattle.process_core.specs.Equal.{equal_states}
use Rattle.process_core.specs.Merged.{merged}
use Rattle.process_core.specs.Seen.{seen_branch}
use Rattle.process_core.specs.Merging.{IsSummed}
use Rattle.process_core.specs.Answers.{handed_on}
use Rattle.process_core.proofs.Adding.{fails_as, parted, so_far, ends, ends_narrow}
use Rattle.process_core.proofs.merging.merged.Goals as goal

pub returns-in_err-add_branch : goal.returns-in_err-add_branch
returns-in_err-add_branch c =
    let xs = c.as_slice-branch-items.result.now in
    let i = c.loop-branch.branch-index in
    let b = c.branch-item.result in
    let f = c.in_err-add_branch.field-0.0 in
    let Is = λ (r : List Branch). map seen_branch r ≡ merged equal_states (map seen_branch c.args.branches.now) in
    handed_on _ Is f c.from_residual.result c.from_residual.ensures.1
    (fails_as (map seen_branch (take i xs)) (map seen_branch (drop (i + 1) xs)) _ (seen_branch b) (map seen_branch c.loop-branch.sums.items) (map seen_branch c.add_branch.new.sums.items) f
    c.loop-branch.invariant.summed (c.in_err-add_branch.ensures.sums (map seen_branch (take i xs)))
    (ap (map seen_branch) (sym c.as_slice-branch-items.ensures) ∙ parted seen_branch xs i b c.loop-branch-test.true c.branch-item.is))

pub returns : goal.returns
returns c =
    let xs = c.as_slice-branch-items.result.now in
    let i = c.loop-branch.branch-index in
    let whole : map seen_branch (take i xs) ≡ map seen_branch c.args.branches.now = ap (map seen_branch) (take_all i xs c.loop-branch-test.false ∙ c.as_slice-branch-items.ensures) in
    let h = subst (λ l. IsSummed l (map seen_branch c.loop-branch.sums.items)) whole c.loop-branch.invariant.summed in (
      ends_narrow _ _ h,
      ends seen_branch _ c.loop-branch.sums.items c.from_vec.result h
          (c.from_vec.ensures ∙ filter_same _ (λ b. not (same_number b.weight nought)) _ (λ x b f' k. search rules) _ _ c.retain.ensures.filtered),
    )

pub loop-branch-preserved : goal.loop-branch-preserved
loop-branch-preserved c =
    let xs = c.as_slice-branch-items.result.now in
    let i = c.loop-branch.branch-index in record {
      summed =
          subst (λ l. IsSummed l (map seen_branch c.add_branch.new.sums.items))
          (sym (so_far seen_branch xs i c.branch-item.result c.loop-branch-test.true c.branch-item.is))
          (c.in_ok-add_branch.ensures.sums (map seen_branch (take i xs)) c.loop-branch.invariant.summed);
      index = c.in_ok-add_branch.ensures.index;
    }

pub add_branch-requires : goal.add_branch-requires
add_branch-requires c = c.loop-branch.invariant.index
