-- Branches are merged alike with their rewards and without them.
use Rattle.std.proofs.Common.{◌≡◌, List, [], ◌∷◌, map, Bool, true, false, not, Option, Some, None, Result, Ok, Err, refl, sym, ap, ap₂, ◌∙◌, subst}
use Rattle.std.specs.Prelude.{if◌then◌else◌}
use Rattle.std.specs.List.{filter, list_any}
use Rattle.std.proofs.Math.Path.{fun_ext}
use Rattle.frac_core.specs.Fraction.{Fraction, nought, same_number}
use Rattle.frac_core.specs.Sums.{total}
use Rattle.process_core.specs.Bounds.{has_wide_sum}
use Rattle.process_core.specs.Equal.{equal_states}
use Rattle.process_core.specs.Merged.{branches_to, is_merging_wide, merged, weights_to}
use Rattle.process_core.specs.Process.{Branch}
use Rattle.process_core.specs.Ready.{Name, Sum, Values, firsts}
use Rattle.process_core.specs.declared.data.State.{State}
use Rattle.process_core.specs.declared.data.StepFail.{StepFail}
use Rattle.process_core.specs.declared.data.StepFail.TheVariants.{Memory, Wide, TooMany}
use Rattle.state_choices.specs.Open.{open_branch}
use Rattle.state_choices.specs.declared.open.OpenBranch.{OpenBranch}
use Rattle.row_check.specs.declared.merging.MergedChoice as code
use Rattle.row_check.specs.Merging.{HoldsBranches, is_unlisted}
use Rattle.row_check.specs.Walked.{MergesOne, bare_branch}

module _ (s : Values) (rewards : List Sum) where
  targets_alike : (bs : List OpenBranch) → map (λ (b : Branch Fraction Values). b.target) (map (bare_branch s) bs) ≡ map (λ (b : Branch Fraction Values). b.target) (map (open_branch s rewards) bs)
  targets_alike [] = refl
  targets_alike (b ∷ bs) = ap (λ l. (bare_branch s b).target ∷ l) (targets_alike bs)

  weights_alike : (t : Values) (bs : List OpenBranch) → weights_to equal_states t (map (bare_branch s) bs) ≡ weights_to equal_states t (map (open_branch s rewards) bs)
  weights_alike t [] = refl
  weights_alike t (b ∷ bs) = by_test (equal_states t (bare_branch s b).target) (weights_alike t bs)
    where
      by_test : (c : Bool) → weights_to equal_states t (map (bare_branch s) bs) ≡ weights_to equal_states t (map (open_branch s rewards) bs) →
          map (λ (b : Branch Fraction Values). b.probability) (if c then bare_branch s b ∷ filter (λ b. equal_states t b.target) (map (bare_branch s) bs) else filter (λ b. equal_states t b.target) (map (bare_branch s) bs))
          ≡ map (λ (b : Branch Fraction Values). b.probability) (if c then open_branch s rewards b ∷ filter (λ b. equal_states t b.target) (map (open_branch s rewards) bs) else filter (λ b. equal_states t b.target) (map (open_branch s rewards) bs))
      by_test true ih = ap (λ l. b.weight ∷ l) ih
      by_test false ih = ih

  pub merged_alike : (bs : List OpenBranch) → merged equal_states (map (bare_branch s) bs) ≡ merged equal_states (map (open_branch s rewards) bs)
  merged_alike bs =
      ap₂ (λ (w : Values → List Fraction) ts. filter (λ b. not (same_number b.probability nought)) (branches_to (λ t. total (w t)) (firsts equal_states ts)))
      (fun_ext (λ (t : Values). weights_alike t bs)) (targets_alike bs)

  pub wide_alike : (bs : List OpenBranch) → is_merging_wide equal_states (map (bare_branch s) bs) ≡ is_merging_wide equal_states (map (open_branch s rewards) bs)
  wide_alike bs =
      ap₂ (λ (w : Values → List Fraction) ts. list_any (λ t. has_wide_sum (w t)) (firsts equal_states ts))
      (fun_ext (λ (t : Values). weights_alike t bs)) (targets_alike bs)

  module _ (ss : List State) (label : Option Name) (bs : List OpenBranch) where
    pub merges_alike : (r : Result (Option code.MergedChoice) StepFail) → MergesOne ss (record { label = label; branches = map (bare_branch s) bs }) r →
        MergesOne ss (record { label = label; branches = map (open_branch s rewards) bs }) r
    merges_alike (Ok None) h = (sym (wide_alike bs) ∙ h.0, sym (ap (list_any (is_unlisted ss)) (merged_alike bs)) ∙ h.1)
    merges_alike (Ok (Some m)) h = (sym (wide_alike bs) ∙ h.0, subst (λ l. HoldsBranches ss label l m) (merged_alike bs) h.1)
    merges_alike (Err Wide) h = sym (wide_alike bs) ∙ h
    merges_alike (Err TooMany) h = h
    merges_alike (Err (Memory e)) h = tt
