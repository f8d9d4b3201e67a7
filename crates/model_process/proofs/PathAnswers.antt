-- How the judgement of a path ends: before the model is started, or with the verdict.
use Rattle.std.specs.Prelude.{◌≡◌, ◌⊎◌, ℕ, List, [], ◌∷◌, Ok}
use Rattle.std.proofs.Common.{ap, subst, ◌∙◌, inl, inr}
use Rattle.instance_start.specs.Description.{Description}
use Rattle.process_core.specs.Steps.{Process}
use Rattle.row_check.specs.Checks.{ChecksPath}
use Rattle.row_check.specs.declared.data.Verdict.{Verdict}
use Rattle.command_words.specs.Words.{Checking, of_path, words_before_given}
use Rattle.model_process.specs.Claims.{EndsOnClaim, HasVerdict, judged, unstarted}
use Rattle.model_process.specs.Starts.{EndsUnstarted, IsStartable, process_for}
use Rattle.model_process.specs.Verdicts.{judged_ending, verdict_ending}
use Rattle.model_process.specs.declared.ending.Ending.{Ending}
use Rattle.model_process.specs.declared.finding.Finding.{Finding}
use Rattle.model_process.specs.declared.finding.Finding.TheVariants.{Judged, Bounds, NoLabel}

-- the verdict on the path that the file holds, with which it ends
pub record EndsOnPath (p : Process) (path file : List ℕ) (e : Ending) : Type 0 where
  pub verdict : Verdict
  pub checks : ChecksPath p file (Ok verdict)
  pub ends : e ≡ judged_ending (of_path path) verdict

pub path_answer : (d : Description) (k : Checking) (path file : List ℕ) (e : Ending) → k.claim ≡ of_path path → EndsOnClaim d k (file ∷ []) e →
    EndsUnstarted d (words_before_given k) k.given e ⊎ (IsStartable d k.given × EndsOnPath (process_for d k.given) path file e)
path_answer d k path file e is (unstarted u) = inl u
path_answer d k path file e is (judged s v h r) = inr (s, found v (subst (λ c. HasVerdict (process_for d k.given) c (file ∷ []) v) is h) (r ∙ ap (λ c. verdict_ending c v) is))
  where
    found : (v : Finding) → HasVerdict (process_for d k.given) (of_path path) (file ∷ []) v → e ≡ verdict_ending (of_path path) v → EndsOnPath (process_for d k.given) path file e
    found (Judged v) h r = record { verdict = v; checks = h; ends = r }
    found (Bounds v) h r = absurd h
    found NoLabel h r = absurd h
