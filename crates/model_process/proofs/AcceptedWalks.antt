-- Where a walk comes to its end, what is written of it is accepted.
use Rattle.std.specs.Prelude.{◌↔◌, IsTrue}
use Rattle.std.specs.Option.{MatchOption}
use Rattle.std.proofs.Common.{◌≡◌, ℕ, List, [], ◌∷◌, false, Some, Ok, refl, sym, subst}
use Rattle.process_core.specs.Ready.{Values}
use Rattle.process_core.specs.Steps.{IsProcess, Process}
use Rattle.process_texts.specs.Laws.{StateReadsBack}
use Rattle.prism_print.specs.Laws.{SpelledIsPrintable}
use Rattle.row_check.specs.declared.data.Verdict.TheVariants.{Yes}
use Rattle.row_check.specs.Checks.{ChecksPath}
use Rattle.row_check.specs.Laws.{PathYes}
use Rattle.walk_texts.specs.Jobs.{IsWalkAlong, IsWalkBySeed}
use Rattle.walk_texts.specs.declared.report.Report.{Report}
use Rattle.walk_texts.specs.declared.report.Report.TheVariants as R
use Rattle.instance_start.specs.Description.{Description}
use Rattle.prism_instance.specs.Described.{DescribedAlike}
use Rattle.short_names.specs.Laws.{JaniLabelsAreTexts, JaniNamesAreShort, PrismNamesAreShort}
use Rattle.command_words.specs.declared.request.Lang.{Lang}
use Rattle.command_words.specs.declared.request.Lang.TheVariants.{Prism, Jani}
use Rattle.command_words.specs.Given.{Assignment}
use Rattle.command_words.specs.Words.{Job, showing, along, seeded, Claim, words_before}
use Rattle.model_process.specs.declared.ending.Ending.TheVariants.{Done}
use Rattle.model_process.specs.declared.finding.Finding.TheVariants.{Judged}
use Rattle.model_process.specs.Models.{Describes}
use Rattle.model_process.specs.Once.{ClaimEndOrFault, OneClaimEnd}
use Rattle.model_process.specs.Starts.{EndsUnstarted, unfit, wide, faulty, IsStartable, process_for}
use Rattle.model_process.specs.Walks.{IsReport, ending_of, unstarted as begun_not, shown}
use Rattle.model_process.specs.Claims.{HasVerdict, judged}
use Rattle.model_process.specs.WrittenPaths.{IsWalk, WalksEndWithYes, WalksAreNotRefused, WalksAreAccepted}
use Rattle.model_process.proofs.JaniProcess.{jani_readable}
use Rattle.model_process.proofs.PrismProcess.{prism_readable}
use Rattle.model_process.proofs.Lawful.{described_is_process}
use Rattle.model_process.proofs.ReadableProcess.{IsReadableProcess}
use Rattle.model_process.proofs.WalkVerdicts.{along_takes, seeded_takes, walked_checks}

-- an end before the start
not_done : (d : Description) (n : ℕ) (g : List Assignment) (text : List ℕ) → EndsUnstarted d n g (Done text) → ⊥
not_done d n g text (unfit i a e) = cc
not_done d n g text (wide a b e) = cc
not_done d n g text (faulty a b m e) = cc

-- where a process has a first state, the test of that is not wide
first_narrow : (p : Process) → IsProcess p → (f : Values) → p.first ≡ Some f → p.has_wide_initial f ≡ false
first_narrow p is f e =
    let known : (s : Values) → (IsTrue (p.is_initial s) ↔ (s ≡ f)) × (p.has_wide_initial s ≡ false) =
    subst (λ o. MatchOption o (Unit {0}) (λ g. (s : Values) → (IsTrue (p.is_initial s) ↔ (s ≡ g)) × (p.has_wide_initial s ≡ false))) e is.first in
    (known f).1

module _ (printable : SpelledIsPrintable) (prism_short : PrismNamesAreShort) (alike : DescribedAlike) (jani_short : JaniNamesAreShort) (texts : JaniLabelsAreTexts) where
  readable : (lang : Lang) (bytes : List ℕ) (d : Description) → Describes lang bytes d → (g : List Assignment) → IsStartable d g → IsReadableProcess (process_for d g)
  readable Prism bytes d (tree, ok, e) g s =
      subst (λ x. IsReadableProcess (process_for x g)) (sym e) (prism_readable printable alike bytes tree ok prism_short g (subst (λ x. IsStartable x g) e s))
  readable Jani bytes d (tree, ok, e) g s =
      subst (λ x. IsReadableProcess (process_for x g)) (sym e) (jani_readable jani_short bytes tree ok texts g (subst (λ x. IsStartable x g) e s))

  module _ (back : StateReadsBack) (right : PathYes) where
    job_checks : (p : Process) → IsReadableProcess p → ((f : Values) → p.first ≡ Some f → p.has_wide_initial f ≡ false) → (text : List ℕ) (j : Job) (r : Report) → IsWalk j → IsReport p j r → Done text ≡ ending_of j r →
        ChecksPath p text (Ok Yes)
    job_checks p k first text (showing state) r i h e = absurd i
    job_checks p k first text (along from pairs) (R.Done t) i h e =
        subst (λ u. ChecksPath p u (Ok Yes)) (let same : t ≡ text = cc in same) (walked_checks back right p k first (IsWalkAlong p pairs) (along_takes p pairs) from t h)
    job_checks p k first text (along from pairs) (R.Stopped t l) i h e = absurd cc
    job_checks p k first text (along from pairs) R.NoStart i h e = absurd cc
    job_checks p k first text (along from pairs) (R.Excess t l) i h e = absurd cc
    job_checks p k first text (seeded from seed steps) (R.Done t) i h e =
        subst (λ u. ChecksPath p u (Ok Yes)) (let same : t ≡ text = cc in same) (walked_checks back right p k first (IsWalkBySeed p seed steps) (seeded_takes p seed steps) from t h)
    job_checks p k first text (seeded from seed steps) (R.Stopped t l) i h e = absurd cc
    job_checks p k first text (seeded from seed steps) R.NoStart i h e = absurd cc
    job_checks p k first text (seeded from seed steps) (R.Excess t l) i h e = absurd cc

    pub walks_end_with_yes : WalksEndWithYes
    walks_end_with_yes bytes text path w c ask (d, h, begun_not u) = absurd (not_done d (words_before w) w.given text u)
    walks_end_with_yes bytes text path w c ask (d, h, shown s r report e) =
        let p = process_for d w.given in
        let checks = job_checks p (readable w.lang bytes d h w.given s) (first_narrow p (described_is_process printable alike jani_short w.lang bytes d w.given h s)) text w.job r ask.walk report e in
        let verdict : HasVerdict (process_for d c.given) c.claim (text ∷ []) (Judged Yes) =
        subst (λ g. HasVerdict (process_for d g) c.claim (text ∷ []) (Judged Yes)) (sym ask.constants) (subst (λ (x : Claim). HasVerdict p x (text ∷ []) (Judged Yes)) (sym ask.claim) checks) in
        (d, subst (λ l. Describes l bytes d) (sym ask.language) h, judged (subst (IsStartable d) (sym ask.constants) s) (Judged Yes) verdict refl)

    pub walks_are_not_refused : ClaimEndOrFault → WalksAreNotRefused
    walks_are_not_refused either bytes text path w c i f ask h k = either c (bytes ∷ text ∷ []) _ i f (walks_end_with_yes bytes text path w c ask h) k

    pub walks_accepted : OneClaimEnd → WalksAreAccepted
    walks_accepted one bytes text path d w c e h ask ends claim =
        one c (bytes ∷ text ∷ []) e _ (d, subst (λ l. Describes l bytes d) (sym ask.language) h, claim) (walks_end_with_yes bytes text path w c ask (d, h, ends))
