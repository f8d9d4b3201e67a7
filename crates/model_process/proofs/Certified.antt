-- What a right claim on bounds certifies.
use Rattle.std.proofs.Common.{◌≡◌, ℕ, List, [], ◌∷◌, refl}
use Rattle.process_core.specs.Steps.{Process}
use Rattle.instance_start.specs.Description.{Description}
use Rattle.command_words.specs.Given.{Assignment}
use Rattle.command_words.specs.Words.{Claim, of_path, of_rows, of_bounds}
use Rattle.row_check.specs.declared.data.Verdict.TheVariants as V
use Rattle.value_bound.specs.declared.data.BoundVerdict.{BoundVerdict}
use Rattle.value_bound.specs.declared.data.BoundVerdict.TheVariants.{Yes, Rows, Undefined, Over, Wide}
use Rattle.model_process.specs.Starts.{EndsUnstarted, process_for, unfit, wide, faulty}
use Rattle.model_process.specs.Claims.{EndsOnClaim, HasVerdict, unstarted, judged}
use Rattle.model_process.specs.Certified.{Certifies, CertifiesClaim, RightCertifies}
use Rattle.model_process.specs.Verdicts.{verdict_ending}
use Rattle.model_process.specs.declared.ending.Ending.TheVariants.{Done}
use Rattle.model_process.specs.declared.finding.Finding.{Finding}
use Rattle.model_process.specs.declared.finding.Finding.TheVariants.{Judged, Bounds, NoLabel}

not_unstarted : (d : Description) (before : ℕ) (given : List Assignment) (text : List ℕ) → EndsUnstarted d before given (Done text) → ⊥
not_unstarted d before given text (unfit i n p) = cc
not_unstarted d before given text (wide n w p) = cc
not_unstarted d before given text (faulty n w f p) = cc

module _ (p : Process) (states rows name bounds : List ℕ) where
  -- of all that may be found of bounds only yes ends so
  of_verdict : (v : BoundVerdict) (first second third text : List ℕ) → HasVerdict p (of_bounds states rows name bounds) (first ∷ second ∷ third ∷ []) (Bounds v) →
      Done text ≡ verdict_ending (of_bounds states rows name bounds) (Bounds v) → CertifiesClaim p (of_bounds states rows name bounds) (first ∷ second ∷ third ∷ [])
  of_verdict Yes first second third text (label, named, checked, certified) e = (label, named, certified refl)
  of_verdict (Rows V.Yes) first second third text (label, named, (r, bs, files, values, judges), certified) e = absurd (judges.0 refl)
  of_verdict (Rows (V.No why)) first second third text h e = absurd cc
  of_verdict (Rows (V.Wide k)) first second third text h e = absurd cc
  of_verdict (Rows (V.TooMany k)) first second third text h e = absurd cc
  of_verdict (Undefined i) first second third text h e = absurd cc
  of_verdict (Over i) first second third text h e = absurd cc
  of_verdict (Wide i) first second third text h e = absurd cc

  of_finding : (v : Finding) (files : List (List ℕ)) (text : List ℕ) → HasVerdict p (of_bounds states rows name bounds) files v →
      Done text ≡ verdict_ending (of_bounds states rows name bounds) v → CertifiesClaim p (of_bounds states rows name bounds) files
  of_finding v [] text h e = absurd h
  of_finding v (first ∷ []) text h e = absurd h
  of_finding v (first ∷ second ∷ []) text h e = absurd h
  of_finding (Judged v) (first ∷ second ∷ third ∷ []) text h e = absurd h
  of_finding (Bounds v) (first ∷ second ∷ third ∷ []) text h e = of_verdict v first second third text h e
  of_finding NoLabel (first ∷ second ∷ third ∷ []) text h e = absurd cc
  of_finding v (first ∷ second ∷ third ∷ fourth ∷ files) text h e = absurd h

of_claim : (p : Process) (claim : Claim) (v : Finding) (files : List (List ℕ)) (text : List ℕ) → HasVerdict p claim files v → Done text ≡ verdict_ending claim v → CertifiesClaim p claim files
of_claim p (of_path path) v files text h e = tt
of_claim p (of_rows states rows) v files text h e = tt
of_claim p (of_bounds states rows name bounds) v files text h e = of_finding p states rows name bounds v files text h e

pub right_certifies : RightCertifies
right_certifies c [] text h = h
right_certifies c (model ∷ others) text (d, is, ends) = by_end ends
  where
    by_end : EndsOnClaim d c others (Done text) → Certifies c (model ∷ others)
    by_end (unstarted h) = absurd (not_unstarted d _ c.given text h)
    by_end (judged sound v h e) = (d, is, sound, of_claim (process_for d c.given) c.claim v others text h e)
