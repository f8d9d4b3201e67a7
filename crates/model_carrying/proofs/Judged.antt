-- What was written of a carried path, judged by a description that is the counterpart's, under values that give its constants the same.
use Rattle.std.specs.Prelude.{◌≡◌, ◌⊎◌, ◌↔◌, ℕ, zero, suc, List, [], ◌∷◌, false, None, Ok, Err}
use Rattle.std.specs.List.{AllZip}
use Rattle.std.proofs.Common.{refl, sym, subst, ◌∙◌, inl, inr}
use Rattle.basics.specs.Results.{not_ok}
use Rattle.bridge_io.specs.declared.reason.Fault.{Fault}
use Rattle.process_core.specs.Instance.{Valuation, instance_faults, is_wide_instance}
use Rattle.process_core.specs.Steps.{Process}
use Rattle.instance_start.specs.Description.{Constant, Description}
use Rattle.instance_start.specs.Given.{given_by}
use Rattle.row_check.specs.Checks.{ChecksPath}
use Rattle.row_check.specs.Laws.{PathReadOnce}
use Rattle.row_check.specs.declared.data.Verdict.{Verdict}
use Rattle.row_check.specs.declared.data.Verdict.TheVariants.{Yes, No, Wide, TooMany}
use Rattle.path_carry.specs.Kept.{IsSettled, KeepsPath}
use Rattle.command_words.specs.Given.{Assignment}
use Rattle.command_words.specs.Words.{Carrying, Checking, of_path, words_before_given}
use Rattle.model_process.specs.Claims.{BreaksForm, EndsOnClaim, IsOtherFault}
use Rattle.model_process.specs.Constants.{givens, wrong_value}
use Rattle.model_process.specs.Starts.{EndsUnstarted, IsStartable, faulty, process_for, scene_for, unfit, wide}
use Rattle.model_process.specs.Verdicts.{judged_ending}
use Rattle.model_process.specs.declared.ending.Ending.{Ending}
use Rattle.model_process.specs.declared.ending.Ending.TheVariants as E
use Rattle.model_process.proofs.Constants.{none_wrong}
use Rattle.model_process.proofs.PathAnswers.{EndsOnPath, path_answer}
use Rattle.model_carrying.specs.Across.{AreGivenAs, IsAnswer, said_yes}
use Rattle.model_carrying.specs.Counterparts.{Counterpart}
use Rattle.model_carrying.specs.Ends.{ArePairStartable, EndsOnCarry, process_there, valuation_there}
use Rattle.model_carrying.specs.Values.{AreGivenAlike, GoTogether, IsGivenAs, ValuesAreAlike, ValuesFit, values_there}
use Rattle.model_carrying.proofs.Kept.{done_kept, done_started}
use Rattle.model_carrying.proofs.OneValuation.{one_valuation}

-- ---- the verdict behind an answer
pub record HasAnswer (p : Process) (file : List ℕ) (e : Ending) : Type 0 where
  pub verdict : Verdict
  pub checks : ChecksPath p file (Ok verdict)
  pub settled : IsSettled verdict
  pub yes : (verdict ≡ Yes) ↔ (e ≡ said_yes)

by_verdict : (p : Process) (path file : List ℕ) (e : Ending) (v : Verdict) → ChecksPath p file (Ok v) → IsAnswer e → e ≡ judged_ending (of_path path) v → HasAnswer p file e
by_verdict p path file e Yes h a is = record { verdict = Yes; checks = h; settled = tt; yes = (λ i. is, λ i. refl) }
by_verdict p path file e (No why) h a is =
    record { verdict = No why; checks = h; settled = tt; yes = (λ i. absurd (let no : No why ≡ Yes = i in cc), λ i. absurd (let no = sym i ∙ is in cc)) }
by_verdict p path file e (Wide k) h a is = absurd (subst IsAnswer is a)
by_verdict p path file e (TooMany k) h a is = absurd (subst IsAnswer is a)

not_answered : (d : Description) (n : ℕ) (given : List Assignment) (e : Ending) → EndsUnstarted d n given e → IsAnswer e → ⊥
not_answered d n given e (unfit i w is) a = subst IsAnswer is a
not_answered d n given e (wide n' w is) a = subst IsAnswer is a
not_answered d n given e (faulty n' w f is) a = subst IsAnswer is a

pub answered : (d : Description) (k : Checking) (path file : List ℕ) (e : Ending) → k.claim ≡ of_path path → IsAnswer e → EndsOnClaim d k (file ∷ []) e →
    IsStartable d k.given × HasAnswer (process_for d k.given) file e
answered d k path file e is a h = by_answer (path_answer d k path file e is h)
  where
    by_answer : EndsUnstarted d (words_before_given k) k.given e ⊎ (IsStartable d k.given × EndsOnPath (process_for d k.given) path file e) → IsStartable d k.given × HasAnswer (process_for d k.given) file e
    by_answer (inl u) = absurd (not_answered d _ k.given e u a)
    by_answer (inr j) = (j.0, by_verdict (process_for d k.given) path file e j.1.verdict j.1.checks a j.1.ends)

-- ---- what is described of a model and of its translation
-- the values given for the constants of the one, given for those of the other
abbrev pub values_across : Description → Description → List Assignment → Valuation
values_across d e given = given_by (values_there d.constants e.constants (given_by (givens given)))

-- The constants go together, and where the one has no fault, neither has the other.
pub record AreReadAs (d e : Description) : Type 0 where
  pub together : GoTogether d.constants e.constants
  pub sound : (given : List Assignment) → wrong_value d.constants given ≡ None → instance_faults (scene_for d given) ≡ [] → instance_faults (e.scene (values_across d e given)) ≡ []

as_given : (v w : Valuation) (cs ds : List Constant) → AllZip (AreGivenAlike v w) cs ds → AllZip (IsGivenAs v w) cs ds
as_given v w [] [] h = tt
as_given v w [] (d ∷ ds) h = absurd h
as_given v w (c ∷ cs) [] h = absurd h
as_given v w (c ∷ cs) (d ∷ ds) h = (h.0.same, as_given v w cs ds h.1)

module _ (once : PathReadOnce) (fit : ValuesFit) (alike : ValuesAreAlike) (d : Description) (o : Counterpart) (read : AreReadAs d o.description) (c : Carrying) (path written : List ℕ)
    (ends : EndsOnCarry d o c path (E.Done written)) (there : Checking) (given : AreGivenAs d.constants o.description.constants c.given there.given) where
  started : ArePairStartable d o c.given
  started = done_started d o c path written ends

  keeps : KeepsPath (process_for d c.given) (process_there d o c.given) path written
  keeps = done_kept d o c path written ends

  -- the values give each name the same
  same_values : wrong_value o.description.constants there.given ≡ None → given_by (givens there.given) ≡ valuation_there d o c.given
  same_values m =
      let n = none_wrong d.constants c.given started.here.fits in
      let cs = d.constants in
      let ds = o.description.constants in
      let v = given_by (givens c.given) in
      one_valuation cs ds v (givens there.given) (values_there cs ds v) read.together.alike given (as_given v (valuation_there d o c.given) cs ds (alike cs ds (givens c.given) read.together n))
      (none_wrong ds there.given m) (fit cs ds (givens c.given) read.together n)

  pub starts_there : wrong_value o.description.constants there.given ≡ None → IsStartable o.description there.given
  starts_there m = record {
    fits = m;
    narrow = subst (λ v. is_wide_instance (o.description.scene v) ≡ false) (sym (same_values m)) started.there;
    faultless = subst (λ v. instance_faults (o.description.scene v) ≡ []) (sym (same_values m)) (read.sound c.given started.here.fits started.here.faultless);
  }

  pub judged_alike_there : (here : Checking) (a b : List ℕ) → here.claim ≡ of_path a → here.given ≡ c.given → there.claim ≡ of_path b → (x y : Ending) →
      EndsOnClaim d here (path ∷ []) x → EndsOnClaim o.description there (written ∷ []) y → IsAnswer x → IsAnswer y → (x ≡ said_yes) ↔ (y ≡ said_yes)
  judged_alike_there here a b claim same claim_there x y h k ax ay =
      let one = subst (λ g. HasAnswer (process_for d g) path x) same (answered d here a path x claim ax h).1 in
      let answer = answered o.description there b written y claim_there ay k in
      let other = subst (λ v. HasAnswer (o.description.process v) written y) (same_values answer.0.fits) answer.1 in
      let both = keeps.accepted one.verdict other.verdict one.checks other.checks one.settled other.settled in
      (λ i. other.yes.0 (both.0 (one.yes.1 i)), λ i. one.yes.0 (both.1 (other.yes.1 i)))

  pub not_refused_there : (b : List ℕ) → there.claim ≡ of_path b → (i : ℕ) (f : Fault) → IsOtherFault o.description there (written ∷ []) i f → ⊥
  not_refused_there b claim i f h =
      breaks i
      (subst (λ v. BreaksForm (o.description.process v) (of_path b) (written ∷ []) i f) (same_values h.sound.fits)
      (subst (λ k. BreaksForm (process_for o.description there.given) k (written ∷ []) i f) claim h.breaks))
    where
      breaks : (i : ℕ) → BreaksForm (process_there d o c.given) (of_path b) (written ∷ []) i f → ⊥
      breaks zero k = not_ok keeps.path f.at (once (process_there d o c.given) written (Ok keeps.path) (Err f.at) keeps.reads k.1)
      breaks (suc i) k = k
