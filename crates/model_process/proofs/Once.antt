-- How a state is shown, a walk ends or a claim is judged is fixed by the bytes of the files and the words.
use Rattle.std.specs.Prelude.{◌≡◌, ℕ, zero, suc, ◌+◌, List, [], ◌∷◌, Option, Some, None, Ok, Err}
use Rattle.std.proofs.Common.{refl, sym, ap, subst, ◌∙◌}
use Rattle.std.proofs.lemmas.Option.{same_Some}
use Rattle.basics.specs.Results.{err_same, not_ok, ok_same}
use Rattle.bridge_io.specs.declared.reason.Fault.{Fault}
use Rattle.process_core.specs.Steps.{Process}
use Rattle.process_core.specs.declared.data.State.{State}
use Rattle.instance_start.specs.Description.{Description}
use Rattle.row_check.specs.Forms.{ReadsPath, ReadsRowsOf, ReadsStates}
use Rattle.row_check.specs.Judging.{Judges}
use Rattle.row_check.specs.Laws.{PathOnce, PathReadOnce, RowsOnce, RowsReadOnce, StatesReadOnce}
use Rattle.row_check.specs.Paths.{JudgesPath}
use Rattle.row_check.specs.Rows.{JudgesRows}
use Rattle.row_check.specs.declared.data.ReadPath.{ReadPath}
use Rattle.row_check.specs.declared.data.Verdict.{Verdict}
use Rattle.row_check.specs.declared.data.Verdict.TheVariants.{Yes, No, Wide, TooMany}
use Rattle.walk_texts.specs.Laws.{OneShown, OneWalkedAlong, OneWalkedBySeed}
use Rattle.walk_texts.specs.declared.report.Report.{Report}
use Rattle.command_words.specs.declared.request.Lang.{Lang}
use Rattle.command_words.specs.declared.request.Lang.TheVariants.{Prism, Jani}
use Rattle.command_words.specs.Given.{Assignment}
use Rattle.command_words.specs.Words.{Checking, Claim, of_path, of_rows, of_bounds, Job, showing, along, seeded, Walking}
use Rattle.prism_instance.specs.Described.{prism_description}
use Rattle.jani_instance.specs.Described.{jani_description}
use Rattle.model_files.proofs.Once.{faulty_or_jani, faulty_or_prism, one_jani_fault, one_jani_tree, one_prism_fault, one_prism_tree, same_parts}
use Rattle.prism_parse.specs.Laws.{OneSyntax}
use Rattle.model_process.specs.Models.{Describes, IsModelFault}
use Rattle.model_process.specs.Starts.{EndsUnstarted, IsStartable, process_for, unfit, wide, faulty}
use Rattle.model_process.specs.Walks.{EndsOnModel, ending_of, IsReport, unstarted, shown}
use Rattle.model_process.specs.Claims.{BreaksForm, EndsOnClaim, HasVerdict, unstarted as claim_unstarted, judged}
use Rattle.model_process.specs.Verdicts.{verdict_ending}
use Rattle.model_process.specs.Once.{ClaimEndOrFault, EndOrFault, OneClaimEnd, OneEnd, OneFileFault, OneModelFault}
use Rattle.value_bound.specs.Laws.{OneAnswer}
use Rattle.model_process.specs.declared.ending.Ending.{Ending}
use Rattle.model_process.specs.declared.finding.Finding.{Finding}
use Rattle.model_process.specs.declared.finding.Finding.TheVariants.{Judged, Bounds, NoLabel}
use Rattle.model_process.proofs.BoundsOnce.{finding_or_break, one_finding, one_place}
use Rattle.model_process.specs.declared.ending.Ending.TheVariants.{Word}

-- ---- the file of the model
one_described : (lang : Lang) (bytes : List ℕ) (d e : Description) → Describes lang bytes d → Describes lang bytes e → d ≡ e
one_described Prism bytes d e (t, h, p) (u, k, q) = p ∙ ap prism_description (one_prism_tree bytes t u h k) ∙ sym q
one_described Jani bytes d e (t, h, p) (u, k, q) = p ∙ ap jani_description (one_jani_tree bytes t u h k) ∙ sym q

described_or_faulty : (lang : Lang) (bytes : List ℕ) (d : Description) (f : Fault) → Describes lang bytes d → IsModelFault lang bytes f → ⊥
described_or_faulty Prism bytes d f (t, h, p) k = faulty_or_prism bytes f t k h
described_or_faulty Jani bytes d f (t, h, p) k = faulty_or_jani bytes f t k h

pub one_model_fault : OneSyntax → OneModelFault
one_model_fault one Prism bytes f g h k = one_prism_fault one bytes f g h k
one_model_fault one Jani bytes f g h k = one_jani_fault bytes f g h k

-- ---- before a model is started
one_unstarted : (d : Description) (before : ℕ) (given : List Assignment) (e g : Ending) → EndsUnstarted d before given e → EndsUnstarted d before given g → e ≡ g
one_unstarted d before given e g (unfit i n p) (unfit j m q) = p ∙ ap (λ k. Word (before + 1 + k)) (same_Some i j (sym n ∙ m)) ∙ sym q
one_unstarted d before given e g (unfit i n p) (wide m w q) = absurd (let x = sym m ∙ n in cc)
one_unstarted d before given e g (unfit i n p) (faulty m w f q) = absurd (let x = sym m ∙ n in cc)
one_unstarted d before given e g (wide n v p) (unfit j m q) = absurd (let x = sym n ∙ m in cc)
one_unstarted d before given e g (wide n v p) (wide m w q) = p ∙ sym q
one_unstarted d before given e g (wide n v p) (faulty m w f q) = absurd (let x = sym w ∙ v in cc)
one_unstarted d before given e g (faulty n v f p) (unfit j m q) = absurd (let x = sym n ∙ m in cc)
one_unstarted d before given e g (faulty n v f p) (wide m w q) = absurd (let x = sym v ∙ w in cc)
one_unstarted d before given e g (faulty n v f p) (faulty m w k q) = p ∙ sym q

not_startable : (d : Description) (before : ℕ) (given : List Assignment) (e : Ending) → EndsUnstarted d before given e → IsStartable d given → ⊥
not_startable d before given e (unfit i n p) s = let x = sym s.fits ∙ n in cc
not_startable d before given e (wide m w p) s = let x = sym s.narrow ∙ w in cc
not_startable d before given e (faulty m w f p) s = f s.faultless

-- ---- one state, and walks
module _ (one_shown : OneShown) (one_along : OneWalkedAlong) (one_seeded : OneWalkedBySeed) where
  one_report : (p : Process) (job : Job) (q r : Report) → IsReport p job q → IsReport p job r → q ≡ r
  one_report p (showing state) q r h k = one_shown p state q r h k
  one_report p (along from pairs) q r h k = one_along p from pairs q r h k
  one_report p (seeded from seed steps) q r h k = one_seeded p from seed steps q r h k

  one_on_model : (d : Description) (w : Walking) (e g : Ending) → EndsOnModel d w e → EndsOnModel d w g → e ≡ g
  one_on_model d w e g (unstarted h) (unstarted k) = one_unstarted d _ w.given e g h k
  one_on_model d w e g (unstarted h) (shown s r k q) = absurd (not_startable d _ w.given e h s)
  one_on_model d w e g (shown s r h p) (unstarted k) = absurd (not_startable d _ w.given g k s)
  one_on_model d w e g (shown s r h p) (shown t u k q) = p ∙ ap (ending_of w.job) (one_report (process_for d w.given) w.job r u h k) ∙ sym q

  pub one_end : OneEnd
  one_end lang w bytes e g (d, h, p) (f, k, q) = one_on_model d w e g p (subst (λ x. EndsOnModel x w g) (one_described lang bytes f d k h) q)

pub end_or_fault : EndOrFault
end_or_fault lang w bytes e f (d, h, p) k = described_or_faulty lang bytes d f h k

-- ---- claims
-- a verdict as what a judgement answers
abbrev answer_of : Verdict → Option Verdict
answer_of Yes = None
answer_of (No why) = Some (No why)
answer_of (Wide k) = Some (Wide k)
answer_of (TooMany k) = Some (TooMany k)

abbrev verdict_of : Option Verdict → Verdict
verdict_of None = Yes
verdict_of (Some v) = v

answered : (A : Option Verdict → Type 0) (v : Verdict) → Judges A v → A (answer_of v)
answered A Yes h = h
answered A (No why) h = h
answered A (Wide k) h = h
answered A (TooMany k) h = h

back : (v : Verdict) → verdict_of (answer_of v) ≡ v
back Yes = refl
back (No why) = refl
back (Wide k) = refl
back (TooMany k) = refl

one_judged : (A : Option Verdict → Type 0) → ((o q : Option Verdict) → A o → A q → o ≡ q) → (v w : Verdict) → Judges A v → Judges A w → v ≡ w
one_judged A once v w h k = sym (back v) ∙ ap verdict_of (once (answer_of v) (answer_of w) (answered A v h) (answered A w k)) ∙ back w

module _ (path_once : PathOnce) (rows_once : RowsOnce) (path_read : PathReadOnce) (states_read : StatesReadOnce) (rows_read : RowsReadOnce) (bounds_once : OneAnswer) where
  one_path : (p : Process) (file : List ℕ) (a b : ReadPath) → ReadsPath p file (Ok a) → ReadsPath p file (Ok b) → b ≡ a
  one_path p file a b h k = ok_same b a (path_read p file (Ok b) (Ok a) k h)

  one_states : (p : Process) (file : List ℕ) (a b : List State) → ReadsStates p file (Ok a) → ReadsStates p file (Ok b) → b ≡ a
  one_states p file a b h k = ok_same b a (states_read p file (Ok b) (Ok a) k h)

  one_verdict : (p : Process) (claim : Claim) (files : List (List ℕ)) (v w : Finding) → HasVerdict p claim files v → HasVerdict p claim files w → v ≡ w
  one_verdict p (of_path path) [] v w h k = absurd h
  one_verdict p (of_path path) (file ∷ []) (Judged v) (Judged w) (a, h, i) (b, k, j) =
      ap Judged (one_judged (JudgesPath p a) (path_once p a) v w i (subst (λ x. Judges (JudgesPath p x) w) (one_path p file a b h k) j))
  one_verdict p (of_path path) (file ∷ []) (Judged v) (Bounds w) h k = absurd k
  one_verdict p (of_path path) (file ∷ []) (Judged v) NoLabel h k = absurd k
  one_verdict p (of_path path) (file ∷ []) (Bounds v) w h k = absurd h
  one_verdict p (of_path path) (file ∷ []) NoLabel w h k = absurd h
  one_verdict p (of_path path) (file ∷ other ∷ files) v w h k = absurd h
  one_verdict p (of_rows states rows) [] v w h k = absurd h
  one_verdict p (of_rows states rows) (first ∷ []) v w h k = absurd h
  one_verdict p (of_rows states rows) (first ∷ second ∷ []) (Judged v) (Judged w) (a, h, i) (b, k, j) =
      let listed : b.states ≡ a.states = one_states p first a.states b.states h.0 k.0 in
      let same : b ≡ a = ok_same b a (rows_read a.states second (Ok b) (Ok a) (subst (λ ss. ReadsRowsOf ss second (Ok b)) listed k.1) h.1) in
      ap Judged (one_judged (JudgesRows p a) (rows_once p a) v w i (subst (λ x. Judges (JudgesRows p x) w) same j))
  one_verdict p (of_rows states rows) (first ∷ second ∷ []) (Judged v) (Bounds w) h k = absurd k
  one_verdict p (of_rows states rows) (first ∷ second ∷ []) (Judged v) NoLabel h k = absurd k
  one_verdict p (of_rows states rows) (first ∷ second ∷ []) (Bounds v) w h k = absurd h
  one_verdict p (of_rows states rows) (first ∷ second ∷ []) NoLabel w h k = absurd h
  one_verdict p (of_rows states rows) (first ∷ second ∷ third ∷ files) v w h k = absurd h
  one_verdict p (of_bounds states rows name bounds) [] v w h k = absurd h
  one_verdict p (of_bounds states rows name bounds) (first ∷ []) v w h k = absurd h
  one_verdict p (of_bounds states rows name bounds) (first ∷ second ∷ []) v w h k = absurd h
  one_verdict p (of_bounds states rows name bounds) (first ∷ second ∷ third ∷ []) v w h k = one_finding bounds_once p states rows name bounds first second third v w h k
  one_verdict p (of_bounds states rows name bounds) (first ∷ second ∷ third ∷ fourth ∷ files) v w h k = absurd h

  one_break : (p : Process) (claim : Claim) (files : List (List ℕ)) (i j : ℕ) (f g : Fault) → BreaksForm p claim files i f → BreaksForm p claim files j g → (i ≡ j) × (f ≡ g)
  one_break p (of_path path) [] i j f g h k = absurd h
  one_break p (of_path path) (file ∷ []) zero zero f g h k = (refl, same_parts f g (err_same f.at g.at (path_read p file (Err f.at) (Err g.at) h.1 k.1)) (h.0 ∙ sym k.0))
  one_break p (of_path path) (file ∷ []) zero (suc j) f g h k = absurd k
  one_break p (of_path path) (file ∷ []) (suc i) j f g h k = absurd h
  one_break p (of_path path) (file ∷ other ∷ files) i j f g h k = absurd h
  one_break p (of_rows states rows) [] i j f g h k = absurd h
  one_break p (of_rows states rows) (first ∷ []) i j f g h k = absurd h
  one_break p (of_rows states rows) (first ∷ second ∷ []) zero zero f g h k =
      (refl, same_parts f g (err_same f.at g.at (states_read p first (Err f.at) (Err g.at) h.1 k.1)) (h.0 ∙ sym k.0))
  one_break p (of_rows states rows) (first ∷ second ∷ []) zero (suc zero) f g h (k, (ss, s, r)) = absurd (not_ok ss f.at (states_read p first (Ok ss) (Err f.at) s h.1))
  one_break p (of_rows states rows) (first ∷ second ∷ []) zero (suc (suc j)) f g h k = absurd k
  one_break p (of_rows states rows) (first ∷ second ∷ []) (suc zero) zero f g (h, (ss, s, r)) k = absurd (not_ok ss g.at (states_read p first (Ok ss) (Err g.at) s k.1))
  one_break p (of_rows states rows) (first ∷ second ∷ []) (suc zero) (suc zero) f g (h, (ss, s, r)) (k, (ts, t, q)) =
      let listed : ts ≡ ss = one_states p first ss ts s t in
      (refl, same_parts f g (err_same f.at g.at (rows_read ss second (Err f.at) (Err g.at) r (subst (λ x. ReadsRowsOf x second (Err g.at)) listed q))) (h ∙ sym k))
  one_break p (of_rows states rows) (first ∷ second ∷ []) (suc zero) (suc (suc j)) f g h k = absurd k
  one_break p (of_rows states rows) (first ∷ second ∷ []) (suc (suc i)) j f g h k = absurd h
  one_break p (of_rows states rows) (first ∷ second ∷ third ∷ files) i j f g h k = absurd h
  one_break p (of_bounds states rows name bounds) [] i j f g h k = absurd h
  one_break p (of_bounds states rows name bounds) (first ∷ []) i j f g h k = absurd h
  one_break p (of_bounds states rows name bounds) (first ∷ second ∷ []) i j f g h k = absurd h
  one_break p (of_bounds states rows name bounds) (first ∷ second ∷ third ∷ []) i j f g h k = one_place bounds_once p states rows name bounds first second third i j f g h k
  one_break p (of_bounds states rows name bounds) (first ∷ second ∷ third ∷ fourth ∷ files) i j f g h k = absurd h

  verdict_or_break : (p : Process) (claim : Claim) (files : List (List ℕ)) (v : Finding) (i : ℕ) (f : Fault) → HasVerdict p claim files v → BreaksForm p claim files i f → ⊥
  verdict_or_break p (of_path path) [] v i f h k = h
  verdict_or_break p (of_path path) (file ∷ []) (Judged v) zero f (a, h, j) k = not_ok a f.at (path_read p file (Ok a) (Err f.at) h k.1)
  verdict_or_break p (of_path path) (file ∷ []) (Judged v) (suc i) f h k = k
  verdict_or_break p (of_path path) (file ∷ []) (Bounds v) i f h k = h
  verdict_or_break p (of_path path) (file ∷ []) NoLabel i f h k = h
  verdict_or_break p (of_path path) (file ∷ other ∷ files) v i f h k = h
  verdict_or_break p (of_rows states rows) [] v i f h k = h
  verdict_or_break p (of_rows states rows) (first ∷ []) v i f h k = h
  verdict_or_break p (of_rows states rows) (first ∷ second ∷ []) (Judged v) zero f (a, h, j) k = not_ok a.states f.at (states_read p first (Ok a.states) (Err f.at) h.0 k.1)
  verdict_or_break p (of_rows states rows) (first ∷ second ∷ []) (Judged v) (suc zero) f (a, h, j) (k, (ss, s, r)) =
      let listed : ss ≡ a.states = one_states p first a.states ss h.0 s in
      not_ok a f.at (rows_read a.states second (Ok a) (Err f.at) h.1 (subst (λ x. ReadsRowsOf x second (Err f.at)) listed r))
  verdict_or_break p (of_rows states rows) (first ∷ second ∷ []) (Judged v) (suc (suc i)) f h k = k
  verdict_or_break p (of_rows states rows) (first ∷ second ∷ []) (Bounds v) i f h k = h
  verdict_or_break p (of_rows states rows) (first ∷ second ∷ []) NoLabel i f h k = h
  verdict_or_break p (of_rows states rows) (first ∷ second ∷ third ∷ files) v i f h k = h
  verdict_or_break p (of_bounds states rows name bounds) [] v i f h k = h
  verdict_or_break p (of_bounds states rows name bounds) (first ∷ []) v i f h k = h
  verdict_or_break p (of_bounds states rows name bounds) (first ∷ second ∷ []) v i f h k = h
  verdict_or_break p (of_bounds states rows name bounds) (first ∷ second ∷ third ∷ []) v i f h k = finding_or_break bounds_once p states rows name bounds first second third v i f h k
  verdict_or_break p (of_bounds states rows name bounds) (first ∷ second ∷ third ∷ fourth ∷ files) v i f h k = h

  one_on_claim : (d : Description) (c : Checking) (others : List (List ℕ)) (e g : Ending) → EndsOnClaim d c others e → EndsOnClaim d c others g → e ≡ g
  one_on_claim d c others e g (claim_unstarted h) (claim_unstarted k) = one_unstarted d _ c.given e g h k
  one_on_claim d c others e g (claim_unstarted h) (judged s v k q) = absurd (not_startable d _ c.given e h s)
  one_on_claim d c others e g (judged s v h p) (claim_unstarted k) = absurd (not_startable d _ c.given g k s)
  one_on_claim d c others e g (judged s v h p) (judged t w k q) = p ∙ ap (verdict_ending c.claim) (one_verdict (process_for d c.given) c.claim others v w h k) ∙ sym q

  pub one_claim_end : OneClaimEnd
  one_claim_end c [] e g h k = absurd h
  one_claim_end c (model ∷ others) e g (d, h, p) (f, k, q) = one_on_claim d c others e g p (subst (λ x. EndsOnClaim x c others g) (one_described c.lang model f d k h) q)

  pub one_file_fault : OneSyntax → OneFileFault
  one_file_fault one c [] i j f g h k = absurd h
  one_file_fault one c (model ∷ others) zero zero f g h k = (refl, one_model_fault one c.lang model f g h k)
  one_file_fault one c (model ∷ others) zero (suc j) f g h (d, k, q) = absurd (described_or_faulty c.lang model d f k h)
  one_file_fault one c (model ∷ others) (suc i) zero f g (d, h, p) k = absurd (described_or_faulty c.lang model d g h k)
  one_file_fault one c (model ∷ others) (suc i) (suc j) f g (d, h, p) (e, k, q) =
      let same = one_break (process_for d c.given) c.claim others i j f g p.breaks (subst (λ x. BreaksForm (process_for x c.given) c.claim others j g) (one_described c.lang model e d k h) q.breaks) in
      (ap suc same.0, same.1)

  ended_or_break : (d : Description) (c : Checking) (others : List (List ℕ)) (e : Ending) (i : ℕ) (f : Fault) → EndsOnClaim d c others e → IsStartable d c.given →
      BreaksForm (process_for d c.given) c.claim others i f → ⊥
  ended_or_break d c others e i f (claim_unstarted h) s b = not_startable d _ c.given e h s
  ended_or_break d c others e i f (judged t v h p) s b = verdict_or_break (process_for d c.given) c.claim others v i f h b

  pub claim_end_or_fault : ClaimEndOrFault
  claim_end_or_fault c [] e i f h k = h
  claim_end_or_fault c (model ∷ others) e zero f (d, h, p) k = described_or_faulty c.lang model d f h k
  claim_end_or_fault c (model ∷ others) e (suc i) f (d, h, p) (x, k, q) =
      ended_or_break x c others e i f (subst (λ y. EndsOnClaim y c others e) (one_described c.lang model d x h k) p) q.sound q.breaks
