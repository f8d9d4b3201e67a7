-- How a model and its counterpart begin, from what starting each answers.
use Rattle.std.proofs.Common.{◌≡◌, ◌∙◌, refl, sym, ap, ap₂, subst, ℕ, List, [], None, Bool, true, false, ◌||◌}
use Rattle.std.specs.Prelude.{◌≢◌, Result, Ok, Err, IfOk}
use Rattle.process_core.specs.Instance.{is_wide_instance, instance_faults}
use Rattle.process_core.specs.Steps.{Process}
use Rattle.process_core.specs.declared.data.StartFail.{StartFail}
use Rattle.process_core.specs.declared.data.StartFail.TheVariants.{Memory, Wide, Word, Faults}
use Rattle.process_core.specs.declared.data.Given.{Given}
use Rattle.instance_start.specs.Description.{Description}
use Rattle.instance_start.specs.Given.{given_by, misfit}
use Rattle.instance_start.specs.Started.{FailsToStart, IsStarted}
use Rattle.command_words.specs.Words.{Carrying}
use Rattle.model_process.specs.Constants.{good_front, wrong_value}
use Rattle.model_process.specs.Starts.{EndsUnstarted, IsStartable, process_for, scene_for}
use Rattle.model_process.specs.Starts as S
use Rattle.model_process.specs.declared.ending.Ending.{Ending}
use Rattle.model_process.specs.declared.ending.Ending.TheVariants as E
use Rattle.model_process.specs.declared.starting.Unstarted.{Unstarted}
use Rattle.model_process.specs.declared.starting.Unstarted.TheVariants as U
use Rattle.carry_maps.specs.declared.map.CarryMap.{CarryMap}
use Rattle.model_carrying.specs.Counterparts.{Counterpart}
use Rattle.model_carrying.specs.Ends.{EndsOnCarry, scene_there, unfit, wide, faulty}
use Rattle.model_carrying.specs.Pairs.{ArePaired, BeginsBoth, EndsWide, FailsBehind, MayBothToJani, MayBothToPrism, MayMeetToJani, MayMeetToPrism, StartsThere, WideUnlessMemory}
use Rattle.model_carrying.specs.Values.{values_there}
use Rattle.model_carrying.proofs.Fitting.{all_before}

module _ {I J : Type 0} (here : I → Process) (there : J → Process) (d : Description) (o : Counterpart) (c : Carrying) (pair : ArePaired d o c.given) where
  -- what the counterpart is given, by what the model is given
  abbrev given_there : List Given → List Given
  given_there gs = values_there d.constants o.description.constants (given_by gs)

  narrow_there : wrong_value d.constants c.given ≡ None → is_wide_instance (o.description.scene (given_by (given_there (good_front c.given)))) ≡ false → is_wide_instance (scene_there d o c.given) ≡ false
  narrow_there n h = subst (λ gs. is_wide_instance (o.description.scene (given_by (given_there gs))) ≡ false) (all_before d.constants c.given n) h

  wide_there : wrong_value d.constants c.given ≡ None → is_wide_instance (o.description.scene (given_by (given_there (good_front c.given)))) ≡ true → is_wide_instance (scene_there d o c.given) ≡ true
  wide_there n h = subst (λ gs. is_wide_instance (o.description.scene (given_by (given_there gs))) ≡ true) (all_before d.constants c.given n) h

  fits_there : wrong_value d.constants c.given ≡ None → misfit o.description.constants (given_there (good_front c.given)) ≡ None
  fits_there n = subst (λ gs. misfit o.description.constants (given_there gs) ≡ None) (sym (all_before d.constants c.given n)) (pair.fits n)

  -- both are started
  pub both_started : (i : I) (j : J) → IsStartable d c.given × (here i ≡ process_for d c.given) → IsStarted o.description (given_there (good_front c.given)) (there j) → BeginsBoth here there d o c (Ok (i, j))
  both_started i j h k = (
    record { here = h.0; there = narrow_there h.0.fits k.narrow },
    h.1,
    k.process ∙ ap (λ gs. o.description.process (given_by (given_there gs))) (all_before d.constants c.given h.0.fits),
  )

  -- something is wide there, where the model hasn't been started for faults, or would be started
  wide_ends : wrong_value d.constants c.given ≡ None → is_wide_instance (scene_there d o c.given) ≡ true → (b : Bool) → is_wide_instance (scene_for d c.given) ≡ b → (u : Unstarted) → EndsWide u → BeginsBoth here there d o c (Err u)
  wide_ends n w b e (U.Memory x) h = tt
  wide_ends n w false e (U.Ended x) h = λ path. wide n (ap₂ (λ p q. p || q) e w) h
  wide_ends n w true e (U.Ended x) h = λ path. wide n (ap₂ (λ p q. p || q) e w) h

  pub there_fails : (f : StartFail) (u : Unstarted) → IsStartable d c.given → FailsToStart o.description (given_there (good_front c.given)) f → WideUnlessMemory f u → BeginsBoth here there d o c (Err u)
  there_fails (Memory e) u s k h = subst (λ x. BeginsBoth here there d o c (Err x)) (sym h) tt
  there_fails (Word i) u s k h = absurd (let n = sym (fits_there s.fits) ∙ k in cc)
  there_fails Wide u s k h = wide_ends s.fits (wide_there s.fits k.1) false s.narrow u h
  there_fails (Faults fs) u s k h =
      absurd (k.1.1 (subst (λ gs. instance_faults (o.description.scene (given_by (given_there gs))) ≡ []) (sym (all_before d.constants c.given s.fits)) (pair.sound s.fits s.faultless)))

  -- the model isn't started
  ended_so : (e : Ending) (u : Unstarted) → ((path : List ℕ) → EndsOnCarry d o c path e) → u ≡ U.Ended e → BeginsBoth here there d o c (Err u)
  ended_so e u h k = subst (λ x. BeginsBoth here there d o c (Err x)) (sym k) h

  module _ (lines : List ℕ) (n : wrong_value d.constants c.given ≡ None) (w : is_wide_instance (scene_for d c.given) ≡ false) (f : instance_faults (scene_for d c.given) ≢ [])
      (ends : is_wide_instance (scene_there d o c.given) ≡ false → (path : List ℕ) → EndsOnCarry d o c path (E.Faulty lines)) where
    faults_behind : (r : Result J StartFail) (u : Unstarted) → StartsThere there d o c.given r → FailsBehind (E.Faulty lines) r u → BeginsBoth here there d o c (Err u)
    faults_behind (Ok j) u k h = ended_so (E.Faulty lines) u (ends (narrow_there n k.narrow)) h
    faults_behind (Err (Memory e)) u k h = subst (λ x. BeginsBoth here there d o c (Err x)) (sym h) tt
    faults_behind (Err (Word i)) u k h = absurd (let m = sym (fits_there n) ∙ k in cc)
    faults_behind (Err Wide) u k h = wide_ends n (wide_there n k.1) false w u h
    faults_behind (Err (Faults fs)) u k h = ended_so (E.Faulty lines) u (ends (narrow_there n k.1.0)) h

  pub here_ends : (e : Ending) (r : Result J StartFail) (u : Unstarted) → EndsUnstarted d 4 c.given e → StartsThere there d o c.given r → FailsBehind e r u → BeginsBoth here there d o c (Err u)
  here_ends e r u (S.unfit i n p) k h = ended_so e u (λ path. unfit i n p) (subst (λ x. FailsBehind x r u → u ≡ U.Ended x) (sym p) (λ x. x) h)
  here_ends e r u (S.wide n w p) k h = ended_so e u (λ path. wide n (ap (λ b. b || is_wide_instance (scene_there d o c.given)) w) p) (subst (λ x. FailsBehind x r u → u ≡ U.Ended x) (sym p) (λ x. x) h)
  here_ends e r u (S.faulty n w f p) k h =
      subst (λ x. FailsBehind x r u → BeginsBoth here there d o c (Err u)) (sym p)
      (faults_behind _ n w f (λ m path. faulty n (ap₂ (λ a b. a || b) w m) f refl) r u k) h

-- ---- what may be carried
module _ {I J : Type 0} (here : I → Process) (there : J → Process) (m : CarryMap) (h : Result I Unstarted) (t : Result J StartFail) where
  pub meet_to_jani : (r : Result (I × J) Unstarted) → IfOk r (λ p. (h ≡ Ok p.0) × (t ≡ Ok p.1)) → MayMeetToJani here there m h t → MayBothToJani here there m r
  meet_to_jani (Ok p) e k = subst (λ y. MayMeetToJani here there m (Ok p.0) y) e.1 (subst (λ x. MayMeetToJani here there m x t) e.0 k)
  meet_to_jani (Err u) e k = tt

  pub meet_to_prism : (r : Result (I × J) Unstarted) → IfOk r (λ p. (h ≡ Ok p.0) × (t ≡ Ok p.1)) → MayMeetToPrism here there m h t → MayBothToPrism here there m r
  meet_to_prism (Ok p) e k = subst (λ y. MayMeetToPrism here there m (Ok p.0) y) e.1 (subst (λ x. MayMeetToPrism here there m x t) e.0 k)
  meet_to_prism (Err u) e k = tt
