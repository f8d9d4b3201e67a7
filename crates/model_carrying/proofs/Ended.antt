-- How it ends on a model and its counterpart, from how both begin and what comes of their processes.
use Rattle.std.proofs.Common.{◌≡◌, sym, subst, ℕ, zero, suc, List}
use Rattle.std.specs.Prelude.{Result, Ok, Err}
use Rattle.bridge_io.specs.declared.reason.Refused.{Refused}
use Rattle.bridge_io.specs.declared.reason.Refused.TheVariants as R
use Rattle.process_core.specs.Steps.{Process}
use Rattle.instance_start.specs.Description.{Description}
use Rattle.path_carry.specs.Carried.{CarriedToJani, CarriedToPrism}
use Rattle.jani_tree.specs.Syntax as jani
use Rattle.command_words.specs.Words.{Carrying}
use Rattle.command_words.specs.declared.request.Lang.TheVariants.{Prism, Jani}
use Rattle.model_process.specs.Claims.{at_file}
use Rattle.model_process.specs.Starts.{process_for}
use Rattle.model_process.specs.declared.ending.Ending.{Ending}
use Rattle.model_process.specs.declared.judging.ClaimRefused.{ClaimRefused}
use Rattle.model_process.specs.declared.judging.ClaimRefused.TheVariants.{Memory, At}
use Rattle.model_carrying.specs.Counterparts.{Counterpart, IsPrismCounterpart}
use Rattle.model_carrying.specs.Ends.{ArePairStartable, IsCarried, carried, process_there}
use Rattle.model_carrying.specs.Pairs.{CarriesFor, CarriesOnModels, CarriesOnProcesses, IsUntranslated, RefusesCounterpart}

module _ (d : Description) (o : Counterpart) (c : Carrying) (path : List ℕ) (s : ArePairStartable d o c.given) where
  -- on the processes of both
  ended : (r : Result Ending ClaimRefused) →
      CarriesOnProcesses (IsCarried c.lang (process_for d c.given) (process_there d o c.given) o.map) (process_for d c.given) (process_there d o c.given) path r → CarriesOnModels d o c path r
  ended (Ok e) (r, file, keeps, is) = carried s r file keeps is
  ended (Err (Memory e)) h = tt
  ended (Err (At zero f)) h = absurd h
  ended (Err (At (suc zero) f)) h = record { sound = s; breaks = h }
  ended (Err (At (suc (suc i)) f)) h = absurd h

  pub to_jani : (p q : Process) → c.lang ≡ Prism → p ≡ process_for d c.given → q ≡ process_there d o c.given → (r : Result Ending ClaimRefused) →
      CarriesOnProcesses (CarriedToJani p q o.map) p q path r → CarriesOnModels d o c path r
  to_jani p q lang a b r h =
      ended r
      (subst (λ l. CarriesOnProcesses (IsCarried l (process_for d c.given) (process_there d o c.given) o.map) (process_for d c.given) (process_there d o c.given) path r) (sym lang)
      (subst (λ x. CarriesOnProcesses (CarriedToJani (process_for d c.given) x o.map) (process_for d c.given) x path r) b
      (subst (λ x. CarriesOnProcesses (CarriedToJani x q o.map) x q path r) a h)))

  pub to_prism : (p q : Process) → c.lang ≡ Jani → p ≡ process_for d c.given → q ≡ process_there d o c.given → (r : Result Ending ClaimRefused) →
      CarriesOnProcesses (CarriedToPrism p q o.map) p q path r → CarriesOnModels d o c path r
  to_prism p q lang a b r h =
      ended r
      (subst (λ l. CarriesOnProcesses (IsCarried l (process_for d c.given) (process_there d o c.given) o.map) (process_for d c.given) (process_there d o c.given) path r) (sym lang)
      (subst (λ x. CarriesOnProcesses (CarriedToPrism (process_for d c.given) x o.map) (process_for d c.given) x path r) b
      (subst (λ x. CarriesOnProcesses (CarriedToPrism x q o.map) x q path r) a h)))

-- of some counterpart of the model
pub for_some : (Is : Counterpart → Type 0) (Fails : _ → Type 0) (d e : Description) (o : Counterpart) (c : Carrying) (path : List ℕ) (r : Result Ending ClaimRefused) →
    d ≡ e → Is o → CarriesOnModels d o c path r → CarriesFor Is Fails e c path r
for_some Is Fails d e o c path r same is h = subst (λ x. CarriesFor Is Fails x c path r) same (by_case r h)
  where
    by_case : (r : Result Ending ClaimRefused) → CarriesOnModels d o c path r → CarriesFor Is Fails d c path r
    by_case (Ok e) h = (o, is, h)
    by_case (Err (Memory e)) h = tt
    by_case (Err (At zero f)) h = absurd h
    by_case (Err (At (suc zero) f)) h = (o, is, h)
    by_case (Err (At (suc (suc i)) f)) h = absurd h

-- the counterpart isn't made
pub untranslated : (tree : jani.File) (d : Description) (c : Carrying) (path : List ℕ) (r : Refused) → RefusesCounterpart tree r →
    CarriesFor (IsPrismCounterpart tree) (IsUntranslated tree) d c path (Err (at_file 0 r))
untranslated tree d c path (R.Memory e) h = tt
untranslated tree d c path (R.At f) h = h
