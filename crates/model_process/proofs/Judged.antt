-- From a process to its model, and from a model to the bytes of its file.
use Rattle.std.proofs.Common.{◌≡◌, subst, List, ◌∷◌, ℕ, zero, suc}
use Rattle.std.specs.Prelude.{Result, Ok, Err}
use Rattle.process_core.specs.Steps.{Process}
use Rattle.instance_start.specs.Description.{Description}
use Rattle.command_words.specs.Words.{Checking}
use Rattle.model_process.specs.Models.{Describes}
use Rattle.model_process.specs.Starts.{IsStartable, process_for}
use Rattle.model_process.specs.declared.ending.Ending.{Ending}
use Rattle.model_process.specs.Claims.{HasVerdict, BreaksForm, JudgesOn, JudgesOnModel, JudgesOnProcess, judged}
use Rattle.model_process.specs.declared.judging.ClaimRefused.{ClaimRefused}
use Rattle.model_process.specs.declared.judging.ClaimRefused.TheVariants.{Memory, At}

pub of_started : (d : Description) (c : Checking) (others : List (List ℕ)) (p : Process) (r : Result Ending ClaimRefused) → IsStartable d c.given × (p ≡ process_for d c.given) →
    JudgesOnProcess p c.claim others r → JudgesOnModel d c others r
of_started d c others p (Ok e) h s = judged h.0 s.0 (subst (λ q. HasVerdict q c.claim others s.0) h.1 s.1) s.2
of_started d c others p (Err (Memory e)) h s = tt
of_started d c others p (Err (At zero f)) h s = absurd s
of_started d c others p (Err (At (suc i) f)) h s = record { sound = h.0; breaks = subst (λ q. BreaksForm q c.claim others i f) h.1 s }

pub of_model : (c : Checking) (model : List ℕ) (others : List (List ℕ)) (d : Description) (r : Result Ending ClaimRefused) → Describes c.lang model d → JudgesOnModel d c others r → JudgesOn c (model ∷ others) r
of_model c model others d (Ok e) is h = (d, is, h)
of_model c model others d (Err (Memory e)) is h = tt
of_model c model others d (Err (At zero f)) is h = absurd h
of_model c model others d (Err (At (suc i) f)) is h = (d, is, h)
