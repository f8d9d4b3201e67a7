-- From a model and its counterpart to the bytes of both files.
use Rattle.std.proofs.Common.{◌≡◌, refl, sym, subst, ℕ, zero, suc, List, [], ◌∷◌, inl, inr}
use Rattle.std.specs.Prelude.{Result, Ok, Err}
use Rattle.bridge_io.specs.declared.reason.Refused.{Refused}
use Rattle.bridge_io.specs.declared.reason.Refused.TheVariants as R
use Rattle.prism_tree.specs.Syntax as prism
use Rattle.prism_instance.specs.Described.{prism_description}
use Rattle.jani_tree.specs.Syntax as jani
use Rattle.jani_instance.specs.Described.{jani_description}
use Rattle.command_words.specs.Words.{Carrying}
use Rattle.command_words.specs.declared.request.Lang.TheVariants.{Prism, Jani}
use Rattle.model_files.specs.PrismFile.{IsFaultless, RefusesPrism}
use Rattle.model_files.specs.JaniFile.{IsFaultlessJani, RefusesJani}
use Rattle.model_process.specs.Claims.{at_file}
use Rattle.model_process.specs.declared.ending.Ending.{Ending}
use Rattle.model_process.specs.declared.judging.ClaimRefused.{ClaimRefused}
use Rattle.model_process.specs.declared.judging.ClaimRefused.TheVariants.{Memory, At}
use Rattle.model_carrying.specs.Counterparts.{Counterpart, HasCounterpart, IsCarryFault, IsJaniCounterpart, IsPrismCounterpart, of_file, of_translation, of_size}
use Rattle.model_carrying.specs.Ends.{CarriesOn}
use Rattle.model_carrying.specs.Pairs.{CarriesFor, IsUntranslated}

module _ (c : Carrying) (model path : List ℕ) where
  pub of_prism : c.lang ≡ Prism → (tree : prism.File) → IsFaultless model tree → (r : Result Ending ClaimRefused) →
      CarriesFor (IsJaniCounterpart tree) (λ f. ⊥) (prism_description tree) c path r → CarriesOn c (model ∷ path ∷ []) r
  of_prism lang tree ok r h = by_case r h
    where
      has : (o : Counterpart) → IsJaniCounterpart tree o → HasCounterpart c.lang model (prism_description tree) o
      has o k = subst (λ l. HasCounterpart l model (prism_description tree) o) (sym lang) (tree, ok, refl, k)

      by_case : (r : Result Ending ClaimRefused) → CarriesFor (IsJaniCounterpart tree) (λ f. ⊥) (prism_description tree) c path r → CarriesOn c (model ∷ path ∷ []) r
      by_case (Ok e) h = (prism_description tree, h.0, has h.0 h.1, h.2)
      by_case (Err (Memory e)) h = tt
      by_case (Err (At zero f)) h = absurd h
      by_case (Err (At (suc zero) f)) h = (prism_description tree, h.0, has h.0 h.1, h.2)
      by_case (Err (At (suc (suc i)) f)) h = absurd h

  pub refused_prism : c.lang ≡ Prism → (r : Refused) → RefusesPrism model r → CarriesOn c (model ∷ path ∷ []) (Err (at_file 0 r))
  refused_prism lang (R.Memory e) h = tt
  refused_prism lang (R.At f) h = subst (λ l. IsCarryFault l model f) (sym lang) h

  pub of_jani : c.lang ≡ Jani → (tree : jani.File) → IsFaultlessJani model tree → (r : Result Ending ClaimRefused) →
      CarriesFor (IsPrismCounterpart tree) (IsUntranslated tree) (jani_description tree) c path r → CarriesOn c (model ∷ path ∷ []) r
  of_jani lang tree ok r h = by_case r h
    where
      has : (o : Counterpart) → IsPrismCounterpart tree o → HasCounterpart c.lang model (jani_description tree) o
      has o k = subst (λ l. HasCounterpart l model (jani_description tree) o) (sym lang) (tree, ok, refl, k)

      by_case : (r : Result Ending ClaimRefused) → CarriesFor (IsPrismCounterpart tree) (IsUntranslated tree) (jani_description tree) c path r → CarriesOn c (model ∷ path ∷ []) r
      by_case (Ok e) h = (jani_description tree, h.0, has h.0 h.1, h.2)
      by_case (Err (Memory e)) h = tt
      by_case (Err (At zero f)) (inl h) = subst (λ l. IsCarryFault l model f) (sym lang) (of_translation tree ok h)
      by_case (Err (At zero f)) (inr (none, (new, is, large, at))) = subst (λ l. IsCarryFault l model f) (sym lang) (of_size tree ok none new is large at)
      by_case (Err (At (suc zero) f)) h = (jani_description tree, h.0, has h.0 h.1, h.2)
      by_case (Err (At (suc (suc i)) f)) h = absurd h

  pub refused_jani : c.lang ≡ Jani → (r : Refused) → RefusesJani model r → CarriesOn c (model ∷ path ∷ []) (Err (at_file 0 r))
  refused_jani lang (R.Memory e) h = tt
  refused_jani lang (R.At f) h = subst (λ l. IsCarryFault l model f) (sym lang) (of_file h)
