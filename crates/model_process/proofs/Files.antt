-- From a model to the bytes of all files, the model's first.
use Rattle.std.proofs.Common.{◌≡◌, refl, sym, subst, ℕ, List, ◌∷◌}
use Rattle.std.specs.Prelude.{Result, Err}
use Rattle.bridge_io.specs.declared.reason.Refused.{Refused}
use Rattle.bridge_io.specs.declared.reason.Refused.TheVariants as F
use Rattle.command_words.specs.Words.{Checking}
use Rattle.command_words.specs.declared.request.Lang.TheVariants.{Prism, Jani}
use Rattle.prism_tree.specs.Syntax as prism
use Rattle.jani_tree.specs.Syntax as jani
use Rattle.model_files.specs.PrismFile.{IsFaultless, RefusesPrism}
use Rattle.model_files.specs.JaniFile.{IsFaultlessJani, RefusesJani}
use Rattle.prism_instance.specs.Described.{prism_description}
use Rattle.jani_instance.specs.Described.{jani_description}
use Rattle.model_process.specs.Models.{Describes, IsModelFault}
use Rattle.model_process.specs.declared.ending.Ending.{Ending}
use Rattle.model_process.specs.Claims.{JudgesOn, JudgesOnModel, at_file}
use Rattle.model_process.specs.declared.judging.ClaimRefused.{ClaimRefused}
use Rattle.model_process.proofs.Judged.{of_model}

module _ (c : Checking) (bytes : List ℕ) (others : List (List ℕ)) where
  pub of_prism : c.lang ≡ Prism → (flat tree : prism.File) → IsFaultless bytes tree → prism_description flat ≡ prism_description tree → (r : Result Ending ClaimRefused) →
      JudgesOnModel (prism_description flat) c others r → JudgesOn c (bytes ∷ others) r
  of_prism lang flat tree ok described r h =
      of_model c bytes others (prism_description tree) r (subst (λ l. Describes l bytes (prism_description tree)) (sym lang) (tree, ok, refl))
      (subst (λ d. JudgesOnModel d c others r) described h)

  pub refused_prism : c.lang ≡ Prism → (r : Refused) → RefusesPrism bytes r → JudgesOn c (bytes ∷ others) (Err (at_file 0 r))
  refused_prism lang (F.Memory m) h = tt
  refused_prism lang (F.At f) h = subst (λ l. IsModelFault l bytes f) (sym lang) h

  pub of_jani : c.lang ≡ Jani → (tree : jani.File) → IsFaultlessJani bytes tree → (r : Result Ending ClaimRefused) → JudgesOnModel (jani_description tree) c others r →
      JudgesOn c (bytes ∷ others) r
  of_jani lang tree ok r h = of_model c bytes others (jani_description tree) r (subst (λ l. Describes l bytes (jani_description tree)) (sym lang) (tree, ok, refl)) h

  pub refused_jani : c.lang ≡ Jani → (r : Refused) → RefusesJani bytes r → JudgesOn c (bytes ∷ others) (Err (at_file 0 r))
  refused_jani lang (F.Memory m) h = tt
  refused_jani lang (F.At f) h = subst (λ l. IsModelFault l bytes f) (sym lang) h
