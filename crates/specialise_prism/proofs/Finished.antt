-- What was made of a file is the file specialised, and has what that has.
use Rattle.std.specs.Prelude.{◌≡◌, Option, Some, None, Result, Ok, Err, IfOk}
use Rattle.std.specs.Option.{option_map}
use Rattle.std.proofs.Common.{refl, sym, subst, ap₂, ◌∙◌}
use Rattle.bridge_io.specs.declared.reason.Named.{Named}
use Rattle.process_core.specs.Instance.{Valuation}
use Rattle.prism_tree.specs.declared.syntax.PrismFile.{PrismFile}
use Rattle.prism_tree.specs.Syntax.{File, file_of}
use Rattle.prism_names.specs.Names.{unchanged}
use Rattle.prism_rewriter.specs.Rewritten.{rewritten_name}
use Rattle.prism_check.specs.Clean.{IsClean}
use Rattle.constant_folding.specs.Known.{Known}
use Rattle.constant_folding.specs.Unfit.{Extends}
use Rattle.specialise_prism.specs.Specialised.{known_constants, specialised, specialised_by}
use Rattle.specialise_prism.specs.SameMeaning.{SameMeaningAt}

-- a name that isn't changed
pub same_action : (a : Option Named) → a ≡ option_map (rewritten_name unchanged) a
same_action None = refl
same_action (Some a) = refl

module _ (given : Valuation) (raw flat : File) (known : Known) (same : raw ≡ flat) (right : known ≡ known_constants flat given) where
  made : (f : File) → f ≡ specialised_by given known raw → f ≡ specialised flat given
  made f e = e ∙ ap₂ (specialised_by given) right same

  pub made_tree : {E : Type 0} (r : Result PrismFile E) → IfOk r (λ f. file_of f ≡ specialised_by given known raw) → IfOk r (λ f. file_of f ≡ specialised flat given)
  made_tree (Ok f) e = made (file_of f) e
  made_tree (Err x) e = tt

  pub made_clean : {E : Type 0} (r : Result PrismFile E) → IsClean (specialised flat given) → IfOk r (λ f. file_of f ≡ specialised_by given known raw) → IfOk r (λ f. IsClean (file_of f))
  made_clean (Ok f) h e = subst IsClean (sym (made (file_of f) e)) h
  made_clean (Err x) h e = tt

  pub made_meaning : {E : Type 0} (r : Result PrismFile E) → ((v : Valuation) → Extends given v → SameMeaningAt flat (specialised flat given) v) →
      IfOk r (λ f. file_of f ≡ specialised_by given known raw) → IfOk r (λ f. (v : Valuation) → Extends given v → SameMeaningAt flat (file_of f) v)
  made_meaning (Ok f) h e = λ v extends. subst (λ (g : File). SameMeaningAt flat g v) (sym (made (file_of f) e)) (h v extends)
  made_meaning (Err x) h e = tt
