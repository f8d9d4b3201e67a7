-- What was written of a carried path is judged on a text of the model's translation as the path is on the model.
use Rattle.std.specs.Prelude.{◌≡◌, ℕ, List, [], ◌∷◌, None}
use Rattle.std.proofs.Common.{sym, ap, subst, subst₂, ◌∙◌}
use Rattle.instance_start.specs.Description.{Description}
use Rattle.instance_start.specs.Given.{given_by}
use Rattle.row_check.specs.Laws.{PathReadOnce}
use Rattle.prism_tree.specs.Syntax as prism
use Rattle.prism_check.specs.PlacesLaws.{PlacesStayAside}
use Rattle.prism_check.proofs.NoFaults.{no_faults}
use Rattle.prism_instance.specs.Described.{DescribedAlike, prism_description}
use Rattle.jani_tree.specs.Syntax as jani
use Rattle.jani_instance.specs.Described.{jani_description}
use Rattle.name_table.specs.Correspond.{Correspond}
use Rattle.prism_to_jani.specs.Promise.{IsJaniOf}
use Rattle.jani_to_prism.specs.Promise.{IsPrismOf}
use Rattle.command_words.specs.declared.request.Lang.{Lang}
use Rattle.command_words.specs.declared.request.Lang.TheVariants.{Prism, Jani}
use Rattle.command_words.specs.Given.{Assignment}
use Rattle.model_files.specs.PrismFile.{IsFaultless}
use Rattle.model_files.specs.JaniFile.{IsFaultlessJani}
use Rattle.model_files.proofs.Once.{one_jani_tree, one_prism_tree}
use Rattle.model_process.specs.Claims.{EndsOnClaim, IsOtherFault}
use Rattle.model_process.specs.Constants.{givens, wrong_value}
use Rattle.model_process.specs.Models.{Describes}
use Rattle.model_process.specs.Starts.{IsStartable}
use Rattle.model_process.proofs.Constants.{none_wrong}
use Rattle.model_carrying.specs.Across.{AreGivenAs, AreJudgedAlike, IsNeverRefused, IsTranslation, StartsAlways, other}
use Rattle.model_carrying.specs.Counterparts.{Counterpart, HasCounterpart}
use Rattle.model_carrying.specs.Together.{GivenCorrespond, GivenCorrespondBack, TogetherInJani, TogetherInPrism}
use Rattle.model_carrying.specs.Values.{GoTogether, ValuesAreAlike, ValuesFit}
use Rattle.model_carrying.proofs.Faultless.{no_name_fault_in}
use Rattle.model_carrying.proofs.JaniPlaces.{jani_alike}
use Rattle.model_carrying.proofs.Judged.{AreReadAs, judged_alike_there, not_refused_there, starts_there, values_across}
use Rattle.model_carrying.proofs.Once.{prism_alike}
use Rattle.model_carrying.proofs.PairToJani.{no_fault_in_jani}
use Rattle.model_carrying.proofs.PairToPrism.{no_fault_in_prism}

-- ---- the model
described : (lang : Lang) (bytes : List ℕ) (d : Description) (o : Counterpart) → HasCounterpart lang bytes d o → Describes lang bytes d
described Prism bytes d o (tree, ok, is, has) = (tree, ok, is)
described Jani bytes d o (tree, ok, is, has) = (tree, ok, is)

one_model : (lang : Lang) (bytes : List ℕ) (d e : Description) (o : Counterpart) → HasCounterpart lang bytes d o → Describes lang bytes e → e ≡ d
one_model Prism bytes d e o (tree, ok, is, has) (t, h, p) = p ∙ ap prism_description (one_prism_tree bytes t tree h ok) ∙ sym is
one_model Jani bytes d e o (tree, ok, is, has) (t, h, p) = p ∙ ap jani_description (one_jani_tree bytes t tree h ok) ∙ sym is

-- ---- trees and what they are translated to
module _ (alike : DescribedAlike) (aside : PlacesStayAside) (same_values : ValuesAreAlike) (in_jani : TogetherInJani) (in_prism : TogetherInPrism) (given_alike : GivenCorrespond) (given_back : GivenCorrespondBack) where
  read_in_jani : (bytes text : List ℕ) (old : prism.File) (new : jani.File) → IsFaultless bytes old → IsFaultlessJani text new → IsJaniOf old new → AreReadAs (prism_description old) (jani_description new)
  read_in_jani bytes text old new ok ok_new is = record { together = together; sound = λ given n. no_fault_in_jani old new is (given_by (givens given)) (values_across (prism_description old) (jani_description new) given) (corresponds given n) }
    where
      together : GoTogether (prism_description old).constants (jani_description new).constants
      together = in_jani old new (no_faults old ok.sound).names (no_name_fault_in new ok_new.sound) is.shape

      corresponds : (given : List Assignment) → wrong_value (prism_description old).constants given ≡ None → Correspond old new (given_by (givens given)) (values_across (prism_description old) (jani_description new) given)
      corresponds given n =
          given_alike old new (given_by (givens given)) (values_across (prism_description old) (jani_description new) given)
          (same_values (prism_description old).constants (jani_description new).constants (givens given) together (none_wrong (prism_description old).constants given n))

  read_in_prism : (bytes text : List ℕ) (old : jani.File) (new : prism.File) → IsFaultlessJani bytes old → IsFaultless text new → IsPrismOf old new → AreReadAs (jani_description old) (prism_description new)
  read_in_prism bytes text old new ok ok_new is = record { together = together; sound = λ given n. no_fault_in_prism old new is (values_across (jani_description old) (prism_description new) given) (given_by (givens given)) (corresponds given n) }
    where
      together : GoTogether (jani_description old).constants (prism_description new).constants
      together = in_prism old new (no_name_fault_in old ok.sound) (no_faults new ok_new.sound).names is.shape

      corresponds : (given : List Assignment) → wrong_value (jani_description old).constants given ≡ None → Correspond new old (values_across (jani_description old) (prism_description new) given) (given_by (givens given))
      corresponds given n =
          given_back new old (values_across (jani_description old) (prism_description new) given) (given_by (givens given)) together
          (same_values (jani_description old).constants (prism_description new).constants (givens given) together (none_wrong (jani_description old).constants given n))

  -- what the text describes is what the counterpart does
  read_as : (lang : Lang) (model text : List ℕ) (d e : Description) (o : Counterpart) → HasCounterpart lang model d o → IsTranslation lang model text → Describes (other lang) text e →
      (e ≡ o.description) × AreReadAs d o.description
  read_as Prism model text d e o (tree, ok, is, has) (t, h, only) (new, ok_new, is_new) =
      let translated : IsJaniOf tree new =
      subst (λ z. IsJaniOf z new) (one_prism_tree model t tree h ok) (only new (ok_new.value, ok_new.read.whole.tokens, ok_new.read.whole.spells, ok_new.read.spells)) in
      let same : e ≡ o.description = is_new ∙ jani_alike new has.file (translated.shape ∙ sym has.translated.shape) ∙ sym has.description in
      (same, subst₂ AreReadAs (sym is) (sym is_new ∙ same) (read_in_jani model text tree new ok ok_new translated))
  read_as Jani model text d e o (tree, ok, is, has) (t, h, only) (new, ok_new, is_new) =
      let translated : IsPrismOf tree new = subst (λ z. IsPrismOf z new) (one_jani_tree model t tree h ok) (only new ok_new.read.spells) in
      let same : e ≡ o.description = is_new ∙ prism_alike alike aside new has.file (translated.shape ∙ sym has.translated.shape) ∙ sym has.description in
      (same, subst₂ AreReadAs (sym is) (sym is_new ∙ same) (read_in_prism model text tree new ok ok_new translated))

  module _ (once : PathReadOnce) (fit : ValuesFit) where
    pub judged_alike : AreJudgedAlike IsTranslation
    judged_alike c here there model text path written x y ask is (d, o, has, ends) (b, h, claim) (e, k, claim_there) ax ay =
        let text_is = subst (λ l. Describes l text e) ask.language_there k in
        let read = read_as c.lang model text d e o has is text_is in
        let given = subst (λ z. AreGivenAs d.constants z.constants c.given there.given) read.0 (ask.constants_there d e (described c.lang model d o has) text_is) in
        judged_alike_there once fit same_values d o read.1 c path written ends there given here ask.path ask.path_there ask.claim ask.constants ask.claim_there x y
        (subst (λ z. EndsOnClaim z here (path ∷ []) x) (one_model c.lang model d b o has (subst (λ l. Describes l model b) ask.language h)) claim)
        (subst (λ z. EndsOnClaim z there (written ∷ []) y) read.0 claim_there) ax ay

    pub never_refused : IsNeverRefused IsTranslation
    never_refused c here there model text path written i f ask is (d, o, has, ends) (e, k, fault) =
        let text_is = subst (λ l. Describes l text e) ask.language_there k in
        let read = read_as c.lang model text d e o has is text_is in
        let given = subst (λ z. AreGivenAs d.constants z.constants c.given there.given) read.0 (ask.constants_there d e (described c.lang model d o has) text_is) in
        not_refused_there once fit same_values d o read.1 c path written ends there given ask.path_there ask.claim_there i f (subst (λ z. IsOtherFault z there (written ∷ []) i f) read.0 fault)

    pub starts_always : StartsAlways IsTranslation
    starts_always c here there model text path written e ask is (d, o, has, ends) k n =
        let text_is = subst (λ l. Describes l text e) ask.language_there k in
        let read = read_as c.lang model text d e o has is text_is in
        let given = subst (λ z. AreGivenAs d.constants z.constants c.given there.given) read.0 (ask.constants_there d e (described c.lang model d o has) text_is) in
        subst (λ z. IsStartable z there.given) (sym read.0)
        (starts_there once fit same_values d o read.1 c path written ends there given (subst (λ z. wrong_value z.constants there.given ≡ None) read.0 n))
