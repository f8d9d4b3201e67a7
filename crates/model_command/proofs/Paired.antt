-- What a run answers and writes where a model is translated with its properties and all is told.
use Rattle.std.proofs.Common.{arith, ◌≡◌, ◌⊎◌, ◌∙◌, refl, ap, subst, ℕ, ◌<◌, ◌≤◌, List, [], ◌∷◌, ◌++◌, length, append-nil, Option, Some, inl, inr, Bool, true, false}
use Rattle.std.proofs.lemmas.Bool.Decides.{nat_tests}
use Rattle.std.specs.Prelude.{nat_lt}
use Rattle.bridge_io.specs.Reason.{number_of, name_of}
use Rattle.bridge_io.specs.declared.reason.Reason.{Reason}
use Rattle.bridge_io.specs.declared.reason.Fault.{Fault}
use Rattle.bridge_io.specs.declared.place.Place.{Place}
use Rattle.name_rules.specs.Least.{IsLeast}
use Rattle.command_words.specs.declared.request.Task.TheVariants.{ToJani}
use Rattle.command_words.specs.Words.{with_properties}
use Rattle.model_files.specs.PrismFile.{IsPrismFault}
use Rattle.model_translation.specs.Read.{FaultsOf, of_properties as of_spelled}
use Rattle.model_translation.specs.Laws.{OneListOfFaults}
use Rattle.model_translation.specs.WithProperties.{AreFaultless, IsPropertiesFault, TranslatesWith}
use Rattle.model_command.specs.Outcome.{status_of, text_of, line_of, refusal_line}
use Rattle.model_command.specs.Run.{IsPairEnd, IsRefusedAt}
use Rattle.model_command.specs.Headline.{AreAccepted, IsFaultOfFiles, long_model, long_properties, of_model, of_properties, IsTranslatedAsTold, IsEndedAsTold, fault_line, too_long}
use Rattle.model_command.specs.declared.outcome.Outcome.{Outcome}
use Rattle.model_command.specs.declared.outcome.Outcome.TheVariants.{Done, Ended, Refused, Words, ReadFault, NoMemory}
use Rattle.model_command.proofs.Exact.{least_not_fit}

-- ---- files without fault have no least one
pub no_model_fault : (model second : List ℕ) (f : Fault) → IsPrismFault model f → AreFaultless model second → ⊥
no_model_fault model second f fault (tree, ps, ok, read) = least_not_fit ToJani model f fault (tree, ok)

pub no_properties_fault : OneListOfFaults → (model second : List ℕ) (f : Fault) → IsPropertiesFault model second f → AreFaultless model second → ⊥
no_properties_fault one model second f (tree, ok, least) (other, ps, faultless, read) =
    let same : other ≡ tree = ok.read.only other faultless.read.spells in
    let clean : FaultsOf second tree [] = subst (λ t. FaultsOf second t []) same (subst (FaultsOf second other) read.sound (of_spelled read.written read.spelled)) in
    let none : IsLeast [] f = subst (λ fs. IsLeast fs f) (one second tree least.all [] least.are clean) least.least in
    none.among

pub translated_faultless : (model second text : List ℕ) → TranslatesWith model second text → AreFaultless model second
translated_faultless model second text (c, ps, t) = (c.file, ps, t.faultless, t.read)

-- ---- how long a file is
side : (n : ℕ) → (n ≤ 16777216) ⊎ (16777216 < n)
side n = by_test (nat_lt 16777216 n) refl
  where
    by_test : (b : Bool) → nat_lt 16777216 n ≡ b → (n ≤ 16777216) ⊎ (16777216 < n)
    by_test true e = inr (grind (arith, nat_tests, e))
    by_test false e = inl (grind (arith, nat_tests, e))

line_same : (name bytes : List ℕ) (f : Fault) (reason : Reason) (place : Place) → IsRefusedAt bytes f reason place → refusal_line name place (number_of reason) (name_of reason) ≡ fault_line name bytes f
line_same name bytes f reason place h =
    ap (λ q. refusal_line name place (number_of q) (name_of q)) h.0 ∙ ap (λ (p : Place). refusal_line name p (number_of f.reason) (name_of f.reason)) h.1

module _ (file properties model second was said : List ℕ) (out err : Option (List ℕ)) (answer : ℕ) where
  is_refused : (AreAccepted model second → ⊥) → (name bytes : List ℕ) (f : Fault) → IsFaultOfFiles file properties model second name bytes f → answer ≡ 2 → out ≡ Some was → err ≡ Some (said ++ fault_line name bytes f) →
      IsTranslatedAsTold file properties model second was said out err answer
  is_refused none name bytes f told two o e = record {
    exactly = (λ zero. absurd (not_both zero), λ acc. absurd (none acc));
    accepted = λ zero. absurd (not_both zero);
    refused = λ other. (two, o, (name, bytes, f, told, e));
  }
    where
      not_both : answer ≡ 0 → ⊥
      not_both a = omega (arith, a, two)

  module _ (one : OneListOfFaults) (no_memory : answer ≡ 6 → ⊥) where
    -- neither is too long
    by_end : length model ≤ 16777216 → length second ≤ 16777216 → (name : List ℕ) (o : Outcome) → IsPairEnd file properties model second name o → answer ≡ status_of o → out ≡ Some (was ++ text_of o) →
        err ≡ Some (said ++ line_of name o) → IsTranslatedAsTold file properties model second was said out err answer
    by_end a b name (Done text) h status o e =
        let acc : AreAccepted model second = record { short = a; properties_short = b; faultless = translated_faultless model second text h } in
        record {
          exactly = (λ _. acc, λ _. status);
          accepted = λ _. (text, h, o, e ∙ ap Some (append-nil said));
          refused = λ none. absurd (none acc);
        }
    by_end a b name (Ended en) h status o e = absurd h
    by_end a b name (Refused reason place) (inl h) status o e =
        is_refused (λ acc. no_model_fault model second h.1.0 h.1.1 acc.faultless) file model h.1.0 (of_model h.1.0 a b h.1.1) status (o ∙ ap Some (append-nil was))
        (e ∙ ap (λ l. Some (said ++ l)) (ap (λ n. refusal_line n place (number_of reason) (name_of reason)) h.0 ∙ line_same file model h.1.0 reason place h.1.2))
    by_end a b name (Refused reason place) (inr h) status o e =
        is_refused (λ acc. no_properties_fault one model second h.1.0 h.1.1 acc.faultless) properties second h.1.0 (of_properties h.1.0 a b h.1.1) status (o ∙ ap Some (append-nil was))
        (e ∙ ap (λ l. Some (said ++ l)) (ap (λ n. refusal_line n place (number_of reason) (name_of reason)) h.0 ∙ line_same properties second h.1.0 reason place h.1.2))
    by_end a b name (Words k) h status o e = absurd h
    by_end a b name ReadFault h status o e = absurd h
    by_end a b name NoMemory h status o e = absurd (no_memory status)

    pub translated_of : IsEndedAsTold (with_properties file properties) (model ∷ second ∷ []) was said out err answer → IsTranslatedAsTold file properties model second was said out err answer
    translated_of e = by_model (side (length model))
      where
        by_properties : length model ≤ 16777216 → (length second ≤ 16777216) ⊎ (16777216 < length second) → IsTranslatedAsTold file properties model second was said out err answer
        by_properties a (inl b) = let s = e.short (a, (b, tt)) in by_end a b s.0 s.1 s.2 s.3 s.4 s.5
        by_properties a (inr b) =
            let l = e.long properties second (inr (a, inl (b, refl, refl))) in
            is_refused (λ acc. let c = acc.properties_short in omega (arith, b, c)) properties second too_long (long_properties a b) l.0 l.1 l.2

        by_model : (length model ≤ 16777216) ⊎ (16777216 < length model) → IsTranslatedAsTold file properties model second was said out err answer
        by_model (inl a) = by_properties a (side (length second))
        by_model (inr a) =
            let l = e.long file model (inl (a, refl, refl)) in
            is_refused (λ acc. let c = acc.short in omega (arith, a, c)) file model too_long (long_model a) l.0 l.1 l.2
