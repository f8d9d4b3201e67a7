-- A request ends in one way.
use Rattle.std.specs.Prelude.{◌≡◌, ◌≢◌, ℕ, ◌*◌, ◌-◌, List, [], ◌∷◌, ◌++◌, length, slice_get}
use Rattle.std.proofs.Common.{refl, sym, ap, ap₂, subst, ◌∙◌, inl, inr}
use Rattle.std.proofs.lemmas.Option.{same_Some}
use Rattle.bridge_io.specs.declared.place.Place.{Place}
use Rattle.bridge_io.specs.declared.reason.Fault.{Fault}
use Rattle.bridge_io.specs.declared.reason.Reason.{Reason}
use Rattle.name_rules.specs.Least.{IsLeast}
use Rattle.prism_tree.specs.Syntax as prism
use Rattle.prism_check.specs.SizeFaults.{command_count}
use Rattle.prism_print.specs.Comments.{lines_text}
use Rattle.prism_print.specs.Same.{bare_file}
use Rattle.jani_tree.specs.Syntax as jani
use Rattle.jani_check.specs.Faults.{edge_count}
use Rattle.prism_translation.specs.Lines.{lines}
use Rattle.prism_translation.specs.Refused.{refused}
use Rattle.prism_translation.specs.Translated.{translated}
use Rattle.command_words.specs.declared.request.Task.{Task}
use Rattle.command_words.specs.declared.request.Task.TheVariants.{ToJani, ToPrism, ToPrismProps, CheckPrism, CheckJani}
use Rattle.command_words.specs.Words.{carry, check, files_of, generate, on_file, specialise, walk, with_properties}
use Rattle.model_files.specs.Once.{OnePrismFault}
use Rattle.model_files.specs.PrismFile.{IsPrismFault}
use Rattle.model_files.proofs.Once.{faulty_or_jani, faulty_or_prism, one_jani_fault, one_jani_tree, one_least, one_prism_tree}
use Rattle.model_translation.specs.Once.{OnePropertiesFault, OnePropertiesRefused, OnePropertiesText, OneTranslation, OneTranslationWith}
use Rattle.model_translation.specs.WithProperties.{IsPropertiesFault}
use Rattle.model_translation.specs.Laws.{OneListOfFaults}
use Rattle.model_process.specs.Claims.{EndsOnFiles, IsFileFault}
use Rattle.model_process.specs.Models.{IsModelFault}
use Rattle.model_process.specs.Walks.{EndsOnBytes}
use Rattle.model_process.specs.declared.ending.Ending.{Ending}
use Rattle.model_carrying.specs.Ends.{EndsOnCarryFiles, IsCarryFileFault}
use Rattle.model_carrying.specs.Once.{CarryEndOrFault, OneCarryEnd, OneCarryFault}
use Rattle.model_specialising.specs.Ends.{EndsOnSpecialise}
use Rattle.model_specialising.specs.Once.{OneSpecialiseEnd, SpecialiseEndOrFault}
use Rattle.model_process.specs.Once.{ClaimEndOrFault, EndOrFault, OneClaimEnd, OneEnd, OneFileFault, OneModelFault}
use Rattle.model_command.specs.Checking.{jani_line, prism_line}
use Rattle.model_command.specs.ToPrism.{IsPrismRefused, of_file, of_result, TranslatesToPrism}
use Rattle.model_command.specs.Generating.{generated_line}
use Rattle.model_command.specs.Tasks.{IsLeastFor, Makes}
use Rattle.model_command.specs.Outcome.{line_of, place_in}
use Rattle.model_command.specs.Run.{IsAlone, IsFileEnd, IsFilesEnd, IsGenerateEnd, IsPair, IsPairEnd, IsRefusedAt, IsSpecialiseEnd, IsTaskEnd, IsWalkEnd}
use Rattle.model_command.specs.OneEnding.{OneEnding}
use Rattle.model_command.specs.declared.outcome.Outcome.{Outcome}
use Rattle.model_command.specs.declared.outcome.Outcome.TheVariants.{Done, Ended, Refused, Words, ReadFault, NoMemory}
use Rattle.model_command.proofs.Exact.{least_not_fit}
use Rattle.model_command.proofs.Paired.{no_model_fault, no_properties_fault, translated_faultless}
use Rattle.model_specialising.proofs.PrismTexts.{one_prism_text}
use Rattle.model_command.proofs.Told.{makes_fit}

-- ---- what a JANI file is translated to
one_prism : (bytes text other : List ℕ) → TranslatesToPrism bytes text → TranslatesToPrism bytes other → text ≡ other
one_prism bytes text other (t, m, h) (u, n, k) =
    let trees : t ≡ u = one_jani_tree bytes t u h.translatable.faultless k.translatable.faultless in
    let models : bare_file m ≡ bare_file n = h.written.translated.shape ∙ ap (λ x. bare_file (translated x)) trees ∙ sym k.written.translated.shape in
    h.written.text_is ∙ ap₂ (λ x y. lines_text (lines x) ++ y) trees (one_prism_text m n models) ∙ sym k.written.text_is

one_refused : (bytes : List ℕ) (f g : Fault) → IsPrismRefused bytes f → IsPrismRefused bytes g → f ≡ g
one_refused bytes f g (of_file h) (of_file k) = one_jani_fault bytes f g h k
one_refused bytes f g (of_file h) (of_result t r l) = absurd (faulty_or_jani bytes f t h r)
one_refused bytes f g (of_result t r l) (of_file k) = absurd (faulty_or_jani bytes g t k r)
one_refused bytes f g (of_result t r l) (of_result u s m) = one_least (refused t) f g l (subst (λ x. IsLeast (refused x) g) (one_jani_tree bytes u t s r) m)

-- ---- outcomes
-- a refusal at one fault of some bytes
refused_so : (bytes : List ℕ) (f g : Fault) (r q : Reason) (a b : Place) → f ≡ g → IsRefusedAt bytes f r a → IsRefusedAt bytes g q b → Refused r a ≡ Refused q b
refused_so bytes f g r q a b e h k = ap₂ Refused (h.0 ∙ ap (λ (x : Fault). x.reason) e ∙ sym k.0) (h.1 ∙ ap (λ (x : Fault). place_in bytes x.at) e ∙ sym k.1)

-- the same outcome, and the same line
abbrev IsSame : List ℕ → List ℕ → Outcome → Outcome → Type 0
IsSame name other o p = (o ≡ p) × (line_of name o ≡ line_of other p)

-- the line of an outcome where both are of one file
of_one : (name other : List ℕ) (o p : Outcome) → name ≡ other → o ≡ p → IsSame name other o p
of_one name other o p n e = (e, ap₂ line_of n e)

-- ---- one file
module _ (one_fault : OnePrismFault) (one_translation : OneTranslation) (one_properties : OnePropertiesText) (one_properties_refused : OnePropertiesRefused) where
  one_made : (task : Task) (bytes text other : List ℕ) → Makes task bytes text → Makes task bytes other → text ≡ other
  one_made ToJani bytes text other h k = one_translation bytes text other h k
  one_made ToPrism bytes text other h k = one_prism bytes text other h k
  one_made ToPrismProps bytes text other h k = one_properties bytes text other h k
  one_made CheckPrism bytes text other (t, h) (u, k) =
      h.told ∙ ap (λ (x : prism.File). prism_line (length x.modules) (command_count x)) (one_prism_tree bytes t u h.faultless k.faultless) ∙ sym k.told
  one_made CheckJani bytes text other (t, h) (u, k) =
      h.told ∙ ap (λ (x : jani.File). jani_line (length x.elements) (edge_count x)) (one_jani_tree bytes t u h.faultless k.faultless) ∙ sym k.told

  one_task_fault : (task : Task) (bytes : List ℕ) (f g : Fault) → IsLeastFor task bytes f → IsLeastFor task bytes g → f ≡ g
  one_task_fault ToJani bytes f g h k = one_fault bytes f g h k
  one_task_fault ToPrism bytes f g h k = one_refused bytes f g h k
  one_task_fault ToPrismProps bytes f g h k = one_properties_refused bytes f g h k
  one_task_fault CheckPrism bytes f g h k = one_fault bytes f g h k
  one_task_fault CheckJani bytes f g h k = one_jani_fault bytes f g h k

  one_task_end : (task : Task) (bytes : List ℕ) (o p : Outcome) → IsTaskEnd task bytes o → IsTaskEnd task bytes p → o ≢ NoMemory → p ≢ NoMemory → o ≡ p
  one_task_end task bytes (Done text) (Done other) h k m n = ap Done (one_made task bytes text other h k)
  one_task_end task bytes (Done text) (Ended e) h k m n = absurd k
  one_task_end task bytes (Done text) (Refused r a) h (f, k, u, v) m n = absurd (least_not_fit task bytes f k (makes_fit task bytes text h))
  one_task_end task bytes (Done text) (Words i) h k m n = absurd k
  one_task_end task bytes (Done text) ReadFault h k m n = absurd k
  one_task_end task bytes (Ended e) p h k m n = absurd h
  one_task_end task bytes (Refused r a) (Done text) (f, h, u, v) k m n = absurd (least_not_fit task bytes f h (makes_fit task bytes text k))
  one_task_end task bytes (Refused r a) (Ended e) h k m n = absurd k
  one_task_end task bytes (Refused r a) (Refused q b) (f, h, u, v) (g, k, x, y) m n = refused_so bytes f g r q a b (one_task_fault task bytes f g h k) (u, v) (x, y)
  one_task_end task bytes (Refused r a) (Words i) h k m n = absurd k
  one_task_end task bytes (Refused r a) ReadFault h k m n = absurd k
  one_task_end task bytes (Words i) p h k m n = absurd h
  one_task_end task bytes ReadFault p h k m n = absurd h
  one_task_end task bytes NoMemory p h k m n = absurd (m refl)
  one_task_end task bytes o NoMemory h k m n = absurd (n refl)

-- ---- models that are generated
module _ (one_translation : OneTranslation) where
  one_generate_end : (modules : ℕ) (name other : List ℕ) (o p : Outcome) → IsGenerateEnd modules o → IsGenerateEnd modules p → o ≢ NoMemory → p ≢ NoMemory → IsSame name other o p
  one_generate_end modules name other (Done text) (Done written) h k m n =
      let first : h.jani ≡ k.jani = one_translation _ h.jani k.jani h.to_jani k.to_jani in
      let second : h.prism ≡ k.prism = one_prism k.jani h.prism k.prism (subst (λ t. TranslatesToPrism t h.prism) first h.to_prism) k.to_prism in
      (ap Done (h.told ∙ ap₂ (λ a b. generated_line modules (3 * modules - 1) (length a) (length b)) first second ∙ sym k.told), refl)
  one_generate_end modules name other (Done text) (Ended e) h k m n = absurd k
  one_generate_end modules name other (Done text) (Refused r a) h k m n = absurd k
  one_generate_end modules name other (Done text) (Words i) h k m n = absurd k
  one_generate_end modules name other (Done text) ReadFault h k m n = absurd k
  one_generate_end modules name other (Ended e) p h k m n = absurd h
  one_generate_end modules name other (Refused r a) p h k m n = absurd h
  one_generate_end modules name other (Words i) p h k m n = absurd h
  one_generate_end modules name other ReadFault p h k m n = absurd h
  one_generate_end modules name other NoMemory p h k m n = absurd (m refl)
  one_generate_end modules name other o NoMemory h k m n = absurd (n refl)

-- ---- one file, of which an end is made
module _ (IsEnding : Ending → Type 0) (IsFaulty : Fault → Type 0) (one_end : (e g : Ending) → IsEnding e → IsEnding g → e ≡ g) (one_fault : (f g : Fault) → IsFaulty f → IsFaulty g → f ≡ g)
    (either : (e : Ending) (f : Fault) → IsEnding e → IsFaulty f → ⊥) (bytes : List ℕ) where
  one_file_end : (o p : Outcome) → IsFileEnd IsEnding IsFaulty bytes o → IsFileEnd IsEnding IsFaulty bytes p → o ≢ NoMemory → p ≢ NoMemory → o ≡ p
  one_file_end (Done text) p h k m n = absurd h
  one_file_end (Ended e) (Done text) h k m n = absurd k
  one_file_end (Ended e) (Ended g) h k m n = ap Ended (one_end e g h k)
  one_file_end (Ended e) (Refused r a) h (f, k, u, v) m n = absurd (either e f h k)
  one_file_end (Ended e) (Words i) h k m n = absurd k
  one_file_end (Ended e) ReadFault h k m n = absurd k
  one_file_end (Refused r a) (Done text) h k m n = absurd k
  one_file_end (Refused r a) (Ended e) (f, h, u, v) k m n = absurd (either e f k h)
  one_file_end (Refused r a) (Refused q b) (f, h, u, v) (g, k, x, y) m n = refused_so bytes f g r q a b (one_fault f g h k) (u, v) (x, y)
  one_file_end (Refused r a) (Words i) h k m n = absurd k
  one_file_end (Refused r a) ReadFault h k m n = absurd k
  one_file_end (Words i) p h k m n = absurd h
  one_file_end ReadFault p h k m n = absurd h
  one_file_end NoMemory p h k m n = absurd (m refl)
  one_file_end o NoMemory h k m n = absurd (n refl)

-- ---- a model with its properties
module _ (one_fault : OnePrismFault) (one_text : OneTranslationWith) (one_properties : OnePropertiesFault) (lists : OneListOfFaults) (file properties model second : List ℕ) where
  -- a model and its properties aren't both refused
  not_both : (f g : Fault) → IsPrismFault model f → IsPropertiesFault model second g → ⊥
  not_both f g h (t, k, l) = faulty_or_prism model f t h k

  one_pair_end : (name other : List ℕ) (o p : Outcome) → IsPairEnd file properties model second name o → IsPairEnd file properties model second other p → o ≢ NoMemory → p ≢ NoMemory → IsSame name other o p
  one_pair_end name other (Done text) (Done written) h k m n = (ap Done (one_text model second text written h k), refl)
  one_pair_end name other (Done text) (Ended e) h k m n = absurd k
  one_pair_end name other (Done text) (Refused r a) h (inl (x, (f, k, u))) m n = absurd (no_model_fault model second f k (translated_faultless model second text h))
  one_pair_end name other (Done text) (Refused r a) h (inr (x, (f, k, u))) m n = absurd (no_properties_fault lists model second f k (translated_faultless model second text h))
  one_pair_end name other (Done text) (Words i) h k m n = absurd k
  one_pair_end name other (Done text) ReadFault h k m n = absurd k
  one_pair_end name other (Ended e) p h k m n = absurd h
  one_pair_end name other (Refused r a) (Done text) (inl (x, (f, h, u))) k m n = absurd (no_model_fault model second f h (translated_faultless model second text k))
  one_pair_end name other (Refused r a) (Done text) (inr (x, (f, h, u))) k m n = absurd (no_properties_fault lists model second f h (translated_faultless model second text k))
  one_pair_end name other (Refused r a) (Ended e) h k m n = absurd k
  one_pair_end name other (Refused r a) (Refused q b) (inl (x, (f, h, u))) (inl (y, (g, k, v))) m n =
      of_one name other (Refused r a) (Refused q b) (x ∙ sym y) (refused_so model f g r q a b (one_fault model f g h k) u v)
  one_pair_end name other (Refused r a) (Refused q b) (inl (x, (f, h, u))) (inr (y, (g, k, v))) m n = absurd (not_both f g h k)
  one_pair_end name other (Refused r a) (Refused q b) (inr (x, (f, h, u))) (inl (y, (g, k, v))) m n = absurd (not_both g f k h)
  one_pair_end name other (Refused r a) (Refused q b) (inr (x, (f, h, u))) (inr (y, (g, k, v))) m n =
      of_one name other (Refused r a) (Refused q b) (x ∙ sym y) (refused_so second f g r q a b (one_properties model second f g h k) u v)
  one_pair_end name other (Refused r a) (Words i) h k m n = absurd k
  one_pair_end name other (Refused r a) ReadFault h k m n = absurd k
  one_pair_end name other (Words i) p h k m n = absurd h
  one_pair_end name other ReadFault p h k m n = absurd h
  one_pair_end name other NoMemory p h k m n = absurd (m refl)
  one_pair_end name other o NoMemory h k m n = absurd (n refl)

-- ---- several files
module _ (IsEnding : Ending → Type 0) (IsFaulty : ℕ → Fault → Type 0) (one_end : (e g : Ending) → IsEnding e → IsEnding g → e ≡ g) (one_fault : (i j : ℕ) (f g : Fault) → IsFaulty i f → IsFaulty j g → (i ≡ j) × (f ≡ g))
    (either : (e : Ending) (i : ℕ) (f : Fault) → IsEnding e → IsFaulty i f → ⊥) (names contents : List (List ℕ)) where
  one_files_end : (name other : List ℕ) (o p : Outcome) → IsFilesEnd IsEnding IsFaulty names contents name o → IsFilesEnd IsEnding IsFaulty names contents other p → o ≢ NoMemory → p ≢ NoMemory → IsSame name other o p
  one_files_end name other (Done text) p h k m n = absurd h
  one_files_end name other (Ended e) (Done text) h k m n = absurd k
  one_files_end name other (Ended e) (Ended g) h k m n = let same : Ended e ≡ Ended g = ap Ended (one_end e g h k) in (same, ap (λ x. line_of name x) same)
  one_files_end name other (Ended e) (Refused r a) h (i, bytes, f, k, x, y, u, v) m n = absurd (either e i f h k)
  one_files_end name other (Ended e) (Words i) h k m n = absurd k
  one_files_end name other (Ended e) ReadFault h k m n = absurd k
  one_files_end name other (Refused r a) (Done text) h k m n = absurd k
  one_files_end name other (Refused r a) (Ended e) (i, bytes, f, h, x, y, u, v) k m n = absurd (either e i f k h)
  one_files_end name other (Refused r a) (Refused q b) (i, bytes, f, h, x, y, u, v) (j, others, g, k, z, w, d, e) m n =
      let same = one_fault i j f g h k in
      let named : name ≡ other = same_Some name other (sym x ∙ ap (slice_get names) same.0 ∙ z) in
      let texts : bytes ≡ others = same_Some bytes others (sym y ∙ ap (slice_get contents) same.0 ∙ w) in
      of_one name other (Refused r a) (Refused q b) named (refused_so bytes f g r q a b same.1 (u, v) (subst (λ t. IsRefusedAt t g q b) (sym texts) (d, e)))
  one_files_end name other (Refused r a) (Words i) h k m n = absurd k
  one_files_end name other (Refused r a) ReadFault h k m n = absurd k
  one_files_end name other (Words i) p h k m n = absurd h
  one_files_end name other ReadFault p h k m n = absurd h
  one_files_end name other NoMemory p h k m n = absurd (m refl)
  one_files_end name other o NoMemory h k m n = absurd (n refl)

-- ---- any request
-- what holds of the one file of both
alone_both : (P Q : List ℕ → Type 0) (R : Type 0) → ((bytes : List ℕ) → P bytes → Q bytes → R) → (contents : List (List ℕ)) → IsAlone P contents → IsAlone Q contents → R
alone_both P Q R f [] h k = absurd h
alone_both P Q R f (bytes ∷ []) h k = f bytes h k
alone_both P Q R f (bytes ∷ other ∷ contents) h k = absurd h

pair_both : (P Q : List ℕ → List ℕ → Type 0) (R : Type 0) → ((a b : List ℕ) → P a b → Q a b → R) → (contents : List (List ℕ)) → IsPair P contents → IsPair Q contents → R
pair_both P Q R f [] h k = absurd h
pair_both P Q R f (a ∷ []) h k = absurd h
pair_both P Q R f (a ∷ b ∷ []) h k = f a b h k
pair_both P Q R f (a ∷ b ∷ c ∷ contents) h k = absurd h

pub record Laws : Type 0 where
  pub fault : OnePrismFault
  pub translation : OneTranslation
  pub translation_with : OneTranslationWith
  pub properties_fault : OnePropertiesFault
  pub properties : OnePropertiesText
  pub properties_refused : OnePropertiesRefused
  pub lists : OneListOfFaults
  pub end : OneEnd
  pub model_fault : OneModelFault
  pub either : EndOrFault
  pub claim : OneClaimEnd
  pub file_fault : OneFileFault
  pub claim_either : ClaimEndOrFault
  pub carried : OneCarryEnd
  pub carried_fault : OneCarryFault
  pub carried_either : CarryEndOrFault
  pub specialised : OneSpecialiseEnd
  pub specialised_either : SpecialiseEndOrFault

pub one_ending : Laws → OneEnding
one_ending laws (on_file task file) contents name other o p h k m n =
    of_one name other o p (h.0 ∙ sym k.0)
    (alone_both (λ bytes. IsTaskEnd task bytes o) (λ bytes. IsTaskEnd task bytes p) (o ≡ p)
    (λ bytes a b. one_task_end laws.fault laws.translation laws.properties laws.properties_refused task bytes o p a b m n) contents h.1 k.1)
one_ending laws (with_properties file properties) contents name other o p h k m n =
    pair_both (λ model second. IsPairEnd file properties model second name o) (λ model second. IsPairEnd file properties model second other p) (IsSame name other o p)
    (λ model second a b. one_pair_end laws.fault laws.translation_with laws.properties_fault laws.lists file properties model second name other o p a b m n) contents h k
one_ending laws (generate modules) contents name other o p h k m n = one_generate_end laws.translation modules name other o p h k m n
one_ending laws (walk w) contents name other o p h k m n =
    of_one name other o p (h.0 ∙ sym k.0)
    (alone_both (λ bytes. IsWalkEnd w bytes o) (λ bytes. IsWalkEnd w bytes p) (o ≡ p)
    (λ bytes a b. one_file_end (EndsOnBytes w.lang w bytes) (IsModelFault w.lang bytes) (laws.end w.lang w bytes) (laws.model_fault w.lang bytes) (laws.either w.lang w bytes) bytes o p a b m n) contents h.1 k.1)
one_ending laws (check c) contents name other o p h k m n =
    one_files_end (EndsOnFiles c contents) (IsFileFault c contents) (laws.claim c contents) (laws.file_fault c contents) (laws.claim_either c contents) (files_of (check c)) contents name other o p h k m n
one_ending laws (carry c) contents name other o p h k m n =
    one_files_end (EndsOnCarryFiles c contents) (IsCarryFileFault c contents) (laws.carried c contents) (laws.carried_fault c contents) (laws.carried_either c contents) (files_of (carry c)) contents name other o p h k m n
one_ending laws (specialise q) contents name other o p h k m n =
    of_one name other o p (h.0 ∙ sym k.0)
    (alone_both (λ bytes. IsSpecialiseEnd q bytes o) (λ bytes. IsSpecialiseEnd q bytes p) (o ≡ p)
    (λ bytes a b. one_file_end (EndsOnSpecialise q bytes) (IsModelFault q.lang bytes) (laws.specialised q bytes) (laws.model_fault q.lang bytes) (laws.specialised_either q bytes) bytes o p a b m n) contents h.1 k.1)
