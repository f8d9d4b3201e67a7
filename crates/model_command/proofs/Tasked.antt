-- What is made of bytes, as its own call tells it.
use Rattle.std.proofs.Common.{◌≡◌, refl, sym, subst, inl, inr, [], ◌∷◌, length, slice_index_or}
use Rattle.std.specs.Borrow.{Bor}
use Rattle.std.specs.Prelude.{ℕ, List, Result, Ok, Err}
use Rattle.bridge_io.specs.declared.reason.Refused.{Refused}
use Rattle.bridge_io.specs.declared.reason.Refused.TheVariants.{Memory, At}
use Rattle.command_words.specs.declared.request.Task.TheVariants.{ToJani, ToPrismProps}
use Rattle.command_words.specs.Words.{with_properties}
use Rattle.model_translation.specs.Translation.{TranslatesBytes}
use Rattle.model_translation.specs.JaniProperties.{TranslatesHeld}
use Rattle.model_translation.specs.WithProperties.{TranslatesFiles}
use Rattle.model_translation.specs.declared.properties.FilesRefused.{FilesRefused}
use Rattle.model_translation.specs.declared.properties.FilesRefused.TheVariants as files
use Rattle.model_command.specs.Tasks.{Judged}
use Rattle.model_command.specs.Run.{IsPairEnd, IsEndOn, names_of, pair_name, pair_outcome}
use Rattle.model_command.specs.declared.outcome.Outcome.{Outcome}
use Rattle.model_command.proofs.Several.{first_named, second_named, two_files}

pub to_jani_judged : (bytes : List ℕ) (r : Result (List ℕ) Refused) → TranslatesBytes bytes r → Judged ToJani bytes r
to_jani_judged bytes (Ok text) h = h
to_jani_judged bytes (Err (Memory e)) h = h
to_jani_judged bytes (Err (At f)) h = h

pub properties_judged : (bytes : List ℕ) (r : Result (List ℕ) Refused) → TranslatesHeld bytes r → Judged ToPrismProps bytes r
properties_judged bytes (Ok text) h = h
properties_judged bytes (Err (Memory e)) h = h
properties_judged bytes (Err (At f)) h = h

pub pair_ended : (file properties model second name other : List ℕ) (r : Result (List ℕ) FilesRefused) → name ≡ file → other ≡ properties → TranslatesFiles model second r →
    IsPairEnd file properties model second (pair_name name other r) (pair_outcome model second r)
pair_ended file properties model second name other (Ok text) n o h = h
pair_ended file properties model second name other (Err (files.Memory e)) n o h = h
pair_ended file properties model second name other (Err (files.Model f)) n o h = inl (n, (f, h, (refl, refl)))
pair_ended file properties model second name other (Err (files.Properties f)) n o h = inr (o, (f, h, (refl, refl)))

-- of the first two names and contents
pub pair_told : (file properties : List ℕ) (names : List (Bor (List ℕ))) (contents : List (List ℕ)) (d0 d1 : Bor (List ℕ)) (e0 e1 a b model second : List ℕ) (r : Result (List ℕ) FilesRefused) (name : List ℕ) (o : Outcome) →
    names_of names ≡ file ∷ properties ∷ [] → length contents ≡ length names → a ≡ slice_index_or contents 0 e0 → b ≡ slice_index_or contents 1 e1 → model ≡ a → second ≡ b → TranslatesFiles model second r →
    name ≡ pair_name (slice_index_or names 0 d0).now (slice_index_or names 1 d1).now r → o ≡ pair_outcome model second r → IsEndOn (with_properties file properties) contents name o
pair_told file properties names contents d0 d1 e0 e1 a b model second r name o same many first next is_first is_second h n q =
    let ended : IsPairEnd file properties model second (pair_name (slice_index_or names 0 d0).now (slice_index_or names 1 d1).now r) (pair_outcome model second r) =
    pair_ended file properties model second (slice_index_or names 0 d0).now (slice_index_or names 1 d1).now r (first_named file properties names d0 same) (second_named file properties names d1 same) h in
    let named : IsPairEnd file properties model second name o =
    subst (λ u. IsPairEnd file properties model second u o) (sym n)
    (subst (λ v. IsPairEnd file properties model second (pair_name (slice_index_or names 0 d0).now (slice_index_or names 1 d1).now r) v) (sym q) ended) in
    two_files (λ x y. IsPairEnd file properties x y name o) file properties names contents e0 e1 a b same many first next
    (subst (λ x. IsPairEnd file properties x b name o) is_first (subst (λ y. IsPairEnd file properties model y name o) is_second named))
