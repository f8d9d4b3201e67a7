-- Which outcome comes where.
use Rattle.std.proofs.Common.{arith, ◌≡◌, ◌⊎◌, ◌∙◌, sym, ap, subst, ℕ, ◌≤◌, List, [], ◌++◌, length, drop, Option, Some, None, inl, inr}
use Rattle.std.proofs.lemmas.List.{take-append-drop, append-nil}
use Rattle.std.proofs.Common.{length-append, IsSome}
use Rattle.std.specs.Io.KnownBytes.{prepend_known}
use Rattle.bridge_io.specs.Outside.{Lefts}
use Rattle.bridge_io.specs.declared.reason.Fault.{Fault}
use Rattle.name_rules.proofs.Plain.{no_least}
use Rattle.command_words.specs.declared.request.Task.{Task}
use Rattle.command_words.specs.declared.request.Task.TheVariants.{ToJani, ToPrism, ToPrismProps, CheckPrism, CheckJani}
use Rattle.command_words.specs.Words.{Request, IsRequest, HasForm, IsWrongAt}
use Rattle.jani_tree.specs.Syntax.{File as JaniFile}
use Rattle.model_files.proofs.Once.{faulty_or_jani, faulty_or_prism, one_jani_tree}
use Rattle.jani_to_prism.specs.Refused.{refused}
use Rattle.prop_trees.specs.Trees.{JaniProperty}
use Rattle.model_translation.specs.Reading.{AreRead}
use Rattle.model_translation.proofs.Only.{no_first_fault}
use Rattle.model_translation.specs.JaniProperties.{HoldsProperties, IsPropertiesRefused, of_file as of_jani_file, of_properties}
use Rattle.model_command.specs.ToPrism.{IsTranslatable, IsPrismRefused, of_file, of_result}
use Rattle.model_command.specs.Tasks.{IsFit, IsLeastFor}
use Rattle.model_command.specs.Outcome.{status_of}
use Rattle.model_command.specs.Run.{IsCause, IsReadWhole, ShelfSides}
use Rattle.model_command.specs.declared.outcome.Outcome.{Outcome}
use Rattle.model_command.specs.declared.outcome.Outcome.TheVariants.{Done, Ended, Refused, Words, ReadFault, NoMemory}

-- words of a form have no wrong word
pub wrong_not_form : (words : List (List ℕ)) (k : ℕ) (request : Request) → IsWrongAt words k → IsRequest words request → ⊥
wrong_not_form words k request (inl wrong) form = wrong.3 (drop k words, subst HasForm (sym (take-append-drop k words)) (request, form))
wrong_not_form words k request (inr wrong) form = wrong.2 (request, form)

module _ (shelf : ShelfSides) (words : List (List ℕ)) (name : List ℕ) (answer : ℕ) where
  pub exact_words : (outcome : Outcome) → IsCause shelf words name outcome → (answer ≡ status_of outcome) ⊎ (answer ≡ 5) → (k : ℕ) → IsWrongAt words k → (answer ≡ 3) ⊎ (answer ≡ 5) ⊎ (answer ≡ 6)
  exact_words outcome (inr cause) status k wrong = absurd (wrong_not_form words k cause.0 wrong cause.1)
  exact_words (Done text) (inl cause) status k wrong = absurd cause
  exact_words (Ended e) (inl cause) status k wrong = absurd cause
  exact_words (Refused reason place) (inl cause) status k wrong = absurd cause
  exact_words (Words j) (inl cause) status k wrong = grind (arith, status)
  exact_words ReadFault (inl cause) status k wrong = absurd cause
  exact_words NoMemory (inl cause) status k wrong = grind (arith, status)

pub whole_bytes : (lefts : Lefts) (after : Option Lefts) (name bytes read : List ℕ) → lefts name ≡ Some bytes → IsReadWhole (Some lefts) after name read → read ≡ bytes
whole_bytes lefts None name bytes read had whole = absurd whole.takes
whole_bytes lefts (Some now) name bytes read had whole =
    let none : now name ≡ Some [] = whole.spent in
    let was : lefts name ≡ Some (read ++ []) = whole.takes.was ∙ ap (prepend_known read) none in
    let same : read ++ [] ≡ bytes = cc in
    sym (append-nil read) ∙ same

pub too_long_told : (lefts now : Lefts) (name bytes read : List ℕ) → lefts name ≡ Some bytes → lefts name ≡ prepend_known read (now name) → IsSome (now name) → length read ≤ length bytes
too_long_told lefts now name bytes read had was on = of (now name) was on
  where
    of : (rest : Option (List ℕ)) → lefts name ≡ prepend_known read rest → IsSome rest → length read ≤ length bytes
    of None was on = absurd (let o = on in cc)
    of (Some rest) was on =
        let same : read ++ rest ≡ bytes = cc in
        omega (arith, length-append read rest, ap length same)

-- a JANI file that can be translated has no fault
not_translatable : (bytes : List ℕ) (f : Fault) (tree : JaniFile) → IsPrismRefused bytes f → IsTranslatable bytes tree → ⊥
not_translatable bytes f tree (of_file fault) ok = faulty_or_jani bytes f tree fault ok.faultless
not_translatable bytes f tree (of_result other read least) ok =
    no_least _ f (subst (λ t. refused t ≡ []) (one_jani_tree bytes tree other ok.faultless read) ok.accepted) least

-- nor has one whose properties are read
not_holding : (bytes : List ℕ) (f : Fault) (tree : JaniFile) (ps : List JaniProperty) → IsPropertiesRefused bytes f → HoldsProperties bytes tree ps → ⊥
not_holding bytes f tree ps (of_jani_file fault) ok = faulty_or_jani bytes f tree fault ok.faultless
not_holding bytes f tree ps (of_properties other read first) ok =
    no_first_fault other ps f (subst (λ t. AreRead t ps) (one_jani_tree bytes tree other ok.faultless read) ok.read) first

-- bytes that have a fault are not fit for the task
pub least_not_fit : (task : Task) (bytes : List ℕ) (f : Fault) → IsLeastFor task bytes f → IsFit task bytes → ⊥
least_not_fit ToJani bytes f fault (tree, ok) = faulty_or_prism bytes f tree fault ok
least_not_fit ToPrism bytes f fault (tree, ok) = not_translatable bytes f tree fault ok
least_not_fit ToPrismProps bytes f fault (tree, ps, ok) = not_holding bytes f tree ps fault ok
least_not_fit CheckPrism bytes f fault (tree, ok) = faulty_or_prism bytes f tree fault ok
least_not_fit CheckJani bytes f fault (tree, ok) = faulty_or_jani bytes f tree fault ok
