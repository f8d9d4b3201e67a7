-- What a run answers and writes where several files are read and all is told.
use Rattle.std.proofs.Common.{◌≡◌, ◌⊎◌, ◌∙◌, sym, ap, ap₂, subst, ℕ, List, [], ◌++◌, append-nil, Option, Some, inl, inr}
use Rattle.std.specs.Io.KnownBytes.{Appends}
use Rattle.bridge_io.specs.Outside.{Lefts}
use Rattle.bridge_io.specs.ReadFail.{IsTooLong}
use Rattle.bridge_io.specs.Reason.{number_of, name_of}
use Rattle.bridge_io.specs.declared.transfer.ReadFail.TheVariants.{TooLong as TooLongAt}
use Rattle.bridge_io.specs.declared.reason.Reason.{Reason}
use Rattle.bridge_io.specs.declared.place.Place.{Place}
use Rattle.command_words.specs.Words.{Request, files_of, AreNamesBehind, IsRequest, OneRequest}
use Rattle.model_command.specs.Outcome.{status_of, text_of, line_of, refusal_line}
use Rattle.model_command.specs.Run.{IsCause, IsEndOn, IsLongEnd, IsReadEnd, ShelfSides}
use Rattle.model_command.specs.Headline.{AreHeld, AreShort, IsFirstLong, IsEndedAsTold, fault_line, too_long}
use Rattle.model_command.specs.declared.outcome.Outcome.{Outcome}
use Rattle.model_command.specs.declared.outcome.Outcome.TheVariants.{Done, Ended, Refused, Words, ReadFault, NoMemory}
use Rattle.model_command.proofs.Exact.{wrong_not_form}
use Rattle.model_command.proofs.Several.{first_once, not_short, reached, whole_same, whole_short}
use Rattle.model_command.proofs.Told.{appended, of_asked, told_long}

module _ (request : Request) (lefts : Lefts) (after : Option Lefts) (contents : List (List ℕ)) (was said : List ℕ) (out err : Option (List ℕ)) (answer : ℕ)
    (apart : AreNamesBehind [] (files_of request)) (held : AreHeld lefts (files_of request) contents) where
  -- all files are read
  read : (named : List ℕ) (o : Outcome) → IsReadEnd request named (Some lefts) after o → answer ≡ status_of o → out ≡ Some (was ++ text_of o) → err ≡ Some (said ++ line_of named o) → IsEndedAsTold request contents was said out err answer
  read named o end status text line =
      let same = whole_same (files_of request) [] lefts after contents end.0 apart held end.1 in
      record {
        short = λ all. (named, o, subst (λ cs. IsEndOn request cs named o) same end.2, status, text, line);
        long = λ name bytes first. absurd (not_short (files_of request) contents name bytes first (subst AreShort same (whole_short (Some lefts) after (files_of request) end.0 end.1)));
      }

  -- one is too long
  long : (named : List ℕ) (reason : Reason) (place : Place) → IsLongEnd request named (Some lefts) after reason place → answer ≡ 2 → out ≡ Some (was ++ []) →
      err ≡ Some (said ++ refusal_line named place (number_of reason) (name_of reason)) → IsEndedAsTold request contents was said out err answer
  long named reason place r status text line =
      let k = r.1.1 in
      let i = reached k.front named k.back [] lefts r.1.0 contents k.contents (subst (AreNamesBehind []) k.among apart) (subst (λ names. AreHeld lefts names contents) k.among held) k.read in
      let t = told_long i.now named i.bytes i.held after reason place (r.0, subst (λ m. IsTooLong m after named 16777216 (TooLongAt place)) i.told r.1.2) in
      let first : IsFirstLong (files_of request) contents named i.bytes = subst (λ names. IsFirstLong names contents named i.bytes) (sym k.among) (i.first t.0) in
      record {
        short = λ all. absurd (not_short (files_of request) contents named i.bytes first all);
        long = λ name bytes other.
            let s = first_once (files_of request) contents named name i.bytes bytes first other in
            (status, text ∙ ap Some (append-nil was), line ∙ ap (λ l. Some (said ++ l)) (t.1 ∙ ap₂ (λ n b. fault_line n b too_long) s.0 s.1));
      }

module _ (shelf : ShelfSides) (words : List (List ℕ)) (named : List ℕ) (one : OneRequest) (lefts : Lefts) (told : shelf.left ≡ Some lefts)
    (contents : List (List ℕ)) (was said : List ℕ) (out err : Option (List ℕ)) (answer : ℕ) (no_read : answer ≡ 4 → ⊥) (no_memory : answer ≡ 6 → ⊥)
    (request : Request) (apart : AreNamesBehind [] (files_of request)) (held : AreHeld lefts (files_of request) contents) (form : IsRequest words request) where
  by_reading : (outcome : Outcome) → IsReadEnd request named (Some lefts) shelf.left_after outcome → answer ≡ status_of outcome → Appends (Some was) out (text_of outcome) → Appends (Some said) err (line_of named outcome) →
      IsEndedAsTold request contents was said out err answer
  by_reading outcome v status o e = read request lefts shelf.left_after contents was said out err answer apart held named outcome v status (appended was out _ o) (appended said err _ e)

  pub ended_of : (outcome : Outcome) → IsCause shelf words named outcome →
      answer ≡ status_of outcome → Appends (Some was) out (text_of outcome) → Appends (Some said) err (line_of named outcome) → IsEndedAsTold request contents was said out err answer
  ended_of (Done text) (inl cause) status o e = absurd cause
  ended_of (Done text) (inr cause) status o e =
      by_reading (Done text) (of_asked words one lefts request shelf.left told form (λ r before. IsReadEnd r named before shelf.left_after (Done text)) cause.0 cause.1 cause.2) status o e
  ended_of (Ended en) (inl cause) status o e = absurd cause
  ended_of (Ended en) (inr cause) status o e =
      by_reading (Ended en) (of_asked words one lefts request shelf.left told form (λ r before. IsReadEnd r named before shelf.left_after (Ended en)) cause.0 cause.1 cause.2) status o e
  ended_of (Refused reason place) (inl cause) status o e = absurd cause
  ended_of (Refused reason place) (inr cause) status o e =
      by_end (of_asked words one lefts request shelf.left told form
      (λ r before. IsLongEnd r named before shelf.left_after reason place ⊎ IsReadEnd r named before shelf.left_after (Refused reason place)) cause.0 cause.1 cause.2)
    where
      by_end : IsLongEnd request named (Some lefts) shelf.left_after reason place ⊎ IsReadEnd request named (Some lefts) shelf.left_after (Refused reason place) → IsEndedAsTold request contents was said out err answer
      by_end (inl r) = long request lefts shelf.left_after contents was said out err answer apart held named reason place r status (appended was out [] o) (appended said err _ e)
      by_end (inr r) = by_reading (Refused reason place) r status o e
  ended_of (Words j) (inl cause) status o e = absurd (wrong_not_form words j request cause form)
  ended_of (Words j) (inr cause) status o e = absurd cause.2
  ended_of ReadFault cause status o e = absurd (no_read status)
  ended_of NoMemory cause status o e = absurd (no_memory status)
