-- What a run answers and writes where all is told.
use Rattle.std.proofs.Common.{arith, ◌≡◌, ◌⊎◌, ◌∙◌, refl, sym, ap, subst, ℕ, ◌+◌, ◌<◌, ◌≤◌, List, [], ◌++◌, length, take, Option, Some, None, inl, inr}
use Rattle.std.proofs.Common.{length-append, IsSome, append-nil}
use Rattle.std.specs.Prelude.{codes, ◌==◌, count_by}
use Rattle.std.specs.List.{after_last}
use Rattle.bridge_io.specs.ReadFail.{IsTooLong}
use Rattle.bridge_io.specs.declared.transfer.ReadFail.TheVariants.{TooLong as TooLongAt}
use Rattle.std.proofs.lemmas.List.{take-append-le}
use Rattle.std.specs.Io.KnownBytes.{Appends, prepend_known}
use Rattle.bridge_io.specs.Outside.{Lefts}
use Rattle.bridge_io.specs.Place.{line_at, column_at}
use Rattle.bridge_io.specs.Reason.{number_of, name_of}
use Rattle.bridge_io.specs.declared.reason.Reason.{Reason}
use Rattle.bridge_io.specs.declared.reason.Reason.TheVariants.{TooLong}
use Rattle.bridge_io.specs.declared.reason.Fault.{Fault}
use Rattle.bridge_io.specs.declared.place.Place.{Place}
use Rattle.command_words.specs.declared.request.Task.{Task}
use Rattle.command_words.specs.declared.request.Task.TheVariants.{ToJani, ToPrism, ToPrismProps, CheckPrism, CheckJani}
use Rattle.command_words.specs.Words.{Request, Walking, on_file, walk, IsRequest, OneRequest}
use Rattle.model_command.specs.Tasks.{Makes, IsFit, IsLeastFor}
use Rattle.model_command.specs.Outcome.{status_of, text_of, line_of, place_in, refusal_line}
use Rattle.model_command.specs.Run.{IsCause, IsReadWhole, IsTaskEnd, IsWalkEnd, IsLongEnd, IsReadEnd, EndsWith, ShelfSides, SinkSides}
use Rattle.model_command.specs.Headline.{IsAccepted, IsHeadline, IsFault, IsShownAsTold, fault_line, too_long}
use Rattle.model_command.specs.declared.outcome.Outcome.{Outcome}
use Rattle.model_command.specs.declared.outcome.Outcome.TheVariants.{Done, Ended, Refused, Words, ReadFault, NoMemory}
use Rattle.model_command.proofs.Place.{same_place}
use Rattle.model_command.proofs.Exact.{whole_bytes, wrong_not_form, least_not_fit}
use Rattle.model_command.proofs.Several.{long_alone, task_read, walk_read}

pub appended : (xs : List ℕ) (now : Option (List ℕ)) (more : List ℕ) → Appends (Some xs) now more → now ≡ Some (xs ++ more)
appended xs None more h = absurd h
appended xs (Some ys) more h = ap Some h

-- what a task is done for is fit for it
pub makes_fit : (task : Task) (bytes text : List ℕ) → Makes task bytes text → IsFit task bytes
makes_fit ToJani bytes text (tree, model, all) = (tree, all.faultless)
makes_fit ToPrism bytes text (tree, model, all) = (tree, all.translatable)
makes_fit ToPrismProps bytes text (tree, ps, all) = (tree, ps, all.holds)
makes_fit CheckPrism bytes text (tree, all) = (tree, all.faultless)
makes_fit CheckJani bytes text (tree, all) = (tree, all.faultless)

-- of a file that is too long the read bytes are the front, of one byte more than the limit
record IsFront (read bytes : List ℕ) : Type 0 where
  long : 16777216 < length bytes
  line : line_at read 16777216 ≡ line_at bytes 16777216
  column : column_at read 16777216 ≡ column_at bytes 16777216

front_of : (lefts now : Lefts) (name bytes read : List ℕ) → lefts name ≡ Some bytes → lefts name ≡ prepend_known read (now name) → IsSome (now name) → length read ≡ 16777216 + 1 → IsFront read bytes
front_of lefts now name bytes read had was on many = of (now name) was on
  where
    of : (rest : Option (List ℕ)) → lefts name ≡ prepend_known read rest → IsSome rest → IsFront read bytes
    of None was on = absurd (let o = on in cc)
    of (Some rest) was on =
        let same : read ++ rest ≡ bytes = cc in
        let front : take 16777216 (read ++ rest) ≡ take 16777216 read = take-append-le 16777216 read rest (omega arith) in
        let fronts : take 16777216 read ≡ take 16777216 bytes = sym front ∙ ap (take 16777216) same in
        record {
          long = omega (arith, length-append read rest, ap length same);
          line = ap (λ l. 1 + count_by (λ b. b == 10) l) fronts;
          column = ap (λ l. 1 + length (after_last (λ b. b == 10) l)) fronts;
        }

-- ---- a file that is too long
module _ (lefts : Lefts) (name bytes : List ℕ) (had : lefts name ≡ Some bytes) where
  pub told_long : (after : Option Lefts) (reason : Reason) (place : Place) → (reason ≡ TooLong) × IsTooLong (Some lefts) after name 16777216 (TooLongAt place) →
      (16777216 < length bytes) × (refusal_line name place (number_of reason) (name_of reason) ≡ fault_line name bytes too_long)
  told_long None reason place r = absurd r.1.2
  told_long (Some now) reason place r =
      let t = r.1 in
      let f = front_of lefts now name bytes t.0 had t.2.was t.3 t.1 in (
        f.long,
        ap (λ q. refusal_line name place (number_of q) (name_of q)) r.0
            ∙ ap (λ (p : Place). refusal_line name p 1 (codes "TooLong")) (same_place place _ _ (t.4 ∙ f.line) (t.5 ∙ f.column)),
      )

-- ---- tasks
module _ (task : Task) (lefts : Lefts) (after : Option Lefts) (name bytes : List ℕ) (had : lefts name ≡ Some bytes) where
  -- why the file isn't accepted: its fault, and the line that tells it
  abbrev Refusal : Reason → Place → Type 0
  Refusal reason place = (IsAccepted task bytes → ⊥) × ((f : Fault) × IsFault task bytes f × (refusal_line name place (number_of reason) (name_of reason) ≡ fault_line name bytes f))

  refusal : (reason : Reason) (place : Place) → ((reason ≡ TooLong) × IsTooLong (Some lefts) after name 16777216 (TooLongAt place))
      ⊎ ((read : List ℕ) × IsReadWhole (Some lefts) after name read × IsTaskEnd task read (Refused reason place)) → Refusal reason place
  refusal reason place (inl r) =
      let t = told_long lefts name bytes had after reason place r in (
        λ acc. let le : length bytes ≤ 16777216 = acc.0 in let gt : 16777216 < length bytes = t.0 in absurd (omega arith),
        (
          too_long,
          record { long = λ _. refl; short = λ le. let gt : 16777216 < length bytes = t.0 in absurd (omega arith) },
          t.1,
        ),
      )
  refusal reason place (inr r) =
      let same : r.0 ≡ bytes = whole_bytes lefts after name bytes r.0 had r.1 in
      let short : length bytes ≤ 16777216 = subst (λ b. length b ≤ 16777216) same r.1.within in
      let f : Fault = r.2.0 in
      let least : IsLeastFor task bytes f = subst (λ b. IsLeastFor task b f) same r.2.1 in
      let there : place ≡ place_in bytes f.at = subst (λ b. place ≡ place_in b f.at) same r.2.3 in (
        λ acc. least_not_fit task bytes f least acc.1,
        (
          f,
          record { long = λ gt. absurd (omega (arith, gt, short)); short = λ _. least },
          ap (λ q. refusal_line name place (number_of q) (name_of q)) r.2.2 ∙ ap (λ (p : Place). refusal_line name p (number_of f.reason) (name_of f.reason)) there,
        ),
      )

  done : (text : List ℕ) → (read : List ℕ) × IsReadWhole (Some lefts) after name read × IsTaskEnd task read (Done text) → IsAccepted task bytes × Makes task bytes text
  done text w =
      let same : w.0 ≡ bytes = whole_bytes lefts after name bytes w.0 had w.1 in
      let all : Makes task bytes text = subst (λ b. Makes task b text) same w.2 in
      let short : length bytes ≤ 16777216 = subst (λ b. length b ≤ 16777216) same w.1.within in
      ((short, makes_fit task bytes text all), all)

  module _ (was said : List ℕ) (out err : Option (List ℕ)) (answer : ℕ) where
    is_done : (text : List ℕ) → IsAccepted task bytes × Makes task bytes text → answer ≡ 0 → out ≡ Some (was ++ text) → err ≡ Some (said ++ []) → IsHeadline task bytes name was said out err answer
    is_done text d zero o e = record {
      exactly = (λ _. d.0, λ _. zero);
      accepted = λ _. (text, d.1, o, e ∙ ap Some (append-nil said));
      refused = λ none. absurd (none d.0);
    }

    is_refused : (line : List ℕ) → (IsAccepted task bytes → ⊥) × ((f : Fault) × IsFault task bytes f × (line ≡ fault_line name bytes f)) → answer ≡ 2 → out ≡ Some (was ++ []) → err ≡ Some (said ++ line) → IsHeadline task bytes name was said out err answer
    is_refused line r two o e = record {
      exactly = (λ zero. absurd (not_both zero two), λ acc. absurd (r.0 acc));
      accepted = λ zero. absurd (not_both zero two);
      refused = λ _. (two, o ∙ ap Some (append-nil was), (r.1.0, r.1.1, e ∙ ap (λ l. Some (said ++ l)) r.1.2));
    }
      where
        not_both : answer ≡ 0 → answer ≡ 2 → ⊥
        not_both a b = omega (arith, a, b)

-- ---- one state, and walks
module _ (w : Walking) (lefts : Lefts) (after : Option Lefts) (bytes was said : List ℕ) (out err : Option (List ℕ)) (answer : ℕ) (had : lefts w.file ≡ Some bytes) where
  shown : (o : Outcome) → (read : List ℕ) × IsReadWhole (Some lefts) after w.file read × IsWalkEnd w read o → answer ≡ status_of o → out ≡ Some (was ++ text_of o) → err ≡ Some (said ++ line_of w.file o) → IsShownAsTold w bytes was said out err answer
  shown o end status text line =
      let same : end.0 ≡ bytes = whole_bytes lefts after w.file bytes end.0 had end.1 in
      let short : length bytes ≤ 16777216 = subst (λ b. length b ≤ 16777216) same end.1.within in
      record {
        short = λ _. (o, subst (λ b. IsWalkEnd w b o) same end.2, status, text, line);
        long = λ gt. absurd (omega (arith, gt, short));
      }

  long_shown : (reason : Reason) (place : Place) → (reason ≡ TooLong) × IsTooLong (Some lefts) after w.file 16777216 (TooLongAt place) → answer ≡ 2 → out ≡ Some (was ++ []) →
      err ≡ Some (said ++ refusal_line w.file place (number_of reason) (name_of reason)) → IsShownAsTold w bytes was said out err answer
  long_shown reason place r status text line =
      let t = told_long lefts w.file bytes had after reason place r in
      let gt : 16777216 < length bytes = t.0 in
      record {
        short = λ le. absurd (omega (arith, gt, le));
        long = λ _. (status, text ∙ ap Some (append-nil was), line ∙ ap (λ l. Some (said ++ l)) t.1);
      }

-- ---- the whole run
pub of_asked : (words : List (List ℕ)) (one : OneRequest) (lefts : Lefts) (asked : Request) (before : Option Lefts) → before ≡ Some lefts → IsRequest words asked →
    (P : Request → Option Lefts → Type 0) → (request : Request) → IsRequest words request → P request before → P asked (Some lefts)
of_asked words one lefts asked before told form P request r p = subst (P asked) told (subst (λ q. P q before) (one words request asked r form) p)

-- the file that is named in what is written
pub named_so : (said : List ℕ) (err : Option (List ℕ)) (o : Outcome) (named name : List ℕ) → named ≡ name → Appends (Some said) err (line_of named o) → err ≡ Some (said ++ line_of name o)
named_so said err o named name same e = appended said err _ e ∙ ap (λ n. Some (said ++ line_of n o)) same

module _ (shelf : ShelfSides) (words : List (List ℕ)) (named : List ℕ) (one : OneRequest) (lefts : Lefts) (told : shelf.left ≡ Some lefts)
    (bytes was said : List ℕ) (out err : Option (List ℕ)) (answer : ℕ) (no_read : answer ≡ 4 → ⊥) (no_memory : answer ≡ 6 → ⊥) where
  pub headline_of : (task : Task) (name : List ℕ) → lefts name ≡ Some bytes → IsRequest words (on_file task name) → (outcome : Outcome) → IsCause shelf words named outcome →
      answer ≡ status_of outcome → Appends (Some was) out (text_of outcome) → Appends (Some said) err (line_of named outcome) → IsHeadline task bytes name was said out err answer
  headline_of task name had form (Done text) (inl cause) status o e = absurd cause
  headline_of task name had form (Done text) (inr cause) status o e =
      let w = of_asked words one lefts (on_file task name) shelf.left told form (λ r before. IsReadEnd r named before shelf.left_after (Done text)) cause.0 cause.1 cause.2 in
      is_done task lefts shelf.left_after name bytes had was said out err answer text (done task lefts shelf.left_after name bytes had text (task_read task name named (Some lefts) shelf.left_after (Done text) w).1) status (appended was out text o) (appended said err [] e)
  headline_of task name had form (Ended en) (inl cause) status o e = absurd cause
  headline_of task name had form (Ended en) (inr cause) status o e =
      let w = of_asked words one lefts (on_file task name) shelf.left told form (λ r before. IsReadEnd r named before shelf.left_after (Ended en)) cause.0 cause.1 cause.2 in
      absurd (task_read task name named (Some lefts) shelf.left_after (Ended en) w).1.2
  headline_of task name had form (Refused reason place) (inl cause) status o e = absurd cause
  headline_of task name had form (Refused reason place) (inr cause) status o e =
      by_end (of_asked words one lefts (on_file task name) shelf.left told form
      (λ r before. IsLongEnd r named before shelf.left_after reason place ⊎ IsReadEnd r named before shelf.left_after (Refused reason place)) cause.0 cause.1 cause.2)
    where
      by_end : IsLongEnd (on_file task name) named (Some lefts) shelf.left_after reason place ⊎ IsReadEnd (on_file task name) named (Some lefts) shelf.left_after (Refused reason place) → IsHeadline task bytes name was said out err answer
      by_end (inl r) =
          let k = long_alone name named (Some lefts) shelf.left_after reason place r in
          is_refused task lefts shelf.left_after name bytes had was said out err answer _ (refusal task lefts shelf.left_after name bytes had reason place (inl k.1)) status (appended was out [] o)
          (named_so said err (Refused reason place) named name k.0 e)
      by_end (inr r) =
          let k = task_read task name named (Some lefts) shelf.left_after (Refused reason place) r in
          is_refused task lefts shelf.left_after name bytes had was said out err answer _ (refusal task lefts shelf.left_after name bytes had reason place (inr k.1)) status (appended was out [] o)
          (named_so said err (Refused reason place) named name k.0 e)
  headline_of task name had form (Words j) (inl cause) status o e = absurd (wrong_not_form words j (on_file task name) cause form)
  headline_of task name had form (Words j) (inr cause) status o e = absurd cause.2
  headline_of task name had form ReadFault cause status o e = absurd (no_read status)
  headline_of task name had form NoMemory cause status o e = absurd (no_memory status)

  pub shown_of : (w : Walking) → lefts w.file ≡ Some bytes → IsRequest words (walk w) → (outcome : Outcome) → IsCause shelf words named outcome →
      answer ≡ status_of outcome → Appends (Some was) out (text_of outcome) → Appends (Some said) err (line_of named outcome) → IsShownAsTold w bytes was said out err answer
  shown_of w had form (Done text) (inl cause) status o e = absurd cause
  shown_of w had form (Done text) (inr cause) status o e =
      let v = of_asked words one lefts (walk w) shelf.left told form (λ r before. IsReadEnd r named before shelf.left_after (Done text)) cause.0 cause.1 cause.2 in
      absurd (walk_read w named (Some lefts) shelf.left_after (Done text) v).1.2
  shown_of w had form (Ended en) (inl cause) status o e = absurd cause
  shown_of w had form (Ended en) (inr cause) status o e =
      let v = of_asked words one lefts (walk w) shelf.left told form (λ r before. IsReadEnd r named before shelf.left_after (Ended en)) cause.0 cause.1 cause.2 in
      let k = walk_read w named (Some lefts) shelf.left_after (Ended en) v in
      shown w lefts shelf.left_after bytes was said out err answer had (Ended en) k.1 status (appended was out _ o) (named_so said err (Ended en) named w.file k.0 e)
  shown_of w had form (Refused reason place) (inl cause) status o e = absurd cause
  shown_of w had form (Refused reason place) (inr cause) status o e =
      by_end (of_asked words one lefts (walk w) shelf.left told form
      (λ r before. IsLongEnd r named before shelf.left_after reason place ⊎ IsReadEnd r named before shelf.left_after (Refused reason place)) cause.0 cause.1 cause.2)
    where
      by_end : IsLongEnd (walk w) named (Some lefts) shelf.left_after reason place ⊎ IsReadEnd (walk w) named (Some lefts) shelf.left_after (Refused reason place) → IsShownAsTold w bytes was said out err answer
      by_end (inl r) =
          let k = long_alone w.file named (Some lefts) shelf.left_after reason place r in
          long_shown w lefts shelf.left_after bytes was said out err answer had reason place k.1 status (appended was out [] o) (named_so said err (Refused reason place) named w.file k.0 e)
      by_end (inr r) =
          let k = walk_read w named (Some lefts) shelf.left_after (Refused reason place) r in
          shown w lefts shelf.left_after bytes was said out err answer had (Refused reason place) k.1 status (appended was out [] o) (named_so said err (Refused reason place) named w.file k.0 e)
  shown_of w had form (Words j) (inl cause) status o e = absurd (wrong_not_form words j (walk w) cause form)
  shown_of w had form (Words j) (inr cause) status o e = absurd cause.2
  shown_of w had form ReadFault cause status o e = absurd (no_read status)
  shown_of w had form NoMemory cause status o e = absurd (no_memory status)

-- where no write failed, what was written are the texts of the outcome
module _ (out err : SinkSides) (answer : ℕ) (was said : List ℕ) (held : out.taken ≡ Some was) (heard : err.taken ≡ Some said) (no_write : answer ≡ 5 → ⊥) where
  pub written_whole : (named : List ℕ) (outcome : Outcome) → EndsWith out err named outcome answer →
      (answer ≡ status_of outcome) × Appends (Some was) out.taken_after (text_of outcome) × Appends (Some said) err.taken_after (line_of named outcome)
  written_whole named outcome (inl e) =
      (e.0, subst (λ o. Appends o out.taken_after (text_of outcome)) held e.1, subst (λ o. Appends o err.taken_after (line_of named outcome)) heard e.2)
  written_whole named outcome (inr (inl e)) = absurd (no_write e.0)
  written_whole named outcome (inr (inr e)) = absurd (no_write e.0)
