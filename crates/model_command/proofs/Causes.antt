-- From how a request ends to why a run does, and what each status comes of.
use Rattle.std.proofs.Common.{arith, ◌≡◌, ◌⊎◌, ◌∙◌, refl, ap, ℕ, ◌+◌, List, [], ◌∷◌, length, Option, inl, inr}
use Rattle.std.specs.Io.KnownBytes.{Appends}
use Rattle.bridge_io.specs.Outside.{HasFailed, Lefts}
use Rattle.command_words.specs.Words.{Request, Walking, Checking, Carrying, Specialising, WordsCount, on_file, with_properties, generate, walk, check, carry, specialise, files_of, IsRequest, IsWrongAt}
use Rattle.model_process.specs.Walks.{EndsOnBytes}
use Rattle.model_process.specs.declared.ending.Ending.TheVariants as Ends
use Rattle.model_command.specs.Outcome.{status_of, line_of, text_of, word_line}
use Rattle.model_process.specs.Claims.{EndsOnFiles}
use Rattle.model_carrying.specs.Ends.{EndsOnCarryFiles}
use Rattle.model_specialising.specs.Ends.{EndsOnSpecialise}
use Rattle.model_command.specs.Run.{IsCause, IsNext, IsEnd, IsTaskEnd, IsPair, IsPairEnd, IsReadWhole, AreWhole, ComesTo, IsReadEnd, IsCarriedOut, EndsWith, EndsWithOrNoMemory, ShelfSides, SinkSides}
use Rattle.model_command.specs.declared.outcome.Outcome.{Outcome}
use Rattle.model_command.specs.declared.outcome.Outcome.TheVariants.{Done, Ended, Refused, Words, ReadFault, NoMemory}
use Rattle.model_command.proofs.Several.{alone, specialise_read, walk_read}

-- the statuses of what is carried out
abbrev IsOfWork : ℕ → Type 0
IsOfWork n = (n ≡ 0) ⊎ (n ≡ 1) ⊎ (n ≡ 7) ⊎ (n ≡ 8)

not_other : (answer n : ℕ) → (n ≡ 2) ⊎ (n ≡ 3) ⊎ (n ≡ 4) ⊎ (n ≡ 5) ⊎ (n ≡ 6) → answer ≡ n → IsOfWork answer → ⊥
not_other answer n other e work = grind (arith, other, e, work)

-- the position behind the words of a request
pub behind : (words : List (List ℕ)) (request : Request) (n : ℕ) → WordsCount → IsRequest words request → n ≡ length words + 1 → IsNext request n
behind words request n law form e = e ∙ ap (λ k. k + 1) (law words request form)

-- the words of a translation with properties are of a form
no_word : (file properties name : List ℕ) (k : ℕ) (contents : List (List ℕ)) → IsPair (λ model second. IsPairEnd file properties model second name (Ended (Ends.Word k))) contents → ⊥
no_word file properties name k [] h = h
no_word file properties name k (a ∷ []) h = h
no_word file properties name k (a ∷ b ∷ []) h = h
no_word file properties name k (a ∷ b ∷ c ∷ contents) h = h

module _ (shelf : ShelfSides) (words : List (List ℕ)) where
  module _ (out err : SinkSides) (answer : ℕ) where
    pub answered : (name : List ℕ) (outcome : Outcome) → IsCause shelf words name outcome → EndsWithOrNoMemory out err name outcome answer
        → (n : List ℕ) × (o : Outcome) × IsCause shelf words n o × EndsWith out err n o answer
    answered name outcome why (inl e) = (name, outcome, why, e)
    answered name outcome why (inr e) = (name, NoMemory, inl tt, e)

    -- the same of a request
    pub told_end : (request : Request) (name : List ℕ) (outcome : Outcome) → IsEnd shelf request name outcome → EndsWithOrNoMemory out err name outcome answer
        → (n : List ℕ) × (o : Outcome) × IsEnd shelf request n o × EndsWith out err n o answer
    told_end request name outcome end (inl e) = (name, outcome, end, e)
    told_end request name outcome end (inr e) = (name, NoMemory, tt, e)

    carried : (request : Request) (name : List ℕ) → IsRequest words request → (o : Outcome) → IsReadEnd request name shelf.left shelf.left_after o → answer ≡ status_of o →
        Appends out.taken out.taken_after (text_of o) → Appends err.taken err.taken_after (line_of name o) →
        (o : Outcome) × (answer ≡ status_of o) × IsCarriedOut shelf out err words o
    carried request name form o end status text line = (o, status, (request, end.0, name, form, end.1, end.2, text, line))

    -- statuses 0, 1, 7 and 8 come of what is carried out alone
    pub written : (name : List ℕ) (outcome : Outcome) → IsCause shelf words name outcome → EndsWith out err name outcome answer →
        IsOfWork answer → (o : Outcome) × (answer ≡ status_of o) × IsCarriedOut shelf out err words o
    written name (Done text) (inl why) e work = absurd why
    written name (Done text) (inr why) (inl e) work = carried why.0 name why.1 (Done text) why.2 e.0 e.1 e.2
    written name (Ended en) (inl why) e work = absurd why
    written name (Ended en) (inr why) (inl e) work = carried why.0 name why.1 (Ended en) why.2 e.0 e.1 e.2
    written name (Refused reason place) why (inl e) work = absurd (not_other answer 2 (inl refl) e.0 work)
    written name (Words k) why (inl e) work = absurd (not_other answer 3 (inr (inl refl)) e.0 work)
    written name ReadFault why (inl e) work = absurd (not_other answer 4 (inr (inr (inl refl))) e.0 work)
    written name NoMemory why (inl e) work = absurd (not_other answer 6 (inr (inr (inr (inr refl)))) e.0 work)
    written name outcome why (inr (inl e)) work = absurd (not_other answer 5 (inr (inr (inr (inl refl)))) e.0 work)
    written name outcome why (inr (inr e)) work = absurd (not_other answer 5 (inr (inr (inr (inl refl)))) e.0 work)

    -- what status 3 comes of
    abbrev IsOfWords : Type 0
    IsOfWords = (k : ℕ) × Appends out.taken out.taken_after [] × Appends err.taken err.taken_after (word_line k)
        × (IsWrongAt words k ⊎ ((w : Walking) × (bytes : List ℕ) × IsRequest words (walk w) × IsReadWhole shelf.left shelf.left_after w.file bytes × EndsOnBytes w.lang w bytes (Ends.Word k))
        ⊎ ((c : Checking) × (contents : List (List ℕ)) × IsRequest words (check c) × AreWhole shelf.left shelf.left_after (files_of (check c)) contents × EndsOnFiles c contents (Ends.Word k))
        ⊎ ((c : Carrying) × (contents : List (List ℕ)) × IsRequest words (carry c) × AreWhole shelf.left shelf.left_after (files_of (carry c)) contents × EndsOnCarryFiles c contents (Ends.Word k))
        ⊎ ((p : Specialising) × (bytes : List ℕ) × IsRequest words (specialise p) × IsReadWhole shelf.left shelf.left_after p.file bytes × EndsOnSpecialise p bytes (Ends.Word k)))

    of_word : (request : Request) (name : List ℕ) (k : ℕ) → IsRequest words request → IsReadEnd request name shelf.left shelf.left_after (Ended (Ends.Word k)) → Appends out.taken out.taken_after [] → Appends err.taken err.taken_after (word_line k) → IsOfWords
    of_word (on_file task file) name k form end text line = absurd (alone (λ bytes. IsTaskEnd task bytes (Ended (Ends.Word k))) shelf.left shelf.left_after file end.0 end.1 end.2.1).2
    of_word (with_properties file properties) name k form end text line = absurd (no_word file properties name k end.0 end.2)
    of_word (generate modules) name k form end text line = absurd end.2
    of_word (walk w) name k form end text line = let r = (walk_read w name shelf.left shelf.left_after (Ended (Ends.Word k)) end).1 in (k, text, line, inr (inl (w, r.0, form, r.1, r.2)))
    of_word (check c) name k form end text line = (k, text, line, inr (inr (inl (c, end.0, form, end.1, end.2))))
    of_word (carry c) name k form end text line = (k, text, line, inr (inr (inr (inl (c, end.0, form, end.1, end.2)))))
    of_word (specialise p) name k form end text line =
        let r = (specialise_read p name shelf.left shelf.left_after (Ended (Ends.Word k)) end).1 in (k, text, line, inr (inr (inr (inr (p, r.0, form, r.1, r.2)))))

    not_three : (answer n : ℕ) → (n ≡ 0) ⊎ (n ≡ 1) ⊎ (n ≡ 2) ⊎ (n ≡ 4) ⊎ (n ≡ 5) ⊎ (n ≡ 6) ⊎ (n ≡ 7) ⊎ (n ≡ 8) → answer ≡ n → answer ≡ 3 → ⊥
    not_three answer n other e three = grind (arith, other, e, three)

    pub of_words : (name : List ℕ) (outcome : Outcome) → IsCause shelf words name outcome → EndsWith out err name outcome answer → answer ≡ 3 → IsOfWords
    of_words name (Done text) why (inl e) three = absurd (omega (arith, e.0, three))
    of_words name (Ended (Ends.Done text)) why (inl e) three = absurd (omega (arith, e.0, three))
    of_words name (Ended (Ends.No line)) why (inl e) three = absurd (omega (arith, e.0, three))
    of_words name (Ended (Ends.Stopped path line)) why (inl e) three = absurd (omega (arith, e.0, three))
    of_words name (Ended (Ends.Word k)) (inl why) e three = absurd why
    of_words name (Ended (Ends.Word k)) (inr why) (inl e) three = of_word why.0 name k why.1 why.2 e.1 e.2
    of_words name (Ended (Ends.Faulty lines)) why (inl e) three = absurd (omega (arith, e.0, three))
    of_words name (Ended (Ends.Excess path line)) why (inl e) three = absurd (omega (arith, e.0, three))
    of_words name (Refused reason place) why (inl e) three = absurd (omega (arith, e.0, three))
    of_words name (Words k) (inl why) (inl e) three = (k, e.1, e.2, inl why)
    of_words name (Words k) (inr why) (inl e) three = absurd why.2
    of_words name ReadFault why (inl e) three = absurd (omega (arith, e.0, three))
    of_words name NoMemory why (inl e) three = absurd (omega (arith, e.0, three))
    of_words name outcome why (inr (inl e)) three = absurd (omega (arith, e.0, three))
    of_words name outcome why (inr (inr e)) three = absurd (omega (arith, e.0, three))

    -- what status 4 comes of
    pub of_read : (name : List ℕ) (outcome : Outcome) → IsCause shelf words name outcome → EndsWith out err name outcome answer → answer ≡ 4 →
        (request : Request) × (name : List ℕ) × (mid : Option Lefts) × IsRequest words request × ComesTo shelf.left mid (files_of request) name × HasFailed shelf.faults shelf.faults_after × (shelf.steady name → ⊥)
    of_read name (Done text) why (inl e) four = absurd (omega (arith, e.0, four))
    of_read name (Ended (Ends.Done text)) why (inl e) four = absurd (omega (arith, e.0, four))
    of_read name (Ended (Ends.No line)) why (inl e) four = absurd (omega (arith, e.0, four))
    of_read name (Ended (Ends.Stopped path line)) why (inl e) four = absurd (omega (arith, e.0, four))
    of_read name (Ended (Ends.Word k)) why (inl e) four = absurd (omega (arith, e.0, four))
    of_read name (Ended (Ends.Faulty lines)) why (inl e) four = absurd (omega (arith, e.0, four))
    of_read name (Ended (Ends.Excess path line)) why (inl e) four = absurd (omega (arith, e.0, four))
    of_read name (Refused reason place) why (inl e) four = absurd (omega (arith, e.0, four))
    of_read name (Words k) why (inl e) four = absurd (omega (arith, e.0, four))
    of_read name ReadFault (inl why) e four = absurd why
    of_read name ReadFault (inr why) (inl e) four = (why.0, name, why.2.0.0, why.1, why.2.0.1, why.2.1, why.2.2)
    of_read name NoMemory why (inl e) four = absurd (omega (arith, e.0, four))
    of_read name outcome why (inr (inl e)) four = absurd (omega (arith, e.0, four))
    of_read name outcome why (inr (inr e)) four = absurd (omega (arith, e.0, four))
