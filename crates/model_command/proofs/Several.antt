-- Files read whole one after another: of one file, and of several that are told.
use Rattle.std.proofs.Common.{arith, ◌≡◌, ◌≢◌, ◌∙◌, refl, sym, ap₂, subst, ℕ, ◌<◌, ◌≤◌, List, [], ◌∷◌, ◌++◌, length, append_assoc, slice_index_or, Option, Some, None, inl, inr}
use Rattle.std.specs.Borrow.{Bor}
use Rattle.std.specs.List.{AllByRecursion}
use Rattle.bridge_io.specs.Outside.{Lefts, TakesFront}
use Rattle.bridge_io.specs.ReadFail.{IsTooLong}
use Rattle.bridge_io.specs.declared.transfer.ReadFail.TheVariants.{TooLong as TooLongAt}
use Rattle.bridge_io.specs.declared.reason.Reason.{Reason}
use Rattle.bridge_io.specs.declared.reason.Reason.TheVariants.{TooLong}
use Rattle.bridge_io.specs.declared.place.Place.{Place}
use Rattle.command_words.specs.declared.request.Task.{Task}
use Rattle.command_words.specs.Words.{Walking, Specialising, on_file, walk, specialise, AreNamesBehind}
use Rattle.model_command.specs.Run.{IsReadWhole, AreWhole, ComesTo, IsAlone, IsPair, IsTaskEnd, IsWalkEnd, IsSpecialiseEnd, IsReadEnd, names_of}
use Rattle.model_command.specs.Headline.{AreHeld, AreShort, IsFirstLong}
use Rattle.model_command.specs.declared.outcome.Outcome.{Outcome}
use Rattle.model_command.proofs.Exact.{whole_bytes}

-- ---- one file
pub alone : (Of : List ℕ → Type 0) (before after : Option Lefts) (name : List ℕ) (contents : List (List ℕ)) → AreWhole before after (name ∷ []) contents → IsAlone Of contents → (bytes : List ℕ) × IsReadWhole before after name bytes × Of bytes
alone Of before after name [] w h = absurd h
alone Of before after name (b ∷ []) w h = (b, subst (λ m. IsReadWhole before m name b) (sym w.2) w.1, h)
alone Of before after name (b ∷ c ∷ cs) w h = absurd h

pub comes_alone : (before mid : Option Lefts) (name named : List ℕ) → ComesTo before mid (name ∷ []) named → (named ≡ name) × (mid ≡ before)
comes_alone before mid name named h = by_front h.front h.contents h.among h.read
  where
    by_front : (front contents : List (List ℕ)) → name ∷ [] ≡ front ++ named ∷ h.back → AreWhole before mid front contents → (named ≡ name) × (mid ≡ before)
    by_front [] [] e w = ((let f : named ≡ name = cc in f), w)
    by_front [] (b ∷ contents) e w = absurd w
    by_front (x ∷ []) contents e w = absurd cc
    by_front (x ∷ y ∷ front) contents e w = absurd cc

-- a task's file, that of a walk, and that of a model that is specialised
pub task_read : (task : Task) (name named : List ℕ) (before after : Option Lefts) (o : Outcome) → IsReadEnd (on_file task name) named before after o → (named ≡ name) × ((bytes : List ℕ) × IsReadWhole before after name bytes × IsTaskEnd task bytes o)
task_read task name named before after o h = (h.2.0, alone (λ bytes. IsTaskEnd task bytes o) before after name h.0 h.1 h.2.1)

pub walk_read : (w : Walking) (named : List ℕ) (before after : Option Lefts) (o : Outcome) → IsReadEnd (walk w) named before after o → (named ≡ w.file) × ((bytes : List ℕ) × IsReadWhole before after w.file bytes × IsWalkEnd w bytes o)
walk_read w named before after o h = (h.2.0, alone (λ bytes. IsWalkEnd w bytes o) before after w.file h.0 h.1 h.2.1)

pub specialise_read : (p : Specialising) (named : List ℕ) (before after : Option Lefts) (o : Outcome) → IsReadEnd (specialise p) named before after o → (named ≡ p.file) × ((bytes : List ℕ) × IsReadWhole before after p.file bytes × IsSpecialiseEnd p bytes o)
specialise_read p named before after o h = (h.2.0, alone (λ bytes. IsSpecialiseEnd p bytes o) before after p.file h.0 h.1 h.2.1)

pub long_alone : (name named : List ℕ) (before after : Option Lefts) (reason : Reason) (place : Place) →
    (reason ≡ TooLong) × ((mid : Option Lefts) × ComesTo before mid (name ∷ []) named × IsTooLong mid after named 16777216 (TooLongAt place)) →
    (named ≡ name) × ((reason ≡ TooLong) × IsTooLong before after name 16777216 (TooLongAt place))
long_alone name named before after reason place h =
    let c = comes_alone before h.1.0 name named h.1.1 in
    (c.0, (h.0, subst (λ n. IsTooLong before after n 16777216 (TooLongAt place)) c.0 (subst (λ m. IsTooLong m after named 16777216 (TooLongAt place)) c.1 h.1.2)))

-- the first of one name, and of one content
pub one_file : (Of : List ℕ → Type 0) (file : List ℕ) (names : List (Bor (List ℕ))) (d : Bor (List ℕ)) (files : List (List ℕ)) (e bytes : List ℕ) → names_of names ≡ file ∷ [] → length files ≡ length names →
    bytes ≡ slice_index_or files 0 e → Of bytes → ((slice_index_or names 0 d).now ≡ file) × IsAlone Of files
one_file Of file [] d files e bytes same many is of = absurd cc
one_file Of file (x ∷ []) d [] e bytes same many is of = absurd (omega (arith, many))
one_file Of file (x ∷ []) d (b ∷ []) e bytes same many is of = ((let f : x.now ≡ file = cc in f), subst Of is of)
one_file Of file (x ∷ []) d (b ∷ c ∷ files) e bytes same many is of = absurd (omega (arith, many))
one_file Of file (x ∷ y ∷ names) d files e bytes same many is of = absurd cc

-- the first and the second of two names, and of two contents
pub two_files : (Of : List ℕ → List ℕ → Type 0) (file second : List ℕ) (names : List (Bor (List ℕ))) (files : List (List ℕ)) (d e a b : List ℕ) → names_of names ≡ file ∷ second ∷ [] → length files ≡ length names →
    a ≡ slice_index_or files 0 d → b ≡ slice_index_or files 1 e → Of a b → IsPair Of files
two_files Of file second [] files d e a b same many first next of = absurd cc
two_files Of file second (x ∷ []) files d e a b same many first next of = absurd cc
two_files Of file second (x ∷ y ∷ []) [] d e a b same many first next of = absurd (omega (arith, many))
two_files Of file second (x ∷ y ∷ []) (c ∷ []) d e a b same many first next of = absurd (omega (arith, many))
two_files Of file second (x ∷ y ∷ []) (c ∷ f ∷ []) d e a b same many first next of = subst (λ u. Of c u) next (subst (λ u. Of u b) first of)
two_files Of file second (x ∷ y ∷ []) (c ∷ f ∷ g ∷ files) d e a b same many first next of = absurd (omega (arith, many))
two_files Of file second (x ∷ y ∷ z ∷ names) files d e a b same many first next of = absurd cc

pub first_named : (file second : List ℕ) (names : List (Bor (List ℕ))) (d : Bor (List ℕ)) → names_of names ≡ file ∷ second ∷ [] → (slice_index_or names 0 d).now ≡ file
first_named file second [] d same = absurd cc
first_named file second (x ∷ names) d same = let f : x.now ≡ file = cc in f

pub second_named : (file second : List ℕ) (names : List (Bor (List ℕ))) (d : Bor (List ℕ)) → names_of names ≡ file ∷ second ∷ [] → (slice_index_or names 1 d).now ≡ second
second_named file second [] d same = absurd cc
second_named file second (x ∷ []) d same = absurd cc
second_named file second (x ∷ y ∷ names) d same = let f : y.now ≡ second = cc in f

-- ---- one after another
pub one_more_whole : (before mid after : Option Lefts) (names : List (List ℕ)) (name : List ℕ) (contents : List (List ℕ)) (bytes : List ℕ) → AreWhole before mid names contents → IsReadWhole mid after name bytes →
    AreWhole before after (names ++ name ∷ []) (contents ++ bytes ∷ [])
one_more_whole before mid after [] name [] bytes w h = (after, subst (λ m. IsReadWhole m after name bytes) w h, refl)
one_more_whole before mid after [] name (b ∷ contents) bytes w h = absurd w
one_more_whole before mid after (n ∷ names) name [] bytes w h = absurd w
one_more_whole before mid after (n ∷ names) name (b ∷ contents) bytes w h = (w.0, w.1, one_more_whole w.0 mid after names name contents bytes w.2 h)

pub whole_short : (before after : Option Lefts) (names contents : List (List ℕ)) → AreWhole before after names contents → AreShort contents
whole_short before after [] [] w = tt
whole_short before after [] (b ∷ contents) w = absurd w
whole_short before after (n ∷ names) [] w = absurd w
whole_short before after (n ∷ names) (b ∷ contents) w = (w.1.within, whole_short w.0 after names contents w.2)

-- ---- the names differ
at_middle : (P : List ℕ → Type 0) (us : List (List ℕ)) (n : List ℕ) (vs : List (List ℕ)) → AllByRecursion P (us ++ n ∷ vs) → P n
at_middle P [] n vs h = h.0
at_middle P (u ∷ us) n vs h = at_middle P us n vs h.1

abbrev Others : List ℕ → List (List ℕ) → Type 0
Others n names = AllByRecursion (λ m. m ≢ n) names

others_of : (us : List (List ℕ)) (n : List ℕ) (vs names : List (List ℕ)) → AreNamesBehind (us ++ n ∷ vs) names → Others n names
others_of us n vs [] h = tt
others_of us n vs (x ∷ names) h = (
  at_middle (λ o. x ≢ o) us n vs h.0.1,
  others_of us n (vs ++ x ∷ []) names (subst (λ l. AreNamesBehind l names) (append_assoc us (n ∷ vs) (x ∷ [])) h.1),
)

-- what is held under other names stays
held_later : (lefts now : Lefts) (n bytes : List ℕ) (names contents : List (List ℕ)) → TakesFront lefts now n bytes → Others n names → AreHeld lefts names contents → AreHeld now names contents
held_later lefts now n bytes [] [] t o h = tt
held_later lefts now n bytes [] (c ∷ contents) t o h = absurd h
held_later lefts now n bytes (m ∷ names) [] t o h = absurd h
held_later lefts now n bytes (m ∷ names) (c ∷ contents) t o h = (t.others m o.0 ∙ h.0, held_later lefts now n bytes names contents t o.1 h.1)

-- ---- what is read of several files that are told
module _ (before : List (List ℕ)) (lefts : Lefts) (n c r : List ℕ) (names contents : List (List ℕ)) (apart : AreNamesBehind before (n ∷ names)) (held : AreHeld lefts (n ∷ names) (c ∷ contents)) where
  first_read : (now : Lefts) → IsReadWhole (Some lefts) (Some now) n r → (r ≡ c) × AreHeld now names contents
  first_read now w = (whole_bytes lefts (Some now) n c r held.0 w, held_later lefts now n r names contents w.takes (others_of before n [] names apart.1) held.1)

pub whole_same : (names before : List (List ℕ)) (lefts : Lefts) (after : Option Lefts) (contents read : List (List ℕ)) → AreNamesBehind before names → AreHeld lefts names contents → AreWhole (Some lefts) after names read → read ≡ contents
whole_same [] before lefts after [] [] a h w = refl
whole_same [] before lefts after (c ∷ contents) read a h w = absurd h
whole_same [] before lefts after [] (r ∷ read) a h w = absurd w
whole_same (n ∷ names) before lefts after [] read a h w = absurd h
whole_same (n ∷ names) before lefts after (c ∷ contents) [] a h w = absurd w
whole_same (n ∷ names) before lefts after (c ∷ contents) (r ∷ read) a h w = by_mid (λ now held rest. whole_same names (before ++ n ∷ []) now after contents read a.1 held rest) w.0 w.1 w.2
  where
    by_mid : ((now : Lefts) → AreHeld now names contents → AreWhole (Some now) after names read → read ≡ contents) →
        (mid : Option Lefts) → IsReadWhole (Some lefts) mid n r → AreWhole mid after names read → r ∷ read ≡ c ∷ contents
    by_mid ih None one rest = absurd one.takes
    by_mid ih (Some now) one rest =
        let f = first_read before lefts n c r names contents a h now one in
        ap₂ (λ x xs. x ∷ xs) f.0 (ih now f.1 rest)

-- the file that reading comes to, and that it is the first that is too long where it is
pub record IsReached (mid : Option Lefts) (names contents : List (List ℕ)) (named : List ℕ) : Type 0 where
  pub bytes : List ℕ
  pub now : Lefts
  pub told : mid ≡ Some now
  pub held : now named ≡ Some bytes
  pub first : 16777216 < length bytes → IsFirstLong names contents named bytes

pub reached : (front : List (List ℕ)) (named : List ℕ) (back before : List (List ℕ)) (lefts : Lefts) (mid : Option Lefts) (contents read : List (List ℕ)) → AreNamesBehind before (front ++ named ∷ back) →
    AreHeld lefts (front ++ named ∷ back) contents → AreWhole (Some lefts) mid front read → IsReached mid (front ++ named ∷ back) contents named
reached [] named back before lefts mid [] read a h w = absurd h
reached [] named back before lefts mid (c ∷ contents) [] a h w = record { bytes = c; now = lefts; told = w; held = h.0; first = λ gt. inl (gt, refl, refl) }
reached [] named back before lefts mid (c ∷ contents) (r ∷ read) a h w = absurd w
reached (n ∷ front) named back before lefts mid [] read a h w = absurd h
reached (n ∷ front) named back before lefts mid (c ∷ contents) [] a h w = absurd w
reached (n ∷ front) named back before lefts mid (c ∷ contents) (r ∷ read) a h w = by_mid (λ now held rest. reached front named back (before ++ n ∷ []) now mid contents read a.1 held rest) w.0 w.1 w.2
  where
    by_mid : ((now : Lefts) → AreHeld now (front ++ named ∷ back) contents → AreWhole (Some now) mid front read → IsReached mid (front ++ named ∷ back) contents named) →
        (next : Option Lefts) → IsReadWhole (Some lefts) next n r → AreWhole next mid front read → IsReached mid (n ∷ (front ++ named ∷ back)) (c ∷ contents) named
    by_mid ih None one rest = absurd one.takes
    by_mid ih (Some now) one rest =
        let f = first_read before lefts n c r (front ++ named ∷ back) contents a h now one in
        let i = ih now f.1 rest in
        let short : length c ≤ 16777216 = subst (λ b. length b ≤ 16777216) f.0 one.within in
        record { bytes = i.bytes; now = i.now; told = i.told; held = i.held; first = λ gt. inr (short, i.first gt) }

-- one file is the first that is too long, and only where they aren't all short
pub first_once : (names contents : List (List ℕ)) (a b x y : List ℕ) → IsFirstLong names contents a x → IsFirstLong names contents b y → (a ≡ b) × (x ≡ y)
first_once [] contents a b x y h k = absurd h
first_once (n ∷ names) [] a b x y h k = absurd h
first_once (n ∷ names) (c ∷ contents) a b x y (inl h) (inl k) = (h.1 ∙ sym k.1, h.2 ∙ sym k.2)
first_once (n ∷ names) (c ∷ contents) a b x y (inl h) (inr k) = absurd (let p = h.0 in let q = k.0 in omega (arith, p, q))
first_once (n ∷ names) (c ∷ contents) a b x y (inr h) (inl k) = absurd (let p = h.0 in let q = k.0 in omega (arith, p, q))
first_once (n ∷ names) (c ∷ contents) a b x y (inr h) (inr k) = first_once names contents a b x y h.1 k.1

pub not_short : (names contents : List (List ℕ)) (a x : List ℕ) → IsFirstLong names contents a x → AreShort contents → ⊥
not_short [] contents a x h s = h
not_short (n ∷ names) [] a x h s = h
not_short (n ∷ names) (c ∷ contents) a x (inl h) s = let p = h.0 in let q = s.0 in omega (arith, p, q)
not_short (n ∷ names) (c ∷ contents) a x (inr h) s = not_short names contents a x h.1 s.1
