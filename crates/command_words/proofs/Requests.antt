-- Words of all forms, and where words leave them.
use Rattle.std.proofs.Common.{arith, ◌≡◌, ◌≢◌, ◌⊎◌, ◌∙◌, sym, ap, ap₂, subst, ℕ, ◌+◌, ◌^◌, ◌<◌, ◌≤◌, List, [], ◌∷◌, ◌++◌, length, Option, Some, None, inl, inr, refl, codes, append_assoc, false, String}
use Rattle.std.specs.Global.{Global}
use Rattle.std.specs.Bool.{◌==◌}
use Rattle.std.specs.Fmt.{decimal}
use Rattle.std.specs.List.{AllByRecursion}
use Rattle.command_words.specs.Numbers.{IsSmall, pairs_text}
use Rattle.command_words.specs.Given.{Assignment, HasGiven, AreGiven}
use Rattle.command_words.specs.Words.{texts, Begins, IsWrong, Job, showing, along, seeded, Walking, Claim, of_path, of_rows, of_bounds, Checking, on_file, with_properties, generate, walk, check, carry, specialise, IsNameBehind, AreNamesBehind, claim_files, claim_words, claim_verb, IsClaim, HasFileWord, verb_of, lang_word, IsStateWord, IsFrom, from_words, job_verb, job_words, IsJob, IsWalk, IsCheck, HasForm, job_count}
use Rattle.command_words.specs.Fronts.{Then, One, IsNameWrong, IsFileName, IsPairsWord, IsSeedWord, IsStepsWord, IsModulesWord, GenerateForm, GivenForm, SeedForm, WayForm, WalkForm, StateForm, PathForm, RowsForm, LabelForm, BoundsForm, HeadForm, ShowForm, SimulateForm, SpecialiseForm}
use Rattle.command_words.specs.declared.request.Lang.{Lang}
use Rattle.command_words.specs.declared.request.Task.{Task}
use Rattle.command_words.specs.declared.request.Task.TheVariants.{ToJani, ToPrism, ToPrismProps, CheckPrism, CheckJani}
use Rattle.command_words.proofs.Wrong.{wrong_end, wrong_first, wrong_same, wrong_behind, wrong_next, then_begins, then_end, then_first, then_next, one_begins, one_end, one_first, one_next}
use Rattle.command_words.proofs.Forms.{differ, way_given, way_seed, walk_from, walk_way, behind_head, state_begins, walk_begins, given_begins, path_begins, rows_begins, bounds_begins}

pub heads : (x y : List ℕ) (xs ys : List (List ℕ)) → x ∷ xs ≡ y ∷ ys → x ≡ y
heads x y xs ys e = cc

pub tails : (x y : List ℕ) (xs ys : List (List ℕ)) → x ∷ xs ≡ y ∷ ys → xs ≡ ys
tails x y xs ys e = cc

-- ---- first words
pub not_walk : (v : List ℕ) (vs : List (List ℕ)) (w : Walking) → v ≢ codes "show" → v ≢ codes "simulate" → IsWalk (v ∷ vs) w → ⊥
not_walk v vs w a b h = by_job w.job (heads _ _ _ _ h.words_are)
  where
    by_job : (j : Job) → v ≡ job_verb j → ⊥
    by_job (showing s) e = a e
    by_job (along f ps) e = b e
    by_job (seeded f n k) e = b e

pub not_check : (v : List ℕ) (vs : List (List ℕ)) (c : Checking) → v ≢ codes "check-path" → v ≢ codes "check-rows" → v ≢ codes "check-bound" → IsCheck (v ∷ vs) c → ⊥
not_check v vs c a b d h = by_claim c.claim (heads _ _ _ _ h.words_are)
  where
    by_claim : (m : Claim) → v ≡ claim_verb m → ⊥
    by_claim (of_path path) e = a e
    by_claim (of_rows states rows) e = b e
    by_claim (of_bounds states rows label bounds) e = d e

pub not_task : (v : List ℕ) (vs : List (List ℕ)) (task : Task) (name : List ℕ) → v ≢ codes "to-jani" → v ≢ codes "to-prism" → v ≢ codes "to-prism-props" → v ≢ codes "check" → v ∷ vs ≡ verb_of task ++ name ∷ [] → ⊥
not_task v vs ToJani name a b p c e = a (heads _ _ _ _ e)
not_task v vs ToPrism name a b p c e = b (heads _ _ _ _ e)
not_task v vs ToPrismProps name a b p c e = p (heads _ _ _ _ e)
not_task v vs CheckPrism name a b p c e = c (heads _ _ _ _ e)
not_task v vs CheckJani name a b p c e = c (heads _ _ _ _ e)

-- ---- the file's word
some_name : HasFileWord ((102 ∷ []) ∷ [])
some_name = (102 ∷ [], ((λ e. cc), refl))

file_begins : Begins HasFileWord []
file_begins = ((102 ∷ []) ∷ [], some_name)

pub no_file_word : IsWrong HasFileWord [] 1
no_file_word = wrong_end HasFileWord file_begins (λ form. let e = form.1.1 in cc)

pub empty_file_word : (ws : List (List ℕ)) → IsWrong HasFileWord ([] ∷ ws) 1
empty_file_word ws = wrong_first HasFileWord [] ws file_begins (λ begins. begins.1.1.0 (let e = begins.1.1.1 in cc))

-- a list that is counted not to be empty
pub some_items : {X : Type 0} (xs : List X) → (length xs == 0) ≡ false → xs ≢ []
some_items [] h = absurd cc
some_items (x ∷ xs) h = λ e. cc

pub some_texts : (words : List (String Global)) → (length words == 0) ≡ false → texts words ≢ []
some_texts [] h = absurd cc
some_texts (w ∷ words) h = λ e. cc

-- ---- behind `to-jani`
-- behind the word of the file: nothing, or the word of the file of the properties
abbrev pub PropertiesForm : List ℕ → List (List ℕ) → Type 0
PropertiesForm file ws = (ws ≡ []) ⊎ One (IsNameBehind (file ∷ [])) (λ vs. vs ≡ []) ws

abbrev pub ToJaniForm : List (List ℕ) → Type 0
ToJaniForm ws = HasForm (codes "to-jani" ∷ ws)

to_jani_form : (ws : List (List ℕ)) → Then IsFileName PropertiesForm ws → ToJaniForm ws
to_jani_form [] h = absurd h
to_jani_form (f ∷ []) (n, inl e) = (on_file ToJani f, (n, refl))
to_jani_form (f ∷ []) (n, inr h) = absurd h
to_jani_form (f ∷ p ∷ ws) (n, inl e) = absurd cc
to_jani_form (f ∷ p ∷ ws) (n, inr h) = (
  with_properties f p,
  record { names = ((n, tt), (h.0, tt)); words_are = ap (λ vs. codes "to-jani" ∷ f ∷ p ∷ vs) h.1 },
)

to_jani_words : (ws : List (List ℕ)) → ToJaniForm ws → Then IsFileName PropertiesForm ws
to_jani_words ws (on_file ToJani name, f) = subst (Then IsFileName PropertiesForm) (sym (tails _ _ _ _ f.1)) (f.0, inl refl)
to_jani_words ws (on_file ToPrism name, f) = absurd (differ _ _ refl (heads _ _ _ _ f.1))
to_jani_words ws (on_file ToPrismProps name, f) = absurd (differ _ _ refl (heads _ _ _ _ f.1))
to_jani_words ws (on_file CheckPrism name, f) = absurd (differ _ _ refl (heads _ _ _ _ f.1))
to_jani_words ws (on_file CheckJani name, f) = absurd (differ _ _ refl (heads _ _ _ _ f.1))
to_jani_words ws (with_properties f p, h) = subst (Then IsFileName PropertiesForm) (sym (tails _ _ _ _ h.words_are)) (h.names.0.0, inr (h.names.1.0, refl))
to_jani_words ws (generate n, h) = absurd (differ _ _ refl (heads _ _ _ _ h.words_are))
to_jani_words ws (walk w, h) = absurd (not_walk _ ws w (differ _ _ refl) (differ _ _ refl) h)
to_jani_words ws (check c, h) = absurd (not_check _ ws c (differ _ _ refl) (differ _ _ refl) (differ _ _ refl) h)
to_jani_words ws (carry c, h) = absurd (differ _ _ refl (heads _ _ _ _ h.words_are))
to_jani_words ws (specialise q, h) = absurd (differ _ _ refl (heads _ _ _ _ h.words_are))

behind_to_jani_words : (ws : List (List ℕ)) (k : ℕ) → IsWrong (Then IsFileName PropertiesForm) ws k → IsWrong ToJaniForm ws k
behind_to_jani_words ws k e = wrong_same (Then IsFileName PropertiesForm) ToJaniForm ws k to_jani_form to_jani_words e

to_jani_begins : Begins (Then IsFileName PropertiesForm) []
to_jani_begins = then_begins IsFileName PropertiesForm (codes "f") (λ e. cc) ([], inl refl)

pub no_model : IsWrong ToJaniForm [] 1
no_model = behind_to_jani_words [] 1 (then_end IsFileName PropertiesForm to_jani_begins)

pub empty_model : (ws : List (List ℕ)) → IsWrong ToJaniForm ([] ∷ ws) 1
empty_model ws = behind_to_jani_words ([] ∷ ws) 1 (then_first IsFileName PropertiesForm to_jani_begins [] ws (λ n. n refl))

module _ (f : List ℕ) (n : f ≢ []) where
  -- a second word that is no further file
  other_file : (ws : List (List ℕ)) → ws ≢ [] → IsNameWrong (f ∷ []) ws → IsWrong (PropertiesForm f) ws 1
  other_file [] some h = absurd (some refl)
  other_file (w ∷ ws) some h = wrong_first (PropertiesForm f) w ws ([], inl refl) none
    where
      none : Begins (PropertiesForm f) (w ∷ []) → ⊥
      none (more, inl e) = cc
      none (more, inr k) = h k.0

  pub no_properties : (ws : List (List ℕ)) → ws ≢ [] → IsNameWrong (f ∷ []) ws → IsWrong ToJaniForm (f ∷ ws) 2
  no_properties ws some h = behind_to_jani_words (f ∷ ws) 2 (then_next IsFileName PropertiesForm f ws 1 n (other_file ws some h))

  -- a third word
  third : (p : List ℕ) (ws : List (List ℕ)) → IsNameBehind (f ∷ []) p → ws ≢ [] → IsWrong (λ vs. PropertiesForm f (p ∷ vs)) ws 1
  third p [] h some = absurd (some refl)
  third p (w ∷ ws) h some = wrong_first (λ vs. PropertiesForm f (p ∷ vs)) w ws ([], inr (h, refl)) none
    where
      none : Begins (λ vs. PropertiesForm f (p ∷ vs)) (w ∷ []) → ⊥
      none (more, inl e) = cc
      none (more, inr k) = let e = k.1 in cc

  pub behind_properties : (p : List ℕ) (ws : List (List ℕ)) → IsNameBehind (f ∷ []) p → ws ≢ [] → IsWrong ToJaniForm (f ∷ p ∷ ws) 3
  behind_properties p ws h some =
      behind_to_jani_words (f ∷ p ∷ ws) 3 (then_next IsFileName PropertiesForm f (p ∷ ws) 2 n (wrong_next (PropertiesForm f) p ws 1 (third p ws h some)))

pub behind_to_jani : (ws : List (List ℕ)) (k : ℕ) → IsWrong ToJaniForm ws k → IsWrong HasForm (codes "to-jani" ∷ ws) (k + 1)
behind_to_jani ws k e = wrong_next HasForm (codes "to-jani") ws k e

-- ---- behind `to-prism`
to_prism_form : (ws : List (List ℕ)) → HasFileWord ws → HasForm (codes "to-prism" ∷ ws)
to_prism_form ws f = (on_file ToPrism f.0, (f.1.0, ap (λ v. codes "to-prism" ∷ v) f.1.1))

to_prism_file : (ws : List (List ℕ)) → HasForm (codes "to-prism" ∷ ws) → HasFileWord ws
to_prism_file ws (on_file ToJani name, f) = absurd (differ _ _ refl (heads _ _ _ _ f.1))
to_prism_file ws (on_file ToPrism name, f) = (name, (f.0, tails _ _ _ _ f.1))
to_prism_file ws (on_file ToPrismProps name, f) = absurd (differ _ _ refl (heads _ _ _ _ f.1))
to_prism_file ws (on_file CheckPrism name, f) = absurd (differ _ _ refl (heads _ _ _ _ f.1))
to_prism_file ws (on_file CheckJani name, f) = absurd (differ _ _ refl (heads _ _ _ _ f.1))
to_prism_file ws (with_properties f p, h) = absurd (differ _ _ refl (heads _ _ _ _ h.words_are))
to_prism_file ws (generate n, h) = absurd (differ _ _ refl (heads _ _ _ _ h.words_are))
to_prism_file ws (walk w, h) = absurd (not_walk _ ws w (differ _ _ refl) (differ _ _ refl) h)
to_prism_file ws (check c, h) = absurd (not_check _ ws c (differ _ _ refl) (differ _ _ refl) (differ _ _ refl) h)
to_prism_file ws (carry c, h) = absurd (differ _ _ refl (heads _ _ _ _ h.words_are))
to_prism_file ws (specialise q, h) = absurd (differ _ _ refl (heads _ _ _ _ h.words_are))

pub behind_to_prism : (ws : List (List ℕ)) (k : ℕ) → IsWrong HasFileWord ws k → IsWrong HasForm (codes "to-prism" ∷ ws) (k + 1)
behind_to_prism ws k e = wrong_behind HasFileWord HasForm (codes "to-prism") ws k to_prism_form to_prism_file e

-- ---- behind `to-prism-props`
to_prism_props_form : (ws : List (List ℕ)) → HasFileWord ws → HasForm (codes "to-prism-props" ∷ ws)
to_prism_props_form ws f = (on_file ToPrismProps f.0, (f.1.0, ap (λ v. codes "to-prism-props" ∷ v) f.1.1))

to_prism_props_file : (ws : List (List ℕ)) → HasForm (codes "to-prism-props" ∷ ws) → HasFileWord ws
to_prism_props_file ws (on_file ToJani name, f) = absurd (differ _ _ refl (heads _ _ _ _ f.1))
to_prism_props_file ws (on_file ToPrism name, f) = absurd (differ _ _ refl (heads _ _ _ _ f.1))
to_prism_props_file ws (on_file ToPrismProps name, f) = (name, (f.0, tails _ _ _ _ f.1))
to_prism_props_file ws (on_file CheckPrism name, f) = absurd (differ _ _ refl (heads _ _ _ _ f.1))
to_prism_props_file ws (on_file CheckJani name, f) = absurd (differ _ _ refl (heads _ _ _ _ f.1))
to_prism_props_file ws (with_properties f p, h) = absurd (differ _ _ refl (heads _ _ _ _ h.words_are))
to_prism_props_file ws (generate n, h) = absurd (differ _ _ refl (heads _ _ _ _ h.words_are))
to_prism_props_file ws (walk w, h) = absurd (not_walk _ ws w (differ _ _ refl) (differ _ _ refl) h)
to_prism_props_file ws (check c, h) = absurd (not_check _ ws c (differ _ _ refl) (differ _ _ refl) (differ _ _ refl) h)
to_prism_props_file ws (carry c, h) = absurd (differ _ _ refl (heads _ _ _ _ h.words_are))
to_prism_props_file ws (specialise q, h) = absurd (differ _ _ refl (heads _ _ _ _ h.words_are))

pub behind_to_prism_props : (ws : List (List ℕ)) (k : ℕ) → IsWrong HasFileWord ws k → IsWrong HasForm (codes "to-prism-props" ∷ ws) (k + 1)
behind_to_prism_props ws k e = wrong_behind HasFileWord HasForm (codes "to-prism-props") ws k to_prism_props_form to_prism_props_file e

-- ---- behind `check`
abbrev pub CheckForm : List (List ℕ) → Type 0
CheckForm ws = HasForm (codes "check" ∷ ws)

prism_form : (ws : List (List ℕ)) → HasFileWord ws → CheckForm (codes "prism" ∷ ws)
prism_form ws f = (on_file CheckPrism f.0, (f.1.0, ap (λ v. codes "check" ∷ codes "prism" ∷ v) f.1.1))

prism_file : (ws : List (List ℕ)) → CheckForm (codes "prism" ∷ ws) → HasFileWord ws
prism_file ws (on_file ToJani name, f) = absurd (differ _ _ refl (heads _ _ _ _ f.1))
prism_file ws (on_file ToPrism name, f) = absurd (differ _ _ refl (heads _ _ _ _ f.1))
prism_file ws (on_file ToPrismProps name, f) = absurd (differ _ _ refl (heads _ _ _ _ f.1))
prism_file ws (on_file CheckPrism name, f) = (name, (f.0, tails _ _ _ _ (tails _ _ _ _ f.1)))
prism_file ws (on_file CheckJani name, f) = absurd (differ _ _ refl (heads _ _ _ _ (tails _ _ _ _ f.1)))
prism_file ws (with_properties f p, h) = absurd (differ _ _ refl (heads _ _ _ _ h.words_are))
prism_file ws (generate n, h) = absurd (differ _ _ refl (heads _ _ _ _ h.words_are))
prism_file ws (walk w, h) = absurd (not_walk _ _ w (differ _ _ refl) (differ _ _ refl) h)
prism_file ws (check c, h) = absurd (not_check _ _ c (differ _ _ refl) (differ _ _ refl) (differ _ _ refl) h)
prism_file ws (carry c, h) = absurd (differ _ _ refl (heads _ _ _ _ h.words_are))
prism_file ws (specialise q, h) = absurd (differ _ _ refl (heads _ _ _ _ h.words_are))

jani_form : (ws : List (List ℕ)) → HasFileWord ws → CheckForm (codes "jani" ∷ ws)
jani_form ws f = (on_file CheckJani f.0, (f.1.0, ap (λ v. codes "check" ∷ codes "jani" ∷ v) f.1.1))

jani_file : (ws : List (List ℕ)) → CheckForm (codes "jani" ∷ ws) → HasFileWord ws
jani_file ws (on_file ToJani name, f) = absurd (differ _ _ refl (heads _ _ _ _ f.1))
jani_file ws (on_file ToPrism name, f) = absurd (differ _ _ refl (heads _ _ _ _ f.1))
jani_file ws (on_file ToPrismProps name, f) = absurd (differ _ _ refl (heads _ _ _ _ f.1))
jani_file ws (on_file CheckPrism name, f) = absurd (differ _ _ refl (heads _ _ _ _ (tails _ _ _ _ f.1)))
jani_file ws (on_file CheckJani name, f) = (name, (f.0, tails _ _ _ _ (tails _ _ _ _ f.1)))
jani_file ws (with_properties f p, h) = absurd (differ _ _ refl (heads _ _ _ _ h.words_are))
jani_file ws (generate n, h) = absurd (differ _ _ refl (heads _ _ _ _ h.words_are))
jani_file ws (walk w, h) = absurd (not_walk _ _ w (differ _ _ refl) (differ _ _ refl) h)
jani_file ws (check c, h) = absurd (not_check _ _ c (differ _ _ refl) (differ _ _ refl) (differ _ _ refl) h)
jani_file ws (carry c, h) = absurd (differ _ _ refl (heads _ _ _ _ h.words_are))
jani_file ws (specialise q, h) = absurd (differ _ _ refl (heads _ _ _ _ h.words_are))

pub behind_jani : (ws : List (List ℕ)) (k : ℕ) → IsWrong HasFileWord ws k → IsWrong CheckForm (codes "jani" ∷ ws) (k + 1)
behind_jani ws k e = wrong_behind HasFileWord CheckForm (codes "jani") ws k jani_form jani_file e

pub behind_prism : (ws : List (List ℕ)) (k : ℕ) → IsWrong HasFileWord ws k → IsWrong CheckForm (codes "prism" ∷ ws) (k + 1)
behind_prism ws k e = wrong_behind HasFileWord CheckForm (codes "prism") ws k prism_form prism_file e

pub behind_check : (ws : List (List ℕ)) (k : ℕ) → IsWrong CheckForm ws k → IsWrong HasForm (codes "check" ∷ ws) (k + 1)
behind_check ws k e = wrong_next HasForm (codes "check") ws k e

check_begins : Begins CheckForm []
check_begins = (codes "prism" ∷ (102 ∷ []) ∷ [], prism_form _ some_name)

not_check_end : CheckForm [] → ⊥
not_check_end (on_file ToJani name, f) = differ _ _ refl (heads _ _ _ _ f.1)
not_check_end (on_file ToPrism name, f) = differ _ _ refl (heads _ _ _ _ f.1)
not_check_end (on_file ToPrismProps name, f) = differ _ _ refl (heads _ _ _ _ f.1)
not_check_end (on_file CheckPrism name, f) = let e = tails _ _ _ _ f.1 in cc
not_check_end (on_file CheckJani name, f) = let e = tails _ _ _ _ f.1 in cc
not_check_end (with_properties f p, h) = differ _ _ refl (heads _ _ _ _ h.words_are)
not_check_end (generate n, h) = differ _ _ refl (heads _ _ _ _ h.words_are)
not_check_end (walk w, h) = not_walk _ _ w (differ _ _ refl) (differ _ _ refl) h
not_check_end (check c, h) = not_check _ _ c (differ _ _ refl) (differ _ _ refl) (differ _ _ refl) h
not_check_end (carry c, h) = differ _ _ refl (heads _ _ _ _ h.words_are)
not_check_end (specialise q, h) = differ _ _ refl (heads _ _ _ _ h.words_are)

pub no_language : IsWrong CheckForm [] 1
no_language = wrong_end CheckForm check_begins not_check_end

language : (lang : List ℕ) → Begins CheckForm (lang ∷ []) → (lang ≡ codes "prism") ⊎ (lang ≡ codes "jani")
language lang (more, (on_file ToJani name, f)) = absurd (differ _ _ refl (heads _ _ _ _ f.1))
language lang (more, (on_file ToPrism name, f)) = absurd (differ _ _ refl (heads _ _ _ _ f.1))
language lang (more, (on_file ToPrismProps name, f)) = absurd (differ _ _ refl (heads _ _ _ _ f.1))
language lang (more, (on_file CheckPrism name, f)) = inl (heads _ _ _ _ (tails _ _ _ _ f.1))
language lang (more, (on_file CheckJani name, f)) = inr (heads _ _ _ _ (tails _ _ _ _ f.1))
language lang (more, (with_properties f p, h)) = absurd (differ _ _ refl (heads _ _ _ _ h.words_are))
language lang (more, (generate n, h)) = absurd (differ _ _ refl (heads _ _ _ _ h.words_are))
language lang (more, (walk w, h)) = absurd (not_walk _ _ w (differ _ _ refl) (differ _ _ refl) h)
language lang (more, (check c, h)) = absurd (not_check _ _ c (differ _ _ refl) (differ _ _ refl) (differ _ _ refl) h)
language lang (more, (carry c, h)) = absurd (differ _ _ refl (heads _ _ _ _ h.words_are))
language lang (more, (specialise q, h)) = absurd (differ _ _ refl (heads _ _ _ _ h.words_are))

pub other_language : (lang : List ℕ) (ws : List (List ℕ)) → lang ≢ codes "prism" → lang ≢ codes "jani" → IsWrong CheckForm (lang ∷ ws) 1
other_language lang ws a b = wrong_first CheckForm lang ws check_begins (λ begins. neither (language lang begins))
  where
    neither : (lang ≡ codes "prism") ⊎ (lang ≡ codes "jani") → ⊥
    neither (inl e) = a e
    neither (inr e) = b e

-- ---- behind `generate`
generate_form : (ws : List (List ℕ)) → GenerateForm ws → HasForm (codes "generate" ∷ ws)
generate_form [] h = absurd h
generate_form (w ∷ ws) h = (generate h.0.0, record { some = h.0.1; few = h.0.2.0; words_are = ap₂ (λ v vs. codes "generate" ∷ v ∷ vs) h.0.2.1 h.1 })

generate_rest : (ws : List (List ℕ)) → HasForm (codes "generate" ∷ ws) → GenerateForm ws
generate_rest ws (on_file task name, f) = absurd (not_task _ ws task name (differ _ _ refl) (differ _ _ refl) (differ _ _ refl) (differ _ _ refl) f.1)
generate_rest ws (with_properties f p, h) = absurd (differ _ _ refl (heads _ _ _ _ h.words_are))
generate_rest ws (generate n, h) = subst GenerateForm (sym (tails _ _ _ _ h.words_are)) ((n, h.some, (h.few, refl)), refl)
generate_rest ws (walk w, h) = absurd (not_walk _ ws w (differ _ _ refl) (differ _ _ refl) h)
generate_rest ws (check c, h) = absurd (not_check _ ws c (differ _ _ refl) (differ _ _ refl) (differ _ _ refl) h)
generate_rest ws (carry c, h) = absurd (differ _ _ refl (heads _ _ _ _ h.words_are))
generate_rest ws (specialise q, h) = absurd (differ _ _ refl (heads _ _ _ _ h.words_are))

pub behind_generate : (ws : List (List ℕ)) (k : ℕ) → IsWrong GenerateForm ws k → IsWrong HasForm (codes "generate" ∷ ws) (k + 1)
behind_generate ws k e = wrong_behind GenerateForm HasForm (codes "generate") ws k generate_form generate_rest e

end_begins : Begins (λ vs. vs ≡ []) []
end_begins = ([], refl)

generate_begins : Begins GenerateForm []
generate_begins = one_begins IsModulesWord (λ vs. vs ≡ []) (decimal 1) (1, omega arith, (omega arith, refl)) end_begins

pub no_modules : IsWrong GenerateForm [] 1
no_modules = one_end IsModulesWord (λ vs. vs ≡ []) generate_begins

-- the word is no such number
pub other_modules : (w : List ℕ) (ws : List (List ℕ)) → (IsModulesWord w → ⊥) → IsWrong GenerateForm (w ∷ ws) 1
other_modules w ws none = one_first IsModulesWord (λ vs. vs ≡ []) generate_begins w ws none

-- a word stands behind it
pub behind_modules : (w : List ℕ) (ws : List (List ℕ)) → IsModulesWord w → ws ≢ [] → IsWrong GenerateForm (w ∷ ws) 2
behind_modules w ws is some = one_next IsModulesWord (λ vs. vs ≡ []) w ws 1 is (third_word ws some)
  where
    third_word : (vs : List (List ℕ)) → vs ≢ [] → IsWrong (λ us. us ≡ []) vs 1
    third_word [] some = absurd (some refl)
    third_word (v ∷ vs) some = wrong_first (λ us. us ≡ []) v vs end_begins (λ begins. let e = begins.1 in cc)

-- ---- behind `show`
show_form : (ws : List (List ℕ)) → ShowForm ws → HasForm (codes "show" ∷ ws)
show_form [] h = absurd h
show_form (l ∷ []) h = absurd h.1
show_form (l ∷ f ∷ []) h = absurd h.1.1
show_form (l ∷ f ∷ s ∷ ws) h = (
  walk (record { lang = h.0.0; file = f; job = showing s; given = h.1.1.1.0 }),
  record { file = h.1.0; job = h.1.1.0; rest = ws; words_are = ap (λ v. codes "show" ∷ v ∷ f ∷ s ∷ ws) h.0.1; given = h.1.1.1.1 },
)

show_parts : (ws rest : List (List ℕ)) (l : Lang) (f : List ℕ) (j : Job) (given : List Assignment) → IsFileName f → IsJob j → AreGiven rest given
    → codes "show" ∷ ws ≡ job_verb j ∷ lang_word l ∷ f ∷ (job_words j ++ rest) → ShowForm ws
show_parts ws rest l f (showing s) given a b g e = subst ShowForm (sym (tails _ _ _ _ e)) ((l, refl), (a, (b, (given, g))))
show_parts ws rest l f (along from ps) given a b g e = absurd (differ _ _ refl (heads _ _ _ _ e))
show_parts ws rest l f (seeded from n k) given a b g e = absurd (differ _ _ refl (heads _ _ _ _ e))

show_rest : (ws : List (List ℕ)) → HasForm (codes "show" ∷ ws) → ShowForm ws
show_rest ws (on_file task name, f) = absurd (not_task _ ws task name (differ _ _ refl) (differ _ _ refl) (differ _ _ refl) (differ _ _ refl) f.1)
show_rest ws (with_properties f p, h) = absurd (differ _ _ refl (heads _ _ _ _ h.words_are))
show_rest ws (generate n, h) = absurd (differ _ _ refl (heads _ _ _ _ h.words_are))
show_rest ws (walk w, h) = show_parts ws h.rest w.lang w.file w.job w.given h.file h.job h.given h.words_are
show_rest ws (check c, h) = absurd (not_check _ ws c (differ _ _ refl) (differ _ _ refl) (differ _ _ refl) h)
show_rest ws (carry c, h) = absurd (differ _ _ refl (heads _ _ _ _ h.words_are))
show_rest ws (specialise q, h) = absurd (differ _ _ refl (heads _ _ _ _ h.words_are))

pub behind_show : (ws : List (List ℕ)) (k : ℕ) → IsWrong ShowForm ws k → IsWrong HasForm (codes "show" ∷ ws) (k + 1)
behind_show ws k e = wrong_behind ShowForm HasForm (codes "show") ws k show_form show_rest e

-- ---- behind `simulate`
-- a walk, and the words behind its own
record IsWalkOf (from : Option (List ℕ)) (ws : List (List ℕ)) : Type 0 where
  walk_job : Job
  is_job : IsFrom from → IsJob walk_job
  verb_is : job_verb walk_job ≡ codes "simulate"
  behind : List (List ℕ)
  words_are : from_words from ++ ws ≡ job_words walk_job ++ behind
  given : HasGiven behind

way_form : (from : Option (List ℕ)) (ws : List (List ℕ)) → WayForm ws → IsWalkOf from ws
way_form from [] (inl h) = absurd h
way_form from [] (inr h) = absurd h
way_form from (w ∷ []) (inl h) = absurd h.1
way_form from (w ∷ p ∷ ws) (inl h) = record {
  walk_job = along from h.1.0.0;
  is_job = λ f. (f, h.1.0.1.some, h.1.0.1.small);
  verb_is = refl;
  behind = ws;
  words_are = ap₂ (λ a b. from_words from ++ a ∷ b ∷ ws) h.0 h.1.0.1.text ∙ sym (append_assoc (from_words from) (codes "given" ∷ pairs_text h.1.0.0 ∷ []) ws);
  given = h.1.1;
}
way_form from (w ∷ []) (inr h) = absurd h.1
way_form from (w ∷ n ∷ []) (inr h) = absurd h.1.1
way_form from (w ∷ n ∷ k ∷ ws) (inr h) = record {
  walk_job = seeded from h.1.0.0 h.1.1.0.0;
  is_job = λ f. (f, (let b = h.1.0.1.0 in omega arith), h.1.1.0.1.0);
  verb_is = refl;
  behind = ws;
  words_are = ap (λ a. from_words from ++ a ∷ n ∷ k ∷ ws) h.0 ∙ ap₂ (λ a b. from_words from ++ codes "seed" ∷ a ∷ b ∷ ws) h.1.0.1.1 h.1.1.0.1.1
      ∙ sym (append_assoc (from_words from) (codes "seed" ∷ decimal h.1.0.0 ∷ decimal h.1.1.0.0 ∷ []) ws);
  given = h.1.1.1;
}

walk_form : (ws : List (List ℕ)) → WalkForm ws → IsWalkOf None ws
walk_form ws (inl h) = way_form None ws h
walk_form [] (inr h) = absurd h
walk_form (w ∷ []) (inr h) = absurd h.1
walk_form (w ∷ s ∷ ws) (inr h) =
    let k = way_form (Some s) ws h.1.1 in
    record { walk_job = k.walk_job; is_job = λ f. k.is_job h.1.0; verb_is = k.verb_is; behind = k.behind; words_are = ap (λ v. v ∷ s ∷ ws) h.0 ∙ k.words_are; given = k.given }

simulate_form : (ws : List (List ℕ)) → SimulateForm ws → HasForm (codes "simulate" ∷ ws)
simulate_form [] h = absurd h
simulate_form (l ∷ []) h = absurd h.1
simulate_form (l ∷ f ∷ ws) h =
    let k = walk_form ws h.1.1 in (
      walk (record { lang = h.0.0; file = f; job = k.walk_job; given = k.given.0 }),
      record {
        file = h.1.0;
        job = k.is_job tt;
        rest = k.behind;
        words_are = ap (λ v. codes "simulate" ∷ v ∷ f ∷ ws) h.0.1 ∙ ap₂ (λ v vs. v ∷ lang_word h.0.0 ∷ f ∷ vs) (sym k.verb_is) k.words_are;
        given = k.given.1;
      },
    )

given_rest : (rest : List (List ℕ)) (ps : List (ℕ × ℕ)) → (ps ≢ []) → AllByRecursion IsSmall ps → HasGiven rest → GivenForm (pairs_text ps ∷ rest)
given_rest rest ps a b g = ((ps, record { some = a; small = b; text = refl }), g)

seed_rest : (rest : List (List ℕ)) (n k : ℕ) → n < 2 ^ 64 → k ≤ 1000000 → HasGiven rest → SeedForm (decimal n ∷ decimal k ∷ rest)
seed_rest rest n k a b g = ((n, (omega arith, refl)), ((k, (b, refl)), g))

walk_rest : (rest : List (List ℕ)) (j : Job) → job_verb j ≡ codes "simulate" → IsJob j → HasGiven rest → WalkForm (job_words j ++ rest)
walk_rest rest (showing s) e h g = absurd (differ _ _ refl e)
walk_rest rest (along None ps) e h g = inl (inl (refl, given_rest rest ps h.1 h.2 g))
walk_rest rest (along (Some s) ps) e h g = inr (refl, (h.0, inl (refl, given_rest rest ps h.1 h.2 g)))
walk_rest rest (seeded None n k) e h g = inl (inr (refl, seed_rest rest n k h.1 h.2 g))
walk_rest rest (seeded (Some s) n k) e h g = inr (refl, (h.0, inr (refl, seed_rest rest n k h.1 h.2 g)))

simulate_rest : (ws : List (List ℕ)) → HasForm (codes "simulate" ∷ ws) → SimulateForm ws
simulate_rest ws (on_file task name, f) = absurd (not_task _ ws task name (differ _ _ refl) (differ _ _ refl) (differ _ _ refl) (differ _ _ refl) f.1)
simulate_rest ws (with_properties f p, h) = absurd (differ _ _ refl (heads _ _ _ _ h.words_are))
simulate_rest ws (generate n, h) = absurd (differ _ _ refl (heads _ _ _ _ h.words_are))
simulate_rest ws (walk w, h) =
    subst SimulateForm (sym (tails _ _ _ _ h.words_are)) ((w.lang, refl), (h.file, walk_rest h.rest w.job (sym (heads _ _ _ _ h.words_are)) h.job (w.given, h.given)))
simulate_rest ws (check c, h) = absurd (not_check _ ws c (differ _ _ refl) (differ _ _ refl) (differ _ _ refl) h)
simulate_rest ws (carry c, h) = absurd (differ _ _ refl (heads _ _ _ _ h.words_are))
simulate_rest ws (specialise q, h) = absurd (differ _ _ refl (heads _ _ _ _ h.words_are))

pub behind_simulate : (ws : List (List ℕ)) (k : ℕ) → IsWrong SimulateForm ws k → IsWrong HasForm (codes "simulate" ∷ ws) (k + 1)
behind_simulate ws k e = wrong_behind SimulateForm HasForm (codes "simulate") ws k simulate_form simulate_rest e

-- ---- behind `check-path`, `check-rows` and `check-bound`
path_form : (ws : List (List ℕ)) → HeadForm PathForm ws → HasForm (codes "check-path" ∷ ws)
path_form [] h = absurd h
path_form (l ∷ []) h = absurd h.1
path_form (l ∷ f ∷ []) h = absurd h.1.1
path_form (l ∷ f ∷ p ∷ ws) h = (
  check (record { lang = h.0.0; file = f; claim = of_path p; given = h.1.1.1.0 }),
  record { names = ((h.1.0, tt), (h.1.1.0, tt)); claim = tt; rest = ws; words_are = ap (λ v. codes "check-path" ∷ v ∷ f ∷ p ∷ ws) h.0.1; given = h.1.1.1.1 },
)

rows_form : (ws : List (List ℕ)) → HeadForm RowsForm ws → HasForm (codes "check-rows" ∷ ws)
rows_form [] h = absurd h
rows_form (l ∷ []) h = absurd h.1
rows_form (l ∷ f ∷ []) h = absurd h.1.1
rows_form (l ∷ f ∷ s ∷ []) h = absurd h.1.1.1
rows_form (l ∷ f ∷ s ∷ r ∷ ws) h = (
  check (record { lang = h.0.0; file = f; claim = of_rows s r; given = h.1.1.1.1.0 }),
  record { names = ((h.1.0, tt), (h.1.1.0, (h.1.1.1.0, tt))); claim = tt; rest = ws; words_are = ap (λ v. codes "check-rows" ∷ v ∷ f ∷ s ∷ r ∷ ws) h.0.1; given = h.1.1.1.1.1 },
)

bounds_form : (ws : List (List ℕ)) → HeadForm BoundsForm ws → HasForm (codes "check-bound" ∷ ws)
bounds_form [] h = absurd h
bounds_form (l ∷ []) h = absurd h.1
bounds_form (l ∷ f ∷ []) h = absurd h.1.1
bounds_form (l ∷ f ∷ s ∷ []) h = absurd h.1.1.1
bounds_form (l ∷ f ∷ s ∷ r ∷ []) h = absurd h.1.1.1.1
bounds_form (l ∷ f ∷ s ∷ r ∷ a ∷ []) h = absurd h.1.1.1.1.1
bounds_form (l ∷ f ∷ s ∷ r ∷ a ∷ b ∷ ws) h = (
  check (record { lang = h.0.0; file = f; claim = of_bounds s r a b; given = h.1.1.1.1.1.1.0 }),
  record {
    names = ((h.1.0, tt), (h.1.1.0, (h.1.1.1.0, (h.1.1.1.1.1.0, tt))));
    claim = h.1.1.1.1.0.0;
    rest = ws;
    words_are = ap (λ v. codes "check-bound" ∷ v ∷ f ∷ s ∷ r ∷ a ∷ b ∷ ws) h.0.1;
    given = h.1.1.1.1.1.1.1;
  },
)

module _ (ws rest : List (List ℕ)) (l : Lang) (f : List ℕ) (given : List Assignment) (g : AreGiven rest given) where
  path_parts : (m : Claim) → AreNamesBehind [] (f ∷ claim_files m) → codes "check-path" ∷ ws ≡ claim_verb m ∷ lang_word l ∷ f ∷ (claim_words m ++ rest) → HeadForm PathForm ws
  path_parts (of_path p) a e = subst (HeadForm PathForm) (sym (tails _ _ _ _ e)) ((l, refl), (a.0.0, (a.1.0, (given, g))))
  path_parts (of_rows s r) a e = absurd (differ _ _ refl (heads _ _ _ _ e))
  path_parts (of_bounds s r n b) a e = absurd (differ _ _ refl (heads _ _ _ _ e))

  rows_parts : (m : Claim) → AreNamesBehind [] (f ∷ claim_files m) → codes "check-rows" ∷ ws ≡ claim_verb m ∷ lang_word l ∷ f ∷ (claim_words m ++ rest) → HeadForm RowsForm ws
  rows_parts (of_path p) a e = absurd (differ _ _ refl (heads _ _ _ _ e))
  rows_parts (of_rows s r) a e = subst (HeadForm RowsForm) (sym (tails _ _ _ _ e)) ((l, refl), (a.0.0, (a.1.0, (a.1.1.0, (given, g)))))
  rows_parts (of_bounds s r n b) a e = absurd (differ _ _ refl (heads _ _ _ _ e))

  bounds_parts : (m : Claim) → AreNamesBehind [] (f ∷ claim_files m) → IsClaim m → codes "check-bound" ∷ ws ≡ claim_verb m ∷ lang_word l ∷ f ∷ (claim_words m ++ rest) → HeadForm BoundsForm ws
  bounds_parts (of_path p) a i e = absurd (differ _ _ refl (heads _ _ _ _ e))
  bounds_parts (of_rows s r) a i e = absurd (differ _ _ refl (heads _ _ _ _ e))
  bounds_parts (of_bounds s r n b) a i e = subst (HeadForm BoundsForm) (sym (tails _ _ _ _ e)) ((l, refl), (a.0.0, (a.1.0, (a.1.1.0, ((i, tt), (a.1.1.1.0, (given, g)))))))

path_rest : (ws : List (List ℕ)) → HasForm (codes "check-path" ∷ ws) → HeadForm PathForm ws
path_rest ws (on_file task name, f) = absurd (not_task _ ws task name (differ _ _ refl) (differ _ _ refl) (differ _ _ refl) (differ _ _ refl) f.1)
path_rest ws (with_properties f p, h) = absurd (differ _ _ refl (heads _ _ _ _ h.words_are))
path_rest ws (generate n, h) = absurd (differ _ _ refl (heads _ _ _ _ h.words_are))
path_rest ws (walk w, h) = absurd (not_walk _ ws w (differ _ _ refl) (differ _ _ refl) h)
path_rest ws (check c, h) = path_parts ws h.rest c.lang c.file c.given h.given c.claim h.names h.words_are
path_rest ws (carry c, h) = absurd (differ _ _ refl (heads _ _ _ _ h.words_are))
path_rest ws (specialise q, h) = absurd (differ _ _ refl (heads _ _ _ _ h.words_are))

rows_rest : (ws : List (List ℕ)) → HasForm (codes "check-rows" ∷ ws) → HeadForm RowsForm ws
rows_rest ws (on_file task name, f) = absurd (not_task _ ws task name (differ _ _ refl) (differ _ _ refl) (differ _ _ refl) (differ _ _ refl) f.1)
rows_rest ws (with_properties f p, h) = absurd (differ _ _ refl (heads _ _ _ _ h.words_are))
rows_rest ws (generate n, h) = absurd (differ _ _ refl (heads _ _ _ _ h.words_are))
rows_rest ws (walk w, h) = absurd (not_walk _ ws w (differ _ _ refl) (differ _ _ refl) h)
rows_rest ws (check c, h) = rows_parts ws h.rest c.lang c.file c.given h.given c.claim h.names h.words_are
rows_rest ws (carry c, h) = absurd (differ _ _ refl (heads _ _ _ _ h.words_are))
rows_rest ws (specialise q, h) = absurd (differ _ _ refl (heads _ _ _ _ h.words_are))

bounds_rest : (ws : List (List ℕ)) → HasForm (codes "check-bound" ∷ ws) → HeadForm BoundsForm ws
bounds_rest ws (on_file task name, f) = absurd (not_task _ ws task name (differ _ _ refl) (differ _ _ refl) (differ _ _ refl) (differ _ _ refl) f.1)
bounds_rest ws (with_properties f p, h) = absurd (differ _ _ refl (heads _ _ _ _ h.words_are))
bounds_rest ws (generate n, h) = absurd (differ _ _ refl (heads _ _ _ _ h.words_are))
bounds_rest ws (walk w, h) = absurd (not_walk _ ws w (differ _ _ refl) (differ _ _ refl) h)
bounds_rest ws (check c, h) = bounds_parts ws h.rest c.lang c.file c.given h.given c.claim h.names h.claim h.words_are
bounds_rest ws (carry c, h) = absurd (differ _ _ refl (heads _ _ _ _ h.words_are))
bounds_rest ws (specialise q, h) = absurd (differ _ _ refl (heads _ _ _ _ h.words_are))

pub behind_path : (ws : List (List ℕ)) (k : ℕ) → IsWrong (HeadForm PathForm) ws k → IsWrong HasForm (codes "check-path" ∷ ws) (k + 1)
behind_path ws k e = wrong_behind (HeadForm PathForm) HasForm (codes "check-path") ws k path_form path_rest e

pub behind_rows : (ws : List (List ℕ)) (k : ℕ) → IsWrong (HeadForm RowsForm) ws k → IsWrong HasForm (codes "check-rows" ∷ ws) (k + 1)
behind_rows ws k e = wrong_behind (HeadForm RowsForm) HasForm (codes "check-rows") ws k rows_form rows_rest e

pub behind_bounds : (ws : List (List ℕ)) (k : ℕ) → IsWrong (HeadForm BoundsForm) ws k → IsWrong HasForm (codes "check-bound" ∷ ws) (k + 1)
behind_bounds ws k e = wrong_behind (HeadForm BoundsForm) HasForm (codes "check-bound") ws k bounds_form bounds_rest e

-- ---- behind `carry-path`
carry_form : (ws : List (List ℕ)) → HeadForm PathForm ws → HasForm (codes "carry-path" ∷ ws)
carry_form [] h = absurd h
carry_form (l ∷ []) h = absurd h.1
carry_form (l ∷ f ∷ []) h = absurd h.1.1
carry_form (l ∷ f ∷ p ∷ ws) h = (
  carry (record { lang = h.0.0; file = f; path = p; given = h.1.1.1.0 }),
  record { names = ((h.1.0, tt), (h.1.1.0, tt)); rest = ws; words_are = ap (λ v. codes "carry-path" ∷ v ∷ f ∷ p ∷ ws) h.0.1; given = h.1.1.1.1 },
)

carry_rest : (ws : List (List ℕ)) → HasForm (codes "carry-path" ∷ ws) → HeadForm PathForm ws
carry_rest ws (on_file task name, f) = absurd (not_task _ ws task name (differ _ _ refl) (differ _ _ refl) (differ _ _ refl) (differ _ _ refl) f.1)
carry_rest ws (with_properties f p, h) = absurd (differ _ _ refl (heads _ _ _ _ h.words_are))
carry_rest ws (generate n, h) = absurd (differ _ _ refl (heads _ _ _ _ h.words_are))
carry_rest ws (walk w, h) = absurd (not_walk _ ws w (differ _ _ refl) (differ _ _ refl) h)
carry_rest ws (check c, h) = absurd (not_check _ ws c (differ _ _ refl) (differ _ _ refl) (differ _ _ refl) h)
carry_rest ws (carry c, h) = subst (HeadForm PathForm) (sym (tails _ _ _ _ h.words_are)) ((c.lang, refl), (h.names.0.0, (h.names.1.0, (c.given, h.given))))
carry_rest ws (specialise q, h) = absurd (differ _ _ refl (heads _ _ _ _ h.words_are))

pub behind_carry : (ws : List (List ℕ)) (k : ℕ) → IsWrong (HeadForm PathForm) ws k → IsWrong HasForm (codes "carry-path" ∷ ws) (k + 1)
behind_carry ws k e = wrong_behind (HeadForm PathForm) HasForm (codes "carry-path") ws k carry_form carry_rest e

-- ---- behind `specialise`
specialise_form : (ws : List (List ℕ)) → SpecialiseForm ws → HasForm (codes "specialise" ∷ ws)
specialise_form [] h = absurd h
specialise_form (l ∷ []) h = absurd h.1
specialise_form (l ∷ f ∷ ws) h = (
  specialise (record { lang = h.0.0; file = f; given = h.1.1.0 }),
  record { file = h.1.0; rest = ws; words_are = ap (λ v. codes "specialise" ∷ v ∷ f ∷ ws) h.0.1; given = h.1.1.1 },
)

specialise_rest : (ws : List (List ℕ)) → HasForm (codes "specialise" ∷ ws) → SpecialiseForm ws
specialise_rest ws (on_file task name, f) = absurd (not_task _ ws task name (differ _ _ refl) (differ _ _ refl) (differ _ _ refl) (differ _ _ refl) f.1)
specialise_rest ws (with_properties f p, h) = absurd (differ _ _ refl (heads _ _ _ _ h.words_are))
specialise_rest ws (generate n, h) = absurd (differ _ _ refl (heads _ _ _ _ h.words_are))
specialise_rest ws (walk w, h) = absurd (not_walk _ ws w (differ _ _ refl) (differ _ _ refl) h)
specialise_rest ws (check c, h) = absurd (not_check _ ws c (differ _ _ refl) (differ _ _ refl) (differ _ _ refl) h)
specialise_rest ws (carry c, h) = absurd (differ _ _ refl (heads _ _ _ _ h.words_are))
specialise_rest ws (specialise q, h) = subst SpecialiseForm (sym (tails _ _ _ _ h.words_are)) ((q.lang, refl), (h.file, (q.given, h.given)))

pub behind_specialise : (ws : List (List ℕ)) (k : ℕ) → IsWrong SpecialiseForm ws k → IsWrong HasForm (codes "specialise" ∷ ws) (k + 1)
behind_specialise ws k e = wrong_behind SpecialiseForm HasForm (codes "specialise") ws k specialise_form specialise_rest e

-- ---- the first word
form_begins : Begins HasForm []
form_begins = (codes "to-prism" ∷ (102 ∷ []) ∷ [], to_prism_form _ some_name)

not_form_end : HasForm [] → ⊥
not_form_end (on_file ToJani name, f) = let e = f.1 in cc
not_form_end (on_file ToPrism name, f) = let e = f.1 in cc
not_form_end (on_file ToPrismProps name, f) = let e = f.1 in cc
not_form_end (on_file CheckPrism name, f) = let e = f.1 in cc
not_form_end (on_file CheckJani name, f) = let e = f.1 in cc
not_form_end (with_properties f p, h) = let e = h.words_are in cc
not_form_end (generate n, h) = let e = h.words_are in cc
not_form_end (walk w, h) = let e = h.words_are in cc
not_form_end (check c, h) = let e = h.words_are in cc
not_form_end (carry c, h) = let e = h.words_are in cc
not_form_end (specialise q, h) = let e = h.words_are in cc

pub no_verb : IsWrong HasForm [] 1
no_verb = wrong_end HasForm form_begins not_form_end

module _ (v : List ℕ) (ws : List (List ℕ)) (a : v ≢ codes "to-jani") (b : v ≢ codes "to-prism") (p : v ≢ codes "to-prism-props") (c : v ≢ codes "check") (d : v ≢ codes "show") (e : v ≢ codes "simulate") (z : v ≢ codes "generate")
    (f : v ≢ codes "check-path") (g : v ≢ codes "check-rows") (i : v ≢ codes "check-bound") (j : v ≢ codes "carry-path") (k : v ≢ codes "specialise") where
  not_begun : Begins HasForm (v ∷ []) → ⊥
  not_begun (more, (on_file task name, h)) = not_task v more task name a b p c h.1
  not_begun (more, (with_properties file second, h)) = a (heads _ _ _ _ h.words_are)
  not_begun (more, (generate n, h)) = z (heads _ _ _ _ h.words_are)
  not_begun (more, (walk w, h)) = not_walk v more w d e h
  not_begun (more, (check m, h)) = not_check v more m f g i h
  not_begun (more, (carry m, h)) = j (heads _ _ _ _ h.words_are)
  not_begun (more, (specialise m, h)) = k (heads _ _ _ _ h.words_are)

  pub other_verb : IsWrong HasForm (v ∷ ws) 1
  other_verb = wrong_first HasForm v ws form_begins not_begun

-- ---- behind all words before those of the constants
more : (Form : List (List ℕ) → Type 0) (ws : List (List ℕ)) (k n : ℕ) → k ≡ n → IsWrong Form ws k → IsWrong Form ws n
more Form ws k n e h = subst (IsWrong Form ws) e h

module _ (ws : List (List ℕ)) (k : ℕ) (h : IsWrong HasGiven ws k) where
  given_wrong : (ps : List (ℕ × ℕ)) → (ps ≢ []) → AllByRecursion IsSmall ps → IsWrong WayForm (codes "given" ∷ pairs_text ps ∷ ws) (k + 1 + 1)
  given_wrong ps a b = way_given _ _ (one_next IsPairsWord HasGiven (pairs_text ps) ws k (ps, record { some = a; small = b; text = refl }) h)

  seed_wrong : (n m : ℕ) → n < 2 ^ 64 → m ≤ 1000000 → IsWrong WayForm (codes "seed" ∷ decimal n ∷ decimal m ∷ ws) (k + 1 + 1 + 1)
  seed_wrong n m a b =
      way_seed _ _ (one_next IsSeedWord (One IsStepsWord HasGiven) (decimal n) _ (k + 1) (n, (omega arith, refl)) (one_next IsStepsWord HasGiven (decimal m) ws k (m, (b, refl)) h))

  pub job_wrong : (j : Job) → IsJob j → (l : Lang) (f : List ℕ) → IsFileName f → IsWrong HasForm (job_verb j ∷ lang_word l ∷ f ∷ (job_words j ++ ws)) ((3 + job_count j) + k)
  job_wrong (showing s) b l f a =
      more HasForm _ _ _ (let e : k + 1 + 2 + 1 ≡ (3 + 1) + k = omega arith in e)
      (behind_show _ _ (behind_head (λ file. StateForm) state_begins (lang_word l) f _ _ (l, refl) a (one_next IsStateWord HasGiven s ws k b h)))
  job_wrong (along None ps) b l f a =
      more HasForm _ _ _ (let e : k + 1 + 1 + 2 + 1 ≡ (3 + 2) + k = omega arith in e)
      (behind_simulate _ _ (behind_head (λ file. WalkForm) walk_begins (lang_word l) f _ _ (l, refl) a (walk_way _ _ (differ _ _ refl) _ (given_wrong ps b.1 b.2))))
  job_wrong (along (Some s) ps) b l f a =
      more HasForm _ _ _ (let e : k + 1 + 1 + 1 + 1 + 2 + 1 ≡ (3 + 4) + k = omega arith in e)
      (behind_simulate _ _ (behind_head (λ file. WalkForm) walk_begins (lang_word l) f _ _ (l, refl) a (walk_from _ _ (one_next IsStateWord WayForm s _ _ b.0 (given_wrong ps b.1 b.2)))))
  job_wrong (seeded None n m) b l f a =
      more HasForm _ _ _ (let e : k + 1 + 1 + 1 + 2 + 1 ≡ (3 + 3) + k = omega arith in e)
      (behind_simulate _ _ (behind_head (λ file. WalkForm) walk_begins (lang_word l) f _ _ (l, refl) a (walk_way _ _ (differ _ _ refl) _ (seed_wrong n m b.1 b.2))))
  job_wrong (seeded (Some s) n m) b l f a =
      more HasForm _ _ _ (let e : k + 1 + 1 + 1 + 1 + 1 + 2 + 1 ≡ (3 + 5) + k = omega arith in e)
      (behind_simulate _ _ (behind_head (λ file. WalkForm) walk_begins (lang_word l) f _ _ (l, refl) a (walk_from _ _ (one_next IsStateWord WayForm s _ _ b.0 (seed_wrong n m b.1 b.2)))))

-- how many words stand before those of the constants
length-job : (j : Job) (rest : List (List ℕ)) → length (job_words j ++ rest) ≡ job_count j + length rest
length-job (showing s) rest = omega arith
length-job (along None ps) rest = omega arith
length-job (along (Some s) ps) rest = omega arith
length-job (seeded None n k) rest = omega arith
length-job (seeded (Some s) n k) rest = omega arith

pub length-front : (ws : List (List ℕ)) (v l f : List ℕ) (j : Job) (rest : List (List ℕ)) → ws ≡ v ∷ l ∷ f ∷ (job_words j ++ rest) → length ws ≡ (3 + job_count j) + length rest
length-front ws v l f j rest e = let a = ap length e in let b = length-job j rest in omega (arith, a, b)

-- behind the front of words, at so many
pub wrong_given : (ws rest : List (List ℕ)) (l : Lang) (f : List ℕ) (j : Job) (k n : ℕ) → IsFileName f → IsJob j → ws ≡ job_verb j ∷ lang_word l ∷ f ∷ (job_words j ++ rest)
    → n + length rest ≡ length ws → IsWrong HasGiven rest k → IsWrong HasForm ws (n + k)
wrong_given ws rest l f j k n a b e c h =
    let d = length-front ws (job_verb j) (lang_word l) f j rest e in
    more HasForm ws ((3 + job_count j) + k) (n + k) (omega (arith, c, d)) (subst (λ vs. IsWrong HasForm vs ((3 + job_count j) + k)) (sym e) (job_wrong rest k h j b l f a))

-- ---- behind a claim
module _ (rest : List (List ℕ)) (k : ℕ) (h : IsWrong HasGiven rest k) (l : Lang) (f : List ℕ) where
  claim_wrong : (m : Claim) → AreNamesBehind [] (f ∷ claim_files m) → IsClaim m → IsWrong HasForm (claim_verb m ∷ lang_word l ∷ f ∷ (claim_words m ++ rest)) ((3 + length (claim_words m)) + k)
  claim_wrong (of_path p) a c =
      more HasForm _ _ _ (let e : k + 1 + 2 + 1 ≡ (3 + 1) + k = omega arith in e)
      (behind_path _ _ (behind_head PathForm (path_begins (codes "f")) (lang_word l) f _ _ (l, refl) a.0.0 (one_next (IsNameBehind (f ∷ [])) HasGiven p rest k a.1.0 h)))
  claim_wrong (of_rows s r) a c =
      more HasForm _ _ _ (let e : k + 1 + 1 + 2 + 1 ≡ (3 + 2) + k = omega arith in e)
      (behind_rows _ _ (behind_head RowsForm (rows_begins (codes "f")) (lang_word l) f _ _ (l, refl) a.0.0
      (then_next (IsNameBehind (f ∷ [])) (λ states. One (IsNameBehind (f ∷ states ∷ [])) HasGiven) s _ (k + 1) a.1.0 (one_next (IsNameBehind (f ∷ s ∷ [])) HasGiven r rest k a.1.1.0 h))))
  claim_wrong (of_bounds s r n b) a c =
      more HasForm _ _ _ (let e : k + 1 + 1 + 1 + 1 + 2 + 1 ≡ (3 + 4) + k = omega arith in e)
      (behind_bounds _ _ (behind_head BoundsForm (bounds_begins (codes "f")) (lang_word l) f _ _ (l, refl) a.0.0
      (then_next (IsNameBehind (f ∷ [])) (λ states. Then (IsNameBehind (f ∷ states ∷ [])) (λ rows. LabelForm (f ∷ states ∷ rows ∷ []))) s _ (k + 1 + 1 + 1) a.1.0
      (then_next (IsNameBehind (f ∷ s ∷ [])) (λ rows. LabelForm (f ∷ s ∷ rows ∷ [])) r _ (k + 1 + 1) a.1.1.0
      (one_next (IsNameBehind []) (One (IsNameBehind (f ∷ s ∷ r ∷ [])) HasGiven) n _ (k + 1) (c, tt) (one_next (IsNameBehind (f ∷ s ∷ r ∷ [])) HasGiven b rest k a.1.1.1.0 h))))))

length-words : (m : Claim) (rest : List (List ℕ)) → length (claim_words m ++ rest) ≡ length (claim_words m) + length rest
length-words (of_path p) rest = omega arith
length-words (of_rows s r) rest = omega arith
length-words (of_bounds s r n b) rest = omega arith

pub length-claim : (ws : List (List ℕ)) (v l f : List ℕ) (m : Claim) (rest : List (List ℕ)) → ws ≡ v ∷ l ∷ f ∷ (claim_words m ++ rest) → length ws ≡ (3 + length (claim_words m)) + length rest
length-claim ws v l f m rest e = let a = ap length e in let b = length-words m rest in omega (arith, a, b)

-- behind the front of words, at so many
pub wrong_given_claim : (ws rest : List (List ℕ)) (l : Lang) (f : List ℕ) (m : Claim) (k n : ℕ) → AreNamesBehind [] (f ∷ claim_files m) → IsClaim m → ws ≡ claim_verb m ∷ lang_word l ∷ f ∷ (claim_words m ++ rest)
    → n + length rest ≡ length ws → IsWrong HasGiven rest k → IsWrong HasForm ws (n + k)
wrong_given_claim ws rest l f m k n a i e c h =
    let d = length-claim ws (claim_verb m) (lang_word l) f m rest e in
    more HasForm ws ((3 + length (claim_words m)) + k) (n + k) (omega (arith, c, d)) (subst (λ vs. IsWrong HasForm vs ((3 + length (claim_words m)) + k)) (sym e) (claim_wrong rest k h l f m a i))

-- ---- behind a path that is carried
pub wrong_given_carry : (ws rest : List (List ℕ)) (l : Lang) (f p : List ℕ) (k n : ℕ) → AreNamesBehind [] (f ∷ p ∷ []) → ws ≡ codes "carry-path" ∷ lang_word l ∷ f ∷ p ∷ rest → n + length rest ≡ length ws → IsWrong HasGiven rest k →
    IsWrong HasForm ws (n + k)
wrong_given_carry ws rest l f p k n a e c h =
    let d = ap length e in
    subst (λ vs. IsWrong HasForm vs (n + k)) (sym e)
    (more HasForm _ _ _ (let i : k + 1 + 2 + 1 ≡ n + k = omega (arith, c, d) in i)
    (behind_carry _ _ (behind_head PathForm (path_begins (codes "f")) (lang_word l) f _ _ (l, refl) a.0.0 (one_next (IsNameBehind (f ∷ [])) HasGiven p rest k a.1.0 h))))

-- ---- behind a file that is specialised
pub wrong_given_specialise : (ws rest : List (List ℕ)) (l : Lang) (f : List ℕ) (k n : ℕ) → IsFileName f → ws ≡ codes "specialise" ∷ lang_word l ∷ f ∷ rest → n + length rest ≡ length ws → IsWrong HasGiven rest k → IsWrong HasForm ws (n + k)
wrong_given_specialise ws rest l f k n a e c h =
    let d = ap length e in
    subst (λ vs. IsWrong HasForm vs (n + k)) (sym e)
    (more HasForm _ _ _ (let i : k + 2 + 1 ≡ n + k = omega (arith, c, d) in i)
    (behind_specialise _ _ (behind_head (λ file. HasGiven) given_begins (lang_word l) f _ _ (l, refl) a h)))
