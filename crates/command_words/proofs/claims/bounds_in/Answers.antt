use Rattle.std.proofs.Common.{◌≡◌, sym, subst, refl, ℕ, ◌+◌, List, ◌∷◌, []}
use Rattle.command_words.specs.Given.{HasGiven}
use Rattle.command_words.specs.Words.{IsWrong, IsNameBehind, lang_word}
use Rattle.command_words.specs.Fronts.{Then, One, IsFileName, HeadForm, LabelForm, BoundsForm}
use Rattle.command_words.specs.declared.request.Lang.{Lang}
use Rattle.command_words.proofs.Wrong.{then_next, one_next}
use Rattle.command_words.proofs.Forms.{wrong_head, behind_head, wrong_name, bounds_begins, behind_states_begins, label_begins, bounds_word_begins}
use Rattle.command_words.proofs.claims.bounds_in.Goals as goal

-- behind the words that are right
past_head : (words ws : List (List ℕ)) (l : Lang) (f : List ℕ) (k : ℕ) → words ≡ lang_word l ∷ f ∷ ws → IsFileName f → IsWrong (BoundsForm f) ws k → IsWrong (HeadForm BoundsForm) words (k + 2)
past_head words ws l f k e n h = subst (λ vs. IsWrong (HeadForm BoundsForm) vs (k + 2)) (sym e) (behind_head BoundsForm (bounds_begins _) _ _ _ k (l, refl) n h)

module _ (f : List ℕ) where
  past_states : (words ws : List (List ℕ)) (s : List ℕ) (k : ℕ) → words ≡ s ∷ ws → IsNameBehind (f ∷ []) s → IsWrong (Then (IsNameBehind (f ∷ s ∷ [])) (λ rows. LabelForm (f ∷ s ∷ rows ∷ []))) ws k → IsWrong (BoundsForm f) words (k + 1)
  past_states words ws s k e n h =
      subst (λ vs. IsWrong (BoundsForm f) vs (k + 1)) (sym e) (then_next (IsNameBehind (f ∷ [])) (λ states. Then (IsNameBehind (f ∷ states ∷ [])) (λ rows. LabelForm (f ∷ states ∷ rows ∷ []))) s ws k n h)

  past_rows : (s : List ℕ) (words ws : List (List ℕ)) (r : List ℕ) (k : ℕ) → words ≡ r ∷ ws → IsNameBehind (f ∷ s ∷ []) r → IsWrong (LabelForm (f ∷ s ∷ r ∷ [])) ws k →
      IsWrong (Then (IsNameBehind (f ∷ s ∷ [])) (λ rows. LabelForm (f ∷ s ∷ rows ∷ []))) words (k + 1)
  past_rows s words ws r k e n h =
      subst (λ vs. IsWrong (Then (IsNameBehind (f ∷ s ∷ [])) (λ rows. LabelForm (f ∷ s ∷ rows ∷ []))) vs (k + 1)) (sym e) (then_next (IsNameBehind (f ∷ s ∷ [])) (λ rows. LabelForm (f ∷ s ∷ rows ∷ [])) r ws k n h)

past_label : (before words ws : List (List ℕ)) (n : List ℕ) (k : ℕ) → words ≡ n ∷ ws → IsNameBehind [] n → IsWrong (One (IsNameBehind before) HasGiven) ws k → IsWrong (LabelForm before) words (k + 1)
past_label before words ws n k e i h = subst (λ vs. IsWrong (LabelForm before) vs (k + 1)) (sym e) (one_next (IsNameBehind []) (One (IsNameBehind before) HasGiven) n ws k i h)

pub returns-in-Err : goal.returns-in-Err
returns-in-Err c = wrong_head BoundsForm (bounds_begins _) _ _ c.in-Err.ensures

pub returns-in_default : goal.returns-in_default
returns-in_default c =
    let file = c.in-Ok.head.file.now in
    past_head _ _ c.in-Ok.head.lang file 1 c.in-Ok.ensures.words_are c.in-Ok.ensures.name
    (wrong_name (file ∷ []) (λ states. Then (IsNameBehind (file ∷ states ∷ [])) (λ rows. LabelForm (file ∷ states ∷ rows ∷ []))) (bounds_begins file) _ c.in_default.ensures)

pub returns-in_default-name_in : goal.returns-in_default-name_in
returns-in_default-name_in c =
    let file = c.in-Ok.head.file.now in
    let states = c.in-Some.states.name.now in
    past_head _ _ c.in-Ok.head.lang file 2 c.in-Ok.ensures.words_are c.in-Ok.ensures.name
    (past_states file _ _ states 1 c.in-Some.ensures.words_are c.in-Some.ensures.name
    (wrong_name (file ∷ states ∷ []) (λ rows. LabelForm (file ∷ states ∷ rows ∷ [])) (behind_states_begins file states) _ c.in_default-name_in.ensures))

pub returns-in_default-name_in-2 : goal.returns-in_default-name_in-2
returns-in_default-name_in-2 c =
    let file = c.in-Ok.head.file.now in
    let states = c.in-Some.states.name.now in
    let rows = c.in-Some-name_in.rows.name.now in
    past_head _ _ c.in-Ok.head.lang file 3 c.in-Ok.ensures.words_are c.in-Ok.ensures.name
    (past_states file _ _ states 2 c.in-Some.ensures.words_are c.in-Some.ensures.name
    (past_rows file states _ _ rows 1 c.in-Some-name_in.ensures.words_are c.in-Some-name_in.ensures.name
    (wrong_name [] (λ n. One (IsNameBehind (file ∷ states ∷ rows ∷ [])) HasGiven) (label_begins file states rows) _ c.in_default-name_in-2.ensures)))

pub returns-in_default-name_in-3 : goal.returns-in_default-name_in-3
returns-in_default-name_in-3 c =
    let file = c.in-Ok.head.file.now in
    let states = c.in-Some.states.name.now in
    let rows = c.in-Some-name_in.rows.name.now in
    past_head _ _ c.in-Ok.head.lang file 4 c.in-Ok.ensures.words_are c.in-Ok.ensures.name
    (past_states file _ _ states 3 c.in-Some.ensures.words_are c.in-Some.ensures.name
    (past_rows file states _ _ rows 2 c.in-Some-name_in.ensures.words_are c.in-Some-name_in.ensures.name
    (past_label (file ∷ states ∷ rows ∷ []) _ _ c.in-Some-name_in-2.label.name.now 1 c.in-Some-name_in-2.ensures.words_are c.in-Some-name_in-2.ensures.name
    (wrong_name (file ∷ states ∷ rows ∷ []) (λ b. HasGiven) (bounds_word_begins file states rows) _ c.in_default-name_in-3.ensures))))
