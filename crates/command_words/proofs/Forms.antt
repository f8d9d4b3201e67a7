-- The forms, and where words leave them.
use Rattle.std.proofs.Common.{arith, ◌≡◌, ◌≢◌, ◌∙◌, sym, ap, subst, ℕ, ◌+◌, ◌<◌, List, [], ◌∷◌, ◌++◌, length, length-append, inl, inr, refl, zero, suc, Result, Ok, Err, true, false, codes, lit<}
use Rattle.basics.specs.Texts.{bytes_eq-self}
use Rattle.std.specs.Fmt.{decimal}
use Rattle.std.specs.Prelude.{bytes_eq}
use Rattle.std.specs.List.{IsDistinct}
use Rattle.command_words.specs.Numbers.{pairs_text}
use Rattle.command_words.specs.Given.{HasGiven, AreGiven, AreApart}
use Rattle.command_words.specs.Words.{Begins, IsWrong, IsNameBehind, IsStateWord, AnswersWords}
use Rattle.command_words.specs.declared.request.WordsFail.{WordsFail}
use Rattle.command_words.specs.declared.request.WordsFail.TheVariants.{Memory, At}
use Rattle.command_words.specs.Fronts.{Then, One, IsLangWord, IsFileName, IsPairsWord, IsSeedWord, IsStepsWord, GivenForm, SeedForm, WayForm, FromForm, WalkForm, StateForm, PathForm, RowsForm, LabelForm, BoundsForm, HeadForm, IsHeadWrong, IsStateWrong, IsNameWrong}
use Rattle.command_words.specs.declared.request.Lang.TheVariants.{Jani}
use Rattle.command_words.proofs.Wrong.{wrong_end, wrong_first, wrong_behind, then_begins, then_next, then_end, then_first, one_begins, one_next, one_end, one_first}

pub differ : (u v : List ℕ) → bytes_eq u v ≡ false → u ≡ v → ⊥
differ u v f e = let z : false ≡ true = sym f ∙ ap (bytes_eq u) (sym e) ∙ bytes_eq-self u in cc

-- ---- words of each form
none_apart : AreApart []
unfolding IsDistinct
none_apart = tt

pub no_given : AreGiven [] []
no_given = record { are = tt; apart = none_apart }

pub given_begins : Begins HasGiven []
given_begins = ([], ([], no_given))

some_pairs : IsPairsWord (pairs_text ((0, 0) ∷ []))
some_pairs = ((0, 0) ∷ [], record { some = λ e. cc; small = ((lit< tt, lit< tt), tt); text = refl })

some_state : IsStateWord (codes "()")
some_state = record { inner = []; word = refl }

pub given_form_begins : Begins GivenForm []
given_form_begins = one_begins IsPairsWord HasGiven _ some_pairs given_begins

pub steps_begins : Begins (One IsStepsWord HasGiven) []
steps_begins = one_begins IsStepsWord HasGiven (decimal 0) (0, (omega arith, refl)) given_begins

pub seed_form_begins : Begins SeedForm []
seed_form_begins = one_begins IsSeedWord (One IsStepsWord HasGiven) (decimal 0) (0, (omega arith, refl)) steps_begins

pub way_begins : Begins WayForm []
way_begins = (codes "given" ∷ given_form_begins.0, inl (refl, given_form_begins.1))

pub walk_begins : Begins WalkForm []
walk_begins = (way_begins.0, inl way_begins.1)

pub state_begins : Begins StateForm []
state_begins = one_begins IsStateWord HasGiven (codes "()") some_state given_begins

module _ (Rest : List ℕ → List (List ℕ) → Type 0) (begins : Begins (Rest (codes "f")) []) where
  file_begins : Begins (Then IsFileName Rest) []
  file_begins = then_begins IsFileName Rest (codes "f") (λ e. cc) begins

  pub head_begins : Begins (HeadForm Rest) []
  head_begins = one_begins IsLangWord (Then IsFileName Rest) (codes "jani") (Jani, refl) file_begins

  pub wrong_head : (ws : List (List ℕ)) (k : ℕ) → IsHeadWrong ws k → IsWrong (HeadForm Rest) ws k
  wrong_head [] k e = subst (IsWrong (HeadForm Rest) []) (sym e) (one_end IsLangWord (Then IsFileName Rest) head_begins)
  wrong_head (l ∷ []) k (inl e) = subst (IsWrong (HeadForm Rest) (l ∷ [])) (sym e.0) (one_first IsLangWord (Then IsFileName Rest) head_begins l [] e.1)
  wrong_head (l ∷ []) k (inr e) = subst (IsWrong (HeadForm Rest) (l ∷ [])) (sym e.0) (one_next IsLangWord (Then IsFileName Rest) l [] 1 e.1 (then_end IsFileName Rest file_begins))
  wrong_head (l ∷ f ∷ ws) k (inl e) = subst (IsWrong (HeadForm Rest) (l ∷ f ∷ ws)) (sym e.0) (one_first IsLangWord (Then IsFileName Rest) head_begins l (f ∷ ws) e.1)
  wrong_head (l ∷ f ∷ ws) k (inr e) =
      subst (IsWrong (HeadForm Rest) (l ∷ f ∷ ws)) (sym e.0) (one_next IsLangWord (Then IsFileName Rest) l (f ∷ ws) 1 e.1 (then_first IsFileName Rest file_begins f ws (λ n. n e.2)))

  pub behind_head : (l f : List ℕ) (ws : List (List ℕ)) (k : ℕ) → IsLangWord l → IsFileName f → IsWrong (Rest f) ws k → IsWrong (HeadForm Rest) (l ∷ f ∷ ws) (k + 2)
  behind_head l f ws k a b e =
      subst (IsWrong (HeadForm Rest) (l ∷ f ∷ ws)) (let g : k + 1 + 1 ≡ k + 2 = omega arith in g)
      (one_next IsLangWord (Then IsFileName Rest) l (f ∷ ws) (k + 1) a (then_next IsFileName Rest f ws k b e))

-- ---- behind the words of a walk
pub way_given : (ws : List (List ℕ)) (k : ℕ) → IsWrong GivenForm ws k → IsWrong WayForm (codes "given" ∷ ws) (k + 1)
way_given ws k e = wrong_behind GivenForm WayForm (codes "given") ws k (λ vs f. inl (refl, f)) from e
  where
    from : (vs : List (List ℕ)) → WayForm (codes "given" ∷ vs) → GivenForm vs
    from vs (inl f) = f.1
    from vs (inr f) = absurd (differ _ _ refl f.0)

pub way_seed : (ws : List (List ℕ)) (k : ℕ) → IsWrong SeedForm ws k → IsWrong WayForm (codes "seed" ∷ ws) (k + 1)
way_seed ws k e = wrong_behind SeedForm WayForm (codes "seed") ws k (λ vs f. inr (refl, f)) from e
  where
    from : (vs : List (List ℕ)) → WayForm (codes "seed" ∷ vs) → SeedForm vs
    from vs (inl f) = absurd (differ _ _ refl f.0)
    from vs (inr f) = f.1

pub no_way : IsWrong WayForm [] 1
no_way = wrong_end WayForm way_begins none
  where
    none : WayForm [] → ⊥
    none (inl f) = f
    none (inr f) = f

pub other_way : (w : List ℕ) (ws : List (List ℕ)) → w ≢ codes "given" → w ≢ codes "seed" → IsWrong WayForm (w ∷ ws) 1
other_way w ws a b = wrong_first WayForm w ws way_begins (λ begins. none begins.0 begins.1)
  where
    none : (more : List (List ℕ)) → WayForm (w ∷ more) → ⊥
    none more (inl f) = a f.0
    none more (inr f) = b f.0

pub walk_from : (ws : List (List ℕ)) (k : ℕ) → IsWrong FromForm ws k → IsWrong WalkForm (codes "from" ∷ ws) (k + 1)
walk_from ws k e = wrong_behind FromForm WalkForm (codes "from") ws k (λ vs f. inr (refl, f)) from e
  where
    from : (vs : List (List ℕ)) → WalkForm (codes "from" ∷ vs) → FromForm vs
    from vs (inl (inl f)) = absurd (differ _ _ refl f.0)
    from vs (inl (inr f)) = absurd (differ _ _ refl f.0)
    from vs (inr f) = f.1

pub no_walk : IsWrong WalkForm [] 1
no_walk = wrong_end WalkForm walk_begins none
  where
    none : WalkForm [] → ⊥
    none (inl (inl f)) = f
    none (inl (inr f)) = f
    none (inr f) = f

-- where the first word isn't `from`
module _ (w : List ℕ) (ws : List (List ℕ)) (other : w ≢ codes "from") where
  way : (vs : List (List ℕ)) → WalkForm (w ∷ vs) → WayForm (w ∷ vs)
  way vs (inl f) = f
  way vs (inr f) = absurd (other f.0)

  pub walk_way : (k : ℕ) → IsWrong WayForm (w ∷ ws) k → IsWrong WalkForm (w ∷ ws) k
  walk_way k (inr e) = inr (e.0, (e.1.0, inl e.1.1), λ f. e.2 (way ws f))
  walk_way zero (inl e) = absurd (omega (arith, e.0))
  walk_way (suc k) (inl e) = inl (e.0, e.1, (e.2.0, inl e.2.1), λ b. e.3 (b.0, way _ b.1))

pub walk_answer : {X : Type 0} (Is : X → Type 0) (ws : List (List ℕ)) (w : List ℕ) (vs : List (List ℕ)) → ws ≡ w ∷ vs → w ≢ codes "from" → (r : Result X WordsFail) → AnswersWords Is WayForm ws r → AnswersWords Is WalkForm ws r
walk_answer Is ws w vs e other (Ok x) h = h
walk_answer Is ws w vs e other (Err (Memory m)) h = h
walk_answer Is ws w vs e other (Err (At k)) h = subst (λ us. IsWrong WalkForm us k) (sym e) (walk_way w vs other k (subst (λ us. IsWrong WayForm us k) e h))

-- ---- a state
module _ (Rest : List (List ℕ) → Type 0) (begins : Begins Rest []) where
  pub wrong_state : (ws : List (List ℕ)) → IsStateWrong ws → IsWrong (One IsStateWord Rest) ws 1
  wrong_state [] h = one_end IsStateWord Rest (one_begins IsStateWord Rest (codes "()") some_state begins)
  wrong_state (w ∷ ws) h = one_first IsStateWord Rest (one_begins IsStateWord Rest (codes "()") some_state begins) w ws h

-- ---- the words of further files
longer : (v w : List ℕ) → length w < length v → v ≢ w
longer v w h e = let f = ap length e in omega (arith, h, f)

-- there is one behind any one or two
second_name : (file : List ℕ) → IsNameBehind (file ∷ []) (102 ∷ file)
second_name file = ((λ e. cc), (longer (102 ∷ file) file (omega arith), tt))

third_name : (file states : List ℕ) → IsNameBehind (file ∷ states ∷ []) (102 ∷ (file ++ states))
third_name file states =
    let n = length-append file states in
    ((λ e. cc), (longer (102 ∷ (file ++ states)) file (omega (arith, n)), (longer (102 ∷ (file ++ states)) states (omega (arith, n)), tt)))

pub path_begins : (file : List ℕ) → Begins (PathForm file) []
path_begins file = one_begins (IsNameBehind (file ∷ [])) HasGiven (102 ∷ file) (second_name file) given_begins

pub last_begins : (file states : List ℕ) → Begins (One (IsNameBehind (file ∷ states ∷ [])) HasGiven) []
last_begins file states = one_begins (IsNameBehind (file ∷ states ∷ [])) HasGiven (102 ∷ (file ++ states)) (third_name file states) given_begins

pub rows_begins : (file : List ℕ) → Begins (RowsForm file) []
rows_begins file =
    then_begins (IsNameBehind (file ∷ [])) (λ states. One (IsNameBehind (file ∷ states ∷ [])) HasGiven) (102 ∷ file) (second_name file) (last_begins file (102 ∷ file))

fourth_name : (file states rows : List ℕ) → IsNameBehind (file ∷ states ∷ rows ∷ []) (102 ∷ (file ++ (states ++ rows)))
fourth_name file states rows =
    let n = length-append file (states ++ rows) in
    let m = length-append states rows in
    ((λ e. cc), (longer (102 ∷ (file ++ (states ++ rows))) file (omega (arith, n, m)), (longer (102 ∷ (file ++ (states ++ rows))) states (omega (arith, n, m)), (longer (102 ∷ (file ++ (states ++ rows))) rows (omega (arith, n, m)), tt))))

pub bounds_word_begins : (file states rows : List ℕ) → Begins (One (IsNameBehind (file ∷ states ∷ rows ∷ [])) HasGiven) []
bounds_word_begins file states rows = one_begins (IsNameBehind (file ∷ states ∷ rows ∷ [])) HasGiven (102 ∷ (file ++ (states ++ rows))) (fourth_name file states rows) given_begins

pub label_begins : (file states rows : List ℕ) → Begins (LabelForm (file ∷ states ∷ rows ∷ [])) []
label_begins file states rows = one_begins (IsNameBehind []) (One (IsNameBehind (file ∷ states ∷ rows ∷ [])) HasGiven) (codes "f") ((λ e. cc), tt) (bounds_word_begins file states rows)

pub behind_states_begins : (file states : List ℕ) → Begins (Then (IsNameBehind (file ∷ states ∷ [])) (λ rows. LabelForm (file ∷ states ∷ rows ∷ []))) []
behind_states_begins file states =
    then_begins (IsNameBehind (file ∷ states ∷ [])) (λ rows. LabelForm (file ∷ states ∷ rows ∷ [])) (102 ∷ (file ++ states)) (third_name file states) (label_begins file states (102 ∷ (file ++ states)))

pub bounds_begins : (file : List ℕ) → Begins (BoundsForm file) []
bounds_begins file =
    then_begins (IsNameBehind (file ∷ [])) (λ states. Then (IsNameBehind (file ∷ states ∷ [])) (λ rows. LabelForm (file ∷ states ∷ rows ∷ []))) (102 ∷ file) (second_name file) (behind_states_begins file (102 ∷ file))

module _ (before : List (List ℕ)) (Rest : List ℕ → List (List ℕ) → Type 0) (begins : Begins (Then (IsNameBehind before) Rest) []) where
  pub wrong_name : (ws : List (List ℕ)) → IsNameWrong before ws → IsWrong (Then (IsNameBehind before) Rest) ws 1
  wrong_name [] h = then_end (IsNameBehind before) Rest begins
  wrong_name (w ∷ ws) h = then_first (IsNameBehind before) Rest begins w ws h
