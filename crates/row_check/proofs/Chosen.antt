-- Whether the choices of a state are those of its rows.
use Rattle.std.proofs.Common.{ℤ, Vec, Global, Option, Some, None, subst, sym, ◌∙◌, inl, inr, ℕ, Result, Ok, Err, IfOk, IsTrue, ◌≡◌, ◌↔◌, List, [], ◌∷◌, ◌||◌, Bool, true, false, length, map, refl}
use Rattle.std.specs.List.{All, AllZip, list_any}
use Rattle.std.proofs.lemmas.List.Elements.{All-cons, All-nil}
use Rattle.std.specs.declared.alloc.AllocError.{AllocError}
use Rattle.frac_core.specs.Fraction.{Fraction}
use Rattle.process_core.specs.Process.{Choice, EquallyOften}
use Rattle.process_core.specs.Ready.{Name, Values}
use Rattle.process_core.specs.Laws.{MergingLaws}
use Rattle.process_core.specs.declared.data.State.{State}
use Rattle.row_check.specs.declared.data.Row.{Row}
use Rattle.row_check.specs.declared.merging.MergedChoice as code
use Rattle.std.specs.BTreeMap.{BTreeMap}
use Rattle.row_check.specs.declared.data.Verdict.{Verdict}
use Rattle.row_check.specs.declared.data.Verdict.TheVariants.{No}
use Rattle.row_check.specs.declared.data.Why.TheVariants.{Choices}
use Rattle.row_check.specs.Judging.{Must}
use Rattle.row_check.specs.Index.{IsIndex}
use Rattle.row_check.specs.Merging.{Sums, is_bad, good_choices, has_wide_merging, GoodChoice, merged_choice, sums_over, Keeps, reaches_unlisted, choice_of_rows, TargetsListed}
use Rattle.row_check.specs.Rows.{runs, JudgesChoices}
use Rattle.row_check.specs.Walked.{HoldsChoice, KeepsRun, MergesAll, JudgesMerged}
use Rattle.row_check.proofs.Kept.{keeps_branches, keeps_rows}
use Rattle.row_check.proofs.Spread.{IsSupported, choice_supported, rows_supported, often_both, often_not}
use Rattle.row_check.proofs.Segments.{EachRun, runs_listed}

zip_map : {A B C : Type 0} (R : A → B → Type 0) (S : C → B → Type 0) (f : A → C) → ((x : A) (y : B) → R x y → S (f x) y) → (xs : List A) (ys : List B) → AllZip R xs ys → AllZip S (map f xs) ys
zip_map R S f g [] [] h = tt
zip_map R S f g [] (y ∷ ys) h = absurd h
zip_map R S f g (x ∷ xs) [] h = absurd h
zip_map R S f g (x ∷ xs) (y ∷ ys) h = (g x y h.0, zip_map R S f g xs ys h.1)

module _ (laws : MergingLaws) (ss : List State) (index : _) (x : IsIndex index ss) where
  pub model_keeps : (cs : List GoodChoice) (ms : List code.MergedChoice) → AllZip (HoldsChoice ss) cs ms → AllZip (Keeps (length ss)) (map (sums_over ss) (map merged_choice cs)) ms
  model_keeps cs ms h =
      zip_map (λ m k. Keeps (length ss) (sums_over ss m) k) (Keeps (length ss)) (sums_over ss) (λ m k e. e) (map merged_choice cs) ms
      (zip_map (HoldsChoice ss) (λ m k. Keeps (length ss) (sums_over ss m) k) merged_choice (λ c k e. keeps_branches laws ss c k e) cs ms h)

  pub file_keeps : (rss : List (List Row)) (ms : List code.MergedChoice) → AllZip (KeepsRun (length ss)) rss ms → AllZip (Keeps (length ss)) (map (sums_over ss) (map merged_choice (map (choice_of_rows ss) rss))) ms
  file_keeps rss ms h =
      zip_map (λ m k. Keeps (length ss) (sums_over ss m) k) (Keeps (length ss)) (sums_over ss) (λ m k e. e) (map merged_choice (map (choice_of_rows ss) rss)) ms
      (zip_map (λ c k. Keeps (length ss) (sums_over ss (merged_choice c)) k) (λ m k. Keeps (length ss) (sums_over ss m) k) merged_choice (λ c k e. e) (map (choice_of_rows ss) rss) ms
      (zip_map (KeepsRun (length ss)) (λ c k. Keeps (length ss) (sums_over ss (merged_choice c)) k) (choice_of_rows ss) (λ rs k e. keeps_rows ss index x rs k e.listed e.differ e.holds) rss ms h))

  model_supported : (cs : List GoodChoice) → list_any (reaches_unlisted ss) cs ≡ false → All (IsSupported ss) (map merged_choice cs)
  model_supported [] h = All-nil (IsSupported ss)
  model_supported (c ∷ cs) h =
      All-cons (IsSupported ss) (merged_choice c) (map merged_choice cs) (choice_supported laws ss c (or_first (reaches_unlisted ss c) (list_any (reaches_unlisted ss) cs) h))
      (model_supported cs (or_second (reaches_unlisted ss c) (list_any (reaches_unlisted ss) cs) h))
    where
      or_first : (a b : Bool) → (a || b) ≡ false → a ≡ false
      or_first true b h = h
      or_first false b h = refl

      or_second : (a b : Bool) → (a || b) ≡ false → b ≡ false
      or_second true b h = cc
      or_second false b h = h

  file_supported : (rss : List (List Row)) → EachRun (TargetsListed (length ss)) rss → All (IsSupported ss) (map merged_choice (map (choice_of_rows ss) rss))
  file_supported [] h = All-nil (IsSupported ss)
  file_supported (rs ∷ rss) h =
      All-cons (IsSupported ss) (merged_choice (choice_of_rows ss rs)) (map merged_choice (map (choice_of_rows ss) rss)) (rows_supported ss rs h.0) (file_supported rss h.1)

  module _ (cs : List GoodChoice) (own : List Row) (listed : TargetsListed (length ss) own) where
    -- where a choice leads to a state that isn't listed
    pub not_same : list_any (reaches_unlisted ss) cs ≡ true → EquallyOften (map merged_choice cs) (map merged_choice (map (choice_of_rows ss) (runs own))) → ⊥
    not_same h = often_not laws ss cs (map merged_choice (map (choice_of_rows ss) (runs own))) h (file_supported (runs own) (runs_listed (length ss) own listed))

    -- else the sums tell
    pub sums_tell : list_any (reaches_unlisted ss) cs ≡ false →
        EquallyOften (map (sums_over ss) (map merged_choice cs)) (map (sums_over ss) (map merged_choice (map (choice_of_rows ss) (runs own)))) ↔ EquallyOften (map merged_choice cs) (map merged_choice (map (choice_of_rows ss) (runs own)))
    sums_tell h = often_both ss (map merged_choice cs) (map merged_choice (map (choice_of_rows ss) (runs own))) (model_supported cs h) (file_supported (runs own) (runs_listed (length ss) own listed))

-- what is told of the rows' choices, whatever they are kept as
pub told_by_rows : (own : List Row) (model file : List code.MergedChoice) (r : Result Bool AllocError) → ((n : ℕ) → TargetsListed n own → AllZip (KeepsRun n) (runs own) file) →
    IfOk r (λ b. (n : ℕ) (ds es : List Sums) → AllZip (Keeps n) ds model → AllZip (Keeps n) es file → IsTrue b ↔ EquallyOften ds es) →
    IfOk r (λ b. (n : ℕ) (ds es : List Sums) → TargetsListed n own → AllZip (Keeps n) ds model → ((ms : List code.MergedChoice) → AllZip (KeepsRun n) (runs own) ms → AllZip (Keeps n) es ms) → IsTrue b ↔ EquallyOften ds es)
told_by_rows own model file (Ok b) f h = λ n ds es t k g. h n ds es k (g file (f n t))
told_by_rows own model file (Err x) f h = tt

-- ---- the verdict on merged choices
module _ (laws : MergingLaws) (index : BTreeMap (Vec ℤ Global) ℕ) (k : ℕ) (choices : List (Choice Name Fraction Values)) (own : List Row) (bad : Bool) (b : bad ≡ list_any (λ c. is_bad c.outcome) choices) where
  narrow : (ss : List State) (model : Option (Vec code.MergedChoice Global)) → MergesAll ss (good_choices choices) (Ok model) → has_wide_merging (good_choices choices) ≡ false
  narrow ss None m = m.0
  narrow ss (Some v) m = m.0

  judged : (model : Option (Vec code.MergedChoice Global)) → ((ss : List State) → IsIndex index ss → MergesAll ss (good_choices choices) (Ok model)) → (o : Option Verdict) → JudgesMerged k bad model own o → (ss : List State) → IsIndex index ss → TargetsListed (length ss) own →
      JudgesChoices k choices (map (choice_of_rows ss) (runs own)) o
  judged model m o h ss x t = by_bad bad refl model m o h
    where
      by_bad : (c : Bool) → bad ≡ c → (model : Option (Vec code.MergedChoice Global)) → ((ss : List State) → IsIndex index ss → MergesAll ss (good_choices choices) (Ok model)) → (o : Option Verdict) → JudgesMerged k c model own o →
          JudgesChoices k choices (map (choice_of_rows ss) (runs own)) o
      by_bad true e model m o h =
          subst (JudgesChoices k choices (map (choice_of_rows ss) (runs own))) (sym h)
          (inr (narrow ss model (m ss x), inl (λ f. let g : true ≡ false = sym e ∙ b ∙ f in cc, refl)))
      by_bad false e None m o h =
          let q = m ss x in
          subst (JudgesChoices k choices (map (choice_of_rows ss) (runs own))) (sym h)
          (inr (q.0, inr (sym b ∙ e, (not_same laws ss index x (good_choices choices) own t q.1, refl))))
      by_bad false e (Some v) m o h =
          let q = m ss x in
          let cs = good_choices choices in
          let told = h (length ss) (map (sums_over ss) (map merged_choice cs)) (map (sums_over ss) (map merged_choice (map (choice_of_rows ss) (runs own)))) t (model_keeps laws ss index x cs v.items q.2) (file_keeps laws ss index x (runs own)) in
          by_answer o told (sums_tell laws ss index x cs own t q.1) q.0
        where
          by_answer : (o : Option Verdict) → Must (EquallyOften (map (sums_over ss) (map merged_choice (good_choices choices))) (map (sums_over ss) (map merged_choice (map (choice_of_rows ss) (runs own))))) (No (Choices k)) o →
              EquallyOften (map (sums_over ss) (map merged_choice (good_choices choices))) (map (sums_over ss) (map merged_choice (map (choice_of_rows ss) (runs own)))) ↔ EquallyOften (map merged_choice (good_choices choices)) (map merged_choice (map (choice_of_rows ss) (runs own))) →
              has_wide_merging (good_choices choices) ≡ false → JudgesChoices k choices (map (choice_of_rows ss) (runs own)) o
          by_answer None told s n = (n, (sym b ∙ e, s.0 told))
          by_answer (Some v) told s n = inr (n, inr (sym b ∙ e, (λ o. told.0 (s.1 o), told.1)))

  pub judged_merged : (model : Option (Vec code.MergedChoice Global)) → ((ss : List State) → IsIndex index ss → MergesAll ss (good_choices choices) (Ok model)) → (r : Result (Option Verdict) AllocError) → IfOk r (JudgesMerged k bad model own) →
      IfOk r (λ o. (ss : List State) → IsIndex index ss → TargetsListed (length ss) own → JudgesChoices k choices (map (choice_of_rows ss) (runs own)) o)
  judged_merged model m (Ok o) h = judged model m o h
  judged_merged model m (Err x) h = tt
