-- Words ask for one thing at most.
use Rattle.std.proofs.Common.{arith, ◌≡◌, ◌≢◌, ◌∙◌, sym, ap, ap₂, subst, ℕ, ◌+◌, ◌^◌, ◌<◌, true, false, List, [], ◌∷◌, ◌++◌, map, length, Option, Some, None, refl, codes, append-nil}
use Rattle.std.specs.Fmt.{decimal}
use Rattle.std.specs.Prelude.{◌||◌}
use Rattle.std.specs.List.{AllZip, AllByRecursion}
use Rattle.std.proofs.lemmas.Fmt.{decimal_injective}
use Rattle.op_trees.specs.declared.tree.Value.{Value}
use Rattle.process_texts.specs.Given.{Answers, IsValue, is_wide_value}
use Rattle.process_texts.specs.Laws.{OneValueText}
use Rattle.process_texts.specs.declared.given.GivenText.{GivenText}
use Rattle.process_texts.specs.declared.given.GivenText.TheVariants.{Good, Past, NoForm}
use Rattle.command_words.specs.Numbers.{IsSmall, numbers_of, pairs_text}
use Rattle.command_words.specs.Given.{Assignment, IsAssignment, IsGivenText}
use Rattle.command_words.specs.Words.{Job, showing, along, seeded, Walking, Claim, of_path, of_rows, of_bounds, Checking, Carrying, Specialising, on_file, with_properties, generate, walk, check, carry, specialise, claim_words, claim_verb, IsCheck, IsCarry, IsSpecialise, AreWithProperties, AreGenerate, verb_of, lang_word, from_words, job_verb, job_words, IsJob, IsWalk, OneRequest, WordsCount}
use Rattle.command_words.specs.declared.request.Lang.{Lang}
use Rattle.command_words.specs.declared.request.Lang.TheVariants.{Prism, Jani}
use Rattle.command_words.specs.declared.request.Task.{Task}
use Rattle.command_words.specs.declared.request.Task.TheVariants.{ToJani, ToPrism, ToPrismProps, CheckPrism, CheckJani}
use Rattle.command_words.proofs.Pairs.{partition_of, no_comma_in}
use Rattle.command_words.proofs.Assignments.{one_split}
use Rattle.command_words.proofs.Forms.{differ}
use Rattle.command_words.proofs.Requests.{heads, tails, not_task, not_walk, not_check, length-front, length-claim}

-- ---- numbers
same_number : (m n : ℕ) → m < 2 ^ 32 → n < 2 ^ 32 → decimal m ≡ decimal n → m ≡ n
same_number m n a b e = decimal_injective m n (let c : m < 2 ^ 64 = omega (arith, a) in c) (let c : n < 2 ^ 64 = omega (arith, b) in c) e

same_pairs : (ps qs : List (ℕ × ℕ)) → ps ≢ [] → qs ≢ [] → AllByRecursion IsSmall ps → AllByRecursion IsSmall qs → pairs_text ps ≡ pairs_text qs → ps ≡ qs
same_pairs [] qs a b h k e = absurd (a refl)
same_pairs (p ∷ ps) [] a b h k e = absurd (b refl)
same_pairs (p ∷ []) (q ∷ qs) a b h k e =
    let rest = map decimal (numbers_of qs) in
    let r = partition_of (pairs_text (p ∷ [])) (decimal p.0) (Some (decimal p.1 ++ [])) (decimal q.0) (decimal q.1 ∷ rest) (refl, no_comma_in p.0 h.0.0) (no_comma_in q.0 k.0.0) e in
    let s = partition_of (decimal p.1 ++ []) (decimal p.1) None (decimal q.1) rest (append-nil (decimal p.1), no_comma_in p.1 h.0.1) (no_comma_in q.1 k.0.1) r.1.1 in
    by_rest qs s.1 (same_number p.0 q.0 h.0.0 k.0.0 r.0) (same_number p.1 q.1 h.0.1 k.0.1 s.0)
  where
    by_rest : (qs : List (ℕ × ℕ)) → map decimal (numbers_of qs) ≡ [] → p.0 ≡ q.0 → p.1 ≡ q.1 → p ∷ [] ≡ q ∷ qs
    by_rest [] z f g = ap₂ (λ a b. (a, b) ∷ []) f g
    by_rest (x ∷ xs) z f g = absurd cc
same_pairs (p ∷ t ∷ ps) (q ∷ qs) a b h k e =
    let rest = map decimal (numbers_of qs) in
    let more = pairs_text (t ∷ ps) in
    let r = partition_of (pairs_text (p ∷ t ∷ ps)) (decimal p.0) (Some (decimal p.1 ++ 44 ∷ more)) (decimal q.0) (decimal q.1 ∷ rest) (refl, no_comma_in p.0 h.0.0) (no_comma_in q.0 k.0.0) e in
    let s = partition_of (decimal p.1 ++ 44 ∷ more) (decimal p.1) (Some more) (decimal q.1) rest (refl, no_comma_in p.1 h.0.1) (no_comma_in q.1 k.0.1) r.1.1 in
    let u : t ∷ ps ≡ qs = same_pairs (t ∷ ps) qs (λ z. cc) (λ z. s.1.0 (ap (λ xs. map decimal (numbers_of xs)) z)) h.1 k.1 s.1.1 in
    ap₂ (λ x y. x ∷ y) (ap₂ (λ x y. (x, y)) (same_number p.0 q.0 h.0.0 k.0.0 r.0) (same_number p.1 q.1 h.0.1 k.0.1 s.0)) u

-- ---- values
module _ (one : OneValueText) where
  not_past : (w : List ℕ) (v : Value) → Answers (IsValue w) (Good v) → Answers (IsValue w) Past → ⊥
  not_past w v h k =
      let e = one w v k.0 false k.1 h.0 k.2 in
      let z : false ≡ true = sym (ap₂ (λ a b. a || b) h.1 refl) ∙ ap₂ (λ u b. is_wide_value u || b) e.0 e.1 ∙ k.3 in cc

  same_value : (w : List ℕ) (g h : GivenText) → IsGivenText w g → IsGivenText w h → g ≡ h
  same_value w (Good v) (Good u) a b = ap Good (one w v u false false a.0 b.0).0
  same_value w (Good v) Past a b = absurd (not_past w v a b)
  same_value w (Good v) NoForm a b = absurd b
  same_value w Past (Good u) a b = absurd (not_past w u b a)
  same_value w Past Past a b = refl
  same_value w Past NoForm a b = absurd b
  same_value w NoForm h a b = absurd a

  same_assignment : (w : List ℕ) (a b : Assignment) → IsAssignment w a → IsAssignment w b → a ≡ b
  same_assignment w a b h k =
      let s = one_split w a b h k in
      let f : a.value ≡ b.value = same_value k.text a.value b.value (subst (λ t. IsGivenText t a.value) s.1 h.value) k.value in
      ap₂ (λ x y. record { name = x; value = y }) s.0 f

  same_given : (ws : List (List ℕ)) (gs hs : List Assignment) → AllZip IsAssignment ws gs → AllZip IsAssignment ws hs → gs ≡ hs
  same_given [] [] [] h k = refl
  same_given [] [] (b ∷ hs) h k = absurd k
  same_given [] (a ∷ gs) hs h k = absurd h
  same_given (w ∷ ws) [] hs h k = absurd h
  same_given (w ∷ ws) (a ∷ gs) [] h k = absurd k
  same_given (w ∷ ws) (a ∷ gs) (b ∷ hs) h k = ap₂ (λ x xs. x ∷ xs) (same_assignment w a b h.0 k.0) (same_given ws gs hs h.1 k.1)

-- ---- jobs
same_lang : (l m : Lang) → lang_word l ≡ lang_word m → l ≡ m
same_lang Prism Prism e = refl
same_lang Prism Jani e = absurd (differ _ _ refl e)
same_lang Jani Prism e = absurd (differ _ _ refl e)
same_lang Jani Jani e = refl

-- what may stand before `given` or `seed`
same_from : (f g : Option (List ℕ)) (a b : List ℕ) (xs ys : List (List ℕ)) → a ≢ codes "from" → b ≢ codes "from" → from_words f ++ a ∷ xs ≡ from_words g ++ b ∷ ys → (f ≡ g) × (a ∷ xs ≡ b ∷ ys)
same_from None None a b xs ys p q e = (refl, e)
same_from None (Some s) a b xs ys p q e = absurd (p (heads _ _ _ _ e))
same_from (Some s) None a b xs ys p q e = absurd (q (sym (heads _ _ _ _ e)))
same_from (Some s) (Some t) a b xs ys p q e = (ap Some (heads _ _ _ _ (tails _ _ _ _ e)), tails _ _ _ _ (tails _ _ _ _ e))

along_words : (f : Option (List ℕ)) (ps : List (ℕ × ℕ)) (rest : List (List ℕ)) → job_words (along f ps) ++ rest ≡ from_words f ++ codes "given" ∷ pairs_text ps ∷ rest
along_words None ps rest = refl
along_words (Some s) ps rest = refl

seeded_words : (f : Option (List ℕ)) (n k : ℕ) (rest : List (List ℕ)) → job_words (seeded f n k) ++ rest ≡ from_words f ++ codes "seed" ∷ decimal n ∷ decimal k ∷ rest
seeded_words None n k rest = refl
seeded_words (Some s) n k rest = refl

same_job : (i j : Job) (xs ys : List (List ℕ)) → IsJob i → IsJob j → job_verb i ≡ job_verb j → job_words i ++ xs ≡ job_words j ++ ys → (i ≡ j) × (xs ≡ ys)
same_job (showing s) (showing t) xs ys a b v e = (ap showing (heads _ _ _ _ e), tails _ _ _ _ e)
same_job (showing s) (along f ps) xs ys a b v e = absurd (differ _ _ refl v)
same_job (showing s) (seeded f n k) xs ys a b v e = absurd (differ _ _ refl v)
same_job (along f ps) (showing t) xs ys a b v e = absurd (differ _ _ refl v)
same_job (seeded f n k) (showing t) xs ys a b v e = absurd (differ _ _ refl v)
same_job (along f ps) (along g qs) xs ys a b v e =
    let r = same_from f g _ _ _ _ (differ (codes "given") _ refl) (differ (codes "given") _ refl) (sym (along_words f ps xs) ∙ e ∙ along_words g qs ys) in
    let t = tails _ _ _ _ r.1 in
    (ap₂ along r.0 (same_pairs ps qs a.1 b.1 a.2 b.2 (heads _ _ _ _ t)), tails _ _ _ _ t)
same_job (along f ps) (seeded g n k) xs ys a b v e =
    let r = same_from f g _ _ _ _ (differ (codes "given") _ refl) (differ (codes "seed") _ refl) (sym (along_words f ps xs) ∙ e ∙ seeded_words g n k ys) in
    absurd (differ _ _ refl (heads _ _ _ _ r.1))
same_job (seeded f n k) (along g qs) xs ys a b v e =
    let r = same_from f g _ _ _ _ (differ (codes "seed") _ refl) (differ (codes "given") _ refl) (sym (seeded_words f n k xs) ∙ e ∙ along_words g qs ys) in
    absurd (differ _ _ refl (heads _ _ _ _ r.1))
same_job (seeded f n k) (seeded g m l) xs ys a b v e =
    let r = same_from f g _ _ _ _ (differ (codes "seed") _ refl) (differ (codes "seed") _ refl) (sym (seeded_words f n k xs) ∙ e ∙ seeded_words g m l ys) in
    let t = tails _ _ _ _ r.1 in
    let u = tails _ _ _ _ t in
    let x : n ≡ m = decimal_injective n m a.1 b.1 (heads _ _ _ _ t) in
    let y : k ≡ l = decimal_injective k l (let c : k < 2 ^ 64 = omega (arith, a.2) in c) (let c : l < 2 ^ 64 = omega (arith, b.2) in c) (heads _ _ _ _ u) in
    (ap₂ (λ o p. seeded o p k) r.0 x ∙ ap (λ p. seeded g m p) y, tails _ _ _ _ u)

-- ---- requests
same_task : (s t : Task) (f g : List ℕ) → verb_of s ++ f ∷ [] ≡ verb_of t ++ g ∷ [] → (s ≡ t) × (f ≡ g)
same_task ToJani ToJani f g e = (refl, heads _ _ _ _ (tails _ _ _ _ e))
same_task ToJani ToPrism f g e = absurd (differ _ _ refl (heads _ _ _ _ e))
same_task ToJani ToPrismProps f g e = absurd (differ _ _ refl (heads _ _ _ _ e))
same_task ToJani CheckPrism f g e = absurd (differ _ _ refl (heads _ _ _ _ e))
same_task ToJani CheckJani f g e = absurd (differ _ _ refl (heads _ _ _ _ e))
same_task ToPrism ToJani f g e = absurd (differ _ _ refl (heads _ _ _ _ e))
same_task ToPrism ToPrism f g e = (refl, heads _ _ _ _ (tails _ _ _ _ e))
same_task ToPrism ToPrismProps f g e = absurd (differ _ _ refl (heads _ _ _ _ e))
same_task ToPrism CheckPrism f g e = absurd (differ _ _ refl (heads _ _ _ _ e))
same_task ToPrism CheckJani f g e = absurd (differ _ _ refl (heads _ _ _ _ e))
same_task ToPrismProps ToJani f g e = absurd (differ _ _ refl (heads _ _ _ _ e))
same_task ToPrismProps ToPrism f g e = absurd (differ _ _ refl (heads _ _ _ _ e))
same_task ToPrismProps ToPrismProps f g e = (refl, heads _ _ _ _ (tails _ _ _ _ e))
same_task ToPrismProps CheckPrism f g e = absurd (differ _ _ refl (heads _ _ _ _ e))
same_task ToPrismProps CheckJani f g e = absurd (differ _ _ refl (heads _ _ _ _ e))
same_task CheckPrism ToJani f g e = absurd (differ _ _ refl (heads _ _ _ _ e))
same_task CheckPrism ToPrism f g e = absurd (differ _ _ refl (heads _ _ _ _ e))
same_task CheckPrism ToPrismProps f g e = absurd (differ _ _ refl (heads _ _ _ _ e))
same_task CheckPrism CheckPrism f g e = (refl, heads _ _ _ _ (tails _ _ _ _ (tails _ _ _ _ e)))
same_task CheckPrism CheckJani f g e = absurd (differ _ _ refl (heads _ _ _ _ (tails _ _ _ _ e)))
same_task CheckJani ToJani f g e = absurd (differ _ _ refl (heads _ _ _ _ e))
same_task CheckJani ToPrism f g e = absurd (differ _ _ refl (heads _ _ _ _ e))
same_task CheckJani ToPrismProps f g e = absurd (differ _ _ refl (heads _ _ _ _ e))
same_task CheckJani CheckPrism f g e = absurd (differ _ _ refl (heads _ _ _ _ (tails _ _ _ _ e)))
same_task CheckJani CheckJani f g e = (refl, heads _ _ _ _ (tails _ _ _ _ (tails _ _ _ _ e)))

-- a task, a walk and a claim begin with different words
task_walk : (words : List (List ℕ)) (t : Task) (f : List ℕ) (w : Walking) → words ≡ verb_of t ++ f ∷ [] → IsWalk words w → ⊥
task_walk words ToJani f w e h = not_walk _ _ w (differ _ _ refl) (differ _ _ refl) (subst (λ ws. IsWalk ws w) e h)
task_walk words ToPrism f w e h = not_walk _ _ w (differ _ _ refl) (differ _ _ refl) (subst (λ ws. IsWalk ws w) e h)
task_walk words ToPrismProps f w e h = not_walk _ _ w (differ _ _ refl) (differ _ _ refl) (subst (λ ws. IsWalk ws w) e h)
task_walk words CheckPrism f w e h = not_walk _ _ w (differ _ _ refl) (differ _ _ refl) (subst (λ ws. IsWalk ws w) e h)
task_walk words CheckJani f w e h = not_walk _ _ w (differ _ _ refl) (differ _ _ refl) (subst (λ ws. IsWalk ws w) e h)

task_check : (words : List (List ℕ)) (t : Task) (f : List ℕ) (c : Checking) → words ≡ verb_of t ++ f ∷ [] → IsCheck words c → ⊥
task_check words ToJani f c e h = not_check _ _ c (differ _ _ refl) (differ _ _ refl) (differ _ _ refl) (subst (λ ws. IsCheck ws c) e h)
task_check words ToPrism f c e h = not_check _ _ c (differ _ _ refl) (differ _ _ refl) (differ _ _ refl) (subst (λ ws. IsCheck ws c) e h)
task_check words ToPrismProps f c e h = not_check _ _ c (differ _ _ refl) (differ _ _ refl) (differ _ _ refl) (subst (λ ws. IsCheck ws c) e h)
task_check words CheckPrism f c e h = not_check _ _ c (differ _ _ refl) (differ _ _ refl) (differ _ _ refl) (subst (λ ws. IsCheck ws c) e h)
task_check words CheckJani f c e h = not_check _ _ c (differ _ _ refl) (differ _ _ refl) (differ _ _ refl) (subst (λ ws. IsCheck ws c) e h)

task_properties : (words : List (List ℕ)) (t : Task) (f g p : List ℕ) → words ≡ verb_of t ++ f ∷ [] → AreWithProperties words g p → ⊥
task_properties words ToJani f g p e h = let d = tails _ _ _ _ (tails _ _ _ _ (sym e ∙ h.words_are)) in cc
task_properties words ToPrism f g p e h = differ _ _ refl (heads _ _ _ _ (sym e ∙ h.words_are))
task_properties words ToPrismProps f g p e h = differ _ _ refl (heads _ _ _ _ (sym e ∙ h.words_are))
task_properties words CheckPrism f g p e h = differ _ _ refl (heads _ _ _ _ (sym e ∙ h.words_are))
task_properties words CheckJani f g p e h = differ _ _ refl (heads _ _ _ _ (sym e ∙ h.words_are))

walk_properties : (words : List (List ℕ)) (w : Walking) (f p : List ℕ) → IsWalk words w → AreWithProperties words f p → ⊥
walk_properties words w f p h k = not_walk _ _ w (differ _ _ refl) (differ _ _ refl) (subst (λ ws. IsWalk ws w) k.words_are h)

check_properties : (words : List (List ℕ)) (c : Checking) (f p : List ℕ) → IsCheck words c → AreWithProperties words f p → ⊥
check_properties words c f p h k = not_check _ _ c (differ _ _ refl) (differ _ _ refl) (differ _ _ refl) (subst (λ ws. IsCheck ws c) k.words_are h)

-- and so does one that is generated
generate_task : (words : List (List ℕ)) (n : ℕ) (t : Task) (f : List ℕ) → AreGenerate words n → words ≡ verb_of t ++ f ∷ [] → ⊥
generate_task words n t f h e = not_task _ _ t f (differ _ _ refl) (differ _ _ refl) (differ _ _ refl) (differ _ _ refl) (sym h.words_are ∙ e)

generate_properties : (words : List (List ℕ)) (n : ℕ) (f p : List ℕ) → AreGenerate words n → AreWithProperties words f p → ⊥
generate_properties words n f p h k = differ _ _ refl (heads _ _ _ _ (sym h.words_are ∙ k.words_are))

generate_walk : (words : List (List ℕ)) (n : ℕ) (w : Walking) → AreGenerate words n → IsWalk words w → ⊥
generate_walk words n w h k = not_walk _ _ w (differ _ _ refl) (differ _ _ refl) (subst (λ ws. IsWalk ws w) h.words_are k)

generate_check : (words : List (List ℕ)) (n : ℕ) (c : Checking) → AreGenerate words n → IsCheck words c → ⊥
generate_check words n c h k = not_check _ _ c (differ _ _ refl) (differ _ _ refl) (differ _ _ refl) (subst (λ ws. IsCheck ws c) h.words_are k)

walk_check : (words : List (List ℕ)) (w : Walking) (c : Checking) → IsWalk words w → IsCheck words c → ⊥
walk_check words w c h k = by_claim c.claim (heads _ _ _ _ (sym h.words_are ∙ k.words_are))
  where
    by_job : (v : List ℕ) (j : Job) → v ≢ codes "show" → v ≢ codes "simulate" → job_verb j ≡ v → ⊥
    by_job v (showing s) a b e = a (sym e)
    by_job v (along g ps) a b e = b (sym e)
    by_job v (seeded g n m) a b e = b (sym e)

    by_claim : (m : Claim) → job_verb w.job ≡ claim_verb m → ⊥
    by_claim (of_path p) e = by_job _ w.job (differ _ _ refl) (differ _ _ refl) e
    by_claim (of_rows s r) e = by_job _ w.job (differ _ _ refl) (differ _ _ refl) e
    by_claim (of_bounds s r n b) e = by_job _ w.job (differ _ _ refl) (differ _ _ refl) e

-- and so does a path that is carried
task_carry : (words : List (List ℕ)) (t : Task) (f : List ℕ) (c : Carrying) → words ≡ verb_of t ++ f ∷ [] → IsCarry words c → ⊥
task_carry words t f c e h = not_task _ _ t f (differ _ _ refl) (differ _ _ refl) (differ _ _ refl) (differ _ _ refl) (sym h.words_are ∙ e)

walk_carry : (words : List (List ℕ)) (w : Walking) (c : Carrying) → IsWalk words w → IsCarry words c → ⊥
walk_carry words w c h k = not_walk _ _ w (differ _ _ refl) (differ _ _ refl) (subst (λ ws. IsWalk ws w) k.words_are h)

check_carry : (words : List (List ℕ)) (b : Checking) (c : Carrying) → IsCheck words b → IsCarry words c → ⊥
check_carry words b c h k = not_check _ _ b (differ _ _ refl) (differ _ _ refl) (differ _ _ refl) (subst (λ ws. IsCheck ws b) k.words_are h)

carry_properties : (words : List (List ℕ)) (c : Carrying) (f p : List ℕ) → IsCarry words c → AreWithProperties words f p → ⊥
carry_properties words c f p h k = differ _ _ refl (heads _ _ _ _ (sym h.words_are ∙ k.words_are))

generate_carry : (words : List (List ℕ)) (n : ℕ) (c : Carrying) → AreGenerate words n → IsCarry words c → ⊥
generate_carry words n c h k = differ _ _ refl (heads _ _ _ _ (sym h.words_are ∙ k.words_are))

-- and so does a file that is specialised
task_specialise : (words : List (List ℕ)) (t : Task) (f : List ℕ) (q : Specialising) → words ≡ verb_of t ++ f ∷ [] → IsSpecialise words q → ⊥
task_specialise words t f q e h = not_task _ _ t f (differ _ _ refl) (differ _ _ refl) (differ _ _ refl) (differ _ _ refl) (sym h.words_are ∙ e)

walk_specialise : (words : List (List ℕ)) (w : Walking) (q : Specialising) → IsWalk words w → IsSpecialise words q → ⊥
walk_specialise words w q h k = not_walk _ _ w (differ _ _ refl) (differ _ _ refl) (subst (λ ws. IsWalk ws w) k.words_are h)

check_specialise : (words : List (List ℕ)) (b : Checking) (q : Specialising) → IsCheck words b → IsSpecialise words q → ⊥
check_specialise words b q h k = not_check _ _ b (differ _ _ refl) (differ _ _ refl) (differ _ _ refl) (subst (λ ws. IsCheck ws b) k.words_are h)

properties_specialise : (words : List (List ℕ)) (q : Specialising) (f p : List ℕ) → IsSpecialise words q → AreWithProperties words f p → ⊥
properties_specialise words q f p h k = differ _ _ refl (heads _ _ _ _ (sym h.words_are ∙ k.words_are))

generate_specialise : (words : List (List ℕ)) (n : ℕ) (q : Specialising) → AreGenerate words n → IsSpecialise words q → ⊥
generate_specialise words n q h k = differ _ _ refl (heads _ _ _ _ (sym h.words_are ∙ k.words_are))

carry_specialise : (words : List (List ℕ)) (c : Carrying) (q : Specialising) → IsCarry words c → IsSpecialise words q → ⊥
carry_specialise words c q h k = differ _ _ refl (heads _ _ _ _ (sym h.words_are ∙ k.words_are))

same_bounds : (s t r u n m b d : List ℕ) → s ≡ t → r ≡ u → n ≡ m → b ≡ d → of_bounds s r n b ≡ of_bounds t u m d
same_bounds s t r u n m b d e f g h = cc

same_claim : (m n : Claim) (xs ys : List (List ℕ)) → claim_verb m ≡ claim_verb n → claim_words m ++ xs ≡ claim_words n ++ ys → (m ≡ n) × (xs ≡ ys)
same_claim (of_path p) (of_path q) xs ys v e = (ap of_path (heads _ _ _ _ e), tails _ _ _ _ e)
same_claim (of_path p) (of_rows s r) xs ys v e = absurd (differ _ _ refl v)
same_claim (of_rows s r) (of_path p) xs ys v e = absurd (differ _ _ refl v)
same_claim (of_rows s r) (of_rows t u) xs ys v e =
    let f = tails _ _ _ _ e in (ap₂ of_rows (heads _ _ _ _ e) (heads _ _ _ _ f), tails _ _ _ _ f)
same_claim (of_path p) (of_bounds s r n b) xs ys v e = absurd (differ _ _ refl v)
same_claim (of_rows s r) (of_bounds t u n b) xs ys v e = absurd (differ _ _ refl v)
same_claim (of_bounds s r n b) (of_path p) xs ys v e = absurd (differ _ _ refl v)
same_claim (of_bounds s r n b) (of_rows t u) xs ys v e = absurd (differ _ _ refl v)
same_claim (of_bounds s r n b) (of_bounds t u m d) xs ys v e =
    let f = tails _ _ _ _ e in
    let g = tails _ _ _ _ f in
    let h = tails _ _ _ _ g in
    (same_bounds s t r u n m b d (heads _ _ _ _ e) (heads _ _ _ _ f) (heads _ _ _ _ g) (heads _ _ _ _ h), tails _ _ _ _ h)

same_walking : (l m : Lang) (f g : List ℕ) (i j : Job) (xs ys : List Assignment) → l ≡ m → f ≡ g → i ≡ j → xs ≡ ys
    → ◌≡◌ {A = Walking} (record { lang = l; file = f; job = i; given = xs }) (record { lang = m; file = g; job = j; given = ys })
same_walking l m f g i j xs ys a b c d = cc

same_checking : (l m : Lang) (f g : List ℕ) (i j : Claim) (xs ys : List Assignment) → l ≡ m → f ≡ g → i ≡ j → xs ≡ ys
    → ◌≡◌ {A = Checking} (record { lang = l; file = f; claim = i; given = xs }) (record { lang = m; file = g; claim = j; given = ys })
same_checking l m f g i j xs ys a b c d = cc

same_carrying : (l m : Lang) (f g p q : List ℕ) (xs ys : List Assignment) → l ≡ m → f ≡ g → p ≡ q → xs ≡ ys
    → ◌≡◌ {A = Carrying} (record { lang = l; file = f; path = p; given = xs }) (record { lang = m; file = g; path = q; given = ys })
same_carrying l m f g p q xs ys a b c d = cc

same_specialising : (l m : Lang) (f g : List ℕ) (xs ys : List Assignment) → l ≡ m → f ≡ g → xs ≡ ys
    → ◌≡◌ {A = Specialising} (record { lang = l; file = f; given = xs }) (record { lang = m; file = g; given = ys })
same_specialising l m f g xs ys a b c = cc

pub one_request : OneValueText → OneRequest
one_request one words (on_file s f) (on_file t g) h k = let e = same_task s t f g (sym h.1 ∙ k.1) in ap₂ on_file e.0 e.1
one_request one words (on_file s f) (walk w) h k = absurd (task_walk words s f w h.1 k)
one_request one words (on_file s f) (check c) h k = absurd (task_check words s f c h.1 k)
one_request one words (on_file s f) (with_properties g p) h k = absurd (task_properties words s f g p h.1 k)
one_request one words (with_properties f p) (on_file t g) h k = absurd (task_properties words t g f p k.1 h)
one_request one words (with_properties f p) (with_properties g q) h k =
    let e = tails _ _ _ _ (sym h.words_are ∙ k.words_are) in ap₂ with_properties (heads _ _ _ _ e) (heads _ _ _ _ (tails _ _ _ _ e))
one_request one words (generate n) (on_file t g) h k = absurd (generate_task words n t g h k.1)
one_request one words (generate n) (with_properties f p) h k = absurd (generate_properties words n f p h k)
one_request one words (generate n) (generate m) h k =
    let e = heads _ _ _ _ (tails _ _ _ _ (sym h.words_are ∙ k.words_are)) in
    ap generate (decimal_injective n m (let c : n < 2 ^ 64 = omega (arith, h.few) in c) (let c : m < 2 ^ 64 = omega (arith, k.few) in c) e)
one_request one words (generate n) (walk w) h k = absurd (generate_walk words n w h k)
one_request one words (generate n) (check c) h k = absurd (generate_check words n c h k)
one_request one words (on_file t g) (generate n) h k = absurd (generate_task words n t g k h.1)
one_request one words (with_properties f p) (generate n) h k = absurd (generate_properties words n f p k h)
one_request one words (walk w) (generate n) h k = absurd (generate_walk words n w k h)
one_request one words (check c) (generate n) h k = absurd (generate_check words n c k h)
one_request one words (with_properties f p) (walk w) h k = absurd (walk_properties words w f p k h)
one_request one words (with_properties f p) (check c) h k = absurd (check_properties words c f p k h)
one_request one words (walk w) (with_properties f p) h k = absurd (walk_properties words w f p h k)
one_request one words (check c) (with_properties f p) h k = absurd (check_properties words c f p h k)
one_request one words (walk w) (on_file t g) h k = absurd (task_walk words t g w k.1 h)
one_request one words (walk w) (check c) h k = absurd (walk_check words w c h k)
one_request one words (check c) (on_file t g) h k = absurd (task_check words t g c k.1 h)
one_request one words (check c) (walk w) h k = absurd (walk_check words w c k h)
one_request one words (on_file s f) (carry c) h k = absurd (task_carry words s f c h.1 k)
one_request one words (carry c) (on_file t g) h k = absurd (task_carry words t g c k.1 h)
one_request one words (with_properties f p) (carry c) h k = absurd (carry_properties words c f p k h)
one_request one words (carry c) (with_properties f p) h k = absurd (carry_properties words c f p h k)
one_request one words (generate n) (carry c) h k = absurd (generate_carry words n c h k)
one_request one words (carry c) (generate n) h k = absurd (generate_carry words n c k h)
one_request one words (walk w) (carry c) h k = absurd (walk_carry words w c h k)
one_request one words (carry c) (walk w) h k = absurd (walk_carry words w c k h)
one_request one words (check b) (carry c) h k = absurd (check_carry words b c h k)
one_request one words (carry c) (check b) h k = absurd (check_carry words b c k h)
one_request one words (carry c) (carry b) h k =
    let e1 = tails _ _ _ _ (sym h.words_are ∙ k.words_are) in
    let e2 = tails _ _ _ _ e1 in
    let e3 = tails _ _ _ _ e2 in
    ap carry (same_carrying c.lang b.lang c.file b.file c.path b.path c.given b.given (same_lang c.lang b.lang (heads _ _ _ _ e1)) (heads _ _ _ _ e2) (heads _ _ _ _ e3)
    (same_given one h.rest c.given b.given h.given.are (subst (λ ws. AllZip IsAssignment ws b.given) (sym (tails _ _ _ _ e3)) k.given.are)))
one_request one words (on_file s f) (specialise q) h k = absurd (task_specialise words s f q h.1 k)
one_request one words (specialise q) (on_file t g) h k = absurd (task_specialise words t g q k.1 h)
one_request one words (with_properties f p) (specialise q) h k = absurd (properties_specialise words q f p k h)
one_request one words (specialise q) (with_properties f p) h k = absurd (properties_specialise words q f p h k)
one_request one words (generate n) (specialise q) h k = absurd (generate_specialise words n q h k)
one_request one words (specialise q) (generate n) h k = absurd (generate_specialise words n q k h)
one_request one words (walk w) (specialise q) h k = absurd (walk_specialise words w q h k)
one_request one words (specialise q) (walk w) h k = absurd (walk_specialise words w q k h)
one_request one words (check b) (specialise q) h k = absurd (check_specialise words b q h k)
one_request one words (specialise q) (check b) h k = absurd (check_specialise words b q k h)
one_request one words (carry c) (specialise q) h k = absurd (carry_specialise words c q h k)
one_request one words (specialise q) (carry c) h k = absurd (carry_specialise words c q k h)
one_request one words (specialise q) (specialise r) h k =
    let e1 = tails _ _ _ _ (sym h.words_are ∙ k.words_are) in
    let e2 = tails _ _ _ _ e1 in
    ap specialise (same_specialising q.lang r.lang q.file r.file q.given r.given (same_lang q.lang r.lang (heads _ _ _ _ e1)) (heads _ _ _ _ e2)
    (same_given one h.rest q.given r.given h.given.are (subst (λ ws. AllZip IsAssignment ws r.given) (sym (tails _ _ _ _ e2)) k.given.are)))
one_request one words (check c) (check b) h k =
    let e = sym h.words_are ∙ k.words_are in
    let e1 = tails _ _ _ _ e in
    let e2 = tails _ _ _ _ e1 in
    let e3 = tails _ _ _ _ e2 in
    let j = same_claim c.claim b.claim h.rest k.rest (heads _ _ _ _ e) e3 in
    ap check (same_checking c.lang b.lang c.file b.file c.claim b.claim c.given b.given (same_lang c.lang b.lang (heads _ _ _ _ e1)) (heads _ _ _ _ e2) j.0
    (same_given one h.rest c.given b.given h.given.are (subst (λ ws. AllZip IsAssignment ws b.given) (sym j.1) k.given.are)))
one_request one words (walk w) (walk v) h k =
    let e = sym h.words_are ∙ k.words_are in
    let e1 = tails _ _ _ _ e in
    let e2 = tails _ _ _ _ e1 in
    let e3 = tails _ _ _ _ e2 in
    let j = same_job w.job v.job h.rest k.rest h.job k.job (heads _ _ _ _ e) e3 in
    ap walk (same_walking w.lang v.lang w.file v.file w.job v.job w.given v.given (same_lang w.lang v.lang (heads _ _ _ _ e1)) (heads _ _ _ _ e2) j.0
    (same_given one h.rest w.given v.given h.given.are (subst (λ ws. AllZip IsAssignment ws v.given) (sym j.1) k.given.are)))

-- ---- their number
length-zip : (ws : List (List ℕ)) (gs : List Assignment) → AllZip IsAssignment ws gs → length ws ≡ length gs
length-zip [] [] h = refl
length-zip [] (g ∷ gs) h = absurd h
length-zip (w ∷ ws) [] h = absurd h
length-zip (w ∷ ws) (g ∷ gs) h = let e = length-zip ws gs h.1 in omega arith

-- a task's words
length-task : (t : Task) (f : List ℕ) → length (verb_of t ++ f ∷ []) ≡ length (verb_of t) + 1
length-task ToJani f = refl
length-task ToPrism f = refl
length-task ToPrismProps f = refl
length-task CheckPrism f = refl
length-task CheckJani f = refl

pub words_count : WordsCount
words_count words (on_file t f) h = ap length h.1 ∙ length-task t f
words_count words (with_properties f p) h = ap length h.words_are
words_count words (generate n) h = ap length h.words_are
words_count words (walk w) h =
    let a = length-front words (job_verb w.job) (lang_word w.lang) w.file w.job h.rest h.words_are in
    let b = length-zip h.rest w.given h.given.are in
    omega (arith, a, b)
words_count words (check c) h =
    let a = length-claim words (claim_verb c.claim) (lang_word c.lang) c.file c.claim h.rest h.words_are in
    let b = length-zip h.rest c.given h.given.are in
    omega (arith, a, b)
words_count words (carry c) h =
    let a = ap length h.words_are in
    let b = length-zip h.rest c.given h.given.are in
    omega (arith, a, b)
words_count words (specialise q) h =
    let a = ap length h.words_are in
    let b = length-zip h.rest q.given h.given.are in
    omega (arith, a, b)
