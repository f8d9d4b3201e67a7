-- The longest gap at the front.
use Rattle.std.proofs.Common.{◌≡◌, ℕ, suc, ◌≤◌, ◌<◌, Bool, true, false, cond, List, [], ◌∷◌, ◌++◌, length, take, drop, get_or, refl, ap, subst, ◌∙◌, arith, nat_lt}
use Rattle.std.proofs.lemmas.Bool.Decides.{nat_tests}
use Rattle.std.proofs.Math.Seq.{drop-cons}
use Rattle.prism_lex.specs.declared.gap.Gap.{Gap}
use Rattle.prism_lex.specs.declared.gap.Gap.TheVariants.{Other}
use Rattle.prism_lex.specs.Gaps.{gap_step, may_end, gap_after, gap_len}
use Rattle.prism_lex.proofs.Longest.{within_step, first_of_two, one_at_least}

pub gap_within : (s : Gap) (bs : List ℕ) → gap_len s bs ≤ length bs
gap_within s [] = omega arith
gap_within s (b ∷ bs) = within_step (gap_len (gap_step s b) bs) (length bs) (may_end (gap_step s b)) (gap_within (gap_step s b) bs)

pub gap_is : (s : Gap) (bs : List ℕ) → 0 < gap_len s bs → may_end (gap_after s (take (gap_len s bs) bs)) ≡ true
gap_is s [] h = absurd (omega arith)
gap_is s (b ∷ bs) h = go (gap_len (gap_step s b) bs) (nat_lt 0 (gap_len (gap_step s b) bs)) (may_end (gap_step s b)) refl refl (gap_is (gap_step s b) bs) h
  where
    go : (n : ℕ) (t a : Bool) → nat_lt 0 n ≡ t → may_end (gap_step s b) ≡ a → (0 < n → may_end (gap_after (gap_step s b) (take n bs)) ≡ true) → 0 < cond t (suc n) (cond a 1 0) → may_end (gap_after s (take (cond t (suc n) (cond a 1 0)) (b ∷ bs))) ≡ true
    go n true a e f r h = r (grind (arith, nat_tests, e))
    go n false true e f r h = f
    go n false false e f r h = absurd (omega arith)

pub gap_most : (s : Gap) (bs v z : List ℕ) → bs ≡ v ++ z → 0 < length v → may_end (gap_after s v) ≡ true → length v ≤ gap_len s bs
gap_most s bs [] z e h a = absurd (omega arith)
gap_most s [] (c ∷ v) z e h a = absurd cc
gap_most s (b ∷ bs) (c ∷ []) z e h a =
    let i : c ≡ b = cc in
    one_at_least (gap_len (gap_step s b) bs) (may_end (gap_step s b)) (rw (← i) a)
gap_most s (b ∷ bs) (c ∷ d ∷ v) z e h a =
    let i : c ≡ b = cc in
    let t : bs ≡ (d ∷ v) ++ z = cc in
    let F : ℕ → Type 0 = λ u. may_end (gap_after (gap_step s u) (d ∷ v)) ≡ true in
    let r = gap_most (gap_step s b) bs (d ∷ v) z t (omega arith) (subst F i a) in
    first_of_two (gap_len (gap_step s b) bs) (length (d ∷ v)) (may_end (gap_step s b)) r (omega arith)

pub gap_dead : (bs : List ℕ) → gap_len Other bs ≡ 0
gap_dead [] = refl
gap_dead (b ∷ bs) = rw (gap_dead bs) refl

pub other_stop : (s : Gap) (bs : List ℕ) (i d : ℕ) → i < length bs → gap_step s (get_or bs i d) ≡ Other → gap_len s (drop i bs) ≡ 0
other_stop s bs i d lt e =
    let f : drop i bs ≡ get_or bs i d ∷ drop (suc i) bs = drop-cons bs i d lt in
    rw f (stop s (get_or bs i d) (drop (suc i) bs) e)
  where
    zero_of : (s : Gap) (a : Bool) (n : ℕ) → n ≡ 0 → a ≡ false → cond (nat_lt 0 n) (suc n) (cond a 1 0) ≡ 0
    zero_of s a n e f = rw (e, f) refl

    stop : (s : Gap) (b : ℕ) (bs : List ℕ) → gap_step s b ≡ Other → gap_len s (b ∷ bs) ≡ 0
    stop s b bs e = zero_of s (may_end (gap_step s b)) (gap_len (gap_step s b) bs) (ap (λ (u : Gap). gap_len u bs) e ∙ gap_dead bs) (ap may_end e)
