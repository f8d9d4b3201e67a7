-- The longest front that the automaton accepts.
use Rattle.std.proofs.Common.{add-one, ◌≡◌, ℕ, suc, ◌+◌, ◌≤◌, ◌<◌, Bool, true, false, cond, List, [], ◌∷◌, ◌++◌, length, take, drop, get_or, refl, sym, ap, subst, ◌∙◌, arith, nat_lt}
use Rattle.std.proofs.lemmas.Bool.Decides.{nat_tests}
use Rattle.std.proofs.Math.Seq.{drop-cons}
use Rattle.std.proofs.lemmas.List.{take_more}
use Rattle.prism_lex.specs.declared.automaton.State.{State}
use Rattle.prism_lex.specs.declared.automaton.State.TheVariants.{Start, Dead}
use Rattle.prism_lex.specs.Automaton.{step, accepts, after, longest}

pub within_step : (n m : ℕ) (a : Bool) → n ≤ m → cond (nat_lt 0 n) (suc n) (cond a 1 0) ≤ suc m
within_step n m a h = grind (arith, nat_tests)

pub longest_within : (s : State) (bs : List ℕ) → longest s bs ≤ length bs
longest_within s [] = omega arith
longest_within s (b ∷ bs) = within_step (longest (step s b) bs) (length bs) (accepts (step s b)) (longest_within (step s b) bs)

pub longest_is : (s : State) (bs : List ℕ) → 0 < longest s bs → accepts (after s (take (longest s bs) bs)) ≡ true
longest_is s [] h = absurd (omega arith)
longest_is s (b ∷ bs) h = go (longest (step s b) bs) (nat_lt 0 (longest (step s b) bs)) (accepts (step s b)) refl refl (longest_is (step s b) bs) h
  where
    go : (n : ℕ) (t a : Bool) → nat_lt 0 n ≡ t → accepts (step s b) ≡ a → (0 < n → accepts (after (step s b) (take n bs)) ≡ true) → 0 < cond t (suc n) (cond a 1 0) → accepts (after s (take (cond t (suc n) (cond a 1 0)) (b ∷ bs))) ≡ true
    go n true a e f r h = r (grind (arith, nat_tests, e))
    go n false true e f r h = f
    go n false false e f r h = absurd (omega arith)

pub first_of_two : (n k : ℕ) (a : Bool) → k ≤ n → 0 < k → suc k ≤ cond (nat_lt 0 n) (suc n) (cond a 1 0)
first_of_two n k a h p = grind (arith, nat_tests)

pub one_at_least : (n : ℕ) (a : Bool) → a ≡ true → 1 ≤ cond (nat_lt 0 n) (suc n) (cond a 1 0)
one_at_least n a e = grind (arith, nat_tests)

pub longest_most : (s : State) (bs v z : List ℕ) → bs ≡ v ++ z → 0 < length v → accepts (after s v) ≡ true → length v ≤ longest s bs
longest_most s bs [] z e h a = absurd (omega arith)
longest_most s [] (c ∷ v) z e h a = absurd cc
longest_most s (b ∷ bs) (c ∷ []) z e h a =
    let i : c ≡ b = cc in
    one_at_least (longest (step s b) bs) (accepts (step s b)) (rw (← i) a)
longest_most s (b ∷ bs) (c ∷ d ∷ v) z e h a =
    let i : c ≡ b = cc in
    let t : bs ≡ (d ∷ v) ++ z = cc in
    let F : ℕ → Type 0 = λ u. accepts (after (step s u) (d ∷ v)) ≡ true in
    let r = longest_most (step s b) bs (d ∷ v) z t (omega arith) (subst F i a) in
    first_of_two (longest (step s b) bs) (length (d ∷ v)) (accepts (step s b)) r (omega arith)

pub longest_dead : (bs : List ℕ) → longest Dead bs ≡ 0
longest_dead [] = refl
longest_dead (b ∷ bs) = rw (longest_dead bs) refl

pub dead_stop : (s : State) (bs : List ℕ) (i d : ℕ) → i < length bs → step s (get_or bs i d) ≡ Dead → longest s (drop i bs) ≡ 0
dead_stop s bs i d lt e =
    let f : drop i bs ≡ get_or bs i d ∷ drop (suc i) bs = drop-cons bs i d lt in
    rw f (stop s (get_or bs i d) (drop (suc i) bs) e)
  where
    zero_of : (s : State) (a : Bool) (n : ℕ) → n ≡ 0 → a ≡ false → cond (nat_lt 0 n) (suc n) (cond a 1 0) ≡ 0
    zero_of s a n e f = rw (e, f) refl

    stop : (s : State) (b : ℕ) (bs : List ℕ) → step s b ≡ Dead → longest s (b ∷ bs) ≡ 0
    stop s b bs e = zero_of s (accepts (step s b)) (longest (step s b) bs) (ap (λ (u : State). longest u bs) e ∙ longest_dead bs) (ap accepts e)

after_push : (s : State) (bs : List ℕ) (c : ℕ) → after s (bs ++ c ∷ []) ≡ step (after s bs) c
after_push s [] c = refl
after_push s (b ∷ bs) c = after_push (step s b) bs c

-- the state after one byte more
pub after_more : (s : State) (bs : List ℕ) (i d : ℕ) → i < length bs → after s (take (i + 1) bs) ≡ step (after s (take i bs)) (get_or bs i d)
after_more s bs i d h = ap (after s) (take_more bs i d h) ∙ after_push s (take i bs) (get_or bs i d)

-- What a scan knows after i bytes: its state, and the longest front so far that is accepted, with the state of that.
pub record Scanned (bs : List ℕ) (i : ℕ) (s : State) (n : ℕ) (t : State) : Type 0 where
  pub len : longest Start bs ≡ cond (nat_lt 0 (longest s (drop i bs))) (i + longest s (drop i bs)) n
  pub here : s ≡ after Start (take i bs)
  pub last : t ≡ after Start (take n bs)

len_more : (total m n i len : ℕ) (a : Bool) → total ≡ cond (nat_lt 0 m) (i + m) len → m ≡ cond (nat_lt 0 n) (suc n) (cond a 1 0) → total ≡ cond (nat_lt 0 n) (i + 1 + n) (cond a (i + 1) len)
len_more total m n i len a e f = grind (arith, nat_tests)

next_longest : (s : State) (bs : List ℕ) (i d : ℕ) → i < length bs → (let t = step s (get_or bs i d) in let n = longest t (drop (i + 1) bs) in longest s (drop i bs) ≡ cond (nat_lt 0 n) (suc n) (cond (accepts t) 1 0))
next_longest s bs i d h = rw (drop-cons bs i d h, add-one) refl

here_more : (bs : List ℕ) (i d : ℕ) (s t : State) → s ≡ after Start (take i bs) → i < length bs → t ≡ step s (get_or bs i d) → t ≡ after Start (take (i + 1) bs)
here_more bs i d s t p h e = e ∙ ap (λ (u : State). step u (get_or bs i d)) p ∙ sym (after_more Start bs i d h)

longest_at : (bs : List ℕ) (i d : ℕ) (s t : State) (n : ℕ) → longest Start bs ≡ cond (nat_lt 0 (longest s (drop i bs))) (i + longest s (drop i bs)) n → i < length bs → t ≡ step s (get_or bs i d) → (let m = longest t (drop (i + 1) bs) in longest Start bs ≡ cond (nat_lt 0 m) (i + 1 + m) (cond (accepts t) (i + 1) n))
longest_at bs i d s t n p h e =
    let F : State → Type 0 = λ u. longest Start bs ≡ cond (nat_lt 0 (longest u (drop (i + 1) bs))) (i + 1 + longest u (drop (i + 1) bs)) (cond (accepts u) (i + 1) n) in
    subst F (sym e) (len_more _ _ _ i n (accepts (step s (get_or bs i d))) p (next_longest s bs i d h))

-- one byte more, at which a front ends
pub scanned_end : (bs : List ℕ) (i d : ℕ) (s t : State) (n : ℕ) (u : State) → Scanned bs i s n u → i < length bs → t ≡ step s (get_or bs i d) → accepts t ≡ true → Scanned bs (i + 1) t (i + 1) t
scanned_end bs i d s t n u p h e a = record {
  len = longest_at bs i d s t n p.len h e ∙ ap (λ (b : Bool). cond (nat_lt 0 (longest t (drop (i + 1) bs))) (i + 1 + longest t (drop (i + 1) bs)) (cond b (i + 1) n)) a;
  here = here_more bs i d s t p.here h e;
  last = here_more bs i d s t p.here h e;
}

-- one byte more, at which none does
pub scanned_on : (bs : List ℕ) (i d : ℕ) (s t : State) (n : ℕ) (u : State) → Scanned bs i s n u → i < length bs → t ≡ step s (get_or bs i d) → accepts t ≡ false → Scanned bs (i + 1) t n u
scanned_on bs i d s t n u p h e a = record {
  len = longest_at bs i d s t n p.len h e ∙ ap (λ (b : Bool). cond (nat_lt 0 (longest t (drop (i + 1) bs))) (i + 1 + longest t (drop (i + 1) bs)) (cond b (i + 1) n)) a;
  here = here_more bs i d s t p.here h e;
  last = p.last;
}
