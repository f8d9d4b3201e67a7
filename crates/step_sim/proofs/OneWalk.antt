-- Walks along the same numbers, and along the same words, are the same.
use Rattle.std.proofs.Common.{◌≡◌, ℕ, zero, suc, List, [], ◌∷◌, Option, Some, None, Result, Ok, Err, refl, sym, ap, ap₂, subst, ◌∙◌}
use Rattle.rand_core.specs.Stream.{Stream}
use Rattle.process_core.specs.Ready.{Values}
use Rattle.process_core.specs.Steps.{Process}
use Rattle.step_sim.specs.Walks.{IsGivenWalk, IsDrawnWalk, EndsDrawn}
use Rattle.step_sim.specs.Words.{pairs, rest}
use Rattle.step_sim.specs.declared.walk.Step.{Step}
use Rattle.step_sim.specs.declared.walk.Stop.{Stop}

apart : (r : Result Step Stop) (t : Step) (stop : Stop) → r ≡ Ok t → r ≡ Err stop → ⊥
apart r t stop h k = let e : ◌≡◌ {A = Result Step Stop} (Ok t) (Err stop) = sym h ∙ k in cc

same_step : (r : Result Step Stop) (t u : Step) → r ≡ Ok t → r ≡ Ok u → t ≡ u
same_step r t u h k = let e : ◌≡◌ {A = Result Step Stop} (Ok t) (Ok u) = sym h ∙ k in cc

same_stop : (r : Result Step Stop) (stop end : Stop) → r ≡ Err stop → r ≡ Err end → stop ≡ end
same_stop r stop end h k = let e : ◌≡◌ {A = Result Step Stop} (Err stop) (Err end) = sym h ∙ k in cc

barred_apart : (o : Option Stop) (stop : Stop) → o ≡ None → o ≡ Some stop → ⊥
barred_apart o stop h k = let e : ◌≡◌ {A = Option Stop} None (Some stop) = sym h ∙ k in cc

same_bar : (o : Option Stop) (stop end : Stop) → o ≡ Some stop → o ≡ Some end → stop ≡ end
same_bar o stop end h k = let e : ◌≡◌ {A = Option Stop} (Some stop) (Some end) = sym h ∙ k in cc

pub one_given : (p : Process) (s : Values) (gs : List (ℕ × ℕ)) (ts us : List Step) (stop end : Stop) → IsGivenWalk p s gs ts stop → IsGivenWalk p s gs us end → (ts ≡ us) × (stop ≡ end)
one_given p s [] [] [] stop end h k = (refl, h ∙ sym k)
one_given p s [] [] (u ∷ us) stop end h k = absurd k
one_given p s [] (t ∷ ts) us stop end h k = absurd h
one_given p s (g ∷ gs) [] [] stop end h k = (refl, same_stop _ stop end h k)
one_given p s (g ∷ gs) [] (u ∷ us) stop end h k = absurd (apart _ u stop k.0 h)
one_given p s (g ∷ gs) (t ∷ ts) [] stop end h k = absurd (apart _ t end h.0 k)
one_given p s (g ∷ gs) (t ∷ ts) (u ∷ us) stop end h k =
    let e = same_step _ t u h.0 k.0 in
    let r = one_given p t.target.values gs ts us stop end h.1 (subst (λ (x : Step). IsGivenWalk p x.target.values gs us end) (sym e) k.1) in
    (ap₂ (λ x l. x ∷ l) e r.0, r.1)

one_end : (p : Process) (s : Values) (n : ℕ) (b : Stream) (i j : ℕ) (stop end : Stop) → EndsDrawn p s n (pairs i b) stop → EndsDrawn p s n (pairs j b) end → (i ≡ j) × (stop ≡ end)
one_end p s zero b zero zero stop end h k = (refl, h ∙ sym k)
one_end p s zero b zero (suc j) stop end h k = absurd k
one_end p s zero b (suc i) j stop end h k = absurd h
one_end p s (suc n) b zero zero stop end h k = (refl, same_bar _ stop end h k)
one_end p s (suc n) b zero (suc zero) stop end h k = absurd (barred_apart _ stop k.0 h)
one_end p s (suc n) b zero (suc (suc j)) stop end h k = absurd k
one_end p s (suc n) b (suc zero) zero stop end h k = absurd (barred_apart _ end h.0 k)
one_end p s (suc n) b (suc zero) (suc zero) stop end h k = (refl, same_stop _ stop end h.1 k.1)
one_end p s (suc n) b (suc zero) (suc (suc j)) stop end h k = absurd k
one_end p s (suc n) b (suc (suc i)) j stop end h k = absurd h

-- a walk that is at its end takes no further step
no_more : (p : Process) (s : Values) (n : ℕ) (b : Stream) (i j : ℕ) (u : Step) (us : List Step) (stop end : Stop) → EndsDrawn p s n (pairs i b) stop → IsDrawnWalk p s n (pairs j b) (u ∷ us) end → ⊥
no_more p s zero b i j u us stop end h k = k
no_more p s (suc n) b i zero u us stop end h k = k
no_more p s (suc n) b zero (suc j) u us stop end h k = barred_apart _ stop k.0 h
no_more p s (suc n) b (suc zero) (suc j) u us stop end h k = apart _ u stop k.1 h.1
no_more p s (suc n) b (suc (suc i)) (suc j) u us stop end h k = h

pub one_drawn : (p : Process) (s : Values) (n : ℕ) (b : Stream) (i j : ℕ) (ts us : List Step) (stop end : Stop) →
    IsDrawnWalk p s n (pairs i b) ts stop → IsDrawnWalk p s n (pairs j b) us end → (i ≡ j) × (ts ≡ us) × (stop ≡ end)
one_drawn p s n b i j [] [] stop end h k = let r = one_end p s n b i j stop end h k in (r.0, refl, r.1)
one_drawn p s n b i j [] (u ∷ us) stop end h k = absurd (no_more p s n b i j u us stop end h k)
one_drawn p s n b i j (t ∷ ts) [] stop end h k = absurd (no_more p s n b j i t ts end stop k h)
one_drawn p s zero b i j (t ∷ ts) (u ∷ us) stop end h k = absurd h
one_drawn p s (suc n) b zero j (t ∷ ts) (u ∷ us) stop end h k = absurd h
one_drawn p s (suc n) b (suc i) zero (t ∷ ts) (u ∷ us) stop end h k = absurd k
one_drawn p s (suc n) b (suc i) (suc j) (t ∷ ts) (u ∷ us) stop end h k =
    let e = same_step _ t u h.1 k.1 in
    let r = one_drawn p t.target.values n (rest b) i j ts us stop end h.2 (subst (λ (x : Step). IsDrawnWalk p x.target.values n (pairs j (rest b)) us end) (sym e) k.2) in
    (ap suc r.0, ap₂ (λ x l. x ∷ l) e r.1, r.2)
