-- A walk, one step more at a time.
use Rattle.std.proofs.Common.{◌≡◌, ℕ, zero, suc, ◌+◌, ◌-◌, ◌<◌, ◌≤◌, List, [], ◌∷◌, ◌++◌, length, get_or, take, drop, IsTrue, Option, Some, None, Result, Ok, Err, refl, sym, ap, ap₂, subst, subst₂, ◌∙◌, arith, add-one, append-nil, take_all, take-append-drop, length-append, drop-cons}
use Rattle.std.specs.List.{slice_get}
use Rattle.std.proofs.lemmas.List.{take_more}
use Rattle.rand_core.specs.Stream.{Stream}
use Rattle.process_core.specs.Ready.{Values}
use Rattle.process_core.specs.Steps.{Process, IsProcess}
use Rattle.step_sim.specs.Walks.{state_after, step_given, IsGivenWalk, step_drawn, bar, EndsDrawn, IsDrawnWalk}
use Rattle.step_sim.specs.Words.{pair, rest, pairs, left, IsDrawnStep, StopsOrGoes, IsSeededWalk}
use Rattle.step_sim.specs.declared.walk.Step.{Step}
use Rattle.step_sim.specs.declared.walk.Stop.{Stop}
use Rattle.step_sim.specs.declared.walk.Stop.TheVariants as S
use Rattle.step_sim.specs.declared.walk.Walk.{Walk}
use Rattle.step_sim.proofs.Moves.{given_moves, drawn_moves}

-- a list around one place
take_more-drop : (gs : List (ℕ × ℕ)) (i : ℕ) → i < length gs → gs ≡ take i gs ++ get_or gs i (0, 0) ∷ drop (i + 1) gs
take_more-drop gs i h = sym (take-append-drop i gs) ∙ ap (λ l. take i gs ++ l) (drop-cons gs i (0, 0) h ∙ ap (λ n. get_or gs i (0, 0) ∷ drop n gs) (sym (add-one i)))

-- the last step leads to where the walk has come
pub last_step : (s : Values) (ts : List Step) (i : ℕ) (t : Step) → i + 1 ≡ length ts → slice_get ts i ≡ Some t → t.target.values ≡ state_after s ts
last_step s [] i t n e = absurd cc
last_step s (x ∷ []) zero t n e = let f : x ≡ t = cc in ap (λ (t : Step). t.target.values) (sym f)
last_step s (x ∷ y ∷ ts) zero t n e = let no : ⊥ = omega arith in absurd no
last_step s (x ∷ ts) (suc i) t n e = last_step x.target.values ts i t (omega arith) e

-- Steps that draws lead to, one for each: from each state its draw leads to the next.
abbrev pub Leads : (Values → ℕ × ℕ → Step → Type 0) → Values → List (ℕ × ℕ) → List Step → Type 0
Leads R s [] [] = Unit {0}
Leads R s [] (t ∷ ts) = ⊥
Leads R s (d ∷ ds) [] = ⊥
Leads R s (d ∷ ds) (t ∷ ts) = R s d t × Leads R t.target.values ds ts

pub Leads-snoc : (R : Values → ℕ × ℕ → Step → Type 0) (s : Values) (ds : List (ℕ × ℕ)) (ts : List Step) (d : ℕ × ℕ) (t : Step) → Leads R s ds ts → R (state_after s ts) d t → Leads R s (ds ++ d ∷ []) (ts ++ t ∷ [])
Leads-snoc R s [] [] d t h r = (r, tt)
Leads-snoc R s [] (x ∷ ts) d t h r = absurd h
Leads-snoc R s (e ∷ ds) [] d t h r = absurd h
Leads-snoc R s (e ∷ ds) (x ∷ ts) d t h r = (h.0, Leads-snoc R x.target.values ds ts d t h.1 r)

pub state_after-snoc : (s : Values) (ts : List Step) (t : Step) → state_after s (ts ++ t ∷ []) ≡ t.target.values
state_after-snoc s [] t = refl
state_after-snoc s (x ∷ ts) t = state_after-snoc x.target.values ts t

abbrev pub Given : Process → Values → ℕ × ℕ → Step → Type 0
Given p s g t = step_given p s g ≡ Ok t

-- steps that some pairs lead to, and the end along the others
pub given_walk : (p : Process) (s : Values) (gs : List (ℕ × ℕ)) (ts : List Step) (es : List (ℕ × ℕ)) (stop : Stop) → Leads (Given p) s gs ts → IsGivenWalk p (state_after s ts) es [] stop → IsGivenWalk p s (gs ++ es) ts stop
given_walk p s [] [] es stop h k = k
given_walk p s [] (t ∷ ts) es stop h k = absurd h
given_walk p s (g ∷ gs) [] es stop h k = absurd h
given_walk p s (g ∷ gs) (t ∷ ts) es stop h k = (h.0, given_walk p t.target.values gs ts es stop h.1 k)

abbrev pub Drawn : Process → Values → ℕ × ℕ → Step → Type 0
Drawn p s d t = (bar p s ≡ None) × (step_drawn p s d ≡ Ok t)

pub drawn_walk : (p : Process) (s : Values) (m n : ℕ) (ds : List (ℕ × ℕ)) (ts : List Step) (es : List (ℕ × ℕ)) (stop : Stop) → m ≡ length ts + n → Leads (Drawn p) s ds ts → EndsDrawn p (state_after s ts) n es stop → IsDrawnWalk p s m (ds ++ es) ts stop
drawn_walk p s m n [] [] es stop e h k = subst (λ i. EndsDrawn p s i es stop) (let f : n ≡ m = omega arith in f) k
drawn_walk p s m n [] (t ∷ ts) es stop e h k = absurd h
drawn_walk p s m n (d ∷ ds) [] es stop e h k = absurd h
drawn_walk p s zero n (d ∷ ds) (t ∷ ts) es stop e h k = let no : ⊥ = omega arith in absurd no
drawn_walk p s (suc m) n (d ∷ ds) (t ∷ ts) es stop e h k =
    (h.0.0, h.0.1, drawn_walk p t.target.values m n ds ts es stop (omega arith) h.1 k)

-- the words of one step more
pub pairs-suc : (k : ℕ) (w : Stream) → pairs (suc k) w ≡ pairs k w ++ pair (left k w) ∷ []
pairs-suc zero w = refl
pairs-suc (suc k) w = ap (λ l. pair w ∷ l) (pairs-suc k (rest w))

pub left-suc : (k : ℕ) (w : Stream) → left (suc k) w ≡ rest (left k w)
left-suc zero w = refl
left-suc (suc k) w = left-suc k (rest w)

-- ---- along given numbers, at a place of a loop: the steps so far are ts, and x is where they have come to
module _ (p : Process) (s : Values) (gs : List (ℕ × ℕ)) (i : ℕ) (ts ys : List Step) (x : Values) (r : Result Step Stop)
    (h : Leads (Given p) s (take i gs) ts) (last : x ≡ state_after s ys) (same : ys ≡ ts) (e : r ≡ step_given p x (get_or gs i (0, 0))) where
  given_here : r ≡ step_given p (state_after s ts) (get_or gs i (0, 0))
  given_here = e ∙ ap (λ y. step_given p y (get_or gs i (0, 0))) (last ∙ ap (state_after s) same)

  pub given_stops : (stop : Stop) → i < length gs → r ≡ Err stop → IsGivenWalk p s gs ts stop
  given_stops stop b k =
      subst (λ l. IsGivenWalk p s l ts stop) (sym (take_more-drop gs i b))
      (given_walk p s (take i gs) ts (get_or gs i (0, 0) ∷ drop (i + 1) gs) stop h (sym given_here ∙ k))

  pub given_goes : (t : Step) (us : List Step) → IsProcess p → IsTrue (p.is_state (state_after s ts)) → i < length gs → r ≡ Ok t → us ≡ ts ++ t ∷ [] →
      Leads (Given p) s (take (i + 1) gs) us × IsTrue (p.is_state (state_after s us))
  given_goes t us law v b k f =
      let g : step_given p (state_after s ts) (get_or gs i (0, 0)) ≡ Ok t = sym given_here ∙ k in (
        subst₂ (λ l m. Leads (Given p) s l m) (sym (take_more gs i (0, 0) b)) (sym f) (Leads-snoc (Given p) s (take i gs) ts (get_or gs i (0, 0)) t h g),
        subst (λ y. IsTrue (p.is_state y)) (sym (ap (state_after s) f ∙ state_after-snoc s ts t)) (given_moves p (state_after s ts) t (get_or gs i (0, 0)) law v g).state,
      )

pub given_done : (p : Process) (s : Values) (gs : List (ℕ × ℕ)) (i : ℕ) (ts : List Step) → Leads (Given p) s (take i gs) ts → length gs ≤ i → IsGivenWalk p s gs ts S.Done
given_done p s gs i ts h b =
    subst (λ l. IsGivenWalk p s l ts S.Done) (append-nil (take i gs) ∙ take_all i gs b) (given_walk p s (take i gs) ts [] S.Done h refl)

-- ---- along words: the steps so far are ts, in k steps, before the words b
module _ (p : Process) (s : Values) (n k : ℕ) (b w : Stream) (ts ys : List Step) (x : Values)
    (h : Leads (Drawn p) s (pairs k b) ts) (words : w ≡ left k b) (count : length ts ≡ k) (last : x ≡ state_after s ys) (same : ys ≡ ts) (within : k < n) where
  state_here : x ≡ state_after s ts
  state_here = last ∙ ap (state_after s) same

  pub drawn_stops : (after : Stream) (stop : Stop) (r : Result Step Stop) (walk : Walk) → IsDrawnStep p x w after r → r ≡ Err stop → walk.first.values ≡ s → walk.steps ≡ ts → walk.stop ≡ stop → IsSeededWalk p s n b after walk
  drawn_stops after stop r walk d e f g q = by_bar (bar p x) refl d
    where
      by_bar : (z : Option Stop) → z ≡ bar p x → StopsOrGoes z (step_drawn p x (pair w)) w after r → IsSeededWalk p s n b after walk
      by_bar (Some z) u a =
          let same_stop : z ≡ stop = let m : ◌≡◌ {A = Result Step Stop} (Err z) (Err stop) = sym a.0 ∙ e in cc in
          record {
            starts = f;
            begun = k;
            walk = subst₂ (λ l (o : List Step × Stop). IsDrawnWalk p s n l o.0 o.1) (append-nil (pairs k b)) (ap₂ (λ a b. (a, b)) (sym g) (sym q))
                (drawn_walk p s n (suc (n - k - 1)) (pairs k b) ts [] stop (omega arith) h (sym (ap (bar p) state_here) ∙ sym u ∙ ap Some same_stop));
            taken = a.1 ∙ words;
          }
      by_bar None u a = record {
        starts = f;
        begun = suc k;
        walk = subst₂ (λ l (o : List Step × Stop). IsDrawnWalk p s n l o.0 o.1) (sym (pairs-suc k b)) (ap₂ (λ a b. (a, b)) (sym g) (sym q))
            (drawn_walk p s n (suc (n - k - 1)) (pairs k b) ts (pair (left k b) ∷ []) stop (omega arith) h (
              sym (ap (bar p) state_here) ∙ sym u,
              sym (ap₂ (λ y z. step_drawn p y (pair z)) state_here words) ∙ sym a.0 ∙ e,
            ));
        taken = a.1 ∙ ap rest words ∙ sym (left-suc k b);
      }

  pub drawn_goes : (after : Stream) (t : Step) (r : Result Step Stop) (us : List Step) → IsProcess p → IsTrue (p.is_state (state_after s ts)) → IsDrawnStep p x w after r → r ≡ Ok t → us ≡ ts ++ t ∷ [] →
      Leads (Drawn p) s (pairs (k + 1) b) us × (after ≡ left (k + 1) b) × (length us ≡ k + 1) × IsTrue (p.is_state (state_after s us))
  drawn_goes after t r us law v d e f = by_bar (bar p x) refl d
    where
      by_bar : (z : Option Stop) → z ≡ bar p x → StopsOrGoes z (step_drawn p x (pair w)) w after r → Leads (Drawn p) s (pairs (k + 1) b) us × (after ≡ left (k + 1) b) × (length us ≡ k + 1) × IsTrue (p.is_state (state_after s us))
      by_bar (Some z) u a = let m : ◌≡◌ {A = Result Step Stop} (Err z) (Ok t) = sym a.0 ∙ e in absurd cc
      by_bar None u a =
          let g : step_drawn p (state_after s ts) (pair (left k b)) ≡ Ok t = sym (ap₂ (λ y z. step_drawn p y (pair z)) state_here words) ∙ sym a.0 ∙ e in
          let z : bar p (state_after s ts) ≡ None = sym (ap (bar p) state_here) ∙ sym u in (
            subst₂ (λ l m. Leads (Drawn p) s l m) (sym (ap (λ n. pairs n b) (add-one k) ∙ pairs-suc k b)) (sym f) (Leads-snoc (Drawn p) s (pairs k b) ts (pair (left k b)) t h (z, g)),
            a.1 ∙ ap rest words ∙ sym (left-suc k b) ∙ sym (ap (λ n. left n b) (add-one k)),
            let c = ap length f in omega (arith, length-append ts (t ∷ [])),
            subst (λ y. IsTrue (p.is_state y)) (sym (ap (state_after s) f ∙ state_after-snoc s ts t)) (drawn_moves p (state_after s ts) t (pair (left k b)) law v g).state,
          )

pub drawn_done : (p : Process) (s : Values) (n k : ℕ) (b w : Stream) (ts : List Step) (walk : Walk) → Leads (Drawn p) s (pairs k b) ts → w ≡ left k b → length ts ≡ k → n ≡ k →
    walk.first.values ≡ s → walk.steps ≡ ts → walk.stop ≡ S.Done → IsSeededWalk p s n b w walk
drawn_done p s n k b w ts walk h words count e f g q = record {
  starts = f;
  begun = k;
  walk = subst₂ (λ l (o : List Step × Stop). IsDrawnWalk p s n l o.0 o.1) (append-nil (pairs k b)) (ap₂ (λ a b. (a, b)) (sym g) (sym q))
      (drawn_walk p s n 0 (pairs k b) ts [] S.Done (omega arith) h refl);
  taken = words;
}
