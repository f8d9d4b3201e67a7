-- A step that is taken is a step of the process, to one of its states.
use Rattle.std.proofs.Common.{◌≡◌, ℕ, zero, suc, ◌%◌, ◌&&◌, pos, ◌*ℤ◌, ◌≤ℤ◌, List, [], ◌∷◌, length, Bool, true, false, IsTrue, Option, Some, None, Result, Ok, Err, refl, sym, ap, subst, ◌∙◌, arith, int_lt, if◌then◌else◌}
use Rattle.std.specs.List.{All, list_any, slice_get}
use Rattle.std.proofs.lemmas.Bool.{and_from, or_left, or_right}
use Rattle.std.proofs.lemmas.Int.{ints}
use Rattle.basics.specs.Members.{all_get}
use Rattle.frac_core.specs.Fraction.{Fraction, nought, same_number}
use Rattle.frac_core.specs.Laws.{same_number_is, nought_from_num}
use Rattle.frac_core.specs.Order.{AtMost}
use Rattle.process_core.specs.Process.{Branch, Choice, Outcome, Good, Bad}
use Rattle.process_core.specs.Ready.{Values, Name, same_label}
use Rattle.process_core.specs.Bounds.{Excess, IsWide, IsTooMany}
use Rattle.process_core.specs.Distribution.{IsDistribution, IsProper}
use Rattle.process_core.specs.Equal.{equal_states, equal_states_is, same_label_is}
use Rattle.process_core.specs.Steps.{Process, IsProcess}
use Rattle.process_core.specs.Paths.{is_positive, leads_to, is_step, IsPathFrom}
use Rattle.step_sim.specs.Walks.{by_branch, by_outcome, by_choice, within, step_given, drawn, drawn_outcome, drawn_choice, step_drawn, is_drawing_wide, IsGivenWalk, IsDrawnWalk}
use Rattle.step_sim.specs.Paths.{moves}
use Rattle.step_sim.specs.declared.walk.Step.{Step}
use Rattle.step_sim.specs.declared.walk.Stop.{Stop}
use Rattle.step_sim.specs.declared.walk.Stop.TheVariants as S

-- what passes a test is found where it stands
passes_at : {X : Type 0} (test : X → Bool) (xs : List X) (i : ℕ) (x : X) → slice_get xs i ≡ Some x → test x ≡ true → list_any test xs ≡ true
passes_at test [] i x e h = absurd cc
passes_at test (y ∷ ys) zero x e h = let f : y ≡ x = cc in or_left (test y) (list_any test ys) (ap test f ∙ h)
passes_at test (y ∷ ys) (suc i) x e h = or_right (test y) (list_any test ys) (passes_at test ys i x e h)

positive : (x : Fraction) → AtMost nought x → false ≡ same_number x nought → is_positive x ≡ true
positive x h z = by_sign (int_lt (pos 0) x.num) refl
  where
    by_sign : (b : Bool) → int_lt (pos 0) x.num ≡ b → b ≡ true
    by_sign true e = refl
    by_sign false e =
        absurd (let up : (pos 0 *ℤ pos x.den) ≤ℤ (x.num *ℤ pos 1) = h.across in
        let none : x.num ≡ pos 0 = omega (arith, ints) in
        let same : same_number x nought ≡ true = (same_number_is x nought).1 (nought_from_num x none) in
        cc)

-- a step to a state
pub record Moves (p : Process) (s : Values) (t : Step) : Type 0 where
  pub move : IsTrue (is_step (p.choices s) t.label t.target.values)
  pub state : IsTrue (p.is_state t.target.values)

module _ (p : Process) (s : Values) (t : Step) where
  branch_moves : (label : Option Name) (bs : List (Branch Fraction Values)) (j : ℕ) → (leads_to t.target.values (Good bs) ≡ true → label ≡ t.label → IsTrue (is_step (p.choices s) t.label t.target.values)) →
      IsDistribution p.is_state bs → (o : Option (Branch Fraction Values)) → o ≡ slice_get bs j → by_branch label j o ≡ Ok t → Moves p s t
  branch_moves label bs j c d None e h = absurd cc
  branch_moves label bs j c d (Some b) e h = by_weight (same_number b.probability nought) refl h
    where
      by_weight : (z : Bool) → z ≡ same_number b.probability nought → ◌≡◌ {A = Result Step Stop} (if z then Err (S.NoBranch j) else Ok (record { label = label; target = record { values = b.target } })) (Ok t) → Moves p s t
      by_weight true z k = absurd cc
      by_weight false z k =
          let same : ◌≡◌ {A = Step} (record { label = label; target = record { values = b.target } }) t = cc in
          let target : b.target ≡ t.target.values = ap (λ (t : Step). t.target.values) same in
          let positive_there = positive b.probability (all_get (λ (b : Branch Fraction Values). AtMost nought b.probability) bs j b d.not_negative (sym e)) z in
          record {
            move =
                c
                (passes_at (λ (b : Branch Fraction Values). is_positive b.probability && equal_states t.target.values b.target) bs j b (sym e)
                (and_from (is_positive b.probability) _ positive_there ((equal_states_is t.target.values b.target).1 (sym target))))
                (ap (λ (t : Step). t.label) same);
            state = subst (λ v. IsTrue (p.is_state v)) target (all_get (λ (b : Branch Fraction Values). IsTrue (p.is_state b.target)) bs j b d.targets (sym e));
          }

  -- a choice of the state that leads to the target
  chosen : (i : ℕ) (c : Choice Name Fraction Values) → c.label ≡ t.label → leads_to t.target.values c.outcome ≡ true → slice_get (p.choices s) i ≡ Some c → IsTrue (is_step (p.choices s) t.label t.target.values)
  chosen i c l h e =
      passes_at (λ (c : Choice Name Fraction Values). same_label t.label c.label && leads_to t.target.values c.outcome) (p.choices s) i c e
      (and_from (same_label t.label c.label) _ ((same_label_is t.label c.label).1 (sym l)) h)

  outcome_moves : (label : Option Name) (j : ℕ) (o : Outcome Fraction Values) → (leads_to t.target.values o ≡ true → label ≡ t.label → IsTrue (is_step (p.choices s) t.label t.target.values)) → IsProper p.is_state o → by_outcome label j o ≡ Ok t → Moves p s t
  outcome_moves label j (Bad k) c d h = absurd cc
  outcome_moves label j (Good bs) c d h = branch_moves label bs j c d (slice_get bs j) refl h

  choice_moves : (i j : ℕ) → All (λ (c : Choice Name Fraction Values). IsProper p.is_state c.outcome) (p.choices s) → (o : Option (Choice Name Fraction Values)) → o ≡ slice_get (p.choices s) i → by_choice i j o ≡ Ok t → Moves p s t
  choice_moves i j d None e h = absurd cc
  choice_moves i j d (Some c) e h =
      outcome_moves c.label j c.outcome (λ k l. chosen i c l k (sym e)) (all_get (λ (c : Choice Name Fraction Values). IsProper p.is_state c.outcome) (p.choices s) i c d (sym e)) h

  excess_moves : (e : Option Excess) (r : Result Step Stop) → within e r ≡ Ok t → r ≡ Ok t
  excess_moves None r h = h
  excess_moves (Some IsWide) r h = absurd cc
  excess_moves (Some IsTooMany) r h = absurd cc

  pub given_moves : (g : ℕ × ℕ) → IsProcess p → IsTrue (p.is_state s) → step_given p s g ≡ Ok t → Moves p s t
  given_moves g law v h = choice_moves g.0 g.1 (law.proper s v) (slice_get (p.choices s) g.0) refl (excess_moves (p.excess s) _ h)

  drawn_outcome_moves : (label : Option Name) (w : ℕ) (o : Outcome Fraction Values) → (leads_to t.target.values o ≡ true → label ≡ t.label → IsTrue (is_step (p.choices s) t.label t.target.values)) → IsProper p.is_state o → drawn_outcome label w o ≡ Ok t → Moves p s t
  drawn_outcome_moves label w (Bad k) c d h = absurd cc
  drawn_outcome_moves label w (Good bs) c d h = by_width (is_drawing_wide w bs) h
    where
      by_width : (b : Bool) → ◌≡◌ {A = Result Step Stop} (if b then Err S.Wide else by_branch label (drawn w bs) (slice_get bs (drawn w bs))) (Ok t) → Moves p s t
      by_width true k = absurd cc
      by_width false k = branch_moves label bs (drawn w bs) c d (slice_get bs (drawn w bs)) refl k

  drawn_choice_moves : (i w : ℕ) → All (λ (c : Choice Name Fraction Values). IsProper p.is_state c.outcome) (p.choices s) → (o : Option (Choice Name Fraction Values)) → o ≡ slice_get (p.choices s) i → drawn_choice i w o ≡ Ok t → Moves p s t
  drawn_choice_moves i w d None e h = absurd cc
  drawn_choice_moves i w d (Some c) e h =
      drawn_outcome_moves c.label w c.outcome (λ k l. chosen i c l k (sym e)) (all_get (λ (c : Choice Name Fraction Values). IsProper p.is_state c.outcome) (p.choices s) i c d (sym e)) h

  pub drawn_moves : (d : ℕ × ℕ) → IsProcess p → IsTrue (p.is_state s) → step_drawn p s d ≡ Ok t → Moves p s t
  drawn_moves d law v h = drawn_choice_moves (d.0 % length (p.choices s)) d.1 (law.proper s v) (slice_get (p.choices s) (d.0 % length (p.choices s))) refl h

pub given_path : (p : Process) → IsProcess p → (s : Values) (gs : List (ℕ × ℕ)) (ts : List Step) (stop : Stop) → IsTrue (p.is_state s) → IsGivenWalk p s gs ts stop → IsPathFrom p s (moves ts)
given_path p law s gs [] stop v h = tt
given_path p law s [] (t ∷ ts) stop v h = absurd h
given_path p law s (g ∷ gs) (t ∷ ts) stop v h =
    let m = given_moves p s t g law v h.0 in
    (m.move, given_path p law t.target.values gs ts stop m.state h.1)

pub drawn_path : (p : Process) → IsProcess p → (s : Values) (n : ℕ) (ds : List (ℕ × ℕ)) (ts : List Step) (stop : Stop) → IsTrue (p.is_state s) → IsDrawnWalk p s n ds ts stop → IsPathFrom p s (moves ts)
drawn_path p law s n ds [] stop v h = tt
drawn_path p law s zero ds (t ∷ ts) stop v h = absurd h
drawn_path p law s (suc n) [] (t ∷ ts) stop v h = absurd h
drawn_path p law s (suc n) (d ∷ ds) (t ∷ ts) stop v h =
    let m = drawn_moves p s t d law v h.1 in
    (m.move, drawn_path p law t.target.values n ds ts stop m.state h.2)
