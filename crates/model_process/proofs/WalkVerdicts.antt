-- A path file that is the text of a walk is judged yes.
use Rattle.std.proofs.Common.{◌≡◌, ℕ, zero, suc, false, List, [], ◌∷◌, map, All, Option, Some, None, Result, Ok, refl, sym, ap, subst}
use Rattle.std.specs.List.{AllByRecursion as Each}
use Rattle.std.proofs.lemmas.List.Elements.{All-cons, All-nil}
use Rattle.basics.specs.Options.{IfAny}
use Rattle.process_core.specs.Bounds.{Excess, IsWide, IsTooMany}
use Rattle.process_core.specs.Process.{Choice}
use Rattle.frac_core.specs.Fraction.{Fraction}
use Rattle.process_core.specs.Ready.{Values, Name}
use Rattle.process_core.specs.Steps.{Process}
use Rattle.process_core.specs.Paths.{IsPath, IsPathFrom}
use Rattle.process_core.specs.declared.data.State.{State}
use Rattle.process_texts.specs.Laws.{StateReadsBack}
use Rattle.step_sim.specs.Paths.{moves}
use Rattle.step_sim.specs.Words.{pairs, pcg64_words}
use Rattle.step_sim.specs.Walks.{within, IsGivenWalk, barred, IsDrawnWalk}
use Rattle.step_sim.specs.declared.walk.Step.{Step}
use Rattle.step_sim.specs.declared.walk.Stop.{Stop}
use Rattle.step_sim.specs.declared.walk.Stop.TheVariants as S
use Rattle.step_sim.specs.declared.walk.Walk.{Walk}
use Rattle.row_check.specs.declared.data.Verdict.TheVariants.{Yes}
use Rattle.row_check.specs.Paths.{read_steps, StepsNarrow}
use Rattle.row_check.specs.Checks.{ChecksPath}
use Rattle.row_check.specs.Laws.{PathYes}
use Rattle.walk_texts.specs.Jobs.{IsStart, IsNarrowWalk, IsWalkAlong, IsWalkBySeed, ReportsWalk, IsWalked, ended}
use Rattle.walk_texts.specs.Lines.{path_text}
use Rattle.walk_texts.specs.declared.report.Report.TheVariants as R
use Rattle.walk_texts.specs.declared.start.Start.{Start}
use Rattle.walk_texts.specs.declared.start.Start.TheVariants as B
use Rattle.model_process.specs.ReadBack.{IsReadable, IsReadableStep, SpellsLabel, path_along}
use Rattle.model_process.proofs.PathTexts.{walk_reads}
use Rattle.model_process.proofs.ReadNames.{IsReadName, name_back}
use Rattle.model_process.proofs.ReadableProcess.{IsReadableProcess, IsReadMove, path_reads}

-- ---- nothing passes a bound where a step is taken
within_narrow : (e : Option Excess) (r : Result Step Stop) (t : Step) → within e r ≡ Ok t → e ≡ None
within_narrow None r t h = refl
within_narrow (Some IsWide) r t h = absurd cc
within_narrow (Some IsTooMany) r t h = absurd cc

barred_narrow : (e : Option Excess) (cs : List (Choice Name Fraction Values)) → barred e cs ≡ None → e ≡ None
barred_narrow None cs h = refl
barred_narrow (Some IsWide) cs h = absurd cc
barred_narrow (Some IsTooMany) cs h = absurd cc

given_narrow : (p : Process) (s : State) (gs : List (ℕ × ℕ)) (ts : List Step) (stop : Stop) → IsGivenWalk p s.values gs ts stop → StepsNarrow p (s ∷ map (λ t. t.target) ts) (map (λ t. t.label) ts)
given_narrow p s gs [] stop h = tt
given_narrow p s [] (t ∷ ts) stop h = absurd h
given_narrow p s (g ∷ gs) (t ∷ ts) stop h = (within_narrow (p.excess s.values) _ t h.0, given_narrow p t.target gs ts stop h.1)

drawn_narrow : (p : Process) (s : State) (n : ℕ) (ds : List (ℕ × ℕ)) (ts : List Step) (stop : Stop) → IsDrawnWalk p s.values n ds ts stop → StepsNarrow p (s ∷ map (λ t. t.target) ts) (map (λ t. t.label) ts)
drawn_narrow p s n ds [] stop h = tt
drawn_narrow p s zero ds (t ∷ ts) stop h = absurd h
drawn_narrow p s (suc n) [] (t ∷ ts) stop h = absurd h
drawn_narrow p s (suc n) (d ∷ ds) (t ∷ ts) stop h = (barred_narrow (p.excess s.values) (p.choices s.values) h.0, drawn_narrow p t.target n ds ts stop h.2)

-- ---- what is known of a walk from a state
pub record Takes (p : Process) (s : Values) (w : Walk) : Type 0 where
  pub starts : w.first.values ≡ s
  pub path : IsPath p s (moves w.steps)
  pub narrow : StepsNarrow p (w.first ∷ map (λ t. t.target) w.steps) (map (λ t. t.label) w.steps)

pub along_takes : (p : Process) (pairs : List (ℕ × ℕ)) (s : Values) (w : Walk) → IsWalkAlong p pairs s w → Takes p s w
along_takes p pairs s w h = record {
  starts = h.starts;
  path = h.path;
  narrow = given_narrow p w.first pairs w.steps w.stop (subst (λ v. IsGivenWalk p v pairs w.steps w.stop) (sym h.starts) h.walk);
}

pub seeded_takes : (p : Process) (seed steps : ℕ) (s : Values) (w : Walk) → IsWalkBySeed p seed steps s w → Takes p s w
seeded_takes p seed steps s w h = record {
  starts = h.walk.walk.starts;
  path = h.path;
  narrow =
      drawn_narrow p w.first steps (pairs h.walk.walk.begun (pcg64_words seed)) w.steps w.stop
      (subst (λ v. IsDrawnWalk p v steps (pairs h.walk.walk.begun (pcg64_words seed)) w.steps w.stop) (sym h.walk.walk.starts) h.walk.walk.walk);
}

moves_along : (ts : List Step) → read_steps (map (λ t. t.target) ts) (map (λ t. t.label) ts) ≡ moves ts
moves_along [] = refl
moves_along (t ∷ ts) = ap (λ r. (t.label, t.target.values) ∷ r) (moves_along ts)

-- ---- it is read back
label_spelled : (l : Option Name) → IfAny IsReadName l → SpellsLabel l
label_spelled None h = tt
label_spelled (Some x) h = name_back x h

steps_readable : (ts : List Step) → Each IsReadMove (moves ts) → All IsReadableStep ts
steps_readable [] h = All-nil IsReadableStep
steps_readable (t ∷ ts) h = All-cons IsReadableStep t ts (record { whole = h.0.1; label = label_spelled t.label h.0.0 }) (steps_readable ts h.1)

module _ (back : StateReadsBack) (right : PathYes) (p : Process) (r : IsReadableProcess p) where
  walk_readable : (w : Walk) → IsPath p w.first.values (moves w.steps) → IsReadable p w
  walk_readable w h = let k = path_reads p r w.first.values (moves w.steps) h in record { header = r.header; first = k.0; steps = steps_readable w.steps k.1 }

  walk_checks : (s : Values) (w : Walk) → p.has_wide_initial s ≡ false → Takes p s w → IsNarrowWalk w → ChecksPath p (path_text p w.first.values w.steps) (Ok Yes)
  walk_checks s w start h narrow =
      let path = subst (λ x. IsPath p x (moves w.steps)) (sym h.starts) h.path in (
        path_along w,
        walk_reads back p w narrow (walk_readable w path),
        (right p (path_along w)).1 (
          (path.0, subst (IsPathFrom p w.first.values) (sym (moves_along w.steps)) path.1),
          record { start = subst (λ x. p.has_wide_initial x ≡ false) (sym h.starts) start; steps = h.narrow },
        ),
      )

  -- ---- what is written where it comes to its end
  done_text : (path line text : List ℕ) (stop : Stop) → R.Done text ≡ ended path line stop → path ≡ text
  done_text path line text S.Done h = cc
  done_text path line text S.Deadlock h = cc
  done_text path line text (S.NoChoice i) h = absurd cc
  done_text path line text (S.NoBranch j) h = absurd cc
  done_text path line text (S.Faulty bad) h = absurd cc
  done_text path line text S.Wide h = absurd cc
  done_text path line text S.TooMany h = absurd cc

  module _ (first : (f : Values) → p.first ≡ Some f → p.has_wide_initial f ≡ false) where
    narrow_start : (from : Option (List ℕ)) (s : State) → IsStart p from (B.At s) → p.has_wide_initial s.values ≡ false
    narrow_start None s h = first s.values h
    narrow_start (Some word) s h = h.1

    reported_checks : (Is : Values → Walk → Type 0) → ((s : Values) (w : Walk) → Is s w → Takes p s w) → (from : Option (List ℕ)) (start : Start) (text : List ℕ) → IsStart p from start → ReportsWalk p Is start (R.Done text) →
        ChecksPath p text (Ok Yes)
    reported_checks Is takes from (B.At s) text h t =
        let w = t.0 in
        subst (λ x. ChecksPath p x (Ok Yes)) (done_text _ _ text w.stop t.2) (walk_checks s.values w (narrow_start from s h) (takes s.values w t.1) t.3)
    reported_checks Is takes from B.Nowhere text h t = absurd cc
    reported_checks Is takes from B.Wide text h t = absurd cc

    pub walked_checks : (Is : Values → Walk → Type 0) → ((s : Values) (w : Walk) → Is s w → Takes p s w) → (from : Option (List ℕ)) (text : List ℕ) → IsWalked p Is from (R.Done text) →
        ChecksPath p text (Ok Yes)
    walked_checks Is takes from text h = reported_checks Is takes from h.start text h.starts h.reports
