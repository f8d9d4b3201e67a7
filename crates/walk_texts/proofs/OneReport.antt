-- By the process and the words a job ends in one way.
use Rattle.std.proofs.Common.{◌≡◌, ℕ, Bool, true, false, List, length, Option, Some, None, refl, sym, ap, ap₂, subst, ◌∙◌}
use Rattle.process_core.specs.Ready.{Values}
use Rattle.process_core.specs.Steps.{Process}
use Rattle.process_texts.specs.Laws.{OneStateText}
use Rattle.step_sim.specs.Laws.{OneGivenWalk, OneDrawnWalk}
use Rattle.step_sim.specs.Words.{pcg64_words}
use Rattle.step_sim.specs.declared.walk.Step.{Step}
use Rattle.step_sim.specs.declared.walk.Stop.{Stop}
use Rattle.step_sim.specs.declared.walk.Walk.{Walk}
use Rattle.walk_texts.specs.Jobs.{IsStateOf, IsShown, IsNoStart, no_state, not_initial, IsStart, ended, report_of, ReportsWalk, IsWalked, IsWalkAlong, IsWalkBySeed, show_excess}
use Rattle.walk_texts.specs.Lines.{show_text, path_text}
use Rattle.walk_texts.specs.Stops.{excess_line, stop_line}
use Rattle.walk_texts.specs.declared.report.Report.{Report}
use Rattle.walk_texts.specs.declared.report.Report.TheVariants as R
use Rattle.walk_texts.specs.declared.start.Start.{Start}
use Rattle.walk_texts.specs.declared.start.Start.TheVariants as S

none_apart : {A : Type 0} (o : Option A) (x : A) → o ≡ None → o ≡ Some x → ⊥
none_apart {A = A} o x h k = let e : ◌≡◌ {A = Option A} None (Some x) = sym h ∙ k in cc

same_some : {A : Type 0} (o : Option A) (x y : A) → o ≡ Some x → o ≡ Some y → x ≡ y
same_some {A = A} o x y h k = let e : ◌≡◌ {A = Option A} (Some x) (Some y) = sym h ∙ k in cc

test_apart : (b : Bool) → b ≡ true → b ≡ false → ⊥
test_apart b h k = let e : true ≡ false = sym h ∙ k in cc

module _ (one : OneStateText) (p : Process) (w : List ℕ) where
  same_state : (s t : Values) → IsStateOf p w s → IsStateOf p w t → s ≡ t
  same_state s t h k = one w s t h.spelled k.spelled

  -- ---- show
  pub one_shown : (q r : Report) → IsShown p w q → IsShown p w r → q ≡ r
  one_shown (R.Done t) (R.Done u) h k = ap R.Done (h.3 ∙ ap (show_text p) (same_state h.0 k.0 h.1 k.1) ∙ sym k.3)
  one_shown (R.Done t) (R.Stopped b m) h k = absurd k
  one_shown (R.Done t) R.NoStart h k = absurd (k h.0 h.1)
  one_shown (R.Done t) (R.Excess b m) h k = absurd (none_apart _ k.1 (ap (show_excess p) (same_state k.0 h.0 k.2 h.1) ∙ h.2) k.3)
  one_shown (R.Stopped a l) r h k = absurd h
  one_shown R.NoStart (R.Done u) h k = absurd (h k.0 k.1)
  one_shown R.NoStart (R.Stopped b m) h k = absurd k
  one_shown R.NoStart R.NoStart h k = refl
  one_shown R.NoStart (R.Excess b m) h k = absurd (h k.0 k.2)
  one_shown (R.Excess a l) (R.Done u) h k = absurd (none_apart _ h.1 (ap (show_excess p) (same_state h.0 k.0 h.2 k.1) ∙ k.2) h.3)
  one_shown (R.Excess a l) (R.Stopped b m) h k = absurd k
  one_shown (R.Excess a l) R.NoStart h k = absurd (k h.0 h.2)
  one_shown (R.Excess a l) (R.Excess b m) h k =
      let e : h.1 ≡ k.1 = same_some (show_excess p h.0) h.1 k.1 h.3 (ap (show_excess p) (same_state h.0 k.0 h.2 k.2) ∙ k.3) in
      ap₂ R.Excess (h.4 ∙ sym k.4) (h.5 ∙ ap (excess_line 0) e ∙ sym k.5)

  -- ---- where a walk starts
  no_start_apart : (s : Values) → IsStateOf p w s → p.has_wide_initial s ≡ false → p.is_initial s ≡ true → IsNoStart p w → ⊥
  no_start_apart s is narrow initial (no_state h) = h s is
  no_start_apart s is narrow initial (not_initial t at n i) = test_apart _ initial (ap p.is_initial (same_state s t is at) ∙ i)

  wide_apart : (s : Values) → IsStateOf p w s → p.has_wide_initial s ≡ true → IsNoStart p w → ⊥
  wide_apart s is wide (no_state h) = h s is
  wide_apart s is wide (not_initial t at n i) = test_apart _ wide (ap p.has_wide_initial (same_state s t is at) ∙ n)

  one_named : (a b : Start) → IsStart p (Some w) a → IsStart p (Some w) b → a ≡ b
  one_named (S.At s) (S.At t) h k = ap (λ (v : Values). S.At (record { values = v })) (same_state s.values t.values h.0 k.0)
  one_named (S.At s) S.Nowhere h k = absurd (no_start_apart s.values h.0 h.1 h.2 k)
  one_named (S.At s) S.Wide h k = absurd (test_apart _ k.2 (ap p.has_wide_initial (same_state k.0 s.values k.1 h.0) ∙ h.1))
  one_named S.Nowhere (S.At t) h k = absurd (no_start_apart t.values k.0 k.1 k.2 h)
  one_named S.Nowhere S.Nowhere h k = refl
  one_named S.Nowhere S.Wide h k = absurd (wide_apart k.0 k.1 k.2 h)
  one_named S.Wide (S.At t) h k = absurd (test_apart _ h.2 (ap p.has_wide_initial (same_state h.0 t.values h.1 k.0) ∙ k.1))
  one_named S.Wide S.Nowhere h k = absurd (wide_apart h.0 h.1 h.2 k)
  one_named S.Wide S.Wide h k = refl

one_first : (p : Process) (a b : Start) → IsStart p None a → IsStart p None b → a ≡ b
one_first p (S.At s) (S.At t) h k = ap (λ (v : Values). S.At (record { values = v })) (same_some p.first s.values t.values h k)
one_first p (S.At s) S.Nowhere h k = absurd (none_apart p.first s.values k h)
one_first p (S.At s) S.Wide h k = absurd k
one_first p S.Nowhere (S.At t) h k = absurd (none_apart p.first t.values h k)
one_first p S.Nowhere S.Nowhere h k = refl
one_first p S.Nowhere S.Wide h k = absurd k
one_first p S.Wide b h k = absurd h

one_start : OneStateText → (p : Process) (from : Option (List ℕ)) (a b : Start) → IsStart p from a → IsStart p from b → a ≡ b
one_start one p None a b h k = one_first p a b h k
one_start one p (Some w) a b h k = one_named one p w a b h k

-- ---- walks
-- of each start there is one report at most, where all its walks are reported alike
one_reported : (p : Process) (Is : Values → Walk → Type 0) → ((s : Values) (v w : Walk) → Is s v → Is s w → report_of p v ≡ report_of p w) →
    (start : Start) (q r : Report) → ReportsWalk p Is start q → ReportsWalk p Is start r → q ≡ r
one_reported p Is alike (S.At s) q r h k = h.2 ∙ alike s.values h.0 k.0 h.1 k.1 ∙ sym k.2
one_reported p Is alike S.Nowhere q r h k = h ∙ sym k
one_reported p Is alike S.Wide q r h k = h ∙ sym k

one_walked : OneStateText → (p : Process) (Is : Values → Walk → Type 0) → ((s : Values) (v w : Walk) → Is s v → Is s w → report_of p v ≡ report_of p w) →
    (from : Option (List ℕ)) (q r : Report) → IsWalked p Is from q → IsWalked p Is from r → q ≡ r
one_walked one p Is alike from q r h k =
    one_reported p Is alike h.start q r h.reports
    (subst (λ (x : Start). ReportsWalk p Is x r) (one_start one p from k.start h.start k.starts h.starts) k.reports)

alike : (p : Process) (s t : Values) (ts us : List Step) (stop end : Stop) → s ≡ t → ts ≡ us → stop ≡ end →
    ended (path_text p s ts) (stop_line (length ts) stop) stop ≡ ended (path_text p t us) (stop_line (length us) end) end
alike p s t ts us stop end e f g =
    ap (λ (x : Values). ended (path_text p x ts) (stop_line (length ts) stop) stop) e
    ∙ ap₂ (λ (l : List Step) (z : Stop). ended (path_text p t l) (stop_line (length l) z) z) f g

pub one_walked_along : OneStateText → OneGivenWalk → (p : Process) (from : Option (List ℕ)) (pairs : List (ℕ × ℕ)) (q r : Report) → IsWalked p (IsWalkAlong p pairs) from q → IsWalked p (IsWalkAlong p pairs) from r → q ≡ r
one_walked_along one walks p from pairs =
    one_walked one p (IsWalkAlong p pairs)
    (λ s v w h k.
    let e = walks p s pairs v.steps w.steps v.stop w.stop h.walk k.walk in
    alike p v.first.values w.first.values v.steps w.steps v.stop w.stop (h.starts ∙ sym k.starts) e.0 e.1)
    from

pub one_walked_by_seed : OneStateText → OneDrawnWalk → (p : Process) (from : Option (List ℕ)) (seed steps : ℕ) (q r : Report) → IsWalked p (IsWalkBySeed p seed steps) from q → IsWalked p (IsWalkBySeed p seed steps) from r → q ≡ r
one_walked_by_seed one walks p from seed steps =
    one_walked one p (IsWalkBySeed p seed steps)
    (λ s v w h k.
    let e = walks p s steps (pcg64_words seed) h.walk.walk.begun k.walk.walk.begun v.steps w.steps v.stop w.stop h.walk.walk.walk k.walk.walk.walk in
    alike p v.first.values w.first.values v.steps w.steps v.stop w.stop (h.walk.walk.starts ∙ sym k.walk.walk.starts) e.1 e.2)
    from
