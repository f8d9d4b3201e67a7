use Rattle.std.proofs.Common.{◌≡◌, List, ℕ, sym, ◌∙◌, subst}
use Rattle.prism_lex.specs.declared.automaton.State.{State}
use Rattle.prism_lex.proofs.Longest.{Scanned, scanned_end, scanned_on}
use Rattle.prism_lex.proofs.automaton.scan.Goals.{then-accepts, else-accepts}
use Rattle.prism_lex.proofs.automaton.scan.Goals as goal

same : {bs : List ℕ} {i : ℕ} {s : State} {n : ℕ} {t : State} (m : ℕ) (u : State) → m ≡ n → u ≡ t → Scanned bs i s n t → Scanned bs i s m u
same {bs} {i} {s} {n} {t} m u e f p = let F : ℕ → Type 0 = λ k. Scanned bs i s k u in let G : State → Type 0 = λ v. Scanned bs i s n v in subst F (sym e) (subst G (sym f) p)

pub loop-i-preserved : goal.loop-i-preserved
loop-i-preserved c =
    elim c.if-accepts.branch [
      | then-accepts w ↦ same _ _ w.len-is w.last-is (scanned_end _ _ _ _ _ _ _ c.loop-i.invariant c.loop-i-test.true c.step-state.ensures (sym c.accepts.ensures ∙ w.if-accepts.true))
      | else-accepts w ↦ same _ _ w.len-is w.last-is (scanned_on _ _ _ _ _ _ _ c.loop-i.invariant c.loop-i-test.true c.step-state.ensures (sym c.accepts.ensures ∙ w.if-accepts.false))
    ]
