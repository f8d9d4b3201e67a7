-- What is found of bounds is fixed by the files and the label's name.
use Rattle.std.specs.Prelude.{◌≡◌, ◌≢◌, ℕ, zero, suc, ◌<◌, List, [], ◌∷◌, Option, Some, None, Result, Ok, Err}
use Rattle.std.proofs.Common.{refl, sym, ap, subst, ◌∙◌, arith}
use Rattle.std.proofs.lemmas.Option.{same_Some}
use Rattle.std.specs.declared.alloc.AllocError.{AllocError}
use Rattle.basics.specs.Results.{err_same, not_ok, ok_same}
use Rattle.bridge_io.specs.declared.reason.Fault.{Fault}
use Rattle.process_core.specs.Steps.{Process}
use Rattle.command_words.specs.Words.{of_bounds}
use Rattle.value_bound.specs.Checks.{ChecksBound}
use Rattle.value_bound.specs.Labels.{label_named}
use Rattle.value_bound.specs.Laws.{OneAnswer}
use Rattle.value_bound.specs.declared.data.BoundVerdict.{BoundVerdict}
use Rattle.value_bound.specs.declared.data.BoundRefused.{BoundRefused}
use Rattle.value_bound.specs.declared.data.BoundRefused.TheVariants as B
use Rattle.model_process.specs.Claims.{HasVerdict, BreaksForm}
use Rattle.model_process.specs.declared.finding.Finding.{Finding}
use Rattle.model_process.specs.declared.finding.Finding.TheVariants.{Judged, Bounds, NoLabel}

-- ---- the file of each place that is refused
abbrev break_at : ℕ → Fault → BoundRefused
break_at zero f = B.States f
break_at (suc zero) f = B.Rows f
break_at (suc (suc i)) f = B.Bounds f

not_memory : (i : ℕ) (f : Fault) (e : AllocError) → ◌≢◌ {A = Result BoundVerdict BoundRefused} (Err (break_at i f)) (Err (B.Memory e))
not_memory zero f e = λ h. cc
not_memory (suc zero) f e = λ h. cc
not_memory (suc (suc i)) f e = λ h. cc

same_place : (i j : ℕ) (f g : Fault) → i < 3 → j < 3 → break_at i f ≡ break_at j g → (i ≡ j) × (f ≡ g)
same_place zero zero f g l m e = (refl, cc)
same_place zero (suc zero) f g l m e = absurd cc
same_place zero (suc (suc j)) f g l m e = absurd cc
same_place (suc zero) zero f g l m e = absurd cc
same_place (suc zero) (suc zero) f g l m e = (refl, cc)
same_place (suc zero) (suc (suc j)) f g l m e = absurd cc
same_place (suc (suc i)) zero f g l m e = absurd cc
same_place (suc (suc i)) (suc zero) f g l m e = absurd cc
same_place (suc (suc i)) (suc (suc j)) f g l m e = (omega (arith, l, m), cc)

module _ (one : OneAnswer) (p : Process) (states rows name bounds first second third : List ℕ) where
  abbrev Found : Finding → Type 0
  Found = HasVerdict p (of_bounds states rows name bounds) (first ∷ second ∷ third ∷ [])

  abbrev Breaks : ℕ → Fault → Type 0
  Breaks = BreaksForm p (of_bounds states rows name bounds) (first ∷ second ∷ third ∷ [])

  -- one label has this name, and of it there is one answer
  one_result : (a b : Result BoundVerdict BoundRefused) → ((e : AllocError) → a ≢ Err (B.Memory e)) → ((e : AllocError) → b ≢ Err (B.Memory e)) → (l m : ℕ) →
      label_named p name ≡ Some l → label_named p name ≡ Some m → ChecksBound p first second l third a → ChecksBound p first second m third b → a ≡ b
  one_result a b x y l m n o h k = one p first second l third a b x y h (subst (λ z. ChecksBound p first second z third b) (sym (same_Some l m (sym n ∙ o))) k)

  no_label : (l : ℕ) → label_named p name ≡ Some l → label_named p name ≡ None → ⊥
  no_label l n o = let e : ◌≡◌ {A = Option ℕ} (Some l) None = sym n ∙ o in cc

  parts : (i : ℕ) (f : Fault) → Breaks i f → (label : ℕ) × (label_named p name ≡ Some label) × ChecksBound p first second label third (Err (break_at i f)) × (i < 3)
  parts zero f (label, named, h) = (label, named, h, omega arith)
  parts (suc zero) f (label, named, h) = (label, named, h, omega arith)
  parts (suc (suc zero)) f (label, named, h) = (label, named, h, omega arith)
  parts (suc (suc (suc i))) f h = absurd h

  pub one_finding : (v w : Finding) → Found v → Found w → v ≡ w
  one_finding (Judged v) w h k = absurd h
  one_finding (Bounds v) (Judged w) h k = absurd k
  one_finding (Bounds v) (Bounds w) (l, n, h, c) (m, o, k, d) = ap Bounds (ok_same v w (one_result (Ok v) (Ok w) (λ e z. cc) (λ e z. cc) l m n o h k))
  one_finding (Bounds v) NoLabel (l, n, h, c) k = absurd (no_label l n k)
  one_finding NoLabel (Judged w) h k = absurd k
  one_finding NoLabel (Bounds w) h (m, o, k, d) = absurd (no_label m o h)
  one_finding NoLabel NoLabel h k = refl

  pub one_place : (i j : ℕ) (f g : Fault) → Breaks i f → Breaks j g → (i ≡ j) × (f ≡ g)
  one_place i j f g h k =
      let a = parts i f h in
      let b = parts j g k in
      same_place i j f g a.3 b.3
      (err_same (break_at i f) (break_at j g) (one_result (Err (break_at i f)) (Err (break_at j g)) (not_memory i f) (not_memory j g) a.0 b.0 a.1 b.1 a.2 b.2))

  pub finding_or_break : (v : Finding) (i : ℕ) (f : Fault) → Found v → Breaks i f → ⊥
  finding_or_break (Judged v) i f h k = h
  finding_or_break (Bounds v) i f (l, n, h, c) k =
      let b = parts i f k in
      not_ok v (break_at i f) (one_result (Ok v) (Err (break_at i f)) (λ e z. cc) (not_memory i f) l b.0 n b.1 h b.2)
  finding_or_break NoLabel i f h k = let b = parts i f k in no_label b.0 b.1 h
