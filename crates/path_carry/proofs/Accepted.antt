-- A carried path is accepted exactly where the path is.
use Rattle.std.proofs.Common.{◌≡◌, ◌⊎◌, ◌↔◌, ℕ, ◌+◌, List, [], ◌∷◌, IsTrue, Option, Some, None, Ok, refl, subst, inl, inr}
use Rattle.process_core.specs.Bounds.{Excess, IsWide, IsTooMany}
use Rattle.process_core.specs.Ready.{Values, Name}
use Rattle.process_core.specs.Paths.{is_step, IsPathFrom}
use Rattle.process_core.specs.Steps.{Process}
use Rattle.process_core.specs.declared.data.State.{State}
use Rattle.row_check.specs.declared.data.ReadPath.{ReadPath}
use Rattle.row_check.specs.declared.data.Verdict.{Verdict}
use Rattle.row_check.specs.declared.data.Verdict.TheVariants.{Yes, No, Wide, TooMany}
use Rattle.row_check.specs.declared.data.Why.{Why}
use Rattle.row_check.specs.Judging.{Judges, excess_verdict}
use Rattle.row_check.specs.Paths.{read_steps, IsPathAlong, IsOwnPath, JudgesStart, JudgesStep, JudgesSteps, JudgesPath}
use Rattle.row_check.specs.Checks.{ChecksPath}
use Rattle.row_check.specs.Forms.{IsPathFile}
use Rattle.row_check.specs.Laws.{PathIsYes, PathReadOnce}
use Rattle.path_carry.specs.Kept.{IsSettled, KeepsPath}

no_excess : (k : ℕ) (e : Option Excess) (why : Why) → Some (No why) ≡ excess_verdict k e → ⊥
no_excess k None why h = cc
no_excess k (Some IsWide) why h = cc
no_excess k (Some IsTooMany) why h = cc

-- nothing fails of a path that is the process's
step_holds : (p : Process) (k : ℕ) (s : Values) (l : Option Name) (t : Values) (why : Why) → IsTrue (is_step (p.choices s) l t) → JudgesStep p k s l t (Some (No why)) → ⊥
step_holds p k s l t why h (inl e) = no_excess k (p.excess s) why e
step_holds p k s l t why h (inr e) = e.1.0 h

steps_hold : (p : Process) (k : ℕ) (s : State) (ss : List State) (ls : List (Option Name)) (why : Why) → IsPathFrom p s.values (read_steps ss ls) → JudgesSteps p k (s ∷ ss) ls (Some (No why)) → ⊥
steps_hold p k s [] ls why h e = cc
steps_hold p k s (t ∷ ss) [] why h e = cc
steps_hold p k s (t ∷ ss) (l ∷ ls) why h (inl e) = step_holds p k s.values l t.values why h.0 e
steps_hold p k s (t ∷ ss) (l ∷ ls) why h (inr e) = steps_hold p (k + 1) t ss ls why h.1 e.1

path_holds : (p : Process) (path : ReadPath) (why : Why) → IsOwnPath p path → JudgesPath p path (Some (No why)) → ⊥
path_holds p path why h e = along path.states path.labels h e
  where
    along : (ss : List State) (ls : List (Option Name)) → IsPathAlong p ss ls → (JudgesStart p ss (Some (No why)) ⊎ ((JudgesStart p ss None) × JudgesSteps p 0 ss ls (Some (No why)))) → ⊥
    along [] ls h k = h
    along (s ∷ ss) ls h (inl (inl k)) = let no : No why ≡ Wide 0 = k.1 in cc
    along (s ∷ ss) ls h (inl (inr k)) = k.1.0 h.0
    along (s ∷ ss) ls h (inr e) = steps_hold p 0 s ss ls why h.1 e.1

settled_yes : (p : Process) (path : ReadPath) (v : Verdict) → Judges (JudgesPath p path) v → IsSettled v → IsOwnPath p path → v ≡ Yes
settled_yes p path Yes h s i = refl
settled_yes p path (No why) h s i = absurd (path_holds p path why i h)
settled_yes p path (Wide k) h s i = absurd s
settled_yes p path (TooMany k) h s i = absurd s

module _ (yes : PathIsYes) (once : PathReadOnce) where
  -- the verdict on a file is that on the path that it is
  its_path : (p : Process) (bytes : List ℕ) (path : ReadPath) (v : Verdict) → IsPathFile p bytes path → ChecksPath p bytes (Ok v) → Judges (JudgesPath p path) v
  its_path p bytes path v h c =
      let e = once p bytes (Ok c.0) (Ok path) c.1 h in
      let same : c.0 ≡ path = cc in
      subst (λ q. Judges (JudgesPath p q) v) same c.2

  accepted_path : (p : Process) (bytes : List ℕ) (path : ReadPath) (v : Verdict) → IsPathFile p bytes path → ChecksPath p bytes (Ok v) → v ≡ Yes → IsOwnPath p path
  accepted_path p bytes path v h c e = ((yes p path v (its_path p bytes path v h c)).0 e).0

  yes_from_path : (p : Process) (bytes : List ℕ) (path : ReadPath) (v : Verdict) → IsPathFile p bytes path → ChecksPath p bytes (Ok v) → IsSettled v → IsOwnPath p path → v ≡ Yes
  yes_from_path p bytes path v h c s i = settled_yes p path v (its_path p bytes path v h c) s i

  pub keeps_path : (here there : Process) (bytes text : List ℕ) (path new : ReadPath) → IsPathFile here bytes path → IsPathFile there text new → IsOwnPath here path ↔ IsOwnPath there new → KeepsPath here there bytes text
  keeps_path here there bytes text path new h k e = record {
    path = new;
    reads = k;
    accepted = λ v w c d s t. (
      λ y. yes_from_path there text new w k d t (e.0 (accepted_path here bytes path v h c y)),
      λ y. yes_from_path here bytes path v h c s (e.1 (accepted_path there text new w k d y)),
    );
  }

  pub not_accepted : (p : Process) (bytes : List ℕ) (path : ReadPath) → IsPathFile p bytes path → (IsOwnPath p path → ⊥) → (v : Verdict) → ChecksPath p bytes (Ok v) → v ≡ Yes → ⊥
  not_accepted p bytes path h n v c e = n (accepted_path p bytes path v h c e)
