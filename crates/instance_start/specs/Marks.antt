-- Marks of a process, first those of labels and then those of reward structures, go by the number of labels. (This project's
-- own rule.)
use Rattle.std.specs.Prelude.{◌≡◌, ◌↔◌, ℕ, zero, suc, ◌<◌, ◌≤◌, List, [], ◌∷◌, ◌++◌, map, length, true, false, Some, IsTrue, slice_get, unwrap_or}
use Rattle.std.proofs.Common.{refl, sym, ap, ◌∙◌, arith}
use Rattle.process_core.specs.declared.data.Mark.{Mark}
use Rattle.process_core.specs.Steps.{is_truth}

module _ {A B K L X Y : Type 0} (f : K → X) (p : A → K) (g : L → X) (q : B → L) (n : A → Y) (m : B → Y) where
  pub marks_length : (ls : List A) (bs : List B) → length (map f (map p ls) ++ map g (map q bs)) ≡ length (map n ls ++ map m bs)
  marks_length [] [] = refl
  marks_length [] (b ∷ bs) = ap suc (marks_length [] bs)
  marks_length (a ∷ ls) bs = ap suc (marks_length ls bs)

pub first_names : {A B Y : Type 0} (n : A → Y) (m : B → Y) (ls : List A) (bs : List B) → length ls ≤ length (map n ls ++ map m bs)
first_names n m [] bs = omega arith
first_names n m (a ∷ ls) bs = let h = first_names n m ls bs in omega (arith, h)

module _ {A B K L : Type 0} (f : K → Mark) (p : A → K) (g : L → Mark) (q : B → L) (truths : (k : K) → is_truth (f k) ≡ true) (numbers : (l : L) → is_truth (g l) ≡ false) where
  pub reward_kind : (bs : List B) (i : ℕ) (m : Mark) → slice_get (map g (map q bs)) i ≡ Some m → is_truth m ≡ false
  reward_kind [] i m e = absurd cc
  reward_kind (b ∷ bs) zero m e = ap is_truth (sym (ap (λ o. unwrap_or o m) e)) ∙ numbers (q b)
  reward_kind (b ∷ bs) (suc i) m e = reward_kind bs i m e

  pub mark_kinds : (ls : List A) (bs : List B) (i : ℕ) (m : Mark) → slice_get (map f (map p ls) ++ map g (map q bs)) i ≡ Some m → IsTrue (is_truth m) ↔ (i < length ls)
  mark_kinds [] bs i m e = (λ t. let k = reward_kind bs i m e in absurd cc, λ l. absurd (omega (arith, l)))
  mark_kinds (a ∷ ls) bs zero m e = (λ t. omega arith, λ l. ap is_truth (sym (ap (λ o. unwrap_or o m) e)) ∙ truths (p a))
  mark_kinds (a ∷ ls) bs (suc i) m e =
      let ih = mark_kinds ls bs i m e in (λ t. let h = ih.0 t in omega (arith, h), λ l. ih.1 (let h : i < length ls = omega (arith, l) in h))
