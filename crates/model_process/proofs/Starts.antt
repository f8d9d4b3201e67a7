-- How a model that was to be started ends, from what starting it answers.
use Rattle.std.proofs.Common.{arith, ◌≡◌, ◌∙◌, sym, ap, subst, ℕ, ◌+◌, ◌-◌, ◌<◌, ◌≤◌, List, [], length, Some, None}
use Rattle.std.specs.Prelude.{◌≢◌, ◌^◌, Result, Ok, Err, IfOk, true, false}
use Rattle.process_core.specs.Instance.{is_wide_instance, instance_faults}
use Rattle.process_core.specs.Steps.{Process}
use Rattle.process_core.specs.declared.data.InstanceFault.{InstanceFault}
use Rattle.instance_start.specs.Description.{Description}
use Rattle.instance_start.specs.Given.{given_by, misfit}
use Rattle.instance_start.specs.Started.{IsStarted, named_faults}
use Rattle.walk_texts.specs.Lines.{fault_lines}
use Rattle.command_words.specs.Given.{Assignment}
use Rattle.model_process.specs.Constants.{givens, good_front, wrong_value}
use Rattle.model_process.specs.Starts.{EndsUnstarted, IsBehind, IsStartable, process_for, wide_instance_line, unfit, wide, faulty}
use Rattle.model_process.specs.declared.ending.Ending.{Ending}
use Rattle.model_process.specs.declared.ending.Ending.TheVariants.{Word, Faulty, Excess}
use Rattle.model_process.proofs.Constants.{all_fit, length-front, misfit_within, wrong_by_front, wrong_by_past}

module _ (d : Description) (before : ℕ) (given : List Assignment) where
  -- the word of a value that is wrong
  at_word : (next all i : ℕ) → next < 2 ^ 64 → IsBehind before given next → all ≡ length given → i ≤ all → (e : Ending) → ((next - all) + i < 2 ^ 64 → e ≡ Word ((next - all) + i)) →
      wrong_value d.constants given ≡ Some i → EndsUnstarted d before given e
  at_word next all i bound c a le e made wrong =
      let first : next - all ≡ before + 1 = omega (arith, c, a) in
      let fits : (next - all) + i < 2 ^ 64 = omega (arith, c, bound, a, le) in
      unfit i wrong (made fits ∙ ap (λ n. Word (n + i)) first)

  -- a value before the first that is past the bound doesn't fit
  pub misfits : (next all i : ℕ) → next < 2 ^ 64 → IsBehind before given next → all ≡ length given → (e : Ending) →
      ((next - all) + i < 2 ^ 64 → e ≡ Word ((next - all) + i)) → misfit d.constants (good_front given) ≡ Some i → EndsUnstarted d before given e
  misfits next all i bound c a e made h =
      let le : length (good_front given) ≤ all = let k = length-front given in omega (arith, k, a) in
      let k = misfit_within d.constants (good_front given) i h in
      at_word next all i bound c a (omega (arith, k, le)) e made (wrong_by_front d.constants given i h)

  -- all before it fit
  pub past : (next all front : ℕ) → next < 2 ^ 64 → IsBehind before given next → all ≡ length given → front ≡ length (good_front given) → front < all → (e : Ending) →
      ((next - all) + front < 2 ^ 64 → e ≡ Word ((next - all) + front)) → misfit d.constants (good_front given) ≡ None → EndsUnstarted d before given e
  past next all front bound c a f lt e made h =
      at_word next all front bound c a (omega (arith, lt)) e made
      (subst (λ n. wrong_value d.constants given ≡ Some n) (sym f) (wrong_by_past d.constants given h (omega (arith, a, f, lt))))

  -- none is past the bound
  module _ (all front : ℕ) (a : all ≡ length given) (f : front ≡ length (good_front given)) (ge : front < all → ⊥) where
    fitting : misfit d.constants (good_front given) ≡ None → (wrong_value d.constants given ≡ None) × (good_front given ≡ givens given)
    fitting h = all_fit d.constants given h (λ lt. ge (omega (arith, a, f, lt)))

    pub is_wide : (e : Ending) → e ≡ Excess [] wide_instance_line → (misfit d.constants (good_front given) ≡ None) × (is_wide_instance (d.scene (given_by (good_front given))) ≡ true) → EndsUnstarted d before given e
    is_wide e made h =
        let g = fitting h.0 in
        wide g.0 (subst (λ gs. is_wide_instance (d.scene (given_by gs)) ≡ true) g.1 h.1) made

    pub is_faulty : (fs : List InstanceFault) (e : Ending) → e ≡ Faulty (fault_lines fs) →
        (misfit d.constants (good_front given) ≡ None) × ((is_wide_instance (d.scene (given_by (good_front given))) ≡ false)
        × (instance_faults (d.scene (given_by (good_front given))) ≢ []) × (fs ≡ named_faults d.constants (d.scene (given_by (good_front given))))) → EndsUnstarted d before given e
    is_faulty fs e made h =
        let g = fitting h.0 in
        faulty g.0 (subst (λ gs. is_wide_instance (d.scene (given_by gs)) ≡ false) g.1 h.1.0)
        (subst (λ gs. instance_faults (d.scene (given_by gs)) ≢ []) g.1 h.1.1)
        (made ∙ ap (λ l. Faulty (fault_lines l)) (h.1.2 ∙ ap (λ gs. named_faults d.constants (d.scene (given_by gs))) g.1))

    pub is_started : (p : Process) → IsStarted d (good_front given) p → IsStartable d given × (p ≡ process_for d given)
    is_started p h =
        let g = fitting h.fits in (
          record {
            fits = g.0;
            narrow = subst (λ gs. is_wide_instance (d.scene (given_by gs)) ≡ false) g.1 h.narrow;
            faultless = subst (λ gs. instance_faults (d.scene (given_by gs)) ≡ []) g.1 h.sound;
          },
          h.process ∙ ap (λ gs. d.process (given_by gs)) g.1,
        )

    pub if_wide : {E : Type 0} (r : Result Ending E) → IfOk r (λ e. e ≡ Excess [] wide_instance_line) → (misfit d.constants (good_front given) ≡ None) × (is_wide_instance (d.scene (given_by (good_front given))) ≡ true) →
        IfOk r (EndsUnstarted d before given)
    if_wide (Ok e) made h = is_wide e made h
    if_wide (Err x) made h = tt
