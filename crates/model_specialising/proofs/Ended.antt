-- How it ends, from what specialising answers.
use Rattle.std.proofs.Common.{arith, ◌≡◌, ◌∙◌, sym, ap, refl, subst, ℕ, ◌+◌, ◌-◌, ◌<◌, ◌≤◌, List, length, Some, None, inl, inr}
use Rattle.std.specs.Prelude.{◌^◌, Result, Ok, Err, IfOk}
use Rattle.std.specs.declared.alloc.AllocError.{AllocError}
use Rattle.instance_start.specs.Description.{Constant}
use Rattle.constant_folding.specs.Unfit.{unfit}
use Rattle.prism_tree.specs.Syntax.{File}
use Rattle.prism_names.specs.Flat.{flat}
use Rattle.prism_print.specs.Same.{bare_file}
use Rattle.prism_instance.specs.Described.{prism_description}
use Rattle.command_words.specs.Given.{Assignment}
use Rattle.model_process.specs.Constants.{givens, good_front, unfit_value}
use Rattle.model_process.specs.Starts.{IsBehind}
use Rattle.model_process.specs.declared.ending.Ending.{Ending}
use Rattle.model_process.specs.declared.ending.Ending.TheVariants.{Done, Word}
use Rattle.model_process.proofs.Constants.{length-front}
use Rattle.model_specialising.specs.Ends as ends
use Rattle.model_specialising.specs.Ends.{EndsSpecialised}
use Rattle.model_specialising.specs.Values.{IsFinished, IsUnfit}
use Rattle.model_specialising.proofs.Fitting.{none_unfit, unfit_by_front, unfit_by_past, unfit_within}

module _ (cs : List Constant) (given : List Assignment) (next all : ℕ) (bound : next < 2 ^ 64) (behind : IsBehind 3 given next) (a : all ≡ length given) where
  -- the word of a value that doesn't fit
  at_word : (i : ℕ) → i ≤ all → (e : Ending) → ((next - all) + i < 2 ^ 64 → e ≡ Word ((next - all) + i)) → unfit_value cs given ≡ Some i → IsUnfit cs given e
  at_word i le e made wrong =
      let first : next - all ≡ 3 + 1 = omega (arith, behind, a) in
      let fits : (next - all) + i < 2 ^ 64 = omega (arith, behind, bound, a, le) in
      (i, wrong, made fits ∙ ap (λ n. Word (n + i)) first)

  -- a value before the first that is past the bound doesn't fit
  pub misfits : (i : ℕ) (e : Ending) → ((next - all) + i < 2 ^ 64 → e ≡ Word ((next - all) + i)) → unfit cs (good_front given) ≡ Some i → IsUnfit cs given e
  misfits i e made h =
      let front = length-front given in
      let within = unfit_within cs (good_front given) i h in
      at_word i (omega (arith, within, front, a)) e made (unfit_by_front cs given i h)

  module _ (front : ℕ) (f : front ≡ length (good_front given)) (h : unfit cs (good_front given) ≡ None) where
    -- all before it fit
    pub past : front < all → (e : Ending) → ((next - all) + front < 2 ^ 64 → e ≡ Word ((next - all) + front)) → IsUnfit cs given e
    past lt e made =
        at_word front (omega (arith, lt)) e made (subst (λ n. unfit_value cs given ≡ Some n) (sym f) (unfit_by_past cs given h (omega (arith, a, f, lt))))

    -- none is past the bound
    pub whole : (front < all → ⊥) → (text : List ℕ) → (unfit_value cs given ≡ None) × (good_front given ≡ givens given) × (Done text ≡ Done text)
    whole ge text = let g = none_unfit cs given h (λ lt. ge (omega (arith, a, f, lt))) in (g.0, g.1, refl)

-- so it ends on a model for which such a text is written
pub of_unfit : (cs : List Constant) (given : List Assignment) (IsWritten : List ℕ → Type 0) (e : Ending) → IsUnfit cs given e → EndsSpecialised cs given IsWritten e
of_unfit cs given IsWritten e (i, wrong, made) = ends.unfit i wrong made

pub of_finished : (cs : List Constant) (given : List Assignment) (IsWritten : List ℕ → Type 0) (text : List ℕ) (e : Ending) → IsFinished cs given text e → (good_front given ≡ givens given → IsWritten text) →
    EndsSpecialised cs given IsWritten e
of_finished cs given IsWritten text e (inl (i, wrong, made)) written = ends.unfit i wrong made
of_finished cs given IsWritten text e (inr (fits, all, made)) written = ends.done fits text (written all) made

-- of what may be want of memory
pub of_unfit_ok : (cs : List Constant) (given : List Assignment) (IsWritten : List ℕ → Type 0) (r : Result Ending AllocError) → IfOk r (IsUnfit cs given) → IfOk r (EndsSpecialised cs given IsWritten)
of_unfit_ok cs given IsWritten (Ok e) h = of_unfit cs given IsWritten e h
of_unfit_ok cs given IsWritten (Err m) h = tt

pub of_unfit_tree : (f : File) (given : List Assignment) (r : Result Ending AllocError) → ((tree : File) → bare_file f ≡ bare_file (flat tree) → IfOk r (IsUnfit (prism_description tree).constants given)) →
    IfOk r (λ e. (tree : File) → bare_file f ≡ bare_file (flat tree) → ends.EndsOnPrism tree given e)
of_unfit_tree f given (Ok e) h = λ tree same. of_unfit (prism_description tree).constants given _ e (h tree same)
of_unfit_tree f given (Err m) h = tt
