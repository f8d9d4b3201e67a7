-- One branch more, and the end.
use Rattle.std.proofs.Common.{◌≡◌, ℕ, ◌+◌, ◌<◌, List, [], ◌∷◌, ◌++◌, map, true, false, not, if◌then◌else◌, Ok, Err, length, slice_set, get_or, take, drop, sym, ap, ap₂, ◌∙◌, take-append-drop}
use Rattle.std.specs.List.{list_any, position_or_len, filter}
use Rattle.std.specs.Ordering.{int_eq}
use Rattle.std.specs.Cmp.Lexicographic.{pointwise}
use Rattle.std.proofs.lemmas.List.{map-append, take_more}
use Rattle.std.proofs.lemmas.Simd.{map-map}
use Rattle.basics.specs.Members.{any-map, any_agree, filter-map}
use Rattle.frac_core.specs.Fraction.{Fraction, nought, plus, is_wide, same_number}
use Rattle.frac_core.specs.Sums.{total}
use Rattle.frac_core.specs.Results.{narrow, from_narrow, wide_where}
use Rattle.frac_core.specs.declared.fraction.FracFail.{FracFail}
use Rattle.process_core.specs.Process.{Branch}
use Rattle.process_core.specs.Ready.{Values}
use Rattle.process_core.specs.Equal.{equal_states, equal_states_is}
use Rattle.process_core.specs.Merged.{weights_to, targets_of, merged, is_merging_wide}
use Rattle.process_core.specs.Merging.{key_of, keys_of, IsSummed, AddsBranch}
use Rattle.process_core.specs.Answers.{FailsBy, only_wide}
use Rattle.process_core.specs.declared.data.StepFail.{StepFail}
use Rattle.process_core.specs.declared.data.StepFail.TheVariants.{Memory, Wide, TooMany}
use Rattle.process_core.proofs.Targets.{place-map, entry, opened, opened_at, summed_more, narrow_more, merging_wide, merging_narrow}
use Rattle.process_core.proofs.Keys.{key_test}

module _ (done : List (Branch Fraction Values)) (b : Branch Fraction Values) (sums : List (Branch Fraction Values)) (h : IsSummed done sums) where
  keys_are : keys_of sums ≡ map key_of (targets_of equal_states done)
  keys_are = ap keys_of h.sums_are ∙ map-map _ _ (targets_of equal_states done)

  any_there : list_any (pointwise int_eq (key_of b.target)) (keys_of sums) ≡ list_any (equal_states b.target) (targets_of equal_states done)
  any_there =
      ap (list_any (pointwise int_eq (key_of b.target))) keys_are ∙ any-map (pointwise int_eq (key_of b.target)) key_of (targets_of equal_states done)
      ∙ any_agree _ (equal_states b.target) (key_test b.target) (targets_of equal_states done)

  place_there : position_or_len (pointwise int_eq (key_of b.target)) (keys_of sums) ≡ position_or_len (equal_states b.target) (targets_of equal_states done)
  place_there =
      ap (position_or_len (pointwise int_eq (key_of b.target))) keys_are
      ∙ place-map (equal_states b.target) (pointwise int_eq (key_of b.target)) key_of (key_test b.target) (targets_of equal_states done)

  sums_there : (if list_any (pointwise int_eq (key_of b.target)) (keys_of sums) then sums else sums ++ record { probability = nought; target = b.target; rewards = [] } ∷ []) ≡ opened equal_states equal_states_is b.target done
  sums_there = ap₂ (λ t l. if t then l else l ++ record { probability = nought; target = b.target; rewards = [] } ∷ []) any_there h.sums_are

  module _ (next : List (Branch Fraction Values)) (i : ℕ) (e : Branch Fraction Values)
      (next_is : next ≡ (if list_any (pointwise int_eq (key_of b.target)) (keys_of sums) then sums else sums ++ record { probability = nought; target = b.target; rewards = [] } ∷ []))
      (i_is : i ≡ position_or_len (pointwise int_eq (key_of b.target)) (keys_of sums)) (e_is : e ≡ get_or next i e) where
    entry_there : e ≡ entry equal_states equal_states_is (total (weights_to equal_states b.target done)) b.target
    entry_there =
        e_is ∙ ap₂ (λ l n. get_or l n e) (next_is ∙ sums_there) (i_is ∙ place_there) ∙ opened_at equal_states equal_states_is b.target done e

    pub adds : (sum : Fraction) (last : List (Branch Fraction Values)) → narrow (plus e.probability b.probability) ≡ Ok sum →
        last ≡ slice_set next i (record { probability = sum; target = e.target; rewards = e.rewards }) → IsSummed (done ++ b ∷ []) last
    adds sum last n l =
        let at : Branch Fraction Values → Fraction = λ x. plus x.probability b.probability in
        let sum_is = from_narrow (at e) sum n in
        let w = total (weights_to equal_states b.target done) in
        let sum_now : sum ≡ plus w b.probability = sum_is.0 ∙ ap at entry_there in
        record {
          sums_are =
              l ∙ ap₂ (λ x y. slice_set x y (record { probability = sum; target = e.target; rewards = e.rewards })) (next_is ∙ sums_there) (i_is ∙ place_there)
              ∙ ap (λ (x : Branch Fraction Values). slice_set (opened equal_states equal_states_is b.target done) (position_or_len (equal_states b.target) (targets_of equal_states done)) (record { probability = sum; target = x.target; rewards = x.rewards })) entry_there
              ∙ ap (λ x. slice_set (opened equal_states equal_states_is b.target done) (position_or_len (equal_states b.target) (targets_of equal_states done)) (entry equal_states equal_states_is x b.target)) sum_now
              ∙ summed_more equal_states equal_states_is done b;
          narrow = narrow_more equal_states equal_states_is done b h.narrow (ap is_wide (sym sum_now) ∙ sum_is.1);
        }

    pub adds_wide : (f : FracFail) → narrow (plus e.probability b.probability) ≡ Err f → is_wide (plus (total (weights_to equal_states b.target done)) b.probability) ≡ true
    adds_wide f n = ap (λ (x : Branch Fraction Values). is_wide (plus x.probability b.probability)) (sym entry_there) ∙ wide_where (plus e.probability b.probability) f n

-- ---- a call that failed
pub fails_as : (done rest all : List (Branch Fraction Values)) (b : Branch Fraction Values) (sums last : List (Branch Fraction Values)) (f : StepFail) →
    IsSummed done sums → (IsSummed done sums → AddsBranch done b last (Err f)) → all ≡ (done ++ b ∷ []) ++ rest →
    FailsBy (only_wide (is_merging_wide equal_states all)) f
fails_as done rest all b sums last (Memory m) h k e = tt
fails_as done rest all b sums last Wide h k e =
    ap only_wide (ap (is_merging_wide equal_states) e ∙ merging_wide equal_states equal_states_is done rest b h.narrow (k h))
fails_as done rest all b sums last TooMany h k e = absurd (k h)

-- ---- the end
pub ends_narrow : (done : List (Branch Fraction Values)) (sums : List (Branch Fraction Values)) → IsSummed done sums → only_wide (is_merging_wide equal_states done) ≡ only_wide false
ends_narrow done sums h = ap only_wide (merging_narrow equal_states equal_states_is done h.narrow)

pub ends : {B : Type 0} (seen : B → Branch Fraction Values) (done : List (Branch Fraction Values)) (sums kept : List B) → IsSummed done (map seen sums) →
    kept ≡ filter (λ x. not (same_number (seen x).probability nought)) sums → map seen kept ≡ merged equal_states done
ends seen done sums kept h e =
    ap (map seen) e ∙ sym (filter-map (λ b. not (same_number b.probability nought)) seen sums) ∙ ap (filter (λ b. not (same_number b.probability nought))) h.sums_are

-- the branches so far and this one
pub so_far : {B : Type 0} (seen : B → Branch Fraction Values) (xs : List B) (i : ℕ) (b : B) → i < length xs → b ≡ get_or xs i b →
    map seen (take (i + 1) xs) ≡ map seen (take i xs) ++ seen b ∷ []
so_far seen xs i b l e =
    ap (map seen) (take_more xs i b l) ∙ map-append seen (take i xs) (get_or xs i b ∷ [])
    ∙ ap (λ x. map seen (take i xs) ++ seen x ∷ []) (sym e)

-- the branches so far, this one, and the rest
pub parted : {B : Type 0} (seen : B → Branch Fraction Values) (xs : List B) (i : ℕ) (b : B) → i < length xs → b ≡ get_or xs i b →
    map seen xs ≡ (map seen (take i xs) ++ seen b ∷ []) ++ map seen (drop (i + 1) xs)
parted seen xs i b l e =
    ap (map seen) (sym (take-append-drop (i + 1) xs)) ∙ map-append seen (take (i + 1) xs) (drop (i + 1) xs)
    ∙ ap (λ l. l ++ map seen (drop (i + 1) xs)) (so_far seen xs i b l e)
