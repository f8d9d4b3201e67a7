-- States stay states where what is written fits. (PRISM manual, "The PRISM Language": "Modules And Variables"; jani-model
-- specification, "Variables".)
use Rattle.std.specs.Prelude.{◌≡◌, ℕ, zero, suc, List, [], ◌∷◌, true, Option, Some, IsTrue, slice_set}
use Rattle.std.proofs.Common.{subst}
use Rattle.std.proofs.lemmas.Bool.{and_from}
use Rattle.basics.specs.Booleans.{first_true, second_true}
use Rattle.op_trees.specs.Seen.{Seen}
use Rattle.op_trees.specs.declared.tree.Value.{Value}
use Rattle.process_core.specs.Ready.{Values}
use Rattle.process_core.specs.Distribution.{KeepsStates}
use Rattle.process_core.specs.Instance.{Domain, Column, is_in, is_state, domain_at, fits_in, write_to}

pub state_set : (cs : List Column) (s : Values) (i : ℕ) (v : Value) → IsTrue (is_state cs s) → is_in (domain_at cs i) v ≡ true → IsTrue (is_state cs (slice_set s i v))
state_set [] [] i v h k = h
state_set [] (w ∷ s) i v h k = absurd cc
state_set (c ∷ cs) [] i v h k = absurd cc
state_set (c ∷ cs) (w ∷ s) zero v h k = and_from (is_in c.domain v) (is_state cs s) k (second_true (is_in c.domain w) (is_state cs s) h)
state_set (c ∷ cs) (w ∷ s) (suc i) v h k =
    and_from (is_in c.domain w) (is_state cs (slice_set s i v)) (first_true (is_in c.domain w) (is_state cs s) h)
    (state_set cs s i v (second_true (is_in c.domain w) (is_state cs s) h) k)

pub fits_value : (d : Domain) (o : Option Value) (v : Value) → o ≡ Some v → fits_in d o ≡ true → is_in d v ≡ true
fits_value d o v e h = subst (λ p. fits_in d p ≡ true) e h

pub keeps_write_to : (cs : List Column) (i : ℕ) (value : Seen) → KeepsStates (is_state cs) (write_to cs i value)
keeps_write_to cs i value = record { keeps = λ s v k e f. state_set cs s i v k (fits_value (domain_at cs i) value.value v e f) }
