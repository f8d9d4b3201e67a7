-- How many values a state has. (PRISM manual, "The PRISM Language": "Modules And Variables"; jani-model
-- specification, "Variables".)
use Rattle.std.specs.Prelude.{◌≡◌, suc, List, [], ◌∷◌, map, length, IsTrue}
use Rattle.std.proofs.Common.{refl, ap}
use Rattle.basics.specs.Booleans.{second_true}
use Rattle.process_core.specs.Ready.{Values}
use Rattle.process_core.specs.Instance.{Column, is_in, is_state}

pub state_length : (cs : List Column) (s : Values) → IsTrue (is_state cs s) → length s ≡ length (map (λ c. c.name) cs)
state_length [] [] h = refl
state_length [] (v ∷ s) h = absurd cc
state_length (c ∷ cs) [] h = absurd cc
state_length (c ∷ cs) (v ∷ s) h = ap suc (state_length cs s (second_true (is_in c.domain v) (is_state cs s) h))
