-- Whether a state is initial, by the test of the columns and what the initial condition comes out as.
use Rattle.std.proofs.Common.{◌≡◌, Bool, true, false, List, Result, Ok, Err, IsTrue, if◌then◌else◌, refl, sym, subst, ◌∙◌}
use Rattle.std.specs.Prelude.{◌&&◌}
use Rattle.basics.specs.Booleans.{first_true}
use Rattle.op_trees.specs.Seen.{Seen}
use Rattle.process_core.specs.Choices.{is_true}
use Rattle.process_core.specs.Instance.{Column, begin_all, is_state, may_begin}
use Rattle.process_core.specs.Ready.{Values}
use Rattle.process_core.specs.declared.steps.InitialWide.{InitialWide}

-- the answer, by the condition and by what the test of the columns says
abbrev pub answer_by : Seen → Bool → Result Bool InitialWide
answer_by c b = if c.wide && b then Err (record {}) else Ok (is_true c.value && b)

-- they may not begin so
pub not_begun : (c : Seen) (b : Bool) → b ≡ false → Ok false ≡ answer_by c b
not_begun c b h = subst (λ b. Ok false ≡ answer_by c b) (sym h) (by_condition c.wide (is_true c.value))
  where
    by_condition : (w t : Bool) → ◌≡◌ {A = Result Bool InitialWide} (Ok false) (if w && false then Err (record {}) else Ok (t && false))
    by_condition true true = refl
    by_condition true false = refl
    by_condition false true = refl
    by_condition false false = refl

-- they may
pub begun : (c : Seen) (b : Bool) (t : Result Bool InitialWide) → b ≡ true → t ≡ (if c.wide then Err (record {}) else Ok (is_true c.value)) → t ≡ answer_by c b
begun c b t h e = e ∙ subst (λ b. (if c.wide then Err (record {}) else Ok (is_true c.value)) ≡ answer_by c b) (sym h) (by_condition c.wide (is_true c.value))
  where
    by_condition : (w t : Bool) → ◌≡◌ {A = Result Bool InitialWide} (if w then Err (record {}) else Ok t) (if w && true then Err (record {}) else Ok (t && true))
    by_condition true true = refl
    by_condition true false = refl
    by_condition false true = refl
    by_condition false false = refl

-- a state, then
pub begun_state : (cs : List Column) (s : Values) (b : Bool) → b ≡ may_begin cs s → b ≡ true → IsTrue (is_state cs s)
begun_state cs s b e h = first_true (is_state cs s) (begin_all cs s) (sym e ∙ h)
