-- What the laws at a state ask of a file can be met; and where the sum of a structure's items is wide as an expression alone.
use Rattle.std.specs.Prelude.{◌≡◌, ℕ, pos, List, [], ◌∷◌, map, true, false, Some, None, codes}
use Rattle.std.specs.List.{All, IsDistinct, filter}
use Rattle.std.proofs.Common.{refl, arith}
use Rattle.std.proofs.lemmas.List.Elements.{All-nil, All-cons}
use Rattle.frac_core.specs.Fraction.{whole, fraction, plus, times, over}
use Rattle.frac_core.specs.Decimal.{decimal_value, ten_to}
use Rattle.frac_core.specs.Gcd.{gcd, gcd_within}
use Rattle.op_trees.specs.Seen.{known}
use Rattle.op_trees.specs.declared.tree.Value.TheVariants as V
use Rattle.process_core.specs.Ready.{Values}
use Rattle.process_core.specs.Bounds.{summed}
use Rattle.prism_tree.specs.declared.operator.PrismOp.TheVariants as P
use Rattle.prism_tree.specs.Syntax as prism
use Rattle.prism_names.specs.Names.{see, reading}
use Rattle.process_core.specs.Instance.{Valuation}
use Rattle.prism_flat.specs.Moment.{item_at}
use Rattle.jani_meaning.specs.Scene as jani_scene
use Rattle.name_table.specs.Asks.{new_names}
use Rattle.jani_translation.specs.Automata.{for_states, item_value, sum_behind}
use Rattle.jani_translation.specs.SeenLaws.{SoundVariable, IsSoundUnder, GivesAlike}
use Rattle.jani_translation.specs.StateLaws.{IsSoundHere, SoundWrite, SoundBranch, SoundCommand, SoundItem, CommandsAreSound, MarksAreSound}
use Rattle.jani_translation.proofs.Sources as p

abbrev x : List ℕ
x = codes "x"

-- ---- a file, a valuation and a state that meet all that is asked
abbrev counted_steps : prism.File
counted_steps =
    p.file [] []
    (p.module_of (codes "M") (p.var x (p.from_to 0 2) (Some (p.int 0)) ∷ []) (p.sure None (p.is x 0) (p.write x (p.int 1) ∷ []) ∷ []) ∷ [])
    (p.label (codes "l") (p.is x 1) ∷ [])
    (p.rewards (codes "r") (p.in_state (p.is x 1) (p.int 3) ∷ []) ∷ [])

abbrev no_values : Valuation
no_values y = None

abbrev at_one : Values
at_one = V.Number (whole (pos 1)) ∷ []

sound_steps : IsSoundUnder counted_steps no_values
unfolding IsDistinct
sound_steps = record {
  written = record { formulas = refl; modules = refl };
  distinct = (tt, tt);
  constants = All-nil _;
  variables = All-cons (SoundVariable counted_steps no_values) (p.var x (p.from_to 0 2) (Some (p.int 0))) [] ((((tt, tt), (tt, tt))), (tt, tt)) (All-nil (SoundVariable counted_steps no_values));
}

given_alike : GivesAlike counted_steps no_values no_values
given_alike = All-nil _

abbrev step : prism.Command
step = p.sure None (p.is x 0) (p.write x (p.int 1) ∷ [])

step_sound : SoundCommand counted_steps no_values at_one step
step_sound = (
  ((refl, tt, tt), (tt, tt, tt)),
  All-cons (SoundBranch counted_steps no_values at_one) (p.branch None (p.write x (p.int 1) ∷ [])) []
      (tt, All-cons (SoundWrite counted_steps no_values at_one) (p.write x (p.int 1)) [] ((0, omega arith, refl), (tt, tt)) (All-nil (SoundWrite counted_steps no_values at_one)))
      (All-nil (SoundBranch counted_steps no_values at_one)),
)

commands_sound : CommandsAreSound counted_steps no_values at_one
commands_sound = record {
  values = refl;
  commands =
      All-cons (λ m. All (SoundCommand counted_steps no_values at_one) m.commands) _ []
      (All-cons (SoundCommand counted_steps no_values at_one) step [] step_sound (All-nil (SoundCommand counted_steps no_values at_one)))
      (All-nil (λ m. All (SoundCommand counted_steps no_values at_one) m.commands));
}

marks_sound : MarksAreSound counted_steps no_values at_one
unfolding see reading decimal_value times ten_to fraction
marks_sound = record {
  values = refl;
  some_module = omega arith;
  labels = All-cons (λ l. IsSoundHere counted_steps no_values at_one l.body) _ [] ((refl, tt, tt), (tt, tt, tt)) (All-nil (λ l. IsSoundHere counted_steps no_values at_one l.body));
  items =
      All-cons (λ r. All (SoundItem counted_steps no_values at_one) (filter (λ i. for_states i.on) r.items)) _ []
      (All-cons (SoundItem counted_steps no_values at_one) (p.in_state (p.is x 1) (p.int 3)) [] (((refl, tt, tt), (tt, tt, tt)), tt, (tt, tt)) (All-nil (SoundItem counted_steps no_values at_one)))
      (All-nil (λ r. All (SoundItem counted_steps no_values at_one) (filter (λ i. for_states i.on) r.items)));
}

-- ---- two values whose sum is wide, and one that is undefined: the expression is wide, the sum of the items is not
abbrev large : prism.Item
large = p.in_state (p.truth true) (p.int 2305843009213693952)

abbrev undefined : prism.Item
undefined = p.in_state (p.truth true) (p.two P.Div (p.int 1) (p.int 0))

items_not_wide : (summed (map (λ i. (item_at (λ y. known None) i).item) (large ∷ large ∷ undefined ∷ []))).wide ≡ false
unfolding see decimal_value times ten_to fraction over plus gcd gcd_within
items_not_wide = refl

expression_wide : (jani_scene.see (sum_behind (new_names counted_steps) (item_value (new_names counted_steps) large) (large ∷ undefined ∷ [])) (λ y. known None)).wide ≡ true
unfolding jani_scene.see decimal_value times ten_to fraction over plus gcd gcd_within
expression_wide = refl
