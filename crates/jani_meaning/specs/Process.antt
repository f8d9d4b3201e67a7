-- The process of a JANI file: its choices and marks at a state, and what passes a bound there (jani-model specification,
-- version 1: "Models", "Edges", "Composition", "Transient variables"). That transient variables are marks is a rule of this
-- project.
use Rattle.std.specs.Prelude.{List, map, ◌++◌, Bool, false, ◌||◌, Option, Some}
use Rattle.std.specs.List.{list_any}
use Rattle.frac_core.specs.Fraction.{Fraction, nought}
use Rattle.process_core.specs.Process.{Choice, Model}
use Rattle.process_core.specs.Ready.{Values, Name, Sum, Combination, of_elements}
use Rattle.process_core.specs.Choices as core
use Rattle.process_core.specs.Choices.{number_of, truth_of}
use Rattle.process_core.specs.Bounds as core_bounds
use Rattle.process_core.specs.Bounds.{Excess}
use Rattle.process_core.specs.declared.data.Mark.{Mark}
use Rattle.process_core.specs.declared.data.Mark.TheVariants as M
use Rattle.jani_tree.specs.Syntax.{File}
use Rattle.process_core.specs.Instance.{Valuation, Fault, model_of}
use Rattle.jani_meaning.specs.Scene.{scene}
use Rattle.jani_meaning.specs.Moment.{Moment, moment}

-- ---- choices
-- a reward that no destination assigns is 0
abbrev pub no_reward : Sum
no_reward = record { value = Some nought; wide = false }

-- the silent edges of each element, then for each vector one edge with the named action from each element that it names one
-- for; its result is the label
abbrev pub combinations : Moment → List Combination
combinations k = of_elements (map (λ r. no_reward) k.rewards) k.vectors k.elements

abbrev pub choices : Moment → Values → List (Choice Name Fraction Values)
choices k s = core.choices s (combinations k)

abbrev pub excess : Moment → Option Excess
excess k = core_bounds.excess (combinations k)

-- ---- marks: the labels, then the rewards
abbrev pub marks : Moment → List Mark
marks k = map (λ l. M.Truth (truth_of l.value)) k.labels ++ map (λ r. M.Number (number_of r.value)) k.rewards

abbrev pub has_wide_mark : Moment → Bool
has_wide_mark k = list_any (λ l. l.wide) k.labels || list_any (λ r. r.wide) k.rewards

-- ---- the process that a file describes
abbrev pub model : File → Model Valuation Fault Name Fraction Mark Values
model file = model_of (scene file) (λ v s. (moment file v s).condition) (λ v s. marks (moment file v s)) (λ v s. choices (moment file v s) s)
