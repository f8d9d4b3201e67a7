-- Where the monitor earns rewards for commands without action, their choices come last: a file that meets all that is asked,
-- and whose choices come in another order once it is translated.
use Rattle.std.specs.Prelude.{◌≡◌, ℕ, ℤ, pos, List, [], ◌∷◌, map, true, not, Option, Some, None, codes}
use Rattle.std.specs.List.{All, IsDistinct, filter}
use Rattle.std.specs.Option.{option_map}
use Rattle.std.proofs.Common.{refl, ap}
use Rattle.std.proofs.lemmas.List.Elements.{All-nil, All-cons}
use Rattle.frac_core.specs.Fraction.{Fraction, fraction, plus, times, over}
use Rattle.frac_core.specs.Decimal.{decimal_value, ten_to}
use Rattle.frac_core.specs.Gcd.{gcd, gcd_within}
use Rattle.process_core.specs.Process.{EquallyOften, Outcome, Good, Bad, Choice, choice_image}
use Rattle.process_core.specs.Ready.{Values, Name}
use Rattle.prism_tree.specs.Syntax as prism
use Rattle.prism_names.specs.Names.{see, reading}
use Rattle.process_core.specs.Instance.{Valuation}
use Rattle.prism_flat.specs.Process as prism_process
use Rattle.jani_meaning.specs.Scene as jani_scene
use Rattle.jani_meaning.specs.Process as jani_process
use Rattle.frac_core.specs.Text.{digits}
use Rattle.name_table.specs.Asks.{new_names}
use Rattle.jani_translation.specs.Automata.{for_states}
use Rattle.jani_translation.specs.Translated.{translated}
use Rattle.jani_translation.specs.SeenLaws.{IsSoundUnder, GivesAlike}
use Rattle.jani_translation.specs.StateLaws.{at_home, state_of, SoundWrite, SoundBranch, SoundCommand, SoundItem, CommandsAreSound, ItemsAreSound}
use Rattle.jani_translation.proofs.Sources as p
use Rattle.jani_translation.proofs.WatchedSilently.{choices_watched}

abbrev a : List ℕ
a = codes "a"

abbrev no_values : Valuation
no_values y = None

abbrev alone : prism.Command
alone = p.sure None (p.truth true) []

abbrev named : prism.Command
named = p.sure (Some (p.at a)) (p.truth true) []

abbrev two_ways : prism.File
two_ways =
    p.file [] []
    (p.module_of (codes "M") [] (alone ∷ named ∷ []) ∷ [])
    []
    (p.rewards (codes "r") (p.silent (p.truth true) (p.int 1) ∷ []) ∷ [])

-- ---- it meets what is asked
sound_file : IsSoundUnder two_ways no_values
unfolding IsDistinct
sound_file = record {
  written = record { formulas = refl; modules = refl };
  distinct = tt;
  constants = All-nil _;
  variables = All-nil _;
}

given_alike : GivesAlike two_ways no_values no_values
given_alike = All-nil _

branch_sound : All (SoundBranch two_ways no_values []) (p.branch None [] ∷ [])
branch_sound =
    All-cons (SoundBranch two_ways no_values []) (p.branch None []) [] (tt, All-nil (SoundWrite two_ways no_values [])) (All-nil (SoundBranch two_ways no_values []))

commands_sound : CommandsAreSound two_ways no_values []
commands_sound = record {
  values = refl;
  commands =
      All-cons (λ m. All (SoundCommand two_ways no_values []) m.commands) _ []
      (All-cons (SoundCommand two_ways no_values []) alone (named ∷ []) ((tt, tt), branch_sound)
      (All-cons (SoundCommand two_ways no_values []) named [] ((tt, tt), branch_sound) (All-nil (SoundCommand two_ways no_values []))))
      (All-nil (λ m. All (SoundCommand two_ways no_values []) m.commands));
}

items_sound : ItemsAreSound two_ways no_values []
unfolding see reading decimal_value times ten_to fraction
items_sound = record {
  items = λ m.
      All-cons (λ r. All (SoundItem two_ways no_values []) (filter (λ i. not (for_states i.on)) r.items)) _ []
      (All-cons (SoundItem two_ways no_values []) (p.silent (p.truth true) (p.int 1)) [] ((tt, tt), tt, (tt, tt)) (All-nil (SoundItem two_ways no_values [])))
      (All-nil (λ r. All (SoundItem two_ways no_values []) (filter (λ i. not (for_states i.on)) r.items)));
}

as_often : EquallyOften (map (choice_image (option_map (new_names two_ways).action) (state_of two_ways)) ((prism_process.model two_ways).choices no_values []))
    ((jani_process.model (translated two_ways)).choices no_values (state_of two_ways []))
as_often = choices_watched two_ways no_values no_values sound_file given_alike [] commands_sound items_sound

-- ---- its choices
-- where the branches of an outcome lead, and the numerators of the rewards that they earn
abbrev shown_outcome : Outcome Fraction Values → List (Values × List ℤ)
shown_outcome (Bad k) = []
shown_outcome (Good bs) = map (λ b. (b.target, map (λ r. r.num) b.rewards)) bs

abbrev shown : List (Choice Name Fraction Values) → List (Option Name × List (Values × List ℤ))
shown cs = map (λ c. (c.label, shown_outcome c.outcome)) cs

choices_before : shown ((prism_process.model two_ways).choices no_values []) ≡ (None, ([], pos 1 ∷ []) ∷ []) ∷ (Some a, ([], pos 0 ∷ []) ∷ []) ∷ []
unfolding see reading decimal_value ten_to fraction gcd gcd_within plus times over
choices_before = refl

choices_after : shown ((jani_process.model (translated two_ways)).choices no_values (state_of two_ways []))
    ≡ (Some a, (at_home ∷ at_home ∷ [], pos 0 ∷ []) ∷ []) ∷ (None, (at_home ∷ at_home ∷ [], pos 1 ∷ []) ∷ []) ∷ []
unfolding jani_scene.see digits decimal_value ten_to fraction gcd gcd_within plus times over
choices_after = refl

abbrev first_label : List (Choice Name Fraction Values) → Option Name
first_label [] = None
first_label (c ∷ cs) = c.label

-- they are not the images of those of the file in order
another_order : (jani_process.model (translated two_ways)).choices no_values (state_of two_ways [])
    ≡ map (choice_image (option_map (new_names two_ways).action) (state_of two_ways)) ((prism_process.model two_ways).choices no_values []) → ⊥
unfolding see reading jani_scene.see digits decimal_value ten_to fraction gcd gcd_within plus times over
another_order e = absurd (let q : Some a ≡ None = ap first_label e in cc)
