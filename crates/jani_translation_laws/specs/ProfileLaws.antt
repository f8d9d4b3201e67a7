-- What holds of the profile of every translated file: statements, which are proved of the functions of this crate. The source
-- has no fault, and its formulas and copies are written out.
use Rattle.std.specs.Prelude.{◌≡◌, [], false}
use Rattle.std.specs.List.{flat_map}
use Rattle.prism_tree.specs.Syntax as prism
use Rattle.prism_check.specs.Flattened.{IsFlat}
use Rattle.jani_check.specs.Things.{global_thing, beside}
use Rattle.jani_check.specs.Demands.{automaton_demands, outer_demands}
use Rattle.jani_check.specs.ProfileFaults.{demand_profile, start_faults, given_after, branch_rewards, two_writers, profile_faults}
use Rattle.jani_translation.specs.Translated.{translated}

-- ---- the faults of the profile, list by list
-- each transient variable begins with false or 0; this holds of every file
abbrev pub StartsFit : prism.File → Type 0
StartsFit file = flat_map start_faults (translated file).variables ≡ []

-- the locations of one automaton alone give values to transient variables; this too
abbrev pub ValuesGivenOnce : prism.File → Type 0
ValuesGivenOnce file = given_after (global_thing (translated file)) (λ x. false) (translated file).automata ≡ []

-- no value and no bound reads a transient variable
abbrev pub OuterReadsFit : prism.File → Type 0
OuterReadsFit file = IsFlat file → flat_map (demand_profile (global_thing (translated file))) (outer_demands (translated file)) ≡ []

-- in automata no expression does, and no edge assigns to a label
abbrev pub AutomataReadsFit : prism.File → Type 0
AutomataReadsFit file = IsFlat file →
    flat_map (λ a. flat_map (demand_profile (beside (global_thing (translated file)) a.variables)) (automaton_demands a)) (translated file).automata ≡ []

-- the destinations of an edge assign the same rewards
abbrev pub BranchesFit : prism.File → Type 0
BranchesFit file = IsFlat file →
    flat_map (λ a. flat_map (branch_rewards (beside (global_thing (translated file)) a.variables)) a.edges) (translated file).automata ≡ []

-- one participant of each vector alone assigns rewards
abbrev pub OneRewardWriter : prism.File → Type 0
OneRewardWriter file = IsFlat file → flat_map (two_writers (translated file)) (translated file).vectors ≡ []

-- ---- all of them
abbrev pub NoProfileFault : prism.File → Type 0
NoProfileFault file = IsFlat file → profile_faults (translated file) ≡ []
