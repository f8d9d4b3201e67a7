-- Choices of which no state that they lead to is built, and what they are at a state.
-- (PRISM manual, "The PRISM Language": "Commands", "Synchronisation"; jani-model specification, "Edges".)
use Rattle.std.specs.Prelude.{List, map, option_copied}
use Rattle.std.specs.List.{flat_map}
use Rattle.frac_core.specs.Fraction.{Fraction}
use Rattle.frac_core.specs.Sums.{product}
use Rattle.process_core.specs.Process.{Branch, Choice, Outcome, Good, Bad}
use Rattle.process_core.specs.Ready.{Values, Name, Sum, Update}
use Rattle.process_core.specs.Choices.{assigned, own_rewards, weight_of, written}
use Rattle.process_core.specs.Seen.{seen_kinds}
use Rattle.state_choices.specs.declared.open.OpenBranch.{OpenBranch}
use Rattle.state_choices.specs.declared.open.OpenOutcome.{OpenOutcome}
use Rattle.state_choices.specs.declared.open.OpenOutcome.TheVariants as O
use Rattle.state_choices.specs.declared.open.OpenChoice.{OpenChoice}
use Rattle.state_choices.specs.Views.{sum_of, updates_of}

-- one update from each participant, with the product of their probabilities
abbrev pub weighed : List Update → Fraction × List Update
weighed us = (product (map weight_of us), us)

-- the branch of a probability and updates at a state
abbrev pub branch_from : Values → List Sum → Fraction × List Update → Branch Fraction Values
branch_from s rewards w = record {
  probability = w.0;
  target = written s (flat_map (λ u. u.writes) w.1);
  rewards = assigned (own_rewards rewards) (flat_map (λ u. u.rewards) w.1);
}

-- ---- of the program's data
abbrev pub way_of : OpenBranch → Fraction × List Update
way_of b = (b.weight, updates_of b.updates.items)

abbrev pub open_target : Values → OpenBranch → Values
open_target s b = written s (flat_map (λ u. u.writes) (updates_of b.updates.items))

abbrev pub open_branch : Values → List Sum → OpenBranch → Branch Fraction Values
open_branch s rewards b = branch_from s rewards (way_of b)

abbrev pub open_outcome : Values → List Sum → OpenOutcome → Outcome Fraction Values
open_outcome s rewards (O.Good bs) = Good (map (open_branch s rewards) bs)
open_outcome s rewards (O.Faulty k) = Bad (seen_kinds k)

abbrev pub open_choice : Values → OpenChoice → Choice Name Fraction Values
open_choice s c = record { label = option_copied c.label; outcome = open_outcome s (map sum_of c.rewards.now) c.outcome }
