-- What the code's branches and choices are: the records of the definitions.
use Rattle.std.specs.Prelude.{map}
use Rattle.frac_core.specs.Fraction.{Fraction}
use Rattle.process_core.specs.Process.{Kinds, Branch, Outcome, Good, Bad, Choice}
use Rattle.process_core.specs.Ready.{Values, Name}
use Rattle.process_core.specs.declared.data.Bad as bad
use Rattle.process_core.specs.declared.data.Branch as code_branch
use Rattle.process_core.specs.declared.data.Outcome as code_outcome
use Rattle.process_core.specs.declared.data.Outcome.TheVariants as O
use Rattle.process_core.specs.declared.data.Choice as code_choice

abbrev pub seen_kinds : bad.Bad → Kinds
seen_kinds k = record { undef = k.undef; range = k.range; weight = k.weight }

abbrev pub seen_branch : code_branch.Branch → Branch Fraction Values
seen_branch b = record { probability = b.weight; target = b.target.values; rewards = b.rewards }

abbrev pub seen_outcome : code_outcome.Outcome → Outcome Fraction Values
seen_outcome (O.Good bs) = Good (map seen_branch bs)
seen_outcome (O.Faulty k) = Bad (seen_kinds k)

abbrev pub seen_choice : code_choice.Choice → Choice Name Fraction Values
seen_choice c = record { label = c.label; outcome = seen_outcome c.outcome }
