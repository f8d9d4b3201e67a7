use Rattle.name_table.proofs.EntryLemmas.{no_two_alike, kept_is_old, others_are_made, kept_is_no_made, locations_are_made, one_each, first_alone}
use Rattle.name_table.proofs.Valid.{all_are_valid}
use Rattle.name_table.proofs.laws.names_law.Goals as goal

pub returns-clause-distinct : goal.returns-clause-distinct
returns-clause-distinct c = no_two_alike

pub returns-clause-kept : goal.returns-clause-kept
returns-clause-kept c = kept_is_old

pub returns-clause-made : goal.returns-clause-made
returns-clause-made c = others_are_made

pub returns-clause-plain : goal.returns-clause-plain
returns-clause-plain c = kept_is_no_made

pub returns-clause-len : goal.returns-clause-len
returns-clause-len c = one_each

pub returns-clause-first : goal.returns-clause-first
returns-clause-first c = first_alone

pub returns-clause-valid : goal.returns-clause-valid
returns-clause-valid c = all_are_valid

pub returns-clause-locations : goal.returns-clause-locations
returns-clause-locations c = locations_are_made
