use Rattle.std.proofs.Common.{sym}
use Rattle.command_words.specs.Given.{HasGiven}
use Rattle.command_words.specs.Fronts.{One, IsSeedWord, IsStepsWord, SeedForm}
use Rattle.command_words.proofs.Wrong.{read_none, read_first, one_next, one_end, one_first}
use Rattle.command_words.proofs.Forms.{seed_form_begins, steps_begins}
use Rattle.command_words.proofs.fronts.seed_in.Goals as goal

pub returns-in_default : goal.returns-in_default
returns-in_default c = read_none SeedForm 1 c.args.words.now c.in_default.len_below (one_end IsSeedWord (One IsStepsWord HasGiven) seed_form_begins)

pub returns-in_default-number_in : goal.returns-in_default-number_in
returns-in_default-number_in c =
    read_first SeedForm 1 c.args.words.now c.first-item.result _ c.in-len1-up.len_at_least c.first-item.is (sym c.as_str.ensures.value)
    (one_first IsSeedWord (One IsStepsWord HasGiven) seed_form_begins _ _ (λ s. c.in_default-number_in.ensures s.0 s.1))

pub returns-in_default-behind : goal.returns-in_default-behind
returns-in_default-behind c =
    read_first SeedForm 2 c.args.words.now c.first-item.result _ c.in-len1-up.len_at_least c.first-item.is (sym c.as_str.ensures.value)
    (one_next IsSeedWord (One IsStepsWord HasGiven) _ _ 1 (c.in-Some.seed, c.in-Some.ensures)
    (read_none (One IsStepsWord HasGiven) 1 _ c.in_default-behind.len_below (one_end IsStepsWord HasGiven steps_begins)))

pub returns-in_default-number_in-2 : goal.returns-in_default-number_in-2
returns-in_default-number_in-2 c =
    read_first SeedForm 2 c.args.words.now c.first-item.result _ c.in-len1-up.len_at_least c.first-item.is (sym c.as_str.ensures.value)
    (one_next IsSeedWord (One IsStepsWord HasGiven) _ _ 1 (c.in-Some.seed, c.in-Some.ensures)
    (read_first (One IsStepsWord HasGiven) 1 _ c.second-item.result _ c.in-len1-up-behind.len_at_least c.second-item.is (sym c.as_str-2.ensures.value)
    (one_first IsStepsWord HasGiven steps_begins _ _ (λ s. c.in_default-number_in-2.ensures s.0 s.1))))
