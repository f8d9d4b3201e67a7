use Rattle.std.proofs.Common.{ap, sym, ◌∙◌, option_copied}
use Rattle.std.specs.List.{list_any}
use Rattle.process_core.specs.Ready.{same_label}
use Rattle.carry_maps.specs.Maps.{candidates}
use Rattle.path_carry.proofs.Firsts.{none_told}
use Rattle.path_carry.proofs.Pairs.{candidate_none, pair_is_candidate, no_pair_no_candidate}
use Rattle.path_carry.proofs.labels.is_candidate.Goals as goal

pub returns-in-None : goal.returns-in-None
returns-in-None c =
    none_told c.args.label.now c.is_none.result c.is_none.ensures
    ∙ sym (ap (λ a. list_any (same_label (option_copied a)) (candidates c.args.index.now.pairs.now c.args.label.now)) c.in-None.is ∙ candidate_none c.args.index.now.pairs.now c.args.label.now)

pub returns-in-Some-pair_of : goal.returns-in-Some-pair_of
returns-in-Some-pair_of c =
    let ps = c.args.index.now.pairs.now in
    c.same_label.ensures ∙ pair_is_candidate ps c.requires.distinct c.args.label.now _ _ c.in-Some-pair_of.ensures ∙ ap (λ a. list_any (same_label (option_copied a)) (candidates ps c.args.label.now)) (sym c.in-Some.is)

pub returns-in-None-pair_of : goal.returns-in-None-pair_of
returns-in-None-pair_of c =
    let ps = c.args.index.now.pairs.now in
    no_pair_no_candidate ps c.args.label.now _ c.in-None-pair_of.ensures ∙ ap (λ a. list_any (same_label (option_copied a)) (candidates ps c.args.label.now)) (sym c.in-Some.is)
