use Rattle.model_process.proofs.AcceptedWalks.{walks_accepted, walks_are_not_refused, walks_end_with_yes}
use Rattle.model_process.proofs.PathTexts.{walk_reads}
use Rattle.model_process.proofs.laws.walk_law.Goals as goal

pub returns-clause-yes : goal.returns-clause-yes
returns-clause-yes c =
    walks_end_with_yes c.printable_law.ensures c.prism_names_law.ensures c.described_law.ensures c.jani_names_law.ensures c.jani_labels_law.ensures c.text_laws.ensures.state_back c.verdict_laws.ensures.paths

pub returns-clause-not_refused : goal.returns-clause-not_refused
returns-clause-not_refused c =
    walks_are_not_refused c.printable_law.ensures c.prism_names_law.ensures c.described_law.ensures c.jani_names_law.ensures c.jani_labels_law.ensures c.text_laws.ensures.state_back c.verdict_laws.ensures.paths
    c.one_end_law.ensures.claim_either

pub returns-clause-accepted : goal.returns-clause-accepted
returns-clause-accepted c =
    walks_accepted c.printable_law.ensures c.prism_names_law.ensures c.described_law.ensures c.jani_names_law.ensures c.jani_labels_law.ensures c.text_laws.ensures.state_back c.verdict_laws.ensures.paths
    c.one_end_law.ensures.claim

pub returns-clause-reads_back : goal.returns-clause-reads_back
returns-clause-reads_back c = walk_reads c.text_laws.ensures.state_back
