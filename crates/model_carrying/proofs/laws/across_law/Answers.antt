use Rattle.model_carrying.proofs.Across.{judged_alike, never_refused, starts_always}
use Rattle.model_carrying.proofs.laws.across_law.Goals as goal

pub returns-clause-alike : goal.returns-clause-alike
returns-clause-alike c =
    judged_alike c.described_law.ensures c.form_law.ensures.flat c.values_law.ensures.alike c.together_law.ensures.jani c.together_law.ensures.prism c.together_law.ensures.given c.together_law.ensures.back
    c.form_laws.ensures.one_path c.values_law.ensures.fit

pub returns-clause-not_refused : goal.returns-clause-not_refused
returns-clause-not_refused c =
    never_refused c.described_law.ensures c.form_law.ensures.flat c.values_law.ensures.alike c.together_law.ensures.jani c.together_law.ensures.prism c.together_law.ensures.given c.together_law.ensures.back
    c.form_laws.ensures.one_path c.values_law.ensures.fit

pub returns-clause-starts : goal.returns-clause-starts
returns-clause-starts c =
    starts_always c.described_law.ensures c.form_law.ensures.flat c.values_law.ensures.alike c.together_law.ensures.jani c.together_law.ensures.prism c.together_law.ensures.given c.together_law.ensures.back
    c.form_laws.ensures.one_path c.values_law.ensures.fit
