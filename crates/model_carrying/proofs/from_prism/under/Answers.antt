use Rattle.std.proofs.Common.{◌∙◌, ap, map, subst, sym}
use Rattle.instance_start.specs.Given.{given_by}
use Rattle.instance_start.specs.Started.{Starts}
use Rattle.prism_instance.specs.Described.{prism_description}
use Rattle.prism_instance.specs.Instance as prism
use Rattle.jani_tree.specs.Syntax.{file_of}
use Rattle.jani_instance.specs.Described.{jani_description}
use Rattle.jani_instance.specs.Instance as jani
use Rattle.command_words.specs.Given.{assignment_of}
use Rattle.command_words.specs.Words.{carrying_of}
use Rattle.model_process.specs.Constants.{good_front}
use Rattle.model_process.specs.Starts.{Begins, IsBehind}
use Rattle.model_carrying.specs.Values.{values_there}
use Rattle.model_carrying.proofs.PairToJani.{may_meet, paired_to_jani}
use Rattle.model_carrying.proofs.from_prism.under.Goals as goal

pub returns : goal.returns
returns c =
    let k = carrying_of c.args.carrying.now in
    let d = prism_description c.args.written.now in
    let e = jani_description (file_of c.args.model.now) in
    let values = c.as_slice-values.ensures in
    let here = subst (λ gs. Starts prism.process_of d gs c.start_prism-started.result) c.requires.front c.start_prism-started.ensures in
    let begins = subst (λ vs. Begins prism.process_of d 4 (map assignment_of vs) c.begun-here.result) values
    (c.begun-here.ensures d 4 (subst (λ vs. IsBehind 4 (map assignment_of vs) c.args.next) (sym values) c.requires.behind)
    (subst (λ vs. Starts prism.process_of d (good_front (map assignment_of vs)) c.start_prism-started.result) (sym values) here)) in
    let starts = subst (λ ts. Starts jani.process_of e ts c.start_jani-there.result)
    (c.as_slice.ensures ∙ c.in_ok-values_there.ensures ∙ ap (λ gs. values_there d.constants e.constants (given_by gs)) c.requires.front) c.start_jani-there.ensures in
    c.through.ensures d e k c.requires.lang
    (paired_to_jani c.described_law.ensures c.values_law.ensures.fit c.values_law.ensures.alike c.together_law.ensures.jani c.together_law.ensures.given
    c.requires.pair.0 c.args.written.now (file_of c.args.model.now) c.requires.pair.1 c.args.map.now k.given)
    begins starts

pub through-requires : goal.through-requires
through-requires c =
    let k = carrying_of c.args.carrying.now in
    let d = prism_description c.args.written.now in
    let e = jani_description (file_of c.args.model.now) in
    let values = c.as_slice-values.ensures in
    let here = subst (λ gs. Starts prism.process_of d gs c.start_prism-started.result) c.requires.front c.start_prism-started.ensures in
    let begins = subst (λ vs. Begins prism.process_of d 4 (map assignment_of vs) c.begun-here.result) values
    (c.begun-here.ensures d 4 (subst (λ vs. IsBehind 4 (map assignment_of vs) c.args.next) (sym values) c.requires.behind)
    (subst (λ vs. Starts prism.process_of d (good_front (map assignment_of vs)) c.start_prism-started.result) (sym values) here)) in
    let starts = subst (λ ts. Starts jani.process_of e ts c.start_jani-there.result)
    (c.as_slice.ensures ∙ c.in_ok-values_there.ensures ∙ ap (λ gs. values_there d.constants e.constants (given_by gs)) c.requires.front) c.start_jani-there.ensures in
    may_meet c.described_law.ensures c.values_law.ensures.fit c.values_law.ensures.alike c.together_law.ensures.jani c.together_law.ensures.given
    c.carry_law.ensures.same c.carry_law.ensures.labels c.carry_law.ensures.short c.carry_law.ensures.places
    c.requires.pair.0 c.args.written.now (file_of c.args.model.now) c.requires.pair.1 c.args.map.now c.requires.map k prism.process_of jani.process_of c.begun-here.result c.start_jani-there.result begins starts
