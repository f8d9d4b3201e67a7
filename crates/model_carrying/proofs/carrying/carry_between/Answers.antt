use Rattle.std.proofs.Common.{subst}
use Rattle.command_words.specs.Words.{carrying_of}
use Rattle.model_process.specs.ReadModels.{IsRead}
use Rattle.model_process.proofs.ByLanguage.{prism_read, jani_read}
use Rattle.model_carrying.proofs.carrying.carry_between.Goals as goal

pub from_prism-requires-clause-lang : goal.from_prism-requires-clause-lang
from_prism-requires-clause-lang c =
    let l = (carrying_of c.args.carrying.now).lang in
    let some = c.requires.read in
    (prism_read l some.0 c.in-Prism.model (subst (IsRead l some.0) c.in-Prism.is some.1)).0

pub from_prism-requires-clause-read : goal.from_prism-requires-clause-read
from_prism-requires-clause-read c =
    let l = (carrying_of c.args.carrying.now).lang in
    let some = c.requires.read in
    (some.0, (prism_read l some.0 c.in-Prism.model (subst (IsRead l some.0) c.in-Prism.is some.1)).1)

pub returns-in-Prism : goal.returns-in-Prism
returns-in-Prism c = λ bytes read.
    let l = (carrying_of c.args.carrying.now).lang in
    c.from_prism.ensures bytes (prism_read l bytes c.in-Prism.model (subst (IsRead l bytes) c.in-Prism.is read)).1

pub from_jani-requires-clause-lang : goal.from_jani-requires-clause-lang
from_jani-requires-clause-lang c =
    let l = (carrying_of c.args.carrying.now).lang in
    let some = c.requires.read in
    (jani_read l some.0 c.in-Jani.model (subst (IsRead l some.0) c.in-Jani.is some.1)).0

pub returns-in-Jani : goal.returns-in-Jani
returns-in-Jani c = λ bytes read.
    let l = (carrying_of c.args.carrying.now).lang in
    c.from_jani.ensures bytes (jani_read l bytes c.in-Jani.model (subst (IsRead l bytes) c.in-Jani.is read)).1
