use Rattle.std.proofs.Common.{ap}
use Rattle.prism_tree.specs.Syntax.{body_of, file_of, module_of}
use Rattle.prism_flat.proofs.Contents.{if_ok}
use Rattle.prism_check.proofs.TypesJudged.{plain_is, copy_is}
use Rattle.prism_check.proofs.types.judge_module.Goals as goal

pub returns-in-Plain : goal.returns-in-Plain
returns-in-Plain c =
    if_ok _ _
    (λ best h. plain_is c.args.names.now (file_of c.args.file.now) c.requires.names c.requires.unchanged c.args.number (body_of c.in-Plain.field-0) (module_of c.args.entry.now) c.args.before best
    (ap module_of c.in-Plain.is) h)
    c.judge_plain.result c.judge_plain.ensures

pub returns-in_ok-written-in-Copied : goal.returns-in_ok-written-in-Copied
returns-in_ok-written-in-Copied c =
    if_ok _ _
    (λ best h. copy_is c.args.names.now (file_of c.args.file.now) c.requires.names c.requires.unchanged c.args.number c.in-Copied.m (module_of c.args.entry.now)
    (module_of c.in_ok-written-in-Copied.written) c.args.before best (ap module_of c.in-Copied.is) c.in_ok-written-in-Copied.ensures h)
    c.judge_plain-judged.result c.judge_plain-judged.ensures
