use Rattle.std.proofs.Common.{sym, subst}
use Rattle.model_command.specs.Tasks.{Judged}
use Rattle.model_command.proofs.Tasked.{to_jani_judged, properties_judged}
use Rattle.model_command.proofs.on_files.perform.Goals as goal

pub translate-requires : goal.translate-requires
translate-requires c = (c.args.bytes.now, c.prism_in.ensures)

pub returns-in-ToJani : goal.returns-in-ToJani
returns-in-ToJani c =
    subst (λ t. Judged t c.args.bytes.now c.translate.result) (sym c.in-ToJani.is) (to_jani_judged c.args.bytes.now c.translate.result (c.translate.ensures c.args.bytes.now c.prism_in.ensures))

pub returns-in-ToPrismProps : goal.returns-in-ToPrismProps
returns-in-ToPrismProps c =
    subst (λ t. Judged t c.args.bytes.now c.translate_properties.result) (sym c.in-ToPrismProps.is)
    (properties_judged c.args.bytes.now c.translate_properties.result (c.translate_properties.ensures c.args.bytes.now c.jani_in-in-ToPrismProps.ensures))

pub returns-in-ToPrism : goal.returns-in-ToPrism
returns-in-ToPrism c =
    subst (λ t. Judged t c.args.bytes.now c.translate_to_prism.result) (sym c.in-ToPrism.is) (c.translate_to_prism.ensures c.args.bytes.now c.jani_in.ensures)

pub returns-in-CheckPrism : goal.returns-in-CheckPrism
returns-in-CheckPrism c =
    subst (λ t. Judged t c.args.bytes.now c.count_prism.result) (sym c.in-CheckPrism.is) (c.count_prism.ensures c.args.bytes.now c.prism_in-in-CheckPrism.ensures)

pub returns-in-CheckJani : goal.returns-in-CheckJani
returns-in-CheckJani c =
    subst (λ t. Judged t c.args.bytes.now c.count_jani.result) (sym c.in-CheckJani.is) (c.count_jani.ensures c.args.bytes.now c.jani_in-in-CheckJani.ensures)
