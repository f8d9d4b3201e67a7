use Rattle.std.specs.Prelude.{length, map, nat_eq}
use Rattle.std.proofs.Common.{◌∙◌, sym, ap}
use Rattle.std.proofs.lemmas.List.{length-map}
use Rattle.bridge_io.specs.declared.reason.Reason.TheVariants.{Nothing}
use Rattle.prism_tree.specs.Syntax.{file_of, module_of}
use Rattle.name_rules.specs.Least.{fault_if, soonest}
use Rattle.prism_check.specs.Tables.{copy_faults_by, module_under, named_module}
use Rattle.std.specs.List.{flat_map}
use Rattle.prism_check.proofs.CopyParts.{copies_are}
use Rattle.prism_check.proofs.names.judge_copied.Goals as goal

pub returns : goal.returns
returns c =
    let f = c.args.file.now in
    let judged = rw c.in_ok-copies.was at c.judge_copies-judged.ensures in
    let called = module_under c.in_ok-modules.modules in
    c.sooner_if.ensures
    ∙ ap (λ n. soonest c.in_ok-copies.copies (fault_if (nat_eq n 0) f.end Nothing)) (c.len-empty.ensures ∙ sym (length-map f.modules module_of))
    ∙ ap (λ b. soonest b (fault_if (nat_eq (length (map module_of f.modules)) 0) f.end Nothing))
    (judged
    ∙ ap (λ ms. soonest c.args.before (flat_map (copy_faults_by called) (map module_of ms))) c.as_slice-2.ensures
    ∙ ap (soonest c.args.before) (copies_are (file_of f) called (map module_of f.modules) (λ x. c.in_ok-modules.ensures x ∙ ap (λ ms. named_module ms x) c.as_slice.ensures)))
