use Rattle.std.proofs.Common.{rules, arith, ◌≡◌, ◌∙◌, ap, sym, ◌++◌}
use Rattle.std.specs.Prelude.{codes, string_bytes}
use Rattle.prism_print.specs.Text.{module_text}
use Rattle.generated_model.specs.Generated.{generated_module}
use Rattle.generated_model.proofs.Texts.{one_more, text_before, whole_text}
use Rattle.generated_model.proofs.text.generated_text.Goals as goal

pub loop-k-preserved : goal.loop-k-preserved
loop-k-preserved c = c.in_ok-write_module.ensures ∙ ap (λ a. a ++ (codes "\n" ++ module_text (generated_module c.loop-k.k))) c.loop-k.invariant ∙ sym (one_more c.loop-k.k)

pub returns : goal.returns
returns c =
    let all : c.loop-k.k ≡ c.args.modules = omega arith in
    let bytes : c.from_vec.result ≡ string_bytes c.loop-k.text = search rules in
    bytes ∙ c.loop-k.invariant ∙ ap text_before all ∙ whole_text c.args.modules
