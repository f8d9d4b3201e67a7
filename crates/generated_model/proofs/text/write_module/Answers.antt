use Rattle.std.specs.Prelude.{string_bytes}
use Rattle.std.proofs.lemmas.Result.{on_ok_weaker}
use Rattle.generated_model.proofs.Texts.{module_written}
use Rattle.generated_model.proofs.text.write_module.Goals as goal

pub returns : goal.returns
returns c =
    on_ok_weaker c.add-3.result
    (λ e. module_written c.args.k (string_bytes c.args.text.now) _ _ _ _ _ (string_bytes c.add-3.new.text) c.in_ok-add.ensures c.in_ok-add-2.ensures e c.in_ok-front_text.ensures c.in_ok-handed_text.ensures c.in_ok-back_text.ensures)
    c.add-3.ensures
