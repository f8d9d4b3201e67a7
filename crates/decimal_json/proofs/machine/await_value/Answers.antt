use Rattle.std.proofs.Common.{sym, ap, ◌∙◌}
use Rattle.decimal_json.specs.declared.machine.Mode.{Mode}
use Rattle.decimal_json.proofs.machine.await_value.Goals as goal

pub returns-then-is_value : goal.returns-then-is_value
returns-then-is_value c = ap (λ (m : Mode). record { mode = m; frames = c.args.state.now.frames }) (sym c.as_mode.ensures ∙ c.is_value.ensures c.if-is_value.true)
