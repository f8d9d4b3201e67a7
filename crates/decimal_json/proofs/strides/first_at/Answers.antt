use Rattle.std.proofs.Common.{refl, sym, ◌∙◌, arith, ne_eqb}
use Rattle.decimal_json.specs.declared.machine.Mode.TheVariants as modes
use Rattle.decimal_json.proofs.Tokens.{from_mode, begins_first}
use Rattle.decimal_json.proofs.strides.first_at.Goals as goal

pub returns-then-is_space : goal.returns-then-is_space
returns-then-is_space c =
    from_mode c.args.at c.args.n c.args.bytes.now (modes.First c.args.start) c.args.state.now.frames _ c.in_first.new.state c.in_first.result c.taken.result refl c.requires.some c.taken.ensures tt c.in_first.ensures

pub returns-then-c-eq93 : goal.returns-then-c-eq93
returns-then-c-eq93 c =
    from_mode c.args.at c.args.n c.args.bytes.now (modes.First c.args.start) c.args.state.now.frames _ c.in_first-then-c-eq93.new.state c.in_first-then-c-eq93.result c.taken-then-c-eq93.result refl c.requires.some c.taken-then-c-eq93.ensures tt c.in_first-then-c-eq93.ensures

pub returns-in-Ok : goal.returns-in-Ok
returns-in-Ok c =
    c.value_at.ensures _ (begins_first _ _ c.args.start c.args.state.now.frames _ _ (sym c.is_space.ensures ∙ c.if-is_space.false) (ne_eqb _ _ (λ f. omega arith)) c.new.ensures c.in-Ok.ensures.ok)
