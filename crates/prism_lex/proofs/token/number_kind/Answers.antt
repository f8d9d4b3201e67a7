use Rattle.std.proofs.Common.{◌∙◌, Bool, Some, None, cond, ap, refl, sym}
use Rattle.bridge_io.specs.declared.reason.Reason.TheVariants.{BadNumber}
use Rattle.frac_core.specs.Numeral.{worth}
use Rattle.frac_core.proofs.Worth.{beyond_none}
use Rattle.prism_lex.specs.declared.token.TokenKind.TheVariants.{Number}
use Rattle.prism_lex.proofs.token.number_kind.Goals as goal

pub returns-in-None-clause-err : goal.returns-in-None-clause-err
returns-in-None-clause-err c =
    let past = beyond_none c.args.text.now (sym c.decimal_of.ensures ∙ c.in-None.is) in
    (Number (worth c.args.text.now), record { number = c.requires; value = refl }, ap (λ (b : Bool). cond b (Some BadNumber) None) past)
