use Rattle.std.proofs.Common.{[], refl, ◌∙◌, arith}
use Rattle.decimal_json.specs.declared.chars.Within.TheVariants.{Between}
use Rattle.decimal_json.proofs.Passing.{plain_passes}
use Rattle.decimal_json.proofs.letters.plain_string.Goals as goal

pub returns : goal.returns
returns c = (
  (let a = c.plain_front-n.ensures.all.0 in let e = c.if-n-bytes.false in omega (arith, a, e)),
  plain_passes _ [] _ Between refl c.plain_front-n.ensures.all.1 (c.in_ok-text.ensures ∙ c.plain_text.ensures),
  (let e = c.if-bytes-n-ne34.false in omega (arith, e)),
)
