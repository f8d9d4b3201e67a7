use Rattle.std.proofs.Common.{ap, ◌∙◌}
use Rattle.prism_exprs.specs.Kept.{is_ascii_text}
use Rattle.prism_exprs.proofs.Ascii.{bytes_ascii, ascii_utf8}
use Rattle.prism_exprs.proofs.tokens.Tokens.name.Goals as goal

pub from_utf8_unchecked-requires : goal.from_utf8_unchecked-requires
from_utf8_unchecked-requires c = ascii_utf8 _ (bytes_ascii _ c.if-not-is_ascii.ensures.cases)

pub returns-clause-some : goal.returns-clause-some
returns-clause-some c = (c.from_utf8_unchecked.ensures ∙ c.text-text.ensures, ap is_ascii_text c.from_utf8_unchecked.ensures ∙ bytes_ascii _ c.if-not-is_ascii.ensures.cases)
