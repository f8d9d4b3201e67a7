use Rattle.std.proofs.Common.{◌∙◌, sym}
use Rattle.prism_exprs.proofs.Ascii.{ascii_utf8}
use Rattle.prism_tree.specs.Laws.{unquoted_is}
use Rattle.prism_items.proofs.Seen.{ascii_between}
use Rattle.prism_items.proofs.readers.between.Goals as goal

pub from_utf8_unchecked-requires : goal.from_utf8_unchecked-requires
from_utf8_unchecked-requires c =
    ascii_utf8 _ (ascii_between _ _ _ _ _ (sym c.as_bytes.ensures.value ∙ c.in-Some.ensures.cases.0) c.in-Some-split_last.ensures.cases.0 c.requires)

pub returns : goal.returns
returns c = c.from_utf8_unchecked.ensures ∙ sym (unquoted_is _ _ _ _ _ (sym c.as_bytes.ensures.value ∙ c.in-Some.ensures.cases.0) c.in-Some-split_last.ensures.cases.0)
