use Rattle.std.proofs.Common.{◌<◌, length, arith}
use Rattle.row_check.proofs.NextLine.{line_at, after_within, after_later}
use Rattle.row_check.proofs.lines.line_at.Goals as goal

pub returns : goal.returns
returns c =
    let bytes = c.args.bytes.now in
    let at = c.args.at in
    let end = c.line_end-end.result in
    let l : at < length bytes = omega arith in (
      line_at bytes at end c.after.result l c.line_end-end.ensures.end c.line_end-end.ensures.within c.after.ensures,
      after_later bytes at end c.after.result l c.line_end-end.ensures.end c.after.ensures,
      after_within bytes end c.after.result c.line_end-end.ensures.within c.after.ensures,
    )
