use Rattle.std.proofs.Common.{Ok, arith, sym, subst}
use Rattle.row_check.specs.Forms.{ReadsBounds}
use Rattle.row_check.proofs.BoundLines.{enough}
use Rattle.row_check.proofs.bounds_file.read_bounds.Goals as goal

pub returns : goal.returns
returns c =
    let whole = enough c.args.listed c.args.bytes.now c.in-Ok.bounds.items c.in-Ok.ensures (let l = c.if-len-listed.false in let n = c.len.ensures in omega arith) in
    subst (λ xs. ReadsBounds c.args.listed c.args.bytes.now (Ok xs)) (sym c.from_vec.ensures) whole
