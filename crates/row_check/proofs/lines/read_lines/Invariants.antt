use Rattle.std.proofs.Common.{◌≤◌, ◌-◌, ◌++◌, ℕ, List, [], length}
use Rattle.row_check.specs.Lines.{Hold, BreakAt, lines_at}
use Rattle.row_check.proofs.lines.read_lines.Given as goal

abbrev pub invariant-loop-line : goal.invariant-loop-line
invariant-loop-line g l = record {
  within : l.from ≤ length l.bytes;
  keeps : g.F.LineForm.keeps l.form l.held.items;
  hold : (cs : List g.row.T.Denot) → Hold (g.F.LineForm.next l.listed) l.held.items (lines_at l.bytes l.from) cs → Hold (g.F.LineForm.next l.listed) [] (lines_at l.bytes l.at) (l.held.items ++ cs);
  breaks : (o : ℕ) → BreakAt (g.F.LineForm.next l.listed) l.held.items (lines_at l.bytes l.from) o → BreakAt (g.F.LineForm.next l.listed) [] (lines_at l.bytes l.at) o;
}

abbrev pub decreases-loop-line : goal.decreases-loop-line
decreases-loop-line g l = length l.bytes - l.from
