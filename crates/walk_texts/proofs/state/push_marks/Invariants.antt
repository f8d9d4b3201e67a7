use Rattle.std.proofs.Common.{◌≡◌, ◌++◌, drop}
use Rattle.walk_texts.specs.Lines.{mark_lines}
use Rattle.walk_texts.proofs.state.push_marks.Given as goal

abbrev pub invariant-loop-i : goal.invariant-loop-i
invariant-loop-i g l =
    let names = (g.S.Steps.process l.s).mark_names in
    l.out.items ++ mark_lines (drop l.i l.marks) (drop l.i names) ≡ l.fn.out.items ++ mark_lines l.marks names
