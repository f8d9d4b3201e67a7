use Rattle.std.proofs.Common.{◌≡◌, ℕ, List, ◌++◌, refl, sym, ap, ◌∙◌}
use Rattle.std.proofs.lemmas.Option.{slice_get_within, get_or_from_slice_get}
use Rattle.gathering.proofs.Loops.{paired_flat}
use Rattle.process_core.specs.Ready.{Name}
use Rattle.process_core.specs.declared.data.Mark.{Mark}
use Rattle.walk_texts.specs.Lines.{mark_line, mark_lines}
use Rattle.walk_texts.proofs.state.push_marks.Goals as goal

-- a line that is pushed is that of the mark's name
pushed : (before after : List ℕ) (m : Mark) (written name : Name) → after ≡ before ++ mark_line m written → written ≡ name → after ≡ before ++ mark_line m name
pushed before after m written name e f = e ∙ ap (λ x. before ++ mark_line m x) f

pub loop-i-preserved : goal.loop-i-preserved
loop-i-preserved g c =
    let names = (g.S.Steps.process c.args.s.now).mark_names in
    let e = c.in_ok-name.ensures in
    paired_flat mark_lines mark_line (λ x y xs ys. refl) _ _ _ c.args.marks.now names c.loop-i.i c.index-marks-i.result c.in_ok-name.name c.loop-i-test.true (slice_get_within names c.loop-i.i c.in_ok-name.name e) c.index-marks-i.is
    (sym (get_or_from_slice_get names c.loop-i.i c.in_ok-name.name c.in_ok-name.name e)) c.loop-i.invariant (pushed _ _ _ _ _ c.in_ok-push_mark.ensures c.as_str.ensures)
