use Rattle.std.proofs.Common.{arith, ◌≡◌, ◌<◌, ◌≤◌, ◌+◌, ◌-◌, ℕ, le_trans, le_of_eq, sym, ◌∙◌}
use Rattle.bridge_io.proofs.Marks.{on_full, on_line, place_at, place_behind}
use Rattle.bridge_io.proofs.line_map.LineMap.place.Goals.{then-mark, else-mark}
use Rattle.bridge_io.proofs.line_map.LineMap.place.Goals as goal

-- what a step over a full mark keeps
full_keeps : (run at line before new_at new_line new_before offset : ℕ) → at ≤ offset → line ≤ 1 + at → before ≤ at → run < offset - at → new_at ≡ at + run → new_line ≡ line → new_before ≡ before + run
    → (new_at ≤ offset) × (new_line ≤ 1 + new_at) × (new_before ≤ new_at)
full_keeps run at line before new_at new_line new_before offset past few near far at_is line_is before_is = (omega arith, omega arith, omega arith)

-- what a step over a line keeps
line_keeps : (run at line new_at new_line new_before offset : ℕ) → at ≤ offset → line ≤ 1 + at → run < offset - at → new_at ≡ at + (run + 1) → new_line ≡ line + 1 → new_before ≡ 0
    → (new_at ≤ offset) × (new_line ≤ 1 + new_at) × (new_before ≤ new_at)
line_keeps run at line new_at new_line new_before offset past few far at_is line_is before_is = (omega arith, omega arith, omega arith)

pub returns-then-offset-at-clause-line : goal.returns-then-offset-at-clause-line
returns-then-offset-at-clause-line c = λ bytes mapped. c.behind.ensures.line
    ∙ (place_at bytes _ _ _ _ _ _ _ _ _ _ c.as_slice-mark-items.ensures mapped.2 c.loop-mark-test.true c.from-run.ensures c.loop-mark.invariant.along c.loop-mark.invariant.within c.if-offset-at.true).0

pub returns-then-offset-at-clause-column : goal.returns-then-offset-at-clause-column
returns-then-offset-at-clause-column c = λ bytes mapped. c.behind.ensures.column
    ∙ (place_at bytes _ _ _ _ _ _ _ _ _ _ c.as_slice-mark-items.ensures mapped.2 c.loop-mark-test.true c.from-run.ensures c.loop-mark.invariant.along c.loop-mark.invariant.within c.if-offset-at.true).1

pub loop-mark-preserved : goal.loop-mark-preserved
loop-mark-preserved c =
    let was = c.loop-mark.invariant in
    elim c.if-mark.branch [
      | then-mark w ↦
          let kept = full_keeps _ _ _ _ _ _ _ _ was.within was.few was.near c.if-offset-at.false w.at-is w.line-is w.since-is in
          record {
            along = on_full _ _ _ _ _ _ _ _ _ _ c.loop-mark-test.true c.from-run.ensures w.if-mark.true was.along w.at-is w.line-is w.since-is;
            within = kept.0;
            few = kept.1;
            near = kept.2;
          }
      | else-mark w ↦
          let kept = line_keeps _ _ _ _ _ _ _ was.within was.few c.if-offset-at.false w.at-is w.line-is w.since-is in
          record {
            along = on_line _ _ _ _ _ _ _ _ _ _ c.loop-mark-test.true c.from-run.ensures w.if-mark.false was.along w.at-is w.line-is w.since-is;
            within = kept.0;
            few = kept.1;
            near = kept.2;
          }
    ]

pub returns-clause-line : goal.returns-clause-line
returns-clause-line c = λ bytes mapped. c.behind-2.ensures.line
    ∙ (place_behind bytes _ _ _ _ _ _ _ _ c.as_slice-mark-items.ensures mapped.2 c.loop-mark-test.false c.loop-mark.invariant.along c.loop-mark.invariant.within (le_trans c.requires (le_of_eq (sym mapped.1)))).0

pub returns-clause-column : goal.returns-clause-column
returns-clause-column c = λ bytes mapped. c.behind-2.ensures.column
    ∙ (place_behind bytes _ _ _ _ _ _ _ _ c.as_slice-mark-items.ensures mapped.2 c.loop-mark-test.false c.loop-mark.invariant.along c.loop-mark.invariant.within (le_trans c.requires (le_of_eq (sym mapped.1)))).1
