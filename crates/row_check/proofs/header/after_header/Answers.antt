use Rattle.std.proofs.Common.{ℕ, Err, length, refl, sym, subst}
use Rattle.row_check.specs.Forms.{IsBehindHeader, IsHeader}
use Rattle.row_check.specs.Lines.{Line, lines, lines_at}
use Rattle.row_check.proofs.Reading.{missing, first_breaks}
use Rattle.row_check.proofs.header.after_header.Goals as goal

pub returns-in-None : goal.returns-in-None
returns-in-None g c =
    let bytes = c.args.bytes.now in
    let p = g.S.Steps.process c.args.s.now in
    subst (λ f. IsBehindHeader p bytes (Err f)) (sym c.broken.ensures)
    (refl, missing {Y = ℕ} (IsHeader p) (λ x ls r. ⊥) (length bytes) (lines bytes) 0 c.in-None.ensures.0 c.in-None.ensures.1)

pub returns-in-Ok-true : goal.returns-in-Ok-true
returns-in-Ok-true g c =
    let l : Line = record { at = 0; text = c.in-Some.line.now } in
    (c.in-Some.ensures.2, (l, c.in-Some.ensures.0, c.in-Ok-true.ensures.0 c.in-Ok-true.field-0-test))

pub returns-in-Ok-false : goal.returns-in-Ok-false
returns-in-Ok-false g c =
    let bytes = c.args.bytes.now in
    let p = g.S.Steps.process c.args.s.now in
    let l : Line = record { at = 0; text = c.in-Some.line.now } in
    subst (λ f. IsBehindHeader p bytes (Err f)) (sym c.broken-in-Ok-false.ensures) (
      refl,
      first_breaks {Y = ℕ} (IsHeader p) (λ x ls r. ⊥) (length bytes) (lines bytes) (lines_at bytes c.in-Some.next) l c.in-Some.ensures.0
          (λ u h. let yes = c.in-Ok-false.ensures.1 h in let no = c.in-Ok-false.field-0-test in absurd cc),
    )

pub returns-in-Err : goal.returns-in-Err
returns-in-Err g c = tt
