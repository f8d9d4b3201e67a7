use Rattle.std.proofs.Common.{ℕ, Err, length, refl, sym, subst}
use Rattle.row_check.specs.Forms.{AreCountsFirst, IsCounts}
use Rattle.row_check.specs.Lines.{Line, lines, lines_at}
use Rattle.row_check.proofs.Reading.{missing, first_breaks}
use Rattle.row_check.proofs.row_files.read_counts.Goals as goal

pub returns-in-None : goal.returns-in-None
returns-in-None c =
    let bytes = c.args.bytes.now in
    subst (λ f. AreCountsFirst bytes (Err f)) (sym c.broken.ensures)
    (refl, missing {Y = ℕ} IsCounts (λ x ls r. ⊥) (length bytes) (lines bytes) 0 c.in-None.ensures.0 c.in-None.ensures.1)

pub returns-in-Some-counts_of : goal.returns-in-Some-counts_of
returns-in-Some-counts_of c =
    let l : Line = record { at = 0; text = c.in-Some.line.now } in
    (c.in-Some.ensures.2, (l, c.in-Some.ensures.0, c.in-Some-counts_of.ensures))

pub returns-in-None-counts_of : goal.returns-in-None-counts_of
returns-in-None-counts_of c =
    let bytes = c.args.bytes.now in
    let l : Line = record { at = 0; text = c.in-Some.line.now } in
    subst (λ f. AreCountsFirst bytes (Err f)) (sym c.broken-in-None-counts_of.ensures)
    (refl, first_breaks {Y = ℕ} IsCounts (λ x ls r. ⊥) (length bytes) (lines bytes) (lines_at bytes c.in-Some.next) l c.in-Some.ensures.0 c.in-None-counts_of.ensures)
