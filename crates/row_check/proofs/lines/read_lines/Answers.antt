use Rattle.std.proofs.Common.{◌∷◌, ◌++◌, [], Err, sym, ap, ◌∙◌, subst, append-nil, refl}
use Rattle.row_check.specs.Forms.{ReadsItems}
use Rattle.row_check.specs.Lines.{Line, AreRead, Hold, ReadsText, lines_at}
use Rattle.row_check.proofs.Reading.{line_holds, line_later, line_breaks}
use Rattle.row_check.proofs.lines.read_lines.Goals as goal

pub returns-in-None : goal.returns-in-None
returns-in-None g c =
    let bytes = c.args.bytes.now in
    let from = c.loop-line.from in
    let items = c.loop-line.held.items in
    let Next = g.F.LineForm.next c.args.listed in
    let line = c.in-Some.line.now in
    let l : Line = record { at = from; text = line } in
    let told = subst (ReadsText (Next c.as_slice.result.now line)) c.in-None.is c.in_ok-it.ensures.line in
    let none = subst (λ before. (it : g.row.T.Denot) → ¬ (Next before line it)) c.as_slice.ensures.value told in
    subst (λ f. ReadsItems (AreRead Next (lines_at bytes c.args.at)) (Err f)) (sym c.broken.ensures)
    (refl, line_breaks Next items (lines_at bytes c.args.at) (lines_at bytes from) (lines_at bytes c.in-Some.next) l c.in-Some.ensures.0 none c.loop-line.invariant.breaks)

pub loop-line-preserved : goal.loop-line-preserved
loop-line-preserved g c =
    let bytes = c.args.bytes.now in
    let from = c.loop-line.from in
    let next = c.in-Some.next in
    let items = c.loop-line.held.items in
    let new = c.push.new.self.items in
    let Next = g.F.LineForm.next c.args.listed in
    let line = c.in-Some.line.now in
    let it = c.in-Some-2.it in
    let l : Line = record { at = from; text = line } in
    let whole = lines_at bytes c.args.at in
    let same = c.as_slice.ensures.value in
    let more = c.in-Ok.ensures.items in
    let held = subst (λ before. Next before line it) same (subst (ReadsText (Next c.as_slice.result.now line)) c.in-Some-2.is c.in_ok-it.ensures.line) in
    record {
      within = c.in-Some.ensures.2;
      keeps = subst (g.F.LineForm.keeps c.read.new.self) (ap (λ before. before ++ it ∷ []) same ∙ sym more) (c.in_ok-it.ensures.keeps it c.in-Some-2.is);
      hold = line_holds Next items whole (lines_at bytes from) (lines_at bytes next) l c.in-Some.ensures.0 it new more held c.loop-line.invariant.hold;
      breaks = line_later Next items whole (lines_at bytes from) (lines_at bytes next) l c.in-Some.ensures.0 it new more held c.loop-line.invariant.breaks;
    }

pub returns : goal.returns
returns g c =
    let items = c.loop-line.held.items in
    let Next = g.F.LineForm.next c.args.listed in
    subst (Hold Next [] (lines_at c.args.bytes.now c.args.at)) (append-nil items)
    (c.loop-line.invariant.hold [] (subst (λ ls. Hold Next items ls []) (sym c.in_default.ensures.1) refl))
