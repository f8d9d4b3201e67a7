use Rattle.std.specs.Prelude.{◌≡◌, ◌<◌, ℕ, length, List, Option, Some, Bool, true, false, nat_eq, slice_get, unwrap_or, if◌then◌else◌}
use Rattle.std.specs.Option.{option_map}
use Rattle.std.proofs.Common.{◌∙◌, ap, sym, refl, arith, eqb-true}
use Rattle.std.proofs.lemmas.Option.{slice_get-get_or}
use Rattle.edge_tables.specs.declared.shared.Writing as code
use Rattle.edge_tables.specs.Counts.{unwritten, noted, note_if}
use Rattle.edge_tables.specs.Code.{writing_view}
use Rattle.edge_tables.proofs.Splitting.{set_get}
use Rattle.edge_tables.proofs.shared.Writings.note.Goals as goal

noted_at : (xs : List code.Writing) (i p k : ℕ) (b : Bool) (new : code.Writing) (old : Option code.Writing) → writing_view new ≡ noted k b (unwrap_or (option_map writing_view (slice_get xs p)) unwritten) → old ≡ slice_get xs i →
    (c : Bool) → nat_eq i p ≡ c → unwrap_or (option_map writing_view (if c then Some new else old)) unwritten ≡ note_if c k b (unwrap_or (option_map writing_view (slice_get xs i)) unwritten)
noted_at xs i p k b new old here same true e = here ∙ ap (λ j. noted k b (unwrap_or (option_map writing_view (slice_get xs j)) unwritten)) (sym (eqb-true i p e))
noted_at xs i p k b new old here same false e = ap (λ (o : Option code.Writing). unwrap_or (option_map writing_view o) unwritten) same

pub returns-then-place-len-clause-noted : goal.returns-then-place-len-clause-noted
returns-then-place-len-clause-noted c = λ i l.
    let table = c.args.self.now.table in
    let lt : c.args.place < length table.items = omega (arith, c.if-place-len.true, c.len.ensures, table.ok.0) in
    let here : writing_view c.noted.result ≡ noted c.args.element c.args.binding (unwrap_or (option_map writing_view (slice_get table.items c.args.place)) unwritten) =
    c.noted.ensures
    ∙ ap (noted c.args.element c.args.binding)
    (ap writing_view c.index.ensures ∙ ap (λ (o : Option code.Writing). unwrap_or (option_map writing_view o) unwritten) (sym (slice_get-get_or table.items c.args.place c.index.result.now lt))) in
    ap (λ (o : Option code.Writing). unwrap_or (option_map writing_view o) unwritten) (set_get table.items c.args.place i c.noted.result lt)
    ∙ noted_at table.items i c.args.place c.args.element c.args.binding c.noted.result (slice_get table.items i) here refl (nat_eq i c.args.place) refl
