use Rattle.std.proofs.Common.{◌≡◌, ◌∙◌, ◌<◌, ◌+◌, ◌++◌, ◌∷◌, [], ℕ, List, Bool, true, false, Vec, Global, length, get_or, map, take, sym, ap, ap₂, append-nil}
use Rattle.std.specs.Borrow.{Bor}
use Rattle.std.specs.List.{filter, flat_map}
use Rattle.std.proofs.lemmas.List.Concat.{flat_map-append}
use Rattle.process_core.specs.Instance.{only_if}
use Rattle.gathering.proofs.Loops.{kept_more}
use Rattle.prism_targets.specs.declared.rows.VectorRow.{VectorRow}
use Rattle.edge_tables.specs.Tables.{Row, all_numbers, blocks}
use Rattle.edge_tables.specs.Code.{table_view}
use Rattle.prism_targets.specs.Code.{row_view}
use Rattle.prism_targets.proofs.served.blocked.Goals as goal
use Rattle.prism_targets.proofs.served.blocked.Goals.{then-is_blocking+in_ok-add_range, else-is_blocking}

module _ (p : Row → Bool) (s : Bor VectorRow → Row) (xs : List (Bor VectorRow)) (i : ℕ) (x : Bor VectorRow) (within : i < length xs) (here : x ≡ get_or xs i x) where
  -- the numbers of one more that passes the test
  added : (old new : List ℕ) → p (s x) ≡ true → old ≡ flat_map all_numbers (filter p (map s (take i xs))) → new ≡ old ++ all_numbers (s x) →
      new ≡ flat_map all_numbers (filter p (map s (take (i + 1) xs)))
  added old new passes so_far pushed =
      pushed
      ∙ ap₂ (λ (a b : List ℕ). a ++ b) so_far (sym (append-nil (all_numbers (s x))))
      ∙ sym (flat_map-append all_numbers (filter p (map s (take i xs))) (s x ∷ []))
      ∙ ap (flat_map all_numbers) (ap (λ b. filter p (map s (take i xs)) ++ only_if b (s x)) (sym passes) ∙ sym (kept_more p s xs i x within here))

  -- one more that doesn't
  left_out : (old : List ℕ) → p (s x) ≡ false → old ≡ flat_map all_numbers (filter p (map s (take i xs))) → old ≡ flat_map all_numbers (filter p (map s (take (i + 1) xs)))
  left_out old fails so_far =
      so_far
      ∙ ap (flat_map all_numbers)
      (sym (append-nil (filter p (map s (take i xs)))) ∙ ap (λ b. filter p (map s (take i xs)) ++ only_if b (s x)) (sym fails) ∙ sym (kept_more p s xs i x within here))

pub loop-row-preserved : goal.loop-row-preserved
loop-row-preserved c =
    let p = blocks c.args.element (table_view c.args.edges.now) in
    let s = λ (r : Bor VectorRow). row_view r.now in
    elim c.if-is_blocking.branch [
      | then-is_blocking+in_ok-add_range w ↦
          added p s c.args.rows.now c.loop-row.row-index c.row-item.result c.loop-row-test.true c.row-item.is c.loop-row.all.items c.if-is_blocking.all.items
          (sym c.is_blocking.ensures ∙ w.if-is_blocking.true) c.loop-row.invariant (ap (λ (v : Vec ℕ Global). v.items) w.all-is ∙ w.in_ok-add_range.ensures)
      | else-is_blocking w ↦
          ap (λ (v : Vec ℕ Global). v.items) w.all-is
          ∙ left_out p s c.args.rows.now c.loop-row.row-index c.row-item.result c.loop-row-test.true c.row-item.is c.loop-row.all.items (sym c.is_blocking.ensures ∙ w.if-is_blocking.false) c.loop-row.invariant
    ]
