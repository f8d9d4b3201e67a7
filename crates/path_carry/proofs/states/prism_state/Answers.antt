use Rattle.std.proofs.Common.{◌≡◌, ◌<◌, ap, ap₂, sym, subst, ◌∙◌, length, get_or, slice_index_or, arith}
use Rattle.std.proofs.lemmas.List.{get_or_default}
use Rattle.carry_maps.specs.declared.map.Column.{Column}
use Rattle.carry_maps.specs.declared.map.Column.TheVariants.{Location}
use Rattle.carry_maps.specs.Maps.{column_number}
use Rattle.path_carry.proofs.Loops.{below_at, values_more}
use Rattle.path_carry.proofs.states.prism_state.Goals as goal

pub column_number-i-requires : goal.column_number-i-requires
column_number-i-requires c =
    let k = c.loop-column.column-index in
    let long = ap length c.as_slice-column-items.ensures in
    let low = below_at c.args.map.now c.args.columns k (Location 0) c.requires (omega arith) in
    let fits = c.ranges.columns.fits in
    subst (λ x. x < 18446744073709551616) (sym (ap₂ (λ e x. column_number e (slice_index_or x k (Location 0))) c.len-elements.ensures c.as_slice-column-items.ensures)) (omega arith)

pub loop-column-preserved : goal.loop-column-preserved
loop-column-preserved c =
    let m = c.args.map.now in
    let k = c.loop-column.column-index in
    let long = ap length c.as_slice-column-items.ensures in
    let col : Column = slice_index_or c.as_slice-column-items.result.now k (Location 0) in
    let there : col ≡ get_or m.columns k col = ap (λ x. get_or x k (Location 0)) c.as_slice-column-items.ensures ∙ get_or_default m.columns k (Location 0) col (omega arith) in
    values_more m k c.args.from.now.values c.loop-column.values.items c.push.new.self.items col c.column_number-i.result c.value_in.result (omega arith) there
    (c.column_number-i.ensures ∙ ap (λ e. column_number e col) c.len-elements.ensures) c.value_in.ensures c.in_ok-push.ensures.items c.loop-column.invariant
