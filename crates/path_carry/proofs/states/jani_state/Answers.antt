use Rattle.std.proofs.Common.{◌≡◌, ◌+◌, ◌-◌, ◌<◌, ap, ap₂, sym, subst, ◌∙◌, length, get_or, drop, replicate, slice_index_or, arith}
use Rattle.std.proofs.lemmas.List.{get_or_default}
use Rattle.op_trees.specs.declared.tree.Value.TheVariants as V
use Rattle.choice_laws.specs.Columns.{state_by}
use Rattle.carry_maps.specs.declared.map.Column.{Column}
use Rattle.carry_maps.specs.declared.map.Column.TheVariants.{Location}
use Rattle.carry_maps.specs.Maps.{column_number, column_numbers}
use Rattle.path_carry.proofs.Loops.{jani_begun, jani_step, below_at, state_long}
use Rattle.path_carry.proofs.states.jani_state.Goals as goal

pub loop-left-init : goal.loop-left-init
loop-left-init c = record {
  within = (let e = c.len-left.ensures in omega arith);
  values = c.in_ok-values.ensures.items_if_clones_equal (λ y h. h) ∙ ap (λ q. replicate c.args.columns (V.Number q)) c.zero.ensures
      ∙ jani_begun c.args.map.now c.args.columns c.len-left.result c.args.from.now.values c.len-left.ensures c.requires.lengths;
}

pub column_number-i-requires : goal.column_number-i-requires
column_number-i-requires c =
    let k = c.loop-left.left - 1 in
    let within = c.loop-left.invariant.within in
    let low = below_at c.args.map.now c.args.columns k (Location 0) c.requires.below (omega arith) in
    let fits = c.ranges.columns.fits in
    subst (λ x. x < 18446744073709551616) (sym (ap₂ (λ e x. column_number e (slice_index_or x k (Location 0))) c.len-elements.ensures c.as_slice.ensures)) (omega arith)

pub index_mut-requires : goal.index_mut-requires
index_mut-requires c =
    let k = c.loop-left.left - 1 in
    let within = c.loop-left.invariant.within in
    let low = below_at c.args.map.now c.args.columns k (Location 0) c.requires.below (omega arith) in
    let same = c.column_number-i.ensures ∙ ap₂ (λ e x. column_number e (slice_index_or x k (Location 0))) c.len-elements.ensures c.as_slice.ensures in
    let long = ap length c.loop-left.invariant.values ∙ state_long (drop c.loop-left.left (column_numbers c.args.map.now)) c.args.columns (drop c.loop-left.left c.args.from.now.values) in
    omega arith

pub loop-left-preserved : goal.loop-left-preserved
loop-left-preserved c =
    let m = c.args.map.now in
    let k = c.loop-left.left - 1 in
    let within = c.loop-left.invariant.within in
    let next : c.loop-left.left ≡ k + 1 = omega arith in
    let col : Column = slice_index_or c.as_slice.result.now k (Location 0) in
    let there : col ≡ get_or m.columns k col = ap (λ x. get_or x k (Location 0)) c.as_slice.ensures ∙ get_or_default m.columns k (Location 0) col (omega arith) in
    let number : c.column_number-i.result ≡ column_number (length m.locations) col = c.column_number-i.ensures ∙ ap (λ e. column_number e col) c.len-elements.ensures in
    let low : column_number (length m.locations) col < c.args.columns = subst (λ x. column_number (length m.locations) x < c.args.columns) (sym there) (below_at m c.args.columns k col c.requires.below (omega arith)) in
    record {
      within = omega arith;
      values = jani_step m c.args.columns k c.column_number-i.result c.args.from.now.values c.loop-left.values.items col c.index-as_slice-left.result (omega arith) c.requires.lengths there
          (c.index-as_slice-left.is ∙ ap (λ x. get_or x k c.index-as_slice-left.result) c.as_slice-in-loop-left.ensures) number (omega arith)
          (subst (λ j. c.loop-left.values.items ≡ state_by (drop j (column_numbers m)) c.args.columns (drop j c.args.from.now.values)) next c.loop-left.invariant.values);
    }
