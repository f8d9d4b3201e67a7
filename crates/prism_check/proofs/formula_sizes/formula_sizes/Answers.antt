use Rattle.std.specs.Prelude.{bytes_eq, unwrap_or, if◌then◌else◌}
use Rattle.std.proofs.Common.{refl, ap, ◌∙◌, get_or}
use Rattle.prism_tree.specs.Syntax.{file_of}
use Rattle.prism_check.specs.Counted.{leaf, size_in}
use Rattle.name_rules.specs.Names.{under}
use Rattle.name_rules.proofs.Maps.{at}
use Rattle.prism_check.proofs.InOrder.{at_first, noted, place_more, no_place_more}
use Rattle.prism_check.proofs.formula_sizes.formula_sizes.Goals as goal

pub loop-place-init : goal.loop-place-init
loop-place-init c = at_first (file_of c.args.file.now) c.args.order.now (size_in c.new-sizes.result) c.requires (λ x. ap (λ o. unwrap_or o leaf) (at c.new-sizes.ensures x))

pub loop-place-preserved : goal.loop-place-preserved
loop-place-preserved c =
    let old = size_in c.loop-place.sizes in
    let place = get_or c.args.order.now c.loop-place.place-index 0 in
    let formula = c.index-formulas-place.result in
    let size = c.measure-size.result in
    place_more c.args.file.now old (size_in c.put.new.self) c.args.order.now c.loop-place.place-index place formula size
    c.loop-place-test.true refl c.requires (c.index-formulas-place.is ∙ ap (λ fs. get_or fs place formula) c.as_slice-formulas.ensures)
    c.measure-size.ensures.nodes c.measure-size.ensures.height
    (λ x. noted (under c.loop-place.sizes) (under c.put.new.self) c.as_str.result.now x size (at c.in_ok-put.ensures x)
    ∙ ap (λ n. if bytes_eq n x then size else old x) c.as_str.ensures)
    c.loop-place.invariant

pub returns : goal.returns
returns c = no_place_more (file_of c.args.file.now) (size_in c.loop-place.sizes) c.args.order.now c.loop-place.place-index c.loop-place-test.false c.loop-place.invariant
