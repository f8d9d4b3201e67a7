use Rattle.std.proofs.Common.{arith, ap, length, []}
use Rattle.prop_grammar.specs.Grammar
use Rattle.prop_grammar.specs.Syntax.{written_of}
use Rattle.prism_exprs.proofs.Loops.{reads_shorter}
use Rattle.prism_exprs.specs.Kept.{seen}
use Rattle.prism_items.proofs.Leading.{listed, pushed, many_begin}
use Rattle.prop_reader.proofs.Pieces.{BeginsTitled, titled}
use Rattle.prism_items.specs.Files.{plain}
use Rattle.prism_items.proofs.Filing.{none_left}
use Rattle.prop_reader.proofs.Whole.{any, property_in, one_more, shorter, some_any, leaves_whole, stops_whole, whole_file}
use Rattle.prop_reader.proofs.queries.parse_properties.Goals as goal

pub each-init : goal.each-init
unfolding Grammar.properties
each-init c = λ s. listed written_of (property_in s) [] _ c.new-whole.ensures (many_begin (property_in s) any _)

pub each-smaller : goal.each-smaller
each-smaller c =
    let a = reads_shorter BeginsTitled (titled plain).opens (c.in_ok-property.ensures plain) in
    let b = shorter (seen c.in_ok-property.next) in
    omega (arith, a, b, ap length c.behind_semicolon-rest.ensures)

pub each-preserved : goal.each-preserved
each-preserved c = λ s. pushed written_of (property_in s) c.each.whole _ c.in_ok-property.property c.in_ok-push.ensures.ok
    (one_more s _ _ (c.each.invariant s) (some_any c.each.rest (λ e. grind (arith, c.is_empty.ensures, c.each-test.true, e))) (c.in_ok-property.ensures s) c.behind_semicolon-rest.ensures)

pub returns-in_err-property : goal.returns-in_err-property
returns-in_err-property c = leaves_whole _ _ _ c.from_residual.ensures (stops_whole _ _ _ _ c.each.invariant (some_any c.each.rest (λ e. grind (arith, c.is_empty.ensures, c.each-test.true, e))) c.in_err-property.ensures)

pub returns : goal.returns
returns c = whole_file _ _ _ c.each.invariant (none_left c.each.rest (grind (arith, c.is_empty.ensures, c.each-test.false)))
