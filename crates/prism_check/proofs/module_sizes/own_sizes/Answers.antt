use Rattle.std.proofs.Common.{◌≡◌, ap, arith}
use Rattle.prism_check.specs.Counted.{height_in, nodes_in, own_size}
use Rattle.name_rules.specs.Names.{under}
use Rattle.name_rules.proofs.Maps.{at}
use Rattle.std.specs.Option.{option_map, option_or}
use Rattle.prism_check.specs.Tables.{named_module}
use Rattle.prism_check.proofs.Modular.{named_more, own_height_more, own_nodes_more}
use Rattle.prism_check.proofs.module_sizes.own_sizes.Goals as goal

pub loop-entry-init : goal.loop-entry-init
loop-entry-init c =
    let no_nodes : c.nothing-sum.result.nodes ≡ 0 = ap (λ s. s.nodes) c.nothing-sum.ensures in
    let no_height : c.nothing-sum.result.height ≡ 0 = ap (λ s. s.height) c.nothing-sum.ensures in
    record {
      nodes = omega (arith, no_nodes);
      height = omega (arith, no_height);
      nodes_fit = omega (arith, no_nodes);
      height_fits = omega (arith, no_height);
      named = λ x. ap (λ o. option_or o (option_map (own_size (nodes_in c.args.formulas.now) (height_in c.args.formulas.now)) (named_module c.args.all.now x))) (at c.new-named.ensures x);
    }

pub loop-entry-preserved : goal.loop-entry-preserved
loop-entry-preserved c =
    let f = nodes_in c.args.formulas.now in
    let g = height_in c.args.formulas.now in
    let l = c.loop-entry in
    record {
      nodes = own_nodes_more f c.args.all.now l.entry-index c.entry-item.result l.sum.nodes c.in_ok-size.size.nodes c.beside-sum.result.nodes _
          c.loop-entry-test.true c.entry-item.is (ap (λ s. s.nodes) c.in_ok-size.ensures) c.beside-sum.ensures.nodes l.invariant.nodes;
      height = own_height_more g c.args.all.now l.entry-index c.entry-item.result l.sum.height c.in_ok-size.size.height c.beside-sum.result.height _
          c.loop-entry-test.true c.entry-item.is (ap (λ s. s.height) c.in_ok-size.ensures) c.beside-sum.ensures.height l.invariant.height;
      nodes_fit = omega (arith, c.beside-sum.ensures.nodes);
      height_fits = omega (arith, c.beside-sum.ensures.height, l.invariant.height_fits, ap (λ s. s.height) c.in_ok-size.ensures);
      named = λ x. named_more (own_size f g) (under l.named) (under c.put_first.new.self) x c.name_of.result.now c.in_ok-size.size c.args.all.now l.entry-index c.entry-item.result _
          c.loop-entry-test.true c.entry-item.is c.name_of.ensures c.in_ok-size.ensures (at c.in_ok-put_first.ensures x) (l.invariant.named x);
    }
