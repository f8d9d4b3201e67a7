use Rattle.std.proofs.Common.{◌≡◌, [], ◌∙◌, ap, ap₂, sym, ℕ, List, map, drop, arith}
use Rattle.std.specs.Prelude.{bytes_eq, Some, unwrap_or, if◌then◌else◌}
use Rattle.std.specs.Option.{option_map}
use Rattle.std.specs.Borrow.{Bor}
use Rattle.basics.specs.Options.{option_map-if}
use Rattle.name_rules.specs.Names.{under}
use Rattle.name_rules.proofs.Maps.{at}
use Rattle.name_table.specs.declared.entry.Entry.{Entry}
use Rattle.jani_edges.specs.Code.{new_in, found}
use Rattle.jani_edges.proofs.Gathering.{found_is}
use Rattle.jani_edges.proofs.Kept.{found_step, found_none}
use Rattle.jani_edges.proofs.new_names.NewNameMap.of.Goals as goal

pub loop-left-preserved : goal.loop-left-preserved
loop-left-preserved c = record {
  olds = omega arith;
  news = omega arith;
  same = λ x.
      ap (option_map (λ k. k.now)) (at c.in_ok-put.ensures x)
      ∙ option_map-if (λ k. k.now) (bytes_eq c.as_str-old.result.now x) c.as_str.result (under c.loop-left.all x)
      ∙ ap₂ (λ a b. if bytes_eq a x then Some b else new_in c.loop-left.all x) c.as_str-old.ensures (c.as_str.ensures ∙ ap (λ (z : Entry). z.name) (sym c.index-news-left.is))
      ∙ ap (λ o. if bytes_eq c.index-olds-left.result.now x then Some c.index-news-left.result.name else o) (c.loop-left.invariant.same x)
      ∙ found_step c.args.olds.now c.args.news.now c.loop-left.left _ c.index-olds-left.result c.index-news-left.result x (omega arith) (omega arith) (omega arith) c.index-olds-left.is c.index-news-left.is;
}

pub loop-left-init : goal.loop-left-init
loop-left-init c = record {
  olds = omega arith;
  news = omega arith;
  same = λ x. ap (option_map (λ k. k.now)) (at c.new-all.ensures x) ∙ sym (found_none c.args.olds.now c.args.news.now c.shorter-left.result x (omega arith));
}

pub returns : goal.returns
returns c = λ x.
    ap (λ o. unwrap_or o []) (c.loop-left.invariant.same x ∙ (let z : c.loop-left.left ≡ 0 = omega arith in ap (λ (i : ℕ). found (map (λ (y : Bor (List ℕ)). y.now) (drop i c.args.olds.now)) (drop i c.args.news.now) x) z))
    ∙ found_is (map (λ (y : Bor (List ℕ)). y.now) c.args.olds.now) c.args.news.now x
