use Rattle.std.proofs.Common.{◌∙◌, ap, sym}
use Rattle.std.specs.Prelude.{Some, None, bytes_eq, if◌then◌else◌}
use Rattle.std.specs.Option.{option_or}
use Rattle.name_rules.specs.Names.{put_first, under}
use Rattle.jani_tree.specs.Syntax.{location_of}
use Rattle.op_trees.specs.Names.{is_called}
use Rattle.jani_instance.proofs.Placed.{position_more}
use Rattle.jani_instance.proofs.acting.location_numbers.Goals as goal

pub loop-k-init : goal.loop-k-init
loop-k-init c = λ x. ap (λ f. f x) c.new-numbers.ensures

pub loop-k-preserved : goal.loop-k-preserved
loop-k-preserved c =
    let d = c.index-these-k.result in
    λ x.
    ap (λ f. f x) c.in_ok-put_first.ensures
    ∙ ap (λ n. put_first (under c.loop-k.numbers) n c.loop-k.k x) c.as_str.ensures
    ∙ ap (λ o. option_or o (if bytes_eq d.name.name x then Some c.loop-k.k else None)) (c.loop-k.invariant x)
    ∙ sym (position_more (λ l. is_called x l.name) location_of c.args.these.now c.loop-k.k d c.loop-k-test.true c.index-these-k.is)
