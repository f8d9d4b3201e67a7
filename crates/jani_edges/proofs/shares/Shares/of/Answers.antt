use Rattle.std.proofs.Common.{arith, refl, map, List}
use Rattle.std.specs.List.{zip, flat_map}
use Rattle.gathering.proofs.Loops.{paired_all, paired_flat, flat_zip_none}
use Rattle.prism_tree.specs.Syntax.{rewards_of}
use Rattle.prism_tree.specs.declared.syntax.PrismRewards.{PrismRewards}
use Rattle.name_table.specs.declared.entry.Entry.{Entry}
use Rattle.jani_translation.specs.Automata.{for_action, reward_of}
use Rattle.jani_edges.proofs.shares.Shares.of.Goals as goal

pub loop-i-preserved : goal.loop-i-preserved
loop-i-preserved c = λ n x.
    paired_flat (λ (xs : List PrismRewards) (es : List Entry). flat_map (λ p. reward_of n (for_action x) p.0 p.1) (zip (map rewards_of xs) es))
    (λ r e. reward_of n (for_action x) (rewards_of r) e) (λ r e xs es. refl) _ _ _ c.args.rewards.now c.args.entries.now c.loop-i.i
    c.index-rewards-i.result c.index-entries-i.result (omega arith) (omega arith) c.index-rewards-i.is c.index-entries-i.is
    (c.loop-i.invariant n x)
    (c.in_ok-add_structure.ensures n x)

pub returns : goal.returns
returns c = λ n x.
    paired_all (λ (xs : List PrismRewards) (es : List Entry). flat_map (λ p. reward_of n (for_action x) p.0 p.1) (zip (map rewards_of xs) es))
    (λ es. refl) (λ xs. flat_zip_none (λ r e. reward_of n (for_action x) r e) (map rewards_of xs)) _ _ c.args.rewards.now c.args.entries.now c.shorter-count.result c.loop-i.i
    (omega arith) (omega arith) (c.loop-i.invariant n x)
