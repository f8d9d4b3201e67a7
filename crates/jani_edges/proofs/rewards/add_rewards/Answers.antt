use Rattle.std.proofs.Common.{arith, refl, map, List, ◌++◌, ◌∙◌, ap, sym}
use Rattle.std.specs.List.{zip, flat_map}
use Rattle.gathering.proofs.Loops.{paired_all, paired_flat, flat_zip_none}
use Rattle.prism_tree.specs.Syntax as prism
use Rattle.prism_tree.specs.declared.syntax.PrismRewards.{PrismRewards}
use Rattle.jani_tree.specs.Syntax as jani
use Rattle.name_table.specs.declared.entry.Entry.{Entry}
use Rattle.jani_translation.specs.Automata.{reward_of}
use Rattle.jani_edges.specs.Code.{names_in, wanted_by}
use Rattle.jani_edges.proofs.rewards.add_rewards.Goals as goal

pub loop-i-preserved : goal.loop-i-preserved
loop-i-preserved c =
    paired_flat (λ (xs : List PrismRewards) (es : List Entry). flat_map (λ p. reward_of (names_in c.args.names.now) (wanted_by c.args.wanted.now) p.0 p.1) (zip (map prism.rewards_of xs) es))
    (λ x e. reward_of (names_in c.args.names.now) (wanted_by c.args.wanted.now) (prism.rewards_of x) e) (λ x e xs es. refl) _ _ _ c.args.rewards.now c.args.names.now.rewards.now c.loop-i.i
    c.index-rewards-i.result c.index-names-i.result (omega arith) (omega arith) c.index-rewards-i.is c.index-names-i.is
    c.loop-i.invariant
    (c.in_ok-add_reward.ensures ∙ ap (λ (z : Entry). map jani.write_of c.loop-i.all ++ reward_of (names_in c.args.names.now) (wanted_by c.args.wanted.now) (prism.rewards_of c.index-rewards-i.result) z) (sym c.index-names-i.is))

pub returns : goal.returns
returns c =
    paired_all (λ (xs : List PrismRewards) (es : List Entry). flat_map (λ p. reward_of (names_in c.args.names.now) (wanted_by c.args.wanted.now) p.0 p.1) (zip (map prism.rewards_of xs) es))
    (λ es. refl) (λ xs. flat_zip_none (λ x e. reward_of (names_in c.args.names.now) (wanted_by c.args.wanted.now) x e) (map prism.rewards_of xs)) _ _ c.args.rewards.now c.args.names.now.rewards.now c.shorter-count.result c.loop-i.i
    (omega arith) (omega arith) c.loop-i.invariant
