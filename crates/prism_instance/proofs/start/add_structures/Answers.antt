use Rattle.std.proofs.Common.{ℕ, List, map}
use Rattle.std.specs.Borrow.{Bor}
use Rattle.prism_tree.specs.Syntax.{Rewards, rewards_of}
use Rattle.prism_instance.specs.Described.{structure_name}
use Rattle.prism_instance.proofs.Once.{after_more}
use Rattle.prism_instance.proofs.start.add_structures.Goals as goal

pub loop-structure-preserved : goal.loop-structure-preserved
loop-structure-preserved c =
    after_more (λ (n : Bor (List ℕ)). n.now) (λ (r : Rewards). structure_name r.name) rewards_of c.args.rewards.now c.loop-structure.structure-index c.structure-item.result
    (map (λ (n : Bor (List ℕ)). n.now) c.args.names.now.items) c.loop-structure.names.items c.push.new.self.items c.structure_text.result
    c.loop-structure-test.true c.structure-item.is c.loop-structure.invariant c.in_ok-push.ensures.items c.structure_text.ensures
