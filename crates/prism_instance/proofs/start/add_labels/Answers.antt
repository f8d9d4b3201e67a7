use Rattle.std.proofs.Common.{ℕ, List, map}
use Rattle.std.specs.Borrow.{Bor}
use Rattle.prism_tree.specs.Syntax.{Label, label_of}
use Rattle.prism_instance.proofs.Once.{after_more}
use Rattle.prism_instance.proofs.start.add_labels.Goals as goal

pub loop-label-preserved : goal.loop-label-preserved
loop-label-preserved c =
    after_more (λ (n : Bor (List ℕ)). n.now) (λ (l : Label). l.name.name) label_of c.args.labels.now c.loop-label.label-index c.label-item.result
    (map (λ (n : Bor (List ℕ)). n.now) c.args.names.now.items) c.loop-label.names.items c.push.new.self.items c.as_str.result
    c.loop-label-test.true c.label-item.is c.loop-label.invariant c.in_ok-push.ensures.items c.as_str.ensures
