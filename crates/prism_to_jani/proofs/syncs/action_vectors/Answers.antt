use Rattle.std.proofs.Common.{ℕ, List}
use Rattle.std.specs.Borrow.{Bor}
use Rattle.gathering.proofs.Loops.{mapped_more}
use Rattle.prism_tree.specs.Syntax.{file_of}
use Rattle.jani_tree.specs.Syntax as jani
use Rattle.jani_automata.specs.Translated.{action_vector}
use Rattle.jani_automata.specs.Code.{names_in}
use Rattle.prism_to_jani.proofs.syncs.action_vectors.Goals as goal

pub loop-a-preserved : goal.loop-a-preserved
loop-a-preserved c =
    mapped_more jani.vector_of (action_vector (names_in c.args.names.now) (file_of c.args.file.now)) (λ (x : Bor (List ℕ)). x.now) c.args.acts.now c.loop-a.all c.push.new.self c.loop-a.a-index c.a-item.result c.in_ok-action_vector.field-0 c.loop-a-test.true c.a-item.is
    c.loop-a.invariant c.in_ok-action_vector.ensures c.in_ok-push.ensures.ok
