use Rattle.std.proofs.Common.{◌++◌, List, ℕ, refl, ap}
use Rattle.std.specs.Prelude.{bytes_eq}
use Rattle.std.specs.Borrow.{Bor}
use Rattle.gathering.proofs.Loops.{numbered_all, numbered_step}
use Rattle.gathering.specs.Lists.{list_under}
use Rattle.process_core.specs.Instance.{numbered, only_if}
use Rattle.prism_instance.specs.Sites.{link_if, texts_of}
use Rattle.prism_instance.proofs.modules.add_links.Goals as goal

pub loop-part-init : goal.loop-part-init
loop-part-init c = λ x. refl

pub loop-part-preserved : goal.loop-part-preserved
loop-part-preserved c = λ x.
    let i = c.args.component in
    let xs = c.args.actions.now in
    let total = list_under c.args.links.now x ++ numbered (link_if x i) 0 (texts_of xs) in
    numbered_step (link_if x i) (λ (t : Bor (List ℕ)). t.now) total (list_under c.loop-part.links x) (list_under c.add.new.self x) _ xs c.loop-part.part c.index-actions-part.result
    c.loop-part-test.true c.index-actions-part.is (c.loop-part.invariant x)
    (ap (λ n. only_if (bytes_eq n x) (record { component = i; part = c.loop-part.part })) c.as_str.ensures)
    (c.in_ok-add.ensures x)

pub returns : goal.returns
returns c = λ x.
    let i = c.args.component in
    let xs = c.args.actions.now in
    numbered_all (link_if x i) (λ (t : Bor (List ℕ)). t.now) (list_under c.args.links.now x ++ numbered (link_if x i) 0 (texts_of xs)) (list_under c.loop-part.links x) xs c.loop-part.part c.loop-part-test.false (c.loop-part.invariant x)
