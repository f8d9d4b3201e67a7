use Rattle.std.proofs.Common.{◌++◌, ap, map}
use Rattle.gathering.proofs.Loops.{numbered_all, numbered_step}
use Rattle.gathering.specs.Lists.{list_under}
use Rattle.process_core.specs.Instance.{numbered}
use Rattle.prism_instance.specs.Sites.{actions_in, link_if, links_among, links_of, texts_of}
use Rattle.prism_instance.proofs.modules.links.Goals as goal

pub loop-component-init : goal.loop-component-init
loop-component-init c = λ x. ap (λ l. l ++ numbered (links_of x) 0 (map actions_in c.args.modules.now)) (c.new-links.ensures x)

pub loop-component-preserved : goal.loop-component-preserved
loop-component-preserved c = λ x.
    let ms = c.args.modules.now in
    let k = c.loop-component.component in
    numbered_step (links_of x) actions_in (links_among x (map actions_in ms)) (list_under c.loop-component.links x) (list_under c.add_links.new.links x)
    (numbered (link_if x k) 0 (texts_of c.as_slice.result.now)) ms k c.index-modules-component.result
    c.loop-component-test.true c.index-modules-component.is (c.loop-component.invariant x)
    (ap (λ l. numbered (link_if x k) 0 (texts_of l)) c.as_slice.ensures.value)
    (c.in_ok-add_links.ensures x)

pub returns : goal.returns
returns c = λ x.
    let ms = c.args.modules.now in
    numbered_all (links_of x) actions_in (links_among x (map actions_in ms)) (list_under c.loop-component.links x) ms c.loop-component.component c.loop-component-test.false (c.loop-component.invariant x)
