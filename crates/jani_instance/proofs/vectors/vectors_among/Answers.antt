use Rattle.std.proofs.Common.{◌∙◌, ap}
use Rattle.jani_tree.specs.Syntax.{vector_of}
use Rattle.jani_instance.specs.Actions.{IsLinked, links_by}
use Rattle.jani_instance.proofs.Numbering.{zip_more}
use Rattle.jani_instance.proofs.vectors.vectors_among.Goals as goal

pub loop-v-preserved : goal.loop-v-preserved
loop-v-preserved c =
    zip_more (IsLinked c.args.actions.now) vector_of c.args.these.now c.loop-v.v-index c.v-item.result c.loop-v.all.items c.push.new.self.items _ c.loop-v-test.true c.v-item.is c.loop-v.invariant
    c.in_ok-push.ensures.items (record { label = c.label_of.ensures; links = c.in_ok-links.ensures ∙ ap (links_by 0 c.args.actions.now) c.as_slice.ensures })
