use Rattle.std.specs.Prelude.{[], map}
use Rattle.std.proofs.Common.{◌∙◌, ap, sym}
use Rattle.jani_check.specs.NameLists.{names_under}
use Rattle.jani_check.specs.Participants.{meets_with, parts_taken}
use Rattle.name_rules.specs.Names.{has_name}
use Rattle.name_rules.proofs.Maps.{at}
use Rattle.jani_check.proofs.Anys.{meets_next, meets_none, no_parts_left}
use Rattle.jani_check.proofs.clashes.meets.Goals as goal

pub loop-i-init : goal.loop-i-init
loop-i-init c =
    ap (λ k. meets_with k (parts_taken [] (map names_under c.args.elements.now) c.args.parts.now)) c.new-seen.ensures
    ∙ meets_none (parts_taken [] (map names_under c.args.elements.now) c.args.parts.now)

pub loop-i-preserved : goal.loop-i-preserved
loop-i-preserved c =
    meets_next names_under c.args.elements.now c.args.parts.now c.loop-i.i c.min-count.result c.index-elements-i.result c.index-elements-i-in-loop-i.result
    c.index-parts-i.result c.index-parts-i-in-loop-i.result (has_name c.loop-i.seen) (has_name c.see.new.seen) _
    c.loop-i-test.true c.min-count.ensures c.index-elements-i.is c.index-elements-i-in-loop-i.is c.index-parts-i.is c.index-parts-i-in-loop-i.is
    (sym c.was_seen.ensures ∙ c.if-was_seen.false) (at c.in_ok-see.ensures) c.loop-i.invariant

pub returns : goal.returns
returns c =
    sym (ap (meets_with (has_name c.loop-i.seen))
    (no_parts_left [] names_under c.args.elements.now c.args.parts.now c.loop-i.i c.min-count.result c.min-count.ensures c.loop-i-test.false))
    ∙ c.loop-i.invariant
