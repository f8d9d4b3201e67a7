use Rattle.std.proofs.Common.{◌∙◌, sym}
use Rattle.prism_tree.specs.Syntax.{module_of}
use Rattle.name_rules.specs.Names.{has_name}
use Rattle.prism_check.specs.Known.{own_unknown}
use Rattle.prism_check.proofs.KnownNames.{none_more}
use Rattle.prism_check.proofs.scope.contents_known.Goals as goal

pub loop-entry-preserved : goal.loop-entry-preserved
loop-entry-preserved c =
    none_more module_of (own_unknown (has_name c.args.known.now)) c.args.all.now c.loop-entry.entry-index c.entry-item.result c.in_ok-own_unknown.field-0
    c.loop-entry-test.true c.entry-item.is c.loop-entry.invariant c.in_ok-own_unknown.ensures (sym c.is_some.ensures ∙ c.if-is_some.false)
