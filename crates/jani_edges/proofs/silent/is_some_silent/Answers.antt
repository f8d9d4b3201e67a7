use Rattle.std.proofs.Common.{◌≡◌, sym, ◌∙◌, rules, tests}
use Rattle.std.specs.Prelude.{is_none}
use Rattle.std.specs.List.{list_any}
use Rattle.std.proofs.lemmas.Iterator.{YieldsList-from_slice}
use Rattle.std.proofs.lemmas.Iterator.Search.{any_from_yields_List}
use Rattle.basics.specs.Members.{any-map}
use Rattle.prism_tree.specs.Syntax as prism
use Rattle.prism_tree.specs.declared.syntax.PrismCommand.{PrismCommand}
use Rattle.jani_edges.proofs.silent.is_some_silent.Goals as goal

pub returns : goal.returns
returns c =
    let e : c.any.result ≡ list_any (λ (r : PrismCommand). (λ (r : prism.Command). is_none r.action) (prism.command_of r)) c.args.commands.now =
    any_from_yields_List (λ (r : PrismCommand). (λ (r : prism.Command). is_none r.action) (prism.command_of r)) _ _ c.any.result c.any.ensures.ran (YieldsList-from_slice c.args.commands.now cc) (λ x b q k. search (rules, tests)) in
    e ∙ sym (any-map (λ (r : prism.Command). is_none r.action) prism.command_of c.args.commands.now)
