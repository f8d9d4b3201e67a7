use Rattle.std.proofs.Common.{◌≡◌, sym, ◌∙◌, rules, tests}
use Rattle.std.specs.List.{list_any}
use Rattle.std.proofs.lemmas.Iterator.{YieldsList-from_slice}
use Rattle.std.proofs.lemmas.Iterator.Search.{any_from_yields_List}
use Rattle.basics.specs.Members.{any-map}
use Rattle.prism_tree.specs.declared.syntax.PrismModule.{PrismModule}
use Rattle.name_table.specs.Gathered.{body_in}
use Rattle.jani_translation.specs.Automata.{has_silent}
use Rattle.jani_edges.proofs.silent.is_some_module_silent.Goals as goal

pub returns : goal.returns
returns c =
    let e : c.any.result ≡ list_any (λ (r : PrismModule). (has_silent) (body_in r)) c.args.modules.now =
    any_from_yields_List (λ (r : PrismModule). (has_silent) (body_in r)) _ _ c.any.result c.any.ensures.ran (YieldsList-from_slice c.args.modules.now cc) (λ x b q k. search (rules, tests)) in
    e ∙ sym (any-map (has_silent) body_in c.args.modules.now)
