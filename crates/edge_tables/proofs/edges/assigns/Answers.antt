use Rattle.std.proofs.Common.{◌≡◌, sym, ◌∙◌, rules, tests}
use Rattle.std.specs.Prelude.{is_some}
use Rattle.std.specs.List.{list_any}
use Rattle.std.proofs.lemmas.Iterator.{YieldsList-from_slice}
use Rattle.std.proofs.lemmas.Iterator.Search.{any_from_yields_List}
use Rattle.basics.specs.Members.{any-map}
use Rattle.jani_tree.specs.Syntax.{Destination, destination_of}
use Rattle.jani_tree.specs.declared.syntax.JaniDestination.{JaniDestination}
use Rattle.edge_tables.specs.Places.{place_in}
use Rattle.edge_tables.proofs.edges.assigns.Goals as goal

pub returns : goal.returns
returns c =
    let p : Destination → _ = λ d. list_any (λ w. is_some (place_in c.args.structures.now c.args.element w.target.name)) d.writes in
    let e : c.any.result ≡ list_any (λ (d : JaniDestination). p (destination_of d)) c.args.destinations.now =
    any_from_yields_List (λ (d : JaniDestination). p (destination_of d)) _ _ c.any.result c.any.ensures.ran (YieldsList-from_slice c.args.destinations.now cc) (λ x b q k. search (rules, tests)) in
    e ∙ sym (any-map p destination_of c.args.destinations.now)
