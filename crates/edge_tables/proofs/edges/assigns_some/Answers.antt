use Rattle.std.proofs.Common.{◌≡◌, sym, ◌∙◌, rules, tests}
use Rattle.std.specs.Prelude.{is_some}
use Rattle.std.specs.List.{list_any}
use Rattle.std.proofs.lemmas.Iterator.{YieldsList-from_slice}
use Rattle.std.proofs.lemmas.Iterator.Search.{any_from_yields_List}
use Rattle.basics.specs.Members.{any-map}
use Rattle.jani_tree.specs.Syntax.{Write, write_of}
use Rattle.jani_tree.specs.declared.syntax.JaniWrite.{JaniWrite}
use Rattle.edge_tables.specs.Places.{place_in}
use Rattle.edge_tables.proofs.edges.assigns_some.Goals as goal

pub returns : goal.returns
returns c =
    let p : Write → _ = λ w. is_some (place_in c.args.structures.now c.args.element w.target.name) in
    let e : c.any.result ≡ list_any (λ (w : JaniWrite). p (write_of w)) c.args.writes.now =
    any_from_yields_List (λ (w : JaniWrite). p (write_of w)) _ _ c.any.result c.any.ensures.ran (YieldsList-from_slice c.args.writes.now cc) (λ x b q k. search (rules, tests)) in
    e ∙ sym (any-map p write_of c.args.writes.now)
