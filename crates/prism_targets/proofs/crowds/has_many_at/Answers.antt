use Rattle.std.specs.Prelude.{length, map, nat_lt}
use Rattle.std.specs.List.{list_any}
use Rattle.std.specs.Borrow.{Bor}
use Rattle.std.proofs.Common.{◌∙◌, sym, arith}
use Rattle.std.proofs.lemmas.List.{length-map}
use Rattle.gathering.specs.Lists.{list_under}
use Rattle.jani_tree.specs.declared.syntax.JaniEdge.{JaniEdge}
use Rattle.jani_tree.specs.declared.syntax.JaniLocation.{JaniLocation}
use Rattle.jani_tree.specs.Syntax.{location_of}
use Rattle.jani_loops.specs.Looped.{lent_edge}
use Rattle.prism_targets.proofs.Crowded.{few_edges, none_together, same_counts, together_first}
use Rattle.prism_targets.proofs.crowds.has_many_at.Goals as goal

pub returns-then-edges-lt-CROWD : goal.returns-then-edges-lt-CROWD
returns-then-edges-lt-CROWD c =
    let n = length-map c.args.edges.now lent_edge in
    sym (few_edges (map lent_edge c.args.edges.now) (map location_of c.args.locations.now) (omega (arith, n, c.if-edges-lt-CROWD.true)))

pub returns : goal.returns
returns c =
    let t = list_under c.in_ok-here.here in
    c.are_many.ensures
    ∙ together_first (list_any (λ (e : Bor JaniEdge). nat_lt 1023 (length (t e.now.location.name))) c.args.edges.now) (list_any (λ (l : JaniLocation). nat_lt 1023 (length (t l.name.name))) c.args.locations.now)
    (none_together c.args.edges.now c.args.locations.now t c.in_ok-here.ensures)
    ∙ same_counts (map lent_edge c.args.edges.now) c.args.locations.now t c.in_ok-here.ensures
