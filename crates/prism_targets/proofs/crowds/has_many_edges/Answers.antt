use Rattle.std.specs.Prelude.{List, length, map, nat_lt}
use Rattle.std.specs.List.{filter, list_any}
use Rattle.std.proofs.Common.{◌∙◌, ap, ap₂, sym}
use Rattle.bridge_io.specs.declared.reason.Named.{Named}
use Rattle.gathering.specs.Lists.{list_under}
use Rattle.jani_tree.specs.declared.syntax.JaniLocation.{JaniLocation}
use Rattle.jani_tree.specs.Syntax.{Edge, automaton_of, edge_of, location_of}
use Rattle.jani_meaning.specs.Loops.{has_name}
use Rattle.jani_loops.specs.Looped.{lent_edge}
use Rattle.edge_tables.specs.Counts.{edges_at}
use Rattle.prism_targets.specs.Crowds.{has_many_edges}
use Rattle.prism_targets.proofs.Crowded.{any_here, any_later, any_nowhere}
use Rattle.prism_targets.proofs.crowds.has_many_edges.Goals as goal

pub loop-x-preserved : goal.loop-x-preserved
loop-x-preserved c =
    let x = c.x-item.result in
    let a = automaton_of c.args.a.now in
    let f = λ (x : Named). list_any (λ l. nat_lt 1023 (length (edges_at l (filter (λ e. has_name x.name e.action) a.edges)))) a.locations in
    any_later f (has_many_edges c.args.actions.now a) c.args.actions.now c.loop-x.x-index x c.loop-x-test.true c.x-item.is c.loop-x.invariant
    (sym (c.in_ok-has_many_at.ensures
    ∙ ap₂ (λ (es : List Edge) (ls : List JaniLocation). list_any (λ l. nat_lt 1023 (length (edges_at l es))) (map location_of ls))
    (ap (map lent_edge) (c.get.ensures ∙ ap (list_under c.in_ok-acting.acting) c.as_str.ensures)
    ∙ c.in_ok-acting.ensures x.name ∙ ap (λ es. filter (λ e. has_name x.name e.action) (map edge_of es)) c.as_slice.ensures)
    c.as_slice-in-loop-x.ensures)
    ∙ c.if-branch.false)

pub returns-then-branch : goal.returns-then-branch
returns-then-branch c =
    let x = c.x-item.result in
    let a = automaton_of c.args.a.now in
    let f = λ (x : Named). list_any (λ l. nat_lt 1023 (length (edges_at l (filter (λ e. has_name x.name e.action) a.edges)))) a.locations in
    any_here f (has_many_edges c.args.actions.now a) c.args.actions.now c.loop-x.x-index x c.loop-x-test.true c.x-item.is c.loop-x.invariant
    (sym (c.in_ok-has_many_at.ensures
    ∙ ap₂ (λ (es : List Edge) (ls : List JaniLocation). list_any (λ l. nat_lt 1023 (length (edges_at l es))) (map location_of ls))
    (ap (map lent_edge) (c.get.ensures ∙ ap (list_under c.in_ok-acting.acting) c.as_str.ensures)
    ∙ c.in_ok-acting.ensures x.name ∙ ap (λ es. filter (λ e. has_name x.name e.action) (map edge_of es)) c.as_slice.ensures)
    c.as_slice-in-loop-x.ensures)
    ∙ c.if-branch.true)

pub returns : goal.returns
returns c =
    let a = automaton_of c.args.a.now in
    any_nowhere (λ (x : Named). list_any (λ l. nat_lt 1023 (length (edges_at l (filter (λ e. has_name x.name e.action) a.edges)))) a.locations)
    (has_many_edges c.args.actions.now a) c.args.actions.now c.loop-x.x-index c.loop-x-test.false c.loop-x.invariant
