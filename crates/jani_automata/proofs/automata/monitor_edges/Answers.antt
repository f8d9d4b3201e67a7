use Rattle.std.proofs.Common.{◌≡◌, ◌++◌, ◌∙◌, ap, ap₂, map, ℕ, List}
use Rattle.std.specs.Prelude.{Bool}
use Rattle.std.specs.Borrow.{Bor}
use Rattle.process_core.specs.Ready.{Name}
use Rattle.process_core.specs.Instance.{only_if}
use Rattle.prism_tree.specs.Syntax.{file_of}
use Rattle.jani_tree.specs.Syntax as jani
use Rattle.jani_edges.specs.Parts.{made}
use Rattle.jani_edges.specs.Automata.{monitor_edge, for_action, for_silent, zz_silent, earning_actions}
use Rattle.jani_edges.specs.Code.{names_in}
use Rattle.jani_automata.proofs.automata.monitor_edges.Goals as goal

pub returns : goal.returns
returns c =
    let n = names_in c.args.names.now in
    let f = file_of c.args.file.now in
    let s : map jani.edge_of c.in_ok-all.all ≡ map (λ (a : Name). monitor_edge n f (made (n.action a)) (for_action a)) (earning_actions f) =
    c.in_ok-all.ensures
    ∙ ap (map (λ (a : Name). monitor_edge n f (made (n.action a)) (for_action a))) (ap (map (λ (x : Bor (List ℕ)). x.now)) c.as_slice.ensures.value ∙ c.in_ok-earning.ensures) in
    c.in_ok-add_silent_edge.ensures ∙ ap₂ (λ (l : List jani.Edge) (b : Bool). l ++ only_if b (monitor_edge n f zz_silent for_silent)) s c.earns_silently-silently.ensures
