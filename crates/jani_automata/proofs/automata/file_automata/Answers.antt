use Rattle.std.proofs.Common.{◌≡◌, ◌∙◌, ap, ap₂, sym, map, List, []}
use Rattle.std.specs.Prelude.{Bool}
use Rattle.process_core.specs.Product.{map-map}
use Rattle.prism_tree.specs.Syntax.{file_of, module_of, Body}
use Rattle.jani_tree.specs.Syntax as jani
use Rattle.name_table.specs.Asks.{contents, bodies}
use Rattle.name_table.specs.Gathered.{body_in}
use Rattle.jani_edges.specs.Automata.{module_automata, location_values, earns_silently, has_monitor, automaton, zz_monitor, monitor_edges}
use Rattle.jani_edges.specs.Code.{names_in}
use Rattle.jani_edges.proofs.Monitored.{with_last, without_last}
use Rattle.jani_automata.proofs.automata.file_automata.Goals as goal
use Rattle.jani_automata.proofs.automata.file_automata.Goals.{then-branch+in_ok-monitor+in_ok-push, else-branch}

pub returns : goal.returns
returns c =
    let n = names_in c.args.names.now in
    let f = file_of c.args.file.now in
    let ms = c.args.file.now.modules in
    let s : map jani.automaton_of c.in_ok-all.all ≡ module_automata n (earns_silently f) (location_values n f) (bodies f) n.modules =
    c.in_ok-all.ensures
    ∙ ap (λ (b : Bool). module_automata n b (map jani.write_of c.in_ok-values.values) (map body_in ms) n.modules) c.earns_silently-silently.ensures
    ∙ ap₂ (λ (v : List jani.Write) (bs : List Body). module_automata n (earns_silently f) v bs n.modules) c.in_ok-values.ensures (sym (map-map contents module_of ms)) in
    elim c.if-branch.branch [
      | then-branch+in_ok-monitor+in_ok-push w ↦
          with_last jani.automaton_of c.in_ok-all.all c.if-branch.all w.in_ok-monitor.field-0 _ (automaton n zz_monitor [] (monitor_edges n f)) c.in_ok-has_monitor.field-0 (has_monitor f)
          w.if-branch.true c.in_ok-has_monitor.ensures s w.in_ok-monitor.ensures (w.all-is ∙ w.in_ok-push.ensures.ok)
      | else-branch w ↦
          without_last jani.automaton_of c.in_ok-all.all c.if-branch.all _ (automaton n zz_monitor [] (monitor_edges n f)) c.in_ok-has_monitor.field-0 (has_monitor f)
          w.if-branch.false c.in_ok-has_monitor.ensures s w.all-is
    ]
