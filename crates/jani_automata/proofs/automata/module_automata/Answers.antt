use Rattle.std.proofs.Common.{◌∙◌, ap, map, min, length, refl, List, [], arith}
use Rattle.gathering.proofs.Loops.{paired_all}
use Rattle.prism_tree.specs.declared.syntax.PrismModule.{PrismModule}
use Rattle.jani_tree.specs.Syntax as jani
use Rattle.name_table.specs.declared.entry.Entry.{Entry}
use Rattle.name_table.specs.Gathered.{body_in}
use Rattle.jani_edges.specs.Automata.{module_automata}
use Rattle.jani_edges.specs.Code.{names_in}
use Rattle.jani_edges.proofs.Monitored.{no_entries}
use Rattle.jani_automata.proofs.automata.module_automata.Goals as goal

pub returns-then-count-eq0 : goal.returns-then-count-eq0
returns-then-count-eq0 c =
    ap (map jani.automaton_of) c.new-all.ensures
    ∙ paired_all (λ (ms : List PrismModule) (es : List Entry). module_automata (names_in c.args.names.now) c.args.silently (map jani.write_of c.args.values) (map body_in ms) es)
    (λ es. refl) (λ ms. no_entries (names_in c.args.names.now) c.args.silently (map jani.write_of c.args.values) (map body_in ms)) _ [] c.args.file.now.modules
    c.args.names.now.modules.now c.shorter-count.result 0
    (c.shorter-count.ensures ∙ ap (λ (l : List PrismModule). min (length l) (length c.args.names.now.modules.now)) c.as_slice-modules.ensures) (omega arith) refl

pub returns : goal.returns
returns c =
    paired_all (λ (ms : List PrismModule) (es : List Entry). module_automata (names_in c.args.names.now) c.args.silently [] (map body_in ms) es)
    (λ es. refl) (λ ms. no_entries (names_in c.args.names.now) c.args.silently [] (map body_in ms)) _ _ c.args.file.now.modules
    c.args.names.now.modules.now c.shorter-count.result c.loop-i.i
    (c.shorter-count.ensures ∙ ap (λ (l : List PrismModule). min (length l) (length c.args.names.now.modules.now)) c.as_slice-modules.ensures) c.loop-i-test.false c.loop-i.invariant
