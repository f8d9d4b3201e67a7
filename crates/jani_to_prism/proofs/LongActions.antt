-- Each target has an entry, and lines that are added one after another.
use Rattle.std.proofs.Common.{◌≡◌, List, ◌++◌, map, length, drop, ap, ◌∙◌, append_assoc, arith}
use Rattle.std.proofs.lemmas.List.{length-map, length-drop, length-append}
use Rattle.std.specs.Prelude.{Some, codes}
use Rattle.std.specs.List.{flat_map}
use Rattle.bridge_io.specs.declared.reason.Named.{Named}
use Rattle.jani_tree.specs.Syntax.{Const, File, element_names}
use Rattle.jani_meaning.specs.Elements.{lasting, labels, structures}
use Rattle.prism_targets.specs.Elements.{elements}
use Rattle.prism_targets.specs.Lines.{name_lines, location_line, called, lines_by}
use Rattle.jani_to_prism.specs.LineParts.{value_lines, moving_lines, mark_lines}
use Rattle.name_table.specs.declared.class.Target.TheVariants.{Prism}
use Rattle.name_table.specs.PrismAsks.{NewNames, asks, actions_at}
use Rattle.name_table.proofs.EntryLemmas.{one_each}
use Rattle.prism_targets.specs.Names.{action_ask, all_asks, entries}
use Rattle.prism_targets.specs.Targets.{targets, old_name}
use Rattle.prism_targets.proofs.Apart.{asks_length}

pub actions_long : (file : File) → length (drop (actions_at file) (entries file)) ≡ length (targets file)
actions_long file =
    let a = length-drop (actions_at file) (entries file) in
    let b = one_each Prism (all_asks file) in
    let c = length-append (asks file) (map action_ask (targets file)) in
    let d = asks_length file in
    let e = length-map (targets file) action_ask in
    omega arith

-- added behind others
pub behind : {X : Type 0} (l m n x rest : List X) → m ≡ l ++ x → n ≡ m ++ rest → n ≡ l ++ (x ++ rest)
behind l m n x rest h k = k ∙ ap (λ z. z ++ rest) h ∙ append_assoc l x rest

-- all lines are those of values, of what moves, and of marks
pub in_parts : (names : NewNames) (file : File) →
    value_lines names file (lasting file) (elements file) ++ (moving_lines names file (map old_name (targets file)) ++ mark_lines names (labels file) (structures file)) ≡ lines_by names file
in_parts names file =
    let a = name_lines (codes "constant") names.constants (map (λ (c : Const). Some c.name.name) file.constants) in
    let b = name_lines (codes "variable") names.variables (map called (lasting file)) in
    let c = flat_map (location_line names) (elements file) in
    let d = name_lines (codes "module") names.modules (map (λ (n : Named). Some n.name) (element_names file)) in
    let e = name_lines (codes "action") names.actions (map old_name (targets file)) in
    let f = mark_lines names (labels file) (structures file) in
    append_assoc a (b ++ c) ((d ++ e) ++ f)
    ∙ ap (λ l. a ++ l) (append_assoc b c ((d ++ e) ++ f) ∙ ap (λ l. b ++ (c ++ l)) (append_assoc d e f))
