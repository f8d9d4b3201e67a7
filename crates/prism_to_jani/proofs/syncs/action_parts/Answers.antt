use Rattle.std.proofs.Common.{◌∙◌, ap, ap₂, List, ◌++◌, map, Bool, Option}
use Rattle.bridge_io.specs.declared.reason.Named.{Named}
use Rattle.process_core.specs.Instance.{only_if}
use Rattle.prism_tree.specs.Syntax.{Body, file_of}
use Rattle.name_table.specs.Asks.{bodies}
use Rattle.name_rules.specs.Names.{has_name}
use Rattle.name_rules.specs.declared.names.NameSet.{NameSet}
use Rattle.jani_automata.specs.Parts.{made}
use Rattle.jani_automata.specs.Translated.{part_if, has_command}
use Rattle.jani_automata.specs.Code.{names_in}
use Rattle.prism_to_jani.proofs.Listed.{parts_alike}
use Rattle.prism_to_jani.proofs.syncs.action_parts.Goals as goal

pub returns : goal.returns
returns c =
    let n : Named = made ((names_in c.args.names.now).action c.args.a.now) in
    c.in_ok-add_monitor_part.ensures
    ∙ ap₂ (λ (l : List (Option Named)) (w : List (Option Named)). l ++ w)
    (c.in_ok-parts.ensures
    ∙ ap (map (λ (t : NameSet). part_if (has_name t c.args.a.now) n)) c.as_slice.ensures.value
    ∙ parts_alike (λ (b : Bool). part_if b n) (λ (t : NameSet). has_name t c.args.a.now) (λ (m : Body). has_command c.args.a.now m) c.args.partners.now.modules.items (bodies (file_of c.args.file.now))
    (c.requires.partners.modules c.args.a.now))
    (ap₂ (λ (b : Bool) (d : Bool). only_if b (part_if d n)) c.requires.watched (c.requires.partners.items c.args.a.now))
