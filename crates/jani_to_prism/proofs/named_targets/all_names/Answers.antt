use Rattle.std.proofs.Common.{◌≡◌, ◌∙◌, ap, ap₂, sym, map, List, []}
use Rattle.process_core.specs.Product.{map-map}
use Rattle.jani_tree.specs.Syntax.{File, file_of}
use Rattle.name_table.specs.declared.entry.Entry.{Entry}
use Rattle.name_table.specs.declared.class.Target as class
use Rattle.name_table.specs.declared.class.Target.TheVariants.{Prism}
use Rattle.name_table.specs.Entries.{Ask, Table, entries_after}
use Rattle.name_table.specs.PrismAsks.{asks}
use Rattle.name_table.proofs.EntryLemmas.{after_append}
use Rattle.prism_targets.specs.Targets.{targets}
use Rattle.prism_targets.specs.Names.{action_ask}
use Rattle.prism_targets.specs.Serving.{target_in}
use Rattle.jani_to_prism.specs.Asks.{vector_in, vector_ask}
use Rattle.jani_to_prism.proofs.named_targets.all_names.Goals as goal

pub returns : goal.returns
returns c =
    let f : File = file_of c.args.file.now in
    let parts : Table = c.in_ok-table.table in
    let as_made : map vector_ask (map vector_in c.args.made.now) ≡ map action_ask (targets f) =
    map-map vector_ask vector_in c.args.made.now ∙ sym (map-map action_ask (target_in f) c.args.made.now) ∙ ap (map action_ask) c.requires.targets in
    ap (λ (t : Table). t.entries) c.in_ok-ask_actions.ensures
    ∙ ap (λ (l : List Ask). entries_after parts.target parts.entries l) as_made
    ∙ ap₂ (λ (t : class.Target) (es : List Entry). entries_after t es (map action_ask (targets f))) c.in_ok-table.ensures.0 c.in_ok-table.ensures.1
    ∙ sym (after_append Prism [] (asks f) (map action_ask (targets f)))
