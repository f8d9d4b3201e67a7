use Rattle.std.specs.Prelude.{◌≡◌, List, Option, None, map, is_some}
use Rattle.std.proofs.Common.{◌∙◌, ap, ap₂, sym}
use Rattle.bridge_io.specs.declared.reason.Fault.{Fault}
use Rattle.bridge_io.specs.declared.reason.Reason.TheVariants.{TooLarge}
use Rattle.name_rules.specs.Least.{fault_if, soonest}
use Rattle.jani_tree.specs.Syntax.{File, file_of}
use Rattle.jani_meaning.specs.Elements.{Owned, lasting}
use Rattle.prism_translation.specs.Elements.{elements}
use Rattle.prism_translation.specs.Refused.{shared_faults, size_faults}
use Rattle.edge_tables.specs.Tables.{EdgeTable, table_in}
use Rattle.edge_tables.specs.Counts.{split_faults, written_in}
use Rattle.edge_tables.specs.Code.{table_view}
use Rattle.edge_tables.proofs.Splitting.{shared_faults_are}
use Rattle.prism_targets.proofs.Soonest.{first_kind, second_kind}
use Rattle.prism_targets.proofs.refused.least_refused.Goals as goal

-- the least of those of shared variables
shared_are : (file : File) (vars : List Owned) (all : List EdgeTable) (best : Option Fault) → best ≡ soonest None (split_faults (written_in vars all) 0 vars) → vars ≡ lasting file →
    all ≡ map (table_in file) (elements file) → best ≡ soonest None (shared_faults file)
shared_are file vars all best is v a =
    is ∙ ap₂ (λ (vs : List Owned) (l : List EdgeTable). soonest None (split_faults (written_in vs l) 0 vs)) v a ∙ ap (soonest None) (sym (shared_faults_are file))

pub is_too_large-requires-clause-edges : goal.is_too_large-requires-clause-edges
is_too_large-requires-clause-edges c =
    ap (map table_view) c.as_slice-2.ensures.value ∙ c.in_ok-edges.ensures.edges (file_of c.args.checked.now) c.requires.structures c.requires.automata

pub returns-then-is_some : goal.returns-then-is_some
returns-then-is_some c =
    let file = file_of c.args.checked.now in
    let shared : c.in_ok-shared.shared ≡ soonest None (shared_faults file) =
    shared_are file _ _ _ c.in_ok-shared.ensures c.requires.lasting
    (ap (map table_view) c.as_slice.ensures.value ∙ c.in_ok-edges.ensures.edges file c.requires.structures c.requires.automata) in
    shared ∙ sym (first_kind (shared_faults file) (size_faults file) (ap is_some (sym shared) ∙ sym c.is_some.ensures ∙ c.if-is_some.true))

pub returns : goal.returns
returns c =
    let file = file_of c.args.checked.now in
    let shared : c.in_ok-shared.shared ≡ soonest None (shared_faults file) =
    shared_are file _ _ _ c.in_ok-shared.ensures c.requires.lasting
    (ap (map table_view) c.as_slice.ensures.value ∙ c.in_ok-edges.ensures.edges file c.requires.structures c.requires.automata) in
    c.too_large_if.ensures
    ∙ ap (λ b. soonest None (fault_if b 0 TooLarge)) c.in_ok-large.ensures
    ∙ sym (second_kind (shared_faults file) (size_faults file) (ap is_some (sym shared) ∙ sym c.is_some.ensures ∙ c.if-is_some.false))
