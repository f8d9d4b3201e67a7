use Rattle.std.specs.Prelude.{◌≡◌, ℕ, Bool, None, map, length}
use Rattle.std.proofs.Common.{◌∙◌, ap, arith}
use Rattle.std.proofs.Math.Path.{fun_ext}
use Rattle.std.proofs.lemmas.List.{length-map}
use Rattle.name_rules.specs.Least.{soonest}
use Rattle.jani_tree.specs.Syntax.{Write}
use Rattle.name_table.specs.JaniParts.{owned_of}
use Rattle.prism_translation.specs.Elements.{is_at}
use Rattle.edge_tables.specs.Counts.{written_from, written_in, unwritten}
use Rattle.edge_tables.specs.Code.{table_view, is_to_place, writing_at}
use Rattle.edge_tables.proofs.Splitting.{faults_alike}
use Rattle.edge_tables.proofs.shared.judge_shared.Goals as goal

pub returns : goal.returns
returns c =
    let vars = map owned_of c.args.lasting.now in
    let all = map table_view c.args.elements.now in
    let n : length vars ≡ length c.args.lasting.now = length-map c.args.lasting.now owned_of in
    c.judge.ensures
    ∙ ap (soonest None)
    (faults_alike (writing_at c.note_elements.new.self) (written_in vars all) 0 vars
    (λ i l.
    c.note_elements.ensures.noted i (omega (arith, l, n, c.in_ok-writings.ensures.count))
    ∙ ap (written_from (is_to_place c.in_ok-places.places i) 0 all) (c.in_ok-writings.ensures.unwritten i)
    ∙ ap (λ (to : ℕ → Write → Bool). written_from to 0 all unwritten) (fun_ext (λ k. fun_ext (λ w. ap (is_at i) (c.in_ok-places.ensures k w.target.name))))))
