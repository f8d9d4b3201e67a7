use Rattle.std.proofs.Common.{◌≡◌, ℕ, List, ap, ap₂, ◌∙◌}
use Rattle.std.specs.Prelude.{map}
use Rattle.decimal_json.specs.declared.tree.Json.{Json}
use Rattle.prism_tree.specs.Syntax.{File, Formula, formula_of}
use Rattle.prism_names.specs.Places.{at_places}
use Rattle.prism_rewriter.specs.Filling.{bodies_after}
use Rattle.jani_table.specs.Node.{node}
use Rattle.name_table.proofs.EntryLemmas.{one_each}
use Rattle.prism_images.proofs.Form.{operands_kept}
use Rattle.prism_images.proofs.Typed.{agreeing, typed_seen_alike}
use Rattle.prop_trees.specs.Syntax.{property_of}
use Rattle.prop_to_jani.specs.Laws.{IsTranslated}
use Rattle.prop_to_jani.specs.ToJani.{to_jani_node}
use Rattle.prop_to_jani.proofs.Promised.{is_translated}
use Rattle.prop_to_jani.proofs.ReadBack.{translated_read_back}
use Rattle.prop_to_jani.proofs.Translating.{ok_then}
use Rattle.prop_to_jani.proofs.translation.with_names.Goals as goal

pub with_bodies-requires-clause-bodies : goal.with_bodies-requires-clause-bodies
with_bodies-requires-clause-bodies c =
    let formulas = ap (map formula_of) c.as_slice.ensures ∙ ap (λ (f : File). f.formulas) c.file-file.ensures.tree in
    λ x. c.in_ok-bodies.ensures x ∙ ap₂ (λ (fs : List Formula) (places : List ℕ). bodies_after (at_places fs places) x) formulas c.order.ensures

pub returns : goal.returns
returns c =
    let ps = map property_of c.args.props.now in
    ok_then (λ (v : Json). node v ≡ to_jani_node c.args.model.now.file ps) (λ (v : Json). IsTranslated c.args.model.now ps (node v))
    (λ v e. is_translated one_each typed_seen_alike agreeing (translated_read_back typed_seen_alike agreeing operands_kept) c.args.model.now c.file-file.ensures.checked ps c.requires.props (node v) e) c.with_bodies.result c.with_bodies.ensures
