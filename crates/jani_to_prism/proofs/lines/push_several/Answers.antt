use Rattle.std.proofs.Common.{◌++◌, ◌∙◌, ap, ap₂, map, refl, List, ℕ}
use Rattle.std.specs.Prelude.{codes}
use Rattle.decimal_json.specs.Text.{quoted}
use Rattle.jani_tree.specs.Syntax.{Location, location_of}
use Rattle.prism_targets.specs.Lines.{joined}
use Rattle.jani_to_prism.proofs.Utf8Lines.{known_utf8, more_utf8}
use Rattle.jani_to_prism.proofs.LineLists.{five_behind}
use Rattle.jani_to_prism.proofs.lines.push_several.Goals as goal

pub returns-clause-text : goal.returns-clause-text
returns-clause-text c =
    let names : List ℕ = joined (map (λ (k : Location). quoted k.name.name) (map location_of c.args.locations.now)) in
    c.in_ok-push.ensures.items
    ∙ ap (λ (l : List ℕ). l ++ codes "]")
    (c.in_ok-push_locations.ensures.text
    ∙ ap (λ (l : List ℕ). l ++ names)
    (c.in_ok-extend_from_slice-3.ensures.items
    ∙ ap (λ (l : List ℕ). l ++ codes " [")
    (c.in_ok-extend_from_slice-2.ensures.items
    ∙ ap₂ (λ (l n : List ℕ). l ++ n) c.in_ok-extend_from_slice.ensures.items c.as_bytes.ensures.value)))
    ∙ five_behind c.args.out.now.items (codes "// location ") c.args.name.now (codes " [") names (codes "]")

pub returns-clause-utf8 : goal.returns-clause-utf8
returns-clause-utf8 c h =
    more_utf8 _ _ _ c.in_ok-push.ensures.items (known_utf8 (codes "]") refl)
    (c.in_ok-push_locations.ensures.utf8
    (more_utf8 _ _ _ c.in_ok-extend_from_slice-3.ensures.items (known_utf8 (codes " [") refl)
    (more_utf8 _ _ _ c.in_ok-extend_from_slice-2.ensures.items c.as_bytes.ensures.utf8
    (more_utf8 _ _ _ c.in_ok-extend_from_slice.ensures.items (known_utf8 (codes "// location ") refl) h))))
