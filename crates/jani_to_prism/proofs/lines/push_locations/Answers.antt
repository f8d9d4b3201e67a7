use Rattle.std.proofs.Common.{◌++◌, ◌∙◌, ap, ap₂, append_assoc, refl, map, take, length, drop, ◌-◌, arith, List, ℕ}
use Rattle.std.specs.Prelude.{codes}
use Rattle.std.specs.List.{flat_map}
use Rattle.process_core.specs.Ready.{Name}
use Rattle.decimal_json.specs.Text.{quoted}
use Rattle.jani_tree.specs.Syntax.{Location, location_of}
use Rattle.jani_to_prism.proofs.LineLists.{locations_joined}
use Rattle.gathering.proofs.Loops.{flat_seen}
use Rattle.jani_to_prism.proofs.Utf8Lines.{known_utf8, more_utf8, name_utf8}
use Rattle.jani_to_prism.proofs.lines.push_locations.Goals as goal

pub returns-clause-text : goal.returns-clause-text
returns-clause-text c =
    let ls = c.args.locations.now in
    c.loop-l.invariant.text
    ∙ ap (λ (l : List ℕ). l ++ flat_map (λ (k : Location). codes "," ++ quoted k.name.name) (map location_of (take c.loop-l.l-index (take (length ls - 1) (drop 1 ls)))))
    (c.in_ok-push_string.ensures.text ∙ ap (λ (x : Name). c.args.out.now.items ++ quoted x) c.as_str.ensures)
    ∙ locations_joined ls c.first-item.result c.loop-l.l-index c.args.out.now.items c.in-len1-up.len_at_least c.first-item.is (omega arith)

pub returns-clause-utf8 : goal.returns-clause-utf8
returns-clause-utf8 c h = c.loop-l.invariant.utf8 (name_utf8 _ _ _ c.in_ok-push_string.ensures.text c.in_ok-push_string.ensures.utf8 h)

pub loop-l-preserved : goal.loop-l-preserved
loop-l-preserved c = record {
  text =
      flat_seen (λ (k : Location). codes "," ++ quoted k.name.name) location_of _ c.loop-l.l-index c.l-item.result _ c.loop-l.out.items _
      c.loop-l-test.true c.l-item.is c.loop-l.invariant.text
      (c.in_ok-push_string-2.ensures.text
      ∙ ap₂ (λ (l x : List ℕ). l ++ quoted x) c.in_ok-push.ensures.items c.as_str-in-loop-l.ensures
      ∙ append_assoc c.loop-l.out.items (codes ",") (quoted c.l-item.result.name.name));
  utf8 = λ h. name_utf8 _ _ _ c.in_ok-push_string-2.ensures.text c.in_ok-push_string-2.ensures.utf8
      (more_utf8 _ _ _ c.in_ok-push.ensures.items (known_utf8 (codes ",") refl) (c.loop-l.invariant.utf8 h));
}
