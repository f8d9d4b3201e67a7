use Rattle.std.proofs.Common.{◌≡◌, ◌++◌, map, take}
use Rattle.std.specs.Prelude.{codes}
use Rattle.std.specs.List.{flat_map}
use Rattle.std.specs.Str.{IsUtf8}
use Rattle.decimal_json.specs.Text.{quoted}
use Rattle.jani_tree.specs.Syntax.{location_of}
use Rattle.jani_to_prism.proofs.lines.push_locations.Given as goal

abbrev pub invariant-loop-l : goal.invariant-loop-l
invariant-loop-l l = record {
  text : l.out.items ≡ l.initial.out.items ++ flat_map (λ k. codes "," ++ quoted k.name.name) (map location_of (take l.l-index l.others));
  utf8 : IsUtf8 l.initial.out.items → IsUtf8 l.out.items;
}
