use Rattle.std.proofs.Common.{◌≡◌, ◌<◌, ◌≤◌, ◌^◌, ◌∙◌, ap, length, map, arith}
use Rattle.std.specs.List.{AllByRecursion as Each}
use Rattle.std.proofs.lemmas.Result.{IfOk-weaker}
use Rattle.jani_tree.specs.Syntax.{File, file_of}
use Rattle.prism_targets.specs.Names.{entries}
use Rattle.prism_targets.specs.Serving.{target_in}
use Rattle.jani_to_prism.specs.Maps.{IsMapToPrism}
use Rattle.jani_to_prism.proofs.ShortActions.{short_pairs}
use Rattle.jani_to_prism.proofs.carry.map_for.Goals as goal

pub map_of-requires-clause-targets : goal.map_of-requires-clause-targets
map_of-requires-clause-targets c = ap (map (target_in (file_of c.args.file.now))) c.as_slice.ensures.value ∙ c.in_ok-named.ensures.named.serving_is.targets_are

pub map_of-requires-clause-entries : goal.map_of-requires-clause-entries
map_of-requires-clause-entries c = c.as_slice-2.ensures ∙ c.in_ok-named.ensures.named.entries_are

pub returns-clause-short : goal.returns-clause-short
returns-clause-short c =
    let f : File = file_of c.args.file.now in
    let same : length c.as_slice-2.result.now ≡ length (entries f) = ap length (c.as_slice-2.ensures ∙ c.in_ok-named.ensures.named.entries_are) in
    let held = c.as_slice-2.type_inv.0 in
    let few : length (entries f) < 2 ^ 64 = omega (arith, same, held) in
    IfOk-weaker c.map_of.result (IsMapToPrism f) (λ m. Each (λ p. length p.prism ≤ 255) m.labels) (λ m h. short_pairs f m.labels few h.labels) c.map_of.ensures
