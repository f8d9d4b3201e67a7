use Rattle.std.proofs.Common.{◌∙◌, ◌+◌, ◌-◌, List, ℕ, ap, sym, length, map}
use Rattle.std.specs.List.{position, range_with_len}
use Rattle.name_rules.specs.Names.{under}
use Rattle.jani_tree.specs.Syntax.{file_of}
use Rattle.op_trees.specs.Names.{is_called}
use Rattle.jani_instance.specs.Actions.{located_at}
use Rattle.jani_instance.specs.Parts.{automaton_at, place_under}
use Rattle.jani_instance.specs.declared.parts.Part.{Part}
use Rattle.jani_instance.proofs.Kept.{IsSite, element_locations, none_act}
use Rattle.jani_instance.proofs.located.element.Goals as goal

pub returns : goal.returns
returns c =
    let b = c.args.basis.now in
    let file = file_of b.file.now in
    let i = c.args.i in
    let a = automaton_at c.args.part in
    let s = c.site_of-site.result in
    let k = c.requires.basis in
    let o = c.requires.owning in
    let own = λ (x : List ℕ). c.in_ok-own.ensures x ∙ ap (place_under x) c.get.ensures ∙ o.columns i x in
    let rewards = λ (x : List ℕ). c.in_ok-structures.ensures x ∙ ap (place_under x) c.get-2.ensures ∙ o.structures i x in
    let site : IsSite file i s = record {
      own = λ x. ap (λ m. under m.now x) c.site_of-site.ensures.own ∙ own x;
      locations = λ x.
          ap (λ m. under m x) c.site_of-site.ensures.locations ∙ c.requires.numbers.locations x ∙ ap (λ (p : Part). position (λ l. is_called x l.name) (automaton_at p).locations) (sym c.site_of-site.ensures.part);
      global = λ x. ap (λ m. under m.now x) c.site_of-site.ensures.places ∙ k.global x;
      own_structures = λ x. ap (λ m. under m.now x) c.site_of-site.ensures.own_structures ∙ rewards x;
      structures = λ x. ap (λ m. under m.now x) c.site_of-site.ensures.structures ∙ o.global x;
    } in
    record {
      own = own;
      edges = element_locations file i s site c.args.part c.site_of-site.ensures.part c.in_ok-locations.locations.items
          (c.in_ok-locations.ensures ∙ ap (λ es. map (located_at s es) (range_with_len 0 (length (automaton_at s.part).locations - 1 + 1))) c.edges.ensures);
      covers = λ x. none_act x a.edges;
    }
