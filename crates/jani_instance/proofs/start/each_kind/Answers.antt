use Rattle.std.proofs.Common.{◌∙◌, ap, sym, map}
use Rattle.basics.specs.Members.{filter-map}
use Rattle.jani_meaning.specs.Elements.{is_label, is_lasting, is_structure}
use Rattle.jani_instance.specs.Parts.{owned_at}
use Rattle.jani_instance.proofs.start.each_kind.Goals as goal

pub returns : goal.returns
returns c = record {
  lasting_are = ap (map owned_at) c.in_ok-lasting.ensures ∙ sym (filter-map is_lasting owned_at c.args.all.now);
  labels_are = ap (map owned_at) c.in_ok-labels.ensures ∙ sym (filter-map is_label owned_at c.args.all.now);
  structures_are = ap (map owned_at) c.in_ok-structures.ensures ∙ sym (filter-map is_structure owned_at c.args.all.now);
}
