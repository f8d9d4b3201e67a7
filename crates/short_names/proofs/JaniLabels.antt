-- The result of each synchronisation vector of a JANI file that a JSON text spells is UTF-8.
use Rattle.std.proofs.Common.{◌≡◌, Bool, true, false, List, [], ◌∷◌, Option, Some, None, IsSomeAnd, if◌then◌else◌, sym, subst}
use Rattle.std.specs.Prelude.{ℕ, bytes_eq}
use Rattle.std.specs.List.{AllByRecursion as Each}
use Rattle.std.specs.Str.{is_utf8}
use Rattle.basics.specs.Options.{IfAny}
use Rattle.bridge_io.specs.declared.reason.Named.{Named}
use Rattle.jani_table.specs.declared.key.Key.{Key}
use Rattle.jani_table.specs.declared.key.Key.TheVariants as K
use Rattle.jani_table.specs.Node.{Node, null, truth, number, text, array, object, Nodes, no_nodes, more_nodes, Fields, no_fields, field, node}
use Rattle.jani_table.specs.Faults.{member_text, members_in, part, items_in}
use Rattle.jani_table.specs.Table.{spelled}
use Rattle.jani_tree.specs.Jani as jani
use Rattle.jani_tree.specs.Jani.{Optional, IsList, IsNamed, IsVector, IsSystem}
use Rattle.jani_tree.specs.Syntax.{Vector, File}
use Rattle.short_names.specs.Laws.{HasTextLabel, JaniLabelsAreTexts}
use Rattle.short_names.proofs.JsonTexts.{HasTexts, HaveTexts, FieldsHaveTexts, spelled_texts}

-- ---- parts of a value
member_has : (k : List ℕ) (ms : Fields) → FieldsHaveTexts ms → IfAny HasTexts (member_text k ms)
member_has k no_fields h = tt
member_has k (field n v rest) h = by_test (bytes_eq k n.name) (member_has k rest h.1)
  where
    by_test : (b : Bool) → IfAny HasTexts (member_text k rest) → IfAny HasTexts (if b then Some v else member_text k rest)
    by_test true r = h.0
    by_test false r = r

members_have : (v : Node) → HasTexts v → FieldsHaveTexts (members_in v)
members_have (object at ms close) h = h
members_have (null at) h = tt
members_have (truth at b) h = tt
members_have (number at d) h = tt
members_have (text at s) h = tt
members_have (array at vs) h = tt

part_has : (k : Key) (v : Node) → HasTexts v → IfAny HasTexts (part k v)
part_has k v h = member_has (spelled k) (members_in v) (members_have v h)

items_have : (v : Node) → HasTexts v → HaveTexts (items_in v)
items_have (array at vs) h = h
items_have (null at) h = tt
items_have (truth at b) h = tt
items_have (number at d) h = tt
items_have (text at s) h = tt
items_have (object at ms close) h = tt

-- ---- vectors
named_text : (o : Option Node) (r : Option Named) → IfAny HasTexts o → Optional IsNamed o r → IfAny (λ n. is_utf8 n.name ≡ true) r
named_text None None h e = tt
named_text None (Some n) h e = absurd e
named_text (Some v) None h e = tt
named_text (Some v) (Some n) h e = subst HasTexts e h

vectors_labelled : (vs : Nodes) (xs : List Vector) → HaveTexts vs → jani.Each IsVector vs xs → Each HasTextLabel xs
vectors_labelled no_nodes [] h e = tt
vectors_labelled no_nodes (x ∷ xs) h e = absurd e
vectors_labelled (more_nodes v vs) [] h e = tt
vectors_labelled (more_nodes v vs) (x ∷ xs) h e = (named_text (part K.Result v) x.result (part_has K.Result v h.0) e.0.result, vectors_labelled vs xs h.1 e.1)

list_labelled : (o : Option Node) (xs : List Vector) → IfAny HasTexts o → IsList IsVector o xs → Each HasTextLabel xs
list_labelled None xs h e = subst (Each HasTextLabel) (sym e) tt
list_labelled (Some v) xs h e = vectors_labelled (items_in v) xs (items_have v h) e.items

system_labelled : (o : Option Node) (f : File) → IfAny HasTexts o → IsSomeAnd o (λ s. IsSystem s f.elements f.elements_at f.vectors) → Each HasTextLabel f.vectors
system_labelled None f h e = absurd e
system_labelled (Some s) f h e = list_labelled (part K.Syncs s) f.vectors (part_has K.Syncs s h) e.vectors_are

pub jani_labels : JaniLabelsAreTexts
jani_labels bytes value tokens f j p = system_labelled (part K.System (node value)) f (part_has K.System (node value) (spelled_texts bytes value tokens j)) p.system
