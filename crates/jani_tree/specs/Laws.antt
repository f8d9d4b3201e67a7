-- The names of a file's elements: how many there are, and that they are the same without places.
use Rattle.std.specs.Prelude.{◌≡◌, List, map, length}
use Rattle.std.proofs.Common.{refl, sym, ◌∙◌}
use Rattle.std.proofs.lemmas.List.{length-map}
use Rattle.basics.specs.Mapped.{mapped}
use Rattle.bridge_io.specs.declared.reason.Named.{Named}
use Rattle.op_trees.specs.Names.{bare_name}
use Rattle.jani_tree.specs.Syntax.{File, element_names, plain_element}
use Rattle.jani_tree.specs.Places.{bare_element, bare_file}

pub element_count : (f : File) → length (element_names f) ≡ length f.elements
element_count f = length-map f.elements (λ e. e.name)

pub element_names-bare : (f : File) → element_names (bare_file f) ≡ map bare_name (element_names f)
element_names-bare f =
    mapped bare_element (λ e. e.name) (λ e. bare_name e.name) (λ e. refl) f.elements
    ∙ sym (mapped (λ e. e.name) bare_name (λ e. bare_name e.name) (λ e. refl) f.elements)

-- of parts that are made of names
pub names_plain : {A : Type 0} (f : A → Named) (xs : List A) → map (λ e. e.name) (map (λ x. plain_element (f x)) xs) ≡ map f xs
names_plain f xs = mapped (λ x. plain_element (f x)) (λ e. e.name) f (λ x. refl) xs
