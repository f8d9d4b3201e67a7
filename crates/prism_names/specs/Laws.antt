-- What is kept where formulas and copies are written out, as statements and proofs.
use Rattle.std.specs.Prelude.{◌≡◌, List, map, length, None, ℕ}
use Rattle.std.specs.Option.{option_map}
use Rattle.std.proofs.Common.{sym, ◌∙◌}
use Rattle.op_trees.specs.Tree.{AllNames, node_count, height_of, substituted}
use Rattle.op_trees.specs.Seen.{Seen, seen_through}
use Rattle.op_trees.specs.SeenLaws.{seen-renamed_written_out}
use Rattle.process_core.specs.Ready.{Name}
use Rattle.process_core.specs.Product.{map-map}
use Rattle.prism_tree.specs.Operators.{prism_meaning}
use Rattle.prism_tree.specs.Syntax.{Expression, File}
use Rattle.prism_names.specs.Names.{unchanged, Part, part_of, parts, see, reading_in, reading, formula_body}
use Rattle.prism_names.specs.Flat.{flat_expression, flat_var, flat_command, flat_module, flat}
use Rattle.prism_names.specs.Sizes.{name_nodes, name_height, count_of}
use Rattle.prism_names.specs.Places.{IsPlaceOrder, at_places, formula_names}
use Rattle.prism_names.specs.Order.{IsOrder, whole, whole_nodes, whole_height, nodes-flat, height-flat, reads_body, whole_plain, fills, counts_body, measures_body}

-- an expression written out is seen as the expression is, with its formulas looked up and its names replaced
abbrev pub SeenWrittenOut : Type 0
SeenWrittenOut =
    (file : File) (rename : Name → Name) (names : Name → Seen) (e : Expression) → see (flat_expression file rename e) names ≡ see e (reading_in file names rename)

pub seen_written_out : SeenWrittenOut
unfolding see reading
seen_written_out file rename names e = seen-renamed_written_out prism_meaning rename names (formula_body file) (length file.formulas) e

-- a module's variables and commands written out
abbrev pub flat_part : File → Part → Part
flat_part file p = record {
  rename = unchanged;
  vars = map (flat_var file p.rename) p.vars;
  commands = map (flat_command file p.rename) p.commands;
}

-- the modules of the file that is written out are those of the file, written out
abbrev pub PartsWrittenOut : Type 0
PartsWrittenOut = (file : File) → parts (flat file) ≡ map (flat_part file) (parts file)

pub parts-flat : PartsWrittenOut
parts-flat file = map-map (part_of (flat file)) (flat_module file) file.modules ∙ sym (map-map (flat_part file) (part_of file) file.modules)

-- an expression written out is as large and as high as it is where each formula's name counts as its body
abbrev pub SizesWrittenOut : Type 0
SizesWrittenOut = (file : File) (rename : Name → Name) (e : Expression) →
    (node_count (flat_expression file rename e) ≡ whole_nodes file e) × (height_of (flat_expression file rename e) ≡ whole_height file e)

pub sizes_written_out : SizesWrittenOut
sizes_written_out file rename e = (nodes-flat file rename e, height-flat file rename e)

-- what an order of the formulas is good for
pub record OrderLaws (file : File) : Type 0 where
  pub reads_body : (names : Name → Seen) (x : Name) → reading file names x ≡ seen_through prism_meaning (formula_body file x) (reading file names) (names x)
  pub no_formula : (e : Expression) → AllNames (λ x. formula_body file x ≡ None) (whole file e)
  pub fills : (e : Expression) → substituted (λ x. option_map (whole file) (formula_body file x)) e ≡ whole file e
  pub counts_body : (x : Name) → name_nodes (formula_body file) (length file.formulas) x ≡ count_of (formula_body file x) (whole_nodes file)
  pub measures_body : (x : Name) → name_height (formula_body file) (length file.formulas) x ≡ count_of (formula_body file x) (whole_height file)

abbrev pub OrderedFormulas : Type 0
OrderedFormulas = (file : File) (order : List Name) → IsOrder file order → OrderLaws file

pub ordered_formulas : OrderedFormulas
ordered_formulas file order ordered = record {
  reads_body = reads_body file order ordered;
  no_formula = whole_plain file order ordered;
  fills = fills file order ordered;
  counts_body = counts_body file order ordered;
  measures_body = measures_body file order ordered;
}

-- the names of formulas at places that are in order are an order
abbrev pub OrderedPlaces : Type 0
OrderedPlaces = (file : File) (places : List ℕ) → IsPlaceOrder file places → IsOrder file (formula_names (at_places file.formulas places))
