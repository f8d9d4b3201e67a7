-- An order of a file's formulas in which each names only earlier ones, and what follows from it.
use Rattle.std.specs.Prelude.{◌≡◌, ℕ, ◌<◌, ◌≤◌, List, length, Some, None, bytes_eq}
use Rattle.std.specs.List.{position_or_len}
use Rattle.std.specs.Option.{option_map}
use Rattle.std.proofs.Common.{sym, ◌∙◌, arith}
use Rattle.op_trees.specs.Tree.{AllNames, node_count, height_of, substituted, written_out}
use Rattle.op_trees.specs.Seen.{Seen, seen_through, FallsTo, IsFalling}
use Rattle.op_trees.specs.SeenLaws.{names_all, looked_up_is}
use Rattle.process_core.specs.Ready.{Name}
use Rattle.prism_tree.specs.Operators.{prism_meaning}
use Rattle.prism_tree.specs.Syntax.{Expression, File}
use Rattle.prism_names.specs.Names.{formula_body, reading}
use Rattle.prism_names.specs.Flat.{flat_expression}
use Rattle.prism_names.specs.WrittenOut.{written_out_settled, written_out_plain}
use Rattle.prism_names.specs.Sizes.{nodes_by, height_by, name_nodes, name_height, count_of, nodes-renamed, height-renamed, nodes-written_out, height-written_out, name_nodes_settled, name_height_settled}

-- the place of a name in a list, the list's length where it isn't there
abbrev pub place_in : List Name → Name → ℕ
place_in order x = position_or_len (λ y. bytes_eq y x) order

-- the names of all formulas stand in the order, and the body of each names only earlier ones
pub record IsOrder (file : File) (order : List Name) : Type 0 where
  pub covers : (x : Name) (b : Expression) → formula_body file x ≡ Some b → place_in order x < length order
  pub count : length order ≤ length file.formulas
  pub falling : IsFalling (formula_body file) (place_in order)

-- an expression with its formulas written out
abbrev pub whole : File → Expression → Expression
whole file e = written_out (formula_body file) (length file.formulas) e

-- how many nodes, and how high, an expression is where its formulas are written out
abbrev pub whole_nodes : File → Expression → ℕ
whole_nodes file e = nodes_by (name_nodes (formula_body file) (length file.formulas)) e

abbrev pub whole_height : File → Expression → ℕ
whole_height file e = height_by (name_height (formula_body file) (length file.formulas)) e

pub nodes-flat : (file : File) (rename : Name → Name) (e : Expression) → node_count (flat_expression file rename e) ≡ whole_nodes file e
nodes-flat file rename e = nodes-renamed rename (whole file e) ∙ nodes-written_out (formula_body file) (length file.formulas) e

pub height-flat : (file : File) (rename : Name → Name) (e : Expression) → height_of (flat_expression file rename e) ≡ whole_height file e
height-flat file rename e = height-renamed rename (whole file e) ∙ height-written_out (formula_body file) (length file.formulas) e

module _ (file : File) (order : List Name) (ordered : IsOrder file order) where
  -- each name falls below the number of formulas
  pub in_depth : (x : Name) → FallsTo (formula_body file) (place_in order) (length file.formulas) x
  in_depth x = record {
    below =
        λ b e.
        let c = ordered.covers x b e in
        let n = ordered.count in
        omega (arith, c, n);
  }

  -- a formula's name is seen as its body, under the same names
  pub reads_body : (names : Name → Seen) (x : Name) → reading file names x ≡ seen_through prism_meaning (formula_body file x) (reading file names) (names x)
  unfolding reading
  reads_body names x = looked_up_is prism_meaning (formula_body file) (place_in order) ordered.falling names (length file.formulas) x (in_depth x)

  -- written out, no formula's name is left
  pub whole_plain : (e : Expression) → AllNames (λ x. formula_body file x ≡ None) (whole file e)
  whole_plain e = written_out_plain (formula_body file) (place_in order) ordered.falling (length file.formulas) e (names_all _ in_depth e)

  -- one substitution by written-out bodies writes an expression out
  pub fills : (e : Expression) → substituted (λ x. option_map (whole file) (formula_body file x)) e ≡ whole file e
  fills e = sym (written_out_settled (formula_body file) (place_in order) ordered.falling (length file.formulas) e (names_all _ in_depth e))

  -- a formula's name counts as many nodes as its body, and is as high
  pub counts_body : (x : Name) → name_nodes (formula_body file) (length file.formulas) x ≡ count_of (formula_body file x) (whole_nodes file)
  counts_body x = name_nodes_settled (formula_body file) (place_in order) ordered.falling (length file.formulas) x (in_depth x)

  pub measures_body : (x : Name) → name_height (formula_body file) (length file.formulas) x ≡ count_of (formula_body file x) (whole_height file)
  measures_body x = name_height_settled (formula_body file) (place_in order) ordered.falling (length file.formulas) x (in_depth x)
