-- How large properties are, measured expression by expression.
use Rattle.std.specs.Prelude.{ℕ, ◌+◌, ◌<◌, ◌^◌, ◌-◌, max, List, [], ◌∷◌, map, length, Bool, true, false, ◌||◌, nat_lt}
use Rattle.std.specs.List.{fold, sum}
use Rattle.std.proofs.Common.{◌≡◌, refl, sym, ap, ap₂, ◌∙◌, arith}
use Rattle.std.proofs.lemmas.Bool.{lt-ltb, le-ltb, ltb-true, ltb-false}
use Rattle.std.proofs.lemmas.List.Sums.{sum_by-cons}
use Rattle.bridge_io.specs.declared.reason.Reason.TheVariants.{TooLarge}
use Rattle.op_trees.specs.Tree.{capped, height_of, node_count}
use Rattle.name_rules.specs.Least.{fault_if}
use Rattle.prism_tree.specs.Syntax.{Expression, File}
use Rattle.prism_names.specs.Names.{formula_body}
use Rattle.prism_names.specs.Order.{whole}
use Rattle.prism_names.specs.Sizes.{height-written_out, nodes-written_out}
use Rattle.prism_check.specs.SizeFaults.{height_limit}
use Rattle.prop_grammar.specs.Syntax.{WrittenProperty}
use Rattle.prop_trees.specs.Trees.{Role}
use Rattle.prop_trees.specs.PrismFaults.{all_parts, size_faults}
use Rattle.prop_check.specs.Sized.{highest, nodes}

module _ (file : File) where
  abbrev wholes : List (Role × Expression) → List Expression
  wholes xs = map (λ x. whole file x.1) xs

  nodes_are : (xs : List (Role × Expression)) → sum (map node_count (wholes xs)) ≡ nodes file xs
  nodes_are [] = refl
  nodes_are (x ∷ xs) =
      sum_by-cons (λ n. n) (node_count (whole file x.1)) (map node_count (wholes xs))
      ∙ ap₂ (λ a b. a + b) (nodes-written_out (formula_body file) (length file.formulas) x.1) (nodes_are xs)

  max_from : (a : ℕ) (ns : List ℕ) → fold max a ns ≡ max a (fold max 0 ns)
  max_from a [] = omega arith
  max_from a (n ∷ ns) =
      let p = max_from (max a n) ns in
      let q = max_from (max 0 n) ns in
      omega (arith, p, q)

  zero_max : (n : ℕ) → max 0 n ≡ n
  zero_max n = omega arith

  heights_are : (xs : List (Role × Expression)) → fold max 0 (map height_of (wholes xs)) ≡ highest file xs
  heights_are [] = refl
  heights_are (x ∷ xs) =
      max_from (max 0 (height_of (whole file x.1))) (map height_of (wholes xs))
      ∙ ap₂ max (zero_max (height_of (whole file x.1)) ∙ height-written_out (formula_body file) (length file.formulas) x.1) (heights_are xs)

  -- what a capped count says of a limit
  limit_is : (limit count n : ℕ) → count ≡ capped n → limit < 2 ^ 64 - 1 → nat_lt limit count ≡ nat_lt limit n
  limit_is limit count n e fits = by_order (nat_lt limit n) refl
    where
      by_order : (b : Bool) → nat_lt limit n ≡ b → nat_lt limit count ≡ nat_lt limit n
      by_order true h = let above = ltb-true limit n h in lt-ltb limit count (omega (arith, e, above, fits)) ∙ sym h
      by_order false h = let within = ltb-false limit n h in le-ltb limit count (omega (arith, e, within)) ∙ sym h

  pub too_large_is : (ps : List WrittenProperty) (nodes_found height_found : ℕ) → nodes_found ≡ capped (nodes file (all_parts ps)) →
      height_found ≡ capped (highest file (all_parts ps)) → fault_if (nat_lt 2000000 nodes_found || nat_lt height_limit height_found) 0 TooLarge ≡ size_faults file ps
  too_large_is ps n h p q =
      ap₂ (λ a b. fault_if (a || b) 0 TooLarge)
      (limit_is 2000000 n (nodes file (all_parts ps)) p (omega arith) ∙ ap (nat_lt 2000000) (sym (nodes_are (all_parts ps))))
      (limit_is height_limit h (highest file (all_parts ps)) q (omega arith) ∙ ap (nat_lt height_limit) (sym (heights_are (all_parts ps))))
