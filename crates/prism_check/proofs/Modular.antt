-- The sizes of all modules of a file, from those of the modules that are no copies.
use Rattle.std.specs.Prelude.{ℕ, ◌<◌, ◌+◌, max, List, [], ◌∷◌, ◌++◌, map, length, drop, Bool, true, false, Option, Some, None, unwrap_or, bytes_eq, if◌then◌else◌}
use Rattle.std.specs.List.{flat_map, fold, sum}
use Rattle.std.specs.Option.{option_map, option_or}
use Rattle.std.proofs.Common.{◌≡◌, refl, sym, ap, ap₂, ◌∙◌, get_or, arith}
use Rattle.std.proofs.lemmas.List.{at_drop_more}
use Rattle.std.proofs.lemmas.List.Sums.{sum_by-cons}
use Rattle.op_trees.specs.Tree.{capped}
use Rattle.process_core.specs.Ready.{Name}
use Rattle.prism_tree.specs.declared.syntax.PrismModule.{PrismModule}
use Rattle.prism_tree.specs.Syntax.{Module, plain, copied, File, module_of}
use Rattle.prism_flat.specs.Names.{module_name, renaming, module_called, copy_of, part_of, parts, formula_body}
use Rattle.prism_flat.specs.Sizes.{name_nodes, name_height}
use Rattle.prism_flat.specs.Order.{whole_nodes, whole_height}
use Rattle.prism_check.specs.declared.tree_size.Size.{Size}
use Rattle.prism_check.specs.Demands.{Demand, expression_of, outer_demands, all_demands, var_demands, command_demands, part_demands}
use Rattle.prism_check.specs.Tables.{named_module, vars_in, commands_in}
use Rattle.prism_check.specs.SizeFaults.{counted_nodes, counted_height}
use Rattle.prism_check.specs.Counted.{AreSizes, nodes_of, highest, own_demands, own_size, copied_size, copied_demands, all_nodes, tallest, nothing}
use Rattle.prism_check.proofs.Capping.{sum_capped, nodes_of-append, highest-append, nodes_of_capped, highest_capped}

-- ---- one module of a list more
own_rest : (all : List PrismModule) (i : ℕ) (entry : PrismModule) → i < length all → entry ≡ get_or all i entry →
    flat_map own_demands (map module_of (drop i all)) ≡ own_demands (module_of entry) ++ flat_map own_demands (map module_of (drop (i + 1) all))
own_rest all i entry h is =
    at_drop_more (λ ms. flat_map own_demands (map module_of ms)) all i entry h
    ∙ ap (λ e. own_demands (module_of e) ++ flat_map own_demands (map module_of (drop (i + 1) all))) (sym is)

pub own_nodes_more : (f : Name → ℕ) (all : List PrismModule) (i : ℕ) (entry : PrismModule) (sum size new whole : ℕ) → i < length all → entry ≡ get_or all i entry →
    size ≡ capped (nodes_of f (own_demands (module_of entry))) → new ≡ capped (sum + size) →
    capped (sum + nodes_of f (flat_map own_demands (map module_of (drop i all)))) ≡ whole →
    capped (new + nodes_of f (flat_map own_demands (map module_of (drop (i + 1) all)))) ≡ whole
own_nodes_more f all i entry sum size new whole h is p q so_far =
    let e = ap (nodes_of f) (own_rest all i entry h is) in
    let a = nodes_of-append f (own_demands (module_of entry)) (flat_map own_demands (map module_of (drop (i + 1) all))) in
    omega (arith, p, q, so_far, e, a)

pub own_height_more : (f : Name → ℕ) (all : List PrismModule) (i : ℕ) (entry : PrismModule) (sum size new whole : ℕ) → i < length all → entry ≡ get_or all i entry →
    size ≡ capped (highest f (own_demands (module_of entry))) → new ≡ max sum size →
    capped (max sum (highest f (flat_map own_demands (map module_of (drop i all))))) ≡ whole →
    capped (max new (highest f (flat_map own_demands (map module_of (drop (i + 1) all))))) ≡ whole
own_height_more f all i entry sum size new whole h is p q so_far =
    let e = ap (highest f) (own_rest all i entry h is) in
    let a = highest-append f (own_demands (module_of entry)) (flat_map own_demands (map module_of (drop (i + 1) all))) in
    omega (arith, p, q, so_far, e, a)

pub named_more : (own : Module → Size) (old new : Name → Option Size) (q name : Name) (size : Size) (all : List PrismModule) (i : ℕ) (entry : PrismModule) (whole : Option Size) →
    i < length all → entry ≡ get_or all i entry → name ≡ (module_name (module_of entry)).name → size ≡ own (module_of entry) →
    new q ≡ option_or (old q) (if bytes_eq name q then Some size else None) →
    option_or (old q) (option_map own (named_module (drop i all) q)) ≡ whole →
    option_or (new q) (option_map own (named_module (drop (i + 1) all) q)) ≡ whole
named_more own old new q name size all i entry whole h is same gives e so_far =
    let rest = named_module (drop (i + 1) all) q in
    ap (λ o. option_or o (option_map own rest)) e
    ∙ ap₂ (λ n s. option_or (option_or (old q) (if bytes_eq n q then Some s else None)) (option_map own rest)) same gives
    ∙ one (old q) (bytes_eq (module_name (module_of entry)).name q) rest
    ∙ sym (at_drop_more (λ ms. option_or (old q) (option_map own (named_module ms q))) all i entry h
    ∙ ap (λ m. option_or (old q) (option_map own (named_module (m ∷ drop (i + 1) all) q))) (sym is))
    ∙ so_far
  where
    one : (o : Option Size) (b : Bool) (r : Option Module) →
        option_or (option_or o (if b then Some (own (module_of entry)) else None)) (option_map own r)
        ≡ option_or o (option_map own (if b then Some (module_of entry) else r))
    one (Some z) b r = refl
    one None true r = refl
    one None false r = refl

-- ---- copies by a table
copied_is : (f g : Name → ℕ) (o : Option Module) → unwrap_or (option_map (own_size f g) o) nothing
    ≡ record {
      nodes = capped (nodes_of f (flat_map var_demands (vars_in o) ++ flat_map command_demands (commands_in o)));
      height = capped (highest g (flat_map var_demands (vars_in o) ++ flat_map command_demands (commands_in o)));
    }
copied_is f g None = refl
copied_is f g (Some (plain m)) = refl
copied_is f g (Some (copied m)) = refl

module _ (f g : Name → ℕ) (called : Name → Option Module) (sizes : Name → Option Size) (table : (x : Name) → sizes x ≡ option_map (own_size f g) (called x)) where
  copy_is : (m : Module) → copied_size sizes m ≡ record { nodes = capped (nodes_of f (copied_demands called m)); height = capped (highest g (copied_demands called m)) }
  copy_is (plain m) = refl
  copy_is (copied m) = ap (λ o. unwrap_or o nothing) (table m.from.name) ∙ copied_is f g (called m.from.name)

  pub copies_nodes : (ms : List Module) → capped (all_nodes (map (copied_size sizes) ms)) ≡ capped (nodes_of f (flat_map (copied_demands called) ms))
  copies_nodes [] = refl
  copies_nodes (m ∷ ms) =
      sum_capped (copied_size sizes m).nodes (nodes_of f (copied_demands called m)) (all_nodes (map (copied_size sizes) ms)) (nodes_of f (flat_map (copied_demands called) ms))
      (capped_is (copied_size sizes m).nodes (nodes_of f (copied_demands called m)) (ap (λ s. s.nodes) (copy_is m))) (copies_nodes ms)
      ∙ ap capped (sym (nodes_of-append f (copied_demands called m) (flat_map (copied_demands called) ms)))
    where
      capped_is : (k n : ℕ) → k ≡ capped n → capped k ≡ capped n
      capped_is k n h = omega (arith, h)

  pub copies_height : (ms : List Module) → tallest (map (copied_size sizes) ms) ≡ capped (highest g (flat_map (copied_demands called) ms))
  copies_height [] = refl
  copies_height (m ∷ ms) =
      ap₂ max (ap (λ s. s.height) (copy_is m)) (copies_height ms)
      ∙ together (highest g (copied_demands called m)) (highest g (flat_map (copied_demands called) ms))
      ∙ ap capped (sym (highest-append g (copied_demands called m) (flat_map (copied_demands called) ms)))
    where
      together : (a b : ℕ) → max (capped a) (capped b) ≡ capped (max a b)
      together a b = omega arith

-- ---- the modules themselves and the copies are all modules
copy_demands_is : (rename : Name → Name) (o : Option Module) →
    part_demands (copy_of rename o) ≡ flat_map var_demands (vars_in o) ++ flat_map command_demands (commands_in o)
copy_demands_is rename None = refl
copy_demands_is rename (Some (plain m)) = refl
copy_demands_is rename (Some (copied m)) = refl

part_nodes : (file : File) (f : Name → ℕ) (m : Module) →
    nodes_of f (part_demands (part_of file m)) ≡ nodes_of f (own_demands m) + nodes_of f (copied_demands (module_called file) m)
part_nodes file f (plain m) = omega arith
part_nodes file f (copied m) =
    let e = ap (nodes_of f) (copy_demands_is (renaming m.pairs) (module_called file m.from.name)) in
    omega (arith, e)

part_height : (file : File) (f : Name → ℕ) (m : Module) →
    highest f (part_demands (part_of file m)) ≡ max (highest f (own_demands m)) (highest f (copied_demands (module_called file) m))
part_height file f (plain m) = omega arith
part_height file f (copied m) =
    let e = ap (highest f) (copy_demands_is (renaming m.pairs) (module_called file m.from.name)) in
    omega (arith, e)

pub parts_nodes : (file : File) (f : Name → ℕ) (ms : List Module) → nodes_of f (flat_map part_demands (map (part_of file) ms))
    ≡ nodes_of f (flat_map own_demands ms) + nodes_of f (flat_map (copied_demands (module_called file)) ms)
parts_nodes file f [] = refl
parts_nodes file f (m ∷ ms) =
    let a = nodes_of-append f (part_demands (part_of file m)) (flat_map part_demands (map (part_of file) ms)) in
    let b = nodes_of-append f (own_demands m) (flat_map own_demands ms) in
    let c = nodes_of-append f (copied_demands (module_called file) m) (flat_map (copied_demands (module_called file)) ms) in
    let one = part_nodes file f m in
    let rest = parts_nodes file f ms in
    omega (arith, a, b, c, one, rest)

pub parts_height : (file : File) (f : Name → ℕ) (ms : List Module) → highest f (flat_map part_demands (map (part_of file) ms))
    ≡ max (highest f (flat_map own_demands ms)) (highest f (flat_map (copied_demands (module_called file)) ms))
parts_height file f [] = refl
parts_height file f (m ∷ ms) =
    let a = highest-append f (part_demands (part_of file m)) (flat_map part_demands (map (part_of file) ms)) in
    let b = highest-append f (own_demands m) (flat_map own_demands ms) in
    let c = highest-append f (copied_demands (module_called file) m) (flat_map (copied_demands (module_called file)) ms) in
    let one = part_height file f m in
    let rest = parts_height file f ms in
    a ∙ ap₂ max one rest ∙ crossed (highest f (own_demands m)) (highest f (copied_demands (module_called file) m)) (highest f (flat_map own_demands ms))
    (highest f (flat_map (copied_demands (module_called file)) ms)) ∙ sym (ap₂ max b c)
  where
    crossed : (a b c d : ℕ) → max (max a b) (max c d) ≡ max (max a c) (max b d)
    crossed a b c d = omega arith

-- ---- all expressions of a file
nodes_summed : (file : File) (ds : List Demand) →
    sum (map (λ d. whole_nodes file (expression_of d)) ds) ≡ nodes_of (name_nodes (formula_body file) (length file.formulas)) ds
nodes_summed file [] = refl
nodes_summed file (d ∷ ds) =
    sum_by-cons (λ n. n) (whole_nodes file (expression_of d)) (map (λ e. whole_nodes file (expression_of e)) ds)
    ∙ ap (λ n. whole_nodes file (expression_of d) + n) (nodes_summed file ds)

max_from : (a : ℕ) (xs : List ℕ) → fold max a xs ≡ max a (fold max 0 xs)
max_from a [] = omega arith
max_from a (x ∷ xs) =
    let p = max_from (max a x) xs in
    let q = max_from (max 0 x) xs in
    omega (arith, p, q)

height_summed : (file : File) (ds : List Demand) →
    fold max 0 (map (λ d. whole_height file (expression_of d)) ds) ≡ highest (name_height (formula_body file) (length file.formulas)) ds
height_summed file [] = refl
height_summed file (d ∷ ds) =
    max_from (max 0 (whole_height file (expression_of d))) (map (λ e. whole_height file (expression_of e)) ds)
    ∙ ap₂ max (zero_max (whole_height file (expression_of d))) (height_summed file ds)
  where
    zero_max : (n : ℕ) → max 0 n ≡ n
    zero_max n = omega arith

module _ (file : File) (sizes : Name → Size) (right : AreSizes file sizes) where
  abbrev nodes_by_table : Name → ℕ
  nodes_by_table x = (sizes x).nodes

  abbrev height_by_table : Name → ℕ
  height_by_table x = (sizes x).height

  pub file_nodes : (outer modules all : ℕ) → outer ≡ capped (nodes_of nodes_by_table (outer_demands file)) →
      modules ≡ capped (nodes_of nodes_by_table (flat_map own_demands file.modules) + nodes_of nodes_by_table (flat_map (copied_demands (module_called file)) file.modules)) →
      all ≡ capped (outer + modules) → all ≡ capped (counted_nodes file)
  file_nodes outer modules all p q r =
      let parts_are = parts_nodes file nodes_by_table file.modules in
      let joined = nodes_of-append nodes_by_table (outer_demands file) (flat_map part_demands (parts file)) in
      let same = nodes_of_capped nodes_by_table (name_nodes (formula_body file) (length file.formulas)) right.nodes (all_demands file) in
      let summed = nodes_summed file (all_demands file) in
      omega (arith, p, q, r, parts_are, joined, same, summed)

  pub file_height : (outer modules all : ℕ) → outer ≡ capped (highest height_by_table (outer_demands file)) →
      modules ≡ capped (max (highest height_by_table (flat_map own_demands file.modules)) (highest height_by_table (flat_map (copied_demands (module_called file)) file.modules))) →
      all ≡ max outer modules → all ≡ capped (counted_height file)
  file_height outer modules all p q r =
      let parts_are = parts_height file height_by_table file.modules in
      let joined = highest-append height_by_table (outer_demands file) (flat_map part_demands (parts file)) in
      let same = highest_capped height_by_table (name_height (formula_body file) (length file.formulas)) right.height (all_demands file) in
      let summed = height_summed file (all_demands file) in
      omega (arith, p, q, r, parts_are, joined, same, summed)
