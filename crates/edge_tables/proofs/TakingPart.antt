-- The vectors in which an element takes part: one part more, and that the others say nothing of the element.
use Rattle.std.specs.Prelude.{◌≡◌, ℕ, zero, suc, ◌+◌, ◌*◌, ◌<◌, List, [], ◌∷◌, ◌++◌, map, length, take, get_or, Bool, not, ◌&&◌, Option, Some, None, is_some, is_none, nat_eq}
use Rattle.std.specs.List.{filter, flat_map, sum_by}
use Rattle.std.proofs.Common.{refl, sym, ap, ap₂, ◌∙◌, append-nil, append_assoc, length-take, arith}
use Rattle.std.proofs.Math.Path.{fun_ext}
use Rattle.std.proofs.Math.Bool.{and_self_left}
use Rattle.bridge_io.specs.declared.reason.Named.{Named}
use Rattle.process_core.specs.Ready.{Name}
use Rattle.process_core.specs.Instance.{only_if}
use Rattle.prism_translation.specs.Elements.{action_of}
use Rattle.prism_translation.specs.Targets.{part_of, is_named}
use Rattle.prism_translation.specs.Refused.{edge_nodes}
use Rattle.choice_laws.proofs.Walks.{filter-filter}
use Rattle.gathering.proofs.Lists.{first_apart, apart_first, next_same}
use Rattle.gathering.proofs.Loops.{taken}
use Rattle.edge_tables.specs.Tables.{EdgeTable, Ranked, Row, Split, takes_part, is_participant, all_numbers, calls, blocks, element_serves, numbers_served, served_by, split_count}
use Rattle.edge_tables.specs.Counts.{action_count, blocks_split, command_count, names_split, node_count, weight}

-- ---- one part more
last : {X : Type 0} (ps : List (Option Named)) (p : Option Named) (k : ℕ) (v : X) →
    only_if (takes_part k (ps ++ p ∷ [])) v ≡ only_if (takes_part k ps) v ++ only_if (is_some p && nat_eq k (length ps)) v
last [] None zero v = refl
last [] (Some n) zero v = refl
last [] None (suc k) v = refl
last [] (Some n) (suc k) v = ap (λ b. only_if b v) (sym (apart_first k))
last (q ∷ ps) None zero v = sym (append-nil (only_if (takes_part 0 (q ∷ ps)) v))
last (q ∷ ps) (Some n) zero v =
    sym (append-nil (only_if (takes_part 0 (q ∷ ps)) v)) ∙ ap (λ b. only_if (takes_part 0 (q ∷ ps)) v ++ only_if b v) (sym (first_apart (length ps)))
last (q ∷ ps) p (suc k) v = last ps p k v ∙ ap (λ b. only_if (takes_part k ps) v ++ only_if (is_some p && b) v) (sym (next_same k (length ps)))

pub part_more : {X : Type 0} (ps : List (Option Named)) (i : ℕ) (p : Option Named) (k : ℕ) (v : X) (before old new : List X) → i < length ps → p ≡ get_or ps i p →
    old ≡ before ++ only_if (takes_part k (take i ps)) v → new ≡ old ++ only_if (is_some p && nat_eq k i) v → new ≡ before ++ only_if (takes_part k (take (i + 1) ps)) v
part_more ps i p k v before old new h e so_far added =
    added
    ∙ ap₂ (λ l (n : ℕ). l ++ only_if (is_some p && nat_eq k n) v) so_far (sym all)
    ∙ append_assoc before (only_if (takes_part k (take i ps)) v) (only_if (is_some p && nat_eq k (length (take i ps))) v)
    ∙ ap (λ l. before ++ l) (sym (last (take i ps) p k v) ∙ ap (λ l. only_if (takes_part k l) v) (sym (taken ps i p h e)))
  where
    all : length (take i ps) ≡ i
    all = let m = length-take i ps in omega (arith, m, h)

-- ---- the others say nothing of the element
within : {X : Type 0} (p q : X → Bool) → ((x : X) → (p x && q x) ≡ q x) → (xs : List X) → filter q (filter p xs) ≡ filter q xs
within p q h xs = filter-filter q p xs ∙ ap (λ r. filter r xs) (fun_ext h)

named : (o : Option Name) (x : Name) → (is_some o && is_named o (Some x)) ≡ is_named o (Some x)
named None x = refl
named (Some y) x = refl

-- how much is made of it
module _ (ss : List Split) (k : ℕ) where
  abbrev own : List Split
  own = filter (is_participant k) ss

  count_own : (a : Option Name) → action_count own k a ≡ action_count ss k a
  count_own None = refl
  count_own (Some x) = ap (sum_by (weight k)) (within (is_participant k) (names_split k x) (λ s. named (part_of s.vector k) x) ss)

  pub commands_own : (t : EdgeTable) → command_count own k t ≡ command_count ss k t
  commands_own t =
      ap₂ (λ (f : Ranked → ℕ) l. sum_by f t.edges + sum_by split_count l) (fun_ext (λ e. count_own (action_of e.edge)))
      (within (is_participant k) (blocks_split k t) (λ s. and_self_left (is_some (part_of s.vector k)) _) ss)

  pub nodes_own : (t : EdgeTable) → node_count own k t ≡ node_count ss k t
  nodes_own t = ap (λ (f : Ranked → ℕ). sum_by f t.edges) (fun_ext (λ e. ap (λ n. edge_nodes e.edge * n) (count_own (action_of e.edge))))

-- what it serves and blocks
module _ (rows : List Row) (k first : ℕ) where
  abbrev mine : List Row
  mine = filter (λ r. is_participant k r.split) rows

  served_own : (e : Ranked) (a : Option Name) → served_by mine k first e a ≡ served_by rows k first e a
  served_own e None = refl
  served_own e (Some x) = ap (flat_map (numbers_served k e)) (within (λ r. is_participant k r.split) (calls k x) (λ r. named (part_of r.split.vector k) x) rows)

  pub serves_own : (t : EdgeTable) → element_serves mine k first t ≡ element_serves rows k first t
  serves_own t =
      ap₂ (λ (f : Ranked → List ℕ × Bool) l. record { edges = map f t.edges; blocked = flat_map all_numbers l })
      (fun_ext (λ e. ap (λ (ns : List ℕ). (ns, is_none (action_of e.edge) && not e.rewarding)) (served_own e (action_of e.edge))))
      (within (λ r. is_participant k r.split) (blocks k t) (λ r. and_self_left (is_some (part_of r.split.vector k)) _) rows)
