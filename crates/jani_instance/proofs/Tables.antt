-- Tables that hold values of constants, and those that a turn more does not change.
use Rattle.std.specs.Prelude.{◌≡◌, ℕ, zero, suc, ◌+◌, ◌<◌, List, map, length, Bool, true, false, Option, Some, None, nat_eq, slice_get, slice_set, unwrap_or, if◌then◌else◌}
use Rattle.std.specs.List.{list_any, position}
use Rattle.std.specs.Option.{option_map}
use Rattle.std.proofs.Common.{refl, sym, ap, ◌∙◌, arith}
use Rattle.std.proofs.lemmas.Bool.Decides.{nat_tests}
use Rattle.std.proofs.lemmas.Option.{slice_get-map}
use Rattle.op_trees.specs.Seen.{Seen, known}
use Rattle.op_trees.specs.declared.tree.Value.{Value}
use Rattle.op_trees.specs.Names.{is_called}
use Rattle.process_core.specs.Ready as ready
use Rattle.process_core.specs.Instance.{Valuation}
use Rattle.process_core.specs.Product.{map-map}
use Rattle.state_choices.specs.Trimmed.{computed}
use Rattle.state_choices.specs.Views.{seen_of}
use Rattle.state_choices.proofs.ComputedLaws.{computed_laws}
use Rattle.jani_tree.specs.Syntax.{Const, File}
use Rattle.jani_meaning.specs.Scene.{constant, constant_called, constant_names, constant_seen, constant_value, constant_within, scene}
use Rattle.jani_instance.specs.Built.{value_from}
use Rattle.jani_instance.specs.Constants.{AreWithin, first_table, names_by, round_of}
use Rattle.jani_instance.proofs.Rounds.{any_below, below_constant, below_known, found_is, found_value, no_values, stays, value_stays}
use Rattle.basics.specs.Lists.{get_set}

-- ---- lists and options
agree : (a b : Option Value) → ((w : Value) → a ≡ Some w → b ≡ Some w) → ((w : Value) → b ≡ Some w → a ≡ Some w) → a ≡ b
agree None None f g = refl
agree None (Some w) f g = g w refl
agree (Some w) b f g = sym (f w refl)

-- a value that a program has is the value
narrow_some : (s : Seen) (w : Value) → (seen_of (computed s)).value ≡ Some w → s.value ≡ Some w
narrow_some s w h = by_test s.wide (sym (ap (λ x. x.value) (computed_laws.values s)) ∙ h)
  where
    by_test : (b : Bool) → (if b then None else s.value) ≡ Some w → s.value ≡ Some w
    by_test true e = absurd cc
    by_test false e = e

module _ (file : File) (v : Valuation) where
  -- ---- what stands in a table under a name
  in_round : (table : List (Option Value)) (x : ready.Name) →
      value_from (map (λ s. s.value) (round_of file.constants v table)) (position (λ c. is_called x c.name) file.constants) ≡ constant_value (v x) (names_by file.constants table) (constant_called file x)
  in_round table x =
      ap (λ l. value_from l (position (λ c. is_called x c.name) file.constants)) (map-map (λ s. s.value) (λ c. constant_seen (v c.name.name) (names_by file.constants table) c.value) file.constants)
      ∙ found_value (λ y c. (constant_seen (v y) (names_by file.constants table) c.value).value) x file.constants
      ∙ found_is (v x) (names_by file.constants table) (constant_called file x)

  value_in_round : (table : List (Option Value)) (i : ℕ) (c : Const) → slice_get file.constants i ≡ Some c →
      value_from (map (λ s. s.value) (round_of file.constants v table)) (Some i) ≡ (constant_seen (v c.name.name) (names_by file.constants table) c.value).value
  value_in_round table i c h =
      ap (λ l. unwrap_or (slice_get l i) None) (map-map (λ s. s.value) (λ c. constant_seen (v c.name.name) (names_by file.constants table) c.value) file.constants)
      ∙ ap (λ o. unwrap_or o None) (slice_get-map (λ c. (constant_seen (v c.name.name) (names_by file.constants table) c.value).value) file.constants i)
      ∙ ap (λ o. unwrap_or (option_map (λ c. (constant_seen (v c.name.name) (names_by file.constants table) c.value).value) o) None) h

  -- ---- one constant more
  pub within_none : AreWithin file v 0 (first_table file.constants)
  within_none x w e = absurd (let q : None ≡ Some w = sym (no_values file.constants (position (λ c. is_called x c.name) file.constants)) ∙ e in cc)

  one_more : (n : ℕ) (x : ready.Name) (w : Value) → constant_within file v (suc n) x ≡ Some w → constant_within file v (n + 1) x ≡ Some w
  one_more n x w e = ap (λ m. constant_within file v m x) (let d : n + 1 ≡ suc n = omega arith in d) ∙ e

  pub within_more : (n : ℕ) (table : List (Option Value)) → AreWithin file v n table → AreWithin file v (n + 1) table
  within_more n table h x w e = one_more n x w (stays file v n x w (h x w e))

  pub within_next : (n : ℕ) (table : List (Option Value)) (i : ℕ) (c : Const) (o : Option Value) → i < length table → slice_get file.constants i ≡ Some c →
      o ≡ (seen_of (computed (constant_seen (v c.name.name) (names_by file.constants table) c.value))).value → AreWithin file v n table → AreWithin file v (n + 1) (slice_set table i o)
  within_next n table i c o l h is so_far x w e = one_more n x w (by_place (position (λ c. is_called x c.name) file.constants) refl e)
    where
      from_round : position (λ c. is_called x c.name) file.constants ≡ Some i → o ≡ Some w → constant_within file v (suc n) x ≡ Some w
      from_round p q =
          value_stays file v (v x) (names_by file.constants table) (λ y. known (constant_within file v n y))
          (λ y. below_known (value_from table (position (λ c. is_called y c.name) file.constants)) (constant_within file v n y) (so_far y)) (constant_called file x) w
          (sym (in_round table x)
          ∙ ap (value_from (map (λ s. s.value) (round_of file.constants v table))) p
          ∙ value_in_round table i c h
          ∙ narrow_some (constant_seen (v c.name.name) (names_by file.constants table) c.value) w (sym is ∙ q))

      by_test : (k : ℕ) (b : Bool) → nat_eq k i ≡ b → position (λ c. is_called x c.name) file.constants ≡ Some k → unwrap_or (if b then Some o else slice_get table k) None ≡ Some w →
          constant_within file v (suc n) x ≡ Some w
      by_test k true t p q = from_round (p ∙ ap Some (let d : k ≡ i = grind (arith, nat_tests, t) in d)) q
      by_test k false t p q = stays file v n x w (so_far x w (ap (value_from table) p ∙ q))

      by_place : (p : Option ℕ) → position (λ c. is_called x c.name) file.constants ≡ p → value_from (slice_set table i o) p ≡ Some w → constant_within file v (suc n) x ≡ Some w
      by_place None p q = absurd cc
      by_place (Some k) p q = by_test k (nat_eq k i) refl p (sym (ap (λ z. unwrap_or z None) (get_set table i k o l)) ∙ q)

  -- ---- what a turn more doesn't change is settled
  fixed : (table : List (Option Value)) → map (λ s. s.value) (round_of file.constants v table) ≡ table → (n : ℕ) (x : ready.Name) (w : Value) →
      constant_within file v n x ≡ Some w → value_from table (position (λ c. is_called x c.name) file.constants) ≡ Some w
  fixed table f zero x w e = absurd cc
  fixed table f (suc n) x w e =
      ap (λ l. value_from l (position (λ c. is_called x c.name) file.constants)) (sym f)
      ∙ in_round table x
      ∙ value_stays file v (v x) (λ y. known (constant_within file v n y)) (names_by file.constants table)
      (λ y. below_known (constant_within file v n y) (value_from table (position (λ c. is_called y c.name) file.constants)) (fixed table f n y)) (constant_called file x) w e

  pub within_settled : (table : List (Option Value)) → AreWithin file v (length file.constants) table → map (λ s. s.value) (round_of file.constants v table) ≡ table → (x : ready.Name) →
      value_from table (position (λ c. is_called x c.name) file.constants) ≡ constant file v x
  within_settled table h f x =
      agree (value_from table (position (λ c. is_called x c.name) file.constants)) (constant file v x) (h x) (fixed table f (length file.constants) x)

  pub within_wide : (table : List (Option Value)) → AreWithin file v (length file.constants) table → list_any (λ s. s.wide) (round_of file.constants v table) ≡ true →
      list_any (λ s. s.wide) (scene file v).constants ≡ true
  within_wide table h e =
      any_below (λ (c : Const). constant_seen (v c.name.name) (names_by file.constants table) c.value) (λ c. constant_seen (v c.name.name) (constant_names file v) c.value)
      (λ c. below_constant (v c.name.name) c.value (names_by file.constants table) (constant_names file v)
      (λ x. below_known (value_from table (position (λ c. is_called x c.name) file.constants)) (constant file v x) (h x)))
      file.constants e
