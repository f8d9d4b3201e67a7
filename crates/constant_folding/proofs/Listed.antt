-- The names of a folded expression, as they are listed; a constant that is specialised uses no more names than before.
use Rattle.std.specs.Prelude.{◌≡◌, List, [], ◌∷◌, ◌++◌, map, Bool, false, ◌||◌, Option, Some, None}
use Rattle.std.specs.List.{flat_map, list_any}
use Rattle.std.proofs.Common.{refl, sym, ap, ap₂, ◌∙◌}
use Rattle.std.proofs.Math.Bool.{or-false}
use Rattle.std.proofs.lemmas.List.{map-append}
use Rattle.std.proofs.lemmas.List.Folds.{list_any-append}
use Rattle.basics.specs.Booleans.{first_false, second_false}
use Rattle.basics.specs.Lists.{append_both, append_parts}
use Rattle.bridge_io.specs.declared.reason.Named.{Named}
use Rattle.bridge_io.specs.declared.reason.Reason.{Reason}
use Rattle.op_trees.specs.declared.tree.Ty.{Ty}
use Rattle.op_trees.specs.declared.tree.Value.{Value}
use Rattle.op_trees.specs.Meaning.{Meaning}
use Rattle.op_trees.specs.Tree.{Tree, Truth, Number, Name as At, One, Two, Three}
use Rattle.op_trees.specs.Names.{names_of, some_name}
use Rattle.op_trees.specs.NameLaws.{named_none}
use Rattle.op_trees.specs.SeenLaws.{names_then}
use Rattle.name_rules.specs.Least.{fault_if}
use Rattle.name_rules.specs.Uses.{used}
use Rattle.name_rules.proofs.Plain.{fault_none, no_fault}
use Rattle.process_core.specs.Ready.{Name}
use Rattle.process_core.specs.Instance.{Valuation}
use Rattle.constant_folding.specs.Known.{Known}
use Rattle.constant_folding.specs.Folded.{fold}
use Rattle.constant_folding.specs.Literals.{AreLiterals}
use Rattle.constant_folding.specs.Constants.{AnyConst, declared, specialised_const, specialised_value}
use Rattle.constant_folding.proofs.Kept.{fold_names_no_more}
use Rattle.constant_folding.proofs.Uncircled.{NoMore, UsesNoMore}

-- names as they are listed, tested
pub any_named : {O : Type 0} (p : Name → Bool) (e : Tree O) → list_any p (map (λ n. n.name) (names_of e)) ≡ some_name p e
any_named p (Truth at b) = refl
any_named p (Number at d) = refl
any_named p (At at x) = or-false (p x)
any_named p (One at o a) = any_named p a
any_named p (Two at o a b) =
    ap (list_any p) (map-append (λ n. n.name) (names_of a) (names_of b)) ∙ list_any-append p (map (λ n. n.name) (names_of a)) (map (λ n. n.name) (names_of b))
    ∙ ap₂ (λ x y. x || y) (any_named p a) (any_named p b)
any_named p (Three at o a b c) =
    ap (list_any p) (map-append (λ n. n.name) (names_of a) (names_of b ++ names_of c))
    ∙ list_any-append p (map (λ n. n.name) (names_of a)) (map (λ n. n.name) (names_of b ++ names_of c))
    ∙ ap₂ (λ x y. x || y) (any_named p a)
    (ap (list_any p) (map-append (λ n. n.name) (names_of b) (names_of c)) ∙ list_any-append p (map (λ n. n.name) (names_of b)) (map (λ n. n.name) (names_of c))
    ∙ ap₂ (λ x y. x || y) (any_named p b) (any_named p c))

-- ---- a fault at each name that passes a test
module _ (p : Name → Bool) (r : Reason) where
  none_listed : (ns : List Named) → flat_map (λ n. fault_if (p n.name) n.at r) ns ≡ [] → list_any p (map (λ n. n.name) ns) ≡ false
  none_listed [] h = refl
  none_listed (n ∷ ns) h =
      let parts = append_parts (fault_if (p n.name) n.at r) (flat_map (λ k. fault_if (p k.name) k.at r) ns) h in
      ap₂ (λ a b. a || b) (no_fault (p n.name) n.at r parts.0) (none_listed ns parts.1)

  listed_none : (ns : List Named) → list_any p (map (λ n. n.name) ns) ≡ false → flat_map (λ n. fault_if (p n.name) n.at r) ns ≡ []
  listed_none [] h = refl
  listed_none (n ∷ ns) h =
      append_both (fault_if (p n.name) n.at r) (flat_map (λ k. fault_if (p k.name) k.at r) ns)
      (fault_none (p n.name) n.at r (first_false (p n.name) (list_any p (map (λ k. k.name) ns)) h))
      (listed_none ns (second_false (p n.name) (list_any p (map (λ k. k.name) ns)) h))

  pub none_named : {O : Type 0} (e : Tree O) → flat_map (λ n. fault_if (p n.name) n.at r) (names_of e) ≡ [] → some_name p e ≡ false
  none_named e h = sym (any_named p e) ∙ none_listed (names_of e) h

  pub named_fine : {O : Type 0} (e : Tree O) → some_name p e ≡ false → flat_map (λ n. fault_if (p n.name) n.at r) (names_of e) ≡ []
  named_fine e h = listed_none (names_of e) (any_named p e ∙ h)

module _ {O : Type 0} (m : Meaning O) (literal : Value → Ty → Tree O) (literals : AreLiterals m literal) (K : Known) where
  -- where there is none in an expression, there is none in the folded one
  pub folded_names : (p : Name → Bool) (r : Reason) (e : Tree O) → flat_map (λ n. fault_if (p n.name) n.at r) (names_of e) ≡ [] →
      flat_map (λ n. fault_if (p n.name) n.at r) (names_of (fold m literal K e)) ≡ []
  folded_names p r e h = named_fine p r (fold m literal K e) (fold_names_no_more m literal literals K p e (none_named p r e h))

  pub nameless : (p : Name → Bool) (y : Value) (ty : Ty) → some_name p (literal y ty) ≡ false
  nameless p y ty = named_none p (literal y ty) (names_then (λ x. ⊥) (λ x. p x ≡ false) (λ x h. absurd h) (literal y ty) (literals.nameless y ty))

  uses_less : (g : Option Value) (ty : Ty) (o : Option (Tree O)) → NoMore (used (specialised_value m literal g K ty o)) (used o)
  uses_less None ty None = record { fewer = λ p h. h }
  uses_less (Some y) ty None = record { fewer = λ p h. any_named p (literal y ty) ∙ nameless p y ty }
  uses_less g ty (Some e) = record {
    fewer = λ p h. any_named p (fold m literal K e) ∙ fold_names_no_more m literal literals K p e (sym (any_named p e) ∙ h);
  }

  pub const_uses_less : (given : Valuation) (c : AnyConst O) → UsesNoMore (declared (specialised_const m literal given K c)) (declared c)
  const_uses_less given c = record { name = refl; uses = uses_less (given c.name.name) c.ty c.value }
