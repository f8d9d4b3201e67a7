-- Expressions that have types are sound where the values of names agree with their types, and their values agree with them too.
use Rattle.std.specs.Prelude.{◌≡◌, List, [], ◌∷◌, Bool, true, false, cond, Option, Some, None, IsTrue, is_some, IfSome}
use Rattle.std.specs.List.{All, find, AllByRecursion as Each}
use Rattle.std.proofs.Common.{refl, sym, ap, subst}
use Rattle.std.proofs.lemmas.List.Elements.{All-nil, All-cons}
use Rattle.op_trees.specs.declared.tree.Ty.{Ty}
use Rattle.op_trees.specs.declared.tree.Value.{Value}
use Rattle.op_trees.specs.Types.{AgreesWith, type_in}
use Rattle.op_trees.specs.TypeLaws.{value_agrees, typed_operands, some_agrees}
use Rattle.op_trees.specs.Meaning.{value_of}
use Rattle.op_trees.specs.Seen.{known}
use Rattle.op_trees.specs.SeenLaws.{names_all, seen_is}
use Rattle.process_core.specs.Ready.{Name}
use Rattle.prism_tree.specs.Operators.{prism_meaning}
use Rattle.prism_tree.specs.OperatorLaws.{prism_lawful}
use Rattle.prism_tree.specs.Syntax as prism
use Rattle.prism_names.specs.Names.{see}
use Rattle.basics.specs.Options.{IfAny}
use Rattle.prism_print.specs.Printable.{IsPrintableExpression}
use Rattle.prism_print.proofs.Printable.{literals}
use Rattle.op_trees.specs.Wanted.{wanted_by, is_wanted, wider as wider_value}
use Rattle.prism_check.specs.TypeFaults.{types}
use Rattle.prism_check.specs.Flattened.{IsFlat}
use Rattle.prism_images.specs.Laws.{IsNoNumberOf}
use Rattle.prism_images.proofs.Typed.{compares_truths, agreeing}
use Rattle.jani_translation.specs.SeenLaws.{IsSound}
use Rattle.jani_translation_laws.proofs.Expressions.{IsFixed}
use Rattle.prism_check.proofs.Typed.{HasType}

-- ---- facts of each member of a list
pub all_then : {A : Type 0} (P Q : A → Type 0) → ((x : A) → P x → Q x) → (xs : List A) → Each P xs → All Q xs
all_then P Q h [] p = All-nil Q
all_then P Q h (x ∷ xs) p = All-cons Q x xs (h x p.0) (all_then P Q h xs p.1)

-- one that is found passes the test, and has what all have
pub found : {A : Type 0} (P : A → Type 0) (test : A → Bool) (xs : List A) → Each P xs → IfAny (λ a. P a × (test a ≡ true)) (find test xs)
found P test [] p = tt
found {A = A} P test (x ∷ xs) p = by_test (test x) refl (found P test xs p.1)
  where
    by_test : (b : Bool) → test x ≡ b → IfAny (λ a. P a × (test a ≡ true)) (find test xs) → IfAny (λ a. P a × (test a ≡ true)) (cond b (Some x) (find test xs))
    by_test true e r = (p.0, e)
    by_test false e r = r

-- ---- values and types
pub undefined : (t : Option Ty) → AgreesWith t None
undefined t = record { agrees = λ a x h k. cc }

wider : (w t : Ty) (v : Option Value) → is_wanted (wanted_by w) t ≡ true → AgreesWith (Some t) v → AgreesWith (Some w) v
wider w t None k a = undefined (Some w)
wider w t (Some x) k a = some_agrees w x (wider_value w t x k (a.agrees t x refl refl))

module _ (file : prism.File) (flat : IsFlat file) (env : Name → Option Value) where
  -- each name has a value of its type, or none
  abbrev pub AreTyped : Type 0
  AreTyped = (x : Name) → AgreesWith (types file x) (env x)

  -- no `<=>` of an expression stands between two numbers, and nodes have their operands
  pub sound : AreTyped → (w : Ty) (e : prism.Expression) → HasType file w e → IsSound (λ x. known (env x)) e
  sound a w e h =
      let some : IsTrue (is_some (type_in prism_meaning (types file) e)) = subst (λ o. IsTrue (is_some o)) (sym h.is) refl in (
        typed_operands prism_meaning prism_lawful (types file) e some,
        compares_truths (types file) (λ x. known (env x)) e
            (names_all (λ x. IsNoNumberOf (types file x) (env x)) (λ x. agreeing (types file x) (env x) (a x)) e) some,
      )

  pub sound_some : AreTyped → (w : Ty) (o : Option prism.Expression) → IfAny (IsFixed file flat w) o → IfSome o (IsSound (λ x. known (env x)))
  sound_some a w None h = tt
  sound_some a w (Some e) h = sound a w e h.0

  -- its value has the type that is wanted
  pub value_typed : AreTyped → (w : Ty) (e : prism.Expression) → IsPrintableExpression e → HasType file w e → AgreesWith (Some w) (see e (λ x. known (env x))).value
  unfolding see
  value_typed a w e p h =
      subst (AgreesWith (Some w)) (sym (ap (λ s. s.value) (seen_is prism_meaning env e)))
      (wider w h.ty (value_of prism_meaning e env) h.wanted
      (subst (λ t. AgreesWith t (value_of prism_meaning e env)) h.is
      (value_agrees prism_meaning prism_lawful (types file) env e (literals e p) (names_all (λ x. AgreesWith (types file x) (env x)) a e))))
