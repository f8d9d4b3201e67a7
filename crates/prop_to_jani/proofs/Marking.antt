-- The body of a name in a property: the formula's, its names marked.
use Rattle.std.specs.Prelude.{◌≡◌, ℕ, nat_eq, [], ◌∷◌, Bool, true, false, Some, None, if◌then◌else◌}
use Rattle.std.proofs.Common.{refl, sym, ap, ◌∙◌, arith}
use Rattle.std.proofs.Math.Path.{fun_ext}
use Rattle.std.proofs.lemmas.Bool.Decides.{nat_tests}
use Rattle.op_trees.specs.Tree.{Name as At, renamed, replaced}
use Rattle.prism_tree.specs.Syntax.{Expression}
use Rattle.prism_flat.specs.ConstantLaws.{renamed_unchanged}
use Rattle.prism_rewriter.specs.declared.bodies.BodyTable.{BodyTable}
use Rattle.prism_rewriter.specs.Tables.{body_in}
use Rattle.prop_trees.specs.Trees.{Name}
use Rattle.prop_trees.specs.Names.{marked, Meant, of_model, is_initial, is_deadlock, nothing, built_in, meant}
use Rattle.prop_to_jani.specs.Code.{body_meant_in, marked_body_in, model_part}
use Rattle.prop_to_jani.proofs.Renaming.{replaced_renamed}
use Rattle.prop_to_jani.proofs.Stripped.{built_in_none}

-- the name of the model that a name is, with its point
model_marked : (x y : Name) → model_part (meant x) ≡ Some y → x ≡ marked y
model_marked [] y h = absurd cc
model_marked (b ∷ x) y h = by_test (nat_eq b 46) refl h
  where
    by_test : (t : Bool) → nat_eq b 46 ≡ t → model_part (if t then of_model x else built_in (b ∷ x)) ≡ Some y → (b ∷ x) ≡ marked y
    by_test true e i = let s : b ≡ 46 = grind (arith, nat_tests, e) in let r : x ≡ y = cc in ap (λ n. n ∷ x) s ∙ ap marked r
    by_test false e i = absurd (let n = built_in_none (b ∷ x) in cc)

pub model_body : (t : BodyTable) (at : ℕ) (x y : Name) → model_part (meant x) ≡ Some y →
    renamed marked (replaced (At at y) (body_in t y)) ≡ replaced (At at x) (marked_body_in t x)
model_body t at x y h =
    sym (replaced_renamed marked at y (body_in t y))
    ∙ sym (ap (λ z. replaced (At at z) (marked_body_in t z)) (model_marked x y h))

-- another name has no body
pub no_body : (t : BodyTable) (at : ℕ) (x : Name) → model_part (meant x) ≡ None → At at x ≡ replaced (At at x) (marked_body_in t x)
no_body t at x h = ap (replaced (At at x)) (by_meant (meant x) h)
  where
    by_meant : (m : Meant) → model_part m ≡ None → None ≡ body_meant_in t m
    by_meant (of_model y) k = absurd cc
    by_meant is_initial k = refl
    by_meant is_deadlock k = refl
    by_meant nothing k = refl

-- names that become themselves
pub renamed_same : (new : Name → Name) → ((x : Name) → new x ≡ x) → (e : Expression) → renamed new e ≡ e
renamed_same new h e = ap (λ (f : Name → Name). renamed f e) (fun_ext h) ∙ renamed_unchanged e
