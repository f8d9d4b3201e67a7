use Rattle.std.proofs.Common.{◌≡◌, ◌≤◌, ℤ, pos, negsuc, ◌+ℤ◌, false, ltb-false, sym, ap, ap₂, subst, ◌∙◌, to_z, of_z, rules, arith}
use Rattle.std.specs.Prelude.{FitsSigned, int_lt, nat_abs}
use Rattle.std.proofs.lemmas.Int.{to_z_pos, to_z-of_z}
use mir.Syntax.{w32, w128}
use Rattle.frac_core.proofs.numeral.normal_exponent.Goals as goal

near : (x : ℤ) → int_lt x (negsuc 399) ≡ false → int_lt (pos 400) x ≡ false → FitsSigned w32 x × (nat_abs x ≤ 400)
near (pos n) a b = let h : n ≤ 400 = ltb-false 400 n b in (record { sfits = omega arith }, h)
near (negsuc n) a b = let h : n ≤ 399 = ltb-false 399 n a in (record { sfits = omega arith }, omega arith)

pub returns-clause-some : goal.returns-clause-some
returns-clause-some c =
    let f : FitsSigned w128 (to_z w128 (of_z w128 c.exponent_of.result) +ℤ to_z w128 c.args.zeros) = search rules in
    let t = to_z-of_z w128 _ f
    ∙ ap₂ ◌+ℤ◌ (to_z-of_z w128 c.exponent_of.result (record { sfits = c.exponent_of.type_inv }) ∙ c.exponent_of.ensures) (to_z_pos w128 c.args.zeros (omega arith)) in
    let n = near _ (ap (λ x. int_lt x (negsuc 399)) (sym t) ∙ c.if-exponent-ltminus400.false) (ap (int_lt (pos 400)) (sym t) ∙ c.if-exponent-gt400.false) in
    let z = ap (λ x. to_z w32 (of_z w32 x)) t ∙ to_z-of_z w32 _ n.0 in
    (z, subst (λ x. nat_abs x ≤ 400) (sym z) n.1)
