use Rattle.std.proofs.Common.{◌≡◌, List, [], ◌∷◌, ℕ, ap, sym, ◌∙◌, refl, arith, subst, true, length}
use Rattle.std.specs.Str.{IsUtf8, is_utf8}
use Rattle.std.proofs.lemmas.Str.{IsUtf8-nil, IsUtf8-from_is_utf8, is_utf8-from_IsUtf8}
use Rattle.std.proofs.lemmas.Bool.{false_from_ne_true}
use Rattle.prism_tree.specs.Grammar.{but_last, unquoted}
use Rattle.prism_tree.specs.Laws.{unquoted_is}
use Rattle.prop_to_jani.proofs.names.between.Goals as goal

nothing_left : (w : List ℕ) → length w ≡ 0 → w ≡ []
nothing_left [] e = refl
nothing_left (b ∷ w) e = absurd (omega (arith, e))

empty : (w : List ℕ) → unquoted w ≡ [] → (◌≡◌ {A = List ℕ} [] (unquoted w)) × (is_utf8 (unquoted w) ≡ true)
empty w e = (sym e, ap is_utf8 e ∙ is_utf8-from_IsUtf8 [] IsUtf8-nil)

pub returns-in_default : goal.returns-in_default
returns-in_default c = empty c.args.text.now (ap unquoted (sym c.as_bytes.ensures.value ∙ nothing_left c.as_bytes.result.now c.in_default.ensures.cases))

pub returns-in_default-split_last : goal.returns-in_default-split_last
returns-in_default-split_last c =
    empty c.args.text.now
    (ap unquoted (sym c.as_bytes.ensures.value ∙ c.in-Some.ensures.cases.0) ∙ ap (λ (v : List ℕ). but_last v) (nothing_left c.in-Some.behind.now c.in_default-split_last.ensures.cases))

pub returns-in-Ok : goal.returns-in-Ok
returns-in-Ok c =
    let is = unquoted_is _ _ _ _ _ (sym c.as_bytes.ensures.value ∙ c.in-Some.ensures.cases.0) c.in-Some-split_last.ensures.cases.0 in
    (c.in-Ok.ensures.cases.0 ∙ sym is, is_utf8-from_IsUtf8 _ (subst IsUtf8 (sym is) c.in-Ok.ensures.cases.1))

pub returns-in-Err : goal.returns-in-Err
returns-in-Err c = false_from_ne_true _ (λ h. c.in-Err.ensures.cases.0 (subst IsUtf8
    (unquoted_is _ _ _ _ _ (sym c.as_bytes.ensures.value ∙ c.in-Some.ensures.cases.0) c.in-Some-split_last.ensures.cases.0) (IsUtf8-from_is_utf8 _ h)))
