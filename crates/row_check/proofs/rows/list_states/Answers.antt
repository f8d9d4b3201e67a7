use Rattle.std.proofs.Common.{◌≡◌, ◌∙◌, ◌+◌, ◌<◌, ℕ, List, ◌∷◌, ◌++◌, [], Bool, true, false, Some, None, drop, take, length, get_or, refl, sym, ap, subst, inl, inr, arith}
use Rattle.std.specs.Prelude.{IsTrue}
use Rattle.std.proofs.lemmas.List.{take_more, length-take-le}
use Rattle.basics.specs.Booleans.{not_both}
use Rattle.row_check.specs.declared.data.Verdict.TheVariants.{No}
use Rattle.row_check.specs.declared.data.Why.TheVariants.{Outside, Repeated}
use Rattle.row_check.specs.Index.{AddsState, IsIndex}
use Rattle.row_check.specs.Rows.{JudgesListed}
use Rattle.row_check.proofs.Judged.{each_passes, each_fails}
use Rattle.row_check.proofs.Walked.{from_place}
use Rattle.row_check.proofs.rows.list_states.Goals as goal

so_many : {X : Type 0} (xs : List X) (i : ℕ) → i < length xs → i ≡ length (take i xs)
so_many xs i h = sym (length-take-le i xs (omega arith))

one_more : {X : Type 0} (xs : List X) (i : ℕ) (x : X) → i < length xs → x ≡ get_or xs i x → take i xs ++ x ∷ [] ≡ take (i + 1) xs
one_more xs i x h e = ap (λ z. take i xs ++ z ∷ []) e ∙ sym (take_more xs i x h)

is_state : (r b : Bool) → r ≡ b → r ≡ true → IsTrue b
is_state r b e h = sym e ∙ h

no_state : (r b : Bool) → r ≡ b → r ≡ false → IsTrue b → ⊥
no_state r b e h k = let f : true ≡ false = sym k ∙ sym e ∙ h in cc

pub loop-i-init : goal.loop-i-init
loop-i-init g c = record { rest = λ o h. h; index = c.requires }

pub loop-i-preserved : goal.loop-i-preserved
loop-i-preserved g c =
    let p = g.S.Steps.process c.args.s.now in
    let ss = c.args.states.now in
    let i = c.loop-i.i in
    let s = c.index-states-i.result in
    let v = c.loop-i.invariant in
    let told : AddsState c.add.new.self.numbers (take i ss) s true =
    subst (AddsState c.add.new.self.numbers (take i ss) s) c.if-not-branch.false (c.in_ok-add.ensures (take i ss) v.index (so_many ss i c.loop-i-test.true)) in
    let here : JudgesListed p ss i s None = (is_state c.valid.result _ c.valid.ensures c.if-not-valid.false, told.0) in
    record {
      rest = λ o r. v.rest o (each_passes (JudgesListed p ss) i s (drop (i + 1) ss) (drop i ss) (from_place ss i s c.loop-i-test.true c.index-states-i.is) here o r);
      index = subst (IsIndex c.add.new.self.numbers) (one_more ss i s c.loop-i-test.true c.index-states-i.is) told.1;
    }

pub returns-then-not-valid : goal.returns-then-not-valid
returns-then-not-valid g c =
    let p = g.S.Steps.process c.args.s.now in
    let ss = c.args.states.now in
    let i = c.loop-i.i in
    let s = c.index-states-i.result in
    let here : JudgesListed p ss i s (Some (No (Outside i))) = inl (no_state c.valid.result _ c.valid.ensures c.if-not-valid.true, refl) in
    record {
      judged =
          c.loop-i.invariant.rest (Some (No (Outside i)))
          (each_fails (JudgesListed p ss) i s (drop (i + 1) ss) (drop i ss) (from_place ss i s c.loop-i-test.true c.index-states-i.is) (No (Outside i)) here);
      index = λ e. absurd cc;
    }

pub returns-then-not-branch : goal.returns-then-not-branch
returns-then-not-branch g c =
    let p = g.S.Steps.process c.args.s.now in
    let ss = c.args.states.now in
    let i = c.loop-i.i in
    let s = c.index-states-i.result in
    let told : AddsState c.add.new.self.numbers (take i ss) s false =
    subst (AddsState c.add.new.self.numbers (take i ss) s) c.if-not-branch.true (c.in_ok-add.ensures (take i ss) c.loop-i.invariant.index (so_many ss i c.loop-i-test.true)) in
    let here : JudgesListed p ss i s (Some (No (Repeated i))) = inr (is_state c.valid.result _ c.valid.ensures c.if-not-valid.false, (not_both _ told, refl)) in
    record {
      judged =
          c.loop-i.invariant.rest (Some (No (Repeated i)))
          (each_fails (JudgesListed p ss) i s (drop (i + 1) ss) (drop i ss) (from_place ss i s c.loop-i-test.true c.index-states-i.is) (No (Repeated i)) here);
      index = λ e. absurd cc;
    }
