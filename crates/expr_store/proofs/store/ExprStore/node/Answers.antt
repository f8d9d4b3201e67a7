use Rattle.std.proofs.Common.{◌≡◌, ℕ, List, length, Some, None, true, false, if◌then◌else◌, nat_lt, slice_get, slice_index_or, ltb-true, ltb-false, refl, sym, ap, ◌∙◌}
use Rattle.std.proofs.lemmas.Option.{slice_get_past, slice_get_read}
use Rattle.expr_store.specs.Nodes.{behind}
use Rattle.expr_store.proofs.store.ExprStore.node.Goals as goal

-- a list has no item past its end, and otherwise the one that was read
none_there : {A : Type 0} (xs items : List A) (i : ℕ) → xs ≡ items → false ≡ nat_lt i (length xs) → slice_get items i ≡ None
none_there xs items i e h = ap (λ all. slice_get all i) (sym e) ∙ slice_get_past xs i (ltb-false i (length xs) (sym h))

one_there : {A : Type 0} (xs items : List A) (i : ℕ) (x : A) → xs ≡ items → true ≡ nat_lt i (length xs) → x ≡ slice_index_or xs i x → slice_get items i ≡ Some x
one_there xs items i x e h is = ap (λ all. slice_get all i) (sym e) ∙ slice_get_read xs (length xs) i x refl (ltb-true i (length xs) (sym h)) is

pub returns-in-None : goal.returns-in-None
returns-in-None g c =
    sym (ap (behind c.args.i) (none_there c.as_slice.result.now c.args.self.now.nodes.items c.args.i c.as_slice.ensures.value c.in-None.ensures.lookup.0))

pub returns-then-is_behind : goal.returns-then-is_behind
returns-then-is_behind g c =
    let x = c.in-Some.node.now in
    let h = c.in-Some.ensures.lookup in
    ap (λ b. if b then Some x else None) (sym c.if-is_behind.true ∙ c.is_behind.ensures)
    ∙ sym (ap (behind c.args.i) (one_there c.as_slice.result.now c.args.self.now.nodes.items c.args.i x c.as_slice.ensures.value h.0 h.1))

pub returns-else-is_behind : goal.returns-else-is_behind
returns-else-is_behind g c =
    let x = c.in-Some.node.now in
    let h = c.in-Some.ensures.lookup in
    ap (λ b. if b then Some x else None) (sym c.if-is_behind.false ∙ c.is_behind.ensures)
    ∙ sym (ap (behind c.args.i) (one_there c.as_slice.result.now c.args.self.now.nodes.items c.args.i x c.as_slice.ensures.value h.0 h.1))
