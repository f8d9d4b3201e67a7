use Rattle.std.proofs.Common.{take, take_all, ap, sym, ◌∙◌, ◌++◌, ◌∷◌, [], ◌+◌}
use Rattle.std.proofs.lemmas.List.{take_more}
use Rattle.std.proofs.lemmas.Result.{IfOk-from_err}
use Rattle.process_core.specs.Merging.{key_of}
use Rattle.process_core.proofs.Keys.{key_next}
use Rattle.process_core.proofs.merging.key_of.Goals as goal

pub loop-value-preserved : goal.loop-value-preserved
loop-value-preserved c =
    let s = c.as_slice-value-items.result.now in
    let i = c.loop-value.value-index in
    let v = c.value-item.result in
    key_next c.loop-value.key.items _ _ v (take i s) (take (i + 1) s) c.in_ok-extend_from_slice.ensures.items c.parts_of.ensures
    c.loop-value.invariant (take_more s i v c.loop-value-test.true ∙ ap (λ w. take i s ++ w ∷ []) (sym c.value-item.is))

pub returns-in_err-extend_from_slice : goal.returns-in_err-extend_from_slice
returns-in_err-extend_from_slice c = IfOk-from_err _ _ c.from_residual.ensures.0

pub returns : goal.returns
returns c = c.loop-value.invariant ∙ ap key_of (take_all _ _ c.loop-value-test.false ∙ c.as_slice-value-items.ensures)
