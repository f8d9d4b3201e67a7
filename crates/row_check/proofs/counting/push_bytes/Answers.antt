use Rattle.std.proofs.Common.{◌∙◌, ◌++◌, ◌∷◌, [], map, take, sym, ap, ap₂, pos, append_assoc}
use Rattle.std.proofs.lemmas.List.{map_more}
use Rattle.std.proofs.lemmas.Int.{to_z-of_z}
use mir.Syntax.{w128}
use Rattle.row_check.proofs.counting.push_bytes.Goals as goal

pub loop-byte-preserved : goal.loop-byte-preserved
loop-byte-preserved c =
    let bytes = c.args.bytes.now in
    let i = c.loop-byte.byte-index in
    let old = c.args.key.now.items in
    c.in_ok-push.ensures.items
    ∙ ap₂ (λ l x. l ++ x ∷ []) c.loop-byte.invariant (to_z-of_z w128 c.from.result (record { sfits = c.from.type_inv }) ∙ c.from.ensures)
    ∙ append_assoc old (map (λ b. pos b) (take i bytes)) (_ ∷ [])
    ∙ ap (λ l. old ++ l) (sym (map_more (λ b. pos b) bytes i 0 c.loop-byte-test.true))
