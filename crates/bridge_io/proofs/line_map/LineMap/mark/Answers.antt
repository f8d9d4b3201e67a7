use Rattle.std.proofs.Common.{arith, ◌≡◌, ◌<◌, ◌≤◌, ◌+◌, [], ◌++◌, ℕ, Ok, Err, refl, ap, ◌∙◌}
use Rattle.std.specs.Prelude.{Result, OnOk}
use Rattle.std.specs.List.{flat_map}
use Rattle.bridge_io.specs.LineMap.{ends_marked}
use Rattle.bridge_io.proofs.Marks.{goes_on}
use Rattle.bridge_io.proofs.line_map.LineMap.mark.Goals as goal

at_ok : {T E : Type 0} (r : Result T E) (A B : Type 0) → (A → B) → OnOk r A → OnOk r B
at_ok (Ok x) A B then holds = then holds
at_ok (Err e) A B then holds = tt

one_more : (last : ℕ) → last < 255 → 255 ≤ last + 1 → 255 ≡ last + 1
one_more last short long = omega arith

pub returns-clause-ok : goal.returns-clause-ok
returns-clause-ok c =
    let lines = c.args.self.now in
    at_ok c.push-2.result _ _ (λ is. ap (λ l. flat_map ends_marked l ++ []) is ∙ goes_on lines.marks 255 lines.last c.args.byte refl (one_more lines.last lines.short c.if-last-lt-LONG.false) c.if-byte-eq10.false) c.push-2.ensures.ok
