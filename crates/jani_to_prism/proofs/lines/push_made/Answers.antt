use Rattle.std.proofs.Common.{refl}
use Rattle.std.specs.Prelude.{codes}
use Rattle.jani_to_prism.proofs.Utf8Lines.{known_utf8, more_utf8, told_then}
use Rattle.jani_to_prism.proofs.lines.push_made.Goals as goal

pub returns-clause-utf8 : goal.returns-clause-utf8
returns-clause-utf8 c =
    let space = known_utf8 (codes " ") refl in
    told_then _ _ _ _ (λ h.
    more_utf8 _ _ _ c.in_ok-push-2.ensures.items space
    (more_utf8 _ _ _ c.in_ok-extend_from_slice-3.ensures.items c.as_bytes-2.ensures.utf8
    (more_utf8 _ _ _ c.in_ok-push.ensures.items space
    (more_utf8 _ _ _ c.in_ok-extend_from_slice-2.ensures.items c.as_bytes.ensures.utf8
    (more_utf8 _ _ _ c.in_ok-extend_from_slice.ensures.items (known_utf8 (codes "// ") refl) h))))) c.push_old.ensures.utf8
