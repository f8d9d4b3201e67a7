use Rattle.std.proofs.Common.{ap₂}
use Rattle.jani_tree.specs.Syntax.{Element}
use Rattle.specialise_jani.proofs.Steps.{copied_all}
use Rattle.specialise_jani.proofs.parts.JaniElementFolded.folded.Goals as goal

pub returns : goal.returns
returns c =
    let both = c.in_ok-name.ensures.ok in
    ap₂ {C = Element} (λ n xs. record { name = n; enable = xs }) (rw both.0 at c.copy_name.ensures)
    (copied_all c.as_slice.result.now _ c.in_ok-name.enable c.as_slice.ensures (rw both.1 at c.all_folded-enable.ensures))
