use Rattle.std.proofs.Common.{subst}
use Rattle.prism_check.specs.FileNames.{AreNamed, AreTyped}
use Rattle.prism_check.proofs.file_names.FileNames.of.Goals as goal

pub invariant_of-result : goal.invariant_of-result
invariant_of-result c =
    let same = c.file-file.ensures.tree in
    let named = rw c.in_ok-names.ensures.ok.0 at c.of-names.ensures in
    let typed = rw c.in_ok-names.ensures.ok.1 at c.of-types.ensures in
    record {
      names = subst (AreNamed c.in_ok-names.names) same named;
      types = subst (AreTyped c.in_ok-names.types) same typed;
    }
