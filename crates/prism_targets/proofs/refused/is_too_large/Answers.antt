use Rattle.std.specs.Prelude.{◌≡◌, ◌||◌, Bool, true, false, IfOk}
use Rattle.std.proofs.Common.{◌∙◌, refl, ap, ap₂, sym, subst}
use Rattle.std.proofs.Math.Bool.{or-false}
use Rattle.std.proofs.lemmas.Bool.{or_right}
use Rattle.jani_tree.specs.declared.syntax.JaniFile.{JaniFile}
use Rattle.jani_tree.specs.Syntax.{file_of}
use Rattle.prism_translation.specs.Refused.{has_large_result, has_long_guard, has_many_starts}
use Rattle.prism_targets.proofs.refused.is_too_large.Goals as goal

pub returns-then-has_many_starts : goal.returns-then-has_many_starts
returns-then-has_many_starts c =
    let file = file_of c.args.checked.now in
    let starts : has_many_starts file ≡ true =
    ap (λ (f : JaniFile). has_many_starts (file_of f)) (sym c.file-file.ensures.same) ∙ sym c.has_many_starts.ensures ∙ c.if-has_many_starts.true in
    sym (ap (λ b. b || (has_large_result file || has_long_guard file)) starts)

or_true : (b : Bool) → (b || true) ≡ true
or_true b = or_right b true refl

pub returns-then-branch : goal.returns-then-branch
returns-then-branch c =
    let file = file_of c.args.checked.now in
    let starts : has_many_starts file ≡ false =
    ap (λ (f : JaniFile). has_many_starts (file_of f)) (sym c.file-file.ensures.same) ∙ sym c.has_many_starts.ensures ∙ c.if-has_many_starts.false in
    let long : has_long_guard file ≡ true =
    ap (λ (f : JaniFile). has_long_guard (file_of f)) (sym c.file-file.ensures.same) ∙ sym c.in_ok-has_long_guard.ensures ∙ c.if-branch.true in
    sym (ap₂ (λ a b. a || (has_large_result file || b)) starts long ∙ or_true (has_large_result file))

pub returns : goal.returns
returns c =
    let file = file_of c.args.checked.now in
    let starts : has_many_starts file ≡ false =
    ap (λ (f : JaniFile). has_many_starts (file_of f)) (sym c.file-file.ensures.same) ∙ sym c.has_many_starts.ensures ∙ c.if-has_many_starts.false in
    let short : has_long_guard file ≡ false =
    ap (λ (f : JaniFile). has_long_guard (file_of f)) (sym c.file-file.ensures.same) ∙ sym c.in_ok-has_long_guard.ensures ∙ c.if-branch.false in
    subst (λ (y : Bool). IfOk c.has_large_result.result (λ b. b ≡ y))
    (ap (λ (f : JaniFile). has_large_result (file_of f)) c.file-file.ensures.same
    ∙ sym (ap₂ (λ a b. a || (has_large_result file || b)) starts short ∙ or-false (has_large_result file)))
    c.has_large_result.ensures
