use Rattle.std.proofs.Common.{◌∙◌, sym, ap, subst, subst₂, arith}
use Rattle.std.specs.Prelude.{string_bytes, ◌∷◌, []}
use Rattle.std.proofs.lemmas.List.{map-append, length-map}
use Rattle.command_words.specs.Given.{IsAssignment, assignment_of, assignments_of}
use Rattle.command_words.specs.Words.{texts}
use Rattle.command_words.proofs.Assignments.{AreSoFar, none_so_far, one_more, wrong_word, wrong_twice, next_text}
use Rattle.command_words.proofs.given.assignments_in.Goals as goal

pub loop-i-init : goal.loop-i-init
loop-i-init c = subst₂ (AreSoFar (texts c.args.words.now) 0) (sym (ap assignments_of c.new-given.ensures)) (sym c.new-names.ensures) (none_so_far (texts c.args.words.now))

pub returns-in_default : goal.returns-in_default
returns-in_default c =
    wrong_word (texts c.args.words.now) c.loop-i.i _ _ c.loop-i.invariant _ (next_text c.args.words.now c.loop-i.i c.index-words-i.result c.loop-i-test.true c.index-words-i.is)
    (omega (arith, length-map c.args.words.now string_bytes, c.loop-i-test.true)) (λ a h. c.in_default.ensures a (subst (λ w. IsAssignment w a) (sym c.as_str.ensures.value) h))

pub returns-then-has : goal.returns-then-has
returns-then-has c =
    wrong_twice (texts c.args.words.now) c.loop-i.i _ _ c.loop-i.invariant _ (next_text c.args.words.now c.loop-i.i c.index-words-i.result c.loop-i-test.true c.index-words-i.is)
    (omega (arith, length-map c.args.words.now string_bytes, c.loop-i-test.true)) (assignment_of c.in-Some.assignment) (subst (λ w. IsAssignment w (assignment_of c.in-Some.assignment)) c.as_str.ensures.value c.in-Some.ensures) (sym c.has.ensures ∙ c.if-has.true)

pub loop-i-preserved : goal.loop-i-preserved
loop-i-preserved c =
    subst₂ (AreSoFar (texts c.args.words.now) _)
    (sym (map-append assignment_of c.loop-i.given (c.in-Some.assignment ∷ [])) ∙ ap assignments_of (sym c.in_ok-push.ensures.ok)) (sym c.in_ok-add.ensures)
    (one_more (texts c.args.words.now) c.loop-i.i _ _ c.loop-i.invariant _ (next_text c.args.words.now c.loop-i.i c.index-words-i.result c.loop-i-test.true c.index-words-i.is)
    (assignment_of c.in-Some.assignment) (subst (λ w. IsAssignment w (assignment_of c.in-Some.assignment)) c.as_str.ensures.value c.in-Some.ensures) (sym c.has.ensures ∙ c.if-has.false))
