use Rattle.std.proofs.Common.{ap, ◌∙◌, [], ◌∷◌, ◌++◌}
use Rattle.decimal_json.specs.declared.brackets.Frame.{Frame}
use Rattle.decimal_json.specs.States.{Goes, closes, shut}
use Rattle.decimal_json.proofs.StepLemmas.{pushed, after_none, closing_is}
use Rattle.decimal_json.proofs.machine.closed.Goals as goal

pub returns-in-None-clause-goes : goal.returns-in-None-clause-goes
returns-in-None-clause-goes c p e = after_none _ _ p _ c.in-None.ensures.none.0 (closing_is c.args.c c.requires).0

pub returns-in-Some-InArray-clause-goes : goal.returns-in-Some-InArray-clause-goes
returns-in-Some-InArray-clause-goes c = pushed (λ u. Goes c.args.at c.args.c (closes u c.args.value) (shut c.shut_array.result (record { mode = c.args.state.now.mode; frames = c.pop.new.self }))) c.pop.new.self c.args.state.now.frames _ (c.in-Some-InArray.ensures.some ∙ ap (λ (f : Frame). c.pop.new.self ++ f ∷ []) c.in-Some-InArray.field-0-is) (c.shut_array.ensures.goes c.args.at (record { mode = c.args.state.now.mode; frames = c.pop.new.self }))

pub returns-in-Some-InObject-clause-goes : goal.returns-in-Some-InObject-clause-goes
returns-in-Some-InObject-clause-goes c = pushed (λ u. Goes c.args.at c.args.c (closes u c.args.value) (shut c.shut_object.result (record { mode = c.args.state.now.mode; frames = c.pop.new.self }))) c.pop.new.self c.args.state.now.frames _ (c.in-Some-InObject.ensures.some ∙ ap (λ (f : Frame). c.pop.new.self ++ f ∷ []) c.in-Some-InObject.field-0-is) (c.shut_object.ensures.goes (record { mode = c.args.state.now.mode; frames = c.pop.new.self }))

pub returns-in-Some-InArray-clause-quiet : goal.returns-in-Some-InArray-clause-quiet
returns-in-Some-InArray-clause-quiet c = c.shut_array.ensures.quiet (record { mode = c.args.state.now.mode; frames = c.pop.new.self })

pub returns-in-Some-InObject-clause-quiet : goal.returns-in-Some-InObject-clause-quiet
returns-in-Some-InObject-clause-quiet c = c.shut_object.ensures.quiet (record { mode = c.args.state.now.mode; frames = c.pop.new.self })
