use Rattle.jani_props.proofs.Parts.{no_word, label_named}
use Rattle.jani_props.proofs.build.+expression.Goals as goal

pub expression-unreachable-requires-in-Other : goal.expression-unreachable-requires-in-Other
expression-unreachable-requires-in-Other t c = no_word _ _ _ _ _ _ c.as_slice.ensures c.in-Object.is c.op_word.ensures c.in-Other.is c.requires

pub expression-returns-in_ok-copy_of-in-Some : goal.expression-returns-in_ok-copy_of-in-Some
expression-returns-in_ok-copy_of-in-Some t c = label_named _ _ _ _ _ _ c.as_slice.ensures c.in-Object.is c.op_word.ensures _ c.in-Property.is _ c.label_name.ensures _ _ c.in-Some.is c.in_ok-copy_of-in-Some.ensures
