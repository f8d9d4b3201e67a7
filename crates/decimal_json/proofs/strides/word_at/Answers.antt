use Rattle.std.proofs.Common.{true, false, reverse}
use Rattle.std.specs.Prelude.{codes}
use Rattle.decimal_json.specs.declared.tree.Json.TheVariants.{Null, Truth}
use Rattle.decimal_json.specs.Lang.{◌>>◌}
use Rattle.decimal_json.specs.Grammar.{exactly}
use Rattle.decimal_json.specs.States.{closes}
use Rattle.decimal_json.proofs.StepLemmas.{plain}
use Rattle.decimal_json.proofs.Steps as s
use Rattle.decimal_json.proofs.Tokens.{from_opens, from_begins}
use Rattle.decimal_json.proofs.strides.word_at.Goals as goal

pub returns-in-110 : goal.returns-in-110
returns-in-110 c u b = from_opens c.args.at c.args.n c.args.bytes.now _ u _ _ c.requires.some c.word_from.ensures b (λ p e. plain p _ _ 0x6e _ (λ k. exactly (codes "ull") >> closes (reverse c.args.state.now.frames) (Null k)) e c.in-110.is (s.now_null _ p))

pub returns-in-116 : goal.returns-in-116
returns-in-116 c u b = from_opens c.args.at c.args.n c.args.bytes.now _ u _ _ c.requires.some c.word_from-in-116.ensures b (λ p e. plain p _ _ 0x74 _ (λ k. exactly (codes "rue") >> closes (reverse c.args.state.now.frames) (Truth k true)) e c.in-116.is (s.now_true _ p))

pub returns-in-102 : goal.returns-in-102
returns-in-102 c u b = from_opens c.args.at c.args.n c.args.bytes.now _ u _ _ c.requires.some c.word_from-in-102.ensures b (λ p e. plain p _ _ 0x66 _ (λ k. exactly (codes "alse") >> closes (reverse c.args.state.now.frames) (Truth k false)) e c.in-102.is (s.now_false _ p))

pub returns-in_default : goal.returns-in_default
returns-in_default c u b =
    from_begins c.args.at c.args.n c.args.bytes.now _ u c.begin.new.state c.begin.result c.taken.result c.requires.some c.taken.ensures c.begin.ensures b
