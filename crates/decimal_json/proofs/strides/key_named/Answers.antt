use Rattle.std.proofs.Common.{List, ℕ, get_or, nat_eq, refl, ap, ◌∙◌}
use Rattle.bridge_io.specs.declared.reason.Reason.TheVariants.{TwiceMember}
use Rattle.decimal_json.specs.declared.chars.Within.TheVariants.{Between}
use Rattle.decimal_json.specs.declared.machine.Stop.TheVariants.{At}
use Rattle.decimal_json.specs.Grammar.{is_among, names}
use Rattle.decimal_json.proofs.Chains.{key_ends}
use Rattle.decimal_json.proofs.Tokens.{from_halt, from_then, key_halts_twice}
use Rattle.decimal_json.proofs.strides.key_named.Goals as goal

pub returns-then-has : goal.returns-then-has
returns-then-has c =
    from_halt c.args.at c.args.n c.args.bytes.now _ (At c.args.from TwiceMember) c.requires.some
    (key_halts_twice _ _ _ _ _ Between _ c.args.state.now.frames (nat_eq (get_or c.args.bytes.now c.args.n 0) 34) _ refl (ap (λ k. nat_eq k 34) c.requires.quote) (c.has.ensures ∙ ap (λ (u : List ℕ). is_among (names c.args.members) u) c.as_str.ensures) c.if-has.true)

pub returns : goal.returns
returns c =
    from_then c.args.at c.args.n c.args.bytes.now _ _ _ c.requires.some
    (key_ends _ _ _ _ _ Between _ c.args.state.now.frames _ (nat_eq (get_or c.args.bytes.now c.args.n 0) 34) _ refl (ap (λ k. nat_eq k 34) c.requires.quote) (c.has.ensures ∙ ap (λ (u : List ℕ). is_among (names c.args.members) u) c.as_str.ensures) c.if-has.false c.new-pending.ensures.members c.new-pending.ensures.name) c.colon_at.ensures
