use Rattle.std.proofs.Common.{get_or, nat_eq, refl, ap}
use Rattle.decimal_json.specs.declared.chars.Within.TheVariants.{Between}
use Rattle.decimal_json.specs.declared.machine.Mode.TheVariants as modes
use Rattle.decimal_json.specs.declared.machine.State.{State}
use Rattle.decimal_json.specs.declared.tree.Json.TheVariants.{Str}
use Rattle.decimal_json.proofs.Chains.{text_ends}
use Rattle.decimal_json.proofs.Tokens.{from_step, from_then, ends_after}
use Rattle.decimal_json.proofs.strides.text_ended.Goals as goal

pub returns-then-end-bytes : goal.returns-then-end-bytes
returns-then-end-bytes c =
    from_step c.args.at c.args.n c.args.bytes.now _ _ c.requires.some
    (text_ends _ _ _ Between _ _ c.args.state.now.frames (nat_eq (get_or c.args.bytes.now c.args.n 0) 34) refl (ap (λ k. nat_eq k 34) c.requires.quote) refl)

pub returns : goal.returns
returns c =
    let s : State = record { mode = modes.After (Str c.args.start c.args.text); frames = c.args.state.now.frames } in
    from_then c.args.at c.args.n c.args.bytes.now _ s _ c.requires.some
    (text_ends _ _ _ Between _ _ c.args.state.now.frames (nat_eq (get_or c.args.bytes.now c.args.n 0) 34) refl (ap (λ k. nat_eq k 34) c.requires.quote) refl)
    (c.after_at.ensures s (ends_after _ _ s (Str c.args.start c.args.text) refl))
