use Rattle.std.proofs.Common.{◌-◌, ◌<◌, length, reverse}
use Rattle.decimal_json.specs.States.{closes}
use Rattle.decimal_json.proofs.Tokens.{Leads}
use Rattle.decimal_json.proofs.strides.after_at.Given as goal

abbrev pub invariant-loop-whole : goal.invariant-loop-whole
invariant-loop-whole l = (l.end < length l.bytes) × Leads l.at l.fn.n l.bytes (closes (reverse l.fn.state.frames) l.fn.value) l.end (closes (reverse l.state.frames) l.whole)

abbrev pub decreases-loop-whole : goal.decreases-loop-whole
decreases-loop-whole l = length l.bytes - l.end
