use Rattle.std.proofs.Common.{arith, ◌≡◌, ◌<◌, ◌≤◌, ◌∙◌, ℕ, ◌+◌, min, List, ◌++◌, length, take, Ok, true≢false, length-take, length-take-le, le_of_eq, inl, inr, refl, ap, sym}
use Rattle.std.specs.Prelude.{Result, if◌then◌else◌}
use Rattle.std.specs.Result.{is_ok}
use Rattle.bridge_io.specs.Tally.{Counts, with_fault}
use Rattle.bridge_io.proofs.Shelves.{neither, faults_kept}
use Rattle.bridge_io.proofs.memory_sink.MemorySinkSink.write_next.Goals.{then-next_fails-via-then-next_fails, then-next_fails-via-else-next_fails+then-self-eq0}
use Rattle.bridge_io.proofs.memory_sink.MemorySinkSink.write_next.Goals as goal

-- The least of the three is within each of them, and above none that all are.
least_within : (n k piece most room : ℕ) → n ≡ min k room → k ≡ min piece most → (n ≤ piece) × (n ≤ room)
least_within n k piece most room is first = (omega arith, omega arith)

least_some : (n k piece most room : ℕ) → n ≡ min k room → k ≡ min piece most → 0 < piece → 0 < most → (room ≡ 0 → ⊥) → 0 < n
least_some n k piece most room is first some more left = omega arith

taken_where_ok : {T E : Type 0} (r : Result T E) (x : T) (new old more : List ℕ) → r ≡ Ok x → new ≡ (if is_ok r then old ++ more else old) → new ≡ old ++ more
taken_where_ok r x new old more ok items = rw ok at items

room_left : (piece : List ℕ) (n room len capacity : ℕ) → n ≤ room → len + room ≤ capacity → len + length (take n piece) ≤ capacity
room_left piece n room len capacity fits reserved = omega (arith, length-take n piece)

pub returns-then-next_fails : goal.returns-then-next_fails
returns-then-next_fails c = record {
  fails = (λ _. elim c.then-next_fails.branch [ then-next_fails-via-then-next_fails w ↦ inl (c.next_fails.ensures.fails.0 w.if-next_fails.true) | then-next_fails-via-else-next_fails+then-self-eq0 w ↦ inr w.if-self-eq0.true ], λ _. refl);
  same = refl;
  kept = refl;
  fault = c.fault.ensures.faults ∙ ap with_fault c.next_fails.ensures.calls;
  count = faults_kept c.args.self.now.tally c.next_fails.new.self c.fault.new.self c.next_fails.ensures.calls c.fault.ensures.count;
  many = tt;
  some = tt;
  taken = tt;
  room = tt;
  counts = tt;
  most = refl;
}

pub returns : goal.returns
returns c = record {
  fails = (λ ok. absurd (true≢false (sym ok)), λ failed. absurd (neither (λ failing. true≢false (sym (c.next_fails.ensures.fails.1 failing) ∙ c.if-next_fails.false)) c.if-self-eq0.false failed));
  same = tt;
  kept = tt;
  fault = tt;
  count = le_of_eq (ap (λ (t : Counts). t.faults) (sym c.next_fails.ensures.calls));
  many = c.min-n.ensures ∙ ap (λ k. min k c.args.self.now.room) c.min.ensures;
  some = least_some _ _ _ _ _ c.min-n.ensures c.min.ensures c.requires c.args.self.now.takes_some c.if-self-eq0.false;
  taken = taken_where_ok _ _ _ c.args.self.now.bytes.items (take c.min-n.result c.args.piece.now) c.unwrap.ensures c.extend_from_slice.ensures.items;
  room = refl;
  counts = c.next_fails.ensures.calls;
  most = refl;
}

pub slice_bounds-extend_from_slice-end : goal.slice_bounds-extend_from_slice-end
slice_bounds-extend_from_slice-end c = sym (length-take-le _ _ (least_within _ _ _ _ _ c.min-n.ensures c.min.ensures).0)

pub overflow_sub-self : goal.overflow_sub-self
overflow_sub-self c = (least_within _ _ _ _ _ c.min-n.ensures c.min.ensures).1

pub unwrap-requires : goal.unwrap-requires
unwrap-requires c = c.extend_from_slice.ensures.succeeds (room_left _ _ _ _ _ (least_within _ _ _ _ _ c.min-n.ensures c.min.ensures).1 c.args.self.now.reserved)
