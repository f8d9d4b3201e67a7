use Rattle.std.proofs.Common.{arith, ◌≡◌, ◌≤◌, ℕ, ◌+◌, ◌-◌, min, List, ◌++◌, Option, length, take, drop, ap, sym, subst, ◌∙◌, le_trans, le_of_eq, append_assoc, length-append, length-take, length-take-le}
use Rattle.std.proofs.lemmas.List.{take_all, take-take, take_min, take-append-le}
use Rattle.bridge_io.specs.Outside.{Lefts, Takes}
use Rattle.bridge_io.specs.Feeding.{IsFed}
use Rattle.bridge_io.specs.Place.{IsEnd}
use Rattle.bridge_io.proofs.Bytes.{takes_more, take_behind}
use Rattle.bridge_io.proofs.transfer.read_into.Goals as goal

-- what was read fits into the room, so that no more than one byte too many is there
count_within : (piece buffer : List ℕ) (n room count limit : ℕ) → n ≤ length piece → length piece ≡ length (take room buffer) → room ≡ min 4096 (limit + 1 - count) → count ≤ limit → count + n ≤ limit + 1
count_within piece buffer n room count limit fits same is few = omega (arith, length-take room buffer)

counted : (bytes piece : List ℕ) (count n : ℕ) → length bytes ≡ count → n ≤ length piece → length (bytes ++ take n piece) ≡ count + n
counted bytes piece count n all fits = omega (arith, length-append bytes (take n piece), length-take n piece)

fed_count : (piece rest : List ℕ) (old new count n : ℕ) → old ≡ count → n ≤ length piece → new ≡ old + length (take n (piece ++ rest)) → new ≡ count + n
fed_count piece rest old new count n all fits is = omega (arith, length-take n (piece ++ rest), length-append piece rest)

-- A further piece was taken and fed.
fed_more : (first second third : Option Lefts) (name : List ℕ) (stood between stands : List ℕ → Type 0) (bytes piece rest : List ℕ) (n : ℕ) → n ≤ length piece → IsFed first second name stood between bytes → Takes second third name (take n piece)
    → ((seen : List ℕ) → between seen → stands (seen ++ take n (piece ++ rest))) → IsFed first third name stood stands (bytes ++ take n piece)
fed_more first second third name stood between stands bytes piece rest n fits fed taken on = record {
  taken = takes_more first second third name bytes (take n piece) fed.taken taken;
  fed = λ seen was. subst stands (append_assoc seen bytes (take n piece)) (subst (λ l. stands ((seen ++ bytes) ++ l)) (take-append-le n piece rest fits) (on (seen ++ bytes) (fed.fed seen was)));
}

-- what is read of a piece up to the limit
cut_piece : (piece rest : List ℕ) (room n before : ℕ) → n ≤ length piece → before ≡ min n room → take room (take n piece) ≡ take before (piece ++ rest)
cut_piece piece rest room n before fits is =
    let size : length (take n piece) ≡ n = length-take-le n piece fits in
    let less : min room n ≡ before = omega arith in
    let within : before ≤ n = omega arith in
    sym (take_min room (take n piece)) ∙ ap (λ m. take (min room m) (take n piece)) size ∙ ap (λ m. take m (take n piece)) less
    ∙ take-take before n piece within ∙ sym (take-append-le before piece rest (le_trans within fits))

-- Of a piece that makes it one byte too many the place passes all but the last.
passed : (line column : ℕ) (bytes piece rest : List ℕ) (limit n before count : ℕ) → length bytes ≡ count → count ≤ limit → n ≤ length piece → before ≡ min n (limit - count)
    → IsEnd line column (take limit bytes ++ take before (piece ++ rest)) → IsEnd line column (take limit (bytes ++ take n piece))
passed line column bytes piece rest limit n before count all few fits is end =
    let whole : take limit bytes ≡ bytes = take_all limit bytes (le_trans (le_of_eq all) few) in
    let same : take limit bytes ++ take before (piece ++ rest) ≡ take limit (bytes ++ take n piece) =
    ap (λ l. l ++ take before (piece ++ rest)) whole ∙ ap (λ l. bytes ++ l) (sym (cut_piece piece rest (limit - count) n before fits is))
    ∙ sym (take_behind bytes (take n piece) limit count all few) in
    subst (IsEnd line column) same end

pub returns-in-Err-clause-err : goal.returns-in-Err-clause-err
returns-in-Err-clause-err g c =
    let read = c.fill.invariant.read in
    (read.0 ++ take c.in-Ok.n c.read_next.new.piece, takes_more _ _ _ _ _ _ read.2.taken c.in-Ok.ensures.taken)

pub returns-in-Err-clause-stops : goal.returns-in-Err-clause-stops
returns-in-Err-clause-stops g c =
    let read = c.fill.invariant.read in
    let fits : c.in-Ok.n ≤ length c.read_next.new.piece = le_trans c.in-Ok.ensures.bound (le_of_eq (sym c.read_next.auto.piece)) in
    let within = count_within c.read_next.new.piece c.fill.buffer c.in-Ok.n c.min-room.result c.fill.count c.args.limit fits c.read_next.auto.piece c.min-room.ensures c.fill-test.true in
    (read.0 ++ take c.in-Ok.n c.read_next.new.piece, le_trans (le_of_eq (counted read.0 _ _ _ read.1 fits)) within, takes_more _ _ _ _ _ _ read.2.taken c.in-Ok.ensures.taken)

pub fill-preserved : goal.fill-preserved
fill-preserved g c =
    let read = c.fill.invariant.read in
    let fits : c.in-Ok.n ≤ length c.read_next.new.piece = le_trans c.in-Ok.ensures.bound (le_of_eq (sym c.read_next.auto.piece)) in
    let rest : List ℕ = drop c.min-room.result c.fill.buffer in
    record {
      within = count_within c.read_next.new.piece c.fill.buffer c.in-Ok.n c.min-room.result c.fill.count c.args.limit fits c.read_next.auto.piece c.min-room.ensures c.fill-test.true;
      fed = fed_count _ rest _ _ _ _ c.fill.invariant.fed fits c.in_default-feed.ensures.grown;
      read = (
        read.0 ++ take c.in-Ok.n c.read_next.new.piece,
        counted read.0 _ _ _ read.1 fits,
        fed_more _ _ _ _ _ _ _ read.0 _ rest _ fits read.2 c.in-Ok.ensures.taken c.in_default-feed.ensures.ok,
        passed _ _ read.0 _ rest _ _ _ _ read.1 c.fill-test.true fits c.min-before.ensures (c.past-end.ensures.end _ read.3),
      );
      held = λ _. c.in-Ok.ensures.held;
      count = le_trans c.fill.invariant.count c.in-Ok.ensures.count;
      steady = λ other held. c.in-Ok.ensures.steady other (c.fill.invariant.steady other held);
    }
