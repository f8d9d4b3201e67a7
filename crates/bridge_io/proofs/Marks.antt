-- Where lines end, as a map of lines marks them, and the place that follows from it.
use Rattle.std.proofs.Common.{arith, ◌≡◌, ℕ, zero, suc, ◌+◌, ◌-◌, ◌<◌, ◌≤◌, Bool, true, false, cond, List, [], ◌∷◌, ◌++◌, length, get_or, take, drop, replicate, count_by, refl, ap, sym, ◌∙◌, append-nil, append_assoc, length-append}
use Rattle.std.specs.Prelude.{◌==◌}
use Rattle.std.specs.List.{after_last, flat_map}
use Rattle.std.proofs.lemmas.Bool.{false_from_ne_true, eqb-true}
use Rattle.std.proofs.lemmas.List.{take_all, take_more, drop_more, take-append-drop, take-append-le, take-map, take-replicate, map_more, length-map, length-replicate, replicate_more}
use Rattle.std.proofs.lemmas.List.Concat.{flat_map-append}
use Rattle.std.proofs.lemmas.List.Sums.{sum_by-append}
use Rattle.bridge_io.specs.LineMap.{line_ends, ends_marked}
use Rattle.bridge_io.specs.Place.{line_at, column_at}
use Rattle.bridge_io.proofs.Bytes.{take_behind}
use Rattle.bridge_io.proofs.Ends.{ends_none, since_push}

-- the ends of lines among these
abbrev pub count_ends : List Bool → ℕ
count_ends ends = count_by (λ e. e) ends

-- the bytes behind the last end, where so many stand before
abbrev pub since : ℕ → List Bool → ℕ
since before [] = before
since before (e ∷ ends) = since (cond e 0 (1 + before)) ends

since_append : (before : ℕ) (xs ys : List Bool) → since before (xs ++ ys) ≡ since (since before xs) ys
since_append before [] ys = refl
since_append before (x ∷ xs) ys = since_append (cond x 0 (1 + before)) xs ys

since_none : (before n : ℕ) → since before (replicate n false) ≡ before + n
since_none before zero = omega arith
since_none before (suc n) = since_none (1 + before) n ∙ omega arith

count_none : (n : ℕ) → count_ends (replicate n false) ≡ 0
count_none zero = refl
count_none (suc n) = count_none n

count_is : (bytes : List ℕ) → count_by (λ b. b == 10) bytes ≡ count_ends (line_ends bytes)
count_is [] = refl
count_is (b ∷ bytes) =
    sum_by-append (λ k. cond (k == 10) 1 0) (b ∷ []) bytes ∙ ap (λ n. (0 + cond (b == 10) 1 0) + n) (count_is bytes)
    ∙ sym (sum_by-append (λ e. cond e 1 0) ((b == 10) ∷ []) (line_ends bytes))

since_is : (before bytes : List ℕ) → since (length (after_last (λ b. b == 10) before)) (line_ends bytes) ≡ length (after_last (λ b. b == 10) (before ++ bytes))
since_is before [] = ap (λ l. length (after_last (λ b. b == 10) l)) (sym (append-nil before))
since_is before (b ∷ bytes) =
    ap (λ n. since n (line_ends bytes)) (sym (since_push (λ k. k == 10) before b)) ∙ since_is (before ++ b ∷ []) bytes
    ∙ ap (λ l. length (after_last (λ k. k == 10) l)) (append_assoc before (b ∷ []) bytes)

-- behind the ends there are so many bytes, and this line and so many bytes of it
pub record IsAlong (at line before : ℕ) (ends : List Bool) : Type 0 where
  pub at_is : at ≡ length ends
  pub line_is : line ≡ 1 + count_ends ends
  pub before_is : before ≡ since 0 ends

-- so many bytes further on the same line
along_run : (at line before n : ℕ) (ends : List Bool) → IsAlong at line before ends → IsAlong (at + n) line (before + n) (ends ++ replicate n false)
along_run at line before n ends along = record {
  at_is = omega (arith, along.at_is, length-append ends (replicate n false), length-replicate n false);
  line_is = omega (arith, along.line_is, sum_by-append (λ e. cond e 1 0) ends (replicate n false), count_none n);
  before_is = ap (λ m. m + n) along.before_is ∙ sym (since_none (since 0 ends) n) ∙ sym (since_append 0 ends (replicate n false));
}

-- behind the end of that line
along_end : (at line before : ℕ) (ends : List Bool) → IsAlong at line before ends → IsAlong (at + 1) (line + 1) 0 (ends ++ true ∷ [])
along_end at line before ends along = record {
  at_is = omega (arith, along.at_is, length-append ends (true ∷ []));
  line_is = omega (arith, along.line_is, sum_by-append (λ e. cond e 1 0) ends (true ∷ []));
  before_is = sym (since_append 0 ends (true ∷ []));
}

-- a mark more
marks_more : (marks : List ℕ) (i d : ℕ) → i < length marks → flat_map ends_marked (take (i + 1) marks) ≡ flat_map ends_marked (take i marks) ++ ends_marked (get_or marks i d)
marks_more marks i d within =
    ap (flat_map ends_marked) (take_more marks i d within) ∙ flat_map-append ends_marked (take i marks) (get_or marks i d ∷ [])
    ∙ ap (λ l. flat_map ends_marked (take i marks) ++ l) (append-nil (ends_marked (get_or marks i d)))

full : (mark : ℕ) → mark ≡ 255 → (mark == 255) ≡ true
full mark is = ap (λ k. k == 255) is

not_full : (mark : ℕ) → (mark ≡ 255 → ⊥) → (mark == 255) ≡ false
not_full mark other = false_from_ne_true (mark == 255) (λ t. other (eqb-true mark 255 t))

marked_run : (mark : ℕ) (t : Bool) → (mark == 255) ≡ t → ends_marked mark ≡ replicate mark false ++ cond t [] (true ∷ [])
marked_run mark t is = ap (λ u. replicate mark false ++ cond u [] (true ∷ [])) is

pub along_full : (at line before mark : ℕ) (ends : List Bool) → (mark == 255) ≡ true → IsAlong at line before ends → IsAlong (at + mark) line (before + mark) (ends ++ ends_marked mark)
along_full at line before mark ends is along =
    let same : ends ++ ends_marked mark ≡ ends ++ replicate mark false = ap (λ l. ends ++ l) (marked_run mark true is ∙ append-nil (replicate mark false)) in
    rw same (along_run at line before mark ends along)

pub along_line : (at line before mark : ℕ) (ends : List Bool) → (mark == 255) ≡ false → IsAlong at line before ends → IsAlong (at + mark + 1) (line + 1) 0 (ends ++ ends_marked mark)
along_line at line before mark ends is along =
    let same : ends ++ ends_marked mark ≡ (ends ++ replicate mark false) ++ true ∷ [] = ap (λ l. ends ++ l) (marked_run mark false is) ∙ sym (append_assoc ends (replicate mark false) (true ∷ [])) in
    rw same (along_end (at + mark) line (before + mark) (ends ++ replicate mark false) (along_run at line before mark ends along))

-- A byte more of a line that is not ended makes the mark full.
pub goes_on : (marks : List ℕ) (mark last b : ℕ) → mark ≡ 255 → mark ≡ last + 1 → (b ≡ 10 → ⊥) → flat_map ends_marked (marks ++ mark ∷ []) ++ [] ≡ (flat_map ends_marked marks ++ replicate last false) ++ (b == 10) ∷ []
goes_on marks mark last b is more other =
    let run : ends_marked mark ≡ replicate last false ++ (b == 10) ∷ [] =
    marked_run mark true (full mark is) ∙ append-nil (replicate mark false) ∙ ap (λ n. replicate n false) more ∙ sym (replicate_more last false)
    ∙ ap (λ t. replicate last false ++ t ∷ []) (sym (ends_none b other)) in
    append-nil (flat_map ends_marked (marks ++ mark ∷ [])) ∙ flat_map-append ends_marked marks (mark ∷ [])
    ∙ ap (λ l. flat_map ends_marked marks ++ l) (append-nil (ends_marked mark) ∙ run) ∙ sym (append_assoc (flat_map ends_marked marks) (replicate last false) ((b == 10) ∷ []))

-- a byte more of a piece
pub ends_next : (before mid new : List Bool) (piece : List ℕ) (i d : ℕ) → i < length piece → mid ≡ before ++ line_ends (take i piece) → new ≡ mid ++ (get_or piece i d == 10) ∷ [] → new ≡ before ++ line_ends (take (i + 1) piece)
ends_next before mid new piece i d within so next =
    next ∙ ap (λ l. l ++ (get_or piece i d == 10) ∷ []) so ∙ append_assoc before (line_ends (take i piece)) ((get_or piece i d == 10) ∷ [])
    ∙ ap (λ l. before ++ l) (sym (map_more (λ b. b == 10) piece i d within))

pub ends_of_all : (before new : List Bool) (piece : List ℕ) (i : ℕ) → length piece ≤ i → new ≡ before ++ line_ends (take i piece) → new ≡ before ++ line_ends piece
ends_of_all before new piece i past so = so ∙ ap (λ l. before ++ line_ends l) (take_all i piece past)

-- The place of an offset that lies in a run of bytes without an end.
pub place_in : (bytes : List ℕ) (ends rest : List Bool) (at line before run offset : ℕ) → line_ends bytes ≡ ends ++ (replicate run false ++ rest) → IsAlong at line before ends → at ≤ offset → offset - at ≤ run
    → (line ≡ line_at bytes offset) × (1 + (before + (offset - at)) ≡ column_at bytes offset)
place_in bytes ends rest at line before run offset is along past within =
    let n = offset - at in
    let fits : offset - at ≤ length (replicate run false) = omega (arith, length-replicate run false) in
    let front : line_ends (take offset bytes) ≡ ends ++ replicate (offset - at) false =
    sym (take-map (λ b. b == 10) offset bytes) ∙ ap (take offset) is ∙ take_behind ends (replicate run false ++ rest) offset at (sym along.at_is) past
    ∙ ap (λ l. ends ++ l) (take-append-le (offset - at) (replicate run false) rest fits ∙ take-replicate (offset - at) run false within) in
    let there = along_run at line before (offset - at) ends along in (
      there.line_is ∙ ap (λ l. 1 + count_ends l) (sym front) ∙ ap (λ k. 1 + k) (sym (count_is (take offset bytes))),
      ap (λ k. 1 + k) (there.before_is ∙ ap (since 0) (sym front) ∙ since_is [] (take offset bytes)),
    )

-- the mark at place i, and what stands before and behind it
pub mark_at : (bytes marks : List ℕ) (last i d : ℕ) → i < length marks → line_ends bytes ≡ flat_map ends_marked marks ++ replicate last false
    → (rest : List Bool) × (line_ends bytes ≡ flat_map ends_marked (take i marks) ++ (replicate (get_or marks i d) false ++ rest))
mark_at bytes marks last i d within is =
    let mark = get_or marks i d in
    let front = flat_map ends_marked (take i marks) in
    let run : List Bool = replicate (get_or marks i d) false in
    let tip : List Bool = cond (get_or marks i d == 255) [] (true ∷ []) in
    let later = flat_map ends_marked (drop (i + 1) marks) in
    let open_run : List Bool = replicate last false in
    let parts : flat_map ends_marked marks ≡ front ++ ((run ++ tip) ++ later) =
    ap (flat_map ends_marked) (sym (take-append-drop i marks)) ∙ flat_map-append ends_marked (take i marks) (drop i marks)
    ∙ ap (λ l. front ++ flat_map ends_marked l) (drop_more marks i d within) in (
      (tip ++ later) ++ open_run,
      is ∙ ap (λ l. l ++ open_run) parts ∙ append_assoc front ((run ++ tip) ++ later) open_run
          ∙ ap (λ l. front ++ l) (ap (λ l. l ++ open_run) (append_assoc run tip later) ∙ append_assoc run (tip ++ later) open_run),
    )

-- A step over a full mark.
pub on_full : (items : List ℕ) (i d run at line before new_at new_line new_before : ℕ) → i < length items → run ≡ get_or items i d → get_or items i d ≡ 255
    → IsAlong at line before (flat_map ends_marked (take i items)) → new_at ≡ at + run → new_line ≡ line → new_before ≡ before + run
    → IsAlong new_at new_line new_before (flat_map ends_marked (take (i + 1) items))
on_full items i d run at line before new_at new_line new_before within is whole along at_is line_is before_is =
    rw (marks_more items i d within, at_is, line_is, before_is, is) (along_full at line before (get_or items i d) (flat_map ends_marked (take i items)) (full (get_or items i d) whole) along)

-- A step over a line with its end.
pub on_line : (items : List ℕ) (i d run at line before new_at new_line new_before : ℕ) → i < length items → run ≡ get_or items i d → (get_or items i d ≡ 255 → ⊥)
    → IsAlong at line before (flat_map ends_marked (take i items)) → new_at ≡ at + (run + 1) → new_line ≡ line + 1 → new_before ≡ 0
    → IsAlong new_at new_line new_before (flat_map ends_marked (take (i + 1) items))
on_line items i d run at line before new_at new_line new_before within is other along at_is line_is before_is =
    let there : new_at ≡ at + get_or items i d + 1 = omega arith in
    rw (marks_more items i d within, there, line_is, before_is) (along_line at line before (get_or items i d) (flat_map ends_marked (take i items)) (not_full (get_or items i d) other) along)

-- the place of an offset in the run of a mark
pub place_at : (bytes marks items : List ℕ) (last i d run at line before offset : ℕ) → items ≡ marks → line_ends bytes ≡ flat_map ends_marked marks ++ replicate last false → i < length items → run ≡ get_or items i d
    → IsAlong at line before (flat_map ends_marked (take i items)) → at ≤ offset → offset - at ≤ run → (line ≡ line_at bytes offset) × (1 + (before + (offset - at)) ≡ column_at bytes offset)
place_at bytes marks items last i d run at line before offset same is inside run_is along past within =
    let there = mark_at bytes items last i d inside (is ∙ ap (λ l. flat_map ends_marked l ++ replicate last false) (sym same)) in
    place_in bytes (flat_map ends_marked (take i items)) there.0 at line before (get_or items i d) offset there.1 along past (omega (arith, run_is, within))

-- the place of an offset behind all marks
pub place_behind : (bytes marks items : List ℕ) (last i at line before offset : ℕ) → items ≡ marks → line_ends bytes ≡ flat_map ends_marked marks ++ replicate last false → length items ≤ i
    → IsAlong at line before (flat_map ends_marked (take i items)) → at ≤ offset → offset ≤ length bytes → (line ≡ line_at bytes offset) × (1 + (before + (offset - at)) ≡ column_at bytes offset)
place_behind bytes marks items last i at line before offset same is all along past within =
    let ends : line_ends bytes ≡ flat_map ends_marked (take i items) ++ replicate last false =
    is ∙ ap (λ l. flat_map ends_marked l ++ replicate last false) (sym same ∙ sym (take_all i items all)) in
    let size : length bytes ≡ at + last =
    omega (arith, length-map bytes (λ b. b == 10), ap length ends, length-append (flat_map ends_marked (take i items)) (replicate last false), length-replicate last false, along.at_is) in
    place_in bytes (flat_map ends_marked (take i items)) [] at line before last offset (ends ∙ ap (λ l. flat_map ends_marked (take i items) ++ l) (sym (append-nil (replicate last false)))) along past (omega arith)
