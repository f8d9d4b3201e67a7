use Rattle.std.proofs.Common.{rules, arith, ◌≡◌, ◌<◌, ◌∙◌, Some, ap, sym, string_bytes, length, get_or, map}
use Rattle.std.proofs.lemmas.Grind.{common_steps}
use Rattle.std.proofs.lemmas.List.{get_or-map}
use Rattle.std.proofs.lemmas.Option.{slice_get-get_or}
use Rattle.bridge_io.proofs.file_shelf.number_of_word.Goals as goal

pub loop-number-preserved : goal.loop-number-preserved
loop-number-preserved c =
    let within : c.loop-number.number < length c.args.words.now = search rules in
    let here : get_or (map string_bytes c.args.words.now) c.loop-number.number c.args.name.now ≡ string_bytes c.index-words-number.result =
    get_or-map string_bytes c.args.words.now c.loop-number.number c.index-words-number.result c.args.name.now within ∙ ap string_bytes (sym c.index-words-number.is) in
    let other : string_bytes c.index-words-number.result ≡ c.args.name.now → ⊥ = search rules in
    λ k below is. grind (arith, here, other, is, below, c.loop-number.invariant)

pub returns-then-eq-clause-found : goal.returns-then-eq-clause-found
returns-then-eq-clause-found c =
    let within : c.loop-number.number < length (map string_bytes c.args.words.now) = grind (arith, common_steps) in
    let word = get_or-map string_bytes c.args.words.now c.loop-number.number c.index-words-number.result c.args.name.now (search rules) in
    let same : string_bytes c.index-words-number.result ≡ c.args.name.now = search rules in
    slice_get-get_or (map string_bytes c.args.words.now) c.loop-number.number c.args.name.now within ∙ ap Some (word ∙ ap string_bytes (sym c.index-words-number.is) ∙ same)

pub returns-clause-absent : goal.returns-clause-absent
returns-clause-absent c = λ has.
    let within : has.0 < c.loop-number.number = grind (arith, common_steps, has) in
    c.loop-number.invariant has.0 within has.2
