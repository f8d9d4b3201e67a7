-- Where names stand, in lists: one more at the end, and one less at the front.
use Rattle.std.specs.Prelude.{◌≡◌, ℕ, ◌+◌, ◌<◌, List, [], ◌∷◌, ◌++◌, length, drop, get_or, Bool, true, false, ◌&&◌, cond, Option, Some, None, bytes_eq, if◌then◌else◌}
use Rattle.std.specs.List.{find}
use Rattle.std.specs.Option.{option_map, option_or}
use Rattle.std.proofs.Common.{refl, sym, ap, ◌∙◌}
use Rattle.basics.specs.Lists.{drop_item}
use Rattle.process_core.specs.Instance.{only_if}
use Rattle.name_rules.specs.Names.{Name}
use Rattle.instance_start.specs.declared.data.Place.{Place}
use Rattle.jani_instance.specs.Parts.{place_under}
use Rattle.jani_instance.specs.declared.parts.Placed.{Placed}

seen_first : (b : Bool) (p : Placed) (r : Option Placed) → option_map (λ p. p.place) (cond b (Some p) r) ≡ cond b (Some p.place) (option_map (λ p. p.place) r)
seen_first true p r = refl
seen_first false p r = refl

or_later : (b : Bool) (p : Place) (r s : Option Place) → option_or (cond b (Some p) r) s ≡ cond b (Some p) (option_or r s)
or_later true p r s = refl
or_later false p r s = refl

pub place_added : (x : Name) (ps : List Placed) (b : Bool) (p : Placed) →
    place_under x (ps ++ only_if b p) ≡ option_or (place_under x ps) (if b && bytes_eq p.name.now x then Some p.place else None)
place_added x [] true p = seen_first (bytes_eq p.name.now x) p None ∙ last (bytes_eq p.name.now x)
  where
    last : (b : Bool) → cond b (Some p.place) None ≡ (if b then Some p.place else None)
    last true = refl
    last false = refl
place_added x [] false p = refl
place_added x (q ∷ ps) b p =
    let new : Option Place = if b && bytes_eq p.name.now x then Some p.place else None in
    seen_first (bytes_eq q.name.now x) q (find (λ p. bytes_eq p.name.now x) (ps ++ only_if b p))
    ∙ ap (cond (bytes_eq q.name.now x) (Some q.place)) (place_added x ps b p)
    ∙ sym (or_later (bytes_eq q.name.now x) q.place (place_under x ps) new)
    ∙ ap (λ o. option_or o new) (sym (seen_first (bytes_eq q.name.now x) q (find (λ p. bytes_eq p.name.now x) ps)))

put_or : (old : Option Place) (b : Bool) (p : Place) (rest : Option Place) → option_or (option_or old (if b then Some p else None)) rest ≡ option_or old (cond b (Some p) rest)
put_or None true p rest = refl
put_or None false p rest = refl
put_or (Some y) b p rest = refl

pub place_next : (x : Name) (ps : List Placed) (i : ℕ) (p : Placed) (old new whole : Option Place) → i < length ps → p ≡ get_or ps i p →
    new ≡ option_or old (if bytes_eq p.name.now x then Some p.place else None) → option_or old (place_under x (drop i ps)) ≡ whole → option_or new (place_under x (drop (i + 1) ps)) ≡ whole
place_next x ps i p old new whole h is put so_far =
    let rest = drop (i + 1) ps in
    ap (λ o. option_or o (place_under x rest)) put
    ∙ put_or old (bytes_eq p.name.now x) p.place (place_under x rest)
    ∙ ap (option_or old) (sym (seen_first (bytes_eq p.name.now x) p (find (λ p. bytes_eq p.name.now x) rest)))
    ∙ ap (λ l. option_or old (place_under x l)) (sym (drop_item ps i p h is))
    ∙ so_far
