-- The first reward structure of each name, found one structure after another.
use Rattle.std.specs.Prelude.{ℕ, ◌<◌, ◌≤◌, ◌+◌, List, [], ◌∷◌, map, length, drop, Bool, true, false, Option, Some, None, cond, nat_lt, if◌then◌else◌}
use Rattle.std.specs.List.{position, position_from}
use Rattle.std.specs.Option.{option_or}
use Rattle.std.proofs.Common.{◌≡◌, suc, refl, sym, ap, ◌∙◌, get_or, arith}
use Rattle.std.proofs.lemmas.Bool.{lt-ltb}
use Rattle.std.proofs.lemmas.List.{at_drop_more, at_drop_all}
use Rattle.std.proofs.lemmas.Iterator.Adapters.{position_from-zero}
use Rattle.name_rules.proofs.Maps.{none_after}
use Rattle.prism_tree.specs.declared.syntax.PrismRewards.{PrismRewards}
use Rattle.prism_tree.specs.Syntax.{Rewards, rewards_of}
use Rattle.prop_check.specs.Tables.{first_place}

first_of_more : (old rest : Option ℕ) (b : Bool) (i : ℕ) → option_or (option_or old (if b then Some i else None)) rest ≡ option_or old (cond b (Some i) rest)
first_of_more None rest true i = refl
first_of_more None rest false i = refl
first_of_more (Some k) rest b i = refl

-- one structure more
pub placed_more : (p : Rewards → Bool) (old new whole : Option ℕ) (rs : List PrismRewards) (i : ℕ) (r : PrismRewards) → i < length rs → r ≡ get_or rs i r →
    new ≡ option_or old (if p (rewards_of r) then Some i else None) → option_or old (position_from p i (map rewards_of (drop i rs))) ≡ whole →
    option_or new (position_from p (i + 1) (map rewards_of (drop (i + 1) rs))) ≡ whole
placed_more p old new whole rs i r h is noted so_far =
    let rest = position_from p (i + 1) (map rewards_of (drop (i + 1) rs)) in
    ap (λ o. option_or o rest) noted
    ∙ first_of_more old rest (p (rewards_of r)) i
    ∙ sym (at_drop_more (λ ys. option_or old (position_from p i (map rewards_of ys))) rs i r h
    ∙ ap (λ y. option_or old (position_from p i (map rewards_of (y ∷ drop (i + 1) rs)))) (sym is))
    ∙ so_far

-- no structure more
pub placed_all : (p : Rewards → Bool) (old whole : Option ℕ) (rs : List PrismRewards) (i : ℕ) → length rs ≤ i →
    option_or old (position_from p i (map rewards_of (drop i rs))) ≡ whole → old ≡ whole
placed_all p old whole rs i h so_far = none_after old ∙ sym (at_drop_all (λ ys. option_or old (position_from p i (map rewards_of ys))) rs i h) ∙ so_far

pub from_nought : (p : Rewards → Bool) (rs : List Rewards) → position p rs ≡ position_from p 0 rs
from_nought p rs = position_from-zero p rs

-- the first of all, if there is one
pub first_is : (rs : List PrismRewards) → first_place (nat_lt 0 (length rs)) ≡ position (λ r. true) (map rewards_of rs)
first_is [] = refl
first_is (r ∷ rs) =
    ap first_place (lt-ltb 0 (suc (length rs)) (omega arith)) ∙ sym (ap (λ b. cond b (Some 0) None) (lt-ltb 0 (suc (length (map rewards_of rs))) (omega arith)))
