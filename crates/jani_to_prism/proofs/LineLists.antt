-- Lines where no old name is left, the names of locations with commas between them, and pieces of a line.
use Rattle.std.proofs.Common.{◌≡◌, ℕ, ◌-◌, ◌≤◌, List, [], ◌∷◌, ◌++◌, map, length, take, drop, get_or, refl, sym, ap, ◌∙◌, append-nil, append_assoc, take_all, arith}
use Rattle.std.specs.Prelude.{codes}
use Rattle.std.specs.List.{flat_map}
use Rattle.std.proofs.lemmas.List.Folds.{flat_map-map}
use Rattle.decimal_json.specs.Text.{quoted}
use Rattle.jani_tree.specs.declared.syntax.JaniLocation.{JaniLocation}
use Rattle.jani_tree.specs.Syntax.{Location, location_of}
use Rattle.name_table.specs.declared.entry.Entry.{Entry}
use Rattle.prism_targets.specs.Lines.{name_lines, joined}

pub no_olds : (what : List ℕ) (es : List Entry) → name_lines what es [] ≡ []
no_olds what [] = refl
no_olds what (e ∷ es) = refl

pub joined_by : (x : List ℕ) (ys : List (List ℕ)) → joined (x ∷ ys) ≡ x ++ flat_map (λ y. codes "," ++ y) ys
joined_by x [] = sym (append-nil x)
joined_by x (y ∷ ys) = ap (λ l. x ++ (codes "," ++ l)) (joined_by y ys) ∙ ap (λ l. x ++ l) (sym (append_assoc (codes ",") y (flat_map (λ y. codes "," ++ y) ys)))

-- the first name, and all others behind commas
pub locations_joined : (ls : List JaniLocation) (first : JaniLocation) (i : ℕ) (before : List ℕ) → 1 ≤ length ls → first ≡ get_or ls 0 first →
    length (take (length ls - 1) (drop 1 ls)) ≤ i →
    (before ++ quoted first.name.name) ++ flat_map (λ (k : Location). codes "," ++ quoted k.name.name) (map location_of (take i (take (length ls - 1) (drop 1 ls))))
    ≡ before ++ joined (map (λ (k : Location). quoted k.name.name) (map location_of ls))
locations_joined [] first i before h e t = absurd (omega (arith, h))
locations_joined (l ∷ ls) first i before h e t =
    let rest : take (length (l ∷ ls) - 1) (drop 1 (l ∷ ls)) ≡ ls = take_all (length (l ∷ ls) - 1) ls (omega arith) in
    ap (λ (r : List JaniLocation). (before ++ quoted first.name.name) ++ flat_map (λ (k : Location). codes "," ++ quoted k.name.name) (map location_of r)) (take_all i _ t ∙ rest)
    ∙ append_assoc before (quoted first.name.name) (flat_map (λ (k : Location). codes "," ++ quoted k.name.name) (map location_of ls))
    ∙ ap (λ z. before ++ z)
    (ap (λ (z : JaniLocation). quoted z.name.name ++ flat_map (λ (k : Location). codes "," ++ quoted k.name.name) (map location_of ls)) e
    ∙ ap (λ z. quoted l.name.name ++ z) (sym (flat_map-map (λ y. codes "," ++ y) (λ (k : Location). quoted k.name.name) (map location_of ls)))
    ∙ sym (joined_by (quoted l.name.name) (map (λ (k : Location). quoted k.name.name) (map location_of ls))))

-- five pieces that are written one after another
pub five_behind : (l a b c d e : List ℕ) → ((((l ++ a) ++ b) ++ c) ++ d) ++ e ≡ l ++ (a ++ (b ++ (c ++ (d ++ e))))
five_behind l a b c d e =
    append_assoc (((l ++ a) ++ b) ++ c) d e
    ∙ append_assoc ((l ++ a) ++ b) c (d ++ e)
    ∙ append_assoc (l ++ a) b (c ++ (d ++ e))
    ∙ append_assoc l a (b ++ (c ++ (d ++ e)))
