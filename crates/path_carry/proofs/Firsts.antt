-- The first candidate for a label.
use Rattle.std.proofs.Common.{◌≡◌, List, [], ◌∷◌, map, Bool, true, false, cond, Option, Some, None, refl, sym, ap, ◌∙◌, is_none, is_some, not}
use Rattle.std.specs.List.{find, filter}
use Rattle.process_core.specs.Ready.{Name, same_label}
use Rattle.carry_maps.specs.declared.map.LabelPair.{LabelPair}
use Rattle.carry_maps.specs.Maps.{candidates}
use Rattle.path_carry.specs.Carried.{first_of}

-- what a test for none says
pub none_told : (o : Option Name) (r : Bool) → is_some o ≡ not r → r ≡ is_none o
none_told None true e = refl
none_told None false e = absurd cc
none_told (Some x) true e = absurd cc
none_told (Some x) false e = refl

abbrev action_in : Option LabelPair → Option Name
action_in None = None
action_in (Some p) = Some p.prism

first_filtered : (ps : List LabelPair) (q : LabelPair → Bool) → first_of (map (λ p. Some p.prism) (filter q ps)) ≡ action_in (find q ps)
first_filtered [] q = refl
first_filtered (p ∷ ps) q = by_test (q p) (first_filtered ps q)
  where
    by_test : (b : Bool) → first_of (map (λ r. Some r.prism) (filter q ps)) ≡ action_in (find q ps) → first_of (map (λ r. Some r.prism) (cond b (p ∷ filter q ps) (filter q ps))) ≡ action_in (cond b (Some p) (find q ps))
    by_test true ih = refl
    by_test false ih = ih

first_is : (ps : List LabelPair) (l : Option Name) → is_none l ≡ false → first_of (candidates ps l) ≡ action_in (find (λ p. same_label l p.jani) ps)
first_is ps None h = absurd cc
first_is ps (Some y) h = first_filtered ps (λ p. same_label (Some y) p.jani)

pub first_found : (ps : List LabelPair) (l : Option Name) (p : LabelPair) → is_none l ≡ false → Some p ≡ find (λ q. same_label l q.jani) ps → Some p.prism ≡ first_of (candidates ps l)
first_found ps l p h e = ap action_in e ∙ sym (first_is ps l h)

pub first_missing : (ps : List LabelPair) (l : Option Name) → is_none l ≡ false → None ≡ find (λ q. same_label l q.jani) ps → None ≡ first_of (candidates ps l)
first_missing ps l h e = ap action_in e ∙ sym (first_is ps l h)
