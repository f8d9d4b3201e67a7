-- The faults of a name that stands twice, by the lowest offset of those before it.
use Rattle.std.specs.Prelude.{ℕ, ◌<◌, ◌≤◌, ◌+◌, List, [], ◌∷◌, ◌++◌, map, length, take, drop, reverse, Bool, true, false, Option, Some, None, max, min, bytes_eq, if◌then◌else◌}
use Rattle.std.specs.List.{flat_map}
use Rattle.std.proofs.Common.{◌≡◌, refl, sym, ap, ◌∙◌, arith, get_or}
use Rattle.std.proofs.lemmas.Slice.Eq.{bytes_eq-Decides}
use Rattle.std.proofs.lemmas.List.{at_drop_more, at_drop_all, take_more, map-append, reverse-append}
use Rattle.std.proofs.lemmas.List.Concat.{flat_map-append}
use Rattle.bridge_io.specs.declared.reason.Named.{Named}
use Rattle.bridge_io.specs.declared.reason.Reason.{Reason}
use Rattle.bridge_io.specs.declared.reason.Fault.{Fault}
use Rattle.name_rules.specs.Least.{fault, sooner, soonest}
use Rattle.name_rules.proofs.Soonest.{soonest_append, sooner_twice}
use Rattle.name_rules.specs.declared.names.Entry.{Entry}
use Rattle.name_rules.specs.Doubled.{clash, doubled_after, lower, by_lowest, lowest_of}
use Rattle.name_rules.specs.Names.{named_by}

step_found : (reason : Reason) (n m : Named) (best : Option Fault) (low : Option ℕ) →
    by_lowest reason (sooner best (fault (max m.at n.at) reason)) low n.at ≡ by_lowest reason best (Some (lower low m.at)) n.at
step_found reason n m best None = let h : max m.at n.at ≡ max n.at m.at = omega arith in ap (λ k. sooner best (fault k reason)) h
step_found reason n m best (Some l) =
    let h : min (max n.at l) (max m.at n.at) ≡ max n.at (min m.at l) = omega arith in
    sooner_twice best (max m.at n.at) (max n.at l) reason ∙ ap (λ k. sooner best (fault k reason)) h

pub clashes_by_lowest : (reason : Reason) (n : Named) (earlier : List Named) (best : Option Fault) →
    soonest best (flat_map (clash reason n) earlier) ≡ by_lowest reason best (lowest_of n.name earlier) n.at
clashes_by_lowest reason n [] best = refl
clashes_by_lowest reason n (m ∷ ms) best = by_test (bytes_eq m.name n.name) (clashes_by_lowest reason n ms)
  where
    by_test : (b : Bool) → ((o : Option Fault) → soonest o (flat_map (clash reason n) ms) ≡ by_lowest reason o (lowest_of n.name ms) n.at) →
        soonest best ((if b then fault (max m.at n.at) reason ∷ [] else []) ++ flat_map (clash reason n) ms)
        ≡ by_lowest reason best (if b then Some (lower (lowest_of n.name ms) m.at) else lowest_of n.name ms) n.at
    by_test true ih = ih (sooner best (fault (max m.at n.at) reason)) ∙ step_found reason n m best (lowest_of n.name ms)
    by_test false ih = ih best

-- what is read past the end of a list
abbrev pub no_entry : Entry
no_entry = record { name = record { ref_ptr = (0, 0); now = [] }; at = 0 }

-- what is left while a list is judged behind others: a table that has the lowest offsets of some names of it, and the names
-- after them
pub record Left (reason : Reason) (others : List Named) (lowest : List ℕ → Option ℕ) (best : Option Fault) (rest : List Named) (whole : Option Fault) : Type 0 where
  pub earlier : List Named
  pub table : (q : List ℕ) → lowest q ≡ lowest_of q earlier
  pub found : soonest best (doubled_after reason (earlier ++ others) rest) ≡ whole

pub none_yet : (reason : Reason) (others : List Named) (lowest : List ℕ → Option ℕ) (best : Option Fault) (rest : List Named) →
    ((q : List ℕ) → lowest q ≡ lowest_of q []) → Left reason others lowest best rest (soonest best (doubled_after reason others rest))
none_yet reason others lowest best rest h = record { earlier = []; table = h; found = refl }

noted : (lowest new : List ℕ → Option ℕ) (earlier : List Named) (n : Named) (q : List ℕ) → ((q : List ℕ) → lowest q ≡ lowest_of q earlier) →
    new q ≡ (if bytes_eq n.name q then Some (lower (lowest n.name) n.at) else lowest q) → new q ≡ lowest_of q (n ∷ earlier)
noted lowest new earlier n q table e = e ∙ by_test (bytes_eq n.name q) refl
  where
    by_test : (b : Bool) → bytes_eq n.name q ≡ b → (if b then Some (lower (lowest n.name) n.at) else lowest q)
        ≡ (if b then Some (lower (lowest_of q earlier) n.at) else lowest_of q earlier)
    by_test true t = ap (λ o. Some (lower o n.at)) (table n.name ∙ ap (λ x. lowest_of x earlier) ((bytes_eq-Decides n.name q).0 t))
    by_test false t = table q

-- a name judged by both tables
both_judged : (reason : Reason) (n : Named) (earlier others : List Named) (best : Option Fault) →
    soonest best (flat_map (clash reason n) (earlier ++ others))
    ≡ by_lowest reason (by_lowest reason best (lowest_of n.name earlier) n.at) (lowest_of n.name others) n.at
both_judged reason n earlier others best =
    ap (soonest best) (flat_map-append (clash reason n) earlier others)
    ∙ soonest_append best (flat_map (clash reason n) earlier) (flat_map (clash reason n) others)
    ∙ ap (λ o. soonest o (flat_map (clash reason n) others)) (clashes_by_lowest reason n earlier best)
    ∙ clashes_by_lowest reason n others (by_lowest reason best (lowest_of n.name earlier) n.at)

pub one_more : (reason : Reason) (others : List Named) (lowest new before : List ℕ → Option ℕ) (best among next whole : Option Fault) (es : List Entry) (i : ℕ) → i < length es →
    ((q : List ℕ) → before q ≡ lowest_of q others) →
    among ≡ by_lowest reason best (lowest (get_or es i no_entry).name.now) (get_or es i no_entry).at →
    next ≡ by_lowest reason among (before (get_or es i no_entry).name.now) (get_or es i no_entry).at →
    ((q : List ℕ) → new q ≡ (if bytes_eq (get_or es i no_entry).name.now q then Some (lower (lowest (get_or es i no_entry).name.now) (get_or es i no_entry).at) else lowest q)) →
    Left reason others lowest best (map named_by (drop i es)) whole → Left reason others new next (map named_by (drop (i + 1) es)) whole
one_more reason others lowest new before best among next whole es i h known first judged noting left =
    let e = get_or es i no_entry in
    record {
      earlier = named_by e ∷ left.earlier;
      table = λ q. noted lowest new left.earlier (named_by e) q left.table (noting q);
      found =
          let rest = doubled_after reason (named_by e ∷ left.earlier ++ others) (map named_by (drop (i + 1) es)) in
          ap (λ b. soonest b rest)
          (judged
          ∙ ap (λ o. by_lowest reason among o e.at) (known e.name.now)
          ∙ ap (λ o. by_lowest reason o (lowest_of e.name.now others) e.at) (first ∙ ap (λ o. by_lowest reason best o e.at) (left.table e.name.now))
          ∙ sym (both_judged reason (named_by e) left.earlier others best))
          ∙ sym (soonest_append best (flat_map (clash reason (named_by e)) (left.earlier ++ others)) rest)
          ∙ sym (at_drop_more (λ ys. soonest best (doubled_after reason (left.earlier ++ others) (map named_by ys))) es i no_entry h)
          ∙ left.found;
    }

pub no_more : (reason : Reason) (others : List Named) (lowest : List ℕ → Option ℕ) (best whole : Option Fault) (es : List Entry) (i : ℕ) → length es ≤ i →
    Left reason others lowest best (map named_by (drop i es)) whole → best ≡ whole
no_more reason others lowest best whole es i h left =
    sym (at_drop_all (λ ys. soonest best (doubled_after reason (left.earlier ++ others) (map named_by ys))) es i h) ∙ left.found

-- ---- the lowest offsets of a whole list
abbrev pub lower_of : Option ℕ → Option ℕ → Option ℕ
lower_of None o = o
lower_of (Some n) o = Some (lower o n)

one_lower : (b : Bool) (old : Option ℕ) (rest : Option ℕ) (at : ℕ) →
    lower_of (if b then Some (lower old at) else old) rest ≡ lower_of old (if b then Some (lower rest at) else rest)
one_lower true None rest at = refl
one_lower true (Some n) None at = ap Some (omega arith)
one_lower true (Some n) (Some m) at = ap Some (omega arith)
one_lower false old rest at = refl

pub one_noted : (old new : List ℕ → Option ℕ) (q : List ℕ) (es : List Entry) (i : ℕ) → i < length es →
    new q ≡ (if bytes_eq (get_or es i no_entry).name.now q then Some (lower (old (get_or es i no_entry).name.now) (get_or es i no_entry).at) else old q) →
    lower_of (old q) (lowest_of q (map named_by (drop i es))) ≡ lowest_of q (map named_by es) →
    lower_of (new q) (lowest_of q (map named_by (drop (i + 1) es))) ≡ lowest_of q (map named_by es)
one_noted old new q es i h added so_far =
    let e = get_or es i no_entry in
    let rest = lowest_of q (map named_by (drop (i + 1) es)) in
    ap (λ o. lower_of o rest) (added ∙ same (bytes_eq e.name.now q) refl)
    ∙ one_lower (bytes_eq e.name.now q) (old q) rest e.at
    ∙ sym (at_drop_more (λ ys. lower_of (old q) (lowest_of q (map named_by ys))) es i no_entry h)
    ∙ so_far
  where
    same : (b : Bool) → bytes_eq (get_or es i no_entry).name.now q ≡ b →
        (if b then Some (lower (old (get_or es i no_entry).name.now) (get_or es i no_entry).at) else old q) ≡ (if b then Some (lower (old q) (get_or es i no_entry).at) else old q)
    same true t = ap (λ x. Some (lower (old x) (get_or es i no_entry).at)) ((bytes_eq-Decides (get_or es i no_entry).name.now q).0 t)
    same false t = refl

none_lower : (o : Option ℕ) → o ≡ lower_of o None
none_lower None = refl
none_lower (Some n) = refl

pub all_noted : (old : List ℕ → Option ℕ) (q : List ℕ) (es : List Entry) (i : ℕ) → length es ≤ i →
    lower_of (old q) (lowest_of q (map named_by (drop i es))) ≡ lowest_of q (map named_by es) → old q ≡ lowest_of q (map named_by es)
all_noted old q es i h so_far =
    none_lower (old q) ∙ sym (at_drop_all (λ ys. lower_of (old q) (lowest_of q (map named_by ys))) es i h) ∙ so_far

-- ---- few names, which are compared with those before them, the last of these first
pub before_more : (es : List Entry) (i : ℕ) → i < length es →
    reverse (map named_by (take (i + 1) es)) ≡ named_by (get_or es i no_entry) ∷ reverse (map named_by (take i es))
before_more es i h =
    ap (λ xs. reverse (map named_by xs)) (take_more es i no_entry h)
    ∙ ap reverse (map-append named_by (take i es) (get_or es i no_entry ∷ []))
    ∙ reverse-append (map named_by (take i es)) (named_by (get_or es i no_entry) ∷ [])

pub few_more : (reason : Reason) (best next whole : Option Fault) (es : List Entry) (i : ℕ) → i < length es →
    next ≡ by_lowest reason best (lowest_of (get_or es i no_entry).name.now (reverse (map named_by (take i es)))) (get_or es i no_entry).at →
    soonest best (doubled_after reason (reverse (map named_by (take i es))) (map named_by (drop i es))) ≡ whole →
    soonest next (doubled_after reason (reverse (map named_by (take (i + 1) es))) (map named_by (drop (i + 1) es))) ≡ whole
few_more reason best next whole es i h judged so_far =
    let n = named_by (get_or es i no_entry) in
    let earlier = reverse (map named_by (take i es)) in
    let rest = map named_by (drop (i + 1) es) in
    let after = doubled_after reason (n ∷ earlier) rest in
    ap (λ ms. soonest next (doubled_after reason ms rest)) (before_more es i h)
    ∙ ap (λ b. soonest b after) (judged ∙ sym (clashes_by_lowest reason n earlier best))
    ∙ sym (soonest_append best (flat_map (clash reason n) earlier) after)
    ∙ sym (at_drop_more (λ ys. soonest best (doubled_after reason earlier (map named_by ys))) es i no_entry h)
    ∙ so_far

pub few_all : (reason : Reason) (best whole : Option Fault) (es : List Entry) (i : ℕ) → length es ≤ i →
    soonest best (doubled_after reason (reverse (map named_by (take i es))) (map named_by (drop i es))) ≡ whole → best ≡ whole
few_all reason best whole es i h so_far =
    sym (at_drop_all (λ ys. soonest best (doubled_after reason (reverse (map named_by (take i es))) (map named_by ys))) es i h) ∙ so_far
