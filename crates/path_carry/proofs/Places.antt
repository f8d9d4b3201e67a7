-- The places of the first pairs of names, one pair more; and pairs that are found by them.
use Rattle.std.proofs.Common.{◌≡◌, ℕ, zero, suc, ◌+◌, ◌<◌, ◌≤◌, ◌||◌, List, [], ◌∷◌, length, Bool, true, false, cond, Option, Some, None, is_some, if◌then◌else◌, bytes_eq, slice_get, get_or, drop, find, refl, sym, ap, ◌∙◌, subst, arith}
use Rattle.std.specs.List.{list_any}
use Rattle.std.specs.Borrow.{Bor}
use Rattle.std.specs.Option.{IfSome, option_or, option_copied}
use Rattle.std.proofs.lemmas.List.{drop_all}
use Rattle.basics.specs.Lists.{drop_item}
use Rattle.basics.specs.Texts.{bytes_eq_comm}
use Rattle.process_core.specs.Ready.{Name, same_label}
use Rattle.carry_maps.specs.declared.map.LabelPair.{LabelPair}
use Rattle.path_carry.specs.Index.{pair_at, is_of_action, is_of_label}

-- what is found among pairs is there where some pair passes
pub found_any : {X : Type 0} (q : X → Bool) (xs : List X) → is_some (find q xs) ≡ list_any q xs
found_any q [] = refl
found_any q (x ∷ xs) = by_test (q x) (found_any q xs)
  where
    by_test : (b : Bool) → is_some (find q xs) ≡ list_any q xs → is_some (cond b (Some x) (find q xs)) ≡ (b || list_any q xs)
    by_test true h = refl
    by_test false h = h

-- the same through references
pub told_any : {X : Type 0} (q : X → Bool) (xs : List X) (o : Option (Bor X)) → option_copied o ≡ find q xs → is_some o ≡ list_any q xs
told_any {X = X} q xs o e = by_option o ∙ ap is_some e ∙ found_any q xs
  where
    by_option : (o : Option (Bor X)) → is_some o ≡ is_some (option_copied o)
    by_option None = refl
    by_option (Some x) = refl

got_at : (ps : List LabelPair) (i : ℕ) (p : LabelPair) → i < length ps → p ≡ get_or ps i p → slice_get ps i ≡ Some p
got_at [] i p l e = absurd (let no : ⊥ = omega arith in no)
got_at (q ∷ ps) zero p l e = ap Some (sym e)
got_at (q ∷ ps) (suc i) p l e = got_at ps i p (omega arith) e

-- a place that is kept is one of a pair
kept : (ps : List LabelPair) (k : ℕ) (o r : Option LabelPair) → k < length ps → option_or (slice_get ps k) o ≡ option_or (slice_get ps k) r
kept [] k o r l = absurd (let no : ⊥ = omega arith in no)
kept (q ∷ ps) zero o r l = refl
kept (q ∷ ps) (suc k) o r l = kept ps k o r (omega arith)

module _ (q : LabelPair → Bool) (ps : List LabelPair) (i : ℕ) (p : LabelPair) (l : i < length ps) (is : p ≡ get_or ps i p) where
  from_here : find q (drop i ps) ≡ cond (q p) (Some p) (find q (drop (i + 1) ps))
  from_here = ap (find q) (drop_item ps i p l is)

  one_more : (old : Option ℕ) (b : Bool) → q p ≡ b → IfSome old (λ k. k < length ps) → option_or (pair_at ps old) (find q (drop i ps)) ≡ find q ps →
      option_or (pair_at ps (option_or old (if b then Some i else None))) (find q (drop (i + 1) ps)) ≡ find q ps
  one_more (Some k) b e below h = kept ps k (find q (drop (i + 1) ps)) (find q (drop i ps)) below ∙ h
  one_more None true e below h = ap (λ o. option_or o (find q (drop (i + 1) ps))) (got_at ps i p l is) ∙ sym (from_here ∙ ap (λ b. cond b (Some p) (find q (drop (i + 1) ps))) e) ∙ h
  one_more None false e below h = sym (from_here ∙ ap (λ b. cond b (Some p) (find q (drop (i + 1) ps))) e) ∙ h

  one_below : (old : Option ℕ) (b : Bool) → IfSome old (λ k. k < length ps) → IfSome (option_or old (if b then Some i else None)) (λ k. k < length ps)
  one_below (Some k) b below = below
  one_below None true below = l
  one_below None false below = tt

module _ (ps : List LabelPair) (i : ℕ) (p : LabelPair) (l : i < length ps) (is : p ≡ get_or ps i p) (name x : Name) (old new : Option ℕ)
    (puts : new ≡ option_or old (if bytes_eq name x then Some i else None)) (below : IfSome old (λ k. k < length ps)) where
  pub next_below : IfSome new (λ k. k < length ps)
  next_below = subst (λ o. IfSome o (λ k. k < length ps)) (sym puts) (one_below (λ y. true) ps i p l is old (bytes_eq name x) below)

  pub next_action : name ≡ p.prism → option_or (pair_at ps old) (find (is_of_action x) (drop i ps)) ≡ find (is_of_action x) ps → option_or (pair_at ps new) (find (is_of_action x) (drop (i + 1) ps)) ≡ find (is_of_action x) ps
  next_action e h =
      ap (λ o. option_or (pair_at ps o) (find (is_of_action x) (drop (i + 1) ps))) puts
      ∙ one_more (is_of_action x) ps i p l is old (bytes_eq name x) same below h
    where
      same : is_of_action x p ≡ bytes_eq name x
      same = ap (bytes_eq x) (sym e) ∙ bytes_eq_comm x name

  pub next_label : Some name ≡ p.jani → option_or (pair_at ps old) (find (is_of_label x) (drop i ps)) ≡ find (is_of_label x) ps → option_or (pair_at ps new) (find (is_of_label x) (drop (i + 1) ps)) ≡ find (is_of_label x) ps
  next_label e h =
      ap (λ o. option_or (pair_at ps o) (find (is_of_label x) (drop (i + 1) ps))) puts
      ∙ one_more (is_of_label x) ps i p l is old (bytes_eq name x) same below h
    where
      same : is_of_label x p ≡ bytes_eq name x
      same = ap (same_label (Some x)) (sym e) ∙ bytes_eq_comm x name

-- a pair without a label
pub no_label : (ps : List LabelPair) (i : ℕ) (p : LabelPair) → i < length ps → p ≡ get_or ps i p → None ≡ p.jani → (x : Name) (old : Option ℕ) → option_or (pair_at ps old) (find (is_of_label x) (drop i ps)) ≡ find (is_of_label x) ps →
    option_or (pair_at ps old) (find (is_of_label x) (drop (i + 1) ps)) ≡ find (is_of_label x) ps
no_label ps i p l is e x old h =
    ap (option_or (pair_at ps old)) (sym (from_here (is_of_label x) ps i p l is ∙ ap (λ b. cond b (Some p) (find (is_of_label x) (drop (i + 1) ps))) (ap (same_label (Some x)) (sym e)))) ∙ h

-- at the end
pub all_placed : (q : LabelPair → Bool) (ps : List LabelPair) (i : ℕ) (o : Option ℕ) → length ps ≤ i → option_or (pair_at ps o) (find q (drop i ps)) ≡ find q ps → pair_at ps o ≡ find q ps
all_placed q ps i o l h = or_none (pair_at ps o) ∙ ap (λ xs. option_or (pair_at ps o) (find q xs)) (sym (drop_all i ps l)) ∙ h
  where
    or_none : (o : Option LabelPair) → o ≡ option_or o None
    or_none None = refl
    or_none (Some y) = refl
