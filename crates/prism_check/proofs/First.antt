-- Tables in which the first element of each name counts.
use Rattle.std.specs.Prelude.{ℕ, ◌<◌, ◌+◌, List, ◌∷◌, map, length, drop, Bool, true, false, Option, Some, None, is_some, bytes_eq, if◌then◌else◌}
use Rattle.std.specs.List.{find}
use Rattle.std.specs.Option.{option_or}
use Rattle.std.proofs.Common.{◌≡◌, refl, sym, ap, ◌∙◌, get_or}
use Rattle.std.proofs.lemmas.List.{at_drop_more}
use Rattle.process_core.specs.Ready.{Name}
use Rattle.name_rules.specs.Names.{put_first}
use Rattle.name_rules.proofs.Maps.{at}

-- the elements, by name, and what the table's entries and those of the list stand for
module _ {A B X Y : Type 0} (view : A → B) (named : B → Name) (seen : Option X → Option Y) (found : Option B → Option Y)
    (none : seen None ≡ None) (some : (z : X) → is_some (seen (Some z)) ≡ true) where
  abbrev first_in : List A → Name → Option Y
  first_in xs q = found (find (λ b. bytes_eq (named b) q) (map view xs))

  keeps : (o r : Option Y) → is_some o ≡ true → o ≡ option_or o r
  keeps None r h = cc
  keeps (Some y) r h = refl

  stays : (o r s : Option Y) → is_some o ≡ true → option_or o r ≡ option_or o s
  stays None r s h = cc
  stays (Some y) r s h = refl

  step : (o : Option X) (t : Bool) (x : X) (b : B) (r : Option B) → seen (Some x) ≡ found (Some b) →
      option_or (seen (option_or o (if t then Some x else None))) (found r) ≡ option_or (seen o) (found (if t then Some b else r))
  step (Some z) t x b r h = stays (seen (Some z)) (found r) (found (if t then Some b else r)) (some z)
  step None true x b r h =
      sym (keeps (seen (Some x)) (found r) (some x)) ∙ h ∙ sym (ap (λ o. option_or o (found (Some b))) none)
  step None false x b r h = refl

  -- one element more
  pub first_more : (old new : Name → Option X) (q name : Name) (x : X) (xs : List A) (i : ℕ) (a : A) → i < length xs → a ≡ get_or xs i a →
      name ≡ named (view a) → seen (Some x) ≡ found (Some (view a)) → new ≡ put_first old name x →
      option_or (seen (old q)) (first_in (drop i xs) q) ≡ first_in xs q → option_or (seen (new q)) (first_in (drop (i + 1) xs) q) ≡ first_in xs q
  first_more old new q name x xs i a h is same gives e so_far =
      let rest = drop (i + 1) xs in
      ap (λ o. option_or (seen o) (first_in rest q)) (at e q)
      ∙ ap (λ n. option_or (seen (option_or (old q) (if bytes_eq n q then Some x else None))) (first_in rest q)) same
      ∙ step (old q) (bytes_eq (named (view a)) q) x (view a) (find (λ b. bytes_eq (named b) q) (map view rest)) gives
      ∙ sym (at_drop_more (λ ys. option_or (seen (old q)) (first_in ys q)) xs i a h
      ∙ ap (λ y. option_or (seen (old q)) (first_in (y ∷ rest) q)) (sym is))
      ∙ so_far
