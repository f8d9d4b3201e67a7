-- Expressions whose names are replaced by others, and then by bodies.
use Rattle.std.proofs.Common.{◌≡◌, ℕ, zero, suc, refl, ap, ap₂, ◌∙◌, List, Option, Some, None}
use Rattle.std.specs.Option.{option_map}
use Rattle.op_trees.specs.Tree.{Tree, Truth, Number, Name, One, Two, Three, replaced, substituted, written_out, renamed}

module _ {O : Type 0} (new : List ℕ → List ℕ) where
  -- the body of a new name is that of the old one, with new names
  abbrev pub HasBodyOf : (List ℕ → Option (Tree O)) → (List ℕ → Option (Tree O)) → List ℕ → Type 0
  HasBodyOf bodies olds x = bodies (new x) ≡ option_map (renamed new) (olds x)

  pub replaced_renamed : (at : ℕ) (x : List ℕ) (o : Option (Tree O)) → replaced (Name at (new x)) (option_map (renamed new) o) ≡ renamed new (replaced (Name at x) o)
  replaced_renamed at x None = refl
  replaced_renamed at x (Some b) = refl

  pub substituted-renamed : (bodies olds : List ℕ → Option (Tree O)) → ((x : List ℕ) → HasBodyOf bodies olds x) → (t : Tree O) →
      substituted bodies (renamed new t) ≡ renamed new (substituted olds t)
  substituted-renamed bodies olds h (Truth at b) = refl
  substituted-renamed bodies olds h (Number at d) = refl
  substituted-renamed bodies olds h (Name at x) = ap (replaced (Name at (new x))) (h x) ∙ replaced_renamed at x (olds x)
  substituted-renamed bodies olds h (One at o a) = ap (One at o) (substituted-renamed bodies olds h a)
  substituted-renamed bodies olds h (Two at o a b) = ap₂ (Two at o) (substituted-renamed bodies olds h a) (substituted-renamed bodies olds h b)
  substituted-renamed bodies olds h (Three at o a b c) =
      ap₂ {B = Tree O → Tree O} (λ r g. g r) (substituted-renamed bodies olds h a)
      (ap₂ (λ s t r. Three at o r s t) (substituted-renamed bodies olds h b) (substituted-renamed bodies olds h c))

  written_body : (bodies olds : List ℕ → Option (Tree O)) (n : ℕ) → ((t : Tree O) → written_out bodies n (renamed new t) ≡ renamed new (written_out olds n t)) →
      (o : Option (Tree O)) → option_map (written_out bodies n) (option_map (renamed new) o) ≡ option_map (renamed new) (option_map (written_out olds n) o)
  written_body bodies olds n h None = refl
  written_body bodies olds n h (Some b) = ap Some (h b)

  pub written_out-renamed : (bodies olds : List ℕ → Option (Tree O)) → ((x : List ℕ) → HasBodyOf bodies olds x) → (n : ℕ) (t : Tree O) →
      written_out bodies n (renamed new t) ≡ renamed new (written_out olds n t)
  written_out-renamed bodies olds h zero t = refl
  written_out-renamed bodies olds h (suc n) t =
      substituted-renamed (λ x. option_map (written_out bodies n) (bodies x)) (λ x. option_map (written_out olds n) (olds x))
      (λ x. ap (option_map (written_out bodies n)) (h x) ∙ written_body bodies olds n (written_out-renamed bodies olds h n) (olds x)) t
