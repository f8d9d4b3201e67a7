-- Made names begin with zz_, and those of different classes or of different numbers are different.
use Rattle.std.proofs.Common.{◌≡◌, ℕ, true, List, [], ◌∷◌, refl, sym, ap, ◌∙◌}
use Rattle.std.specs.Prelude.{◌==◌, if◌then◌else◌}
use Rattle.name_table.specs.declared.class.NameClass.{NameClass}
use Rattle.name_table.specs.declared.class.NameClass.TheVariants.{Constant, Variable, Location, Module, Action, Label, Reward, Property}
use Rattle.frac_core.specs.Text.{digits}
use Rattle.name_table.specs.Rule.{begins_zz, made_name}
use Rattle.name_table.proofs.Digits.{digits_differ}

-- what holds of each class
pub each_class : (P : NameClass → Type 0) → P Constant → P Variable → P Location → P Module → P Action → P Label → P Reward → P Property → (c : NameClass) → P c
each_class P c v o m a l r p Constant = c
each_class P c v o m a l r p Variable = v
each_class P c v o m a l r p Location = o
each_class P c v o m a l r p Module = m
each_class P c v o m a l r p Action = a
each_class P c v o m a l r p Label = l
each_class P c v o m a l r p Reward = r
each_class P c v o m a l r p Property = p

pub made_begins : (c : NameClass) (n : ℕ) → begins_zz (made_name c n) ≡ true
made_begins c n = each_class (λ d. begins_zz (made_name d n) ≡ true) refl refl refl refl refl refl refl refl c

-- the class of a made name, by its fourth byte and its fifth
abbrev class_at : ℕ → ℕ → NameClass
class_at l u =
    if l == 99 then Constant else if l == 118 then Variable else if l == 109 then Module else if l == 97 then Action
    else if l == 114 then Reward else if l == 112 then Property else if u == 95 then Label else Location

abbrev class_in : List ℕ → NameClass
class_in (a ∷ b ∷ z ∷ l ∷ u ∷ r) = class_at l u
class_in _ = Location

class_made : (c : NameClass) (n : ℕ) → class_in (made_name c n) ≡ c
class_made c n = each_class (λ d. class_in (made_name d n) ≡ d) refl refl refl refl refl refl refl refl c

-- what stands behind zz_, the letter and _, or behind zz_loc_
abbrev behind_two : List ℕ → List ℕ
behind_two (a ∷ b ∷ r) = r
behind_two _ = []

abbrev digits_at : ℕ → List ℕ → List ℕ
digits_at u r = if u == 95 then r else behind_two r

abbrev digits_in : List ℕ → List ℕ
digits_in (a ∷ b ∷ z ∷ l ∷ u ∷ r) = digits_at u r
digits_in _ = []

digits_made : (c : NameClass) (n : ℕ) → digits_in (made_name c n) ≡ digits n
digits_made c n = each_class (λ d. digits_in (made_name d n) ≡ digits n) refl refl refl refl refl refl refl refl c

pub made_class : (c d : NameClass) (m n : ℕ) → made_name c m ≡ made_name d n → c ≡ d
made_class c d m n e = sym (class_made c m) ∙ ap class_in e ∙ class_made d n

pub made_number : (c d : NameClass) (m n : ℕ) → made_name c m ≡ made_name d n → m ≡ n
made_number c d m n e = digits_differ m n (sym (digits_made c m) ∙ ap digits_in e ∙ digits_made d n)
