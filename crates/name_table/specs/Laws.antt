-- What holds of the names of entries.
use Rattle.std.specs.Prelude.{◌≡◌, ◌≢◌, ◌↔◌, ℕ, ◌≤◌, ◌<◌, ◌^◌, true, false, List, ◌++◌, length, take, Some, slice_get}
use Rattle.prism_lex.specs.declared.token.TokenKind.TheVariants.{Ident}
use Rattle.prism_lex.specs.Tokens.{IsKind}
use Rattle.name_table.specs.declared.class.NameClass.TheVariants.{Location}
use Rattle.name_table.specs.declared.class.Target.{Target}
use Rattle.name_table.specs.declared.entry.Entry.{Entry}
use Rattle.name_table.specs.Rule.{space, is_identifier, is_valid, begins_zz, made_name}
use Rattle.name_table.specs.Entries.{Ask, count_of, entries_of}

-- The entry stands at this place among those of the asks, and comes of this ask.
pub record ComesOf (t : Target) (asks : List Ask) (i : ℕ) (a : Ask) (e : Entry) : Type 0 where
  pub entry : slice_get (entries_of t asks) i ≡ Some e
  pub ask : slice_get asks i ≡ Some a

-- No two entries, at different places, of one space have one name.
abbrev pub NoTwoAlike : Type 0
NoTwoAlike = (t : Target) (asks : List Ask) (i j : ℕ) (e f : Entry) →
    slice_get (entries_of t asks) i ≡ Some e → slice_get (entries_of t asks) j ≡ Some f →
    i ≢ j → space t e.class ≡ space t f.class → e.name ≢ f.name

-- An entry has the class of its ask. It was kept exactly where its name is its old one and does not begin with zz_.
-- (An old name that begins with zz_ is never kept, but the name that is made may be that very one.)
abbrev pub KeptIsOld : Type 0
KeptIsOld = (t : Target) (asks : List Ask) (i : ℕ) (a : Ask) (e : Entry) → ComesOf t asks i a e →
    (e.class ≡ a.0) × ((e.kept ≡ true) ↔ ((a.1 ≡ Some e.name) × (begins_zz e.name ≡ false)))

-- The name of an entry that was not kept is made, of its class and its number among the entries of its class.
abbrev pub OthersAreMade : Type 0
OthersAreMade = (t : Target) (asks : List Ask) (i : ℕ) (e : Entry) →
    slice_get (entries_of t asks) i ≡ Some e → e.kept ≡ false →
    e.name ≡ made_name e.class (count_of e.class (take i (entries_of t asks)))

-- No name that was kept begins with zz_.
abbrev pub KeptIsNoMade : Type 0
KeptIsNoMade = (t : Target) (asks : List Ask) (i : ℕ) (e : Entry) →
    slice_get (entries_of t asks) i ≡ Some e → e.kept ≡ true → begins_zz e.name ≡ false

-- No location was kept.
abbrev pub LocationsAreMade : Type 0
LocationsAreMade = (t : Target) (asks : List Ask) (i : ℕ) (e : Entry) →
    slice_get (entries_of t asks) i ≡ Some e → e.class ≡ Location → e.kept ≡ false

-- Each name is valid in the target, where there are fewer than 2 ^ 64 entries.
abbrev pub AllAreValid : Type 0
AllAreValid = (t : Target) (asks : List Ask) (i : ℕ) (e : Entry) →
    length asks < 2 ^ 64 → slice_get (entries_of t asks) i ≡ Some e → is_valid t e.class e.name ≡ true

-- There are as many entries as asks.
abbrev pub OneEach : Type 0
OneEach = (t : Target) (asks : List Ask) → length (entries_of t asks) ≡ length asks

-- The entries of the first asks are the first entries: more asks behind them change nothing.
abbrev pub FirstAlone : Type 0
FirstAlone = (t : Target) (asks more : List Ask) → take (length asks) (entries_of t (asks ++ more)) ≡ entries_of t asks

-- An identifier is a token of PRISM of this kind, of at most 255 bytes.
abbrev pub IdentifierIsToken : Type 0
IdentifierIsToken = (x : List ℕ) → (is_identifier x ≡ true) ↔ (IsKind x Ident × (length x ≤ 255))
