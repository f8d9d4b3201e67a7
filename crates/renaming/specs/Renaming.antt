-- Names that go over one to one: what holds of the new names of all that asks for one (this project's own rule).
use Rattle.std.specs.Prelude.{◌≡◌, ◌≢◌, ℕ, List, map, length, take, Some, slice_get}
use Rattle.process_core.specs.Ready.{Name}
use Rattle.name_table.specs.declared.class.Target.{Target}
use Rattle.name_table.specs.declared.entry.Entry.{Entry}
use Rattle.name_table.specs.Rule.{space}
use Rattle.name_table.specs.Entries.{Ask, next, entries_of}

-- the new names, in order
abbrev pub names_of : List Entry → List Name
names_of es = map (λ e. e.name) es

-- The entries go with the asks one to one. Each ask has its entry, in order, which has the old name wherever that may be kept: where it is valid
-- in the target and of no made form, and no entry before it in the same space has it; else a name that is made of its class and its number. No
-- two entries, at different places, of one space have one name. So what had different names in one space has different ones again.
pub record IsOneToOne (t : Target) (asks : List Ask) (entries : List Entry) : Type 0 where
  pub each : length entries ≡ length asks
  pub named : (i : ℕ) (a : Ask) (e : Entry) → slice_get asks i ≡ Some a → slice_get entries i ≡ Some e → e ≡ next t (take i entries) a.0 a.1
  pub different : (i j : ℕ) (e f : Entry) → slice_get entries i ≡ Some e → slice_get entries j ≡ Some f → i ≢ j → space t e.class ≡ space t f.class →
      e.name ≢ f.name

-- So it is with the entries of any asks.
abbrev pub EntriesAreOneToOne : Type 0
EntriesAreOneToOne = (t : Target) (asks : List Ask) → IsOneToOne t asks (entries_of t asks)
