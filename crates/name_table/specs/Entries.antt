-- The entries of a translation, made one after another (this project's own rule).
use Rattle.std.specs.Prelude.{ℕ, Bool, true, false, not, ◌&&◌, bytes_eq, count_by, List, [], ◌∷◌, ◌++◌, map, Option, Some, None, if◌then◌else◌}
use Rattle.std.specs.List.{list_any}
use Rattle.name_table.specs.declared.class.NameClass.{NameClass}
use Rattle.name_table.specs.declared.class.Target.{Target}
use Rattle.name_table.specs.declared.class.Space.{Space}
use Rattle.name_table.specs.declared.entry.Entry.{Entry}
use Rattle.name_table.specs.Rule.{same_class, same_space, space, is_valid, begins_zz, made_name, may_keep}

-- what an entry is made of: its class and its old name, if it has one
abbrev pub Ask : Type 0
Ask = NameClass × Option (List ℕ)

-- how many entries are of the class
abbrev pub count_of : NameClass → List Entry → ℕ
count_of c es = count_by (λ e. same_class e.class c) es

-- whether an entry of the space has this name
abbrev pub is_taken : Target → List Entry → Space → List ℕ → Bool
is_taken t es s x = list_any (λ e. same_space (space t e.class) s && bytes_eq x e.name) es

-- the old name is kept behind these entries
abbrev pub keeps : Target → List Entry → NameClass → List ℕ → Bool
keeps t es c x = may_keep c && (is_valid t c x && (not (begins_zz x) && not (is_taken t es (space t c) x)))

abbrev pub kept_entry : NameClass → List ℕ → Entry
kept_entry c x = record { class = c; name = x; kept = true }

abbrev pub made_entry : List Entry → NameClass → Entry
made_entry es c = record { class = c; name = made_name c (count_of c es); kept = false }

-- the entry that comes behind these
abbrev pub next : Target → List Entry → NameClass → Option (List ℕ) → Entry
next t es c None = made_entry es c
next t es c (Some x) = if keeps t es c x then kept_entry c x else made_entry es c

-- these entries, and those of the asks behind them
abbrev pub entries_after : Target → List Entry → List Ask → List Entry
entries_after t es [] = es
entries_after t es (a ∷ asks) = entries_after t (es ++ next t es a.0 a.1 ∷ []) asks

-- the entries of the asks
abbrev pub entries_of : Target → List Ask → List Entry
entries_of t asks = entries_after t [] asks

-- ---- a table

-- what a contract sees of a table
pub record Table : Type 0 where
  pub target : Target
  pub entries : List Entry

abbrev pub no_entries : Target → Table
no_entries t = record { target = t; entries = [] }

-- the table with the next entry
abbrev pub with_next : Table → NameClass → Option (List ℕ) → Table
with_next t c old = record { target = t.target; entries = t.entries ++ next t.target t.entries c old ∷ [] }

-- an ask that gives the entry: a made name needs no old one
abbrev pub ask_of : Entry → Ask
ask_of e = (e.class, if e.kept then Some e.name else None)

abbrev pub asks_of : List Entry → List Ask
asks_of es = map ask_of es
