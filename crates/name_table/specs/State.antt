-- What the code asks of a token, and what the fields of a table are.
use Rattle.std.specs.Prelude.{◌≡◌, ℕ, Bool, true, false, ◌&&◌, nat_eq, List, slice_index}
use Rattle.std.specs.BTreeSet.{contains_text}
use Rattle.prism_lex.specs.declared.token.Token.{Token}
use Rattle.prism_lex.specs.declared.token.TokenKind.{TokenKind}
use Rattle.prism_lex.specs.declared.token.TokenKind.TheVariants.{Word, Ident, Quoted, Number, Symbol, End}
use Rattle.name_table.specs.declared.class.NameClass.{NameClass}
use Rattle.name_table.specs.declared.class.Target.{Target}
use Rattle.name_table.specs.declared.class.Space.{Space}
use Rattle.name_table.specs.declared.class.Space.TheVariants.{Values, Modules, Actions, Labels, Rewards, Properties}
use Rattle.name_table.specs.declared.entry.Entry.{Entry}
use Rattle.name_table.specs.declared.counts.Counts.{Counts}
use Rattle.name_table.specs.declared.taken.Taken.{Taken}
use Rattle.name_table.specs.Rule.{class_number}
use Rattle.name_table.specs.Entries.{count_of, is_taken, entries_of, asks_of}

abbrev pub is_ident : TokenKind → Bool
is_ident Ident = true
is_ident (Word _) = false
is_ident Quoted = false
is_ident (Number _) = false
is_ident (Symbol _) = false
is_ident End = false

-- the token is an identifier and all of a text of this length
abbrev pub is_whole : Token → ℕ → Bool
is_whole t len = is_ident t.kind && (nat_eq t.at 0 && nat_eq t.end len)

-- whether a name of the space is this one
abbrev pub has_name : Taken → Space → List ℕ → Bool
has_name t Values x = contains_text t.values x
has_name t Modules x = contains_text t.modules x
has_name t Actions x = contains_text t.actions x
has_name t Labels x = contains_text t.labels x
has_name t Rewards x = contains_text t.rewards x
has_name t Properties x = contains_text t.properties x

-- how many there are of the class
abbrev pub count_in : Counts → NameClass → ℕ
count_in n c = slice_index n.by_class (class_number c)

-- The entries are those of some asks, the taken names are theirs, and they are counted by their classes.
pub record IsTable (t : Target) (es : List Entry) (taken : Taken) (counts : Counts) : Type 0 where
  pub made : entries_of t (asks_of es) ≡ es
  pub names : (s : Space) (x : List ℕ) → has_name taken s x ≡ is_taken t es s x
  pub numbers : (c : NameClass) → count_in counts c ≡ count_of c es
