-- That the names of files that are read are short: a longer name is a fault of tokens, or of shape; and that labels are texts, as all that
-- stands in JSON (RFC 8259, section 8.1).
use Rattle.std.specs.Prelude.{◌≡◌, ℕ, true, List, []}
use Rattle.std.specs.List.{AllByRecursion as Each}
use Rattle.std.specs.Str.{is_utf8}
use Rattle.basics.specs.Options.{IfAny}
use Rattle.decimal_json.specs.declared.tree.Json.{Json}
use Rattle.decimal_json.specs.Lang.{Mark}
use Rattle.decimal_json.specs.Faults.{IsJson}
use Rattle.prism_tree.specs.Syntax.{File}
use Rattle.prism_tree.specs.Faults.{Spells, SyntaxFaults}
use Rattle.jani_table.specs.declared.table.Form.TheVariants as F
use Rattle.jani_table.specs.Node.{node}
use Rattle.jani_table.specs.Faults.{faults as shape_faults}
use Rattle.jani_tree.specs.Syntax as jani
use Rattle.jani_tree.specs.Jani.{IsFile}
use Rattle.jani_tree.specs.Form.{FileShort}
use Rattle.prop_grammar.specs.Syntax.{WrittenProperty}
use Rattle.prop_grammar.specs.Faults as properties
use Rattle.short_names.specs.ShortNames.{ShortNamed, HasShortNames}

-- Each PRISM file that bytes without fault spell has short names.
abbrev pub PrismNamesAreShort : Type 0
PrismNamesAreShort = (bytes : List ℕ) (f : File) → SyntaxFaults bytes [] → Spells bytes f → HasShortNames f

-- Each JANI file that a JSON text without fault of shape spells has short names, none of them empty; its literals are in normal form.
abbrev pub JaniNamesAreShort : Type 0
JaniNamesAreShort = (bytes : List ℕ) (value : Json) (tokens : List Mark) (f : jani.File) → IsJson bytes value tokens → shape_faults F.Model (node value) ≡ [] → IsFile (node value) f → FileShort f

-- the result of a synchronisation vector, if it has one, is UTF-8
abbrev pub HasTextLabel : jani.Vector → Type 0
HasTextLabel v = IfAny (λ n. is_utf8 n.name ≡ true) v.result

-- So it is of each vector of each JANI file that a JSON text spells: these are the labels of its choices.
abbrev pub JaniLabelsAreTexts : Type 0
JaniLabelsAreTexts = (bytes : List ℕ) (value : Json) (tokens : List Mark) (f : jani.File) → IsJson bytes value tokens → IsFile (node value) f → Each HasTextLabel f.vectors

-- a property's name, if it has one, is short
abbrev pub HasShortTitle : WrittenProperty → Type 0
HasShortTitle p = IfAny ShortNamed p.name

-- Each property that bytes without fault spell as a PRISM properties file has a short name, if any.
abbrev pub PropertyNamesAreShort : Type 0
PropertyNamesAreShort = (bytes : List ℕ) (ps : List WrittenProperty) → properties.SyntaxFaults bytes [] → properties.Spells bytes ps → Each HasShortTitle ps
