-- Which names are valid, which names are made, and in which spaces names differ. (This project's own rule; what an
-- identifier is: PRISM manual, "The PRISM Language", "Identifiers".)
use Rattle.std.specs.Prelude.{ℕ, ◌+◌, nat_eq, nat_lt, nat_le, Bool, true, false, not, ◌&&◌, ◌||◌, is_none, bytes_eq, List, [], ◌++◌, length, codes, if◌then◌else◌}
use Rattle.std.specs.List.{starts_with}
use Rattle.frac_core.specs.Text.{digits}
use Rattle.prism_lex.specs.Tokens.{is_name}
use Rattle.prism_lex.specs.Words.{lookup, words}
use Rattle.name_table.specs.declared.class.NameClass.{NameClass}
use Rattle.name_table.specs.declared.class.NameClass.TheVariants.{Constant, Variable, Location, Module, Action, Label, Reward, Property}
use Rattle.name_table.specs.declared.class.Target.{Target}
use Rattle.name_table.specs.declared.class.Target.TheVariants.{Prism, Jani}
use Rattle.name_table.specs.declared.class.Space.{Space}
use Rattle.name_table.specs.declared.class.Space.TheVariants.{Values, Modules, Actions, Labels, Rewards, Properties}

-- ---- classes and spaces

-- a class's place among the classes
abbrev pub class_number : NameClass → ℕ
class_number Constant = 0
class_number Variable = 1
class_number Location = 2
class_number Module = 3
class_number Action = 4
class_number Label = 5
class_number Reward = 6
class_number Property = 7

abbrev pub same_class : NameClass → NameClass → Bool
same_class c d = nat_eq (class_number c) (class_number d)

-- the space of labels and that of rewards
abbrev pub label_space : Target → Space
label_space Prism = Labels
label_space Jani = Values

abbrev pub reward_space : Target → Space
reward_space Prism = Rewards
reward_space Jani = Values

-- the space in which a name of this class differs from all others
abbrev pub space : Target → NameClass → Space
space t Constant = Values
space t Variable = Values
space t Location = Values
space t Module = Modules
space t Action = Actions
space t Label = label_space t
space t Reward = reward_space t
space t Property = Properties

-- a space's place among the spaces
abbrev pub space_number : Space → ℕ
space_number Values = 0
space_number Modules = 1
space_number Actions = 2
space_number Labels = 3
space_number Rewards = 4
space_number Properties = 5

abbrev pub same_space : Space → Space → Bool
same_space s r = nat_eq (space_number s) (space_number r)

-- ---- valid names

-- an identifier of PRISM, which is no reserved word, of at most 255 bytes
abbrev pub is_identifier : List ℕ → Bool
is_identifier x = is_name x && (is_none (lookup x words) && nat_le (length x) 255)

-- the labels that every model has
abbrev pub is_given_label : List ℕ → Bool
is_given_label x = bytes_eq x (codes "init") || bytes_eq x (codes "deadlock")

abbrev pub may_be_called : NameClass → List ℕ → Bool
may_be_called Label x = not (is_given_label x)
may_be_called Constant x = true
may_be_called Variable x = true
may_be_called Location x = true
may_be_called Module x = true
may_be_called Action x = true
may_be_called Reward x = true
may_be_called Property x = true

-- the name is valid for the class: in PRISM an identifier, for a label none that every model has; in JANI any but the
-- empty one
abbrev pub is_valid : Target → NameClass → List ℕ → Bool
is_valid Prism c x = is_identifier x && may_be_called c x
is_valid Jani c x = nat_lt 0 (length x)

-- ---- made names

-- a name of the form of those that are made
abbrev pub begins_zz : List ℕ → Bool
begins_zz x = starts_with nat_eq x (codes "zz_")

-- what a made name of the class begins with
abbrev pub prefix : NameClass → List ℕ
prefix Constant = codes "zz_c_"
prefix Variable = codes "zz_v_"
prefix Location = codes "zz_loc_"
prefix Module = codes "zz_m_"
prefix Action = codes "zz_a_"
prefix Label = codes "zz_l_"
prefix Reward = codes "zz_r_"
prefix Property = codes "zz_p_"

-- the name that is made for the entry of this number among those of its class
abbrev pub made_name : NameClass → ℕ → List ℕ
made_name c n = prefix c ++ digits n

-- a location is never called by its old name
abbrev pub may_keep : NameClass → Bool
may_keep Location = false
may_keep Constant = true
may_keep Variable = true
may_keep Module = true
may_keep Action = true
may_keep Label = true
may_keep Reward = true
may_keep Property = true
