-- What may follow in each state of the reader, as a language; and what a step and the end give.
use Rattle.std.specs.Prelude.{◌≡◌, ◌⊎◌, ℕ, suc, ◌+◌, ◌<◌, ◌≤◌, List, [], ◌∷◌, ◌++◌, reverse, Result, Ok, Err, length, take, Option, None, Some, IfSome, IsSomeAnd}
use Rattle.bridge_io.specs.declared.reason.Reason.{Reason}
use Rattle.decimal_json.specs.declared.tree.Json.{Json}
use Rattle.decimal_json.specs.declared.tree.Json.TheVariants.{Str, Array, Object}
use Rattle.decimal_json.specs.declared.tree.Member.{Member}
use Rattle.bridge_io.specs.declared.reason.Named.{Named}
use Rattle.decimal_json.specs.declared.brackets.Frame.{Frame}
use Rattle.decimal_json.specs.declared.brackets.Frame.TheVariants.{InArray, InObject}
use Rattle.decimal_json.specs.declared.machine.Mode.{Mode}
use Rattle.decimal_json.specs.declared.machine.Mode.TheVariants as modes
use Rattle.decimal_json.specs.declared.machine.State.{State}
use Rattle.decimal_json.specs.declared.machine.Stop.{Stop}
use Rattle.decimal_json.specs.declared.machine.Stop.TheVariants.{Memory, Here, At, TooFar}
use Rattle.decimal_json.specs.Lang.{Mark, Place, AllFine, Among, Lang, gives, here, note, ◌>>=◌, ◌>>◌, many_with, Turns, Barred, Stops, NoEmpty}
use Rattle.std.specs.Prelude.{Bool, true, false, ◌||◌, nat_eq, if◌then◌else◌}
use Rattle.decimal_json.specs.declared.number.Stage.{Stage}
use Rattle.decimal_json.specs.declared.number.Digits.{Digits}
use Rattle.decimal_json.specs.declared.chars.Within.{Within}
use Rattle.decimal_json.specs.Strings.{chars_rest}
use Rattle.frac_core.specs.Numeral.{worth, is_beyond}
use Rattle.decimal_json.specs.Number.{number_rest, number_mark, is_end, onward}
use Rattle.decimal_json.specs.declared.tree.Json.TheVariants.{Number}
use Rattle.decimal_json.specs.Grammar.{is_space, ws, byte, exactly, listed, next_item, names, same_state, also, key_mark, member, value}

-- what may follow a value in these brackets, the innermost first
unfoldable pub closes : List Frame → Json → Lang Json
closes [] x = ws >> gives x
closes (InArray at done ∷ fs) x = do
  ws
  more ← many_with same_state (next_item (λ _. value (suc (length fs)))) tt
  byte 0x5d
  closes fs (Array at (done ++ x ∷ more))
closes (InObject at o ∷ fs) x = do
  ws
  more ← many_with also (next_item (member (length fs) (value (suc (length fs))))) (names (o.0 ++ record { key = o.1; value = x } ∷ []))
  close ← here
  byte 0x7d
  closes fs (Object at (o.0 ++ record { key = o.1; value = x } ∷ more) close)

-- a value is to come, without and with spaces before it
unfoldable pub begin_now : List Frame → Lang Json
begin_now fs = value (length fs) >>= λ x. closes fs x

unfoldable pub begin_value : List Frame → Lang Json
begin_value fs = ws >> begin_now fs

unfoldable pub begin_items : ℕ → List Frame → Lang Json
begin_items at fs = do
  ws
  xs ← listed same_state (λ _. value (suc (length fs))) tt
  byte 0x5d
  closes fs (Array at xs)

unfoldable pub begin_members : ℕ → List Frame → Lang Json
begin_members at fs = do
  ws
  ms ← listed also (member (length fs) (value (suc (length fs)))) []
  close ← here
  byte 0x7d
  closes fs (Object at ms close)

-- a further key is to come
unfoldable pub begin_key : ℕ → List Member → List Frame → Lang Json
begin_key at done fs = do
  ws
  m ← member (length fs) (value (suc (length fs))) (names done)
  closes (InObject at (done, m.key) ∷ fs) m.value

unfoldable pub begin_colon : ℕ → List Member → Named → List Frame → Lang Json
begin_colon at done key fs = do
  ws
  byte 0x3a
  begin_value (InObject at (done, key) ∷ fs)

-- inside a string that is a value
unfoldable pub in_string : ℕ → Within → List ℕ → List Frame → Lang Json
in_string at t before fs = do
  s ← chars_rest t before
  byte 0x22
  closes fs (Str at s)

-- what follows a key from an offset on
unfoldable pub key_ends : ℕ → List Member → ℕ → List Frame → List ℕ → Lang Json
key_ends at done from fs s = do
  to ← here
  note (key_mark (names done) s from to)
  begin_colon at done (record { name = s; at = from }) fs

-- inside a key
unfoldable pub in_key : ℕ → List Member → ℕ → Within → List ℕ → List Frame → Lang Json
in_key at done from t before fs = do
  s ← chars_rest t before
  byte 0x22
  key_ends at done from fs s

-- inside a word, of which these bytes are left
abbrev pub in_word : List ℕ → Json → List Frame → Lang Json
in_word bytes x fs = exactly bytes >> closes fs x

-- what follows a number's text
unfoldable pub number_ends : ℕ → List Frame → List ℕ → Lang Json
number_ends at fs t = do
  to ← here
  note (number_mark t at to)
  closes fs (Number at (worth t))

-- inside a number
unfoldable pub in_number : ℕ → Stage → List ℕ → List Frame → Lang Json
in_number at s before fs = number_rest (Some s) before >>= λ t. number_ends at fs t

abbrev pub goes_on : Mode → List Frame → Lang Json
goes_on modes.Value fs = begin_value fs
goes_on (modes.First at) fs = begin_items at fs
goes_on (modes.FirstKey at) fs = begin_members at fs
goes_on (modes.Key at done) fs = begin_key at done fs
goes_on (modes.Colon at o) fs = begin_colon at o.0 o.1 fs
goes_on (modes.InKey at done from t s) fs = in_key at done from t s fs
goes_on (modes.InString at t s) fs = in_string at t s fs
goes_on (modes.Word bytes x) fs = in_word bytes.now x fs
goes_on (modes.InNumber at n) fs = in_number at n.stage n.text fs
goes_on (modes.After x) fs = closes fs x

abbrev pub rest : State → Lang Json
rest s = goes_on s.mode (reverse s.frames)

-- q is one byte behind p, and what was noted on the way is fine
pub record IsNext (p q : Place) : Type 0 where
  pub at : q.at ≡ p.at + 1
  pub new : List Mark
  pub marks : q.marks ≡ p.marks ++ new
  pub fine : AllFine new
  pub ended : (m : Mark) → Among m new → m.to ≤ q.at

-- Over c the text goes on, and the token from this offset on, which ends there, breaks a limit for this reason.
pub record Breaks (p : Place) (c : ℕ) (L : Lang Json) (from : ℕ) (reason : Reason) : Type 0 where
  pub end : Place
  pub mode : Mode
  pub frames : List Frame
  pub turns : Turns p c end L (goes_on mode frames)
  pub at : end.at ≡ p.at + 1
  pub mark : Mark
  pub marks : end.marks ≡ p.marks ++ mark ∷ []
  pub begins : mark.from ≡ from
  pub ends : mark.to ≡ p.at + 1
  pub why : mark.reason ≡ Some reason
  pub later : (w : List ℕ) (x : Json) (r : Place) → goes_on mode frames end w x r → (new : List Mark) × (r.marks ≡ end.marks ++ new) × ((m : Mark) → Among m new → end.at ≤ m.from)

-- the longest number that stands up to here breaks a limit
abbrev pub verdict : Digits → Bool
verdict n = if is_end n.stage then is_beyond n.text else n.before

-- the number that is read now, and from where on
abbrev pub number_in : Mode → Option (ℕ × Digits)
number_in modes.Value = None
number_in (modes.First at) = None
number_in (modes.FirstKey at) = None
number_in (modes.Key at done) = None
number_in (modes.Colon at o) = None
number_in (modes.InKey at done from t s) = None
number_in (modes.InString at t s) = None
number_in (modes.Word bytes x) = None
number_in (modes.InNumber at n) = Some (at, n)
number_in (modes.After x) = None

-- no number, or one that begins at this offset
abbrev pub Fresh : Place → Place → Mode → Type 0
Fresh p q m = IfSome (number_in m) (λ r. (r.0 ≡ p.at) × (r.1.before ≡ false) × (q.marks ≡ p.marks))

abbrev pub NoNumber : Mode → Type 0
NoNumber m = IfSome (number_in m) (λ r. ⊥)

-- no number that breaks a limit is left here
abbrev pub Settles : Mode → Type 0
Settles m = IfSome (number_in m) (λ r. verdict r.1 ≡ false)

-- the second state is further in the number of the first
abbrev pub Continues : Place → Place → Mode → Mode → Type 0
Continues p q m n = IsSomeAnd (number_in m) (λ r. IsSomeAnd (number_in n) (λ t. (t.0 ≡ r.0) × (is_end t.1.stage ≡ false → t.1.before ≡ verdict r.1) × (q.marks ≡ p.marks)))

abbrev pub Carried : Place → Place → Mode → Mode → Type 0
Carried p q m n = (Settles m × Fresh p q n) ⊎ Continues p q m n

-- What a step from p over c gives: what follows the byte, or that nothing can, or a token that breaks a limit.
abbrev pub Stopped : Place → ℕ → Lang Json → Stop → Type 0
Stopped p c L Memory = Unit {0}
Stopped p c L Here = Barred p c L
Stopped p c L (At from reason) = Breaks p c L from reason
Stopped p c L (TooFar from) = ⊥

abbrev pub Goes : ℕ → ℕ → Lang Json → Result State Stop → Type 0
Goes at c L (Ok s) = (p : Place) → p.at ≡ at → (q : Place) × IsNext p q × Turns p c q L (rest s) × Fresh p q s.mode
Goes at c L (Err e) = (p : Place) → p.at ≡ at → Stopped p c L e

-- the state is in no number, and no token breaks a limit
abbrev pub Quiet : Result State Stop → Type 0
Quiet (Ok s) = NoNumber s.mode
Quiet (Err Memory) = Unit {0}
Quiet (Err Here) = Unit {0}
Quiet (Err (At from reason)) = ⊥
Quiet (Err (TooFar from)) = Unit {0}

-- the number ends before c and breaks a limit
abbrev pub TooFarAt : Mode → ℕ → ℕ → Type 0
TooFarAt m c from = IsSomeAnd (number_in m) (λ r. (from ≡ r.0) × (verdict r.1 ≡ true) × (onward r.1.stage c ≡ None))

abbrev pub Halts : ℕ → ℕ → State → Stop → Type 0
Halts at c s Memory = Unit {0}
Halts at c s Here = ((p : Place) → p.at ≡ at → Stopped p c (rest s) Here) × Settles s.mode
Halts at c s (At from reason) = ((p : Place) → p.at ≡ at → Stopped p c (rest s) (At from reason)) × Settles s.mode
Halts at c s (TooFar from) = TooFarAt s.mode c from

-- what a step from a state gives
abbrev pub Steps : ℕ → ℕ → State → Result State Stop → Type 0
Steps at c s (Ok t) = (p : Place) → p.at ≡ at → (q : Place) × IsNext p q × Turns p c q (rest s) (rest t) × Carried p q s.mode t.mode
Steps at c s (Err e) = Halts at c s e

-- what a step in a number gives
abbrev pub NumberHalts : ℕ → ℕ → ℕ → Digits → List Frame → Stop → Type 0
NumberHalts at c from n fs Memory = Unit {0}
NumberHalts at c from n fs Here = ((p : Place) → p.at ≡ at → Stopped p c (in_number from n.stage n.text fs) Here) × (verdict n ≡ false)
NumberHalts at c from n fs (At start reason) = ((p : Place) → p.at ≡ at → Stopped p c (in_number from n.stage n.text fs) (At start reason)) × (verdict n ≡ false)
NumberHalts at c from n fs (TooFar start) = (start ≡ from) × (verdict n ≡ true) × (onward n.stage c ≡ None)

abbrev pub Numbers : ℕ → ℕ → ℕ → Digits → List Frame → Result State Stop → Type 0
Numbers at c from n fs (Ok t) = (p : Place) → p.at ≡ at → (q : Place) × IsNext p q × Turns p c q (in_number from n.stage n.text fs) (rest t) × Carried p q (modes.InNumber from n) t.mode
Numbers at c from n fs (Err e) = NumberHalts at c from n fs e

-- at most one token is noted, and it ends here
abbrev pub NotesHere : Place → Place → Type 0
NotesHere p q = (q.marks ≡ p.marks) ⊎ ((m : Mark) × (q.marks ≡ p.marks ++ m ∷ []) × (m.to ≡ p.at))

-- What the end of the bytes gives: the value that they spell, or that they spell none.
abbrev pub Over : Lang Json → Option Json → Type 0
Over L (Some x) = (p : Place) → (q : Place) × Stops p L x q × NotesHere p q
Over L None = (p : Place) → NoEmpty p L

abbrev pub TooFarEnd : Mode → ℕ → Type 0
TooFarEnd m from = IsSomeAnd (number_in m) (λ r. (from ≡ r.0) × (verdict r.1 ≡ true))

-- nothing follows, and the longest number that stands breaks no limit; or one that does
abbrev pub Finishes : State → Result (Option Json) ℕ → Type 0
Finishes s (Ok r) = Over (rest s) r × Settles s.mode
Finishes s (Err from) = TooFarEnd s.mode from

-- ---- several bytes

-- what a step of this language over c gives is what it gives from the state; the same of a value's end
abbrev pub Begins : ℕ → ℕ → State → Lang Json → Type 0
Begins at c u L = (answer : Result State Stop) → Goes at c L answer → Steps at c u answer

abbrev pub Ends : ℕ → ℕ → State → Lang Json → Type 0
Ends at c u L = (answer : Result State Stop) → Goes at c L answer → Quiet answer → Steps at c u answer

-- spaces change nothing here
abbrev pub waits : Mode → Bool
waits modes.Value = true
waits (modes.First at) = true
waits (modes.FirstKey at) = true
waits (modes.Key at done) = true
waits (modes.Colon at o) = true
waits (modes.InKey at done from t s) = false
waits (modes.InString at t s) = false
waits (modes.Word bytes x) = false
waits (modes.InNumber at n) = false
waits (modes.After x) = true

abbrev pub AllSpaces : List ℕ → Type 0
AllSpaces [] = Unit {0}
AllSpaces (c ∷ w) = (is_space c ≡ true) × AllSpaces w

-- steps over the bytes lead from this state to that
abbrev pub Along : ℕ → List ℕ → State → State → Type 0
Along at [] s t = t ≡ s
Along at (c ∷ w) s t = (u : State) × Steps at c s (Ok u) × Along (at + 1) w u t

-- What several steps give: some bytes are taken, at least one; or some, and then a step that is none.
abbrev pub Advances : ℕ → List ℕ → State → Result (ℕ × State) (ℕ × Stop) → Type 0
Advances at w s (Ok r) = (a b : List ℕ) × (w ≡ a ++ b) × (length a ≡ r.0) × (0 < r.0) × Along at a s r.1
Advances at w s (Err r) = (a b : List ℕ) × (c : ℕ) × (w ≡ a ++ c ∷ b) × (length a ≡ r.0) × (u : State) × Along at a s u × Halts (at + r.0) c u r.1

-- what several steps in the place of a state give
abbrev pub leaving : Result ℕ (ℕ × Stop) → State → Result (ℕ × State) (ℕ × Stop)
leaving (Ok n) s = Ok (n, s)
leaving (Err e) s = Err e

-- what several steps give from each state on that the first n of the bytes lead to u from
abbrev pub From : ℕ → List ℕ → ℕ → State → Result (ℕ × State) (ℕ × Stop) → Type 0
From at w n u result = (s : State) → Along at (take n w) s u → Advances at w s result

-- what a step in the place of a state gives
abbrev pub stepping : {A : Type 0} → Result A Stop → State → Result State Stop
stepping (Ok a) s = Ok s
stepping (Err e) s = Err e

-- the state behind a bracket that closes
abbrev pub shut : Result Json Stop → State → Result State Stop
shut (Ok x) s = Ok (record { mode = modes.After x; frames = s.frames })
shut (Err e) s = Err e

-- a bracket that closes
abbrev pub is_closing : ℕ → Bool
is_closing c = nat_eq c 93 || nat_eq c 125

-- how many bytes are taken by a step behind so many
abbrev pub took : {A : Type 0} → ℕ → Result A Stop → Result ℕ (ℕ × Stop)
took n (Ok a) = Ok (n + 1)
took n (Err e) = Err (n, e)
