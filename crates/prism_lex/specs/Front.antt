-- The longest token at the front of a text.
use Rattle.std.specs.Prelude.{◌≡◌, ℕ, ◌<◌, ◌≤◌, List, ◌++◌, length, take, Some, None}
use Rattle.bridge_io.specs.declared.reason.Reason.{Reason}
use Rattle.bridge_io.specs.declared.reason.Reason.TheVariants.{BadByte}
use Rattle.prism_lex.specs.declared.token.TokenKind.{TokenKind}
use Rattle.prism_lex.specs.Tokens.{IsKind, IsToken, refusal}

-- The first n bytes are a token of the kind, and no front that is longer is a token.
pub record Begins (bytes : List ℕ) (k : TokenKind) (n : ℕ) : Type 0 where
  pub above : 0 < n
  pub within : n ≤ length bytes
  pub is : IsKind (take n bytes) k
  pub longest : (v z : List ℕ) → bytes ≡ v ++ z → IsToken v → length v ≤ n

-- No token stands at the front.
abbrev pub BeginsNone : List ℕ → Type 0
BeginsNone bytes = (v z : List ℕ) → bytes ≡ v ++ z → IsToken v → ⊥

-- The first n bytes are the longest token at the front, and it is not refused.
abbrev pub IsAccepted : List ℕ → TokenKind → ℕ → Type 0
IsAccepted bytes k n = Begins bytes k n × (refusal k (take n bytes) ≡ None)

-- The token at the front is refused, or none stands there.
pub data IsRefused (bytes : List ℕ) (reason : Reason) : Type 0 where
  refused : (k : TokenKind) (n : ℕ) → Begins bytes k n → refusal k (take n bytes) ≡ Some reason → IsRefused bytes reason
  no_token : BeginsNone bytes → reason ≡ BadByte → IsRefused bytes reason

-- The text is a token of the kind that is not refused.
abbrev pub IsAcceptedText : List ℕ → TokenKind → Type 0
IsAcceptedText w k = IsKind w k × (refusal k w ≡ None)

-- The text is a token that is refused.
abbrev pub IsRefusedText : List ℕ → Reason → Type 0
IsRefusedText w reason = (k : TokenKind) × IsKind w k × (refusal k w ≡ Some reason)
