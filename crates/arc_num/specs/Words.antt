-- The tokens of a text: its longest runs of bytes that are not white space.
use Rattle.std.specs.Prelude.{◌≡◌, ◌↔◌, ℕ, ◌<◌, ◌≤◌, Bool, true, false, ◌==◌, ◌||◌, if◌then◌else◌, List, [], ◌∷◌, ◌++◌, drop, length, slice_range, All}

-- space, tab, carriage return, line feed
abbrev pub is_white : ℕ → Bool
is_white b = (b == 32) || (b == 9) || (b == 13) || (b == 10)

-- whether a token that stands in front of this text ends there: the text is empty or begins with white space
abbrev pub ends_token : List ℕ → Bool
ends_token [] = true
ends_token (b ∷ bs) = is_white b

-- every byte is white space
abbrev pub IsBlank : List ℕ → Type 0
IsBlank bs = All (λ b. is_white b ≡ true) bs

-- some bytes, none of them white space
abbrev pub IsWord : List ℕ → Type 0
IsWord bs = (0 < length bs) × All (λ b. is_white b ≡ false) bs

-- the text is white space, the first token, and a rest that ends this token and is split into the other tokens;
-- with no token it is white space alone
abbrev pub Splits : List ℕ → List (List ℕ) → Type 0
Splits text [] = IsBlank text
Splits text (t ∷ ts) =
    (white : List ℕ) × (rest : List ℕ) × (text ≡ white ++ (t ++ rest)) × IsBlank white × IsWord t × (ends_token rest ≡ true) × Splits rest ts

-- a byte in front of the first of the tokens
abbrev pub onto_first : ℕ → List (List ℕ) → List (List ℕ)
onto_first b [] = (b ∷ []) ∷ []
onto_first b (t ∷ ts) = (b ∷ t) ∷ ts

-- the tokens of a text, in order: a byte that is not white space begins a token of its own where the next byte ends it,
-- and else stands in front of the first of the tokens behind it
abbrev pub tokens_of : List ℕ → List (List ℕ)
tokens_of [] = []
tokens_of (b ∷ bs) = if is_white b then tokens_of bs else (if ends_token bs then (b ∷ []) ∷ tokens_of bs else onto_first b (tokens_of bs))

-- the text is split into its tokens, and in no other way
abbrev pub TokensAreTheLongestRuns : Type 0
TokensAreTheLongestRuns = (text : List ℕ) (ts : List (List ℕ)) → Splits text ts ↔ (ts ≡ tokens_of text)

-- from one place of a text on: white space up to start, a word up to end, and there the word ends
pub record IsFirstRun (text : List ℕ) (from start end : ℕ) : Type 0 where
  pub after : from ≤ start
  pub within : end ≤ length text
  pub white : IsBlank (slice_range text from start)
  pub word : IsWord (slice_range text start end)
  pub ends : ends_token (drop end text) ≡ true

-- a text that is read token by token: the place up to which it is read, how many tokens came, and the tokens that are left
pub record TokensValue : Type 0 where
  pub text : List ℕ
  pub at : ℕ
  pub count : ℕ
  pub left : List (List ℕ)

-- all tokens of the text are left
abbrev pub whole : List ℕ → TokensValue
whole text = record { text = text; at = 0; count = 0; left = tokens_of text }
