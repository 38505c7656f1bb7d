-- White space in front of a text changes no token, and a word that ends is the first token.
use Rattle.std.proofs.Common.{◌≡◌, ℕ, ◌+◌, ◌-◌, ◌<◌, ◌≤◌, Bool, true, false, List, [], ◌∷◌, ◌++◌, length, drop, get_or, refl, sym, ap, ◌∙◌, subst, drop-cons, arith}
use Rattle.std.specs.List.{All, slice_range}
use Rattle.std.proofs.lemmas.List.{take-append-drop, drop-drop, drop_all}
use Rattle.std.proofs.lemmas.List.Edits.{between_more}
use Rattle.std.proofs.lemmas.List.Elements.{All-nil, All-cons, All-head, All-tail, All-push, All-same}
use Rattle.arc_num.specs.Words.{is_white, ends_token, onto_first, tokens_of, IsBlank, IsWord, Splits}

abbrev IsWhite : ℕ → Type 0
IsWhite b = is_white b ≡ true

abbrev IsInk : ℕ → Type 0
IsInk b = is_white b ≡ false

-- one byte more
tokens_of-white : (b : ℕ) (bs : List ℕ) → is_white b ≡ true → tokens_of (b ∷ bs) ≡ tokens_of bs
tokens_of-white b bs e = rw e refl

tokens_of-last : (b : ℕ) (bs : List ℕ) → is_white b ≡ false → ends_token bs ≡ true → tokens_of (b ∷ bs) ≡ (b ∷ []) ∷ tokens_of bs
tokens_of-last b bs e f = rw (e, f) refl

tokens_of-inner : (b : ℕ) (bs : List ℕ) → is_white b ≡ false → ends_token bs ≡ false → tokens_of (b ∷ bs) ≡ onto_first b (tokens_of bs)
tokens_of-inner b bs e f = rw (e, f) refl

tokens_of-blank : (white rest : List ℕ) → IsBlank white → tokens_of (white ++ rest) ≡ tokens_of rest
tokens_of-blank [] rest h = refl
tokens_of-blank (b ∷ bs) rest h =
    tokens_of-white b (bs ++ rest) (All-head IsWhite b bs h) ∙ tokens_of-blank bs rest (All-tail IsWhite b bs h)

tokens_of-blank_all : (white : List ℕ) → IsBlank white → tokens_of white ≡ []
tokens_of-blank_all [] h = refl
tokens_of-blank_all (b ∷ bs) h = tokens_of-white b bs (All-head IsWhite b bs h) ∙ tokens_of-blank_all bs (All-tail IsWhite b bs h)

tokens_of-ink : (word rest : List ℕ) → 0 < length word → All IsInk word → ends_token rest ≡ true → tokens_of (word ++ rest) ≡ word ∷ tokens_of rest
tokens_of-ink [] rest some h e = absurd (omega arith)
tokens_of-ink (b ∷ []) rest some h e = tokens_of-last b rest (All-head IsInk b [] h) e
tokens_of-ink (b ∷ c ∷ bs) rest some h e =
    let tail = All-tail IsInk b (c ∷ bs) h in
    tokens_of-inner b (c ∷ (bs ++ rest)) (All-head IsInk b (c ∷ bs) h) (All-head IsInk c bs tail) ∙ ap (onto_first b) (tokens_of-ink (c ∷ bs) rest (omega arith) tail e)

tokens_of-word : (word rest : List ℕ) → IsWord word → ends_token rest ≡ true → tokens_of (word ++ rest) ≡ word ∷ tokens_of rest
tokens_of-word word rest h e = tokens_of-ink word rest h.0 h.1 e

-- what is split into some tokens has these tokens
pub tokens_of-split : (text : List ℕ) (ts : List (List ℕ)) → Splits text ts → ts ≡ tokens_of text
tokens_of-split text [] h = sym (tokens_of-blank_all text h)
tokens_of-split text (t ∷ ts) h =
    let rest = h.1 in
    sym (ap tokens_of h.2 ∙ tokens_of-blank h.0 (t ++ rest) h.3 ∙ tokens_of-word t rest h.4 h.5 ∙ ap (λ (x : List (List ℕ)). t ∷ x) (sym (tokens_of-split rest ts h.6)))

-- white space in front of a text that is split
splits-white : (b : ℕ) (bs : List ℕ) (ts : List (List ℕ)) → is_white b ≡ true → Splits bs ts → Splits (b ∷ bs) ts
splits-white b bs [] e h = All-cons IsWhite b bs e h
splits-white b bs (t ∷ ts) e h = (b ∷ h.0, h.1, ap (λ (x : List ℕ). b ∷ x) h.2, All-cons IsWhite b h.0 e h.3, h.4, h.5, h.6)

-- a byte in front of the first token of a text that is split
splits-from_start : (b : ℕ) (bs white t rest : List ℕ) (ts : List (List ℕ)) → is_white b ≡ false → ends_token bs ≡ false → bs ≡ white ++ (t ++ rest) → IsBlank white → IsWord t → ends_token rest ≡ true → Splits rest ts → Splits (b ∷ bs) ((b ∷ t) ∷ ts)
splits-from_start b bs [] t rest ts e f is blank word ends more =
    ([], rest, ap (λ (x : List ℕ). b ∷ x) is, All-nil IsWhite, (omega arith, All-cons IsInk b t e word.1), ends, more)
splits-from_start b bs (w ∷ ws) t rest ts e f is blank word ends more =
    let begins = All-head IsWhite w ws blank in
    let same : ends_token bs ≡ is_white w = ap ends_token is in
    absurd (cc)

splits-inner : (b : ℕ) (bs : List ℕ) (ts : List (List ℕ)) → is_white b ≡ false → ends_token bs ≡ false → Splits bs ts → Splits (b ∷ bs) (onto_first b ts)
splits-inner b [] [] e f h = absurd (cc)
splits-inner b (c ∷ cs) [] e f h = let begins = All-head IsWhite c cs h in absurd (cc)
splits-inner b bs (t ∷ ts) e f h = splits-from_start b bs h.0 t h.1 ts e f h.2 h.3 h.4 h.5 h.6

splits-more : (b : ℕ) (bs : List ℕ) (white ends : Bool) → is_white b ≡ white → ends_token bs ≡ ends → Splits bs (tokens_of bs) → Splits (b ∷ bs) (tokens_of (b ∷ bs))
splits-more b bs true ends e f h =
    subst (λ (ts : List (List ℕ)). Splits (b ∷ bs) ts) (sym (tokens_of-white b bs e)) (splits-white b bs (tokens_of bs) e h)
splits-more b bs false true e f h =
    subst (λ (ts : List (List ℕ)). Splits (b ∷ bs) ts) (sym (tokens_of-last b bs e f)) ([], bs, refl, All-nil IsWhite, (omega arith, All-cons IsInk b [] e (All-nil IsInk)), f, h)
splits-more b bs false false e f h =
    subst (λ (ts : List (List ℕ)). Splits (b ∷ bs) ts) (sym (tokens_of-inner b bs e f)) (splits-inner b bs (tokens_of bs) e f h)

-- a text is split into its tokens
pub splits : (text : List ℕ) → Splits text (tokens_of text)
splits [] = All-nil IsWhite
splits (b ∷ bs) = splits-more b bs (is_white b) (ends_token bs) refl refl (splits bs)

-- a text from a place on is its bytes up to another place, and the text from there on
drop-parts : (text : List ℕ) (from at : ℕ) → from ≤ at → drop from text ≡ slice_range text from at ++ drop at text
drop-parts text from at le =
    let sum : from + (at - from) ≡ at = omega arith in
    sym (take-append-drop (at - from) (drop from text)) ∙ ap (λ (x : List ℕ). slice_range text from at ++ x) (drop-drop (at - from) from text ∙ ap (λ (n : ℕ). drop n text) sum)

-- white space up to a place is skipped
pub tokens_of-skip : (text : List ℕ) (from at : ℕ) → from ≤ at → IsBlank (slice_range text from at) → tokens_of (drop from text) ≡ tokens_of (drop at text)
tokens_of-skip text from at le h = ap tokens_of (drop-parts text from at le) ∙ tokens_of-blank (slice_range text from at) (drop at text) h

-- a word up to a place, where it ends, is the first token
tokens_of-taken : (text : List ℕ) (from at : ℕ) → from ≤ at → IsWord (slice_range text from at) → ends_token (drop at text) ≡ true → tokens_of (drop from text) ≡ slice_range text from at ∷ tokens_of (drop at text)
tokens_of-taken text from at le h e = ap tokens_of (drop-parts text from at le) ∙ tokens_of-word (slice_range text from at) (drop at text) h e

-- where a word ends
ends_token-white : (text : List ℕ) (at : ℕ) → at < length text → is_white (get_or text at 0) ≡ true → ends_token (drop at text) ≡ true
ends_token-white text at lt e = rw (drop-cons text at 0) e

ends_token-last : (text : List ℕ) (at : ℕ) → length text ≤ at → ends_token (drop at text) ≡ true
ends_token-last text at le = ap ends_token (drop_all at text le)

pub tokens_of-taken_white : (text : List ℕ) (from at : ℕ) → from ≤ at → at < length text → IsWord (slice_range text from at) → is_white (get_or text at 0) ≡ true → tokens_of (drop from text) ≡ slice_range text from at ∷ tokens_of (drop at text)
tokens_of-taken_white text from at le lt h e = tokens_of-taken text from at le h (ends_token-white text at lt e)

pub tokens_of-taken_last : (text : List ℕ) (from at : ℕ) → from ≤ at → length text ≤ at → IsWord (slice_range text from at) → tokens_of (drop from text) ≡ slice_range text from at ∷ tokens_of (drop at text)
tokens_of-taken_last text from at le end h = tokens_of-taken text from at le h (ends_token-last text at end)

-- one more white byte
pub IsBlank-more : (text : List ℕ) (from at : ℕ) → from ≤ at → at < length text → IsBlank (slice_range text from at) → is_white (get_or text at 0) ≡ true → IsBlank (slice_range text from (at + 1))
IsBlank-more text from at le lt h e =
    All-same IsWhite (slice_range text from (at + 1)) (slice_range text from at ++ get_or text at 0 ∷ []) (between_more text from at 0 le lt) (All-push IsWhite (slice_range text from at) (get_or text at 0) h e)

pub ruleset white_runs = (tokens_of-skip, IsBlank-more)
