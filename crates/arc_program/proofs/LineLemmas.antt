-- The lines of a text: the first of them, and those behind it.
use Rattle.std.proofs.Common.{◌≡◌, ◌∙◌, ℕ, ◌+◌, ◌-◌, ◌<◌, ◌≤◌, Bool, true, false, cond, not, ltb, List, [], ◌∷◌, ◌++◌, length, take, drop, refl, ap, sym, arith, Some, None, suc, append_assoc, length-drop}
use Rattle.std.specs.Prelude.{◌==◌}
use Rattle.std.specs.List.{position, position_or_len, slice_range}
use Rattle.std.proofs.lemmas.List.{take_all, drop_all, drop-drop}
use Rattle.std.proofs.lemmas.Bool.{ltb-false}
use Rattle.arc_io.specs.Faults.{raised}
use Rattle.arc_program.specs.Printing.{Line, begun, lines_of, bytes_of, raised_for}
use Rattle.arc_program.specs.inner.Printing.{is_line_feed}

-- one byte more in front of a text whose first line is known
first_byte : (feed : Bool) (byte n : ℕ) (text : List ℕ) → lines_of text ≡ take (suc n) text ∷ lines_of (drop (suc n) text) → cond feed ((byte ∷ []) ∷ lines_of text) (begun byte (lines_of text)) ≡ take (suc (cond (not feed) (1 + n) 0)) (byte ∷ text) ∷ lines_of (drop (suc (cond (not feed) (1 + n) 0)) (byte ∷ text))
first_byte true byte n text h = refl
first_byte false byte n text h =
    let one : 1 + n ≡ suc n = omega arith in
    ap (begun byte) h ∙ ap (λ (m : ℕ). (byte ∷ take m text) ∷ lines_of (drop m text)) (sym one)

last_byte : (feed : Bool) (byte : ℕ) → cond feed ((byte ∷ []) ∷ []) (begun byte []) ≡ take (suc (cond (not feed) (1 + 0) 0)) (byte ∷ []) ∷ lines_of (drop (suc (cond (not feed) (1 + 0) 0)) (byte ∷ []))
last_byte true byte = refl
last_byte false byte = refl

-- a text of at least one byte begins with a line, which ends behind its first line feed, or with the text
first_line : (byte : ℕ) (text : List ℕ) → lines_of (byte ∷ text) ≡ take (suc (position_or_len is_line_feed (byte ∷ text))) (byte ∷ text) ∷ lines_of (drop (suc (position_or_len is_line_feed (byte ∷ text))) (byte ∷ text))
first_line byte [] = last_byte (is_line_feed byte) byte
first_line byte (next ∷ text) = first_byte (is_line_feed byte) byte (position_or_len is_line_feed (next ∷ text)) (next ∷ text) (first_line next text)

first_line_of : (text : List ℕ) → 0 < length text → lines_of text ≡ take (suc (position_or_len is_line_feed text)) text ∷ lines_of (drop (suc (position_or_len is_line_feed text)) text)
first_line_of [] h = absurd (omega (arith, h))
first_line_of (byte ∷ text) h = first_line byte text

found : (n len i : ℕ) → cond (ltb n len) (Some n) None ≡ Some i → n ≡ i
found n len i e = decide (ltb n len) e
  where
    decide : (b : Bool) → cond b (Some n) None ≡ Some i → n ≡ i
    decide true h = cc
    decide false h = absurd (cc)

-- what is left of a text, as a part of it
rest_of : (text : List ℕ) (from : ℕ) → slice_range text from (length text) ≡ drop from text
rest_of text from = take_all (length text - from) (drop from text) (omega (arith, length-drop from text))

-- where a line feed was found, the line ends behind it
pub line_found : (text : List ℕ) (from i : ℕ) → position is_line_feed (slice_range text from (length text)) ≡ Some i → 0 < length (drop from text) → lines_of (drop from text) ≡ slice_range text from (from + i + 1) ∷ lines_of (drop (from + i + 1) text)
line_found text from i e some =
    let at : position_or_len is_line_feed (drop from text) ≡ i = found (position_or_len is_line_feed (drop from text)) (length (drop from text)) i (ap (λ (xs : List ℕ). position is_line_feed xs) (sym (rest_of text from)) ∙ e) in
    let size : suc i ≡ from + i + 1 - from = omega arith in
    let end : from + suc i ≡ from + i + 1 = omega arith in
    first_line_of (drop from text) some
    ∙ (ap (λ (n : ℕ). take (suc n) (drop from text) ∷ lines_of (drop (suc n) (drop from text))) at
    ∙ (ap (λ (n : ℕ). take n (drop from text) ∷ lines_of (drop (suc i) (drop from text))) size
    ∙ (ap (λ (rest : List ℕ). take (from + i + 1 - from) (drop from text) ∷ lines_of rest) (drop-drop (suc i) from text)
    ∙ ap (λ (n : ℕ). take (from + i + 1 - from) (drop from text) ∷ lines_of (drop n text)) end)))

missing : (n len : ℕ) → cond (ltb n len) (Some n) None ≡ None → len ≤ n
missing n len e = decide (ltb n len) refl e
  where
    decide : (b : Bool) → ltb n len ≡ b → cond b (Some n) None ≡ None → len ≤ n
    decide true t h = absurd (cc)
    decide false t h = omega (arith, ltb-false n len t)

-- where none was found, the line ends with the text
pub line_last : (text : List ℕ) (from : ℕ) → position is_line_feed (slice_range text from (length text)) ≡ None → 0 < length (drop from text) → lines_of (drop from text) ≡ slice_range text from (length text) ∷ lines_of (drop (length text) text)
line_last text from e some =
    let n = position_or_len is_line_feed (drop from text) in
    let far : length (drop from text) ≤ n = missing n (length (drop from text)) (ap (λ (xs : List ℕ). position is_line_feed xs) (sym (rest_of text from)) ∙ e) in
    let whole : take (suc n) (drop from text) ≡ drop from text = take_all (suc n) (drop from text) (omega (arith, far)) in
    let none : drop (suc n) (drop from text) ≡ [] = drop_all (suc n) (drop from text) (omega (arith, far)) in
    let end : drop (length text) text ≡ [] = drop_all (length text) text (omega arith) in
    first_line_of (drop from text) some
    ∙ (ap (λ (line : Line). line ∷ lines_of (drop (suc n) (drop from text))) (whole ∙ sym (rest_of text from))
    ∙ ap (λ (rest : List ℕ). take (length text - from) (drop from text) ∷ lines_of rest) (none ∙ sym end))

-- lines, and one more behind them
pub bytes_of-push : (lines : List Line) (line : Line) → bytes_of (lines ++ line ∷ []) ≡ bytes_of lines ++ line
bytes_of-push [] line = append_nil line
  where
    append_nil : (xs : List ℕ) → xs ++ [] ≡ xs
    append_nil [] = refl
    append_nil (x ∷ xs) = ap (λ (ys : List ℕ). x ∷ ys) (append_nil xs)
bytes_of-push (first ∷ lines) line = ap (λ (ys : List ℕ). first ++ ys) (bytes_of-push lines line) ∙ sym (append_assoc first (bytes_of lines) line)

pub raised_for-push : (lines : List Line) (line : Line) (count : ℕ) → raised_for (lines ++ line ∷ []) count ≡ raised (raised_for lines count)
raised_for-push [] line count = refl
raised_for-push (first ∷ lines) line count = raised_for-push lines line (raised count)

-- the lines of a text are the text
begun_bytes : (byte : ℕ) (lines : List Line) → bytes_of (begun byte lines) ≡ byte ∷ bytes_of lines
begun_bytes byte [] = refl
begun_bytes byte (line ∷ lines) = refl

feed_bytes : (feed : Bool) (byte : ℕ) (lines : List Line) → bytes_of (cond feed ((byte ∷ []) ∷ lines) (begun byte lines)) ≡ byte ∷ bytes_of lines
feed_bytes true byte lines = refl
feed_bytes false byte lines = begun_bytes byte lines

pub bytes_of-lines_of : (text : List ℕ) → bytes_of (lines_of text) ≡ text
bytes_of-lines_of [] = refl
bytes_of-lines_of (byte ∷ text) = feed_bytes (byte == 10) byte (lines_of text) ∙ ap (λ (ys : List ℕ). byte ∷ ys) (bytes_of-lines_of text)
