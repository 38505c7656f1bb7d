-- What was taken of a name that is read piece by piece.
use Rattle.std.proofs.Common.{◌≡◌, ◌∙◌, ℕ, ◌+◌, ◌≤◌, List, length, drop, ap, sym, subst, arith, Some, None}
use Rattle.std.proofs.Math.Seq.{drop-append-add, drop-append_seam}
use Rattle.arc_io.specs.Bytes.{Told}
use Rattle.arc_program.specs.inner.Loading.{IsReadUpTo, TakesAtMost}

-- a piece more was taken of what was left
pub taken_more : (held left after : Told) (text : List ℕ) (most piece : ℕ) → length text + piece ≤ most → IsReadUpTo held left text → TakesAtMost piece left after → TakesAtMost most held after
taken_more None left after text most piece h read taken = tt
taken_more (Some all) left after text most piece h read taken =
    let t : (n : ℕ) × (n ≤ piece) × (after ≡ Some (drop n read.0)) = subst (λ (l : Told). TakesAtMost piece l after) read.1 taken in
    (length text + t.0, omega (arith, t.1, h), t.2 ∙ ap Some (sym (ap (λ (xs : List ℕ). drop (length text + t.0) xs) read.2 ∙ drop-append-add text read.0 t.0)))

-- what was read is what was taken
pub taken_read : (held left : Told) (text : List ℕ) (most : ℕ) → length text ≤ most → IsReadUpTo held left text → TakesAtMost most held left
taken_read None left text most h read = tt
taken_read (Some all) left text most h read =
    (length text, h, read.1 ∙ ap Some (sym (ap (λ (xs : List ℕ). drop (length text) xs) read.2 ∙ drop-append_seam text read.0)))
