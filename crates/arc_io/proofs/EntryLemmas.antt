-- Entries and their bytes.
use Rattle.std.proofs.Common.{◌≡◌, ℕ, ◌<◌, true, Some, List, [], ◌∷◌, length, drop, get_or, refl, zero, suc, arith, ap, sym}
use Rattle.std.specs.Str.{bytes_eq}
use Rattle.arc_io.specs.Entries.{Entry, entry_of}
use Rattle.arc_io.specs.inner.Readers.{bytes_at}

-- the bytes at a place are those of the entry there
pub bytes_at-read : (es : List Entry) (i : ℕ) (e : Entry) → i < length es → e ≡ get_or es i e → bytes_at es i ≡ e.bytes
bytes_at-read [] i e lt is = absurd (omega arith)
bytes_at-read (x ∷ xs) zero e lt is = ap (λ (d : Entry). d.bytes) (sym is)
bytes_at-read (x ∷ xs) (suc i) e lt is = bytes_at-read xs i e (omega arith) is

-- where the entry at a place has the name, it is the first of that name from there on
pub entry_of-drop : (es : List Entry) (i : ℕ) (name : List ℕ) (e : Entry) → i < length es → e ≡ get_or es i e → bytes_eq e.name name ≡ true → entry_of (drop i es) name ≡ Some (bytes_at es i)
entry_of-drop [] i name e lt is same = absurd (omega arith)
entry_of-drop (x ∷ xs) zero name e lt is same = rw (← is) (rw same refl)
entry_of-drop (x ∷ xs) (suc i) name e lt is same = entry_of-drop xs i name e (omega arith) is same
