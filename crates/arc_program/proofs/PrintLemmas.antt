-- What a sink has taken of a text after one more line.
use Rattle.std.proofs.Common.{◌≡◌, ℕ, ◌+◌, ◌-◌, ◌≤◌, List, ◌++◌, length, take, drop, ap, sym, subst, ◌∙◌, arith, inl, inr, Some, None, IfSome, Ok, Err, append_assoc, append-nil, min, refl, [], ◌∷◌}
use Rattle.std.proofs.Math.Seq.{take-add, take-length}
use Rattle.std.proofs.lemmas.List.{take-take, length-take, take_min, drop_all}
use Rattle.std.proofs.lemmas.Bool.{cases_lt}
use Rattle.std.specs.List.{slice_range}
use Rattle.arc_io.specs.Bytes.{Told, Appends}
use Rattle.arc_io.specs.Faults.{raised}
use Rattle.arc_io.specs.declared.IoFault.{IoFault}
use Rattle.arc_io.specs.declared.IoFault.TheVariants.{Failed, Memory}
use Rattle.arc_program.specs.World.{SinkSeen}
use Rattle.arc_program.specs.Printing.{Line, lines_of, bytes_of, Puts, TakesAll, TakesPrefix, PutsLines, PutsText, CutsOff}
use Rattle.arc_program.specs.inner.Printing.{HasPut}
use Rattle.arc_program.proofs.LineLemmas.{bytes_of-push, raised_for-push}

-- the first bytes and the next ones are first bytes
parts : (text : List ℕ) (at end : ℕ) → at ≤ end → take at text ++ slice_range text at end ≡ take end text
parts text at end h = let e : at + (end - at) ≡ end = omega arith in sym (take-add at (end - at) text) ∙ ap (λ (n : ℕ). take n text) e

-- all of a list are its first elements
pub take_all : (ys : List ℕ) (k : ℕ) → length ys ≤ k → take k ys ≡ ys
take_all ys k h =
    let e : min k (length ys) ≡ length ys = omega arith in
    sym (take_min k ys) ∙ (ap (λ (n : ℕ). take n ys) e ∙ take-length ys)

-- some first bytes of some first bytes
take_of_take : (xs : List ℕ) (k m : ℕ) → (j : ℕ) × (take k (take m xs) ≡ take j xs)
take_of_take xs k m = elim (cases_lt m k) [
  | inl h ↦ (m, take_all (take m xs) k (omega (arith, length-take m xs)))
  | inr h ↦ (k, take-take k m xs h)
]

-- the first bytes of a part are first bytes behind what is in front of it
part_of_part : (text : List ℕ) (at end k : ℕ) → (j : ℕ) × (take at text ++ take k (slice_range text at end) ≡ take j text)
part_of_part text at end k =
    let p = take_of_take (drop at text) k (end - at) in
    (at + p.0, ap (λ (ys : List ℕ). take at text ++ ys) p.1 ∙ sym (take-add at p.0 text))

pub takes_more : (text : List ℕ) (at end : ℕ) (before mid after : Told) → at ≤ end → TakesAll (take at text) before mid → Appends {T = Unit {0}} (Ok tt) (slice_range text at end) mid after → TakesAll (take end text) before after
takes_more text at end None mid after h a p = tt
takes_more text at end (Some old) mid after h a p =
    let q : after ≡ Some ((old ++ take at text) ++ slice_range text at end) = subst (λ (m : Told). IfSome m (λ x. after ≡ Some (x ++ slice_range text at end))) a p in
    q ∙ ap Some (append_assoc old (take at text) (slice_range text at end) ∙ ap (λ (ys : List ℕ). old ++ ys) (parts text at end h))

pub takes_prefix : (fault : IoFault) (text : List ℕ) (at end : ℕ) (before mid after : Told) → TakesAll (take at text) before mid → Appends {T = Unit {0}} (Err fault) (slice_range text at end) mid after → TakesPrefix text before after
takes_prefix fault text at end None mid after a p = tt
takes_prefix Failed text at end (Some old) mid after a p =
    let q : (k : ℕ) × (after ≡ Some ((old ++ take at text) ++ take k (slice_range text at end))) = subst (λ (m : Told). IfSome m (λ x. (k : ℕ) × (after ≡ Some (x ++ take k (slice_range text at end))))) a p in
    let r = part_of_part text at end q.0 in
    (r.0, q.1 ∙ ap Some (append_assoc old (take at text) (take q.0 (slice_range text at end)) ∙ ap (λ (ys : List ℕ). old ++ ys) r.1))
takes_prefix Memory text at end (Some old) mid after a p = (at, p ∙ a)

-- a text and what was put behind it
takes_on : (text line : List ℕ) (before between after : Told) → TakesAll text before between → Appends {T = Unit {0}} (Ok tt) line between after → TakesAll (text ++ line) before after
takes_on text line None between after a p = tt
takes_on text line (Some old) between after a p =
    let q : after ≡ Some ((old ++ text) ++ line) = subst (λ (m : Told). IfSome m (λ x. after ≡ Some (x ++ line))) a p in
    q ∙ ap Some (append_assoc old text line)

puts_on : (lines : List Line) (line : Line) (before between after : SinkSeen) → PutsLines lines before between → Puts (Ok tt) line between after → PutsLines (lines ++ line ∷ []) before after
puts_on lines line before between after put one = record {
  taken = subst (λ (text : List ℕ). TakesAll text before.taken after.taken) (sym (bytes_of-push lines line)) (takes_on (bytes_of lines) line before.taken between.taken after.taken put.taken one.taken);
  puts = one.puts ∙ (ap raised put.puts ∙ sym (raised_for-push lines line before.puts));
  faults = one.faults ∙ put.faults;
  starved = one.starved ∙ put.starved;
}

pub takes_none : (told : Told) → TakesAll [] told told
takes_none None = tt
takes_none (Some old) = ap Some (sym (append-nil old))

-- nothing was put yet
pub put_none : (text : List ℕ) (sink : SinkSeen) → HasPut text 0 sink sink
put_none text sink = record {
  whole = [];
  lines = refl;
  taken = takes_none sink.taken;
  put = record { taken = takes_none sink.taken; puts = refl; faults = refl; starved = refl };
}

-- one more line was put
pub put_more : (text : List ℕ) (at end : ℕ) (before between after : SinkSeen) → at ≤ end → lines_of (drop at text) ≡ slice_range text at end ∷ lines_of (drop end text) → HasPut text at before between → Puts (Ok tt) (slice_range text at end) between after → HasPut text end before after
put_more text at end before between after h line put one = record {
  whole = put.whole ++ slice_range text at end ∷ [];
  lines = put.lines ∙ (ap (λ (ls : List Line). put.whole ++ ls) line ∙ sym (append_assoc put.whole (slice_range text at end ∷ []) (lines_of (drop end text))));
  taken = takes_more text at end before.taken between.taken after.taken h put.taken one.taken;
  put = puts_on put.whole (slice_range text at end) before between after put.put one;
}

-- all lines were put
pub put_all : (text : List ℕ) (at : ℕ) (before after : SinkSeen) → length text ≤ at → HasPut text at before after → PutsText text before after
put_all text at before after h put =
    let end : drop at text ≡ [] = drop_all at text h in
    let whole : put.whole ≡ lines_of text = sym (put.lines ∙ (ap (λ (rest : List ℕ). put.whole ++ lines_of rest) end ∙ append-nil put.whole)) in
    record {
      taken = subst (λ (all : List ℕ). TakesAll all before.taken after.taken) (take_all text at h) put.taken;
      lines = subst (λ (lines : List Line). PutsLines lines before after) whole put.put;
    }

-- the put of the next line was refused
pub put_cut : (fault : IoFault) (text : List ℕ) (at end : ℕ) (before between after : SinkSeen) → lines_of (drop at text) ≡ slice_range text at end ∷ lines_of (drop end text) → HasPut text at before between → Puts (Err fault) (slice_range text at end) between after → CutsOff fault text before after
put_cut fault text at end before between after line put one = record {
  whole = put.whole;
  cut = slice_range text at end;
  others = lines_of (drop end text);
  lines = put.lines ∙ ap (λ (ls : List Line). put.whole ++ ls) line;
  between = between;
  taken = put.put;
  refused = one;
  prefix = takes_prefix fault text at end before.taken between.taken after.taken put.taken one.taken;
}
