-- Values in the parts of a box, and parts within the box.
use Rattle.std.proofs.Common.{◌≡◌, ◌≢◌, ◌⊎◌, ℕ, ◌+◌, ◌-◌, ◌≤◌, ◌<◌, List, length, set, get_or, refl, sym, ap, ◌∙◌, inl, inr, ⊎_elim, arith, All}
use Rattle.std.proofs.lemmas.Bool.{cases_eq, cases_lt}
use Rattle.std.proofs.lemmas.List.{length-set}
use Rattle.packing_laws.specs.Instances.{IsAmong}
use Rattle.flow_graph.specs.Chords.{IsGenuine, high_part, low_part, range_at}
use Rattle.flow_graph.proofs.Points.{range_other, range_own}
use Rattle.flow_model.specs.Boxes.{BoxesSplit, InBox, IsInRange, IsInRangeOf, IsPartOf, whole, low, high, LieInOnePart, LiesWithin}

-- the range of arc b in a box where arc a has another range
range_there : (ranges : List (ℕ × ℕ)) (a : ℕ) (s : ℕ × ℕ) → IsAmong a (length ranges) → (b : ℕ) → 1 ≤ b → ((b ≡ a) × (range_at (set ranges (a - 1) s) b ≡ s)) ⊎ ((b ≢ a) × (range_at (set ranges (a - 1) s) b ≡ range_at ranges b))
range_there ranges a s among b from = ⊎_elim
    (λ same. inl (same, ap (range_at (set ranges (a - 1) s)) same ∙ range_own ranges a s among))
    (λ apart. inr (apart, range_other ranges a s b among.0 from apart))
    (cases_eq b a)

module _ (values : List ℕ) (ranges : List (ℕ × ℕ)) (a : ℕ) (among : IsAmong a (length ranges)) (s : ℕ × ℕ) where
  long : length (set ranges (a - 1) s) ≡ length ranges
  long = length-set ranges (a - 1) s

  into_part : InBox values ranges → IsInRange s (get_or values (a - 1) 0) → InBox values (set ranges (a - 1) s)
  into_part box own = record {
    size = box.size ∙ sym long;
    each = λ b within. ⊎_elim
        (λ here. let one = ap (λ (r : ℕ × ℕ). r.0) here.1 in let two = ap (λ (r : ℕ × ℕ). r.1) here.1 in let value : get_or values (b - 1) 0 ≡ get_or values (a - 1) 0 = ap (λ n. get_or values (n - 1) 0) here.0 in (omega (arith, one, value, own.0), omega (arith, two, value, own.1)))
        (λ there. let one = ap (λ (r : ℕ × ℕ). r.0) there.1 in let two = ap (λ (r : ℕ × ℕ). r.1) there.1 in let held = box.each b (within.0, omega (arith, within.1, long)) in (omega (arith, one, held.0), omega (arith, two, held.1)))
        (range_there ranges a s among b within.0);
  }

  of_part : InBox values (set ranges (a - 1) s) → IsInRange s (get_or values (a - 1) 0)
  of_part box =
      let held = box.each a (among.0, omega (arith, among.1, long)) in
      let same = range_own ranges a s among in
      let one = ap (λ (r : ℕ × ℕ). r.0) same in
      let two = ap (λ (r : ℕ × ℕ). r.1) same in
      (omega (arith, one, held.0), omega (arith, two, held.1))

  out_of_part : InBox values (set ranges (a - 1) s) → IsInRange (range_at ranges a) (get_or values (a - 1) 0) → InBox values ranges
  out_of_part box own = record {
    size = box.size ∙ long;
    each = λ b within. ⊎_elim
        (λ here. let range = ap (range_at ranges) here.0 in let one = ap (λ (r : ℕ × ℕ). r.0) range in let two = ap (λ (r : ℕ × ℕ). r.1) range in let value : get_or values (b - 1) 0 ≡ get_or values (a - 1) 0 = ap (λ n. get_or values (n - 1) 0) here.0 in (omega (arith, one, value, own.0), omega (arith, two, value, own.1)))
        (λ there. let one = ap (λ (r : ℕ × ℕ). r.0) there.1 in let two = ap (λ (r : ℕ × ℕ). r.1) there.1 in let held = box.each b (within.0, omega (arith, within.1, long)) in (omega (arith, one, held.0), omega (arith, two, held.1)))
        (range_there ranges a s among b within.0);
  }

one_part : (values : List ℕ) (ranges : List (ℕ × ℕ)) (a k : ℕ) → IsGenuine ranges a k → LieInOnePart values ranges a k
one_part values ranges a k is =
    let r : ℕ × ℕ = range_at ranges a in
    let v : ℕ = get_or values (a - 1) 0 in
    let least = is.low in
    let most = is.high in
    record {
      either = λ box.
          let held = box.each a is.arc in
          ⊎_elim
          (λ above. inr (into_part values ranges a is.arc (k + 1, r.1) box (omega (arith, above), held.1)))
          (λ below. inl (into_part values ranges a is.arc (r.0, k) box (held.0, omega (arith, below))))
          (cases_lt k v);
      apart = λ left right.
          let one = of_part values ranges a is.arc (r.0, k) left in
          let two = of_part values ranges a is.arc (k + 1, r.1) right in
          omega (arith, one.1, two.0);
      low = λ box.
          let own = of_part values ranges a is.arc (r.0, k) box in
          out_of_part values ranges a is.arc (r.0, k) box (own.0, omega (arith, own.1, most));
      high = λ box.
          let own = of_part values ranges a is.arc (k + 1, r.1) box in
          out_of_part values ranges a is.arc (k + 1, r.1) box (omega (arith, own.0, least), own.1);
    }

-- a smaller range for one arc
smaller : (ranges root : List (ℕ × ℕ)) (a : ℕ) (s : ℕ × ℕ) → LiesWithin ranges root → IsAmong a (length ranges) → (range_at ranges a).0 ≤ s.0 → s.0 ≤ s.1 → s.1 ≤ (range_at ranges a).1 → LiesWithin (set ranges (a - 1) s) root
smaller ranges root a s lies among least order most =
    let arc : IsAmong a (length root) = let size = lies.size in (among.0, omega (arith, among.1, size)) in
    record {
      size = length-set ranges (a - 1) s ∙ lies.size;
      low = λ b within. ⊎_elim
          (λ here. let range = ap (λ (r : ℕ × ℕ). r.0) here.1 in let whole = ap (λ n. (range_at root n).0) here.0 in let own = lies.low a arc in omega (arith, range, whole, own, least))
          (λ there. let range = ap (λ (r : ℕ × ℕ). r.0) there.1 in let own = lies.low b within in omega (arith, range, own))
          (range_there ranges a s among b within.0);
      order = λ b within. ⊎_elim
          (λ here. let one = ap (λ (r : ℕ × ℕ). r.0) here.1 in let two = ap (λ (r : ℕ × ℕ). r.1) here.1 in omega (arith, one, two, order))
          (λ there. let one = ap (λ (r : ℕ × ℕ). r.0) there.1 in let two = ap (λ (r : ℕ × ℕ). r.1) there.1 in let own = lies.order b within in omega (arith, one, two, own))
          (range_there ranges a s among b within.0);
      high = λ b within. ⊎_elim
          (λ here. let range = ap (λ (r : ℕ × ℕ). r.1) here.1 in let whole = ap (λ n. (range_at root n).1) here.0 in let own = lies.high a arc in omega (arith, range, whole, own, most))
          (λ there. let range = ap (λ (r : ℕ × ℕ). r.1) there.1 in let own = lies.high b within in omega (arith, range, own))
          (range_there ranges a s among b within.0);
    }

within_root : (root ranges : List (ℕ × ℕ)) → All (λ r. r.0 ≤ r.1) root → IsPartOf root ranges → LiesWithin ranges root
within_root root ranges all whole = record {
  size = refl;
  low = λ a among. omega arith;
  order = λ a among. all (a - 1) (0, 0) (omega (arith, among.0, among.1));
  high = λ a among. omega arith;
}
within_root root ranges all (low before a k part is) =
    let most = is.high in
    smaller before root a ((range_at before a).0, k) (within_root root before all part) is.arc (omega arith) is.low (omega (arith, most))
within_root root ranges all (high before a k part is) =
    let least = is.low in
    smaller before root a (k + 1, (range_at before a).1) (within_root root before all part) is.arc (omega (arith, least)) (let most = is.high in omega (arith, most)) (omega arith)

pub boxes_split : BoxesSplit
boxes_split = record { values = one_part; parts = within_root }
