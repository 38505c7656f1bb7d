-- Bins that are parts of given ones.
use Rattle.std.proofs.Common.{suc, zero, ◌≡◌, ℕ, ◌+◌, ◌-◌, ◌<◌, Bool, true, false, cond, ◌==◌, List, [], ◌∷◌, ◌++◌, map, refl, sym, ap, ◌∙◌, subst, append_assoc, arith, All, ⊎_elim}
use Rattle.std.specs.Prelude.{Some, slice_get}
use Rattle.std.proofs.lemmas.Bool.{cases_eq, eq-eqb, ne_eqb}
use Rattle.std.proofs.lemmas.List.{map-append}
use Rattle.std.proofs.lemmas.List.Sums.{sum_by-cons, sum_by-append}
use Rattle.std.proofs.lemmas.List.Elements.{All-nil, All-cons, All-append, All-head, All-tail, All-map, All-weaker}
use Rattle.packing_laws.specs.declared.packings.Bin.{Bin}
use Rattle.packing_laws.specs.Packings.{Content, count_of_form}
use Rattle.pattern_extract.specs.Trims.{refilled, IsBelow, IsBinPart, times_of, AreParts}

abbrev pub Part : Type 0
Part = ℕ × Bin

abbrev pub bin_in : Part → Bin
bin_in part = part.1

-- the times of a part, where it is of the bin at this place
abbrev pub times_at : ℕ → Part → ℕ
times_at place part = cond (part.0 == place) part.1.times 0

-- each given bin is a part of itself

abbrev pub next : Part → Part
next part = (suc part.0, part.1)

abbrev pub own_parts : List Bin → List Part
own_parts [] = []
own_parts (b ∷ bins) = (0, b) ∷ map next (own_parts bins)

pub next-bins : (parts : List Part) → map bin_in (map next parts) ≡ map bin_in parts
next-bins [] = refl
next-bins (part ∷ parts) = ap (λ (z : List Bin). part.1 ∷ z) (next-bins parts)

pub own-bins : (bins : List Bin) → map bin_in (own_parts bins) ≡ bins
own-bins [] = refl
own-bins (b ∷ bins) = ap (λ (z : List Bin). b ∷ z) (next-bins (own_parts bins) ∙ own-bins bins)

pub next-part : (b : Bin) (bins : List Bin) (part : Part) → IsBinPart bins part → IsBinPart (b ∷ bins) (next part)
next-part b bins part is = record { whole = is.whole; there = is.there; same_type = is.same_type; below = is.below }

pub own-each : (bins : List Bin) → All (IsBinPart bins) (own_parts bins)
own-each [] = All-nil (IsBinPart [])
own-each (b ∷ bins) =
    All-cons (IsBinPart (b ∷ bins)) (0, b) (map next (own_parts bins)) (record { whole = b; there = refl; same_type = refl; below = λ i f. omega arith })
    (All-map (IsBinPart (b ∷ bins)) next (own_parts bins) (All-weaker (IsBinPart bins) (λ part. IsBinPart (b ∷ bins) (next part)) (λ part is. next-part b bins part is) (own_parts bins) (own-each bins)))

pub none-first : (parts : List Part) → times_of 0 (map next parts) ≡ 0
none-first [] = refl
none-first (part ∷ parts) =
    let rest = none-first parts in
    let split = sum_by-cons (times_at 0) (next part) (map next parts) in
    let none : times_at 0 (next part) ≡ 0 = ap (λ (b : Bool). cond {A = ℕ} b part.1.times 0) (ne_eqb (suc part.0) 0 (λ h. omega (arith, h))) in
    omega (arith, rest, split, none)

pub same-later : (place : ℕ) (part : Part) → times_at (suc place) (next part) ≡ times_at place part
same-later place part = ⊎_elim
    (λ e. rw (eq-eqb part.0 place e, eq-eqb (suc part.0) (suc place) (ap suc e)) refl)
    (λ apart. rw (ne_eqb part.0 place apart, ne_eqb (suc part.0) (suc place) (λ h. apart (omega (arith, h)))) refl)
    (cases_eq part.0 place)

pub later-times : (place : ℕ) (parts : List Part) → times_of (suc place) (map next parts) ≡ times_of place parts
later-times place [] = refl
later-times place (part ∷ parts) =
    let rest = later-times place parts in
    let one = sum_by-cons (times_at (suc place)) (next part) (map next parts) in
    let two = sum_by-cons (times_at place) part parts in
    let same = same-later place part in
    omega (arith, rest, one, two, same)

pub some-bin : (x y : Bin) → Some x ≡ Some y → x ≡ y
some-bin x y h = cc

pub own-times : (bins : List Bin) (place : ℕ) (whole : Bin) → slice_get bins place ≡ Some whole → times_of place (own_parts bins) ≡ whole.times
own-times [] place whole there = absurd (cc)
own-times (b ∷ bins) zero whole there =
    let split = sum_by-cons (times_at 0) (0, b) (map next (own_parts bins)) in
    let none = none-first (own_parts bins) in
    let same : b.times ≡ whole.times = ap (λ (z : Bin). z.times) (some-bin b whole there) in
    omega (arith, split, none, same)
own-times (b ∷ bins) (suc place) whole there =
    let split = sum_by-cons (times_at (suc place)) (0, b) (map next (own_parts bins)) in
    let later = later-times place (own_parts bins) in
    let rest = own-times bins place whole there in
    let none : times_at (suc place) (0, b) ≡ 0 = ap (λ (x : Bool). cond {A = ℕ} x b.times 0) (ne_eqb 0 (suc place) (λ h. omega (arith, h))) in
    omega (arith, split, later, rest, none)

pub parts-own : (bins : List Bin) → AreParts bins bins
parts-own bins = record { parts = own_parts bins; all = own-bins bins; each = own-each bins; times = own-times bins }

-- one bin among others

pub record IsCut (parts : List Part) (front : List Bin) (b : Bin) (behind : List Bin) : Type 0 where
  pub before : List Part
  pub part : Part
  pub after : List Part
  pub whole : parts ≡ before ++ part ∷ after
  pub front_is : map bin_in before ≡ front
  pub part_is : part.1 ≡ b
  pub behind_is : map bin_in after ≡ behind

pub cut : (parts : List Part) (front : List Bin) (b : Bin) (behind : List Bin) → map bin_in parts ≡ front ++ b ∷ behind → IsCut parts front b behind
cut [] [] b behind h = absurd (cc)
cut [] (x ∷ front) b behind h = absurd (cc)
cut (part ∷ parts) [] b behind h = record { before = []; part = part; after = parts; whole = refl; front_is = refl; part_is = cc; behind_is = cc }
cut (part ∷ parts) (x ∷ front) b behind h =
    let first : part.1 ≡ x = cc in
    let others : map bin_in parts ≡ front ++ b ∷ behind = cc in
    let rest = cut parts front b behind others in
    record {
      before = part ∷ rest.before;
      part = rest.part;
      after = rest.after;
      whole = ap (λ (z : List Part). part ∷ z) rest.whole;
      front_is = (λ i. first i ∷ rest.front_is i);
      part_is = rest.part_is;
      behind_is = rest.behind_is;
    }

pub all-front : {X : Type 0} (P : X → Type 0) (xs ys : List X) → All P (xs ++ ys) → All P xs
all-front P [] ys all = All-nil P
all-front P (x ∷ xs) ys all = All-cons P x xs (All-head P x (xs ++ ys) all) (all-front P xs ys (All-tail P x (xs ++ ys) all))

pub all-behind : {X : Type 0} (P : X → Type 0) (xs ys : List X) → All P (xs ++ ys) → All P ys
all-behind P [] ys all = all
all-behind P (x ∷ xs) ys all = all-behind P xs ys (All-tail P x (xs ++ ys) all)

-- fewer units of a part are a part
pub part-below : (given : List Bin) (place times : ℕ) (b : Bin) (kept : Content) (part : Part) → part.0 ≡ place → part.1 ≡ b → IsBelow kept b.counts → IsBinPart given part → IsBinPart given (place, refilled b times kept)
part-below given place times b kept part at is below own = record {
  whole = own.whole;
  there = ap (slice_get given) (sym at) ∙ own.there;
  same_type = ap (λ (z : Bin). z.bin_type) (sym is) ∙ own.same_type;
  below = λ i f. let one = below i f in let two = own.below i f in let same : count_of_form i f part.1.counts ≡ count_of_form i f b.counts = ap (λ (z : Bin). count_of_form i f z.counts) is in omega (arith, one, two, same);
}

pub shared : (t : Bool) (a b c : ℕ) → a + b ≡ c → cond t a 0 + cond t b 0 ≡ cond {A = ℕ} t c 0
shared true a b c e = e
shared false a b c e = omega arith

pub times-cut : (place : ℕ) (before : List Part) (part : Part) (after : List Part) → times_of place (before ++ part ∷ after) ≡ times_of place before + (times_at place part + times_of place after)
times-cut place before part after =
    let one = sum_by-append (times_at place) before (part ∷ after) in
    let two = sum_by-cons (times_at place) part after in
    omega (arith, one, two)

module _ (given pending done : List Bin) (b : Bin) (kept : Content) (below : IsBelow kept b.counts) where
  -- the bin is done
  pub parts-done : AreParts given ((pending ++ b ∷ []) ++ done) → AreParts given (pending ++ (done ++ refilled b b.times kept ∷ []))
  parts-done old =
      let c = cut old.parts pending b done (old.all ∙ append_assoc pending (b ∷ []) done) in
      let new : Part = (c.part.0, refilled b b.times kept) in
      let split = subst (λ (z : List Part). All (IsBinPart given) z) c.whole old.each in
      let rest = all-behind (IsBinPart given) c.before (c.part ∷ c.after) split in
      record {
        parts = c.before ++ (c.after ++ new ∷ []);
        all = map-append bin_in c.before (c.after ++ new ∷ []) ∙ (λ i. c.front_is i ++ (map-append bin_in c.after (new ∷ []) ∙ ap (λ (z : List Bin). z ++ refilled b b.times kept ∷ []) c.behind_is) i);
        each = All-append (IsBinPart given) c.before (c.after ++ new ∷ []) (all-front (IsBinPart given) c.before (c.part ∷ c.after) split)
            (All-append (IsBinPart given) c.after (new ∷ []) (All-tail (IsBinPart given) c.part c.after rest)
            (All-cons (IsBinPart given) new [] (part-below given c.part.0 b.times b kept c.part refl c.part_is below (All-head (IsBinPart given) c.part c.after rest)) (All-nil (IsBinPart given))));
        times = λ place whole there.
            let was = sym (ap (times_of place) c.whole) ∙ old.times place whole there in
            let one = times-cut place c.before c.part c.after in
            let two = sum_by-append (times_at place) c.before (c.after ++ new ∷ []) in
            let three = times-cut place c.after new [] in
            let none : times_of place [] ≡ 0 = refl in
            let same : times_at place c.part ≡ times_at place new = ap (λ (z : Bin). cond {A = ℕ} (c.part.0 == place) z.times 0) c.part_is in
            omega (arith, was, one, two, three, none, same);
      }

  -- the bin is split
  pub parts-split : (s : ℕ) → s < b.times → AreParts given ((pending ++ b ∷ []) ++ done) → AreParts given (((pending ++ refilled b (b.times - s) kept ∷ []) ++ refilled b s kept ∷ []) ++ done)
  parts-split s less old =
      let c = cut old.parts pending b done (old.all ∙ append_assoc pending (b ∷ []) done) in
      let first : Part = (c.part.0, refilled b (b.times - s) kept) in
      let second : Part = (c.part.0, refilled b s kept) in
      let split = subst (λ (z : List Part). All (IsBinPart given) z) c.whole old.each in
      let rest = all-behind (IsBinPart given) c.before (c.part ∷ c.after) split in
      let own = All-head (IsBinPart given) c.part c.after rest in
      let one_bin = refilled b (b.times - s) kept in
      let two_bin = refilled b s kept in
      let order : ((pending ++ one_bin ∷ []) ++ two_bin ∷ []) ++ done ≡ pending ++ (one_bin ∷ two_bin ∷ done) =
      append_assoc (pending ++ one_bin ∷ []) (two_bin ∷ []) done ∙ append_assoc pending (one_bin ∷ []) (two_bin ∷ done) in
      record {
        parts = c.before ++ (first ∷ second ∷ c.after);
        all = map-append bin_in c.before (first ∷ second ∷ c.after) ∙ (λ i. c.front_is i ++ (one_bin ∷ two_bin ∷ c.behind_is i)) ∙ sym order;
        each = All-append (IsBinPart given) c.before (first ∷ second ∷ c.after) (all-front (IsBinPart given) c.before (c.part ∷ c.after) split)
            (All-cons (IsBinPart given) first (second ∷ c.after) (part-below given c.part.0 (b.times - s) b kept c.part refl c.part_is below own)
            (All-cons (IsBinPart given) second c.after (part-below given c.part.0 s b kept c.part refl c.part_is below own) (All-tail (IsBinPart given) c.part c.after rest)));
        times = λ place whole there.
            let was = sym (ap (times_of place) c.whole) ∙ old.times place whole there in
            let one = times-cut place c.before c.part c.after in
            let two = times-cut place c.before first (second ∷ c.after) in
            let three = sum_by-cons (times_at place) second c.after in
            let same : times_at place c.part ≡ cond {A = ℕ} (c.part.0 == place) b.times 0 = ap (λ (z : Bin). cond {A = ℕ} (c.part.0 == place) z.times 0) c.part_is in
            let sum : cond {A = ℕ} (c.part.0 == place) (b.times - s) 0 + cond {A = ℕ} (c.part.0 == place) s 0 ≡ cond {A = ℕ} (c.part.0 == place) b.times 0 = shared (c.part.0 == place) (b.times - s) s b.times (omega (arith, less)) in
            omega (arith, was, one, two, three, same, sum);
      }
