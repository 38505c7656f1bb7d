-- Bins that are trimmed one after the other.
use Rattle.std.proofs.Common.{◌≡◌, ℕ, ◌+◌, ◌-◌, ◌*◌, ◌<◌, ◌≤◌, Bool, cond, ◌==◌, List, [], ◌∷◌, ◌++◌, length, get_or, take, refl, sym, ap, ◌∙◌, subst, ⊎_elim, arith, All}
use Rattle.std.proofs.lemmas.Bool.{cases_lt, ne_eqb}
use Rattle.std.proofs.lemmas.List.{append-nil, get_or_append_left, get_or_push, length_push}
use Rattle.std.proofs.lemmas.List.Sums.{sum_by-cons, sum_by_push}
use Rattle.std.proofs.lemmas.List.Elements.{All-nil, All-push, All-weaker, All-head, All-tail, All-more}
use Rattle.packing_laws.specs.declared.packings.Count.{Count}
use Rattle.packing_laws.specs.declared.packings.Bin.{Bin}
use Rattle.packing_laws.specs.Instances.{InstanceValue, IsAmong, item_at}
use Rattle.packing_laws.specs.Packings.{Content, count_of_item}
use Rattle.pattern_extract.specs.Trims.{held, surplus_at, refilled, IsReduced, IsUsedBin, IsLean, AreParts, AreTrimmed, IsTrimmedOn, MeetDemands}
use Rattle.pattern_extract.proofs.Parts.{parts-own, parts-done, parts-split}

pub all-front : {X : Type 0} (P : X → Type 0) (xs : List X) (x : X) → All P (xs ++ x ∷ []) → All P xs
all-front P xs x all k d within =
    let long : length (xs ++ x ∷ []) ≡ length xs + 1 = length_push xs x in
    subst P (get_or_append_left xs (x ∷ []) d k within) (all k d (omega (arith, within, long)))

pub all-last : {X : Type 0} (P : X → Type 0) (xs : List X) (x : X) → All P (xs ++ x ∷ []) → P x
all-last P xs x all =
    let long : length (xs ++ x ∷ []) ≡ length xs + 1 = length_push xs x in
    subst P (get_or_push xs x x (length xs) refl) (all (length xs) x (omega (arith, long)))

pub lean-still : (before after : List ℕ) (done : List Bin) → ((k : ℕ) → get_or after k 0 ≤ get_or before k 0) → All (IsLean before) done → All (IsLean after) done
lean-still before after done falls lean = All-weaker (IsLean before) (IsLean after) (λ b own. λ k d within. let none = own k d within in let fall = falls ((get_or b.counts k d).item - 1) in omega (arith, none, fall)) done lean

module _ (I : InstanceValue) (given pending done : List Bin) (before after : List ℕ) (b : Bin) (kept : Content) (size : length after ≡ length before) (reduced : IsReduced b.times b.counts kept before after) (trimmed : AreTrimmed I given (pending ++ b ∷ []) done before) where
  last : IsUsedBin I b
  last = all-last (IsUsedBin I) pending b trimmed.waiting

  front : All (IsUsedBin I) pending
  front = all-front (IsUsedBin I) pending b trimmed.waiting

  used-is : (times : ℕ) → 1 ≤ times → IsUsedBin I (refilled b times kept)
  used-is times once = record { times = once; fits = reduced.fits I b.bin_type last.fits }

  counted : (i : ℕ) → IsAmong i (length I.items) → held i pending + b.times * count_of_item i kept + held i done ≡ (item_at I i).demand + surplus_at after i
  counted i among =
      let own = reduced.units i among.0 in
      let all = trimmed.units i among in
      let pushed = sum_by_push (λ (c : Bin). c.times * count_of_item i c.counts) pending b in
      omega (arith, own, all, pushed)

  pub trimmed-done : All (λ n. surplus_at after n.item ≡ 0) kept → AreTrimmed I given pending (done ++ refilled b b.times kept ∷ []) after
  trimmed-done lean = record {
    size = size ∙ trimmed.size;
    waiting = front;
    ready = All-push (IsUsedBin I) done (refilled b b.times kept) trimmed.ready (used-is b.times last.times);
    lean = All-push (IsLean after) done (refilled b b.times kept) (lean-still before after done reduced.falls trimmed.lean) lean;
    types = λ w.
        let all = trimmed.types w in
        let pushed = sum_by_push (λ (c : Bin). c.times * w c.bin_type) pending b in
        let more = sum_by_push (λ (c : Bin). c.times * w c.bin_type) done (refilled b b.times kept) in
        omega (arith, all, pushed, more);
    parts = parts-done given pending done b kept reduced.below trimmed.parts;
    units = λ i among.
        let all = counted i among in
        let more = sum_by_push (λ (c : Bin). c.times * count_of_item i c.counts) done (refilled b b.times kept) in
        omega (arith, all, more);
  }

  parts : (s w : ℕ) → s < b.times → (b.times - s) * w + s * w ≡ b.times * w
  parts s w less =
      let rest : ℕ = b.times - s in
      let whole : b.times ≡ rest + s = omega (arith, less) in
      let split : (rest + s) * w ≡ rest * w + s * w = omega arith in
      sym split ∙ ap (λ (n : ℕ). n * w) (sym whole)

  pub trimmed-split : (s : ℕ) → 0 < s → s < b.times → AreTrimmed I given ((pending ++ refilled b (b.times - s) kept ∷ []) ++ refilled b s kept ∷ []) done after
  trimmed-split s some less = record {
    size = size ∙ trimmed.size;
    waiting = All-push (IsUsedBin I) (pending ++ refilled b (b.times - s) kept ∷ []) (refilled b s kept)
        (All-push (IsUsedBin I) pending (refilled b (b.times - s) kept) front (used-is (b.times - s) (omega (arith, less)))) (used-is s some);
    ready = trimmed.ready;
    lean = lean-still before after done reduced.falls trimmed.lean;
    types = λ w.
        let all = trimmed.types w in
        let pushed = sum_by_push (λ (c : Bin). c.times * w c.bin_type) pending b in
        let one = sum_by_push (λ (c : Bin). c.times * w c.bin_type) pending (refilled b (b.times - s) kept) in
        let two = sum_by_push (λ (c : Bin). c.times * w c.bin_type) (pending ++ refilled b (b.times - s) kept ∷ []) (refilled b s kept) in
        let both = parts s (w b.bin_type) less in
        omega (arith, all, pushed, one, two, both);
    parts = parts-split given pending done b kept reduced.below s less trimmed.parts;
    units = λ i among.
        let all = counted i among in
        let one = sum_by_push (λ (c : Bin). c.times * count_of_item i c.counts) pending (refilled b (b.times - s) kept) in
        let two = sum_by_push (λ (c : Bin). c.times * count_of_item i c.counts) (pending ++ refilled b (b.times - s) kept ∷ []) (refilled b s kept) in
        let both = parts s (count_of_item i kept) less in
        omega (arith, all, one, two, both);
  }

pub done-on : (pending done : List Bin) (before after : List ℕ) (b : Bin) (kept : Content) (p d : List Bin) (c : Content) → length after ≡ length before → IsReduced b.times b.counts kept before after → All (λ n. surplus_at after n.item ≡ 0) kept → p ≡ pending → d ≡ done ++ refilled b b.times c ∷ [] → c ≡ kept → IsTrimmedOn (pending ++ b ∷ []) done before p d after
done-on pending done before after b kept p d c size reduced lean p-is d-is c-is I given trimmed =
    let all = trimmed-done I given pending done before after b kept size reduced trimmed lean in
    let whole : d ≡ done ++ refilled b b.times kept ∷ [] = d-is ∙ ap (λ (x : Content). done ++ refilled b b.times x ∷ []) c-is in
    subst (λ (q : List Bin). AreTrimmed I given q d after) (sym p-is) (subst (λ (q : List Bin). AreTrimmed I given pending q after) (sym whole) all)

pub split-on : (pending done : List Bin) (before after : List ℕ) (b : Bin) (kept : Content) (s : ℕ) (p d : List Bin) → length after ≡ length before → IsReduced b.times b.counts kept before after → 0 < s → s < b.times → p ≡ (pending ++ refilled b (b.times - s) kept ∷ []) ++ refilled b s kept ∷ [] → d ≡ done → IsTrimmedOn (pending ++ b ∷ []) done before p d after
split-on pending done before after b kept s p d size reduced some less p-is d-is I given trimmed =
    let all = trimmed-split I given pending done before after b kept size reduced trimmed s some less in
    subst (λ (q : List Bin). AreTrimmed I given p q after) (sym d-is) (subst (λ (q : List Bin). AreTrimmed I given q done after) (sym p-is) all)

-- nothing is trimmed yet
pub trimmed-none : (I : InstanceValue) (bins : List Bin) (surplus : List ℕ) → length surplus ≡ length I.items → All (IsUsedBin I) bins → ((i : ℕ) → IsAmong i (length I.items) → held i bins ≡ (item_at I i).demand + surplus_at surplus i) → AreTrimmed I bins bins [] surplus
trimmed-none I bins surplus size each units = record {
  size = size;
  waiting = each;
  ready = All-nil (IsUsedBin I);
  lean = All-nil (IsLean surplus);
  types = λ w. omega arith;
  parts = subst (AreParts bins) (sym (append-nil bins)) (parts-own bins);
  units = λ i among. let all = units i among in omega (arith, all);
}

-- where something is surplus of an item, lean bins do not hold it
pub lean-content : (surplus : List ℕ) (i : ℕ) (c : Content) → 0 < surplus_at surplus i → All (λ n. surplus_at surplus n.item ≡ 0) c → count_of_item i c ≡ 0
lean-content surplus i [] some lean = refl
lean-content surplus i (n ∷ c) some lean =
    let rest = lean-content surplus i c some (All-tail (λ n. surplus_at surplus n.item ≡ 0) n c lean) in
    let first : surplus_at surplus n.item ≡ 0 = All-head (λ n. surplus_at surplus n.item ≡ 0) n c lean in
    let none : cond {A = ℕ} (n.item == i) n.count 0 ≡ 0 = ap (λ (b : Bool). cond {A = ℕ} b n.count 0) (ne_eqb n.item i (λ e. let here : surplus_at surplus i ≡ 0 = subst (λ (j : ℕ). surplus_at surplus j ≡ 0) e first in omega (arith, here, some))) in
    let split = sum_by-cons (λ (m : Count). cond (m.item == i) m.count 0) n c in
    omega (arith, rest, none, split)

pub lean-held : (surplus : List ℕ) (i : ℕ) (bins : List Bin) → 0 < surplus_at surplus i → All (IsLean surplus) bins → held i bins ≡ 0
lean-held surplus i [] some lean = refl
lean-held surplus i (b ∷ bins) some lean =
    let rest = lean-held surplus i bins some (All-tail (IsLean surplus) b bins lean) in
    let none : b.times * count_of_item i b.counts ≡ b.times * 0 = ap (λ (n : ℕ). b.times * n) (lean-content surplus i b.counts some (All-head (IsLean surplus) b bins lean)) in
    let split = sum_by-cons (λ (c : Bin). c.times * count_of_item i c.counts) b bins in
    omega (arith, rest, none, split)

-- all is trimmed
pub trimmed-all : (I : InstanceValue) (given done : List Bin) (surplus : List ℕ) → AreTrimmed I given [] done surplus → MeetDemands I given done
trimmed-all I given done surplus trimmed = record {
  each = trimmed.ready;
  types = λ w. let all = trimmed.types w in omega (arith, all);
  parts = trimmed.parts;
  units = λ i among.
      let all = trimmed.units i among in
      ⊎_elim
      (λ some. let none = lean-held surplus i done some trimmed.lean in absurd (omega (arith, all, none, some)))
      (λ none. omega (arith, all, none))
      (cases_lt 0 (surplus_at surplus i));
}

pub lean-more : (surplus : List ℕ) (c : Content) (n : ℕ) (d : Count) → n < length c → All (λ m. surplus_at surplus m.item ≡ 0) (take n c) → surplus_at surplus (get_or c n d).item ≤ 0 → All (λ m. surplus_at surplus m.item ≡ 0) (take (n + 1) c)
lean-more surplus c n d within lean here = All-more (λ m. surplus_at surplus m.item ≡ 0) c n d within lean (omega (arith, here))
