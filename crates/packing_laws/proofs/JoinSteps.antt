-- Steps of joining: a bin is joined with one that is done, or with its like, or is done.
use Rattle.std.proofs.Common.{zero, suc, ◌≡◌, ℕ, ◌+◌, ◌-◌, ◌*◌, ◌/◌, ◌%◌, ◌^◌, ◌<◌, ◌≤◌, ◌∙◌, ◌⊎◌, inl, inr, List, [], ◌∷◌, ◌++◌, length, set, min, All, sum_by, refl, sym, ap, subst, arith, get_or, length-append}
use Rattle.std.proofs.lemmas.Bool.{cases_eq}
use Rattle.std.proofs.lemmas.List.{get_or-set_same, get_or-set_other, get_or_default, length-set}
use Rattle.std.proofs.lemmas.List.Elements.{All-append, All-push, All-set}
use Rattle.std.proofs.lemmas.List.Quantifiers.{all_pairs_push}
use Rattle.std.proofs.lemmas.List.Sums.{sum_by-append, sum_by_push, sum_by-set, get_or-le-sum_by}
use Rattle.std.proofs.Math.Nat.{mul-le-mul_right}
use Rattle.arc_num.specs.declared.TheConstants.{MAX_UNITS}
use Rattle.packing_laws.specs.declared.packings.Bin.{Bin}
use Rattle.packing_laws.specs.Instances.{InstanceValue, IsInstance}
use Rattle.packing_laws.specs.Packings.{Content, Fits}
use Rattle.packing_laws.specs.Printed.{units_in, IsWrittenPacking}
use Rattle.packing_laws.specs.inner.Joining.{StayApart, AreApart, AreJoined, IsSharedType, IsPartner, IsMadeOf, IsStep}
use Rattle.packing_laws.proofs.TidyLaws.{same-fits}
use Rattle.packing_laws.proofs.WrittenUnits.{written-units}
use Rattle.packing_laws.proofs.BinTotals.{pair_of, at_times, total, in_type, of_item, priced, total-three, kept, exchanged, exchange-with, exchange-alike}

-- a bin as it is written fits
abbrev FitsItsType : InstanceValue → Bin → Type 0
FitsItsType I b = Fits I b.bin_type b.counts

All-left : {X : Type 0} (P : X → Type 0) (xs ys : List X) → All P (xs ++ ys) → All P xs
All-left P [] ys all k d within = absurd (omega arith)
All-left P (x ∷ xs) ys all zero d within = all zero d (omega arith)
All-left P (x ∷ xs) ys all (suc k) d within = All-left P xs ys (λ j e inside. all (suc j) e (omega arith)) k d (omega arith)

All-right : {X : Type 0} (P : X → Type 0) (xs ys : List X) → All P (xs ++ ys) → All P ys
All-right P [] ys all = all
All-right P (x ∷ xs) ys all = All-right P xs ys (λ j e inside. all (suc j) e (omega arith))

All-last : {X : Type 0} (P : X → Type 0) (xs : List X) (x : X) → All P (xs ++ x ∷ []) → P x
All-last P xs x all = All-right P xs (x ∷ []) all zero x (omega arith)

module _ (I : InstanceValue) (waiting done : List Bin) (b : Bin) (packing : IsWrittenPacking I ((waiting ++ b ∷ []) ++ done)) where
  pub waiting-fit : All (FitsItsType I) waiting
  waiting-fit = All-left (FitsItsType I) waiting (b ∷ []) (All-left (FitsItsType I) (waiting ++ b ∷ []) done packing.fits)

  pub bin-fits : FitsItsType I b
  bin-fits = All-last (FitsItsType I) waiting b (All-left (FitsItsType I) (waiting ++ b ∷ []) done packing.fits)

  pub done-fit : All (FitsItsType I) done
  done-fit = All-right (FitsItsType I) (waiting ++ b ∷ []) done packing.fits

  units-three : IsInstance I → sum_by (λ c. c.times * units_in c.counts) waiting + b.times * units_in b.counts + sum_by (λ c. c.times * units_in c.counts) done ≤ MAX_UNITS
  units-three inside =
      let whole : total (λ c. units_in c.1) ((waiting ++ b ∷ []) ++ done) ≡ total (λ c. units_in c.1) waiting + b.times * units_in b.counts + total (λ c. units_in c.1) done = total-three (λ c. units_in c.1) waiting done b in
      let most : total (λ c. units_in c.1) ((waiting ++ b ∷ []) ++ done) ≤ MAX_UNITS = written-units I ((waiting ++ b ∷ []) ++ done) inside packing in
      omega arith

  -- the units of a bin that is done and of this one
  pub both-small : IsInstance I → (k : ℕ) (d : Bin) → k < length done → 0 < b.times → 0 < (get_or done k d).times → units_in (get_or done k d).counts + units_in b.counts < 2 ^ 32
  both-small inside k d within used also =
      let f : Bin → ℕ = λ c. c.times * units_in c.counts in
      let y : Bin = get_or done k d in
      let most : sum_by f waiting + f b + sum_by f done ≤ MAX_UNITS = units-three inside in
      let part : f y ≤ sum_by f done = get_or-le-sum_by f done k d within in
      let own : 1 * units_in b.counts ≤ b.times * units_in b.counts = mul-le-mul_right (units_in b.counts) used in
      let its : 1 * units_in y.counts ≤ y.times * units_in y.counts = mul-le-mul_right (units_in y.counts) also in
      omega arith

  -- the units of two bins that are written as one
  pub alike-small : IsInstance I → 1 < b.times → units_in b.counts + units_in b.counts < 2 ^ 32
  alike-small inside used =
      let f : Bin → ℕ = λ c. c.times * units_in c.counts in
      let most : sum_by f waiting + f b + sum_by f done ≤ MAX_UNITS = units-three inside in
      let own : 2 * units_in b.counts ≤ b.times * units_in b.counts = mul-le-mul_right (units_in b.counts) used in
      omega arith

-- a bin that holds what two held fits
made-fits : (I : InstanceValue) (b c z : Bin) (t m : ℕ) → IsSharedType I b c t → IsMadeOf t m b.counts c.counts z → FitsItsType I z
made-fits I b c z t m shared made = subst (λ u. Fits I u z.counts) (sym made.bin_type) (same-fits I t (b.counts ++ c.counts) z.counts made.same made.content.positive shared.fits)

-- bins that are done, of which one is used fewer times
fewer-joined : (I : InstanceValue) (done : List Bin) (k n : ℕ) (d : Bin) → k < length done → n ≤ (get_or done k d).times → AreJoined I done → AreJoined I (set done k (at_times (get_or done k d) n))
fewer-joined I done k n d within fewer joined =
    let y : Bin = get_or done k d in
    let x : Bin = at_times y n in
    let size : length (set done k x) ≡ length done = length-set done k x in
    record {
      pairs = λ i j e below inside.
          let default : get_or done k e ≡ y = get_or_default done k e d within in
          let there : AreApart I (get_or done i e) (get_or done j e) = joined.pairs i j e below (omega (arith, size, inside)) in
          elim (cases_eq i k) [
            | inl first ↦
                let new : get_or (set done k x) i e ≡ x = ap (λ m. get_or (set done k x) m e) first ∙ get_or-set_same done k x e within in
                let other : get_or (set done k x) j e ≡ get_or done j e = get_or-set_other done k j x e (λ same. omega (arith, same, first, below)) in
                let old : get_or done i e ≡ y = ap (λ m. get_or done m e) first ∙ default in
                let moved : AreApart I y (get_or done j e) = subst (λ (c : Bin). AreApart I c (get_or done j e)) old there in
                subst (λ (c : Bin). AreApart I c (get_or (set done k x) j e)) (sym new) (subst (λ (c : Bin). AreApart I x c) (sym other) (λ used also. moved (omega (arith, used, fewer)) also))
            | inr apart ↦
                let same : get_or (set done k x) i e ≡ get_or done i e = get_or-set_other done k i x e apart in
                elim (cases_eq j k) [
                  | inl second ↦
                      let new : get_or (set done k x) j e ≡ x = ap (λ m. get_or (set done k x) m e) second ∙ get_or-set_same done k x e within in
                      let old : get_or done j e ≡ y = ap (λ m. get_or done m e) second ∙ default in
                      let moved : AreApart I (get_or done i e) y = subst (λ (c : Bin). AreApart I (get_or done i e) c) old there in
                      subst (λ (c : Bin). AreApart I c (get_or (set done k x) j e)) (sym same) (subst (λ (c : Bin). AreApart I (get_or done i e) c) (sym new) (λ used also. moved used (omega (arith, also, fewer))))
                  | inr also_apart ↦
                      let other : get_or (set done k x) j e ≡ get_or done j e = get_or-set_other done k j x e also_apart in
                      subst (λ (c : Bin). AreApart I c (get_or (set done k x) j e)) (sym same) (subst (λ (c : Bin). AreApart I (get_or done i e) c) (sym other) there)
                ]
          ];
      alike = All-set (λ (c : Bin). 1 < c.times → StayApart I (pair_of c) (pair_of c)) done k x (λ twice. joined.alike k d within (omega (arith, twice, fewer))) joined.alike;
    }

-- the bin is joined with one that is done, as often as both are there
pub step-with : (I : InstanceValue) (waiting done : List Bin) (b z : Bin) (k t m : ℕ) (d : Bin) → 0 < b.times → IsWrittenPacking I ((waiting ++ b ∷ []) ++ done) → AreJoined I done → IsPartner I done b k t → m ≡ min b.times (get_or done k d).times → IsMadeOf t m (get_or done k d).counts b.counts z → IsStep I (waiting ++ b ∷ []) done ((waiting ++ at_times b (b.times - m) ∷ []) ++ z ∷ []) (set done k (at_times (get_or done k d) ((get_or done k d).times - m)))
step-with I waiting done b z k t m d used packing joined partner least made =
    let y : Bin = get_or done k d in
    let rest : Bin = at_times b (b.times - m) in
    let other : Bin = at_times y (y.times - m) in
    let shared : IsSharedType I y b t = partner.shared d in
    let also : 0 < y.times = partner.used d in
    let own : FitsItsType I b = bin-fits I waiting done b packing in
    let its : FitsItsType I y = done-fit I waiting done b packing k d partner.within in
    let new_waiting : List Bin = (waiting ++ rest ∷ []) ++ z ∷ [] in
    let new_done : List Bin = set done k other in
    let fits : All (FitsItsType I) (new_waiting ++ new_done) =
    All-append (FitsItsType I) new_waiting new_done
    (All-push (FitsItsType I) (waiting ++ rest ∷ []) z (All-push (FitsItsType I) waiting rest (waiting-fit I waiting done b packing) own) (made-fits I y b z t m shared made))
    (All-set (FitsItsType I) done k other its (done-fit I waiting done b packing)) in
    let both = exchanged I ((waiting ++ b ∷ []) ++ done) (new_waiting ++ new_done) (pair_of y) (pair_of b) (pair_of z) m
    (exchange-with waiting done b z m made.times k d partner.within (omega (arith, least)) (omega (arith, least)))
    (subst (λ u. (u ≡ y.bin_type) ⊎ (u ≡ b.bin_type)) (sym made.bin_type) shared.either) made.same fits packing in
    let times : Bin → ℕ = λ c. c.times in
    let one : sum_by times (waiting ++ b ∷ []) ≡ sum_by times waiting + b.times = sum_by_push times waiting b in
    let two : sum_by times (waiting ++ rest ∷ []) ≡ sum_by times waiting + (b.times - m) = sum_by_push times waiting rest in
    let three : sum_by times new_waiting ≡ sum_by times (waiting ++ rest ∷ []) + z.times = sum_by_push times (waiting ++ rest ∷ []) z in
    let four : sum_by times new_done + y.times ≡ sum_by times done + (y.times - m) = sum_by-set times done k other d partner.within in
    let is : z.times ≡ m = made.times in
    let long : length (waiting ++ b ∷ []) ≡ length waiting + 1 = length-append waiting (b ∷ []) in
    let longer : length (waiting ++ rest ∷ []) ≡ length waiting + 1 = length-append waiting (rest ∷ []) in
    let longest : length new_waiting ≡ length (waiting ++ rest ∷ []) + 1 = length-append (waiting ++ rest ∷ []) (z ∷ []) in
    record {
      packing = both.0;
      cost = both.1;
      joined = fewer-joined I done k (y.times - m) d partner.within (omega arith) joined;
      work = omega arith;
    }

-- the bin is joined with its like
pub step-alike : (I : InstanceValue) (waiting done : List Bin) (b z : Bin) (t : ℕ) → 1 < b.times → IsWrittenPacking I ((waiting ++ b ∷ []) ++ done) → AreJoined I done → IsSharedType I b b t → IsMadeOf t (b.times / 2) b.counts b.counts z → IsStep I (waiting ++ b ∷ []) done ((waiting ++ at_times b (b.times % 2) ∷ []) ++ z ∷ []) done
step-alike I waiting done b z t used packing joined shared made =
    let rest : Bin = at_times b (b.times % 2) in
    let own : FitsItsType I b = bin-fits I waiting done b packing in
    let new_waiting : List Bin = (waiting ++ rest ∷ []) ++ z ∷ [] in
    let fits : All (FitsItsType I) (new_waiting ++ done) =
    All-append (FitsItsType I) new_waiting done
    (All-push (FitsItsType I) (waiting ++ rest ∷ []) z (All-push (FitsItsType I) waiting rest (waiting-fit I waiting done b packing) own) (made-fits I b b z t (b.times / 2) shared made))
    (done-fit I waiting done b packing) in
    let both = exchanged I ((waiting ++ b ∷ []) ++ done) (new_waiting ++ done) (pair_of b) (pair_of b) (pair_of z) (b.times / 2)
    (exchange-alike waiting done b z (b.times / 2) made.times refl)
    (subst (λ u. (u ≡ b.bin_type) ⊎ (u ≡ b.bin_type)) (sym made.bin_type) shared.either) made.same fits packing in
    let times : Bin → ℕ = λ c. c.times in
    let one : sum_by times (waiting ++ b ∷ []) ≡ sum_by times waiting + b.times = sum_by_push times waiting b in
    let two : sum_by times (waiting ++ rest ∷ []) ≡ sum_by times waiting + b.times % 2 = sum_by_push times waiting rest in
    let three : sum_by times new_waiting ≡ sum_by times (waiting ++ rest ∷ []) + z.times = sum_by_push times (waiting ++ rest ∷ []) z in
    let is : z.times ≡ b.times / 2 = made.times in
    let long : length (waiting ++ b ∷ []) ≡ length waiting + 1 = length-append waiting (b ∷ []) in
    let longer : length (waiting ++ rest ∷ []) ≡ length waiting + 1 = length-append waiting (rest ∷ []) in
    let longest : length new_waiting ≡ length (waiting ++ rest ∷ []) + 1 = length-append (waiting ++ rest ∷ []) (z ∷ []) in
    record { packing = both.0; cost = both.1; joined = joined; work = omega arith }

-- the bin can't be joined, and is done
pub step-done : (I : InstanceValue) (waiting done : List Bin) (b : Bin) → IsWrittenPacking I ((waiting ++ b ∷ []) ++ done) → AreJoined I done → All (λ other. AreApart I other b) done → (1 < b.times → StayApart I (pair_of b) (pair_of b)) → IsStep I (waiting ++ b ∷ []) done waiting (done ++ b ∷ [])
step-done I waiting done b packing joined apart alike =
    let fits : All (FitsItsType I) (waiting ++ (done ++ b ∷ [])) =
    All-append (FitsItsType I) waiting (done ++ b ∷ []) (waiting-fit I waiting done b packing) (All-push (FitsItsType I) done b (done-fit I waiting done b packing) (bin-fits I waiting done b packing)) in
    let same : (g : ℕ × Content → ℕ) → total g (waiting ++ (done ++ b ∷ [])) ≡ total g ((waiting ++ b ∷ []) ++ done) = λ g.
    let f : Bin → ℕ = λ c. c.times * g (pair_of c) in
    let before : total g ((waiting ++ b ∷ []) ++ done) ≡ total g waiting + f b + total g done = total-three g waiting done b in
    let after : sum_by f (waiting ++ (done ++ b ∷ [])) ≡ sum_by f waiting + sum_by f (done ++ b ∷ []) = sum_by-append f waiting (done ++ b ∷ []) in
    let back : sum_by f (done ++ b ∷ []) ≡ sum_by f done + f b = sum_by_push f done b in
    omega arith in
    let both = kept I ((waiting ++ b ∷ []) ++ done) (waiting ++ (done ++ b ∷ [])) fits packing
    (λ t. omega (arith, same (in_type t)))
    (λ i. same (of_item i))
    (omega (arith, same (priced I))) in
    let times : Bin → ℕ = λ c. c.times in
    let one : sum_by times (waiting ++ b ∷ []) ≡ sum_by times waiting + b.times = sum_by_push times waiting b in
    let two : sum_by times (done ++ b ∷ []) ≡ sum_by times done + b.times = sum_by_push times done b in
    let long : length (waiting ++ b ∷ []) ≡ length waiting + 1 = length-append waiting (b ∷ []) in
    record {
      packing = both.0;
      cost = both.1;
      joined = record {
        pairs = all_pairs_push (AreApart I) done b joined.pairs apart;
        alike = All-push (λ (c : Bin). 1 < c.times → StayApart I (pair_of c) (pair_of c)) done b joined.alike alike;
      };
      work = omega arith;
    }

-- the bin is not used, and is left out
pub step-unused : (I : InstanceValue) (waiting done : List Bin) (b : Bin) → b.times ≡ 0 → IsWrittenPacking I ((waiting ++ b ∷ []) ++ done) → AreJoined I done → IsStep I (waiting ++ b ∷ []) done waiting done
step-unused I waiting done b unused packing joined =
    let fits : All (FitsItsType I) (waiting ++ done) = All-append (FitsItsType I) waiting done (waiting-fit I waiting done b packing) (done-fit I waiting done b packing) in
    let same : (g : ℕ × Content → ℕ) → total g (waiting ++ done) ≡ total g ((waiting ++ b ∷ []) ++ done) = λ g.
    let f : Bin → ℕ = λ c. c.times * g (pair_of c) in
    let before : total g ((waiting ++ b ∷ []) ++ done) ≡ total g waiting + f b + total g done = total-three g waiting done b in
    let after : sum_by f (waiting ++ done) ≡ sum_by f waiting + sum_by f done = sum_by-append f waiting done in
    let none : f b ≡ 0 * g (pair_of b) = ap (λ n. n * g (pair_of b)) unused in
    omega arith in
    let both = kept I ((waiting ++ b ∷ []) ++ done) (waiting ++ done) fits packing
    (λ t. omega (arith, same (in_type t)))
    (λ i. same (of_item i))
    (omega (arith, same (priced I))) in
    let times : Bin → ℕ = λ c. c.times in
    let one : sum_by times (waiting ++ b ∷ []) ≡ sum_by times waiting + b.times = sum_by_push times waiting b in
    let long : length (waiting ++ b ∷ []) ≡ length waiting + 1 = length-append waiting (b ∷ []) in
    record { packing = both.0; cost = both.1; joined = joined; work = omega arith }
