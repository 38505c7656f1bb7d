-- Units that are taken out of the counts of a bin.
use Rattle.std.proofs.Common.{◌≡◌, ◌≢◌, ℕ, ◌+◌, ◌-◌, ◌*◌, ◌<◌, ◌≤◌, Bool, true, false, cond, ◌==◌, List, [], ◌∷◌, ◌++◌, length, get_or, set, take, take_all, refl, sym, ap, ◌∙◌, subst, ⊎_elim, arith, All}
use Rattle.std.specs.Prelude.{sum_by, ◌&&◌}
use Rattle.std.proofs.lemmas.Bool.{cases_eq, eq-eqb, ne_eqb}
use Rattle.std.proofs.lemmas.List.{get_or-set_same, get_or-set_other, get_or_default}
use Rattle.std.proofs.lemmas.List.Sums.{sum_by-cons, sum_by-append, sum_by_more}
use Rattle.std.proofs.lemmas.List.Elements.{All-nil, All-cons, All-append, All-weaker}
use Rattle.std.proofs.Math.Nat.{mul-le-mul_right}
use Rattle.packing_laws.specs.declared.packings.Count.{Count}
use Rattle.packing_laws.specs.Instances.{InstanceValue, IsAmong, form_at}
use Rattle.packing_laws.specs.Packings.{Content, Exists, KeepsCaps, count_of_item, count_of_form, weight_in}
use Rattle.packing_laws.specs.declared.instances.ItemCap.{ItemCap}
use Rattle.std.specs.Prelude.{slice_index}
use Rattle.pattern_extract.specs.Trims.{surplus_at, rest_of, IsBelow, IsReduced}

-- what counts weigh, where units of each form have a weight
abbrev pub weigh_counts : (ℕ → ℕ → ℕ) → Content → ℕ
weigh_counts w c = sum_by (λ n. n.count * w n.item n.form) c

-- the first n counts are reduced
pub record IsReducedSoFar (times n : ℕ) (old new : Content) (before after : List ℕ) : Type 0 where
  pub exists : (I : InstanceValue) → All (Exists I) old → All (Exists I) new
  pub items : (k : ℕ) → All (λ m. IsAmong m.item k) old → All (λ m. IsAmong m.item k) new
  pub weight : (w : ℕ → ℕ → ℕ) → weigh_counts w new ≤ weigh_counts w (take n old)
  pub units : (i : ℕ) → 1 ≤ i → times * count_of_item i (take n old) + surplus_at after i ≡ times * count_of_item i new + surplus_at before i
  pub small : All (λ m. surplus_at after m.item < times) new
  pub falls : (k : ℕ) → get_or after k 0 ≤ get_or before k 0

pub reduced-none : (times : ℕ) (old : Content) (before : List ℕ) → IsReducedSoFar times 0 old [] before before
reduced-none times old before = record {
  exists = λ I all. All-nil (Exists I);
  items = λ k all. All-nil (λ m. IsAmong m.item k);
  weight = λ w. omega arith;
  units = λ i low. refl;
  small = All-nil (λ m. surplus_at before m.item < times);
  falls = λ k. omega arith;
}

pub step-units : (t s k a b r taken : ℕ) → t * s + a ≡ t * k + b → taken * t ≤ a → t * (s + (r + taken)) + (a - taken * t) ≡ t * (k + r) + b
step-units t s k a b r taken before most = omega (arith, before, most)

pub some-rest : (m : Count) (taken : ℕ) → taken ≢ m.count → rest_of m taken ≡ record m { count = m.count - taken } ∷ []
some-rest m taken other = rw (ne_eqb taken m.count other) refl

pub no-rest : (m : Count) (taken : ℕ) → taken ≡ m.count → rest_of m taken ≡ []
no-rest m taken same = rw (eq-eqb taken m.count same) refl

pub rest-weight : (f : Count → ℕ) (w : ℕ) (m : Count) (taken : ℕ) → f (record m { count = m.count - taken }) ≡ (m.count - taken) * w → sum_by f (rest_of m taken) ≡ (m.count - taken) * w
rest-weight f w m taken is = ⊎_elim
    (λ same. let none : m.count - taken ≡ 0 = omega (arith, same) in rw (no-rest m taken same, none) (omega arith))
    (λ other. rw (some-rest m taken other) (sum_by-cons f (record m { count = m.count - taken }) [] ∙ omega (arith, is)))
    (cases_eq taken m.count)

pub count-weight : (b : Bool) (n : ℕ) → cond b n 0 ≡ n * cond b 1 0
count-weight true n = omega arith
count-weight false n = omega arith

pub rest-units : (i : ℕ) (m : Count) (taken : ℕ) → count_of_item i (rest_of m taken) ≡ (m.count - taken) * cond (m.item == i) 1 0
rest-units i m taken = rest-weight (λ n. cond (n.item == i) n.count 0) (cond (m.item == i) 1 0) m taken (count-weight (m.item == i) (m.count - taken))

pub rest-exists : (I : InstanceValue) (m : Count) (taken : ℕ) → Exists I m → All (Exists I) (rest_of m taken)
rest-exists I m taken is = ⊎_elim
    (λ same. subst (All (Exists I)) (sym (no-rest m taken same)) (All-nil (Exists I)))
    (λ other. subst (All (Exists I)) (sym (some-rest m taken other)) (All-cons (Exists I) (record m { count = m.count - taken }) [] (record { item = is.item; form = is.form }) (All-nil (Exists I))))
    (cases_eq taken m.count)

pub rest-items : (k : ℕ) (m : Count) (taken : ℕ) → IsAmong m.item k → All (λ c. IsAmong c.item k) (rest_of m taken)
rest-items k m taken is = ⊎_elim
    (λ same. subst (All (λ c. IsAmong c.item k)) (sym (no-rest m taken same)) (All-nil (λ c. IsAmong c.item k)))
    (λ other. subst (All (λ c. IsAmong c.item k)) (sym (some-rest m taken other)) (All-cons (λ c. IsAmong c.item k) (record m { count = m.count - taken }) [] is (All-nil (λ c. IsAmong c.item k))))
    (cases_eq taken m.count)

pub scaled : (a b w : ℕ) → a ≤ b → a * w ≤ b * w
scaled a b w most = mul-le-mul_right w most

module _ (times n : ℕ) (old new : Content) (before after : List ℕ) (m : Count) (taken : ℕ) (sofar : IsReducedSoFar times n old new before after) (within : n < length old) (is : m ≡ get_or old n m) (count : taken ≤ m.count) (most : taken * times ≤ surplus_at after m.item) (all : taken < m.count → surplus_at after m.item < taken * times + times) (among : IsAmong m.item (length after)) where
  abbrev later : List ℕ
  later = set after (m.item - 1) (surplus_at after m.item - taken * times)

  here : surplus_at later m.item ≡ surplus_at after m.item - taken * times
  here = get_or-set_same after (m.item - 1) (surplus_at after m.item - taken * times) 0 (omega (arith, among.0, among.1))

  falls : (k : ℕ) → get_or later k 0 ≤ get_or after k 0
  falls k = ⊎_elim
      (λ same. subst (λ (i : ℕ). get_or later i 0 ≤ get_or after i 0) (sym same) (omega (arith, here)))
      (λ other. let kept = get_or-set_other after (m.item - 1) k (surplus_at after m.item - taken * times) 0 other in omega (arith, kept))
      (cases_eq k (m.item - 1))

  weight : (w : ℕ → ℕ → ℕ) → weigh_counts w (new ++ rest_of m taken) ≤ weigh_counts w (take (n + 1) old)
  weight w =
      let f : Count → ℕ = λ c. c.count * w c.item c.form in
      let so = sofar.weight w in
      let joined = sum_by-append f new (rest_of m taken) in
      let rest : sum_by f (rest_of m taken) ≡ (m.count - taken) * w m.item m.form = rest-weight f (w m.item m.form) m taken refl in
      let more = sum_by_more f old n m within in
      let own : f (get_or old n m) ≡ f m = ap f (sym is) in
      let less : (m.count - taken) * w m.item m.form ≤ m.count * w m.item m.form = scaled (m.count - taken) m.count (w m.item m.form) (omega arith) in
      omega (arith, so, joined, rest, more, own, less)

  units : (i : ℕ) → 1 ≤ i → times * count_of_item i (take (n + 1) old) + surplus_at later i ≡ times * count_of_item i (new ++ rest_of m taken) + surplus_at before i
  units i low =
      let f : Count → ℕ = λ c. cond (c.item == i) c.count 0 in
      let so = sofar.units i low in
      let joined : count_of_item i (new ++ rest_of m taken) ≡ count_of_item i new + (m.count - taken) * cond (m.item == i) 1 0 = sum_by-append f new (rest_of m taken) ∙ ap (λ (x : ℕ). count_of_item i new + x) (rest-units i m taken) in
      let more : count_of_item i (take (n + 1) old) ≡ count_of_item i (take n old) + m.count * cond (m.item == i) 1 0 = sum_by_more f old n m within ∙ ap (λ (c : Count). count_of_item i (take n old) + f c) (sym is) ∙ ap (λ (x : ℕ). count_of_item i (take n old) + x) (count-weight (m.item == i) m.count) in
      ⊎_elim
      (λ same.
      let one : cond {A = ℕ} (m.item == i) 1 0 ≡ 1 = ap (λ (b : Bool). cond {A = ℕ} b 1 0) (eq-eqb m.item i same) in
      let joined_one : count_of_item i (new ++ rest_of m taken) ≡ count_of_item i new + (m.count - taken) = joined ∙ ap (λ (x : ℕ). count_of_item i new + (m.count - taken) * x) one ∙ omega arith in
      let more_one : count_of_item i (take (n + 1) old) ≡ count_of_item i (take n old) + ((m.count - taken) + taken) = more ∙ ap (λ (x : ℕ). count_of_item i (take n old) + m.count * x) one ∙ omega (arith, count) in
      let left : surplus_at later i ≡ surplus_at after i - taken * times = subst (λ (j : ℕ). surplus_at later j ≡ surplus_at after j - taken * times) same here in
      let much : taken * times ≤ surplus_at after i = subst (λ (j : ℕ). taken * times ≤ surplus_at after j) same most in
      let whole = step-units times (count_of_item i (take n old)) (count_of_item i new) (surplus_at after i) (surplus_at before i) (m.count - taken) taken so much in
      ap (λ (x : ℕ). times * x + surplus_at later i) more_one ∙ ap (λ (x : ℕ). times * (count_of_item i (take n old) + ((m.count - taken) + taken)) + x) left ∙ whole ∙ ap (λ (x : ℕ). times * x + surplus_at before i) (sym joined_one))
      (λ other.
      let none : cond {A = ℕ} (m.item == i) 1 0 ≡ 0 = ap (λ (b : Bool). cond {A = ℕ} b 1 0) (ne_eqb m.item i other) in
      let joined_none : count_of_item i (new ++ rest_of m taken) ≡ count_of_item i new = joined ∙ ap (λ (x : ℕ). count_of_item i new + (m.count - taken) * x) none ∙ omega arith in
      let more_none : count_of_item i (take (n + 1) old) ≡ count_of_item i (take n old) = more ∙ ap (λ (x : ℕ). count_of_item i (take n old) + m.count * x) none ∙ omega arith in
      let apart : i - 1 ≢ m.item - 1 = λ e. other (omega (arith, e, low, among.0)) in
      let left : surplus_at later i ≡ surplus_at after i = get_or-set_other after (m.item - 1) (i - 1) (surplus_at after m.item - taken * times) 0 apart in
      ap (λ (x : ℕ). times * x + surplus_at later i) more_none ∙ ap (λ (x : ℕ). times * count_of_item i (take n old) + x) left ∙ so ∙ ap (λ (x : ℕ). times * x + surplus_at before i) (sym joined_none))
      (cases_eq m.item i)

  rest-small : All (λ c. surplus_at later c.item < times) (rest_of m taken)
  rest-small = ⊎_elim
      (λ same. subst (All (λ c. surplus_at later c.item < times)) (sym (no-rest m taken same)) (All-nil (λ c. surplus_at later c.item < times)))
      (λ other.
      let less : taken < m.count = omega (arith, count, other) in
      let few = all less in
      subst (All (λ c. surplus_at later c.item < times)) (sym (some-rest m taken other))
      (All-cons (λ c. surplus_at later c.item < times) (record m { count = m.count - taken }) [] (omega (arith, here, few, most)) (All-nil (λ c. surplus_at later c.item < times))))
      (cases_eq taken m.count)

  pub reduced-more : IsReducedSoFar times (n + 1) old (new ++ rest_of m taken) before later
  reduced-more = record {
    exists = λ I own. All-append (Exists I) new (rest_of m taken) (sofar.exists I own) (rest-exists I m taken (subst (Exists I) (sym is) (own n m within)));
    items = λ k own. All-append (λ c. IsAmong c.item k) new (rest_of m taken) (sofar.items k own) (rest-items k m taken (subst (λ (c : Count). IsAmong c.item k) (sym is) (own n m within)));
    weight = weight;
    units = units;
    small = All-append (λ c. surplus_at later c.item < times) new (rest_of m taken) (All-weaker (λ c. surplus_at after c.item < times) (λ c. surplus_at later c.item < times) (λ c few. let fall = falls (c.item - 1) in omega (arith, few, fall)) new sofar.small) rest-small;
    falls = λ k. let one = sofar.falls k in let two = falls k in omega (arith, one, two);
  }

-- the same where the new values are given by equations
pub reduced-next : (times n : ℕ) (old new : Content) (before after : List ℕ) (m : Count) (taken less : ℕ) (more : Content) → IsReducedSoFar times n old new before after → (within : n < length old) → m ≡ get_or old n (record { item = 0; form = 0; count = 0 }) → taken ≤ m.count → taken * times ≤ surplus_at after m.item → (taken < m.count → surplus_at after m.item < taken * times + times) → IsAmong m.item (length before) → length after ≡ length before → less ≡ taken * times → more ≡ new ++ rest_of m taken → IsReducedSoFar times (n + 1) old more before (set after (m.item - 1) (surplus_at after m.item - less))
reduced-next times n old new before after m taken less more sofar within is count most all among size less-is more-is =
    let there : m ≡ get_or old n m = is ∙ get_or_default old n (record { item = 0; form = 0; count = 0 }) m within in
    let inside : IsAmong m.item (length after) = (among.0, omega (arith, among.1, size)) in
    let next = reduced-more times n old new before after m taken sofar within there count most all inside in
    subst (λ (x : ℕ). IsReducedSoFar times (n + 1) old more before (set after (m.item - 1) (surplus_at after m.item - x))) (sym less-is)
    (subst (λ (c : Content). IsReducedSoFar times (n + 1) old c before (set after (m.item - 1) (surplus_at after m.item - taken * times))) (sym more-is) next)

-- units of one form, as a weight
pub form-weight : (i f : ℕ) (c : Content) → weigh_counts (λ j h. cond ((j == i) && (h == f)) 1 0) c ≡ count_of_form i f c
form-weight i f [] = refl
form-weight i f (n ∷ c) =
    let rest = form-weight i f c in
    let first = count-weight ((n.item == i) && (n.form == f)) n.count in
    let one = sum_by-cons (λ (m : Count). m.count * cond ((m.item == i) && (m.form == f)) 1 0) n c in
    let two = sum_by-cons (λ (m : Count). cond ((m.item == i) && (m.form == f)) m.count 0) n c in
    omega (arith, rest, first, one, two)

-- units of one item, as a weight
pub item-weight : (i : ℕ) (c : Content) → weigh_counts (λ j h. cond (j == i) 1 0) c ≡ count_of_item i c
item-weight i [] = refl
item-weight i (n ∷ c) =
    let rest = item-weight i c in
    let first = count-weight (n.item == i) n.count in
    let one = sum_by-cons (λ (m : Count). m.count * cond (m.item == i) 1 0) n c in
    let two = sum_by-cons (λ (m : Count). cond (m.item == i) m.count 0) n c in
    omega (arith, rest, first, one, two)

-- what weighs no more under any weights keeps the caps too
pub caps-kept : (I : InstanceValue) (new old : Content) → ((w : ℕ → ℕ → ℕ) → weigh_counts w new ≤ weigh_counts w old) → KeepsCaps I old → KeepsCaps I new
caps-kept I new old less kept =
    All-weaker (λ (k : ItemCap). count_of_item k.item old ≤ k.count) (λ (k : ItemCap). count_of_item k.item new ≤ k.count)
    (λ k most.
    let all = less (λ j h. cond (j == k.item) 1 0) in
    let one = item-weight k.item new in
    let two = item-weight k.item old in
    omega (arith, all, one, two, most))
    I.caps kept

pub below-all : (new old : Content) → ((w : ℕ → ℕ → ℕ) → weigh_counts w new ≤ weigh_counts w old) → IsBelow new old
below-all new old less i f =
    let all = less (λ j h. cond ((j == i) && (h == f)) 1 0) in
    let one = form-weight i f new in
    let two = form-weight i f old in
    omega (arith, all, one, two)

pub reduced-all : (times n : ℕ) (old new : Content) (before after : List ℕ) → length old ≤ n → IsReducedSoFar times n old new before after → IsReduced times old new before after
reduced-all times n old new before after end sofar =
    let whole : take n old ≡ old = take_all n old end in
    record {
      below = below-all new old (subst (λ (c : Content). (w : ℕ → ℕ → ℕ) → weigh_counts w new ≤ weigh_counts w c) whole sofar.weight);
      fits = λ I t fits. record {
        bin_type = fits.bin_type;
        exists = sofar.exists I fits.exists;
        weight = λ d dim.
            let less = sofar.weight (λ i f. slice_index (form_at I i f) (d - 1)) in
            let same : weight_in I d (take n old) ≡ weight_in I d old = ap (weight_in I d) whole in
            let most = fits.weight d dim in
            omega (arith, less, same, most);
        caps = caps-kept I new old (subst (λ (c : Content). (w : ℕ → ℕ → ℕ) → weigh_counts w new ≤ weigh_counts w c) whole sofar.weight) fits.caps;
      };
      items = sofar.items;
      units = subst (λ (c : Content). (i : ℕ) → 1 ≤ i → times * count_of_item i c + surplus_at after i ≡ times * count_of_item i new + surplus_at before i) whole sofar.units;
      small = sofar.small;
      falls = sofar.falls;
    }
