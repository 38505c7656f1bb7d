-- Parts that are laid out are those of a need, and what is told of them is what makes the need hold.
use Rattle.std.proofs.Common.{◌≡◌, ℕ, zero, suc, ◌+◌, ◌-◌, ◌*◌, ◌<◌, ◌≤◌, List, [], ◌∷◌, ◌++◌, Option, length, map, get_or, refl, sym, ap, ◌∙◌, subst, ⊎_elim, arith, length-append, Bool, false}
use Rattle.std.specs.Prelude.{◌↔◌, IsTrue}
use Rattle.arc_num.specs.declared.TheConstants.{MAX_ITEMS}
use Rattle.std.proofs.lemmas.Bool.{cases_eq}
use Rattle.std.proofs.lemmas.List.{ext_get_or, map-append, get_or_append_left, get_or-append-add}
use Rattle.packing_laws.specs.Instances.{InstanceValue, IsAmong, item_at}
use Rattle.flow_graph.specs.Arcs.{TypeValue, numbered}
use Rattle.flow_graph.specs.Chords.{range_at}
use Rattle.flow_model.specs.Flows.{AreConserved, carries, flow_cost, total_of, up_to}
use Rattle.cert_text.specs.declared.lines.Need.{Need}
use Rattle.cert_laws.specs.Needs.{CostsBelow, IsNeeded, part_in, parts_of}
use Rattle.needs_check.specs.inner.Laid.{AreServed, HoldsCarried, HoldsParts, LieInScaled}

length_each : (f : ℕ → ℕ) (n : ℕ) → length (map f (up_to n)) ≡ n
length_each f zero = refl
length_each f (suc n) =
    let rest = length_each f n in
    let long = length-append (map f (up_to n)) (f (suc n) ∷ []) in
    rw (map-append f (up_to n) (suc n ∷ [])) (omega (arith, rest, long))

each_at : (f : ℕ → ℕ) (n k : ℕ) → k < n → get_or (map f (up_to n)) k 0 ≡ f (k + 1)
each_at f zero k within = absurd (omega (arith, within))
each_at f (suc n) k within =
    let long = length_each f n in
    rw (map-append f (up_to n) (suc n ∷ [])) (⊎_elim
    (λ same.
    let place : k ≡ length (map f (up_to n)) + 0 = omega (arith, same, long) in
    let last : suc n ≡ k + 1 = omega (arith, same) in
    ap (λ (j : ℕ). get_or (map f (up_to n) ++ f (suc n) ∷ []) j 0) place ∙ get_or-append-add (map f (up_to n)) (f (suc n) ∷ []) 0 0 ∙ ap f last)
    (λ other. get_or_append_left (map f (up_to n)) (f (suc n) ∷ []) 0 k (omega (arith, within, other, long)) ∙ each_at f n k (omega (arith, within, other)))
    (cases_eq k n))

-- a table that holds the parts of a need is the list of what each arc carries
pub laid_parts : (g : List TypeValue) (need : Need) (values : List ℕ) → HoldsParts need.parts values → length values ≡ length (numbered g) → values ≡ parts_of g need
laid_parts g need values laid size =
    let long = length_each (part_in need.parts) (length (numbered g)) in
    ext_get_or 0 values (parts_of g need) (omega (arith, size, long)) (λ k within. laid k within ∙ sym (each_at (part_in need.parts) (length (numbered g)) k (omega (arith, within, size))))

module _ (I : InstanceValue) (g : List TypeValue) (ranges : List (ℕ × ℕ)) (goal : Option ℕ) (need : Need) (values : List ℕ) (laid : HoldsParts need.parts values) (size : length values ≡ length (numbered g)) where
  same : values ≡ parts_of g need
  same = laid_parts g need values laid size

  part_at : (a : ℕ) → IsAmong a (length (numbered g)) → get_or values (a - 1) 0 ≡ part_in need.parts a
  part_at a among =
      let e : a - 1 + 1 ≡ a = omega (arith, among.0) in
      laid (a - 1) (omega (arith, among.0, among.1, size)) ∙ ap (part_in need.parts) e

  range_back : (a : ℕ) → IsAmong a (length (numbered g)) → LieInScaled need.scale ranges values → (need.scale * (range_at ranges a).0 ≤ part_in need.parts a) × (part_in need.parts a ≤ need.scale * (range_at ranges a).1)
  range_back a among inside =
      let e : a - 1 + 1 ≡ a = omega (arith, among.0) in
      let at : (need.scale * (range_at ranges (a - 1 + 1)).0 ≤ get_or values (a - 1) 0) × (get_or values (a - 1) 0 ≤ need.scale * (range_at ranges (a - 1 + 1)).1) = inside (a - 1) (omega (arith, among.0, among.1, size)) in
      let here : (need.scale * (range_at ranges a).0 ≤ get_or values (a - 1) 0) × (get_or values (a - 1) 0 ≤ need.scale * (range_at ranges a).1) = subst (λ (n : ℕ). (need.scale * (range_at ranges n).0 ≤ get_or values (a - 1) 0) × (get_or values (a - 1) 0 ≤ need.scale * (range_at ranges n).1)) e at in
      subst (λ (x : ℕ). (need.scale * (range_at ranges a).0 ≤ x) × (x ≤ need.scale * (range_at ranges a).1)) (part_at a among) here

  pub needed_lies : IsNeeded I g ranges goal need → LieInScaled need.scale ranges values
  needed_lies is k within =
      let among : IsAmong (k + 1) (length (numbered g)) = (omega arith, omega (arith, within, size)) in
      (subst (λ (x : ℕ). need.scale * (range_at ranges (k + 1)).0 ≤ x) (sym (laid k within)) (is.low (k + 1) among), subst (λ (x : ℕ). x ≤ need.scale * (range_at ranges (k + 1)).1) (sym (laid k within)) (is.high (k + 1) among))

  pub needed_is_conserved : IsNeeded I g ranges goal need → AreConserved g values
  needed_is_conserved is = subst (AreConserved g) (sym same) is.conserved

  pub needed_is_served : IsNeeded I g ranges goal need → AreServed I g need.scale values
  needed_is_served is = subst (AreServed I g need.scale) (sym same) is.served

  pub needed_costs : IsNeeded I g ranges goal need → CostsBelow goal need.scale (flow_cost I g values)
  needed_costs is = subst (λ (xs : List ℕ). CostsBelow goal need.scale (flow_cost I g xs)) (sym same) is.cost

  pub is_needed : LieInScaled need.scale ranges values → AreConserved g values → AreServed I g need.scale values → CostsBelow goal need.scale (flow_cost I g values) → IsNeeded I g ranges goal need
  is_needed inside conserved served cheap = record {
    low = λ a among. (range_back a among inside).0;
    high = λ a among. (range_back a among inside).1;
    conserved = subst (AreConserved g) same conserved;
    served = subst (AreServed I g need.scale) same served;
    cost = subst (λ (xs : List ℕ). CostsBelow goal need.scale (flow_cost I g xs)) same cheap;
  }

  -- the answer is that of the last rule where the rules before it are kept
  pub answered : (b : Bool) → LieInScaled need.scale ranges values → AreConserved g values → AreServed I g need.scale values → IsTrue b ↔ CostsBelow goal need.scale (flow_cost I g values) → IsTrue b ↔ IsNeeded I g ranges goal need
  answered b inside conserved served cheap = (λ is. is_needed inside conserved served (cheap.0 is), λ is. cheap.1 (needed_costs is))

-- where a rule is not kept that a fact wants, the answer is no
pub refused : (b : Bool) (Rule Fact : Type 0) → b ≡ false → IsTrue b ↔ Rule → (Fact → Rule) → IsTrue false ↔ Fact
refused b Rule Fact denied rule wants = (λ is. cc, λ fact. sym denied ∙ rule.1 (wants fact))

-- sums by item that are enough are those that the arcs of the items carry
pub served_where : (I : InstanceValue) (g : List TypeValue) (scale : ℕ) (values carried : List ℕ) (b : Bool) → length carried ≡ MAX_ITEMS → length I.items ≤ MAX_ITEMS → HoldsCarried (numbered g) values carried → IsTrue b ↔ ((i : ℕ) → IsAmong i (length I.items) → scale * (item_at I i).demand ≤ get_or carried (i - 1) 0) → IsTrue b ↔ AreServed I g scale values
served_where I g scale values carried b room few held reached =
    let sum : (i : ℕ) → IsAmong i (length I.items) → get_or carried (i - 1) 0 ≡ total_of (carries i) g values = λ i among.
    let e : i - 1 + 1 ≡ i = omega (arith, among.0) in
    let at : get_or carried (i - 1) 0 ≡ total_of (carries (i - 1 + 1)) g values = held (i - 1) (omega (arith, among.0, among.1, room, few)) in
    at ∙ ap (λ (n : ℕ). total_of (carries n) g values) e in (
      λ is i among. subst (λ (n : ℕ). scale * (item_at I i).demand ≤ n) (sum i among) (reached.0 is i among),
      λ served. reached.1 (λ i among. subst (λ (n : ℕ). scale * (item_at I i).demand ≤ n) (sym (sum i among)) (served i among)),
    )
