-- The tables of a tally hold the sums of the arcs so far.
use Rattle.std.proofs.Common.{◌≡◌, ℕ, zero, suc, ◌+◌, ◌-◌, ◌*◌, ◌^◌, ◌<◌, ◌≤◌, cond, ◌==◌, List, [], ◌∷◌, length, get_or, set, take, refl, sym, ap, ◌∙◌, subst, ⊎_elim, arith}
use Rattle.std.proofs.lemmas.Bool.{cases_eq, eq-eqb, ne_eqb, cond-true, cond-false}
use Rattle.std.proofs.lemmas.List.{get_or-set_same, get_or-set_other, length-set}
use Rattle.arc_num.specs.declared.TheConstants.{MAX_ITEMS}
use Rattle.packing_laws.specs.Instances.{IsAmong}
use Rattle.flow_graph.specs.declared.parts.ArcKind.{ArcKind}
use Rattle.flow_graph.specs.declared.parts.ArcKind.TheVariants.{Bin, Loss, Piece}
use Rattle.flow_model.specs.Flows.{weigh_arcs, carries}
use Rattle.flow_model.specs.Tallies.{TallyValue}
use Rattle.flow_model.specs.inner.Sums.{HasShapeOf, IsTypeIn, IsPlaced, IsRaised, AreBelow, Holds, tail_in, head_in, raised, raised_by}

pub weigh_more : (f : ArcKind → ℕ) (kinds : List ArcKind) (values : List ℕ) (i : ℕ) (d : ArcKind) → i < length kinds → length values ≡ length kinds → weigh_arcs f (take (suc i) kinds) (take (suc i) values) ≡ weigh_arcs f (take i kinds) (take i values) + f (get_or kinds i d) * get_or values i 0
weigh_more f [] values i d within size = absurd (omega (arith, within))
weigh_more f (kind ∷ kinds) [] i d within size = absurd (omega (arith, size))
weigh_more f (kind ∷ kinds) (x ∷ values) zero d within size = omega arith
weigh_more f (kind ∷ kinds) (x ∷ values) (suc i) d within size =
    let rest = weigh_more f kinds values i d (omega (arith, within)) (omega (arith, size)) in
    omega (arith, rest)

-- what stands in a raised table
pub raised_at : (sums : List ℕ) (p x j : ℕ) → IsAmong p (length sums) → get_or (raised sums p x) j 0 ≡ get_or sums j 0 + cond (p == j + 1) 1 0 * x
raised_at sums p x j among = ⊎_elim
    (λ same.
    let here : p - 1 ≡ j = omega (arith, same, among.0) in
    let one : cond {A = ℕ} (p == j + 1) 1 0 ≡ 1 = cond-true (p == j + 1) 1 0 (eq-eqb p (j + 1) same) in
    let there : get_or (set sums j (get_or sums j 0 + x)) j 0 ≡ get_or sums j 0 + x = get_or-set_same sums j (get_or sums j 0 + x) 0 (omega (arith, same, among.1)) in
    let unit : get_or sums j 0 + x ≡ get_or sums j 0 + 1 * x = omega arith in
    ap (λ (k : ℕ). get_or (set sums k (get_or sums k 0 + x)) j 0) here ∙ there ∙ unit ∙ ap (λ (n : ℕ). get_or sums j 0 + n * x) (sym one))
    (λ other.
    let none : cond {A = ℕ} (p == j + 1) 1 0 ≡ 0 = cond-false (p == j + 1) 1 0 (ne_eqb p (j + 1) other) in
    let there : get_or (raised sums p x) j 0 ≡ get_or sums j 0 = get_or-set_other sums (p - 1) j (get_or sums (p - 1) 0 + x) 0 (λ e. other (omega (arith, e, among.0))) in
    rw none (omega (arith, there)))
    (cases_eq p (j + 1))

pub raised_le : (sums : List ℕ) (p x j : ℕ) → IsAmong p (length sums) → get_or (raised sums p x) j 0 ≤ get_or sums j 0 + x
raised_le sums p x j among =
    let at = raised_at sums p x j among in
    ⊎_elim
    (λ same. let one : cond {A = ℕ} (p == j + 1) 1 0 ≡ 1 = cond-true (p == j + 1) 1 0 (eq-eqb p (j + 1) same) in rw at (rw one (omega arith)))
    (λ other. let none : cond {A = ℕ} (p == j + 1) 1 0 ≡ 0 = cond-false (p == j + 1) 1 0 (ne_eqb p (j + 1) other) in rw at (rw none (omega arith)))
    (cases_eq p (j + 1))

pub item_at : (starts items : List ℕ) (kind : ArcKind) (x j : ℕ) → length items ≡ MAX_ITEMS → IsTypeIn starts kind → get_or (raised_by items kind x) j 0 ≡ get_or items j 0 + cond (carries (j + 1) kind) 1 0 * x
item_at starts items (Bin t) x j size own = omega arith
item_at starts items (Loss t tail head) x j size own = omega arith
item_at starts items (Piece t tail head item form) x j size own = raised_at items item x j (own.2.0, omega (arith, own.2.1, size))

pub item_le : (starts items : List ℕ) (kind : ArcKind) (x j : ℕ) → length items ≡ MAX_ITEMS → IsTypeIn starts kind → get_or (raised_by items kind x) j 0 ≤ get_or items j 0 + x
item_le starts items (Bin t) x j size own = omega arith
item_le starts items (Loss t tail head) x j size own = omega arith
item_le starts items (Piece t tail head item form) x j size own = raised_le items item x j (own.2.0, omega (arith, own.2.1, size))

pub item_size : (items : List ℕ) (kind : ArcKind) (x : ℕ) → length (raised_by items kind x) ≡ length items
item_size items (Bin t) x = refl
item_size items (Loss t tail head) x = refl
item_size items (Piece t tail head item form) x = length-set items (item - 1) (get_or items (item - 1) 0 + x)

pub shape_more : (first old new : TallyValue) (kind : ArcKind) (x : ℕ) → HasShapeOf first old → IsRaised old new kind x → HasShapeOf first new
shape_more first old new kind x shape more = record {
  starts = more.starts ∙ shape.starts;
  inflow = ap length more.inflow ∙ length-set old.inflow (head_in old.starts kind - 1) (get_or old.inflow (head_in old.starts kind - 1) 0 + x) ∙ shape.inflow;
  outflow = ap length more.outflow ∙ length-set old.outflow (tail_in old.starts kind - 1) (get_or old.outflow (tail_in old.starts kind - 1) 0 + x) ∙ shape.outflow;
  items = ap length more.items ∙ item_size old.items kind x ∙ shape.items;
}

module _ (old new : TallyValue) (kind : ArcKind) (x : ℕ) (placed : IsPlaced (length old.inflow) old.starts kind) (even : length old.outflow ≡ length old.inflow) (items : length old.items ≡ MAX_ITEMS) (more : IsRaised old new kind x) where
  at_tail : IsAmong (tail_in old.starts kind) (length old.outflow)
  at_tail = (placed.tail.0, subst (λ (n : ℕ). tail_in old.starts kind ≤ n) (sym even) placed.tail.1)

  pub below_more : (i : ℕ) → x < 2 ^ 64 → AreBelow (i * 2 ^ 64) old → AreBelow ((i + 1) * 2 ^ 64) new
  below_more i small below = record {
    inflow = λ j. let up = raised_le old.inflow (head_in old.starts kind) x j placed.head in let own = below.inflow j in rw more.inflow (omega (arith, up, own, small));
    outflow = λ j. let up = raised_le old.outflow (tail_in old.starts kind) x j at_tail in let own = below.outflow j in rw more.outflow (omega (arith, up, own, small));
    items = λ j. let up = item_le old.starts old.items kind x j items placed.of_type in let own = below.items j in rw more.items (omega (arith, up, own, small));
  }

  pub holds_more : (kinds : List ArcKind) (values : List ℕ) (i : ℕ) (d : ArcKind) → i < length kinds → length values ≡ length kinds → kind ≡ get_or kinds i d → x ≡ get_or values i 0 → Holds (take i kinds) (take i values) old → Holds (take (suc i) kinds) (take (suc i) values) new
  holds_more kinds values i d within size read value held =
      let next : (f : ArcKind → ℕ) → weigh_arcs f (take (suc i) kinds) (take (suc i) values) ≡ weigh_arcs f (take i kinds) (take i values) + f kind * x = λ f. weigh_more f kinds values i d within size ∙ (λ k. weigh_arcs f (take i kinds) (take i values) + f (sym read k) * sym value k) in
      let wide : length new.inflow ≡ length old.inflow = ap length more.inflow ∙ length-set old.inflow (head_in old.starts kind - 1) (get_or old.inflow (head_in old.starts kind - 1) 0 + x) in
      let long : length new.outflow ≡ length old.outflow = ap length more.outflow ∙ length-set old.outflow (tail_in old.starts kind - 1) (get_or old.outflow (tail_in old.starts kind - 1) 0 + x) in
      let far : length new.items ≡ length old.items = ap length more.items ∙ item_size old.items kind x in
      record {
        inflow = λ j short.
            let own : get_or old.inflow j 0 ≡ weigh_arcs (λ k. cond (head_in old.starts k == j + 1) 1 0) (take i kinds) (take i values) = held.inflow j (omega (arith, short, wide)) in
            let at = raised_at old.inflow (head_in old.starts kind) x j placed.head in
            let step = next (λ k. cond (head_in old.starts k == j + 1) 1 0) in
            rw (more.inflow, more.starts) (at ∙ ap (λ (n : ℕ). n + cond (head_in old.starts kind == j + 1) 1 0 * x) own ∙ sym step);
        outflow = λ j short.
            let own : get_or old.outflow j 0 ≡ weigh_arcs (λ k. cond (tail_in old.starts k == j + 1) 1 0) (take i kinds) (take i values) = held.outflow j (omega (arith, short, long)) in
            let at = raised_at old.outflow (tail_in old.starts kind) x j at_tail in
            let step = next (λ k. cond (tail_in old.starts k == j + 1) 1 0) in
            rw (more.outflow, more.starts) (at ∙ ap (λ (n : ℕ). n + cond (tail_in old.starts kind == j + 1) 1 0 * x) own ∙ sym step);
        items = λ j short.
            let own : get_or old.items j 0 ≡ weigh_arcs (λ k. cond (carries (j + 1) k) 1 0) (take i kinds) (take i values) = held.items j (omega (arith, short, far)) in
            let at = item_at old.starts old.items kind x j items placed.of_type in
            let step = next (λ k. cond (carries (j + 1) k) 1 0) in
            rw more.items (at ∙ ap (λ (n : ℕ). n + cond (carries (j + 1) kind) 1 0 * x) own ∙ sym step);
      }
