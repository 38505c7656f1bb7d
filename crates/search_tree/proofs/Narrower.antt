-- Prices are worth no less in a part of a box.
use Rattle.std.proofs.Common.{◌≡◌, ℕ, ◌+◌, ◌-◌, ◌≤◌, List, [], ◌∷◌, get_or, set, length, arith, ⊎_elim, ap, sym, subst, ◌∙◌, ℤ, pos, negsuc, ◌≤ℤ◌}
use Rattle.std.proofs.Math.IntN.{pos-*ℤ-pos, negsuc-*ℤ-pos}
use Rattle.std.proofs.Math.Nat.{mul-le-mul_left}
use Rattle.std.proofs.lemmas.Bool.{cases_eq}
use Rattle.std.proofs.lemmas.Int.{ints}
use Rattle.std.proofs.lemmas.List.{get_or-set_same, get_or-set_other}
use Rattle.packing_laws.specs.Instances.{InstanceValue, IsAmong}
use Rattle.flow_graph.specs.Arcs.{TypeValue}
use Rattle.flow_graph.specs.Chords.{high_part, low_part, range_at}
use Rattle.cert_text.specs.declared.lines.ArcPrice.{ArcPrice}
use Rattle.cert_text.specs.declared.lines.Claim.{Claim}
use Rattle.path_prices.specs.Worth.{IsEnough, arcs_worth, bound, empty, least_worth, worth_of}
use Rattle.cert_laws.specs.Rules.{Box, demands_of}
use Rattle.search_tree.specs.declared.places.Shown.{Shown}
use Rattle.search_tree.specs.Laws.{PartsAreShown}
use Rattle.search_tree.specs.Trees.{IsShown}

-- a range is part of another
abbrev IsInside : ℕ × ℕ → ℕ × ℕ → Type 0
IsInside inner outer = (outer.0 ≤ inner.0) × (inner.1 ≤ outer.1)

least_inside : (outer inner : ℕ × ℕ) (price : ℤ) → IsInside inner outer → least_worth outer price ≤ℤ least_worth inner price
least_inside outer inner (pos n) inside =
    let more = mul-le-mul_left n inside.0 in
    let left = pos-*ℤ-pos n outer.0 in
    let right = pos-*ℤ-pos n inner.0 in
    omega (arith, ints, more, left, right)
least_inside outer inner (negsuc n) inside =
    let more = mul-le-mul_left (n + 1) inside.1 in
    let left = negsuc-*ℤ-pos n outer.1 in
    let right = negsuc-*ℤ-pos n inner.1 in
    omega (arith, ints, more, left, right)

worth_inside : (outer inner : Box) (xs : List ArcPrice) → ((a : ℕ) → IsInside (range_at inner a) (range_at outer a)) → arcs_worth outer xs ≤ℤ arcs_worth inner xs
worth_inside outer inner [] inside = omega (arith, ints)
worth_inside outer inner (x ∷ xs) inside =
    let own = least_inside (range_at outer x.arc) (range_at inner x.arc) x.price (inside x.arc) in
    let rest = worth_inside outer inner xs inside in
    omega (arith, ints, own, rest)

enough_inside : (claim : Claim) (scale : ℕ) (least more : ℤ) → least ≤ℤ more → IsEnough claim scale least → IsEnough claim scale more
enough_inside claim scale least more above (empty none positive) = empty none (omega (arith, ints, above, positive))
enough_inside claim scale least more above (bound b is some passes) = bound b is some (omega (arith, ints, above, passes))

shown_inside : (I : InstanceValue) (g : List TypeValue) (outer inner : Box) (s : Shown) → ((a : ℕ) → IsInside (range_at inner a) (range_at outer a)) → IsShown I g outer s → IsShown I g inner s
shown_inside I g outer inner s inside shown =
    let rest = worth_inside outer inner s.prices.arcs inside in
    let more : worth_of (demands_of I) outer s.prices ≤ℤ worth_of (demands_of I) inner s.prices = omega (arith, ints, rest) in
    record {
      prices = shown.prices;
      items = shown.items;
      arcs = shown.arcs;
      claim = shown.claim;
      closes = record { gains = shown.closes.gains; strong = enough_inside s.claim s.prices.scale (worth_of (demands_of I) outer s.prices) (worth_of (demands_of I) inner s.prices) more shown.closes.strong };
    }

-- a box in which one range was replaced by a part of it
set_inside : (box : Box) (a : ℕ) (range : ℕ × ℕ) → IsAmong a (length box) → IsInside range (range_at box a) → (b : ℕ) → IsInside (range_at (set box (a - 1) range) b) (range_at box b)
set_inside box a range among inside b = ⊎_elim
    (λ same.
    let there : range_at (set box (a - 1) range) b ≡ range = ap (λ (k : ℕ). get_or (set box (a - 1) range) k (0, 0)) same ∙ get_or-set_same box (a - 1) range (0, 0) (omega (arith, among.0, among.1)) in
    let outer : range_at box a ≡ range_at box b = ap (λ (k : ℕ). get_or box k (0, 0)) (sym same) in
    subst (λ (r : ℕ × ℕ). IsInside r (range_at box b)) (sym there) (subst (λ (r : ℕ × ℕ). IsInside range r) outer inside))
    (λ apart.
    let there : range_at (set box (a - 1) range) b ≡ range_at box b = get_or-set_other box (a - 1) (b - 1) range (0, 0) apart in
    subst (λ (r : ℕ × ℕ). IsInside r (range_at box b)) (sym there) (omega arith, omega arith))
    (cases_eq (b - 1) (a - 1))

pub parts_are_shown : PartsAreShown
parts_are_shown = record {
  low = λ I g box s a k ordered genuine shown.
      let high = genuine.high in
      shown_inside I g box (low_part box a k) s (set_inside box a ((range_at box a).0, k) genuine.arc (omega arith, omega (arith, high))) shown;
  high = λ I g box s a k ordered genuine shown.
      let low = genuine.low in
      shown_inside I g box (high_part box a k) s (set_inside box a (k + 1, (range_at box a).1) genuine.arc (omega (arith, low), omega arith)) shown;
}
